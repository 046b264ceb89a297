-- `flags_formed` meets its contract. Assumes nothing.
use Prim.Native.Nat.{ℕ, ◌+◌}
use mathlib.Core.Path.{ap, ◌∙◌}
use native.Mathlib.Omega.{arith}
use Rattle.fields.specs.Field.{field}
use Rattle.image.specs.Layout.{connected_in}
use Rattle.image.proofs.Scanned.{flags_none, flag_more, flags_all}
use Rattle.image.proofs.formed.flags_formed.Goals as goal

pub loop-k-init : goal.loop-k-init
loop-k-init c = flags_none _ _ _ c.get-running.ensures c.get-remembers.ensures

pub loop-k-preserved : goal.loop-k-preserved
loop-k-preserved c = flag_more _ _ _ _ (c.get.ensures ∙ ap (λ (p : ℕ). field c.args.s.now (p + connected_in) 1) c.node_at.ensures) c.loop-k.invariant

pub returns : goal.returns
returns c = flags_all _ c.loop-k.k _ _ c.get-state.ensures (omega arith) c.loop-k.invariant

-- `store_connections` meets its contract. Place and node go by numbers: what is written otherwise and is the same is proved. Assumes nothing.
use Prim.Native.Nat.{ℕ}
use mathlib.Core.Path.{ap₂, ◌∙◌}
use native.Mathlib.Omega.{arith}
use lib.ListN.{get_or}
use Rattle.machine.specs.State.{never}
use Rattle.image.specs.Records.{put_node_at}
use Rattle.image.proofs.Chain.{no_node, one_node, all_nodes}
use Rattle.image.proofs.nodes.store_connections.Goals as goal

pub loop-k-init : goal.loop-k-init
loop-k-init c = no_node _ _

pub loop-k-preserved : goal.loop-k-preserved
loop-k-preserved c = one_node _ _ _ _ _ c.loop-k.invariant (c.store_node.ensures ∙ ap₂ (λ (p j : ℕ). put_node_at c.loop-k.s p (get_or c.args.xs j never)) (omega (arith, c.node_at.ensures, c.loop-k-test.true)) (omega arith))

pub returns : goal.returns
returns c = all_nodes _ _ _ _ c.loop-k.invariant (omega arith)

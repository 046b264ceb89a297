-- `load_connection` meets its contract. Assumes nothing.
use Prim.Native.Nat.{ℕ}
use mathlib.Core.Path.{ap, ◌∙◌}
use native.Mathlib.Omega.{arith}
use Rattle.image.specs.Records.{to_node}
use Rattle.image.proofs.Chain.{node_loaded}
use borrow.Author.Rules.{rules}
use Rattle.image.proofs.nodes.load_connection.Goals as goal

pub returns : goal.returns
returns c = node_loaded _ _ _ (search rules) (search rules) (c.load_node.ensures ∙ ap (λ (p : ℕ). to_node c.args.s.now p) (omega (arith, c.node_at.ensures)))

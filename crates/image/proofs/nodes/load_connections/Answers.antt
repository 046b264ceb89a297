-- `load_connections` meets its contract. Assumes nothing.
use Prim.Native.Nat.{ℕ, ◌+◌, ◌*◌}
use Rattle.std.proofs.Common.{rules}
use Rattle.image.specs.Layout.{connections_at, node_size}
use Rattle.image.specs.Records.{to_node}
use Rattle.image.proofs.Chain.{made, nodes_loaded}
use Rattle.image.proofs.nodes.load_connections.Goals as goal

pub returns : goal.returns
returns c =
    nodes_loaded _ _ c.from_fn.ensures.items.long
    (made _ _ _ (λ (k : ℕ). to_node c.args.s.now (connections_at + node_size * k)) (λ i y q k. search rules) 8 c.from_fn.ensures.items)

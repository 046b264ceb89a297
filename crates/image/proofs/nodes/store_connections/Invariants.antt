-- `store_connections` meets its contract: the connections before stand in their places. Assumes nothing.
use mathlib.Core.Path.{◌≡◌}
use Rattle.image.proofs.Chain.{stored_nodes}
use Rattle.image.proofs.nodes.store_connections.Given as goal

abbrev pub invariant-loop-k : goal.invariant-loop-k
invariant-loop-k l = l.s ≡ stored_nodes l.initial.s l.fn.xs l.k

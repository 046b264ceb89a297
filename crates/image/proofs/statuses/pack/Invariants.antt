-- `pack` meets its contract: the number is that of the statuses before. Assumes nothing.
use mathlib.Core.Path.{◌≡◌}
use Rattle.image.proofs.Packed.{packed_first}
use Rattle.image.proofs.statuses.pack.Given as goal

abbrev pub invariant-loop-status : goal.invariant-loop-status
invariant-loop-status l = l.packed ≡ packed_first l.status-items l.status-index

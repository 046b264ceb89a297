-- `mask_of` meets its contract. Assumes nothing.
use Rattle.controller.proofs.Tallied.{Masking}
use Rattle.controller.proofs.tallies.mask_of.Given as goal

abbrev pub invariant-loop-k : goal.invariant-loop-k
invariant-loop-k l = Masking l.s l.k l.mask

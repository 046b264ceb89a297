-- `counts_of` meets its contract. Assumes nothing.
use Rattle.controller.proofs.Tallied.{Counting}
use Rattle.controller.proofs.tallies.counts_of.Given as goal

abbrev pub invariant-loop-i : goal.invariant-loop-i
invariant-loop-i l = Counting l.s l.a l.i

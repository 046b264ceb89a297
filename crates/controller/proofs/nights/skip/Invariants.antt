-- `skip` meets its contract. Assumes nothing.
use Rattle.controller.specs.Nights.{Quiet}
use Rattle.controller.proofs.nights.skip.Given as goal

abbrev pub invariant-loop-i : goal.invariant-loop-i
invariant-loop-i l = Quiet l.s l.i

-- `find` meets its contract. Assumes nothing.
use Rattle.controller.proofs.Turned.{Scan}
use Rattle.controller.proofs.nights.find.Given as goal

abbrev pub invariant-loop-i : goal.invariant-loop-i
invariant-loop-i l = Scan l.s l.node l.outcomes l.b l.n l.i l.lacks

-- `lowest_going` meets its contract. Assumes nothing.
use Rattle.controller.proofs.Explained.{Among}
use Rattle.controller.proofs.reasons.lowest_going.Given as goal

abbrev pub invariant-loop-i : goal.invariant-loop-i
invariant-loop-i l = Among l.s l.b l.n l.other l.i

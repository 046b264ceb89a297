-- `list_down` meets its contract: the number falls at each hop. Assumes nothing.
use Rattle.controller.proofs.Walked.{Going}
use Rattle.controller.proofs.folding.list_down.Given as goal

abbrev pub invariant-loop-i : goal.invariant-loop-i
invariant-loop-i l = Going l.s l.b l.v l.initial.room l.room l.i l.n

abbrev pub decreases-loop-i : goal.decreases-loop-i
decreases-loop-i l = l.i

-- `down_to` meets its contract: the number falls at each hop. Assumes nothing.
use Rattle.controller.proofs.Folded.{Down}
use Rattle.controller.proofs.folding.down_to.Given as goal

abbrev pub invariant-loop-i : goal.invariant-loop-i
invariant-loop-i l = Down l.s l.b l.to l.v l.i

abbrev pub decreases-loop-i : goal.decreases-loop-i
decreases-loop-i l = l.i

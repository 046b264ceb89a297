-- `links` meets its contract: the number falls at each turn. Assumes nothing.
use Rattle.controller.proofs.Walked.{Linking}
use Rattle.controller.proofs.walking.links.Given as goal

abbrev pub invariant-loop-i : goal.invariant-loop-i
invariant-loop-i l = Linking l.s l.v l.chain l.i

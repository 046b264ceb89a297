-- `lay_listed` meets its contract: the place in the list falls. Assumes nothing.
use Rattle.controller.proofs.Folded.{Laying}
use Rattle.controller.proofs.folding.lay_listed.Given as goal

abbrev pub invariant-loop-k : goal.invariant-loop-k
invariant-loop-k l = Laying l.initial.s l.to l.v l.n l.s l.k

-- `put_list` meets its contract: so many numbers are still to come. Assumes nothing.
use Rattle.controller.proofs.Walked.{Putting}
use Rattle.controller.proofs.walking.put_list.Given as goal

abbrev pub invariant-loop-k : goal.invariant-loop-k
invariant-loop-k l = Putting l.initial.room l.list l.n l.room l.k

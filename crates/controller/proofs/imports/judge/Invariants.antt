-- `judge` meets its contract. Assumes nothing.
use Rattle.controller.proofs.Importing.{Judging}
use Rattle.controller.proofs.imports.judge.Given as goal

abbrev pub invariant-loop-k : goal.invariant-loop-k
invariant-loop-k l = Judging l.list l.k l.changes l.depth l.live

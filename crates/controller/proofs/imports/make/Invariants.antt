-- `make` meets its contract. Assumes nothing.
use Rattle.controller.proofs.Importing.{Made}
use Rattle.controller.proofs.imports.make.Given as goal

abbrev pub invariant-loop-k : goal.invariant-loop-k
invariant-loop-k l = Made l.list l.k l.s

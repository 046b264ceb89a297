-- `read_all` feeds what the reads bring. Assumes nothing.
use Rattle.stepper.specs.Runs.{ReadsAll}
use Rattle.stepper.proofs.read_all.Given as goal

abbrev pub invariant-loop : goal.invariant-loop
invariant-loop g l = ReadsAll l.initial.image l.initial.room l.session l.image l.room

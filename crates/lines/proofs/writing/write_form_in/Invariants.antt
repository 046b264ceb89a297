-- `write_form_in` fills in a form letter by letter. Assumes nothing.
use Rattle.lines.proofs.Putting.{Filling}
use Rattle.lines.proofs.writing.write_form_in.Given as goal

abbrev pub invariant-loop-c : goal.invariant-loop-c
invariant-loop-c l = Filling l.initial.out l.form l.numbers l.at l.c-index l.k l.out

-- `end_last`: a line that has a byte ends, with no newline. Assumes nothing.
use Rattle.stepper.proofs.Fed.{last_line, no_line}
use Rattle.stepper.proofs.end_last.Goals as goal

pub returns-then-s : goal.returns-then-s
returns-then-s c = last_line _ _ _ c.args.s _ _ _ _
    c.if-s.true
    c.end_line.ensures.0 c.end_line.ensures.1

pub returns : goal.returns
returns c = no_line _ _ _ c.args.s c.if-s.false

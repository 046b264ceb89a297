-- `take_byte`: a newline ends the line, any other byte is pushed. Assumes nothing.
use Rattle.stepper.proofs.Fed.{newline, other}
use Rattle.stepper.proofs.take_byte.Goals as goal

pub returns-then-b-eq10 : goal.returns-then-b-eq10
returns-then-b-eq10 c = newline _ _ _
    c.args.s _ _ _ _ _ _
    c.if-b-eq10.true
    c.end_line-used.ensures.0 c.end_line-used.ensures.1
    c.fresh-line.ensures

pub returns : goal.returns
returns c = other _ _ _ c.args.s _ _ _ c.if-b-eq10.false c.push-line.ensures.0
    c.push-line.ensures.1

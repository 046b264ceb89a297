-- `fresh`: the first line's is taken, a later one's is refused. Assumes nothing.
use mathlib.Core.Path.{ap}
use Rattle.stepper.specs.declared.Answer.TheVariants.{Replied}
use Rattle.stepper.proofs.Answered.{taken, late}
use Rattle.stepper.proofs.fresh.Goals as goal

pub returns-then-first : goal.returns-then-first
returns-then-first c = taken _ _ _ _ _ _ c.if-first.true (ap Replied c.fresh.ensures.0) c.fresh.ensures.1

pub returns : goal.returns
returns c = late _ _ _ _ _ c.if-first.false c.of.ensures

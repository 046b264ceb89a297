-- `quiet_unless` meets its contract. Assumes nothing.
use Rattle.image.specs.View.{view}
use mathlib.Core.Bool.{true}
use Rattle.controller.proofs.Explained.{quiet_asked, quiet_unasked}
use Rattle.controller.proofs.reasons.quiet_unless.Goals as goal

pub returns-then-complete-over : goal.returns-then-complete-over
returns-then-complete-over c = quiet_asked c.args.x c.args.over _ (view c.args.s.now) _ c.complete-complete.ensures c.if-complete-over.true c.settled.ensures

pub returns : goal.returns
returns c = quiet_unasked c.args.x c.args.over _ (view c.args.s.now) true c.complete-complete.ensures c.if-complete-over.false

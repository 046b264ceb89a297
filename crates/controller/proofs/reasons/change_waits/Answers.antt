-- `change_waits` meets its contract. Assumes nothing.
use Rattle.controller.proofs.Explained.{change_over_1, change_left}
use Rattle.controller.proofs.reasons.change_waits.Goals as goal

pub returns-then-change_over : goal.returns-then-change_over
returns-then-change_over c = change_over_1 c.args.t c.args.a.0 c.args.quiet _ _ c.change_over.ensures c.if-change_over.true c.gives.ensures

pub returns : goal.returns
returns c = change_left c.args.t c.args.a.0 c.args.quiet _ _ c.change_over.ensures c.if-change_over.false c.unapplied.ensures

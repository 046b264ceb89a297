-- `rollback_waits` meets its contract. Assumes nothing.
use Rattle.controller.proofs.Explained.{rollback_over_1, rollback_none, rollback_left}
use Rattle.controller.proofs.reasons.rollback_waits.Goals as goal

pub returns-then-rollback_over : goal.returns-then-rollback_over
returns-then-rollback_over c = rollback_over_1 c.args.t c.args.a.0 c.args.quiet _ _ c.rollback_over.ensures c.if-rollback_over.true c.gives.ensures

pub returns-then-code-eq0 : goal.returns-then-code-eq0
returns-then-code-eq0 c = rollback_none c.args.t c.args.a.0 c.args.quiet _ _ c.rollback_over.ensures c.if-rollback_over.false _ c.code.ensures c.if-code-eq0.true c.gives-then-code-eq0.ensures

pub returns : goal.returns
returns c = rollback_left c.args.t c.args.a.0 c.args.quiet _ _ c.rollback_over.ensures c.if-rollback_over.false _ c.code.ensures c.if-code-eq0.false c.unapplied.ensures

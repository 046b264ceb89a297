-- `settled_at` meets its contract. Assumes nothing.
use Rattle.controller.proofs.Turned.{asked_settled, asked_not}
use Rattle.controller.proofs.nights.settled_at.Goals as goal

pub returns-then-change-rollback : goal.returns-then-change-rollback
returns-then-change-rollback c = asked_settled _ c.args.t _ _ _ c.is_next-change.ensures c.is_next-rollback.ensures _ c.if-change-rollback.true c.settled.ensures

pub returns : goal.returns
returns c = asked_not _ c.args.t _ _ _ c.is_next-change.ensures c.is_next-rollback.ensures c.if-change-rollback.false

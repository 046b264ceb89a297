-- `plan_at` meets its contract. Assumes nothing.
use Rattle.controller.proofs.Turned.{by_1, by_2, by_3, by_4}
use Rattle.controller.proofs.nights.plan_at.Goals as goal

pub returns-then-job-eq1 : goal.returns-then-job-eq1
returns-then-job-eq1 c = by_1 _ _ _ _ _ _ c.args.taken _ _ _ c.if-job-eq1.true c.present_at-now.ensures c.commit_change.ensures

pub returns-then-job-eq2 : goal.returns-then-job-eq2
returns-then-job-eq2 c = by_2 c.args.job c.args.t c.args.i c.args.x c.args.settled c.args.valid c.args.taken _ c.apply_change.result c.if-job-eq1.false c.if-job-eq2.true c.apply_change.ensures

pub returns-then-job-eq3 : goal.returns-then-job-eq3
returns-then-job-eq3 c = by_3 c.args.job c.args.t c.args.i c.args.x c.args.settled c.args.valid c.args.taken _ c.commit_rollback.result c.if-job-eq1.false c.if-job-eq2.false c.if-job-eq3.true c.commit_rollback.ensures

pub returns : goal.returns
returns c = by_4 c.args.job c.args.t c.args.i c.args.x c.args.settled c.args.valid c.args.taken _ c.apply_rollback.result c.if-job-eq1.false c.if-job-eq2.false c.if-job-eq3.false c.apply_rollback.ensures

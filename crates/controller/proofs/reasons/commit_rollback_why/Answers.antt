-- `commit_rollback_why` meets its contract. Assumes nothing.
use Rattle.controller.proofs.Explained.{answers_11, answers_15}
use Rattle.image.specs.View.{view}
use Rattle.controller.proofs.reasons.commit_rollback_why.Goals as goal

pub returns-then-p-eq11 : goal.returns-then-p-eq11
returns-then-p-eq11 c = answers_11 (view c.args.s.now) _ _ 3 c.args.number _ c.job3-p.ensures c.if-p-eq11.true c.commit_rollback_told.ensures

pub returns : goal.returns
returns c = answers_15 (view c.args.s.now) _ _ 3 c.args.number _ c.job3-p.ensures c.if-p-eq11.false c.refuses.ensures

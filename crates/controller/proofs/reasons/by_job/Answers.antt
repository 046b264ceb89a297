-- `by_job` meets its contract. Assumes nothing.
use Rattle.controller.proofs.Explained.{of_1, of_2, of_3, of_4}
use Rattle.controller.proofs.reasons.by_job.Goals as goal

pub returns-then-job-eq1 : goal.returns-then-job-eq1
returns-then-job-eq1 c = of_1 _ _ _ _ _ c.if-job-eq1.true c.commit_change_why.ensures

pub returns-then-job-eq2 : goal.returns-then-job-eq2
returns-then-job-eq2 c = of_2 _ _ _ _ _ c.if-job-eq1.false c.if-job-eq2.true c.apply_change_why.ensures

pub returns-then-job-eq3 : goal.returns-then-job-eq3
returns-then-job-eq3 c = of_3 _ _ _ _ _ c.if-job-eq1.false c.if-job-eq2.false c.if-job-eq3.true c.commit_rollback_why.ensures

pub returns : goal.returns
returns c = of_4 _ _ _ _ _ c.if-job-eq1.false c.if-job-eq2.false c.if-job-eq3.false c.requires.1.1 c.apply_rollback_why.ensures

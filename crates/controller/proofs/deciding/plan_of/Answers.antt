-- `plan_of` meets its contract. Assumes nothing.
use Rattle.controller.proofs.Decided.{plan_1, plan_2, plan_3, plan_4}
use Rattle.controller.proofs.deciding.plan_of.Goals as goal

pub returns-then-job-eq1 : goal.returns-then-job-eq1
returns-then-job-eq1 c = plan_1 _ _ _ _ _ _ c.if-job-eq1.true c.job1.ensures

pub returns-then-job-eq2 : goal.returns-then-job-eq2
returns-then-job-eq2 c = plan_2 _ _ _ _ _ _ c.if-job-eq1.false c.if-job-eq2.true c.job2.ensures

pub returns-then-job-eq3 : goal.returns-then-job-eq3
returns-then-job-eq3 c = plan_3 _ _ _ _ _ _ c.if-job-eq1.false c.if-job-eq2.false c.if-job-eq3.true c.job3.ensures

pub returns : goal.returns
returns c = plan_4 _ _ _ _ _ _ c.if-job-eq1.false c.if-job-eq2.false c.if-job-eq3.false c.job4.ensures

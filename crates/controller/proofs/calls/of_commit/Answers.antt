-- `of_commit` meets its contract. Assumes nothing.
use borrow.Author.Tests.{eq-eqb, ne_eqb}
use Rattle.controller.proofs.calls.of_commit.Goals as goal

pub returns-then-job-eq1 : goal.returns-then-job-eq1
returns-then-job-eq1 c = simp (eq-eqb _ _ c.if-job-eq1.true)

pub returns : goal.returns
returns c = simp (ne_eqb _ _ c.if-job-eq1.false)

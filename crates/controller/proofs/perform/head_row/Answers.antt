-- `head_row` meets its contract. Assumes nothing.
use Rattle.controller.proofs.Performed.{row_if}
use Rattle.controller.proofs.perform.head_row.Goals as goal

pub returns-then-commits : goal.returns-then-commits
returns-then-commits c = row_if _ _ _ _ _ _ c.if-commits.true c.commit_row.ensures

pub returns : goal.returns
returns c = row_if _ _ _ _ _ _ c.if-commits.false c.apply_row.ensures

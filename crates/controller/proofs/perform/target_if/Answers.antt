-- `target_if` meets its contract. Assumes nothing.
use Rattle.controller.proofs.Performed.{row_comes, row_stays_out}
use Rattle.controller.proofs.perform.target_if.Goals as goal

pub returns-then-comes : goal.returns-then-comes
returns-then-comes c = row_comes _ _ _ _ c.if-comes.true c.target_row.ensures

pub returns-else-comes : goal.returns-else-comes
returns-else-comes c = row_stays_out _ _ _ c.if-comes.false

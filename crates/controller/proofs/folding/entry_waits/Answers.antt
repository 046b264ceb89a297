-- `entry_waits` meets its contract. Assumes nothing.

use Rattle.controller.proofs.folding.entry_waits.Goals as goal

pub returns : goal.returns
returns c = simp (c.side_waits-change.ensures, c.side_waits-rollback.ensures, c.get.ensures)

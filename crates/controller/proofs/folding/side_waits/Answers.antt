-- `side_waits` meets its contract. Assumes nothing.

use Rattle.controller.proofs.folding.side_waits.Goals as goal

pub returns : goal.returns
returns c = simp (c.follows-carries.ensures, c.pending-pending.ensures)

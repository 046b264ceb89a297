-- `apply_finished` meets its contract. Assumes nothing.

use Rattle.controller.proofs.reasons.apply_finished.Goals as goal

pub returns : goal.returns
returns c = simp (c.follows-next.ensures, c.complete-complete.ensures, c.done-over.ensures)

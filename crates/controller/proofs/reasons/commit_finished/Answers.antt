-- `commit_finished` meets its contract. Assumes nothing.

use Rattle.controller.proofs.reasons.commit_finished.Goals as goal

pub returns : goal.returns
returns c = simp (c.follows-next.ensures, c.of.ensures, c.code-code.ensures, c.done-over.ensures)

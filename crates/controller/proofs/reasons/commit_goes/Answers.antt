-- `commit_goes` meets its contract. Assumes nothing.

use Rattle.controller.proofs.reasons.commit_goes.Goals as goal

pub returns : goal.returns
returns c = simp (c.code-change.ensures, c.code-rollback.ensures)

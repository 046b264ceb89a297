-- `no_head` meets its contract. Assumes nothing.

use Rattle.controller.proofs.reads.no_head.Goals as goal

pub returns : goal.returns
returns c = simp (c.of-index.ensures, c.of-target.ensures, c.of-revision.ensures, c.of-ordinal.ensures)

-- `job2` meets its contract. Assumes nothing.
use Rattle.controller.proofs.Decided.{job2_shown}
use Rattle.controller.proofs.deciding.job2.Goals as goal

pub returns : goal.returns
returns c = job2_shown _ _ c.requires.0 _ c.load_entry-t.ensures _ _ c.of.ensures _ _ _ _ _ c.load_head-h.ensures c.line-open.ensures c.settled_for-quiet.ensures c.apply_change.ensures

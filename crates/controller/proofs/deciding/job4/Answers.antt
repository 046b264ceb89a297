-- `job4` meets its contract. Assumes nothing.
use Rattle.controller.proofs.Decided.{job4_shown}
use Rattle.controller.proofs.deciding.job4.Goals as goal

pub returns : goal.returns
returns c = job4_shown _ _ c.requires.0 _ c.load_entry-t.ensures _ _ c.of.ensures _ _ _ _ _ c.load_head-h.ensures c.line-open.ensures c.settled_for-quiet.ensures c.apply_rollback.ensures

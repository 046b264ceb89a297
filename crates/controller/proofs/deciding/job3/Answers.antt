-- `job3` meets its contract. Assumes nothing.
use Rattle.controller.proofs.Decided.{job3_shown}
use Rattle.controller.proofs.deciding.job3.Goals as goal

pub returns : goal.returns
returns c = job3_shown _ _ c.requires _ c.load_entry-t.ensures _ _ c.of.ensures _ _ c.load_head-h.ensures c.rest-quiet.ensures c.commit_rollback.ensures

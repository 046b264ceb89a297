-- `job1` meets its contract. Assumes nothing.
use Rattle.controller.proofs.Decided.{job1_shown}
use Rattle.controller.proofs.deciding.job1.Goals as goal

pub returns : goal.returns
returns c = job1_shown _ _ c.requires _ c.load_entry-t.ensures _ _ c.of.ensures _ _ _ _ _ c.load_head-h.ensures c.load_change-change.ensures c.rest-quiet.ensures c.present-now.ensures c.commit_change.ensures

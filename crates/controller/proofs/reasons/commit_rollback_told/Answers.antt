-- `commit_rollback_told` meets its contract. Assumes nothing.
use Rattle.controller.proofs.Explained.{rollback_finished, rollback_unasked, rollback_flight}
use Rattle.controller.proofs.reasons.commit_rollback_told.Goals as goal

pub returns-then-done : goal.returns-then-done
returns-then-done c = rollback_finished _ _ c.requires _ c.load_entry-t.ensures _ _ c.done.ensures c.if-done.true c.gives.ensures

pub returns-then-code-eq0 : goal.returns-then-code-eq0
returns-then-code-eq0 c = rollback_unasked _ _ c.requires _ c.load_entry-t.ensures _ _ c.done.ensures c.if-done.false _ c.code.ensures c.if-code-eq0.true c.gives-then-code-eq0.ensures

pub returns : goal.returns
returns c = rollback_flight _ _ c.requires _ c.load_entry-t.ensures _ _ c.done.ensures c.if-done.false _ c.code.ensures _ _ _ c.if-code-eq0.false c.load_head-h.ensures c.get-v.ensures c.on_top.ensures c.flight_or.ensures

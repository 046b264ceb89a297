-- `waits` meets its contract. Assumes nothing.
use Rattle.controller.proofs.Folded.{waits_one, waits_none}
use Rattle.controller.proofs.folding.waits.Goals as goal

pub returns-then-carries_next : goal.returns-then-carries_next
returns-then-carries_next c = waits_one _ _ _ _ _ _ c.load_entry-t.ensures c.entry_waits.ensures

pub returns : goal.returns
returns c = waits_none _ _ _ _ _ c.carries_next.ensures c.if-carries_next.false

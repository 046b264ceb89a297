-- `settled` meets its contract. Assumes nothing.
use Rattle.controller.proofs.Decided.{settled_none, settled_all}
use Rattle.controller.proofs.deciding.settled.Goals as goal

pub returns-then-get-eq0 : goal.returns-then-get-eq0
returns-then-get-eq0 c = settled_none _ _ _ c.load_head-h.ensures c.get.ensures c.if-get-eq0.true

pub returns : goal.returns
returns c = settled_all _ _ _ _ c.load_head-h.ensures c.get.ensures c.if-get-eq0.false c.all_settled.ensures

-- `rest` meets its contract. Assumes nothing.
use Rattle.controller.proofs.Decided.{rest_folded, rest_some}
use Rattle.controller.proofs.deciding.rest.Goals as goal

pub returns-then-i-b : goal.returns-then-i-b
returns-then-i-b c = rest_folded _ _ _ _ c.load_head-h.ensures c.get-i.ensures c.last_fold-b.ensures _ c.if-i-b.true c.at_rest.ensures

pub returns : goal.returns
returns c = rest_some _ _ _ _ c.load_head-h.ensures c.get-i.ensures c.last_fold-b.ensures _ _ c.requires c.if-i-b.false c.load_entry-t.ensures c.at_rest-2.ensures

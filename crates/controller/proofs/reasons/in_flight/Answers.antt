-- `in_flight` meets its contract. Assumes nothing.
use Rattle.controller.proofs.Explained.{flies_target, flies_lowest}
use Rattle.controller.proofs.Decided.{size, fold_low}
use Rattle.controller.proofs.reasons.in_flight.Goals as goal

pub returns-then-change-target : goal.returns-then-change-target
returns-then-change-target c = flies_target _ _ _ _ _ c.load_change-c.ensures c.get-change.ensures c.load_head-h.ensures c.get-target.ensures c.if-change-target.true

pub lowest_going-requires : goal.lowest_going-requires
lowest_going-requires c = (fold_low _ _ _ c.requires c.last_fold-b.ensures c.last_number-n.ensures, size _ c.requires)

pub returns : goal.returns
returns c = flies_lowest _ _ _ _ _ c.load_change-c.ensures c.get-change.ensures c.load_head-h.ensures c.get-target.ensures _ _ _ _ c.if-change-target.false c.last_fold-b.ensures c.last_number-n.ensures c.get-v.ensures c.lowest_going.ensures

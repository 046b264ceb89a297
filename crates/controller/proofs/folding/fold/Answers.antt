-- `fold` meets its contract. Assumes nothing.
use Rattle.controller.proofs.Folded.{fold_5, fold_17, fold_ring, folded}
use Rattle.controller.proofs.Walked.{revision_chained}
use Rattle.controller.proofs.folding.fold.Goals as goal

pub down_to-first-requires : goal.down_to-first-requires
down_to-first-requires c = (revision_chained _ c.requires _ _ _ c.load_head-h.ensures c.get-v.ensures c.last_fold-b.ensures, (fold_ring _ c.requires _ _ _ c.last_number-n.ensures c.last_fold-b.ensures _ c.is_kept.ensures c.if-is_kept.true).1.0)

pub returns-then-may_fold : goal.returns-then-may_fold
returns-then-may_fold c = folded _ c.requires _ _ _ c.last_number-n.ensures c.last_fold-b.ensures _ c.is_kept.ensures _ c.if-is_kept.true _ c.may_fold.ensures c.if-may_fold.true _ _ c.load_head-h.ensures c.get-v.ensures _ c.down_to-first.ensures _ _ _ c.lay_base.ensures c.of.ensures c.store_fold.ensures c.of-then-may_fold.ensures

pub returns-then-is_kept : goal.returns-then-is_kept
returns-then-is_kept c = fold_17 _ c.requires _ _ _ c.last_number-n.ensures c.last_fold-b.ensures _ c.is_kept.ensures _ c.if-is_kept.true _ c.may_fold.ensures c.if-may_fold.false c.of-then-is_kept.ensures

pub returns : goal.returns
returns c = fold_5 _ c.requires _ _ _ c.last_number-n.ensures c.last_fold-b.ensures _ c.is_kept.ensures _ c.if-is_kept.false c.of-2.ensures

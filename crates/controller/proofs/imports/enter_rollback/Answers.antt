-- `enter_rollback` meets its contract. Assumes nothing.
use Rattle.controller.proofs.Entered.{undo_here, undo_row}
use Rattle.controller.proofs.imports.enter_rollback.Goals as goal

pub load_entry-t-requires : goal.load_entry-t-requires
load_entry-t-requires c = undo_here _ c.requires _ c.load_head-h.ensures _ c.get-number.ensures

pub store_entry-requires : goal.store_entry-requires
store_entry-requires c = undo_here _ c.requires _ c.load_head-h.ensures _ c.get-number.ensures

pub returns : goal.returns
returns c = undo_row c.args.s.now c.requires _ c.load_head-h.ensures _ c.get-number.ensures _ c.load_entry-t.ensures _ c.next-ordinal.ensures _ c.undone.ensures _ _ _ c.store_entry.ensures c.rests.ensures c.lay_committed.ensures

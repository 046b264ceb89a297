-- `transaction` meets its contract. Assumes nothing.
use Rattle.controller.proofs.Shows.{unread, shows_by, refuses_by, no_entry_field, no_entry, folded_entry, entry_field_is}
use Rattle.controller.proofs.Answered.{told, this_one}
use Rattle.controller.proofs.reads.transaction.Goals as goal

pub returns-then-b-number : goal.returns-then-b-number
returns-then-b-number c = shows_by _ _ _ _ c.well_formed-2.ensures c.if-well_formed.true _ c.shows.ensures (entry_field_is _ _ _ c.is_field.ensures _ (told _ _ c.well_formed-2.ensures c.if-well_formed.true) c.if-is_field.true _ _ c.last_number-n.ensures c.in_log.ensures c.if-in_log.true _ c.last_fold-b.ensures c.if-b-number.true (this_one _ (told _ _ c.well_formed-2.ensures c.if-well_formed.true) _ _ _ c.last_number-n.ensures c.in_log.ensures c.if-in_log.true _ c.last_fold-b.ensures c.if-b-number.true) _ _ c.load_entry.ensures c.entry_numbers-a.ensures)

pub returns-then-in_log : goal.returns-then-in_log
returns-then-in_log c = refuses_by _ _ _ _ c.well_formed-2.ensures c.if-well_formed.true 18 c.refuses.ensures (folded_entry _ _ _ c.is_field.ensures _ (told _ _ c.well_formed-2.ensures c.if-well_formed.true) c.if-is_field.true _ _ c.last_number-n.ensures c.in_log.ensures c.if-in_log.true _ c.last_fold-b.ensures c.if-b-number.false)

pub returns-then-is_field : goal.returns-then-is_field
returns-then-is_field c = refuses_by _ _ _ _ c.well_formed-2.ensures c.if-well_formed.true 5 c.refuses-then-is_field.ensures (no_entry _ _ _ c.is_field.ensures _ (told _ _ c.well_formed-2.ensures c.if-well_formed.true) c.if-is_field.true _ _ c.last_number-n.ensures c.in_log.ensures c.if-in_log.false)

pub returns-then-well_formed : goal.returns-then-well_formed
returns-then-well_formed c = refuses_by _ _ _ _ c.well_formed-2.ensures c.if-well_formed.true 2 c.refuses-then-well_formed.ensures (no_entry_field _ _ _ c.is_field.ensures _ c.if-is_field.false)

pub returns : goal.returns
returns c = unread _ _ _ _ c.well_formed-2.ensures c.if-well_formed.false c.refuses-2.ensures

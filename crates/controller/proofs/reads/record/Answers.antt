-- `record` meets its contract. Assumes nothing.
use Rattle.controller.proofs.Shows.{unread, shows_by, refuses_by, no_state_field, state_field_is}
use Rattle.controller.proofs.reads.record.Goals as goal

pub returns-then-is_field : goal.returns-then-is_field
returns-then-is_field c = shows_by _ _ _ _ c.well_formed-2.ensures c.if-well_formed.true _ c.shows.ensures (state_field_is _ _ c.is_field.ensures _ _ c.if-is_field.true c.state_numbers-a.ensures)

pub returns-then-well_formed : goal.returns-then-well_formed
returns-then-well_formed c = refuses_by _ _ _ _ c.well_formed-2.ensures c.if-well_formed.true 2 c.refuses.ensures (no_state_field _ _ c.is_field.ensures _ c.if-is_field.false)

pub returns : goal.returns
returns c = unread _ _ _ _ c.well_formed-2.ensures c.if-well_formed.false c.refuses-2.ensures

-- `value` meets its contract. Assumes nothing.
use Rattle.controller.proofs.Shows.{unread, shows_by, refuses_by, no_value, value_is}
use Rattle.image.proofs.Tables.{table_room}
use Rattle.controller.proofs.Answered.{told}
use Rattle.controller.proofs.Decided.{size}
use Rattle.controller.proofs.reads.value.Goals as goal

pub load_value-v-requires : goal.load_value-v-requires
load_value-v-requires c = table_room _ _ _ c.table_place-at.ensures (size _ (told _ _ c.well_formed-2.ensures c.if-well_formed.true))

pub returns-then-is_value : goal.returns-then-is_value
returns-then-is_value c = shows_by _ _ _ _ c.well_formed-2.ensures c.if-well_formed.true _ c.shows.ensures (value_is _ _ _ c.is_value.ensures _ _ _ _ c.if-is_value.true c.table_place-at.ensures c.load_value-v.ensures c.from.ensures)

pub returns-then-well_formed : goal.returns-then-well_formed
returns-then-well_formed c = refuses_by _ _ _ _ c.well_formed-2.ensures c.if-well_formed.true 2 c.refuses.ensures (no_value _ _ _ c.is_value.ensures _ c.if-is_value.false)

pub returns : goal.returns
returns c = unread _ _ _ _ c.well_formed-2.ensures c.if-well_formed.false c.refuses-2.ensures

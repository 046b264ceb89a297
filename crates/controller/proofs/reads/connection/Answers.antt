-- `connection` meets its contract. Assumes nothing.
use Rattle.controller.proofs.Shows.{unread, shows_by, refuses_by, no_node_field, node_field_is}
use Rattle.controller.proofs.reads.connection.Goals as goal

pub returns-then-is_node_field : goal.returns-then-is_node_field
returns-then-is_node_field c = shows_by _ _ _ _ c.well_formed-2.ensures c.if-well_formed.true _ c.shows.ensures (node_field_is _ _ _ c.is_node_field.ensures c.if-is_node_field.true _ _ _ c.load_connection.ensures c.node_numbers-a.ensures)

pub returns-then-well_formed : goal.returns-then-well_formed
returns-then-well_formed c = refuses_by _ _ _ _ c.well_formed-2.ensures c.if-well_formed.true 2 c.refuses.ensures (no_node_field _ _ _ c.is_node_field.ensures _ c.if-is_node_field.false)

pub returns : goal.returns
returns c = unread _ _ _ _ c.well_formed-2.ensures c.if-well_formed.false c.refuses-2.ensures

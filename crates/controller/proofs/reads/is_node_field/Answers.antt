-- `is_node_field` meets its contract. Assumes nothing.

use Rattle.controller.proofs.reads.is_node_field.Goals as goal

pub returns : goal.returns
returns c = simp (c.is_node-ok.ensures, c.is_field-one.ensures)

-- `is_value` meets its contract. Assumes nothing.

use Rattle.controller.proofs.reads.is_value.Goals as goal

pub returns : goal.returns
returns c = simp c.is_field-ok.ensures

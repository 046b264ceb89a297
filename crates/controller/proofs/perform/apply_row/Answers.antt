-- `apply_row` meets its contract. Assumes nothing.
use Rattle.controller.proofs.Performed.{apply_row}
use Rattle.controller.proofs.perform.apply_row.Goals as goal

pub returns : goal.returns
returns c = apply_row _ _ _ c.args.i c.args.p c.store_head.ensures c.lay_by.ensures

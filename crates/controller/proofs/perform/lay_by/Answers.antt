-- `lay_by` meets its contract. Assumes nothing.
use Rattle.controller.proofs.Performed.{laid_by}
use Rattle.controller.proofs.perform.lay_by.Goals as goal

pub returns : goal.returns
returns c = laid_by _ _ c.args.l c.args.t _ _ c.laid_values-v.ensures c.laid_count-n.ensures _ c.lay.ensures

-- `side_landed` meets its contract. Assumes nothing.
use Rattle.controller.proofs.Shows.{side_landed}
use Rattle.controller.proofs.reads.side_landed.Goals as goal

pub returns : goal.returns
returns c = side_landed _ _ c.args.x _ _ c.load_head-h.ensures c.landed.ensures c.from.ensures

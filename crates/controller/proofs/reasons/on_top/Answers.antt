-- `on_top` meets its contract. Assumes nothing.
use Rattle.controller.proofs.Explained.{top_some, top_none}
use Rattle.controller.proofs.reasons.on_top.Goals as goal

pub returns-then-number-v : goal.returns-then-number-v
returns-then-number-v c = top_some _ _ _ c.if-number-v.true c.gives.ensures

pub returns : goal.returns
returns c = top_none _ _ _ c.if-number-v.false c.gives-2.ensures

-- `start` meets its contract. Assumes nothing.
use Rattle.controller.proofs.Answered.{first, then}
use Rattle.controller.proofs.start.Goals as goal

pub returns-then-well_formed : goal.returns-then-well_formed
returns-then-well_formed c = then _ _ _ _ _ c.well_formed-2.ensures c.if-well_formed.true c.start.ensures

pub returns : goal.returns
returns c = first _ _ _ _ c.well_formed-2.ensures c.if-well_formed.false c.of.ensures

-- `why` meets its contract. Assumes nothing.
use Rattle.controller.proofs.Explained.{why_1, why_then}
use mathlib.Core.Path.{refl}
use Rattle.controller.proofs.why.Goals as goal

pub returns-then-well_formed : goal.returns-then-well_formed
returns-then-well_formed c = why_then _ _ _ _ _ _ c.well_formed-2.ensures c.if-well_formed.true c.asked.ensures

pub returns : goal.returns
returns c = why_1 _ _ _ _ _ _ c.well_formed-2.ensures c.if-well_formed.false refl

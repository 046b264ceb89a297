-- `night` meets its contract. Assumes nothing.
use mathlib.Core.Path.{refl}
use Rattle.controller.proofs.Turned.{night_1, night_then}
use Rattle.controller.proofs.night.Goals as goal

pub returns-then-well_formed : goal.returns-then-well_formed
returns-then-well_formed c = night_then _ _ _ _ _ _ _ _ _ c.well_formed-2.ensures c.if-well_formed.true c.spend.ensures

pub returns : goal.returns
returns c = night_1 _ _ _ _ _ _ _ c.well_formed-2.ensures c.if-well_formed.false refl

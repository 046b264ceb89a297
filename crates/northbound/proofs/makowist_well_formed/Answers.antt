-- `makowist_well_formed` meets its contract. Assumes nothing.
use mathlib.Core.Bool.{true, false}
use Rattle.northbound.proofs.Packed.{tells}
use Rattle.northbound.proofs.makowist_well_formed.Goals as goal

pub returns-then-well_formed : goal.returns-then-well_formed
returns-then-well_formed c = tells _ _ true c.well_formed-2.ensures c.if-well_formed.true

pub returns : goal.returns
returns c = tells _ _ false c.well_formed-2.ensures c.if-well_formed.false

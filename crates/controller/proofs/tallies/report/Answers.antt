-- `report` meets its contract. Assumes nothing.
use mathlib.Core.Path.{refl}
use Rattle.controller.proofs.Tallied.{fits, reported, not_formed}
use Rattle.controller.proofs.tallies.report.Goals as goal

pub add-requires : goal.add-requires
add-requires c = fits _ _ _ c.well_formed-2.ensures _ c.if-well_formed.true c.row-r.ensures c.requires

pub returns-then-well_formed : goal.returns-then-well_formed
returns-then-well_formed c = reported _ _ _ c.well_formed-2.ensures _ c.if-well_formed.true c.row-r.ensures _ c.add.ensures

pub returns : goal.returns
returns c = not_formed _ c.args.totals.now _ c.well_formed-2.ensures _ c.if-well_formed.false refl

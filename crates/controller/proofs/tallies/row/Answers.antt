-- `row` meets its contract. Assumes nothing.
use mathlib.Core.Path.{refl}
use Rattle.controller.proofs.Tallied.{row_is}
use Rattle.controller.proofs.tallies.row.Goals as goal

pub returns : goal.returns
returns c = row_is _ _ c.mask_of-mask.ensures _ _ c.counts_of-counts.ensures refl

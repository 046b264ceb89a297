-- `mask_of` meets its contract. Assumes nothing.
use mathlib.Core.Path.{refl}
use Rattle.controller.proofs.Tallied.{masking_none, masking_room, masking_more, masking_done}
use Rattle.controller.proofs.tallies.mask_of.Goals as goal

pub loop-k-init : goal.loop-k-init
loop-k-init c = masking_none _

pub with_path-mask-requires : goal.with_path-mask-requires
with_path-mask-requires c = masking_room _ _ _ c.loop-k.invariant c.loop-k-test.true

pub loop-k-preserved : goal.loop-k-preserved
loop-k-preserved c = masking_more _ _ _ _ _ _ _ c.loop-k.invariant c.loop-k-test.true refl c.load_value-v.ensures c.load_value-w.ensures c.with_path-mask.ensures

pub returns : goal.returns
returns c = masking_done _ _ _ c.loop-k.invariant c.loop-k-test.false

-- `carries_next` meets its contract. Assumes nothing.
use mathlib.Core.Path.{refl}
use Rattle.image.proofs.Chain.{carried}
use Rattle.image.proofs.entry.carries_next.Goals as goal

pub returns : goal.returns
returns c = carried _ _ _ c.place_of-at.ensures _ _ _ _ _ _ _ _ c.get.ensures c.of-change.ensures c.get-2.ensures c.of-rollback.ensures c.follows-by_change.ensures c.follows-by_rollback.ensures refl

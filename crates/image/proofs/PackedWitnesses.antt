-- Order 12's own numbers, computed: four statuses that all differ, in one number and back; the highest number; the image's
-- length. Assumes nothing.
use mathlib.Core.Path.{◌≡◌, refl}
use Rattle.kinds.specs.declared.Status.TheVariants.{Pending, Complete, Aborted, Failed}
use Rattle.kinds.specs.Statuses.{status_of}
use Rattle.machine.specs.Built.{side, entry}
use Rattle.image.specs.Packed.{packed_of, highest_packed, change_in, rollback_in, commit_in, apply_in}
use Rattle.image.specs.Layout.{image_length}

-- 3 × 343 + 4 × 49 + 1 × 7 + 6
pub packed_hold : packed_of (entry 1 (side Complete Aborted 1) (side Pending Failed 2) 0) ≡ 1238
unfolding packed_of
packed_hold = refl

pub back_hold :
    (commit_in (change_in 1238) ≡ Complete) × (apply_in (change_in 1238) ≡ Aborted) × (commit_in (rollback_in 1238) ≡ Pending) × (apply_in (rollback_in 1238) ≡ Failed)
unfolding commit_in apply_in status_of
back_hold = (refl, refl, refl, refl)

pub highest_hold : highest_packed ≡ 2400
highest_hold = refl

pub length_hold : image_length ≡ 5782
length_hold = refl

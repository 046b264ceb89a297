-- Settled, as the scan reads it: a side's two statuses in one number, and its ordinal at a place (that it is the machine's: proofs/Carried).
-- Assumes nothing.
use Rattle.std.specs.Prelude.{ℕ, ◌+◌, Bool, not, ◌&&◌, ◌||◌, List, eqb}
use Rattle.kinds.specs.Statuses.{done}
use Rattle.fields.specs.Field.{field}
use Rattle.image.specs.Packed.{change_in, rollback_in, apply_in}
use Rattle.image.specs.Layout.{place_of, statuses_size, change_ordinal_in, rollback_ordinal_in}

-- it does not carry o, or is Done
abbrev pub side_settled_at : List ℕ → ℕ → ℕ → ℕ → Bool
side_settled_at l o h at = not (eqb (field l at 4) o) || done (apply_in h)

unfoldable pub entry_settled_at : List ℕ → ℕ → ℕ → Bool
entry_settled_at l o n =
    side_settled_at l o (change_in (field l (place_of n) statuses_size)) (place_of n + change_ordinal_in)
    && side_settled_at l o (rollback_in (field l (place_of n) statuses_size)) (place_of n + rollback_ordinal_in)

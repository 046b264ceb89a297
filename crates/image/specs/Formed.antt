-- A well-formed image: it has the one length, its codes are codes, its last fold is at most the highest number given, and
-- the state that it shows is well-formed (paper: The state, Well-formed; order 10). Assumes nothing.
use Rattle.std.specs.Prelude.{ℕ, zero, suc, ◌+◌, ◌-◌, List, Bool, true, ◌&&◌, eqb, leb, ltb, length}
use Rattle.fields.specs.Field.{field, fields_at, ones, twos}
use Rattle.machine.specs.WellFormed.{pairs_ok, recalls_ok, well_formed}
use Rattle.image.specs.Layout.{highest_ordinal, place_of, statuses_size, phase_in, count_in, index_in, change_ordinal_in, rollback_ordinal_in, paths_in, owners_in, configuration_at, target_at, running_in, remembers_in, connected_at, image_length}
use Rattle.image.specs.Packed.{highest_packed}
use Rattle.image.specs.Records.{last_of, folded_of}
use Rattle.image.specs.View.{view}

-- a test of each number from 1 to n
unfoldable pub all_up_to : (ℕ → Bool) → ℕ → Bool
all_up_to p zero = true
all_up_to p (suc n) = all_up_to p n && p (suc n)

-- of each from b + 1 to n
unfoldable pub all_kept : (ℕ → Bool) → ℕ → ℕ → Bool
all_kept p b n = all_up_to (λ j. p (b + j)) (n - b)

-- the four statuses of the entry at a place, in one number
unfoldable pub statuses_ok : List ℕ → ℕ → Bool
statuses_ok l at = leb (field l at statuses_size) highest_packed

abbrev pub entry_statuses_ok : List ℕ → ℕ → Bool
entry_statuses_ok l n = statuses_ok l (place_of n)

-- a flag is 0 or 1
abbrev pub flag_ok : List ℕ → ℕ → Bool
flag_ok l at = leb (field l at 1) 1

-- the configuration's state, the target's running and remembers, and the eight nodes' connected
unfoldable pub flags_ok : List ℕ → Bool
flags_ok l =
    (leb 1 (field l configuration_at 1) && leb (field l configuration_at 1) 3)
    && ((flag_ok l (target_at + running_in) && flag_ok l (target_at + remembers_in))
    && ((flag_ok l (connected_at 0) && (flag_ok l (connected_at 1) && (flag_ok l (connected_at 2) && flag_ok l (connected_at 3))))
    && (flag_ok l (connected_at 4) && (flag_ok l (connected_at 5) && (flag_ok l (connected_at 6) && flag_ok l (connected_at 7))))))

abbrev pub codes_ok : List ℕ → Bool
codes_ok l = leb (folded_of l) (last_of l) && (all_kept (entry_statuses_ok l) (folded_of l) (last_of l) && flags_ok l)

unfoldable pub formed : List ℕ → Bool
formed l = eqb (length l) image_length && (codes_ok l && well_formed (view l))

-- ---- the same, in the order of the scan (that it is the same: proofs/Scanned)
-- the phase, r.index, the owners remembered and the two ordinals of entry n at a place
unfoldable pub marks_ok : List ℕ → ℕ → ℕ → Bool
marks_ok l at n =
    (leb 1 (field l (at + phase_in) 1) && leb (field l (at + phase_in) 1) 2)
    && ((ltb (field l (at + index_in) 2) n && recalls_ok n (fields_at l (at + owners_in) twos))
    && (leb (field l (at + change_ordinal_in) 4) highest_ordinal && leb (field l (at + rollback_ordinal_in) 4) highest_ordinal))

-- all that is asked of entry n
unfoldable pub entry_formed : List ℕ → ℕ → Bool
entry_formed l n =
    statuses_ok l (place_of n) && (marks_ok l (place_of n) n && pairs_ok (field l (place_of n + count_in) 1) (fields_at l (place_of n + paths_in) ones))

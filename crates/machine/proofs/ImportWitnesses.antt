-- Order 6 on lists as bytes, by computing: 20 bytes an entry. Assumes nothing.
use Prim.Native.Nat.{ℕ, ◌/◌, ◌%◌}
use mathlib.Core.List.{List, [], ◌∷◌, ◌++◌}
use mathlib.Core.Bool.{Bool, true, ◌&&◌}
use mathlib.Core.Path.{◌≡◌, refl}
use lib.ListN.{replicate}
use Rattle.kinds.specs.declared.Event.{Event}
use Rattle.machine.specs.Stores.{after, afters}
use Rattle.machine.specs.Rows.{overlay, rows_of}
use Rattle.machine.specs.WellFormed.{all_from, all_at_most, pairs_ok, entry_ok, head_ok, well_formed}
use Rattle.machine.specs.LiveList.{hops}
use Rattle.machine.specs.Folding.{base_row}
use Rattle.machine.specs.Reads.{entry_numbers, state_numbers}
use Rattle.machine.specs.Calls.{values_ok, present, plan_of, decide}
use Rattle.machine.specs.Step.{outcome, step, run}
use Rattle.machine.specs.Sessions.{Line, reads, marks, begins, agrees}
use Rattle.machine.specs.Import.{judged_from, judged, number_at, calls_up_to, import, pairs_at, entry_in, entries_from, entries_of, import_of}
use Rattle.machine.specs.ImportSessions.{same_events, same, opens, commits, returns}

-- ---- bytes, what is told of them, the events of the calls and what the state then shows
pub data Row : Type 0 where
  of : List ℕ → (answer position : ℕ) → List Event → List Line → Row

unfoldable pub read : List Row → Bool
read [] = true
read (of b a q es ls ∷ rs) = same (import_of b) a q es ls && read rs

-- numbers of two bytes
unfoldable pub twos : List ℕ → List ℕ
twos [] = []
twos (x ∷ xs) = x % 256 ∷ x / 256 ∷ twos xs

-- a change of path 3, a rollback, and an entry of one kind, with this in the places that are not in use
abbrev change : (value rubbish : ℕ) → List ℕ
change v x = twos (1 ∷ 1 ∷ 3 ∷ v ∷ x ∷ x ∷ x ∷ x ∷ x ∷ x ∷ [])

abbrev undoes : (place rubbish : ℕ) → List ℕ
undoes p x = twos (2 ∷ p ∷ x ∷ x ∷ x ∷ x ∷ x ∷ x ∷ x ∷ x ∷ [])

abbrev of_kind : ℕ → List ℕ
of_kind k = twos (k ∷ 1 ∷ 3 ∷ 7 ∷ 0 ∷ 0 ∷ 0 ∷ 0 ∷ 0 ∷ 0 ∷ [])

abbrev of_pairs : ℕ → List ℕ
of_pairs n = twos (1 ∷ n ∷ 1 ∷ 7 ∷ 2 ∷ 7 ∷ 3 ∷ 7 ∷ 4 ∷ 7 ∷ [])

abbrev refuses : List ℕ → (answer position : ℕ) → Row
refuses b a q = of b a q [] []

-- ---- kind, count or place, then four pairs, each number little-endian; what is in no use is not looked at
pub fields : List Row
fields =
    of [] 0 0 opens [] ∷ of (change 7 0) 0 0 (commits 1 opens) (reads 3 7 0 0 ∷ []) ∷ of (change 258 65535) 0 0 (commits 1 opens) (reads 3 258 0 0 ∷ [])
    ∷ of (change 7 0 ++ (change 9 1 ++ undoes 2 0)) 0 0 (returns 2 (commits 2 (commits 1 opens))) (reads 3 7 0 0 ∷ [])
    ∷ of (change 7 0 ++ (undoes 1 65535 ++ change 9 0)) 0 0 (commits 2 (returns 1 (commits 1 opens))) (reads 3 9 0 0 ∷ [])
    ∷ of (twos (1 ∷ 4 ∷ 0 ∷ 258 ∷ 3 ∷ 0 ∷ 4 ∷ 5 ∷ 31 ∷ 65535 ∷ [])) 0 0 (commits 1 opens) (reads 0 258 0 0 ∷ reads 3 0 0 0 ∷ reads 4 5 0 0 ∷ reads 31 65535 0 0 ∷ [])
    ∷ of (of_pairs 3) 0 0 (commits 1 opens) (reads 3 7 0 0 ∷ reads 4 0 0 0 ∷ []) ∷ of (of_pairs 4) 0 0 (commits 1 opens) (reads 4 7 0 0 ∷ [])
    ∷ refuses (twos (1 ∷ 1 ∷ 259 ∷ 7 ∷ 0 ∷ 0 ∷ 0 ∷ 0 ∷ 0 ∷ 0 ∷ [])) 3 1 ∷ refuses (change 7 0 ++ undoes 257 0) 16 2 ∷ []

pub fields_hold : read fields ≡ true
unfolding read twos same_events import_of entries_of entries_from entry_in pairs_at import judged judged_from number_at calls_up_to run step outcome decide plan_of afters after overlay rows_of all_from all_at_most pairs_ok entry_ok head_ok well_formed values_ok present hops base_row agrees begins entry_numbers state_numbers fields
fields_hold = refl

-- ---- kind 1 is a change, 2 a rollback, and every other is neither
pub kinds : List Row
kinds =
    of (of_kind 1) 0 0 (commits 1 opens) [] ∷ refuses (of_kind 0) 16 1 ∷ refuses (of_kind 2) 16 1 ∷ refuses (of_kind 3) 16 1 ∷ refuses (of_kind 257) 16 1 ∷ refuses (of_kind 65535) 16 1
    ∷ refuses (change 7 0 ++ of_kind 0) 16 2 ∷ refuses (change 7 0 ++ of_kind 258) 16 2 ∷ of (change 7 0 ++ of_kind 2) 0 0 (returns 1 (commits 1 opens)) [] ∷ []

pub kinds_hold : read kinds ≡ true
unfolding read twos same_events import_of entries_of entries_from entry_in pairs_at import judged judged_from number_at calls_up_to run step outcome decide plan_of afters after overlay rows_of all_from all_at_most pairs_ok entry_ok head_ok well_formed values_ok present hops base_row agrees begins entry_numbers state_numbers kinds
kinds_hold = refl

-- ---- no pairs, or more than four, whatever stands behind them, are 3
pub counts : List Row
counts =
    refuses (of_pairs 0) 3 1 ∷ refuses (of_pairs 5) 3 1 ∷ refuses (of_pairs 5 ++ twos (5 ∷ 7 ∷ 6 ∷ 7 ∷ 8 ∷ 7 ∷ 9 ∷ 7 ∷ 10 ∷ 7 ∷ [])) 3 1 ∷ refuses (of_pairs 257) 3 1
    ∷ refuses (change 7 0 ++ of_pairs 5) 3 2 ∷ []

pub counts_hold : read counts ≡ true
unfolding read twos same_events import_of entries_of entries_from entry_in pairs_at import judged judged_from number_at calls_up_to run step outcome decide plan_of afters after overlay rows_of all_from all_at_most pairs_ok entry_ok head_ok well_formed values_ok present hops base_row agrees begins entry_numbers state_numbers counts
counts_hold = refl

-- ---- bytes that are no list of entries, or of more than 256, are 2 with position 0, whatever they are
pub sizes : List Row
sizes =
    refuses (replicate 19 0) 2 0 ∷ refuses (0 ∷ change 7 0) 2 0 ∷ refuses (change 7 0 ++ (1 ∷ [])) 2 0 ∷ refuses (replicate 5120 0) 16 1 ∷ refuses (replicate 5121 0) 2 0 ∷ refuses (replicate 5140 0) 2 0 ∷ []

pub sizes_hold : read sizes ≡ true
unfolding read twos same_events import_of entries_of entries_from entry_in pairs_at import judged judged_from number_at calls_up_to run step outcome decide plan_of afters after overlay rows_of all_from all_at_most pairs_ok entry_ok head_ok well_formed values_ok present hops base_row agrees begins entry_numbers state_numbers sizes
sizes_hold = refl

-- States that no short session reaches, and some that none does, for the limits and the words of order 10 that the sessions
-- (FoldSessions) do not show, each with what a call then answers, by computing. Assumes nothing.
use Prim.Native.Nat.{ℕ}
use mathlib.Core.List.{List, [], ◌∷◌, ◌++◌}
use mathlib.Core.Bool.{Bool, true, ◌&&◌}
use mathlib.Core.Path.{◌≡◌, refl}
use lib.ListN.{replicate}
use Rattle.kinds.specs.declared.Transaction.{Transaction}
use Rattle.kinds.specs.declared.Status.TheVariants.{None, Pending, InProgress, Complete}
use Rattle.kinds.specs.Numbers.{num}
use Rattle.rules.specs.Sides.{untouched}
use Rattle.machine.specs.State.{State}
use Rattle.machine.specs.Stores.{after, afters}
use Rattle.machine.specs.Rows.{overlay, rows_of}
use Rattle.machine.specs.Differ.{differ, differ_row}
use Rattle.machine.specs.WellFormed.{all_from, all_at_most, pairs_ok, entry_ok, head_ok, well_formed}
use Rattle.machine.specs.LiveList.{hops}
use Rattle.machine.specs.Folding.{base_row}
use Rattle.machine.specs.Calls.{append, start, work, fold_to, values_ok, present, plan_of, decide}
use Rattle.machine.specs.Step.{outcome, step}
use Rattle.machine.specs.Built.{side, entry, log, head, none, state_of, logged}
use Rattle.machine.specs.Sessions.{stands, agrees, accepts, refuses, adds, does, mastered}
use Rattle.machine.specs.FoldSessions.{Piece, says, bases, lists, ended, holds, same_list}

-- ---- entries
-- not yet committed; and taken by the switch, the first event of all
abbrev unmoved : Transaction
unmoved = entry 1 (side Pending Pending 0) untouched 0

abbrev taken : Transaction
taken = entry 1 (side Complete Complete 1) untouched 0

-- ---- a state that is well-formed, and one that is not
abbrev formed : List Piece
formed = says (accepts start ∷ []) ∷ []

abbrev malformed : List Piece
malformed = says (refuses 1 start ∷ []) ∷ []

-- ---- how high numbers go, and how many are kept
pub limits : Bool
limits =
    holds (logged (log 65534 [])) (says (adds 65535 3 7 ∷ refuses 9 (append (record { path = 3; value = 7 } ∷ [])) ∷ refuses 3 (append []) ∷ []) ∷ [])
    && (holds (logged (log 65407 (replicate 128 unmoved))) (says (refuses 4 (append (record { path = 3; value = 7 } ∷ [])) ∷ refuses 3 (append []) ∷ []) ∷ [])
    && (holds (logged (log 65408 (replicate 128 unmoved))) malformed
    && (holds (logged (log 65536 [])) malformed && (holds (logged (log 0 (replicate 128 unmoved))) formed && holds (logged (log 0 (replicate 129 unmoved))) malformed))))

pub limits_hold : limits ≡ true
unfolding limits holds ended agrees same_list step outcome decide differ differ_row well_formed all_from all_at_most entry_ok head_ok pairs_ok values_ok plan_of rows_of overlay present after afters hops base_row
limits_hold = refl

-- ---- room for later appends, where 128 are kept and the first of them is taken
pub room : Bool
room =
    holds (state_of (log 0 (taken ∷ replicate 127 unmoved)) 1 (head 1 1 1 1) (head 1 1 1 1))
    (says (refuses 4 (append (record { path = 3; value = 7 } ∷ [])) ∷ accepts (fold_to 1) ∷ adds 129 3 8 ∷ refuses 4 (append (record { path = 3; value = 7 } ∷ [])) ∷ []) ∷ [])

pub room_hold : room ≡ true
unfolding room holds ended agrees same_list step outcome decide differ differ_row well_formed all_from all_at_most entry_ok head_ok pairs_ok values_ok plan_of rows_of overlay present after afters hops base_row
room_hold = refl

-- ---- ordinals to 131,070, in both heads and on both sides of an entry; a commit past it is 9
-- 1 on its way through commit, where the ordinal is o
abbrev committing : ℕ → State
committing o = state_of (log 0 (entry 1 (side InProgress Pending 0) untouched 0 ∷ [])) 0 (head 0 1 0 o) none

pub ordinals : Bool
ordinals =
    (holds (state_of (log 0 []) 0 (head 0 0 0 131070) (head 0 0 0 131070)) formed
    && (holds (state_of (log 0 []) 0 (head 0 0 0 131071) none) malformed && holds (state_of (log 0 []) 0 none (head 0 0 0 131071)) malformed))
    && (holds (logged (log 0 (entry 1 (side Pending Pending 131070) (side None None 131070) 0 ∷ []))) formed
    && (holds (logged (log 0 (entry 1 (side Pending Pending 131071) untouched 0 ∷ []))) malformed
    && (holds (logged (log 0 (entry 1 (side Pending Pending 0) (side None None 131071) 0 ∷ []))) malformed
    && (holds (committing 131069) (says (mastered ++ (does 1 1 1 0 1 Complete ∷ stands 1 131070 0 0 ∷ [])) ∷ [])
    && holds (committing 131070) (says (mastered ++ (refuses 9 (work 1 1 1 0 0) ∷ [])) ∷ [])))))

pub ordinals_hold : ordinals ≡ true
unfolding ordinals holds ended agrees same_list step outcome decide differ differ_row well_formed all_from all_at_most entry_ok head_ok pairs_ok values_ok plan_of rows_of overlay present after afters hops base_row
ordinals_hold = refl

-- ---- index, change, target and revision go to the highest number given, though nothing is kept; r.index stays below its number
pub reach : Bool
reach =
    (holds (state_of (log 5 []) 5 (head 5 5 5 0) (head 5 5 5 0)) formed
    && (holds (state_of (log 5 []) 6 none none) malformed
    && (holds (state_of (log 5 []) 5 (head 6 0 0 0) none) malformed && (holds (state_of (log 5 []) 5 (head 0 6 0 0) none) malformed && holds (state_of (log 5 []) 5 (head 0 0 6 0) none) malformed))))
    && ((holds (state_of (log 5 []) 5 none (head 6 0 0 0)) malformed && (holds (state_of (log 5 []) 5 none (head 0 6 0 0)) malformed && holds (state_of (log 5 []) 5 none (head 0 0 6 0)) malformed))
    && (holds (logged (log 5 (entry 1 untouched untouched 5 ∷ []))) formed && holds (logged (log 5 (entry 1 untouched untouched 6 ∷ []))) malformed))

pub reach_hold : reach ≡ true
unfolding reach holds ended agrees same_list step outcome decide differ differ_row well_formed all_from all_at_most entry_ok head_ok pairs_ok values_ok plan_of rows_of overlay present after afters hops base_row
reach_hold = refl

-- ---- the base has 32 values
pub sizes : Bool
sizes =
    holds (logged (record { folded = num 5; base = replicate 32 7; entries = [] })) formed
    && (holds (logged (record { folded = num 5; base = replicate 31 7; entries = [] })) malformed && holds (logged (record { folded = num 5; base = replicate 33 7; entries = [] })) malformed)

pub sizes_hold : sizes ≡ true
unfolding sizes holds ended agrees same_list step outcome decide differ differ_row well_formed all_from all_at_most entry_ok head_ok pairs_ok values_ok plan_of rows_of overlay present after afters hops base_row
sizes_hold = refl

-- ---- the base takes the live ones, and not each that the switch took: in a reached state these are the same
pub living : Bool
living =
    holds (state_of (log 0 (taken ∷ [])) 1 (head 1 1 1 1) (head 1 1 1 1)) (says (accepts (fold_to 1) ∷ []) ∷ bases 3 7 ∷ [])
    && holds (state_of (log 0 (taken ∷ [])) 1 (head 1 1 0 1) (head 1 1 1 1)) (lists [] ∷ says (accepts (fold_to 1) ∷ []) ∷ bases 3 0 ∷ [])

pub living_hold : living ≡ true
unfolding living holds ended agrees same_list step outcome decide differ differ_row well_formed all_from all_at_most entry_ok head_ok pairs_ok values_ok plan_of rows_of overlay present after afters hops base_row
living_hold = refl

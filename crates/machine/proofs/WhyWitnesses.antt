-- Order 4 in states that are well-formed and that no session reaches: the tests of the reasons one by one, the orders of them that
-- meet nowhere else, and the eighth. Computed, as the sessions (WhySessions) are. Assumes nothing.
use Prim.Native.Nat.{ℕ}
use mathlib.Core.List.{List, [], ◌∷◌}
use mathlib.Core.Path.{◌≡◌, refl}
use mathlib.Core.Bool.{true}
use Rattle.kinds.specs.declared.Transaction.{Transaction}
use Rattle.kinds.specs.declared.Head.{Head}
use Rattle.kinds.specs.declared.Status.{Status}
use Rattle.kinds.specs.declared.Status.TheVariants.{None, Pending, InProgress, Complete, Aborted, Canceled, Failed}
use Rattle.rules.specs.Sides.{untouched}
use Rattle.machine.specs.State.{State}
use Rattle.machine.specs.Stores.{after, afters}
use Rattle.machine.specs.Rows.{overlay, rows_of}
use Rattle.machine.specs.Differ.{differ, differ_row}
use Rattle.machine.specs.WellFormed.{all_from, all_at_most, pairs_ok, entry_ok, head_ok, well_formed}
use Rattle.machine.specs.LiveList.{hops}
use Rattle.machine.specs.Folding.{base_row}
use Rattle.machine.specs.Calls.{values_ok, present, plan_of, decide}
use Rattle.machine.specs.Step.{outcome, step, state_from}
use Rattle.machine.specs.Built.{side, entry, log, head, none, state_of}
use Rattle.machine.specs.Why.{first_of, lowest, why}
use Rattle.machine.specs.WhySessions.{Line, Row, of, agrees, all, waits, refused, goes, led}

-- ---- what is told of a state, its master node 1
abbrev row : State → List Line → Row
row s ls = of s led ls

-- 1 alone: c.commit, c.apply and c.ordinal; the applied ordinal. Change is 0, and nothing is in flight
abbrev forth : (commit apply : Status) → (ordinal applied : ℕ) → State
forth c a o k = state_of (log 0 (entry 1 (side c a o) untouched 0 ∷ [])) 0 none (head 0 0 0 k)

-- and its rollback
abbrev back : (commit apply : Status) → (ordinal applied : ℕ) → State
back c a o k = state_of (log 0 (entry 2 (side Complete Complete 0) (side c a o) 0 ∷ [])) 1 none (head 0 0 0 k)

-- by c.commit and r.commit
abbrev marked : (commit return : Status) → Transaction
marked c r = entry 1 (side c Pending 0) (side r None 0) 0

abbrev plain : Transaction
plain = marked Pending None

-- three of them, change and Committed's head
abbrev three : (first second third : Transaction) → (change : ℕ) → Head → State
three a b c n h = state_of (log 0 (a ∷ b ∷ c ∷ [])) n h none

-- ---- 1: each Done status has no closing store left but where a rule closes it
pub ended : List Row
ended =
    row (forth Complete Pending 0 0) (waits 1 1 1 0 ∷ []) ∷ row (forth Aborted Pending 0 0) (waits 1 1 1 0 ∷ []) ∷ row (forth Canceled Pending 0 0) (waits 1 1 1 0 ∷ [])
    ∷ row (forth Complete Complete 1 0) (waits 2 1 1 0 ∷ []) ∷ row (forth Complete Canceled 1 0) (waits 2 1 1 0 ∷ [])
    ∷ row (forth Failed Aborted 1 0) (waits 2 1 1 0 ∷ []) ∷ row (forth Failed Failed 1 0) (waits 2 1 1 0 ∷ [])
    ∷ row (forth Complete Aborted 3 0) (waits 2 1 1 0 ∷ []) ∷ row (forth Complete Failed 3 0) (waits 2 1 1 0 ∷ []) ∷ row (forth Complete Aborted 0 0) (waits 2 1 1 0 ∷ [])
    ∷ row (back Aborted Pending 0 0) (waits 3 1 1 0 ∷ []) ∷ row (back Canceled Pending 0 0) (waits 3 1 1 0 ∷ []) ∷ row (back Failed Pending 0 0) (waits 3 1 1 0 ∷ [])
    ∷ row (back Complete Complete 1 0) (waits 4 1 1 0 ∷ []) ∷ row (back Complete Aborted 1 0) (waits 4 1 1 0 ∷ []) ∷ row (back Complete Failed 1 0) (waits 4 1 1 0 ∷ [])
    ∷ row (back Failed Canceled 1 0) (waits 4 1 1 0 ∷ []) ∷ row (back Complete Canceled 3 0) (waits 4 1 1 0 ∷ []) ∷ row (back None Complete 1 0) (waits 4 1 1 0 ∷ waits 3 1 2 0 ∷ [])
    ∷ row (three plain plain (marked Complete None) 0 none) (waits 1 3 1 0 ∷ waits 1 2 3 1 ∷ []) ∷ row (three plain plain (marked Failed None) 0 none) (waits 1 3 1 0 ∷ []) ∷ []

pub ended_hold : all ended ≡ true
unfolding all agrees why state_from step outcome decide differ differ_row plan_of afters after overlay rows_of all_from all_at_most pairs_ok entry_ok head_ok well_formed values_ok present first_of lowest hops base_row ended
ended_hold = refl

-- ---- 2: asked is r.commit not None, whatever r.apply and the phase
pub asking : List Row
asking =
    row (back None Pending 0 0) (waits 3 1 2 0 ∷ waits 4 1 2 0 ∷ []) ∷ row (back Pending None 0 0) (waits 4 1 6 0 ∷ []) ∷ row (three (marked None Pending) plain plain 0 none) (waits 4 1 6 0 ∷ []) ∷ []

pub asking_hold : all asking ≡ true
unfolding all agrees why state_from step outcome decide differ differ_row plan_of afters after overlay rows_of all_from all_at_most pairs_ok entry_ok head_ok well_formed values_ok present first_of lowest hops base_row asking
asking_hold = refl

-- ---- 4: what is named where several are in progress, or none
pub flights : List Row
flights =
    row (three (marked InProgress None) (marked Pending InProgress) plain 2 (head 0 2 0 0)) (waits 1 3 4 1 ∷ []) ∷ row (three plain (marked InProgress None) plain 2 (head 0 2 0 0)) (waits 1 3 4 2 ∷ [])
    ∷ row (three (marked Pending InProgress) (marked InProgress None) plain 2 (head 0 2 0 0)) (waits 1 3 4 1 ∷ []) ∷ row (three plain (marked Pending InProgress) plain 2 (head 0 1 0 0)) (waits 1 3 4 2 ∷ [])
    ∷ row (three plain plain plain 2 (head 0 2 1 0)) (waits 1 3 4 1 ∷ []) ∷ row (three (marked Pending InProgress) plain plain 1 (head 0 3 0 0)) (waits 1 2 4 3 ∷ [])
    ∷ row (three (entry 1 (side Complete InProgress 1) (side Pending InProgress 2) 0) plain plain 2 (head 0 2 2 0)) (waits 3 1 4 2 ∷ waits 1 3 4 2 ∷ [])
    ∷ row (state_of (log 2 (plain ∷ marked InProgress None ∷ plain ∷ [])) 4 (head 0 1 0 0) none) (waits 1 5 4 4 ∷ []) ∷ []

pub flights_hold : all flights ≡ true
unfolding all agrees why state_from step outcome decide differ differ_row plan_of afters after overlay rows_of all_from all_at_most pairs_ok entry_ok head_ok well_formed values_ok present first_of lowest hops base_row flights
flights_hold = refl

-- ---- 5: on top is what is live, and not what was committed last or is aimed at
pub above : List Row
above =
    row (three (marked Complete Pending) plain (marked Failed None) 3 (head 3 3 2 0)) (waits 3 1 5 2 ∷ []) ∷ row (three plain (marked Complete Pending) (marked Failed None) 3 (head 3 3 1 0)) (waits 3 2 8 0 ∷ []) ∷ []

pub above_hold : all above ≡ true
unfolding all agrees why state_from step outcome decide differ differ_row plan_of afters after overlay rows_of all_from all_at_most pairs_ok entry_ok head_ok well_formed values_ok present first_of lowest hops base_row above
above_hold = refl

-- ---- 6 and 7: Complete and nothing else is committed; what is below the job's own
pub outstanding : List Row
outstanding =
    row (forth Pending Pending 5 0) (waits 2 1 6 0 ∷ []) ∷ row (forth Failed Pending 1 0) (waits 2 1 6 0 ∷ []) ∷ row (forth Aborted Pending 1 0) (waits 2 1 6 0 ∷ []) ∷ row (forth Canceled Pending 1 0) (waits 2 1 6 0 ∷ [])
    ∷ row (back Pending Pending 5 0) (waits 4 1 6 0 ∷ []) ∷ row (back Failed Pending 1 0) (waits 4 1 6 0 ∷ [])
    ∷ row (forth Complete Pending 5 3) (waits 2 1 7 4 ∷ []) ∷ row (forth Complete Pending 4 4) (waits 2 1 8 0 ∷ []) ∷ row (forth Complete Pending 3 4) (waits 2 1 8 0 ∷ [])
    ∷ row (back Complete Pending 5 3) (waits 4 1 7 4 ∷ []) ∷ row (back Complete Pending 4 4) (waits 4 1 8 0 ∷ []) ∷ row (back Complete Pending 3 4) (waits 4 1 8 0 ∷ []) ∷ []

pub outstanding_hold : all outstanding ≡ true
unfolding all agrees why state_from step outcome decide differ differ_row plan_of afters after overlay rows_of all_from all_at_most pairs_ok entry_ok head_ok well_formed values_ok present first_of lowest hops base_row outstanding
outstanding_hold = refl

-- ---- 8: none fits, of those that the job uses, and nothing is named
pub eighth : List Row
eighth =
    row (forth None None 5 0) (waits 1 1 8 0 ∷ []) ∷ row (forth Complete None 1 0) (waits 2 1 8 0 ∷ []) ∷ row (back Pending Pending 5 0) (waits 3 1 8 0 ∷ []) ∷ row (back Complete None 1 0) (waits 4 1 8 0 ∷ [])
    ∷ row (three (marked None None) (marked Complete None) plain 2 (head 2 2 2 0)) (waits 1 1 8 0 ∷ []) ∷ row (three plain plain (marked Complete Pending) 0 none) (waits 3 3 8 0 ∷ [])
    ∷ row (three plain plain (entry 2 (side Complete Complete 0) (side Complete None 1) 0) 0 none) (waits 4 3 8 0 ∷ []) ∷ []

pub eighth_hold : all eighth ≡ true
unfolding all agrees why state_from step outcome decide differ differ_row plan_of afters after overlay rows_of all_from all_at_most pairs_ok entry_ok head_ok well_formed values_ok present first_of lowest hops base_row eighth
eighth_hold = refl

-- ---- 1 first of all; 15 where a counter would pass its limit (9)
pub barred : List Row
barred =
    row (state_of (log 0 (plain ∷ [])) 2 none none) (refused 1 1 1 1 ∷ refused 1 0 1 1 ∷ refused 1 1 1 2 ∷ [])
    ∷ row (state_of (log 0 (marked InProgress None ∷ [])) 0 (head 0 1 0 131070) none) (goes 1 1 ∷ []) ∷ row (state_of (log 0 (marked Complete InProgress ∷ [])) 1 (head 1 0 1 131070) none) (goes 3 1 ∷ []) ∷ []

pub barred_hold : all barred ≡ true
unfolding all agrees why state_from step outcome decide differ differ_row plan_of afters after overlay rows_of all_from all_at_most pairs_ok entry_ok head_ok well_formed values_ok present first_of lowest hops base_row barred
barred_hold = refl

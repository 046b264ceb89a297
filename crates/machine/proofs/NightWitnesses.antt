-- Order 2 in states that no session reaches: 1 before the other refusals, the order of jobs that go side by side nowhere else, and
-- a job that is refused with 9. Computed, as the sessions (NightSessions) are. Assumes nothing.
use Prim.Native.Nat.{ℕ}
use mathlib.Core.List.{List, [], ◌∷◌}
use mathlib.Core.Bool.{true}
use mathlib.Core.Path.{◌≡◌, refl}
use lib.ListN.{replicate}
use Rattle.kinds.specs.declared.Transaction.{Transaction}
use Rattle.kinds.specs.declared.Status.{Status}
use Rattle.kinds.specs.declared.Status.TheVariants.{Pending, InProgress, Complete, Aborted, Canceled, Failed}
use Rattle.rules.specs.Sides.{untouched}
use Rattle.machine.specs.State.{State}
use Rattle.machine.specs.Stores.{after, afters}
use Rattle.machine.specs.Rows.{overlay, rows_of}
use Rattle.machine.specs.Differ.{differ, differ_row}
use Rattle.machine.specs.WellFormed.{all_from, all_at_most, pairs_ok, entry_ok, head_ok, well_formed}
use Rattle.machine.specs.LiveList.{hops}
use Rattle.machine.specs.Folding.{base_row}
use Rattle.machine.specs.Reads.{state_numbers}
use Rattle.machine.specs.Calls.{values_ok, present, plan_of, decide}
use Rattle.machine.specs.Step.{outcome, step, state_from, events_from}
use Rattle.machine.specs.Sessions.{Line, shows, begins, agrees}
use Rattle.machine.specs.Built.{side, entry, log, head, none, state_of}
use Rattle.machine.specs.Night.{bits, trials, first_done, turns, needs_line, night}
use Rattle.machine.specs.NightSessions.{Turn, does, closes, Row, of, same_events, same_calls, slept, goes, accepted, rejecting, stand, line}

-- ---- what node 1 does over an open line
abbrev sleeps : State → (budget jobs stopped : ℕ) → List Turn → List Line → Row
sleeps s b k x ts ls = of s line 1 b accepted 0 k x ts ls

abbrev plain : Transaction
plain = entry 1 (side Pending Pending 0) untouched 0

-- 1 alone, with a change past the highest number
abbrev damaged : State
damaged = state_of (log 0 (plain ∷ [])) 2 none none

abbrev refuses : (node budget : ℕ) → List ℕ → Row
refuses n b os = of damaged [] n b os 1 0 0 [] (shows 1 1 1 Pending ∷ stand 0 2 0 0 0 0 0 0 0 ∷ [])

-- ---- refusal 1 comes before 2 and 10
pub foremost : List Row
foremost = refuses 1 9 accepted ∷ refuses 0 9 accepted ∷ refuses 1 4097 accepted ∷ refuses 1 9 (replicate 255 0) ∷ refuses 2 9 (2 ∷ replicate 255 0) ∷ []

pub foremost_hold : slept foremost ≡ true
unfolding slept same_calls same_events night turns trials first_done needs_line bits state_from events_from step outcome decide differ differ_row plan_of afters after overlay rows_of all_from all_at_most pairs_ok entry_ok head_ok well_formed values_ok present hops base_row agrees begins state_numbers foremost
foremost_hold = refl

-- ---- two jobs of one number that could both go
-- 1 is aimed at by the commit, and its rollback is already so
abbrev begun : (commit apply : Status) → (ordinal : ℕ) → State
begun c a o = state_of (log 0 (entry 2 (side Pending Pending 0) (side c a o) 0 ∷ [])) 0 (head 0 1 0 0) none

pub paired : List Row
paired =
    sleeps (begun InProgress Pending 0) 1 1 2 (closes 1 1 0 ∷ []) (shows 1 1 1 InProgress ∷ shows 2 1 1 InProgress ∷ [])
    ∷ sleeps (begun Complete Canceled 1) 1 1 2 (closes 1 1 0 ∷ []) (shows 1 1 1 InProgress ∷ stand 0 0 1 0 0 0 0 0 0 ∷ [])
    ∷ sleeps (state_of (log 0 (entry 2 (side Complete Aborted 1) (side Complete Canceled 1) 0 ∷ [])) 1 (head 1 1 1 1) none) 9 1 0 (closes 2 1 0 ∷ []) (stand 1 1 1 1 1 1 1 0 1 ∷ []) ∷ []

pub paired_hold : slept paired ≡ true
unfolding slept same_calls same_events night turns trials first_done needs_line bits state_from events_from step outcome decide differ differ_row plan_of afters after overlay rows_of all_from all_at_most pairs_ok entry_ok head_ok well_formed values_ok present hops base_row agrees begins state_numbers paired
paired_hold = refl

-- ---- where a counter would pass its limit a job is refused (9): the turn goes on, and the line is not what is missing. A change that
-- the table rejects takes no ordinal, and goes
abbrev ready : Transaction
ready = entry 1 (side Complete Pending 1) untouched 0

-- 1 on its way through commit, and others
abbrev topmost : List Transaction → State
topmost ts = state_of (log 0 (entry 1 (side InProgress Pending 0) untouched 0 ∷ ts)) 0 (head 0 1 0 131070) none

pub full : List Row
full =
    sleeps (topmost (ready ∷ [])) 9 2 0 (goes 2 2 []) (shows 1 1 1 InProgress ∷ stand 0 0 1 0 131070 2 2 2 1 ∷ []) ∷ of (topmost []) line 1 0 rejecting 0 0 2 [] []
    ∷ of (topmost []) line 1 9 rejecting 0 1 0 (does 1 1 1 Failed ∷ []) (stand 1 1 1 0 131070 0 0 0 0 ∷ [])
    ∷ sleeps (state_of (log 0 (entry 2 (side Complete Complete 0) (side InProgress Pending 0) 0 ∷ ready ∷ [])) 1 (head 1 0 1 131070) none) 9 2 0 (goes 2 2 []) (shows 2 1 1 InProgress ∷ stand 1 1 0 1 131070 2 2 2 1 ∷ []) ∷ []

pub full_hold : slept full ≡ true
unfolding slept same_calls same_events night turns trials first_done needs_line bits state_from events_from step outcome decide differ differ_row plan_of afters after overlay rows_of all_from all_at_most pairs_ok entry_ok head_ok well_formed values_ok present hops base_row agrees begins state_numbers full
full_hold = refl

-- Order 2 on sessions, by computing: nights, a group for each sentence of the order. In every line the whole night is held: its
-- answer, the jobs done and why it stopped, its calls with their events, and what the state then shows. Assumes nothing.
use Rattle.std.specs.Prelude.{ℕ, ◌-◌, List, [], ◌∷◌, ◌++◌, Bool, true, false, ◌&&◌, ◌||◌, cond, ◌≡◌, refl, eqb, leb, replicate}
use Rattle.kinds.specs.declared.Event.{Event}
use Rattle.kinds.specs.declared.Status.{Status}
use Rattle.kinds.specs.declared.Status.TheVariants.{Pending, InProgress, Complete, Aborted, Failed}
use Rattle.kinds.specs.Numbers.{num}
use Rattle.kinds.specs.Events.{event, no_event}
use Rattle.machine.specs.State.{State, fresh}
use Rattle.machine.specs.Stores.{after, afters}
use Rattle.machine.specs.Rows.{overlay, rows_of}
use Rattle.machine.specs.Differ.{differ, differ_row}
use Rattle.machine.specs.WellFormed.{all_from, all_at_most, pairs_ok, entry_ok, head_ok, well_formed}
use Rattle.machine.specs.LiveList.{hops}
use Rattle.machine.specs.Folding.{base_row}
use Rattle.machine.specs.Reads.{state_numbers}
use Rattle.machine.specs.Calls.{Call, append, rollback, start, stop, connect, disconnect, master, sync, work, fold_to, values_ok, present, plan_of, decide}
use Rattle.machine.specs.Step.{outcome, step, state_from, events_from}
use Rattle.machine.specs.Sessions.{Line, reads, shows, heads, same_event, begins, agrees}
use Rattle.machine.specs.Night.{outcome_at, bits, trials, first_done, turns, needs_line, night}

-- ---- a turn: its job, its number and the outcome that it is given; and the status that its event shows, or no event, where it makes
-- the one store that was left
pub data Turn : Type 0 where
  does : (job number outcome : ℕ) → Status → Turn
  closes : (job number outcome : ℕ) → Turn

-- the event: phase 1 is that of jobs 1 and 2, stage 1 that of jobs 1 and 3
abbrev shown : Turn → Event
shown (does j i r x) = event (cond (leb j 2) 1 2) (cond (eqb j 1 || eqb j 3) 1 2) (num i) x
shown (closes j i r) = no_event

unfoldable pub same_events : List Event → List Turn → Bool
same_events [] [] = true
same_events [] (t ∷ ts) = false
same_events (e ∷ es) [] = false
same_events (e ∷ es) (t ∷ ts) = same_event e (shown t) && same_events es ts

-- node, job, number, outcome and cut; none of a call that is no job
abbrev numbers_of : Call → List ℕ
numbers_of (append ps) = []
numbers_of (rollback i) = []
numbers_of start = []
numbers_of stop = []
numbers_of (connect n) = []
numbers_of (disconnect n) = []
numbers_of (master n) = []
numbers_of (sync n) = []
numbers_of (work n j i r c) = n ∷ j ∷ i ∷ r ∷ c ∷ []
numbers_of (fold_to i) = []

-- without cut
abbrev made : (node : ℕ) → Turn → List ℕ
made n (does j i r x) = n ∷ j ∷ i ∷ r ∷ 0 ∷ []
made n (closes j i r) = n ∷ j ∷ i ∷ r ∷ 0 ∷ []

unfoldable pub same_calls : (node : ℕ) → List Call → List Turn → Bool
same_calls n [] [] = true
same_calls n [] (t ∷ ts) = false
same_calls n (c ∷ cs) [] = false
same_calls n (c ∷ cs) (t ∷ ts) = begins (numbers_of c) (made n t) && same_calls n cs ts

-- ---- a night, from a state and after these calls, the newest first: what is asked, what is told, its turns, the newest first,
-- and what the state then shows
pub data Row : Type 0 where
  of : State → List Call → (node budget : ℕ) → List ℕ → (answer jobs stopped : ℕ) → List Turn → List Line → Row

unfoldable pub slept : List Row → Bool
slept [] = true
slept (of s cs n b os a k x ts ls ∷ rs) =
    let w = night (state_from s cs) n b os in
    ((eqb w.answer a && (eqb w.jobs k && eqb w.stopped x))
    && ((same_calls n w.calls ts && same_events w.events ts) && agrees w.next ls))
    && slept rs

-- ---- nights, shorter
-- node 1's, from fresh and after a session; one that is refused
abbrev sleeps : List Call → (budget : ℕ) → List ℕ → (jobs stopped : ℕ) → List Turn → List Line → Row
sleeps cs b os k x ts ls = of (fresh false) cs 1 b os 0 k x ts ls

abbrev refuses : (answer : ℕ) → List Call → (node budget : ℕ) → List ℕ → List Line → Row
refuses a cs n b os ls = of (fresh false) cs n b os a 0 0 [] ls

-- a job begun and ended, its push accepted
abbrev pub goes : (job number : ℕ) → List Turn → List Turn
goes j i ts = does j i 0 Complete ∷ does j i 0 InProgress ∷ ts

-- one committed and applied
abbrev pub takes : (number : ℕ) → List Turn → List Turn
takes i ts = goes 2 i (goes 1 i ts)

-- tables: every outcome 0; every one 1; 1 at one place, counted from 0
abbrev pub accepted : List ℕ
accepted = replicate 256 0

abbrev pub rejecting : List ℕ
rejecting = replicate 256 1

abbrev pub rejecting_at : ℕ → List ℕ
rejecting_at k = replicate k 0 ++ (1 ∷ replicate (255 - k) 0)

-- Committed's index, change, target, revision and ordinal; Applied's index, target, revision and ordinal
abbrev pub stand : (i n g r o a t v u : ℕ) → Line
stand i n g r o a t v u = heads (i ∷ n ∷ g ∷ r ∷ o ∷ a ∷ t ∷ v ∷ u ∷ [])

-- ---- sessions, the newest first
-- node 1 is master; and its line is open
abbrev led : List Call
led = master 1 ∷ connect 1 ∷ start ∷ []

abbrev pub line : List Call
line = sync 1 ∷ sync 1 ∷ led

abbrev change : ℕ → Call
change v = append (record { path = 3; value = v } ∷ [])

abbrev one : List Call
one = change 7 ∷ line

abbrev two : List Call
two = change 9 ∷ one

-- a job begun and ended
abbrev through : ℕ → ℕ → List Call → List Call
through j i cs = work 1 j i 0 0 ∷ work 1 j i 0 0 ∷ cs

-- 1 of the two committed; and 2
abbrev halfway : List Call
halfway = through 1 1 two

abbrev committed : List Call
committed = through 1 2 halfway

-- 1 committed and its rollback asked
abbrev rolling : List Call → List Call
rolling cs = rollback 1 ∷ through 1 1 (change 7 ∷ cs)

-- 1 applied and folded away, 2 and 3 after it
abbrev folded : List Call
folded = change 9 ∷ change 8 ∷ fold_to 1 ∷ through 2 1 (through 1 1 one)

-- nothing of 1 is done
abbrev unmoved : List Line
unmoved = shows 1 1 1 Pending ∷ stand 0 0 0 0 0 0 0 0 0 ∷ []

-- ---- a node, a budget of 0 to 4,096, a table of exactly 256 outcomes, 0 or 1
pub ranges : List Row
ranges =
    sleeps line 0 accepted 0 0 [] [] ∷ sleeps line 4096 accepted 0 0 [] [] ∷ refuses 2 line 1 4097 accepted []
    ∷ of (fresh false) (master 8 ∷ connect 8 ∷ start ∷ []) 8 0 accepted 0 0 0 [] [] ∷ refuses 2 line 0 0 accepted [] ∷ refuses 2 line 9 0 accepted [] ∷ refuses 2 [] 0 0 accepted []
    ∷ sleeps line 0 rejecting 0 0 [] [] ∷ refuses 2 line 1 0 (replicate 255 0) [] ∷ refuses 2 line 1 0 (replicate 257 0) [] ∷ refuses 2 line 1 0 [] []
    ∷ refuses 2 line 1 0 (2 ∷ replicate 255 0) [] ∷ refuses 2 line 1 0 (replicate 255 1 ++ (2 ∷ [])) [] ∷ []

pub ranges_hold : slept ranges ≡ true
unfolding slept same_calls same_events night turns trials first_done needs_line bits state_from events_from step outcome decide differ differ_row plan_of afters after overlay rows_of all_from all_at_most pairs_ok entry_ok head_ok well_formed values_ok present hops base_row agrees begins state_numbers ranges
ranges_hold = refl

-- ---- refusals 2 and 10, in this order; a refused night does nothing and tells nothing
pub denied : List Row
denied =
    refuses 10 [] 1 0 accepted [] ∷ refuses 10 one 2 9 accepted unmoved ∷ refuses 10 (change 7 ∷ []) 1 9 accepted unmoved
    ∷ refuses 2 one 9 9 accepted unmoved ∷ refuses 2 one 1 9 (2 ∷ replicate 255 0) unmoved ∷ refuses 2 one 1 9 (replicate 257 0) unmoved ∷ refuses 2 one 1 1 (replicate 257 0) unmoved
    ∷ refuses 2 one 2 9 (replicate 255 0) unmoved ∷ refuses 2 line 2 4097 accepted [] ∷ []

pub denied_hold : slept denied ≡ true
unfolding slept same_calls same_events night turns trials first_done needs_line bits state_from events_from step outcome decide differ differ_row plan_of afters after overlay rows_of all_from all_at_most pairs_ok entry_ok head_ok well_formed values_ok present hops base_row agrees begins state_numbers denied
denied_hold = refl

-- ---- two outcomes for each, in log order, of the validation and of the push of the change
pub placed : List Row
placed =
    sleeps two 9 accepted 8 0 (takes 2 (takes 1 [])) (reads 3 9 9 9 ∷ stand 2 2 2 2 2 2 2 2 2 ∷ [])
    ∷ sleeps two 9 (rejecting_at 0) 6 0 (takes 2 (does 1 1 1 Failed ∷ does 1 1 1 InProgress ∷ [])) (reads 3 9 9 9 ∷ shows 1 1 1 Failed ∷ stand 2 2 2 2 1 2 2 2 1 ∷ [])
    ∷ sleeps two 9 (rejecting_at 1) 7 0 (does 2 2 0 Aborted ∷ goes 1 2 (does 2 1 1 Failed ∷ does 2 1 1 InProgress ∷ goes 1 1 [])) (reads 3 9 0 0 ∷ shows 1 2 1 Failed ∷ shows 1 2 2 Aborted ∷ stand 2 2 2 2 2 2 2 0 2 ∷ [])
    ∷ sleeps two 9 (rejecting_at 2) 6 0 (does 1 2 1 Failed ∷ does 1 2 1 InProgress ∷ takes 1 []) (reads 3 7 7 7 ∷ shows 1 1 2 Failed ∷ stand 2 2 2 1 1 1 1 1 1 ∷ [])
    ∷ sleeps two 9 (rejecting_at 3) 8 0 (does 2 2 1 Failed ∷ does 2 2 1 InProgress ∷ goes 1 2 (takes 1 [])) (reads 3 9 7 7 ∷ shows 1 2 2 Failed ∷ stand 2 2 2 2 2 2 2 1 2 ∷ [])
    ∷ sleeps two 9 rejecting 4 0 (does 1 2 1 Failed ∷ does 1 2 1 InProgress ∷ does 1 1 1 Failed ∷ does 1 1 1 InProgress ∷ []) (reads 3 0 0 0 ∷ stand 2 2 2 0 0 0 0 0 0 ∷ []) ∷ []

pub placed_hold : slept placed ≡ true
unfolding slept same_calls same_events night turns trials first_done needs_line bits state_from events_from step outcome decide differ differ_row plan_of afters after overlay rows_of all_from all_at_most pairs_ok entry_ok head_ok well_formed values_ok present hops base_row agrees begins state_numbers placed
placed_hold = refl

-- the last two places are those of the 128th
pub last_placed : Bool
last_placed =
    (eqb (outcome_at (rejecting_at 254) 1 128) 1 && eqb (outcome_at (rejecting_at 254) 2 128) 0)
    && (eqb (outcome_at (rejecting_at 255) 2 128) 1 && eqb (outcome_at (rejecting_at 255) 1 128) 0)

pub last_placed_hold : last_placed ≡ true
unfolding last_placed
last_placed_hold = refl

-- ---- order 10: numbers and places are of those that are kept
pub kept_only : List Row
kept_only =
    sleeps folded 9 accepted 8 0 (takes 3 (takes 2 [])) (reads 3 9 9 9 ∷ stand 3 3 3 3 3 3 3 3 3 ∷ [])
    ∷ sleeps folded 9 (rejecting_at 0) 6 0 (takes 3 (does 1 2 1 Failed ∷ does 1 2 1 InProgress ∷ [])) (reads 3 9 9 9 ∷ shows 1 1 2 Failed ∷ stand 3 3 3 3 2 3 3 3 2 ∷ [])
    ∷ sleeps folded 9 (rejecting_at 3) 8 0 (does 2 3 1 Failed ∷ does 2 3 1 InProgress ∷ goes 1 3 (takes 2 [])) (reads 3 9 8 8 ∷ shows 1 2 3 Failed ∷ [])
    ∷ sleeps folded 7 accepted 7 2 (does 2 3 0 InProgress ∷ goes 1 3 (takes 2 [])) [] ∷ []

pub kept_only_hold : slept kept_only ≡ true
unfolding slept same_calls same_events night turns trials first_done needs_line bits state_from events_from step outcome decide differ differ_row plan_of afters after overlay rows_of all_from all_at_most pairs_ok entry_ok head_ok well_formed values_ok present hops base_row agrees begins state_numbers kept_only
kept_only_hold = refl

-- ---- rollback pushes count as accepted, whatever the table says
pub rollbacks : List Row
rollbacks =
    sleeps (rolling line) 9 rejecting 6 0 (goes 4 1 (goes 3 1 (does 2 1 1 Failed ∷ does 2 1 1 InProgress ∷ []))) (reads 3 0 0 0 ∷ shows 2 2 1 Complete ∷ stand 1 1 0 0 2 1 0 0 2 ∷ [])
    ∷ sleeps (rolling line) 9 (rejecting_at 0) 6 0 (goes 4 1 (goes 3 1 (goes 2 1 []))) (reads 3 0 0 0 ∷ shows 1 2 1 Complete ∷ shows 2 2 1 Complete ∷ stand 1 1 0 0 2 1 0 0 2 ∷ []) ∷ []

pub rollbacks_hold : slept rollbacks ≡ true
unfolding slept same_calls same_events night turns trials first_done needs_line bits state_from events_from step outcome decide differ differ_row plan_of afters after overlay rows_of all_from all_at_most pairs_ok entry_ok head_ok well_formed values_ok present hops base_row agrees begins state_numbers rollbacks
rollbacks_hold = refl

-- ---- each turn: numbers upward, jobs 1 to 4 for each, the first that isn't refused
pub upward : List Row
upward =
    sleeps halfway 9 accepted 6 0 (takes 2 (goes 2 1 [])) [] ∷ sleeps (change 9 ∷ rolling line) 10 accepted 10 0 (takes 2 (goes 4 1 (goes 3 1 (goes 2 1 [])))) []
    ∷ sleeps (rollback 2 ∷ rollback 1 ∷ committed) 12 accepted 12 0 (goes 4 1 (goes 4 2 (goes 3 1 (goes 3 2 (goes 2 2 (goes 2 1 [])))))) (reads 3 0 0 0 ∷ stand 1 2 0 0 4 1 0 0 4 ∷ [])
    ∷ sleeps (rollback 1 ∷ committed) 9 accepted 4 0 (goes 2 2 (goes 2 1 [])) (shows 2 1 1 Pending ∷ shows 2 2 1 Pending ∷ stand 2 2 2 2 2 2 2 2 2 ∷ []) ∷ []

pub upward_hold : slept upward ≡ true
unfolding slept same_calls same_events night turns trials first_done needs_line bits state_from events_from step outcome decide differ differ_row plan_of afters after overlay rows_of all_from all_at_most pairs_ok entry_ok head_ok well_formed values_ok present hops base_row agrees begins state_numbers upward
upward_hold = refl

-- ---- each turn gives its job's event: none where a job that was cut leaves it one store
pub closing : List Row
closing =
    sleeps (work 1 1 1 0 1 ∷ one) 2 accepted 2 2 (does 1 1 0 Complete ∷ closes 1 1 0 ∷ []) (shows 1 1 1 Complete ∷ stand 1 1 1 1 1 0 0 0 0 ∷ [])
    ∷ sleeps (work 1 1 1 1 1 ∷ work 1 1 1 0 0 ∷ one) 9 accepted 1 0 (closes 1 1 0 ∷ []) (shows 1 1 1 Failed ∷ stand 1 1 1 0 0 0 0 0 0 ∷ [])
    ∷ sleeps (work 1 2 1 0 2 ∷ work 1 2 1 0 0 ∷ rolling line) 9 accepted 5 0 (goes 4 1 (goes 3 1 (closes 2 1 0 ∷ []))) (shows 1 2 1 Complete ∷ shows 2 2 1 Complete ∷ [])
    ∷ sleeps (work 1 2 1 0 1 ∷ work 1 2 1 0 0 ∷ rolling line) 9 accepted 5 0 (goes 4 1 (goes 3 1 (does 2 1 0 Complete ∷ []))) (reads 3 0 0 0 ∷ shows 1 2 1 Complete ∷ shows 2 2 1 Complete ∷ []) ∷ []

pub closing_hold : slept closing ≡ true
unfolding slept same_calls same_events night turns trials first_done needs_line bits state_from events_from step outcome decide differ differ_row plan_of afters after overlay rows_of all_from all_at_most pairs_ok entry_ok head_ok well_formed values_ok present hops base_row agrees begins state_numbers closing
closing_hold = refl

-- ---- the jobs done: as many as the budget, or fewer where none is left
pub counted : List Row
counted =
    sleeps (rolling line) 0 accepted 0 2 [] (shows 1 2 1 Pending ∷ stand 1 1 1 1 1 0 0 0 0 ∷ []) ∷ sleeps (rolling line) 1 accepted 1 2 (does 2 1 0 InProgress ∷ []) (shows 1 2 1 InProgress ∷ stand 1 1 1 1 1 0 1 0 0 ∷ [])
    ∷ sleeps (rolling line) 5 accepted 5 2 (does 4 1 0 InProgress ∷ goes 3 1 (goes 2 1 [])) (shows 2 2 1 InProgress ∷ []) ∷ sleeps (rolling line) 6 accepted 6 0 (goes 4 1 (goes 3 1 (goes 2 1 []))) []
    ∷ sleeps (rolling line) 7 accepted 6 0 (goes 4 1 (goes 3 1 (goes 2 1 []))) [] ∷ of (fresh false) (change 7 ∷ master 8 ∷ connect 8 ∷ start ∷ []) 8 2 accepted 0 2 2 (goes 1 1 []) (shows 1 1 1 Complete ∷ []) ∷ []

pub counted_hold : slept counted ≡ true
unfolding slept same_calls same_events night turns trials first_done needs_line bits state_from events_from step outcome decide differ differ_row plan_of afters after overlay rows_of all_from all_at_most pairs_ok entry_ok head_ok well_formed values_ok present hops base_row agrees begins state_numbers counted
counted_hold = refl

-- ---- why it stopped: 2 where a job could still go; else 1 where some job is refused with 12, at the first number, the last or the
-- only one, and 0 where none is
pub stopping : List Row
stopping =
    sleeps (change 7 ∷ led) 9 accepted 3 1 (does 2 1 0 InProgress ∷ goes 1 1 []) (shows 1 2 1 InProgress ∷ []) ∷ sleeps (change 7 ∷ led) 3 accepted 3 1 (does 2 1 0 InProgress ∷ goes 1 1 []) []
    ∷ sleeps (change 7 ∷ led) 2 accepted 2 2 (goes 1 1 []) [] ∷ sleeps (change 7 ∷ led) 9 rejecting 2 0 (does 1 1 1 Failed ∷ does 1 1 1 InProgress ∷ []) []
    ∷ sleeps (rolling led) 9 accepted 5 1 (does 4 1 0 InProgress ∷ does 2 1 0 Failed ∷ goes 3 1 (does 2 1 0 InProgress ∷ [])) (shows 2 2 1 InProgress ∷ [])
    ∷ sleeps (change 9 ∷ change 7 ∷ led) 9 accepted 5 1 (goes 1 2 (does 2 1 0 InProgress ∷ goes 1 1 [])) [] ∷ sleeps (change 9 ∷ change 7 ∷ led) 4 accepted 4 2 (does 1 2 0 InProgress ∷ does 2 1 0 InProgress ∷ goes 1 1 []) []
    ∷ sleeps (disconnect 1 ∷ through 2 1 halfway) 9 accepted 3 1 (does 2 2 0 InProgress ∷ goes 1 2 []) []
    ∷ sleeps (disconnect 1 ∷ work 1 2 1 0 0 ∷ through 1 1 one) 0 accepted 0 1 [] [] ∷ sleeps (disconnect 1 ∷ through 2 1 (through 1 1 one)) 0 accepted 0 0 [] [] ∷ []

pub stopping_hold : slept stopping ≡ true
unfolding slept same_calls same_events night turns trials first_done needs_line bits state_from events_from step outcome decide differ differ_row plan_of afters after overlay rows_of all_from all_at_most pairs_ok entry_ok head_ok well_formed values_ok present hops base_row agrees begins state_numbers stopping
stopping_hold = refl

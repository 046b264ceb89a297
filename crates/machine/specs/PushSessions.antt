-- Order 8 on sessions, by computing: pushes of one pair, of two and of four, a group for each sentence of the order. In every line
-- a call is held after a session: its reply, what it is noted as, and what the state then shows. Assumes nothing.
use Rattle.std.specs.Prelude.{ℕ, zero, suc, List, [], ◌∷◌, Bool, true, false, not, ◌&&◌, ◌||◌, cond, ◌≡◌, refl, eqb, leb}
use Rattle.rules.specs.declared.Lay.{Lay}
use Rattle.rules.specs.declared.Lay.TheVariants.{Nothing, Values, Kept}
use Rattle.machine.specs.State.{State, fresh, entry_of}
use Rattle.machine.specs.Stores.{after, afters}
use Rattle.machine.specs.Rows.{overlay, rows_of}
use Rattle.machine.specs.Differ.{differ, differ_row}
use Rattle.machine.specs.Laid.{over, laid_over}
use Rattle.machine.specs.WellFormed.{all_from, all_at_most, pairs_ok, entry_ok, head_ok, well_formed}
use Rattle.machine.specs.LiveList.{hops}
use Rattle.machine.specs.Folding.{base_row}
use Rattle.machine.specs.Reads.{entry_numbers, state_numbers}
use Rattle.machine.specs.Calls.{Pair, Call, append, rollback, start, stop, connect, disconnect, master, sync, work, fold_to, values_ok, present, plan_of, decide}
use Rattle.rules.specs.declared.Order.{Order}
use Rattle.rules.specs.declared.Order.TheVariants.{Neither, EntryOnly, HeadOnly, EntryThenHead, HeadThenEntry, TargetThenHeadThenEntry}
use Rattle.machine.specs.Retry.{elsewhere, may_retry}
use Rattle.machine.specs.Step.{outcome, step, run, state_from}
use Rattle.machine.specs.Notes.{Note, nothing, wrote, half, full, note, notes}
use Rattle.machine.specs.Sessions.{Line, reads, marks, heads, nets, same_numbers, begins, agrees}

-- ---- a call, from a state and after these calls, the newest first: its reply as the five numbers that the program prints, what it
-- is noted as, and what the state then shows
pub data Row : Type 0 where
  of : State → List Call → Call → (answer phase stage number status : ℕ) → Note → List Line → Row

abbrev note_numbers : Note → List ℕ
note_numbers nothing = 0 ∷ 0 ∷ []
note_numbers wrote = 1 ∷ 0 ∷ []
note_numbers (half k) = 2 ∷ k ∷ []
note_numbers (full k) = 3 ∷ k ∷ []

abbrev same_note : Note → Note → Bool
same_note a b = begins (note_numbers a) (note_numbers b)

unfoldable pub made : List Row → Bool
made [] = true
made (of s cs c a p g i x n ls ∷ rs) =
    let t = state_from s cs in
    let o = step t c in
    (same_numbers o.reply a p g i x && (same_note (note t c) n && agrees o.next ls)) && made rs

-- ---- calls, shorter
-- node 1 does a job after a session from fresh, and its event has this status; or it gives none
abbrev gives : List Call → (job number outcome cut status : ℕ) → Note → List Line → Row
gives cs j i r c x n ls = of (fresh false) cs (work 1 j i r c) 0 (cond (leb j 2) 1 2) (cond (eqb j 1 || eqb j 3) 1 2) i x n ls

abbrev quiet : List Call → (job number outcome cut : ℕ) → Note → List Line → Row
quiet cs j i r c n ls = of (fresh false) cs (work 1 j i r c) 0 0 0 0 0 n ls

-- a call that gives no event; and one that is refused, which is noted as nothing
abbrev accepts : List Call → Call → Note → List Line → Row
accepts cs c n ls = of (fresh false) cs c 0 0 0 0 0 n ls

abbrev refuses : (answer : ℕ) → List Call → Call → List Line → Row
refuses a cs c ls = of (fresh false) cs c a 0 0 0 0 nothing ls

-- Committed's index, change, target, revision and ordinal; Applied's index, target, revision and ordinal
abbrev pub stand : (i n g r o a t v u : ℕ) → Line
stand i n g r o a t v u = heads (i ∷ n ∷ g ∷ r ∷ o ∷ a ∷ t ∷ v ∷ u ∷ [])

-- c.commit, c.apply, r.commit and r.apply of an entry in a phase, by their numbers
abbrev pub statuses : (number phase commit apply ordinal rcommit rapply rordinal : ℕ) → Line
statuses i p c a o d b u = marks i (p ∷ c ∷ a ∷ o ∷ d ∷ b ∷ u ∷ [])

-- ---- sessions, the newest first
abbrev pub line : List Call
line = sync 1 ∷ sync 1 ∷ master 1 ∷ connect 1 ∷ start ∷ []

abbrev pub pair : ℕ → ℕ → Pair
pair p v = record { path = p; value = v }

-- a change of one pair, and one of four
abbrev pub one : List Call
one = append (pair 3 7 ∷ []) ∷ line

abbrev four : List Call
four = append (pair 3 7 ∷ pair 4 8 ∷ pair 5 9 ∷ pair 31 10 ∷ []) ∷ line

-- a job begun and ended
abbrev through : (job number : ℕ) → List Call → List Call
through j i cs = work 1 j i 0 0 ∷ work 1 j i 0 0 ∷ cs

-- 1 committed; begun to apply; applied
abbrev committed : List Call → List Call
committed cs = through 1 1 cs

abbrev pub begun : List Call → List Call
begun cs = work 1 2 1 0 0 ∷ committed cs

abbrev applied : List Call → List Call
applied cs = work 1 2 1 0 0 ∷ begun cs

-- its rollback committed; begun to apply
abbrev undone : List Call → List Call
undone cs = through 3 1 (rollback 1 ∷ cs)

abbrev returning : List Call → List Call
returning cs = work 1 4 1 0 0 ∷ undone (applied cs)

-- 2, of two pairs, lies over what 1 has set and has begun to apply; so has its rollback
abbrev laid_on : List Call
laid_on = work 1 2 2 0 0 ∷ through 1 2 (append (pair 3 11 ∷ pair 5 0 ∷ []) ∷ applied four)

abbrev lifted_off : List Call
lifted_off = work 1 4 2 0 0 ∷ through 3 2 (rollback 2 ∷ work 1 2 2 0 0 ∷ laid_on)

-- ---- an accepted push is three stores: with no cut all of them are made
pub whole : List Row
whole =
    gives (begun one) 2 1 0 0 3 (full 1) (stand 1 1 1 1 1 1 1 1 1 ∷ statuses 1 1 3 3 1 0 0 0 ∷ reads 3 7 7 7 ∷ reads 4 0 0 0 ∷ [])
    ∷ gives (begun four) 2 1 0 0 3 (full 1) (stand 1 1 1 1 1 1 1 1 1 ∷ statuses 1 1 3 3 1 0 0 0 ∷ reads 3 7 7 7 ∷ reads 4 8 8 8 ∷ reads 5 9 9 9 ∷ reads 31 10 10 10 ∷ [])
    ∷ gives laid_on 2 2 0 0 3 (full 2) (stand 2 2 2 2 2 2 2 2 2 ∷ statuses 2 1 3 3 2 0 0 0 ∷ reads 3 11 11 11 ∷ reads 4 8 8 8 ∷ reads 5 0 0 0 ∷ reads 31 10 10 10 ∷ [])
    ∷ gives (returning one) 4 1 0 0 3 (full 1) (stand 1 1 0 0 2 1 0 0 2 ∷ statuses 1 2 3 3 1 3 3 2 ∷ reads 3 0 0 0 ∷ [])
    ∷ gives (returning four) 4 1 0 0 3 (full 1) (stand 1 1 0 0 2 1 0 0 2 ∷ statuses 1 2 3 3 1 3 3 2 ∷ reads 3 0 0 0 ∷ reads 4 0 0 0 ∷ reads 5 0 0 0 ∷ reads 31 0 0 0 ∷ [])
    ∷ gives lifted_off 4 2 0 0 3 (full 2) (stand 2 2 1 1 3 2 1 1 3 ∷ statuses 2 2 3 3 2 3 3 3 ∷ reads 3 7 7 7 ∷ reads 4 8 8 8 ∷ reads 5 9 9 9 ∷ reads 31 10 10 10 ∷ []) ∷ []

pub whole_hold : made whole ≡ true
unfolding made state_from step outcome decide differ differ_row plan_of afters after overlay rows_of all_from all_at_most pairs_ok entry_ok head_ok well_formed values_ok present agrees begins entry_numbers state_numbers whole
whole_hold = refl

-- ---- cut 1 keeps only the first store, the target's
pub first_only : List Row
first_only =
    quiet (begun one) 2 1 0 1 (half 1) (stand 1 1 1 1 1 0 1 0 0 ∷ statuses 1 1 3 2 1 0 0 0 ∷ reads 3 7 0 7 ∷ reads 4 0 0 0 ∷ [])
    ∷ quiet (begun four) 2 1 0 1 (half 1) (stand 1 1 1 1 1 0 1 0 0 ∷ statuses 1 1 3 2 1 0 0 0 ∷ reads 3 7 0 7 ∷ reads 4 8 0 8 ∷ reads 5 9 0 9 ∷ reads 31 10 0 10 ∷ [])
    ∷ quiet laid_on 2 2 0 1 (half 2) (stand 2 2 2 2 2 1 2 1 1 ∷ statuses 2 1 3 2 2 0 0 0 ∷ reads 3 11 7 11 ∷ reads 4 8 8 8 ∷ reads 5 0 9 0 ∷ reads 31 10 10 10 ∷ [])
    ∷ quiet (returning one) 4 1 0 1 (half 1) (stand 1 1 0 0 2 1 0 1 1 ∷ statuses 1 2 3 3 1 3 2 2 ∷ reads 3 0 7 0 ∷ [])
    ∷ quiet (returning four) 4 1 0 1 (half 1) (stand 1 1 0 0 2 1 0 1 1 ∷ statuses 1 2 3 3 1 3 2 2 ∷ reads 3 0 7 0 ∷ reads 4 0 8 0 ∷ reads 5 0 9 0 ∷ reads 31 0 10 0 ∷ [])
    ∷ quiet lifted_off 4 2 0 1 (half 2) (stand 2 2 1 1 3 2 1 2 2 ∷ statuses 2 2 3 3 2 3 2 3 ∷ reads 3 7 11 7 ∷ reads 4 8 8 8 ∷ reads 5 9 0 9 ∷ reads 31 10 10 10 ∷ []) ∷ []

pub first_only_hold : made first_only ≡ true
unfolding made state_from step outcome decide differ differ_row plan_of afters after overlay rows_of all_from all_at_most pairs_ok entry_ok head_ok well_formed values_ok present agrees begins entry_numbers state_numbers first_only
first_only_hold = refl

-- ---- cut 2 keeps the first two: the status is left
pub first_two : List Row
first_two =
    gives (begun one) 2 1 0 2 3 (full 1) (stand 1 1 1 1 1 1 1 1 1 ∷ statuses 1 1 3 2 1 0 0 0 ∷ reads 3 7 7 7 ∷ reads 4 0 0 0 ∷ [])
    ∷ gives (begun four) 2 1 0 2 3 (full 1) (stand 1 1 1 1 1 1 1 1 1 ∷ statuses 1 1 3 2 1 0 0 0 ∷ reads 3 7 7 7 ∷ reads 4 8 8 8 ∷ reads 5 9 9 9 ∷ reads 31 10 10 10 ∷ [])
    ∷ gives laid_on 2 2 0 2 3 (full 2) (stand 2 2 2 2 2 2 2 2 2 ∷ statuses 2 1 3 2 2 0 0 0 ∷ reads 3 11 11 11 ∷ reads 4 8 8 8 ∷ reads 5 0 0 0 ∷ reads 31 10 10 10 ∷ [])
    ∷ gives (returning one) 4 1 0 2 3 (full 1) (stand 1 1 0 0 2 1 0 0 2 ∷ statuses 1 2 3 3 1 3 2 2 ∷ reads 3 0 0 0 ∷ [])
    ∷ gives (returning four) 4 1 0 2 3 (full 1) (stand 1 1 0 0 2 1 0 0 2 ∷ statuses 1 2 3 3 1 3 2 2 ∷ reads 3 0 0 0 ∷ reads 4 0 0 0 ∷ reads 5 0 0 0 ∷ reads 31 0 0 0 ∷ [])
    ∷ gives lifted_off 4 2 0 2 3 (full 2) (stand 2 2 1 1 3 2 1 1 3 ∷ statuses 2 2 3 3 2 3 2 3 ∷ reads 3 7 7 7 ∷ reads 4 8 8 8 ∷ reads 5 9 9 9 ∷ reads 31 10 10 10 ∷ []) ∷ []

pub first_two_hold : made first_two ≡ true
unfolding made state_from step outcome decide differ differ_row plan_of afters after overlay rows_of all_from all_at_most pairs_ok entry_ok head_ok well_formed values_ok present agrees begins entry_numbers state_numbers first_two
first_two_hold = refl

-- ---- the event comes with the second store of a push, and with the first of every other rule: a rejected one too
pub told : List Row
told =
    quiet (begun one) 2 1 0 1 (half 1) [] ∷ gives (begun one) 2 1 0 2 3 (full 1) [] ∷ gives (begun one) 2 1 0 0 3 (full 1) []
    ∷ gives (work 1 2 1 0 1 ∷ begun one) 2 1 0 0 3 (full 1) [] ∷ quiet (work 1 2 1 0 2 ∷ begun one) 2 1 0 0 nothing []
    ∷ quiet (returning one) 4 1 0 1 (half 1) [] ∷ gives (returning one) 4 1 0 2 3 (full 1) [] ∷ gives (returning one) 4 1 0 0 3 (full 1) []
    ∷ gives (work 1 4 1 0 1 ∷ returning one) 4 1 0 0 3 (full 1) [] ∷ quiet (work 1 4 1 0 2 ∷ returning one) 4 1 0 0 nothing []
    ∷ gives one 1 1 0 1 2 nothing [] ∷ gives (work 1 1 1 0 0 ∷ one) 1 1 0 1 3 nothing [] ∷ gives (work 1 1 1 0 0 ∷ one) 1 1 1 1 6 nothing []
    ∷ gives (committed one) 2 1 0 1 2 nothing [] ∷ gives (begun one) 2 1 1 1 6 nothing [] ∷ gives (undone (committed one)) 2 1 0 1 4 nothing []
    ∷ gives (rollback 1 ∷ committed one) 3 1 0 1 2 nothing [] ∷ gives (work 1 3 1 0 0 ∷ rollback 1 ∷ committed one) 3 1 0 1 3 nothing []
    ∷ gives (undone (applied one)) 4 1 0 1 2 nothing [] ∷ gives (work 1 2 1 0 0 ∷ undone (committed one)) 4 1 0 1 5 nothing [] ∷ []

pub told_hold : made told ≡ true
unfolding made state_from step outcome decide differ differ_row plan_of afters after overlay rows_of all_from all_at_most pairs_ok entry_ok head_ok well_formed values_ok present agrees begins told
told_hold = refl

-- ---- cut may be 0, 1 or 2; above 2 is 2, before 5, 10, 11, 12 and 13
pub cuts : List Row
cuts =
    refuses 2 (begun one) (work 1 2 1 0 3) (stand 1 1 1 1 1 0 1 0 0 ∷ statuses 1 1 3 2 1 0 0 0 ∷ reads 3 7 0 0 ∷ []) ∷ refuses 2 (begun one) (work 1 2 1 0 256) (reads 3 7 0 0 ∷ [])
    ∷ refuses 2 (returning one) (work 1 4 1 0 3) (stand 1 1 0 0 2 1 0 1 1 ∷ statuses 1 2 3 3 1 3 2 2 ∷ reads 3 0 7 7 ∷ []) ∷ refuses 2 (returning one) (work 1 4 1 1 3) (reads 3 0 7 7 ∷ [])
    ∷ refuses 2 one (work 1 1 1 0 3) (stand 0 0 0 0 0 0 0 0 0 ∷ statuses 1 1 1 1 0 0 0 0 ∷ []) ∷ refuses 2 (rollback 1 ∷ applied one) (work 1 3 1 0 3) (statuses 1 2 3 3 1 1 1 0 ∷ [])
    ∷ refuses 2 one (work 1 1 2 0 3) [] ∷ refuses 2 one (work 2 1 1 0 3) [] ∷ refuses 2 one (work 1 2 1 0 3) [] ∷ refuses 2 (disconnect 1 ∷ begun one) (work 1 2 1 0 3) []
    ∷ refuses 5 one (work 1 1 2 0 2) [] ∷ refuses 10 one (work 2 1 1 0 2) [] ∷ refuses 11 one (work 1 2 1 0 2) [] ∷ refuses 12 (disconnect 1 ∷ begun one) (work 1 2 1 0 2) (reads 3 7 0 0 ∷ [])
    ∷ refuses 13 (returning one) (work 1 4 1 1 2) (reads 3 0 7 7 ∷ []) ∷ []

pub cuts_hold : made cuts ≡ true
unfolding made state_from step outcome decide differ differ_row plan_of afters after overlay rows_of all_from all_at_most pairs_ok entry_ok head_ok well_formed values_ok present agrees begins entry_numbers state_numbers cuts
cuts_hold = refl

-- ---- cut 2 does nothing special in rules with fewer than three stores
-- of two: both are made. Jobs 1 to 4 begun; 1 landed, and rejected; 2 rejected, and aborted; 3 landed; 4 canceled
pub of_two : List Row
of_two =
    gives one 1 1 0 2 2 nothing (stand 0 0 1 0 0 0 0 0 0 ∷ statuses 1 1 2 1 0 0 0 0 ∷ []) ∷ gives (work 1 1 1 0 0 ∷ one) 1 1 0 2 3 nothing (stand 1 1 1 1 1 0 0 0 0 ∷ statuses 1 1 3 1 1 0 0 0 ∷ reads 3 7 0 0 ∷ [])
    ∷ gives (work 1 1 1 0 0 ∷ one) 1 1 1 2 6 nothing (stand 1 1 1 0 0 0 0 0 0 ∷ statuses 1 1 6 5 0 0 0 0 ∷ reads 3 0 0 0 ∷ [])
    ∷ gives (committed one) 2 1 0 2 2 nothing (stand 1 1 1 1 1 0 1 0 0 ∷ statuses 1 1 3 2 1 0 0 0 ∷ reads 3 7 0 0 ∷ [])
    ∷ gives (begun one) 2 1 1 2 6 nothing (stand 1 1 1 1 1 1 1 0 1 ∷ statuses 1 1 3 6 1 0 0 0 ∷ reads 3 7 0 0 ∷ [])
    ∷ gives (undone (committed one)) 2 1 0 2 4 nothing (stand 1 1 0 0 2 1 1 0 1 ∷ statuses 1 2 3 4 1 3 1 2 ∷ reads 3 0 0 0 ∷ [])
    ∷ gives (rollback 1 ∷ applied one) 3 1 0 2 2 nothing (stand 1 1 0 1 1 1 1 1 1 ∷ statuses 1 2 3 3 1 2 1 0 ∷ reads 3 7 7 7 ∷ [])
    ∷ gives (work 1 3 1 0 0 ∷ rollback 1 ∷ applied one) 3 1 0 2 3 nothing (stand 1 1 0 0 2 1 1 1 1 ∷ statuses 1 2 3 3 1 3 1 2 ∷ reads 3 0 7 7 ∷ [])
    ∷ gives (undone (applied one)) 4 1 0 2 2 nothing (stand 1 1 0 0 2 1 0 1 1 ∷ statuses 1 2 3 3 1 3 2 2 ∷ reads 3 0 7 7 ∷ [])
    ∷ gives (work 1 2 1 0 0 ∷ undone (committed one)) 4 1 0 2 5 nothing (stand 1 1 0 0 2 1 0 0 2 ∷ statuses 1 2 3 4 1 3 5 2 ∷ reads 3 0 0 0 ∷ []) ∷ []

pub of_two_hold : made of_two ≡ true
unfolding made state_from step outcome decide differ differ_row plan_of afters after overlay rows_of all_from all_at_most pairs_ok entry_ok head_ok well_formed values_ok present agrees begins entry_numbers state_numbers of_two
of_two_hold = refl

-- of one, which is what a cut left: it is made. The status that begins jobs 1 to 4, and the one that ends them; the closing store
-- of a rejected commit, of a rejected push, of an abort and of a cancel
pub of_one : List Row
of_one =
    quiet (work 1 1 1 0 1 ∷ one) 1 1 0 2 nothing (stand 0 0 1 0 0 0 0 0 0 ∷ statuses 1 1 2 1 0 0 0 0 ∷ []) ∷ quiet (work 1 1 1 0 1 ∷ work 1 1 1 0 0 ∷ one) 1 1 0 2 nothing (stand 1 1 1 1 1 0 0 0 0 ∷ statuses 1 1 3 1 1 0 0 0 ∷ [])
    ∷ quiet (work 1 1 1 1 1 ∷ work 1 1 1 0 0 ∷ one) 1 1 0 2 nothing (stand 1 1 1 0 0 0 0 0 0 ∷ statuses 1 1 6 5 0 0 0 0 ∷ [])
    ∷ quiet (work 1 2 1 0 1 ∷ committed one) 2 1 0 2 nothing (stand 1 1 1 1 1 0 1 0 0 ∷ statuses 1 1 3 2 1 0 0 0 ∷ reads 3 7 0 0 ∷ [])
    ∷ quiet (work 1 2 1 0 2 ∷ begun one) 2 1 0 2 nothing (stand 1 1 1 1 1 1 1 1 1 ∷ statuses 1 1 3 3 1 0 0 0 ∷ reads 3 7 7 7 ∷ [])
    ∷ quiet (work 1 2 1 1 1 ∷ begun one) 2 1 0 2 nothing (stand 1 1 1 1 1 1 1 0 1 ∷ statuses 1 1 3 6 1 0 0 0 ∷ reads 3 7 0 0 ∷ [])
    ∷ quiet (work 1 2 1 0 1 ∷ undone (committed one)) 2 1 0 2 nothing (stand 1 1 0 0 2 1 1 0 1 ∷ statuses 1 2 3 4 1 3 1 2 ∷ [])
    ∷ quiet (work 1 3 1 0 1 ∷ rollback 1 ∷ applied one) 3 1 0 2 nothing (stand 1 1 0 1 1 1 1 1 1 ∷ statuses 1 2 3 3 1 2 1 0 ∷ [])
    ∷ quiet (work 1 3 1 0 1 ∷ work 1 3 1 0 0 ∷ rollback 1 ∷ applied one) 3 1 0 2 nothing (stand 1 1 0 0 2 1 1 1 1 ∷ statuses 1 2 3 3 1 3 1 2 ∷ reads 3 0 7 7 ∷ [])
    ∷ quiet (work 1 4 1 0 1 ∷ undone (applied one)) 4 1 0 2 nothing (stand 1 1 0 0 2 1 0 1 1 ∷ statuses 1 2 3 3 1 3 2 2 ∷ reads 3 0 7 7 ∷ [])
    ∷ quiet (work 1 4 1 0 2 ∷ returning one) 4 1 0 2 nothing (stand 1 1 0 0 2 1 0 0 2 ∷ statuses 1 2 3 3 1 3 3 2 ∷ reads 3 0 0 0 ∷ [])
    ∷ quiet (work 1 4 1 0 1 ∷ work 1 2 1 0 0 ∷ undone (committed one)) 4 1 0 2 nothing (stand 1 1 0 0 2 1 0 0 2 ∷ statuses 1 2 3 4 1 3 5 2 ∷ []) ∷ []

pub of_one_hold : made of_one ≡ true
unfolding made state_from step outcome decide differ differ_row plan_of afters after overlay rows_of all_from all_at_most pairs_ok entry_ok head_ok well_formed values_ok present agrees begins entry_numbers state_numbers of_one
of_one_hold = refl

-- ---- called again: after the first of three stores, with the line open and the same outcome, it ends as the uncut job; cut again, it
-- stands where it stood; rejected, it is Failed with the pairs on the switch; after the second, whatever outcome, cut and line, it
-- stores the status and tells nothing
pub again : List Row
again =
    gives (work 1 2 1 0 1 ∷ begun four) 2 1 0 0 3 (full 1) (stand 1 1 1 1 1 1 1 1 1 ∷ statuses 1 1 3 3 1 0 0 0 ∷ reads 3 7 7 7 ∷ reads 4 8 8 8 ∷ reads 5 9 9 9 ∷ reads 31 10 10 10 ∷ [])
    ∷ gives (disconnect 2 ∷ connect 2 ∷ work 1 2 1 0 1 ∷ begun one) 2 1 0 0 3 (full 1) (stand 1 1 1 1 1 1 1 1 1 ∷ statuses 1 1 3 3 1 0 0 0 ∷ reads 3 7 7 7 ∷ [])
    ∷ quiet (work 1 2 1 0 1 ∷ begun one) 2 1 0 1 (half 1) (stand 1 1 1 1 1 0 1 0 0 ∷ statuses 1 1 3 2 1 0 0 0 ∷ reads 3 7 0 7 ∷ [])
    ∷ gives (work 1 2 1 0 1 ∷ begun one) 2 1 0 2 3 (full 1) (stand 1 1 1 1 1 1 1 1 1 ∷ statuses 1 1 3 2 1 0 0 0 ∷ reads 3 7 7 7 ∷ [])
    ∷ gives (work 1 2 1 0 1 ∷ begun one) 2 1 1 0 6 nothing (stand 1 1 1 1 1 1 1 0 1 ∷ statuses 1 1 3 6 1 0 0 0 ∷ reads 3 7 0 7 ∷ [])
    ∷ refuses 12 (disconnect 1 ∷ work 1 2 1 0 1 ∷ begun one) (work 1 2 1 0 0) (stand 1 1 1 1 1 0 1 0 0 ∷ statuses 1 1 3 2 1 0 0 0 ∷ reads 3 7 0 7 ∷ [])
    ∷ quiet (work 1 2 1 0 2 ∷ begun four) 2 1 1 1 nothing (stand 1 1 1 1 1 1 1 1 1 ∷ statuses 1 1 3 3 1 0 0 0 ∷ reads 3 7 7 7 ∷ reads 4 8 8 8 ∷ reads 5 9 9 9 ∷ reads 31 10 10 10 ∷ [])
    ∷ quiet (disconnect 1 ∷ work 1 2 1 0 2 ∷ begun one) 2 1 0 0 nothing (stand 1 1 1 1 1 1 1 1 1 ∷ statuses 1 1 3 3 1 0 0 0 ∷ reads 3 7 7 7 ∷ [])
    ∷ gives (work 1 4 2 0 1 ∷ lifted_off) 4 2 0 0 3 (full 2) (stand 2 2 1 1 3 2 1 1 3 ∷ statuses 2 2 3 3 2 3 3 3 ∷ reads 3 7 7 7 ∷ reads 5 9 9 9 ∷ [])
    ∷ quiet (work 1 4 1 0 1 ∷ returning one) 4 1 0 1 (half 1) (stand 1 1 0 0 2 1 0 1 1 ∷ statuses 1 2 3 3 1 3 2 2 ∷ reads 3 0 7 0 ∷ [])
    ∷ refuses 13 (work 1 4 1 0 1 ∷ returning one) (work 1 4 1 1 0) (stand 1 1 0 0 2 1 0 1 1 ∷ statuses 1 2 3 3 1 3 2 2 ∷ reads 3 0 7 0 ∷ [])
    ∷ gives (undone (work 1 2 1 0 1 ∷ begun one)) 2 1 0 0 6 nothing (stand 1 1 0 0 2 1 1 0 1 ∷ statuses 1 2 3 6 1 3 1 2 ∷ reads 3 0 0 7 ∷ [])
    ∷ gives (disconnect 1 ∷ undone (work 1 2 1 0 1 ∷ begun one)) 2 1 0 0 6 nothing (statuses 1 2 3 6 1 3 1 2 ∷ reads 3 0 0 7 ∷ [])
    ∷ refuses 12 (disconnect 1 ∷ work 1 4 1 0 1 ∷ returning one) (work 1 4 1 0 0) (reads 3 0 7 0 ∷ [])
    ∷ quiet (disconnect 1 ∷ work 1 4 2 0 2 ∷ lifted_off) 4 2 1 1 nothing (stand 2 2 1 1 3 2 1 1 3 ∷ statuses 2 2 3 3 2 3 3 3 ∷ reads 3 7 7 7 ∷ reads 5 9 9 9 ∷ []) ∷ []

pub again_hold : made again ≡ true
unfolding made state_from step outcome decide differ differ_row plan_of afters after overlay rows_of all_from all_at_most pairs_ok entry_ok head_ok well_formed values_ok present agrees begins entry_numbers state_numbers again
again_hold = refl

-- ---- the line lost after a cut at the first store: the synchronise that wrote puts the applied values there; the pairs come with the
-- push that follows
abbrev lost : List Call
lost = connect 1 ∷ master 1 ∷ disconnect 1 ∷ work 1 2 1 0 1 ∷ begun one

pub rewritten : List Row
rewritten =
    refuses 12 (disconnect 1 ∷ work 1 2 1 0 1 ∷ begun one) (work 1 2 1 0 0) (reads 3 7 0 7 ∷ [])
    ∷ accepts (master 1 ∷ lost) (sync 1) nothing (nets (2 ∷ 1 ∷ 1 ∷ 2 ∷ []) ∷ reads 3 7 0 7 ∷ []) ∷ of (fresh false) (sync 1 ∷ master 1 ∷ lost) (sync 1) 0 0 0 1 0 wrote (nets (3 ∷ 2 ∷ 1 ∷ 2 ∷ []) ∷ stand 1 1 1 1 1 0 1 0 0 ∷ reads 3 7 0 0 ∷ [])
    ∷ gives (sync 1 ∷ sync 1 ∷ master 1 ∷ lost) 2 1 0 0 3 (full 1) (stand 1 1 1 1 1 1 1 1 1 ∷ statuses 1 1 3 3 1 0 0 0 ∷ reads 3 7 7 7 ∷ [])
    ∷ accepts (work 1 2 1 0 1 ∷ begun one) stop nothing (reads 3 7 0 0 ∷ []) ∷ []

pub rewritten_hold : made rewritten ≡ true
unfolding made state_from step outcome decide differ differ_row plan_of afters after overlay rows_of all_from all_at_most pairs_ok entry_ok head_ok well_formed values_ok present agrees begins entry_numbers state_numbers rewritten
rewritten_hold = refl

-- ---- a fold beside a cut push: not while it is the next, and of what lies below it once it has ended Failed
pub cut_above : List Row
cut_above =
    refuses 17 (work 1 2 2 0 1 ∷ laid_on) (fold_to 1) (reads 3 11 7 11 ∷ [])
    ∷ accepts (work 1 2 2 1 0 ∷ work 1 2 2 0 1 ∷ laid_on) (fold_to 1) nothing (stand 2 2 2 2 2 2 2 1 2 ∷ statuses 2 1 3 6 2 0 0 0 ∷ reads 3 11 7 11 ∷ [])
    ∷ refuses 17 (work 1 2 2 1 0 ∷ work 1 2 2 0 1 ∷ laid_on) (fold_to 2) (reads 3 11 7 11 ∷ []) ∷ []

pub cut_above_hold : made cut_above ≡ true
unfolding made state_from step outcome decide differ differ_row plan_of afters after overlay rows_of all_from all_at_most pairs_ok entry_ok head_ok well_formed values_ok present hops base_row agrees begins entry_numbers state_numbers cut_above
cut_above_hold = refl

-- ---- the target holds the applied values, or those overlaid with a transaction's pairs or with its rollback values
-- whether, after these calls, it is the first, the second and the third of them, of this transaction
pub data Held : Type 0 where
  by : List Call → (number : ℕ) → (applied pairs kept : Bool) → Held

abbrev same_values : List ℕ → List ℕ → Bool
same_values a b = begins a b && begins b a

abbrev laid_by : State → ℕ → Lay → Bool
laid_by s k v = same_values s.net.values (laid_over v (entry_of s.log k) s.applied.values)

abbrev same_bool : Bool → Bool → Bool
same_bool true b = b
same_bool false b = not b

unfoldable pub held : List Held → Bool
held [] = true
held (by cs k a p v ∷ hs) =
    let s = state_from (fresh false) cs in
    (same_bool (laid_by s k Nothing) a && (same_bool (laid_by s k Values) p && same_bool (laid_by s k Kept) v)) && held hs

-- 2 beside what 1 has set, path 0 among it: pairs in unused places would show
abbrev beside : List Call
beside = work 1 2 2 0 0 ∷ through 1 2 (append (pair 3 11 ∷ pair 4 12 ∷ pair 5 13 ∷ []) ∷ applied (append (pair 0 5 ∷ pair 3 7 ∷ pair 4 8 ∷ pair 5 9 ∷ []) ∷ line))

-- its rollback begun, and its push
abbrev off : List Call → List Call
off cs = work 1 4 2 0 0 ∷ through 3 2 (rollback 2 ∷ cs)

pub shapes : List Held
shapes =
    by (begun one) 1 true false true ∷ by (work 1 2 1 0 1 ∷ begun one) 1 false true false ∷ by (work 1 2 1 0 2 ∷ begun one) 1 true true false
    ∷ by (work 1 2 1 0 0 ∷ work 1 2 1 0 1 ∷ begun one) 1 true true false ∷ by (work 1 2 1 1 0 ∷ work 1 2 1 0 1 ∷ begun one) 1 false true false
    ∷ by (begun four) 1 true false true ∷ by (work 1 2 1 0 1 ∷ begun four) 1 false true false ∷ by (work 1 4 1 0 1 ∷ returning four) 1 false false true
    ∷ by beside 2 true false true ∷ by (work 1 2 2 0 1 ∷ beside) 2 false true false ∷ by (work 1 2 2 0 2 ∷ beside) 2 true true false
    ∷ by (off (work 1 2 2 0 0 ∷ beside)) 2 true true false ∷ by (work 1 4 2 0 1 ∷ off (work 1 2 2 0 0 ∷ beside)) 2 false false true
    ∷ by (work 1 4 2 0 2 ∷ off (work 1 2 2 0 0 ∷ beside)) 2 true false true
    ∷ by (work 1 2 2 1 0 ∷ work 1 2 2 0 1 ∷ beside) 2 false true false ∷ by (off (work 1 2 2 1 0 ∷ work 1 2 2 0 1 ∷ beside)) 2 false true false
    ∷ by (work 1 4 2 0 1 ∷ off (work 1 2 2 1 0 ∷ work 1 2 2 0 1 ∷ beside)) 2 true false true
    ∷ by (sync 1 ∷ sync 1 ∷ master 1 ∷ lost) 1 true false true ∷ []

pub shapes_hold : held shapes ≡ true
unfolding held over state_from step outcome decide differ differ_row plan_of afters after overlay rows_of all_from all_at_most pairs_ok entry_ok head_ok well_formed values_ok present begins shapes
shapes_hold = refl

-- ---- what the calls of a session are noted as: its calls with the notes, the newest first
pub data Noted : Type 0 where
  of : List Call → List Note → Noted

unfoldable pub same_notes : List Note → List Note → Bool
same_notes [] [] = true
same_notes [] (n ∷ ns) = false
same_notes (m ∷ ms) [] = false
same_notes (m ∷ ms) (n ∷ ns) = same_note m n && same_notes ms ns

unfoldable pub remembered : List Noted → Bool
remembered [] = true
remembered (of cs ns ∷ rs) = same_notes (notes false cs) ns && remembered rs

-- nothing, so many times
unfoldable pub silent : ℕ → List Note → List Note
silent zero ns = ns
silent (suc k) ns = nothing ∷ silent k ns

-- those of 1 begun to apply; of its rollback begun
abbrev on_line : List Note
on_line = wrote ∷ silent 4 []

abbrev at_begun : List Note
at_begun = silent 4 on_line

abbrev at_returning : List Note
at_returning = silent 4 (full 1 ∷ at_begun)

-- a push cut at its first store, and not so cut; a synchronise that wrote
pub pushing : List Noted
pushing =
    of line on_line ∷ of (begun one) at_begun ∷ of (work 1 2 1 0 0 ∷ begun one) (full 1 ∷ at_begun) ∷ of (work 1 2 1 0 1 ∷ begun one) (half 1 ∷ at_begun) ∷ of (work 1 2 1 0 2 ∷ begun one) (full 1 ∷ at_begun)
    ∷ of (work 1 2 1 0 0 ∷ work 1 2 1 0 1 ∷ work 1 2 1 0 1 ∷ begun one) (full 1 ∷ half 1 ∷ half 1 ∷ at_begun) ∷ of (returning one) at_returning
    ∷ of (work 1 4 1 0 0 ∷ returning one) (full 1 ∷ at_returning) ∷ of (work 1 4 1 0 1 ∷ returning one) (half 1 ∷ at_returning) ∷ of (work 1 4 1 0 2 ∷ returning one) (full 1 ∷ at_returning)
    ∷ of (work 1 2 2 0 1 ∷ laid_on) (half 2 ∷ silent 4 (full 1 ∷ at_begun)) ∷ of (work 1 4 2 0 1 ∷ lifted_off) (half 2 ∷ silent 4 (full 2 ∷ silent 4 (full 1 ∷ at_begun)))
    ∷ of (sync 1 ∷ sync 1 ∷ master 1 ∷ lost) (wrote ∷ silent 4 (nothing ∷ half 1 ∷ at_begun))
    ∷ of (work 2 2 1 0 0 ∷ work 2 2 1 0 1 ∷ work 2 2 1 0 0 ∷ work 2 1 1 0 0 ∷ work 2 1 1 0 0 ∷ append (pair 3 7 ∷ []) ∷ sync 2 ∷ sync 2 ∷ master 2 ∷ connect 2 ∷ start ∷ []) (full 1 ∷ half 1 ∷ at_begun) ∷ []

pub pushing_hold : remembered pushing ≡ true
unfolding remembered same_notes silent notes run step outcome decide differ differ_row plan_of afters after overlay rows_of all_from all_at_most pairs_ok entry_ok head_ok well_formed values_ok present begins pushing
pushing_hold = refl

-- every other call: each of the others, accepted; jobs of one store and of two, whatever their cut; a rejected push
pub quietly : List Noted
quietly =
    of (stop ∷ disconnect 2 ∷ connect 2 ∷ fold_to 1 ∷ applied one) (silent 4 (full 1 ∷ at_begun)) ∷ of (work 1 1 1 0 1 ∷ work 1 1 1 0 1 ∷ one) (silent 3 on_line)
    ∷ of (work 1 1 1 0 2 ∷ work 1 1 1 0 2 ∷ one) (silent 3 on_line) ∷ of (work 1 2 1 0 0 ∷ work 1 2 1 0 1 ∷ committed one) (silent 5 on_line) ∷ of (work 1 2 1 1 0 ∷ begun one) (silent 1 at_begun)
    ∷ of (work 1 2 1 0 0 ∷ work 1 2 1 0 2 ∷ begun one) (nothing ∷ full 1 ∷ at_begun) ∷ of (work 1 2 1 1 1 ∷ begun one) (silent 1 at_begun) ∷ of (work 1 2 1 0 0 ∷ work 1 2 1 1 1 ∷ begun one) (silent 2 at_begun)
    ∷ of (work 1 4 1 0 0 ∷ work 1 2 1 0 1 ∷ undone (committed one)) (silent 7 (silent 1 on_line)) ∷ of (work 1 4 1 0 1 ∷ work 1 4 1 0 1 ∷ work 1 2 1 0 0 ∷ undone (committed one)) (silent 9 on_line)
    ∷ of (work 1 4 1 0 0 ∷ work 1 4 1 0 2 ∷ returning one) (nothing ∷ full 1 ∷ at_returning) ∷ of (sync 2 ∷ master 2 ∷ master 1 ∷ disconnect 1 ∷ connect 2 ∷ line) (silent 5 on_line) ∷ []

pub quietly_hold : remembered quietly ≡ true
unfolding remembered same_notes silent notes run step outcome decide differ differ_row plan_of afters after overlay rows_of all_from all_at_most pairs_ok entry_ok head_ok well_formed values_ok present hops base_row begins quietly
quietly_hold = refl

-- a refused call: a push of a cut or a node out of range or by another node, without a line, rejected; a synchronise by another node
-- while the master's waits, out of line, and one that finds nothing to do
abbrev waiting : List Call
waiting = sync 1 ∷ master 1 ∷ connect 2 ∷ connect 1 ∷ start ∷ []

pub unnoted : List Noted
unnoted =
    of (work 1 2 1 0 3 ∷ begun one) (silent 1 at_begun) ∷ of (work 1 2 1 2 0 ∷ begun one) (silent 1 at_begun) ∷ of (work 9 2 1 0 0 ∷ begun one) (silent 1 at_begun) ∷ of (work 2 2 1 0 1 ∷ begun one) (silent 1 at_begun)
    ∷ of (work 1 5 1 0 0 ∷ returning one) (nothing ∷ at_returning) ∷ of (work 1 2 1 0 0 ∷ disconnect 1 ∷ begun one) (silent 2 at_begun) ∷ of (work 1 4 1 1 0 ∷ returning one) (nothing ∷ at_returning)
    ∷ of (sync 2 ∷ waiting) (silent 6 []) ∷ of (sync 9 ∷ waiting) (silent 6 []) ∷ of (sync 1 ∷ disconnect 1 ∷ waiting) (silent 7 []) ∷ of (sync 1 ∷ line) (nothing ∷ on_line) ∷ of (sync 1 ∷ []) (nothing ∷ []) ∷ []

pub unnoted_hold : remembered unnoted ≡ true
unfolding remembered same_notes silent notes run step outcome decide differ differ_row plan_of afters after overlay rows_of all_from all_at_most pairs_ok entry_ok head_ok well_formed values_ok present begins unnoted
unnoted_hold = refl

-- ---- which retries are promised (Retry): of each order of stores, cut after the first or the second, with outcome 0 or 1, called
-- again with outcome 0 or 1 and cut 0, 1 or 2
abbrev same_as : Bool → Bool → Bool
same_as true b = b
same_as false b = not b

unfoldable pub alike : List Bool → List Bool → Bool
alike [] [] = true
alike [] (b ∷ bs) = false
alike (a ∷ xs) [] = false
alike (a ∷ xs) (b ∷ bs) = same_as a b && alike xs bs

-- cut at x, with outcome r: each outcome and cut of the second call
abbrev again6 : Order → (x r : ℕ) → List Bool
again6 o x r = may_retry o x r 0 0 ∷ may_retry o x r 0 1 ∷ may_retry o x r 0 2 ∷ may_retry o x r 1 0 ∷ may_retry o x r 1 1 ∷ may_retry o x r 1 2 ∷ []

abbrev none6 : List Bool
none6 = false ∷ false ∷ false ∷ false ∷ false ∷ false ∷ []

abbrev any6 : List Bool
any6 = true ∷ true ∷ true ∷ true ∷ true ∷ true ∷ []

-- cut after the first, and after the second; by the outcome of the first call
abbrev promised : Order → (first0 first1 second0 second1 : List Bool) → Bool
promised o a b c d = alike (again6 o 1 0) a && (alike (again6 o 1 1) b && (alike (again6 o 2 0) c && alike (again6 o 2 1) d))

pub retries_hold :
    (promised Neither none6 none6 none6 none6
    && (promised EntryOnly none6 none6 none6 none6
    && (promised HeadOnly none6 none6 none6 none6
    && (promised EntryThenHead any6 any6 none6 none6
    && (promised HeadThenEntry any6 any6 none6 none6
    && promised TargetThenHeadThenEntry (true ∷ false ∷ false ∷ false ∷ false ∷ false ∷ []) (false ∷ false ∷ false ∷ true ∷ false ∷ false ∷ []) any6 any6)))))
    ≡ true
unfolding alike
retries_hold = refl

-- what may come between: connects and disconnects of other nodes
pub elsewhere_hold :
    alike
    (elsewhere 1 (connect 2) ∷ elsewhere 1 (disconnect 2) ∷ elsewhere 2 (connect 1) ∷ elsewhere 1 (connect 1) ∷ elsewhere 1 (disconnect 1) ∷ elsewhere 1 (master 2)
    ∷ elsewhere 1 (sync 2) ∷ elsewhere 1 (work 2 1 1 0 0) ∷ elsewhere 1 (append []) ∷ elsewhere 1 (rollback 1) ∷ elsewhere 1 start ∷ elsewhere 1 stop ∷ elsewhere 1 (fold_to 1) ∷ [])
    (true ∷ true ∷ true ∷ false ∷ false ∷ false ∷ false ∷ false ∷ false ∷ false ∷ false ∷ false ∷ false ∷ [])
    ≡ true
unfolding alike
elsewhere_hold = refl

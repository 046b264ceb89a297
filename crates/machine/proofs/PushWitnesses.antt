-- Order 8 in states that no session reaches: 1 before every other refusal, with no store, no event and no note. Computed, as the
-- sessions (PushSessions) are. Assumes nothing.
use mathlib.Core.List.{List, [], ◌∷◌}
use mathlib.Core.Bool.{false, true}
use mathlib.Core.Path.{◌≡◌, refl}
use Rattle.kinds.specs.Numbers.{num}
use Rattle.machine.specs.State.{State, fresh}
use Rattle.machine.specs.Stores.{change, after, afters}
use Rattle.machine.specs.Rows.{overlay, rows_of}
use Rattle.machine.specs.Differ.{differ, differ_row}
use Rattle.machine.specs.WellFormed.{all_from, all_at_most, pairs_ok, entry_ok, head_ok, well_formed}
use Rattle.machine.specs.Reads.{entry_numbers, state_numbers}
use Rattle.machine.specs.Calls.{Call, connect, start, master, sync, work, values_ok, present, plan_of, decide}
use Rattle.machine.specs.Step.{outcome, step, state_from}
use Rattle.machine.specs.Notes.{nothing}
use Rattle.machine.specs.Sessions.{Line, reads, begins, agrees}
use Rattle.machine.specs.PushSessions.{Row, of, made, stand, statuses, one, begun}

-- after these calls, with a change past the highest number
abbrev damaged : List Call → State
damaged cs = after (state_from (fresh false) cs) (change (num 2))

abbrev refuses : List Call → Call → List Line → Row
refuses cs c ls = of (damaged cs) [] c 1 0 0 0 0 nothing ls

-- ---- a push that would go, with each cut and one out of range; a synchronise that would write
pub unformed : List Row
unformed =
    refuses (begun one) (work 1 2 1 0 0) (stand 1 2 1 1 1 0 1 0 0 ∷ statuses 1 1 3 2 1 0 0 0 ∷ reads 3 7 0 0 ∷ []) ∷ refuses (begun one) (work 1 2 1 0 1) (stand 1 2 1 1 1 0 1 0 0 ∷ reads 3 7 0 0 ∷ [])
    ∷ refuses (begun one) (work 1 2 1 0 2) (stand 1 2 1 1 1 0 1 0 0 ∷ reads 3 7 0 0 ∷ []) ∷ refuses (begun one) (work 1 2 1 0 3) [] ∷ refuses (sync 1 ∷ master 1 ∷ connect 1 ∷ start ∷ []) (sync 1) [] ∷ []

pub unformed_hold : made unformed ≡ true
unfolding made state_from step outcome decide differ differ_row plan_of afters after overlay rows_of all_from all_at_most pairs_ok entry_ok head_ok well_formed values_ok present agrees begins entry_numbers state_numbers unformed
unformed_hold = refl

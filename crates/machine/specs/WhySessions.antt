-- Order 4 on sessions, by computing: what support staff are told, a group for each sentence of the order. In every line the
-- answer is also held to the job's own, accepted and rejected. Assumes nothing.
use Rattle.std.specs.Prelude.{ℕ, List, [], ◌∷◌, Bool, true, false, not, ◌&&◌, ◌≡◌, refl, eqb}
use Rattle.machine.specs.State.{State, fresh}
use Rattle.machine.specs.Stores.{after, afters}
use Rattle.machine.specs.Rows.{overlay, rows_of}
use Rattle.machine.specs.Differ.{differ, differ_row}
use Rattle.machine.specs.WellFormed.{all_from, all_at_most, pairs_ok, entry_ok, head_ok, well_formed}
use Rattle.machine.specs.LiveList.{hops}
use Rattle.machine.specs.Folding.{base_row}
use Rattle.machine.specs.Calls.{Call, append, rollback, start, connect, master, sync, work, fold_to, values_ok, present, plan_of, decide}
use Rattle.machine.specs.Step.{outcome, step, state_from}
use Rattle.machine.specs.Why.{holds, first_of, lowest, why, asks}

-- ---- what is asked of a state, and what is told: the answer, the reason, what it names
pub data Line : Type 0 where
  told : (node job number answer reason named : ℕ) → Line
  closes : (job number : ℕ) → Line  -- Done, and not finished: its closing store is left

-- the answer that follows from the job's own
abbrev held : State → (node job number outcome answer : ℕ) → Bool
held s n j i r a = eqb (asks (step s (work n j i r 0)).reply.answer) a

unfoldable pub agrees : State → List Line → Bool
agrees s [] = true
agrees s (told n j i a r k ∷ ls) =
    let w = why s n j i in
    ((eqb w.answer a && (eqb w.reason r && eqb w.named k)) && (held s n j i 0 a && held s n j i 1 a)) && agrees s ls
agrees s (closes j i ∷ ls) = (eqb (why s 1 j i).answer 15 && not (holds s j i 1)) && agrees s ls

-- from a state, after these calls, the newest first
pub data Row : Type 0 where
  of : State → List Call → List Line → Row

unfoldable pub all : List Row → Bool
all [] = true
all (of s cs ls ∷ rs) = agrees (state_from s cs) ls && all rs

-- ---- lines and sessions, shorter
-- node 1's job waits for a reason; a node is refused; node 1's job does not wait
abbrev pub waits : (job number reason named : ℕ) → Line
waits j i r k = told 1 j i 0 r k

abbrev pub refused : (answer node job number : ℕ) → Line
refused a n j i = told n j i a 0 0

abbrev pub goes : (job number : ℕ) → Line
goes j i = refused 15 1 j i

-- node 1 is master; and its line is open
abbrev pub led : List Call
led = master 1 ∷ connect 1 ∷ start ∷ []

abbrev line : List Call
line = sync 1 ∷ sync 1 ∷ led

abbrev change : ℕ → Call
change v = append (record { path = 3; value = v } ∷ [])

-- a job whole, cut after its first store, cut after its second, rejected, and rejected and cut
abbrev job : ℕ → ℕ → Call
job j i = work 1 j i 0 0

abbrev cut : ℕ → ℕ → Call
cut j i = work 1 j i 0 1

abbrev unmarked : ℕ → ℕ → Call
unmarked j i = work 1 j i 0 2

abbrev rejected : ℕ → ℕ → Call
rejected j i = work 1 j i 1 0

abbrev dropped : ℕ → ℕ → Call
dropped j i = work 1 j i 1 1

-- a job begun and ended
abbrev through : ℕ → ℕ → List Call → List Call
through j i cs = job j i ∷ job j i ∷ cs

abbrev three : List Call
three = change 5 ∷ change 9 ∷ change 7 ∷ line

-- 1 and 2 of the three committed; and then 2 rolled back
abbrev committed : List Call
committed = through 1 2 (through 1 1 three)

abbrev returned : List Call
returned = through 3 2 (rollback 2 ∷ committed)

abbrev row : List Call → List Line → Row
row cs ls = of (fresh false) cs ls

-- ---- 1 already finished: Done, with no closing store left
pub finished : List Row
finished =
    row (through 1 1 three) (waits 1 1 1 0 ∷ goes 2 1 ∷ []) ∷ row (cut 1 1 ∷ job 1 1 ∷ three) (goes 1 1 ∷ [])
    ∷ row (rejected 1 1 ∷ job 1 1 ∷ three) (waits 1 1 1 0 ∷ waits 2 1 1 0 ∷ []) ∷ row (dropped 1 1 ∷ job 1 1 ∷ three) (closes 1 1 ∷ waits 2 1 1 0 ∷ [])
    ∷ row (through 2 1 committed) (waits 2 1 1 0 ∷ []) ∷ row (unmarked 2 1 ∷ job 2 1 ∷ committed) (goes 2 1 ∷ [])
    ∷ row (rejected 2 1 ∷ job 2 1 ∷ committed) (waits 2 1 1 0 ∷ []) ∷ row (dropped 2 1 ∷ job 2 1 ∷ committed) (closes 2 1 ∷ [])
    ∷ row (job 2 2 ∷ rejected 2 1 ∷ job 2 1 ∷ committed) (waits 2 2 1 0 ∷ []) ∷ row (cut 2 2 ∷ rejected 2 1 ∷ job 2 1 ∷ committed) (closes 2 2 ∷ [])
    ∷ row (job 2 2 ∷ through 2 1 returned) (waits 3 2 1 0 ∷ []) ∷ row (cut 3 2 ∷ job 3 2 ∷ rollback 2 ∷ committed) (goes 3 2 ∷ [])
    ∷ row (through 4 2 (through 3 2 (rollback 2 ∷ through 2 2 (through 2 1 committed)))) (waits 4 2 1 0 ∷ [])
    ∷ row (job 4 2 ∷ job 2 2 ∷ through 2 1 returned) (waits 4 2 1 0 ∷ waits 2 2 1 0 ∷ []) ∷ row (cut 4 2 ∷ job 2 2 ∷ through 2 1 returned) (closes 4 2 ∷ []) ∷ []

pub finished_hold : all finished ≡ true
unfolding all agrees why state_from step outcome decide differ differ_row plan_of afters after overlay rows_of all_from all_at_most pairs_ok entry_ok head_ok well_formed values_ok present first_of lowest hops base_row finished
finished_hold = refl

-- ---- 2 no rollback asked
pub unasked : List Row
unasked =
    row three (waits 3 1 2 0 ∷ waits 4 1 2 0 ∷ []) ∷ row committed (waits 3 2 2 0 ∷ waits 4 2 2 0 ∷ []) ∷ row (through 2 1 committed) (waits 3 1 2 0 ∷ waits 4 1 2 0 ∷ [])
    ∷ row (rollback 2 ∷ committed) (goes 3 2 ∷ waits 4 2 6 0 ∷ waits 3 1 2 0 ∷ waits 4 1 2 0 ∷ []) ∷ []

pub unasked_hold : all unasked ≡ true
unfolding all agrees why state_from step outcome decide differ differ_row plan_of afters after overlay rows_of all_from all_at_most pairs_ok entry_ok head_ok well_formed values_ok present first_of lowest hops base_row unasked
unasked_hold = refl

-- ---- 3 an earlier change not yet through commit: change + 1, if below the number
pub earlier : List Row
earlier =
    row three (goes 1 1 ∷ waits 1 2 3 1 ∷ waits 1 3 3 1 ∷ []) ∷ row (through 1 1 three) (goes 1 2 ∷ waits 1 3 3 2 ∷ [])
    ∷ row (rejected 1 1 ∷ job 1 1 ∷ three) (goes 1 2 ∷ waits 1 3 3 2 ∷ []) ∷ row (dropped 1 1 ∷ job 1 1 ∷ three) (waits 1 2 3 1 ∷ [])
    ∷ row (change 4 ∷ returned) (goes 1 3 ∷ waits 1 4 3 3 ∷ []) ∷ row (change 4 ∷ through 3 1 (rollback 1 ∷ returned)) (goes 1 3 ∷ waits 1 4 3 3 ∷ []) ∷ []

pub earlier_hold : all earlier ≡ true
unfolding all agrees why state_from step outcome decide differ differ_row plan_of afters after overlay rows_of all_from all_at_most pairs_ok entry_ok head_ok well_formed values_ok present first_of lowest hops base_row earlier
earlier_hold = refl

-- ---- 4 another commit in flight: the target if above change, else the lowest in progress, else the revision
pub flying : List Row
flying =
    row (job 1 3 ∷ rollback 2 ∷ committed) (goes 1 3 ∷ waits 3 2 4 3 ∷ []) ∷ row (cut 1 3 ∷ rollback 2 ∷ committed) (goes 1 3 ∷ waits 3 2 4 3 ∷ [])
    ∷ row (cut 1 3 ∷ job 1 3 ∷ rollback 2 ∷ committed) (waits 3 2 4 3 ∷ []) ∷ row (dropped 1 3 ∷ job 1 3 ∷ rollback 2 ∷ committed) (waits 3 2 4 3 ∷ [])
    ∷ row (rejected 1 3 ∷ job 1 3 ∷ rollback 2 ∷ committed) (goes 3 2 ∷ [])
    ∷ row (job 3 2 ∷ rollback 2 ∷ committed) (goes 3 2 ∷ waits 1 3 4 2 ∷ []) ∷ row (cut 3 2 ∷ job 3 2 ∷ rollback 2 ∷ committed) (waits 1 3 4 2 ∷ [])
    ∷ row (cut 3 1 ∷ rollback 1 ∷ returned) (goes 3 1 ∷ waits 1 3 4 1 ∷ []) ∷ row (through 3 1 (rollback 1 ∷ returned)) (goes 1 3 ∷ []) ∷ []

pub flying_hold : all flying ≡ true
unfolding all agrees why state_from step outcome decide differ differ_row plan_of afters after overlay rows_of all_from all_at_most pairs_ok entry_ok head_ok well_formed values_ok present first_of lowest hops base_row flying
flying_hold = refl

-- ---- 5 a later live change on top: the revision, if above the number
pub covered : List Row
covered =
    row (rollback 1 ∷ committed) (waits 3 1 5 2 ∷ []) ∷ row (rollback 1 ∷ rejected 1 3 ∷ job 1 3 ∷ committed) (waits 3 1 5 2 ∷ [])
    ∷ row (rollback 2 ∷ rollback 1 ∷ through 1 3 committed) (waits 3 1 5 3 ∷ waits 3 2 5 3 ∷ []) ∷ row (rollback 1 ∷ returned) (goes 3 1 ∷ []) ∷ []

pub covered_hold : all covered ≡ true
unfolding all agrees why state_from step outcome decide differ differ_row plan_of afters after overlay rows_of all_from all_at_most pairs_ok entry_ok head_ok well_formed values_ok present first_of lowest hops base_row covered
covered_hold = refl

-- ---- 6 not yet committed
pub uncommitted : List Row
uncommitted =
    row three (waits 2 1 6 0 ∷ waits 2 2 6 0 ∷ []) ∷ row (job 1 1 ∷ three) (waits 2 1 6 0 ∷ []) ∷ row (cut 1 1 ∷ job 1 1 ∷ three) (waits 2 1 6 0 ∷ [])
    ∷ row (rollback 2 ∷ through 2 2 (through 2 1 committed)) (waits 4 2 6 0 ∷ []) ∷ row (job 3 2 ∷ rollback 2 ∷ committed) (waits 4 2 6 0 ∷ [])
    ∷ row (cut 3 2 ∷ job 3 2 ∷ rollback 2 ∷ committed) (waits 4 2 6 0 ∷ []) ∷ []

pub uncommitted_hold : all uncommitted ≡ true
unfolding all agrees why state_from step outcome decide differ differ_row plan_of afters after overlay rows_of all_from all_at_most pairs_ok entry_ok head_ok well_formed values_ok present first_of lowest hops base_row uncommitted
uncommitted_hold = refl

-- ---- 7 an earlier ordinal not settled: the applied one, or where it is settled the one after, if below the job's own
pub unsettled : List Row
unsettled =
    row (through 1 3 committed) (goes 2 1 ∷ waits 2 2 7 1 ∷ waits 2 3 7 1 ∷ []) ∷ row (job 2 1 ∷ through 1 3 committed) (goes 2 1 ∷ waits 2 2 7 1 ∷ [])
    ∷ row (unmarked 2 1 ∷ job 2 1 ∷ through 1 3 committed) (goes 2 1 ∷ waits 2 2 7 1 ∷ waits 2 3 7 1 ∷ []) ∷ row (through 2 1 (through 1 3 committed)) (goes 2 2 ∷ waits 2 3 7 2 ∷ [])
    ∷ row returned (waits 4 2 7 1 ∷ []) ∷ row (unmarked 2 1 ∷ job 2 1 ∷ returned) (waits 4 2 7 1 ∷ []) ∷ row (through 2 1 returned) (goes 2 2 ∷ waits 4 2 7 2 ∷ [])
    ∷ row (through 3 2 (rollback 2 ∷ unmarked 2 2 ∷ job 2 2 ∷ through 2 1 committed)) (goes 2 2 ∷ waits 4 2 7 2 ∷ []) ∷ row (job 2 2 ∷ through 2 1 returned) (goes 4 2 ∷ []) ∷ []

pub unsettled_hold : all unsettled ≡ true
unfolding all agrees why state_from step outcome decide differ differ_row plan_of afters after overlay rows_of all_from all_at_most pairs_ok entry_ok head_ok well_formed values_ok present first_of lowest hops base_row unsettled
unsettled_hold = refl

-- ---- the first of those that fit, in the order of the job: two or more fit
pub firsts : List Row
firsts =
    row (job 1 2 ∷ through 1 1 three) (waits 1 1 1 0 ∷ waits 3 1 2 0 ∷ waits 2 2 6 0 ∷ waits 1 3 3 2 ∷ []) ∷ row (job 1 1 ∷ three) (waits 1 2 3 1 ∷ waits 1 3 3 1 ∷ [])
    ∷ row (rejected 1 1 ∷ job 1 1 ∷ three) (waits 2 1 1 0 ∷ []) ∷ row committed (waits 3 1 2 0 ∷ waits 4 1 2 0 ∷ [])
    ∷ row (job 3 1 ∷ rollback 1 ∷ returned) (waits 3 2 1 0 ∷ waits 4 2 7 1 ∷ []) ∷ row (through 1 3 returned) (waits 3 2 1 0 ∷ waits 4 2 7 1 ∷ [])
    ∷ row (job 3 2 ∷ rollback 2 ∷ rollback 1 ∷ committed) (waits 3 1 4 2 ∷ []) ∷ []

pub firsts_hold : all firsts ≡ true
unfolding all agrees why state_from step outcome decide differ differ_row plan_of afters after overlay rows_of all_from all_at_most pairs_ok entry_ok head_ok well_formed values_ok present first_of lowest hops base_row firsts
firsts_hold = refl

-- ---- refusals: 2, 5 and 10 as in a job; 15 where it would not answer 11: it goes, has no line (12) or is rejected (13)
pub refusing : List Row
refusing =
    row (change 7 ∷ []) (refused 2 0 1 1 ∷ refused 2 9 1 1 ∷ refused 2 1 0 1 ∷ refused 2 1 5 1 ∷ refused 2 0 1 2 ∷ refused 5 1 1 0 ∷ refused 5 1 1 2 ∷ refused 10 1 1 1 ∷ refused 10 1 2 1 ∷ [])
    ∷ row three (refused 2 1 5 4 ∷ refused 2 1 5 0 ∷ refused 5 1 1 0 ∷ refused 5 2 1 4 ∷ refused 10 2 1 1 ∷ refused 10 2 1 2 ∷ goes 1 1 ∷ [])
    ∷ row (change 9 ∷ change 7 ∷ master 8 ∷ connect 8 ∷ start ∷ []) (told 8 1 2 0 3 1 ∷ refused 15 8 1 1 ∷ refused 10 1 1 2 ∷ [])
    ∷ row (job 2 1 ∷ through 1 1 (change 7 ∷ led)) (goes 2 1 ∷ []) ∷ row (job 4 2 ∷ through 3 2 (rollback 2 ∷ through 2 2 (through 2 1 committed))) (goes 4 2 ∷ []) ∷ []

pub refusing_hold : all refusing ≡ true
unfolding all agrees why state_from step outcome decide differ differ_row plan_of afters after overlay rows_of all_from all_at_most pairs_ok entry_ok head_ok well_formed values_ok present first_of lowest hops base_row refusing
refusing_hold = refl

-- 1 applied and folded away, 2 and 3 after it
abbrev folded : List Call
folded = change 9 ∷ change 8 ∷ fold_to 1 ∷ through 2 1 (through 1 1 (change 7 ∷ line))

-- ---- over a folded log: 18 straight after 5; the numbers are those given
pub kept : List Row
kept =
    row folded (refused 5 1 2 0 ∷ refused 18 1 2 1 ∷ refused 18 2 2 1 ∷ refused 2 1 5 1 ∷ refused 5 1 2 4 ∷ refused 10 2 2 2 ∷ goes 1 2 ∷ waits 1 3 3 2 ∷ [])
    ∷ row (job 1 2 ∷ folded) (waits 2 2 6 0 ∷ waits 1 3 3 2 ∷ []) ∷ row (rollback 3 ∷ through 1 3 (through 1 2 folded)) (waits 2 3 7 2 ∷ goes 3 3 ∷ waits 3 2 2 0 ∷ [])
    ∷ row (change 6 ∷ cut 3 3 ∷ job 3 3 ∷ rollback 3 ∷ through 1 3 (through 1 2 folded)) (waits 1 4 4 3 ∷ waits 4 3 6 0 ∷ []) ∷ []

pub kept_hold : all kept ≡ true
unfolding all agrees why state_from step outcome decide differ differ_row plan_of afters after overlay rows_of all_from all_at_most pairs_ok entry_ok head_ok well_formed values_ok present first_of lowest hops base_row kept
kept_hold = refl

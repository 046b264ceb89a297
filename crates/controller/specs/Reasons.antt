-- What `why` claims: refusal 1, then the reason that the machine gives for what the image shows (order 4); and the reasons as
-- the code finds them. Assumes nothing.
use Rattle.std.specs.Prelude.{ℕ, ◌+◌, Bool, true, not, ◌&&◌, ◌||◌, cond, List, eqb, ltb}
use Rattle.kinds.specs.declared.Transaction.{Transaction}
use Rattle.kinds.specs.declared.Side.{Side}
use Rattle.kinds.specs.declared.Status.{Status}
use Rattle.kinds.specs.declared.Status.TheVariants.{None, Aborted, Canceled, Failed}
use Rattle.kinds.specs.Numbers.{follows}
use Rattle.kinds.specs.Statuses.{done, is_complete}
use Rattle.rules.specs.declared.Plan.{Plan}
use Rattle.machine.specs.State.{State}
use Rattle.machine.specs.Rest.{rest_of}
use Rattle.machine.specs.Settled.{settled}
use Rattle.machine.specs.Why as machine
use Rattle.machine.specs.Why.{is, reason, named, in_flight, why_not}
use Rattle.image.specs.View.{view}
use Rattle.image.specs.Formed.{formed}
use Rattle.controller.specs.declared.reasons.Why.{Why}

abbrev pub given : machine.Why → Why
given w = record { answer = w.answer; reason = w.reason; named = w.named }

unfoldable pub why_of : List ℕ → (node job number : ℕ) → Why
why_of l n j i = given (why_not 1 (formed l) (machine.why (view l) n j i))

-- ---- as the code finds them
abbrev pub gives : (reason named : ℕ) → Why
gives r k = record { answer = 0; reason = r; named = k }

abbrev pub refuses : ℕ → Why
refuses a = record { answer = a; reason = 0; named = 0 }

-- the reason for job j and number i, where the job answers 11
abbrev pub told : State → (job number : ℕ) → Why
told s j i = gives (reason s j i) (named s j i (reason s j i))

-- and 15 where it does not
abbrev pub explained : State → Plan → (job number : ℕ) → Why
explained s p j i = given (why_not 15 (eqb p.answer 11) (record { answer = 0; reason = reason s j i; named = named s j i (reason s j i) }))

-- a change's commit is Done, and it is no rejected one that is yet to be passed
abbrev pub commit_finished : Status → (change number : ℕ) → Bool
commit_finished x k i = done x && not (is x Failed && follows k i)

-- a side's apply is Done with no closing store left; `ends`: its status is one that is closed, which is left to do where its
-- commit is Complete and its ordinal is the next after a
abbrev pub apply_finished : Side → (ends : Bool) → ℕ → Bool
apply_finished x e a = done x.apply && not (e && (is_complete x.commit && follows a x.ordinal.0))

-- the applied ordinal a if not settled, else the one after
abbrev pub unsettled_by : (quiet : Bool) → ℕ → ℕ
unsettled_by q a = cond q (a + 1) a

-- a side whose apply is not finished: 6, 7 or 8
abbrev pub unapplied : Side → ℕ → (quiet : Bool) → Why
unapplied x a q = cond (is_complete x.commit) (cond (ltb (unsettled_by q a) x.ordinal.0) (gives 7 (unsettled_by q a)) (gives 8 0)) (gives 6 0)

-- settled, asked only of a side that is committed and not over: of any other nothing depends on it
abbrev pub quiet_unless : (over : Bool) → Side → State → Bool
quiet_unless o x s = cond (is_complete x.commit && not o) (settled s) true

-- a change and a rollback, by the entry and the applied ordinal: over, and what is asked
abbrev pub change_over : Transaction → ℕ → Bool
change_over t a = apply_finished t.change (is t.change.apply Aborted || is t.change.apply Failed) a

abbrev pub change_quiet : Transaction → ℕ → State → Bool
change_quiet t a s = quiet_unless (change_over t a) t.change s

abbrev pub rollback_over : Transaction → ℕ → Bool
rollback_over t a = apply_finished t.rollback (is t.rollback.apply Canceled) a

abbrev pub rollback_quiet : Transaction → ℕ → State → Bool
rollback_quiet t a s = quiet_unless (rollback_over t a) t.rollback s

-- jobs 2 and 4, by the entry, the applied ordinal and whether it is settled
abbrev pub change_waits : Transaction → ℕ → (quiet : Bool) → Why
change_waits t a q = cond (change_over t a) (gives 1 0) (unapplied t.change a q)

abbrev pub rollback_waits : Transaction → ℕ → (quiet : Bool) → Why
rollback_waits t a q =
    cond (rollback_over t a) (gives 1 0)
    (cond (is t.rollback.commit None) (gives 2 0) (unapplied t.rollback a q))

-- a commit in flight, or what else is told
abbrev pub flight_or : State → Why → Why
flight_or s w = cond (rest_of s) w (gives 4 (in_flight s))

-- a later live change on top, or none
abbrev pub on_top : (revision number : ℕ) → Why
on_top v i = cond (ltb i v) (gives 5 v) (gives 8 0)

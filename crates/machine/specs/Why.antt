-- Order 4, why a job won't move: from a state, a node, a job and a number, one reason for the answer 11. Assumes nothing.
use Rattle.std.specs.Prelude.{ℕ, ◌+◌, List, [], ◌∷◌, Bool, false, not, ◌&&◌, ◌||◌, cond, eqb, ltb, leb}
use Rattle.kinds.specs.declared.Transaction.{Transaction}
use Rattle.kinds.specs.declared.Status.{Status}
use Rattle.kinds.specs.declared.Status.TheVariants.{None, InProgress, Aborted, Canceled, Failed}
use Rattle.kinds.specs.Numbers.{follows}
use Rattle.kinds.specs.Statuses.{done, is_complete, code_of}
use Rattle.machine.specs.State.{State, Log, entry_of, in_log, is_kept, is_node, is_master}
use Rattle.machine.specs.WellFormed.{well_formed}
use Rattle.machine.specs.Settled.{settled}
use Rattle.machine.specs.Rest.{rest_of}
use Rattle.machine.specs.Calls.{plan_of}

-- job 1, 2, 3 or 4
abbrev pub by_job : {A : Type 0} → ℕ → A → A → A → A → A
by_job j a b c d = cond (eqb j 1) a (cond (eqb j 2) b (cond (eqb j 3) c d))

abbrev pub is : Status → Status → Bool
is x y = eqb (code_of x) (code_of y)

-- the applied ordinal if not settled, else the one after
abbrev pub unsettled : State → ℕ
unsettled s = cond (settled s) (s.applied.head.ordinal.0 + 1) s.applied.head.ordinal.0

module _ (s : State) (j i : ℕ) where
  abbrev pub entry_at : Transaction
  entry_at = entry_of s.log i

  -- the status of the job's own phase and stage, its commit status, and its ordinal
  abbrev pub stage : Status
  stage = by_job j entry_at.change.commit entry_at.change.apply entry_at.rollback.commit entry_at.rollback.apply

  abbrev pub commit : Status
  commit = by_job j entry_at.change.commit entry_at.change.commit entry_at.rollback.commit entry_at.rollback.commit

  abbrev pub ordinal : ℕ
  ordinal = by_job j entry_at.change.ordinal.0 entry_at.change.ordinal.0 entry_at.rollback.ordinal.0 entry_at.rollback.ordinal.0

  -- its commit Complete and its ordinal next: what jobs 2 and 4 ask before they close
  abbrev pub ready : Bool
  ready = is_complete commit && follows s.applied.head.ordinal.0 ordinal

  -- a Done status whose closing store is left: a rejected change not passed, an apply ended and not closed
  abbrev pub closes : Bool
  closes = by_job j (is stage Failed && follows s.change.0 i) ((is stage Aborted || is stage Failed) && ready) false (is stage Canceled && ready)

  -- ---- the seven reasons: 1 finished, 2 no rollback asked, 3 an earlier change, 4 in flight, 5 on top, 6 not committed,
  -- 7 an earlier ordinal
  abbrev pub holds : ℕ → Bool
  holds r =
      cond (eqb r 1) (done stage && not closes)
      (cond (eqb r 2) (is entry_at.rollback.commit None)
      (cond (eqb r 3) (ltb (s.change.0 + 1) i)
      (cond (eqb r 4) (not (rest_of s))
      (cond (eqb r 5) (ltb i s.committed.head.revision.0)
      (cond (eqb r 6) (not (is_complete commit)) (ltb (unsettled s) ordinal))))))

-- those that a job uses, in the order in which they are tried
abbrev pub tried : ℕ → List ℕ
tried j = by_job j (1 ∷ 3 ∷ 4 ∷ []) (1 ∷ 6 ∷ 7 ∷ []) (1 ∷ 2 ∷ 4 ∷ 5 ∷ []) (1 ∷ 2 ∷ 6 ∷ 7 ∷ [])

-- the first that holds, or the eighth
unfoldable pub first_of : (ℕ → Bool) → List ℕ → ℕ
first_of f [] = 8
first_of f (r ∷ rs) = cond (f r) r (first_of f rs)

abbrev pub reason : State → ℕ → ℕ → ℕ
reason s j i = first_of (holds s j i) (tried j)

-- ---- the number or the ordinal that a reason names, 0 where it names none
-- c.commit or r.commit InProgress
abbrev pub commit_goes : Transaction → Bool
commit_goes t = is t.change.commit InProgress || is t.rollback.commit InProgress

-- the lowest number from k on, or d where there is none
unfoldable pub lowest : (Transaction → Bool) → ℕ → List Transaction → ℕ → ℕ
lowest p k [] d = d
lowest p k (t ∷ ts) d = cond (p t) k (lowest p (k + 1) ts d)

-- of those kept
abbrev pub lowest_in : (Transaction → Bool) → Log → ℕ → ℕ
lowest_in p l d = lowest p (l.folded.0 + 1) l.entries d

-- target if above change, else the lowest in progress of those kept, else revision
abbrev pub in_flight : State → ℕ
in_flight s =
    let h = s.committed.head in
    cond (ltb s.change.0 h.target.0) h.target.0 (lowest_in commit_goes s.log h.revision.0)

abbrev pub named : State → ℕ → ℕ → ℕ → ℕ
named s j i r =
    cond (eqb r 3) (s.change.0 + 1)
    (cond (eqb r 4) (in_flight s) (cond (eqb r 5) s.committed.head.revision.0 (cond (eqb r 7) (unsettled s) 0)))

-- ---- the call: a refusal, or 0 with a reason and what it names
pub record Why : Type 0 where
  pub answer : ℕ
  pub reason : ℕ
  pub named : ℕ

abbrev pub why_not : ℕ → Bool → Why → Why
why_not a b w = cond b w (record { answer = a; reason = 0; named = 0 })

-- refusals 1, 2, 5, 18 and 10 as in a job; 15 where the job would not answer 11, which its outcome does not change (Waits)
unfoldable pub why : State → (node job number : ℕ) → Why
why s n j i =
    why_not 1 (well_formed s)
    (why_not 2 (is_node n && (leb 1 j && leb j 4))
    (why_not 5 (in_log s i)
    (why_not 18 (is_kept s i)
    (why_not 10 (is_master s.net n)
    (why_not 15 (eqb (plan_of s n j i false).answer 11)
    (let r = reason s j i in record { answer = 0; reason = r; named = named s j i r }))))))

-- what it answers where the job answers a (Waits)
abbrev pub asks : ℕ → ℕ
asks a = cond (eqb a 11) 0 (cond ((eqb a 1 || eqb a 2) || ((eqb a 5 || eqb a 18) || eqb a 10)) a 15)

-- Order 4, stated: a reason that is given is true and the first of those that the job uses, and what it names is so. Proved
-- in Reasons, Carried and Named; that one is given exactly where the job answers 11 is `why_answers` (crate machine, Waits).
-- Assumes nothing.
use Rattle.std.specs.Prelude.{ℕ, suc, ◌+◌, ◌≤◌, ◌<◌, List, Bool, true, false, not, ◌||◌, cond, ◌≡◌, eqb, ltb}
use Rattle.kinds.specs.declared.Event.{Event}
use Rattle.kinds.specs.declared.Status.TheVariants.{Pending}
use Rattle.machine.specs.State.{State, entry_of, last}
use Rattle.machine.specs.Settled.{settled}
use Rattle.machine.specs.Why.{ordinal, holds, tried, commit_goes}
use Rattle.history.specs.Demand3.{live}
use Rattle.history.specs.Ops.{mem}

-- the reason r, given for job j and number i
pub record Given (s : State) (j i r : ℕ) : Type 0 where
  pub used : mem r (tried j) ≡ true
  pub fits : holds s j i r ≡ true
  pub before : (q : ℕ) → mem q (tried j) ≡ true → q < r → holds s j i q ≡ false

-- the reasons with the seventh read otherwise: "if below the job's own" said of the one after alone
abbrev pub otherwise : (s : State) (j i r : ℕ) → Bool
otherwise s j i r = cond (eqb r 7) (not (settled s) || ltb (s.applied.head.ordinal.0 + 1) (ordinal s j i)) (holds s j i r)

-- a commit in flight: the next change, the target on it; a change or a rollback in progress; the revision's rollback, the
-- target on what it returns to
pub data Flies (s : State) (k : ℕ) : Type 0 where
  flying : k ≡ suc s.change.0 → k ≤ last s.log → s.committed.head.target.0 ≡ k → Flies s k
  going : commit_goes (entry_of s.log k) ≡ true → Flies s k
  returning : k ≡ s.committed.head.revision.0 → (entry_of s.log k).rollback.commit ≡ Pending → s.committed.head.target.0 ≡ (entry_of s.log k).index.0 → Flies s k

-- and its number is kept
pub record InFlight (s : State) (k : ℕ) : Type 0 where
  pub kept : s.log.folded.0 < k
  pub flies : Flies s k

-- the change k on top of number i: the revision, a later one, live, and none that is live is newer
pub record OnTop (s : State) (es : List Event) (i k : ℕ) : Type 0 where
  pub revision : k ≡ s.committed.head.revision.0
  pub later : i < k
  pub stands : live es 1 k ≡ true
  pub newest : (n : ℕ) → live es 1 n ≡ true → n ≤ k

-- number x carries ordinal k, by its change or by its rollback, and the apply of that is not finished
pub data Carries (s : State) (x k : ℕ) : Type 0 where
  by_change : (entry_of s.log x).change.ordinal.0 ≡ k → holds s 2 x 1 ≡ false → Carries s x k
  by_rollback : (entry_of s.log x).rollback.ordinal.0 ≡ k → holds s 4 x 1 ≡ false → Carries s x k

-- and one that is kept does
pub record Carried (s : State) (k : ℕ) : Type 0 where
  pub number : ℕ
  pub kept : (s.log.folded.0 < number) × (number ≤ last s.log)
  pub carries : Carries s number k

-- the earlier ordinal k that job j on number i waits for: it was given out, is below the job's own, is the applied one if
-- that is not settled, else the one after, and a transaction that is kept carries it
pub record EarlierOrdinal (s : State) (j i k : ℕ) : Type 0 where
  pub given : (1 ≤ k) × (k ≤ s.committed.head.ordinal.0)
  pub below : k < ordinal s j i
  pub applied : settled s ≡ false → k ≡ s.applied.head.ordinal.0
  pub after : settled s ≡ true → k ≡ suc s.applied.head.ordinal.0
  pub carried : Carried s k

-- what the reason r names, k, for job j and number i, the events being es
pub record Names (s : State) (es : List Event) (j i r k : ℕ) : Type 0 where
  -- the change after the last that is through its commit, and an earlier one
  pub earlier : r ≡ 3 → (k ≡ suc s.change.0) × (k < i)
  -- a commit in flight, and another
  pub flight : r ≡ 4 → InFlight s k × (k ≡ i → ⊥)
  -- a later live change, which lies on top
  pub top : r ≡ 5 → OnTop s es i k
  -- an earlier ordinal that is not settled
  pub ordinal : r ≡ 7 → EarlierOrdinal s j i k

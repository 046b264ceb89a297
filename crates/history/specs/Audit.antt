-- What the log shows, stated: each status tied to the events, and the changes that the switch has taken
-- and that were not undone, read off the log and the applied ordinal. Proved in Audited. Assumes nothing.
use Rattle.std.specs.Prelude.{ℕ, ◌≤◌, ◌<◌, List, Bool, true, false, not, ◌&&◌, ◌||◌, ◌≡◌, eqb}
use Rattle.kinds.specs.declared.Event.{Event}
use Rattle.kinds.specs.declared.Status.{Status}
use Rattle.kinds.specs.declared.Status.TheVariants.{None, Pending, InProgress, Complete, Aborted, Canceled, Failed}
use Rattle.kinds.specs.Numbers.{num}
use Rattle.kinds.specs.Statuses.{is_complete, is_failed}
use Rattle.rules.specs.declared.CommitChangeRule.{CommitChangeRule}
use Rattle.rules.specs.declared.CommitChangeRule.TheVariants as change
use Rattle.rules.specs.declared.CommitRollbackRule.{CommitRollbackRule}
use Rattle.rules.specs.declared.CommitRollbackRule.TheVariants as rollback
use Rattle.rules.specs.declared.ApplyChangeRule.{ApplyChangeRule}
use Rattle.rules.specs.declared.ApplyChangeRule.TheVariants as apply
use Rattle.rules.specs.declared.ApplyRollbackRule.{ApplyRollbackRule}
use Rattle.rules.specs.declared.ApplyRollbackRule.TheVariants as return
use Rattle.rules.specs.CommitChange as job1
use Rattle.rules.specs.CommitRollback as job3
use Rattle.rules.specs.ApplyChange as job2
use Rattle.rules.specs.ApplyRollback as job4
use Rattle.rules.specs.ApplyRollback.{is_aborted}
use Rattle.machine.specs.State.{State, Log, entry_of, last, line_open_for}
use Rattle.machine.specs.Settled.{settled}
use Rattle.machine.specs.Rest.{rest_of}
use Rattle.history.specs.Demand3.{told, completed, live, newest_first, kept}
use Rattle.history.specs.Marks.{is_canceled}

-- ---- the closing rule: the last "then" of a job, which writes the status that a cut left out
abbrev pub closes1 : CommitChangeRule → Bool
closes1 change.Begin = false
closes1 change.Aim = false
closes1 change.Land = false
closes1 change.Full = false
closes1 change.Reject = false
closes1 change.Finish = true
closes1 change.Close = false
closes1 change.Wait = false

abbrev pub closes2 : ApplyChangeRule → Bool
closes2 apply.Begin = false
closes2 apply.Aim = false
closes2 apply.Abort = false
closes2 apply.Close = false
closes2 apply.Finish = true
closes2 apply.Fail = false
closes2 apply.Push = false
closes2 apply.NoLine = false
closes2 apply.Wait = false

abbrev pub closes3 : CommitRollbackRule → Bool
closes3 rollback.Begin = false
closes3 rollback.Aim = false
closes3 rollback.Land = false
closes3 rollback.Full = false
closes3 rollback.Finish = true
closes3 rollback.Wait = false

abbrev pub closes4 : ApplyRollbackRule → Bool
closes4 return.Begin = false
closes4 return.Aim = false
closes4 return.Cancel = false
closes4 return.Close = false
closes4 return.Finish = true
closes4 return.Push = false
closes4 return.NoLine = false
closes4 return.Rejected = false
closes4 return.Wait = false

module _ (s : State) (k : ℕ) where
  -- whether the closing rule is the one that holds for number k, whoever asks and whatever the outcome
  abbrev pub closing1 : Bool → Bool
  closing1 ok = closes1 (job1.rule (entry_of s.log k).change.commit (job1.tests s.committed.head s.change (rest_of s) (num k) ok))

  abbrev pub closing2 : ℕ → Bool → Bool
  closing2 n ok =
      closes2 (job2.rule (entry_of s.log k).change.apply (job2.tests (entry_of s.log k) s.applied.head (settled s) (num k) (line_open_for s.net n) ok))

  abbrev pub closing3 : Bool
  closing3 = closes3 (job3.rule (entry_of s.log k).rollback.commit (job3.tests s.committed.head (entry_of s.log k).index (rest_of s) (num k)))

  abbrev pub closing4 : ℕ → Bool → Bool
  closing4 n ok =
      closes4 (job4.rule (entry_of s.log k).rollback.apply (job4.tests (entry_of s.log k) s.applied.head (settled s) (line_open_for s.net n) ok))

-- ---- each status, tied to the events, for every number kept
pub record Shown (s : State) (es : List Event) (k : ℕ) : Type 0 where
  -- the Complete event was given exactly where the status is Complete or the closing rule is to write it
  pub committed : (ok : Bool) → completed es 1 1 k ≡ (is_complete (entry_of s.log k).change.commit || closing1 s k ok)
  pub applied : (n : ℕ) (ok : Bool) → completed es 1 2 k ≡ (is_complete (entry_of s.log k).change.apply || closing2 s k n ok)
  pub rolled_back : completed es 2 1 k ≡ (is_complete (entry_of s.log k).rollback.commit || closing3 s k)
  pub returned : (n : ℕ) (ok : Bool) → completed es 2 2 k ≡ (is_complete (entry_of s.log k).rollback.apply || closing4 s k n ok)
  -- the events Failed, Aborted and Canceled were given exactly where the status is so
  pub invalid : told Failed es 1 1 k ≡ is_failed (entry_of s.log k).change.commit
  pub failed : told Failed es 1 2 k ≡ is_failed (entry_of s.log k).change.apply
  pub aborted : told Aborted es 1 2 k ≡ is_aborted (entry_of s.log k).change.apply
  pub canceled : told Canceled es 2 2 k ≡ is_canceled (entry_of s.log k).rollback.apply
  -- Aborted and Canceled ones never began, and never completed
  pub never_began : (is_aborted (entry_of s.log k).change.apply || is_canceled (entry_of s.log k).change.apply) ≡ true
      → (told InProgress es 1 2 k ≡ false) × (completed es 1 2 k ≡ false)
  pub never_returned : is_canceled (entry_of s.log k).rollback.apply ≡ true → (told InProgress es 2 2 k ≡ false) × (completed es 2 2 k ≡ false)
  -- Failed ones were never taken
  pub never_committed : is_failed (entry_of s.log k).change.commit ≡ true → completed es 1 1 k ≡ false
  pub never_taken : is_failed (entry_of s.log k).change.apply ≡ true → completed es 1 2 k ≡ false

-- ---- the auditor's question, by the log and the applied ordinal alone
-- an apply with this status and ordinal has completed: Complete, or in progress with its push made
abbrev pub landed : Status → ℕ → ℕ → Bool
landed None a o = false
landed Pending a o = false
landed InProgress a o = eqb a o
landed Complete a o = true
landed Aborted a o = false
landed Canceled a o = false
landed Failed a o = false

-- which changes did the switch take
abbrev pub took : Log → (applied_ordinal : ℕ) → ℕ → Bool
took l a k = landed (entry_of l k).change.apply a (entry_of l k).change.ordinal.0

-- and which had been undone
abbrev pub undid : Log → (applied_ordinal : ℕ) → ℕ → Bool
undid l a k = landed (entry_of l k).rollback.apply a (entry_of l k).rollback.ordinal.0

-- those taken and not undone
abbrev pub holds : State → ℕ → Bool
holds s k = took s.log s.applied.head.ordinal.0 k && not (undid s.log s.applied.head.ordinal.0 k)

pub record Audited (s : State) (es : List Event) : Type 0 where
  pub took : (k : ℕ) → s.log.folded.0 < k → took s.log s.applied.head.ordinal.0 k ≡ completed es 1 2 k
  pub undid : (k : ℕ) → s.log.folded.0 < k → undid s.log s.applied.head.ordinal.0 k ≡ completed es 2 2 k
  -- the set of the log is the set of the history, as far as it is kept
  pub set : newest_first (holds s) (last s.log) ≡ newest_first (kept s (live es 2)) (last s.log)

-- ---- what its class c tells of number k, kept (order 11). The push comes before the store of the status: so where that store
-- was cut, a change that was taken has class 1, and one that was undone class 5
pub record Classed (s : State) (es : List Event) (k c : ℕ) : Type 0 where
  pub known : (1 ≤ c) × (c ≤ 6)
  -- open: taken exactly where the closing rule is to write the status
  pub still_open : c ≡ 1 → (n : ℕ) (ok : Bool) → completed es 1 2 k ≡ closing2 s k n ok
  -- stopped or invalid: never taken
  pub never : 2 ≤ c → c ≤ 3 → completed es 1 2 k ≡ false
  pub taken : c ≡ 4 → completed es 1 2 k ≡ true
  -- up to taken: not undone
  pub stays : c ≤ 4 → completed es 2 2 k ≡ false
  -- being undone: undone exactly where the closing rule is to write the status
  pub undoing : c ≡ 5 → (n : ℕ) (ok : Bool) → completed es 2 2 k ≡ closing4 s k n ok
  -- undone: it was never taken, or has been undone
  pub undone : c ≡ 6 → live es 2 k ≡ false

-- How far each entry has come: what the four stages of a transaction may wait for, and where the commit side's target is.
-- With the invariant (Invariant) it says which job is possible (orders 2 and 4). Kept by every call: Staged. Assumes nothing.
use Rattle.std.specs.Prelude.{ℕ, suc, ◌≤◌, ◌<◌, true, false, ◌≡◌}
use Rattle.kinds.specs.declared.Transaction.{Transaction}
use Rattle.kinds.specs.declared.Head.{Head}
use Rattle.kinds.specs.declared.Side.{Side}
use Rattle.kinds.specs.declared.Status.TheVariants.{None, Pending, InProgress, Complete, Canceled, Failed}
use Rattle.kinds.specs.Statuses.{done}
use Rattle.rules.specs.AtRest.{at_rest}
use Rattle.machine.specs.State.{Log, State, entry_of, last}
use Rattle.machine.specs.Rest.{mark_of}
use Rattle.history.specs.Invariant.{is_ended}

-- a change or a rollback, with Applied's ordinal a: what waits to be applied was not passed, and what is being applied
-- was not left behind
pub record Stage (a : ℕ) (x : Side) : Type 0 where
  pub waits : x.commit ≡ Complete → x.apply ≡ Pending → a < x.ordinal.0
  pub goes : x.apply ≡ InProgress → a ≤ x.ordinal.0

-- entry k, with Committed's change c, revision v and ordinal b, and Applied's ordinal a
pub record EntryStage (c v b a k : ℕ) (t : Transaction) : Type 0 where
  -- an entry of the log was asked to change
  pub some : 1 ≤ t.phase → (t.change.commit ≡ None → ⊥) × (t.change.apply ≡ None → ⊥)
  -- none waits to be committed that was passed
  pub waits : t.change.commit ≡ Pending → c < k
  -- a commit whose status is yet to be stored was not applied
  pub closing : t.change.commit ≡ InProgress → k ≤ c → a < b
  pub returned : t.rollback.commit ≡ InProgress → (k ≡ v → ⊥) → a < b
  -- only an invalid change is Canceled, and no rollback is Aborted or Failed
  pub canceled : t.change.apply ≡ Canceled → t.change.commit ≡ Failed
  pub sound : is_ended t.rollback.apply ≡ false
  -- a rollback is of a committed change
  pub asked : (t.rollback.commit ≡ None → ⊥) → (t.change.commit ≡ Complete) × (t.rollback.apply ≡ None → ⊥)
  pub plain : t.rollback.commit ≡ None → t.phase ≤ 1
  pub change : Stage a t.change
  pub rollback : Stage a t.rollback

-- where the commit side's target is: at rest; on the change in flight, or that change is to be closed; on what the
-- revision's rollback returns to, or that rollback is to be closed
pub data Mode (l : Log) (c : ℕ) (h : Head) : Type 0 where
  rests : at_rest h (mark_of l h.index.0 (entry_of l h.index.0).change.commit) (mark_of l h.index.0 (entry_of l h.index.0).rollback.commit) ≡ true → Mode l c h
  flies : h.target.0 ≡ suc c → suc c ≤ last l → Mode l c h
  closes : (k : ℕ) → (entry_of l k).change.commit ≡ InProgress → k ≤ c → Mode l c h
  returns : h.target.0 ≡ (entry_of l h.revision.0).index.0 → ((entry_of l h.revision.0).rollback.commit ≡ None → ⊥)
      → done (entry_of l h.revision.0).rollback.commit ≡ false
      → Mode l c h
  closes_back : (k : ℕ) → (entry_of l k).rollback.commit ≡ InProgress → (k ≡ h.revision.0 → ⊥) → Mode l c h

abbrev pub Entries : Log → (c v b a : ℕ) → Type 0
Entries l c v b a = (k : ℕ) → EntryStage c v b a k (entry_of l k)

pub record Stages (s : State) : Type 0 where
  pub entries : Entries s.log s.change.0 s.committed.head.revision.0 s.committed.head.ordinal.0 s.applied.head.ordinal.0
  pub mode : Mode s.log s.change.0 s.committed.head

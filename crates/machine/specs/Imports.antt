-- Order 6, stated: when a list is refused and which entry that names; what an accepted one leaves. No proof in it.
-- Assumes nothing.
use Rattle.std.specs.Prelude.{ℕ, suc, ◌≤◌, ◌<◌, List, [], ◌∷◌, true, false, ◌≡◌, length, get_or}
use Rattle.kinds.specs.declared.Transaction.{Transaction}
use Rattle.kinds.specs.declared.Status.TheVariants.{Pending, Complete}
use Rattle.rules.specs.Sides.{untouched}
use Rattle.machine.specs.State.{State, absent, fresh_part, entry_of, last}
use Rattle.machine.specs.WellFormed.{well_formed}
use Rattle.machine.specs.Rest.{rest_of}
use Rattle.machine.specs.Calls.{Pair, Call, valid_change, appended}
use Rattle.machine.specs.Step.{step, run}
use Rattle.machine.specs.Import.{Entry, adds, undoes, neither, Verdict, opening, number_at, import_calls}

-- ---- the first k entries of a list; places are counted from 1
-- the entry at place k + 1
abbrev pub entry_after : List Entry → ℕ → Entry
entry_after es k = get_or es k neither

-- a rollback among them names place p
pub record Named (es : List Entry) (k p : ℕ) : Type 0 where
  pub before : ℕ
  pub early : before < k
  pub names : entry_after es before ≡ undoes p

-- at place p is a change, and none of them names it
pub record Live (es : List Entry) (k p : ℕ) : Type 0 where
  pub before : ℕ
  pub early : before < k
  pub place : p ≡ suc before
  pub pairs : List Pair
  pub change : entry_after es before ≡ adds pairs
  pub stands : Named es k p → ⊥

pub record Newest (es : List Entry) (k p : ℕ) : Type 0 where
  pub live : Live es k p
  pub newest : (q : ℕ) → p < q → Live es k q → ⊥

-- ---- what an entry may be behind them, and each way in which it may not, with the refusal
pub data Good (es : List Entry) (k : ℕ) : Entry → Type 0 where
  change : {ps : List Pair} → valid_change ps ≡ true → number_at es k < 128 → Good es k (adds ps)
  rollback : {p : ℕ} → Newest es k p → Good es k (undoes p)

pub data Bad (es : List Entry) (k : ℕ) : Entry → ℕ → Type 0 where
  pairs : {ps : List Pair} → valid_change ps ≡ false → Bad es k (adds ps) 3
  full : {ps : List Pair} → valid_change ps ≡ true → 128 ≤ number_at es k → Bad es k (adds ps) 4
  names : {p : ℕ} → (Newest es k p → ⊥) → Bad es k (undoes p) 16
  kind : Bad es k neither 16

abbrev pub GoodUpTo : List Entry → ℕ → Type 0
GoodUpTo es k = (j : ℕ) → j < k → Good es j (entry_after es j)

pub record FirstBad (es : List Entry) (v : Verdict) : Type 0 where
  pub before : ℕ
  pub inside : before < length es
  pub position : v.position ≡ suc before
  pub good : GoodUpTo es before
  pub bad : Bad es before (entry_after es before) v.answer

-- a verdict: accepted, too long, or that of the first bad entry
pub data Verdicts (es : List Entry) : Verdict → Type 0 where
  accepted : length es ≤ 256 → GoodUpTo es (length es) → Verdicts es (record { answer = 0; position = 0 })
  long : 256 < length es → Verdicts es (record { answer = 2; position = 0 })
  refused : {v : Verdict} → length es ≤ 256 → FirstBad es v → Verdicts es v

-- ---- what an accepted import leaves
-- each call is accepted where the ones before it were made from fresh
unfoldable pub Accepted : List Call → Type 0
Accepted [] = Unit {0}
Accepted (c ∷ cs) = ((step (run false cs).state c).reply.answer ≡ 0) × Accepted cs

-- a change: its pairs, committed and not applied
pub record Committed (ps : List Pair) (t : Transaction) : Type 0 where
  pub pairs : (t.count ≡ length ps) × (t.paths ≡ (appended ps).paths) × (t.values ≡ (appended ps).values)
  pub commit : t.change.commit ≡ Complete
  pub apply : t.change.apply ≡ Pending

-- and its rollback: none asked where none names it, else committed and not applied
pub data Ended (es : List Entry) (k p : ℕ) (t : Transaction) : Type 0 where
  stays : (Named es k p → ⊥) → t.phase ≡ 1 → t.rollback ≡ untouched → Ended es k p t
  undone : Named es k p → t.phase ≡ 2 → t.rollback.commit ≡ Complete → t.rollback.apply ≡ Pending → Ended es k p t

-- the number of the newest live change, or 0
pub data Revises (es : List Entry) (k : ℕ) : ℕ → Type 0 where
  bare : ((p : ℕ) → Live es k p → ⊥) → Revises es k 0
  newest : {p : ℕ} → Newest es k p → Revises es k (number_at es p)

-- every call accepted; the changes in order, renumbered, all commits finished; nothing applied; node 1 as it became master
pub record Imported (es : List Entry) (s : State) : Type 0 where
  pub calls : Accepted (import_calls es)
  pub formed : well_formed s ≡ true
  pub fold : s.log.folded.0 ≡ 0
  pub size : last s.log ≡ number_at es (length es)
  pub commits : (k : ℕ) (ps : List Pair) → k < length es → entry_after es k ≡ adds ps
      → (let t = entry_of s.log (number_at es (suc k)) in Committed ps t × Ended es (length es) (suc k) t)
  pub change : s.change.0 ≡ number_at es (length es)
  pub ordinal : s.committed.head.ordinal.0 ≡ length es
  pub revision : Revises es (length es) s.committed.head.revision.0
  pub rest : rest_of s ≡ true
  pub applied : s.applied ≡ fresh_part
  pub net : s.net ≡ (run false opening).state.net
  pub target : s.net.values ≡ absent

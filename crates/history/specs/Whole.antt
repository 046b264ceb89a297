-- The state had nothing ever been folded: every store that the calls made, but for those of folds (order 10). The state kept
-- is this one with its front folded away (Reached). No proof in it. Assumes nothing.
use Rattle.std.specs.Prelude.{ℕ, ◌≤◌, ◌<◌, List, [], ◌∷◌, Bool, true, false, ◌||◌, ◌≡◌, eqb, length, get_or}
use Rattle.kinds.specs.declared.Transaction.{Transaction}
use Rattle.kinds.specs.Numbers.{num}
use Rattle.machine.specs.State.{Log, State, absent, fresh, entry_of, folded_to, last}
use Rattle.machine.specs.Stores.{Store, with_log, with_base, afters}
use Rattle.machine.specs.Folding.{stays, finished}
use Rattle.machine.specs.Calls.{Call, append, rollback, start, stop, connect, disconnect, master, sync, work, fold_to}
use Rattle.machine.specs.Step.{outcome, run}
use Rattle.history.specs.Demand3.{highest}
use Rattle.history.specs.Invariant.{change_touched, rollback_touched}

abbrev pub unless_fold : Call → List Store → List Store
unless_fold (append ps) es = es
unless_fold (rollback i) es = es
unless_fold start es = es
unless_fold stop es = es
unless_fold (connect n) es = es
unless_fold (disconnect n) es = es
unless_fold (master n) es = es
unless_fold (sync n) es = es
unless_fold (work n j i r c) es = es
unless_fold (fold_to b) es = []

-- whether a call that was answered so folded, and whether one of these did
abbrev pub folded_by : Call → (answer : ℕ) → Bool
folded_by (append ps) a = false
folded_by (rollback i) a = false
folded_by start a = false
folded_by stop a = false
folded_by (connect n) a = false
folded_by (disconnect n) a = false
folded_by (master n) a = false
folded_by (sync n) a = false
folded_by (work n j i r c) a = false
folded_by (fold_to b) a = eqb a 0

unfoldable pub folds : Bool → List Call → Bool
folds m [] = false
folds m (c ∷ cs) = folded_by c (outcome (run m cs).state c).reply.answer || folds m cs

unfoldable pub whole : Bool → List Call → State
whole m [] = fresh m
whole m (c ∷ cs) = afters (whole m cs) (unless_fold c (outcome (run m cs).state c).stores)

-- ---- with 1 to b folded away, and the base values vs
abbrev pub shown_log : Log → ℕ → List ℕ → Log
shown_log l b vs = folded_to (with_base l vs) (num b)

abbrev pub shown : State → ℕ → List ℕ → State
shown w b vs = with_log w (shown_log w.log b vs)

-- what a fold relies on, and leaves so: each of 1 to b is finished, and the base is what those of them that stay set
pub record Front (l : Log) (b : ℕ) (vs : List ℕ) : Type 0 where
  pub whole : l.folded.0 ≡ 0
  pub absent : l.base ≡ absent
  pub within : b ≤ last l
  pub finished : (k : ℕ) → 1 ≤ k → k ≤ b → finished (entry_of l k) ≡ true
  pub base : (p : ℕ) → p < 32 → get_or vs p 0 ≡ highest l (λ k. stays (entry_of l k)) b p
  pub room : length vs ≡ 32

-- and nothing of them is left to do: the changes are passed, and so is what was begun, ended or canceled
pub record EntryPassed (a : ℕ) (t : Transaction) : Type 0 where
  pub change : change_touched t.change.apply ≡ true → t.change.ordinal.0 ≤ a
  pub rollback : rollback_touched t.rollback.apply ≡ true → t.rollback.ordinal.0 ≤ a

pub record Passed (w : State) (b : ℕ) : Type 0 where
  pub change : b ≤ w.change.0
  pub entries : (k : ℕ) → 1 ≤ k → k ≤ b → EntryPassed w.applied.head.ordinal.0 (entry_of w.log k)

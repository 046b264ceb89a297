-- The five guarantees that source 001 states in prose, over the history of events. Proved in Guaranteed.
-- Assumes nothing.
use Rattle.std.specs.Prelude.{ℕ, ◌≤◌, ◌<◌, List, [], ◌∷◌, Bool, true, false, ◌&&◌, ◌||◌, ◌≡◌, ltb}
use Rattle.kinds.specs.declared.Event.{Event}
use Rattle.kinds.specs.declared.Status.TheVariants.{Complete, Canceled, Failed}
use Rattle.history.specs.Demand3.{tells, told, completed, live}
use Rattle.history.specs.Ops.{ops_of, Sub}

-- what holds of the events given so far, at every moment
pub record Always (es : List Event) : Type 0 where
  -- committed before applied, of changes and of rollbacks; and a rollback after its change
  pub committed_first : (k : ℕ) → completed es 1 2 k ≡ true → completed es 1 1 k ≡ true
  pub rolled_back_first : (k : ℕ) → completed es 2 2 k ≡ true → completed es 2 1 k ≡ true
  pub change_first : (k : ℕ) → completed es 2 1 k ≡ true → completed es 1 1 k ≡ true
  -- applied in the order committed: the applies, in order, are a selection of the commits, in order
  pub in_order : Sub (ops_of Complete 2 es) (ops_of Complete 1 es)

-- change j was committed behind change i: after it, and before the rollback of i was committed
unfoldable pub behind : List Event → ℕ → ℕ → Bool
behind [] i j = false
behind (e ∷ es) i j = (tells Complete e 2 1 i && (ltb i j && completed es 1 1 j)) || behind es i j

-- what holds of the events es given before, when the event e is given
pub record Then (es : List Event) (e : Event) : Type 0 where
  -- changes are committed and applied in log order
  pub commits : (k : ℕ) → tells Complete e 1 1 k ≡ true → (j : ℕ) → completed es 1 1 j ≡ true → j < k
  pub applies : (k : ℕ) → tells Complete e 1 2 k ≡ true → (j : ℕ) → completed es 1 2 j ≡ true → j < k
  -- rollbacks are committed and applied in reverse order: none while a later change is live
  pub rollbacks : (k : ℕ) → tells Complete e 2 1 k ≡ true → (j : ℕ) → live es 1 j ≡ true → j ≤ k
  pub returns : (k : ℕ) → tells Complete e 2 2 k ≡ true → (j : ℕ) → live es 2 j ≡ true → j ≤ k
  -- after a rejection no change applies until the rejected one is rolled back, and each of those behind it is, or its
  -- rollback is canceled
  pub rejected : (k : ℕ) → tells Complete e 1 2 k ≡ true → (i : ℕ) → told Failed es 1 2 i ≡ true → completed es 2 2 i ≡ true
  pub behind_it : (k : ℕ) → tells Complete e 1 2 k ≡ true → (i j : ℕ) → told Failed es 1 2 i ≡ true → behind es i j ≡ true
      → (completed es 2 2 j || told Canceled es 2 2 j) ≡ true

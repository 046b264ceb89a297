-- Fold: when the front of the log may be folded away, and what it leaves (order 10). Assumes nothing.
use Rattle.std.specs.Prelude.{ℕ, List, [], ◌∷◌, ◌++◌, Bool, true, false, not, ◌&&◌, ◌||◌, eqb, ltb, leb}
use Rattle.kinds.specs.declared.Transaction.{Transaction}
use Rattle.kinds.specs.declared.Side.{Side}
use Rattle.kinds.specs.Numbers.{follows}
use Rattle.kinds.specs.Statuses.{done, is_complete, is_pending, is_failed}
use Rattle.rules.specs.declared.Lay.TheVariants.{Values}
use Rattle.machine.specs.State.{Log, State, entry_of}
use Rattle.machine.specs.Stores.{of_base, Store}
use Rattle.machine.specs.Rows.{laid}
use Rattle.machine.specs.WellFormed.{all_entries}
use Rattle.machine.specs.Settled.{settled}
use Rattle.machine.specs.Rest.{rest_of}

-- ---- finished: invalid; or applied Complete with no rollback asked; or its rollback's apply Done
abbrev pub stays : Transaction → Bool
stays t = is_complete t.change.apply && eqb t.phase 1

abbrev pub finished : Transaction → Bool
finished t = is_failed t.change.commit || (stays t || done t.rollback.apply)

-- every number up to b is
abbrev pub finished_to : ℕ → ℕ → Transaction → Bool
finished_to b i t = ltb b i || finished t

-- ---- waiting: what carries the ordinal after the applied one, a, is Pending, and the applied target g has not moved to
-- where it leads
abbrev pub side_waits : ℕ → ℕ → ℕ → Side → Bool
side_waits a g aim x = not (follows a x.ordinal.0) || (is_pending x.apply && not (eqb g aim))

abbrev pub entry_waits : ℕ → ℕ → ℕ → Transaction → Bool
entry_waits a g i t = side_waits a g i t.change && side_waits a g t.index.0 t.rollback

-- ---- allowed
abbrev pub may_fold : State → ℕ → Bool
may_fold s b =
    let h = s.applied.head in
    (rest_of s && settled s) && (all_entries (entry_waits h.ordinal.0 h.target.0) s.log && all_entries (finished_to b) s.log)

-- ---- the live ones up to b, newest first in ks, laid over the base, the oldest first
abbrev pub base_if : Bool → Transaction → List Store
base_if true t = laid of_base Values t
base_if false t = []

unfoldable pub base_row : Log → ℕ → List ℕ → List Store
base_row l b [] = []
base_row l b (k ∷ ks) = base_row l b ks ++ base_if (leb k b) (entry_of l k)

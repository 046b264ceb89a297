-- Order 13: the paths at which two tables of values differ, how many they are, and the stores that bring the target's values
-- there to the other table's. Assumes nothing.
use Rattle.std.specs.Prelude.{ℕ, zero, suc, ◌+◌, List, [], ◌++◌, Bool, not, cond, eqb, get_or}
use Rattle.machine.specs.Stores.{of_target, Store}
use Rattle.machine.specs.Rows.{lay_one}

abbrev pub differs_at : (target applied : List ℕ) → (path : ℕ) → Bool
differs_at ws vs p = not (eqb (get_or ws p 0) (get_or vs p 0))

-- of the paths below k: how many differ
unfoldable pub differ : (k : ℕ) → (target applied : List ℕ) → ℕ
differ zero ws vs = 0
differ (suc k) ws vs = differ k ws vs + cond (differs_at ws vs k) 1 0

-- and their stores, rising
unfoldable pub differ_row : (k : ℕ) → (target applied : List ℕ) → List Store
differ_row zero ws vs = []
differ_row (suc k) ws vs = differ_row k ws vs ++ lay_one (differs_at ws vs k) of_target k (get_or vs k 0)

-- Four statuses in one number, and back (order 12). Assumes nothing.
use Rattle.std.specs.Prelude.{ℕ, ◌+◌, ◌*◌, ◌/◌, ◌%◌}
use Rattle.kinds.specs.declared.Transaction.{Transaction}
use Rattle.kinds.specs.declared.Status.{Status}
use Rattle.kinds.specs.Statuses.{code_of, status_of}
use Rattle.machine.specs.Class.{class_by}

-- c.commit × 343 + c.apply × 49 + r.commit × 7 + r.apply
abbrev pub packed : ℕ → ℕ → ℕ → ℕ → ℕ
packed a b c d = a * 343 + b * 49 + c * 7 + d

unfoldable pub packed_of : Transaction → ℕ
packed_of t = packed (code_of t.change.commit) (code_of t.change.apply) (code_of t.rollback.commit) (code_of t.rollback.apply)

-- 2,400
abbrev pub highest_packed : ℕ
highest_packed = packed 6 6 6 6

-- ---- and back: each side is commit × 7 + apply, and the number is the change's × 49 + the rollback's
abbrev pub change_in : ℕ → ℕ
change_in n = n / 49

abbrev pub rollback_in : ℕ → ℕ
rollback_in n = n % 49

unfoldable pub commit_in : ℕ → Status
commit_in h = status_of (h / 7)

unfoldable pub apply_in : ℕ → Status
apply_in h = status_of (h % 7)

-- the class of a transaction with these statuses
abbrev pub class_at : ℕ → ℕ
class_at n = class_by (commit_in (change_in n)) (apply_in (change_in n)) (commit_in (rollback_in n)) (apply_in (rollback_in n))

-- `fill` puts a night's outcomes into the table, place by place. Assumes nothing.
use Prim.Native.Nat.{ℕ, ◌+◌, ◌*◌}
use mathlib.Core.Path.{◌≡◌}
use lib.ListN.{length, take, get_or}
use Rattle.stepper.specs.Answers.{tab}
use Rattle.stepper.proofs.fill.Given as goal

abbrev pub invariant-loop-i : goal.invariant-loop-i
invariant-loop-i l = (take l.i l.table ≡ tab (λ (j : ℕ). get_or l.said (2 * j + 4) 0) l.i) × (length l.table ≡ 257)

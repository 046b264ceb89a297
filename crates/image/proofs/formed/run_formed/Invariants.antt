-- `run_formed` meets its contract: the entries before i are formed, and `at` is the place of the next. Assumes nothing.
use Rattle.image.specs.Layout.{slots, stride}
use Prim.Native.Nat.{◌+◌, ◌*◌, ◌%◌, ◌≤◌, ◌-◌}
use mathlib.Core.Path.{◌≡◌}
use mathlib.Core.Bool.{true}
use Rattle.image.specs.Formed.{all_kept, entry_formed}
use Rattle.image.proofs.formed.run_formed.Given as goal

abbrev pub invariant-loop-i : goal.invariant-loop-i
invariant-loop-i l = (l.at ≡ stride * (l.b % slots) + stride * (l.i - l.b)) × ((l.b ≤ l.i) × ((l.i ≤ l.n) × (all_kept (entry_formed l.s) l.b l.i ≡ true)))

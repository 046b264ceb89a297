-- `like` meets its contract. Assumes nothing.
use mathlib.Core.Path.{◌≡◌}
use Prim.Native.Nat.{◌-◌}
use Rattle.lines.specs.Reading.{like}
use Rattle.lines.proofs.reading.like.Given as goal

abbrev pub invariant-loop-k : goal.invariant-loop-k
invariant-loop-k l = like l.p l.q ≡ like (l.p - l.k) (l.q - l.k)

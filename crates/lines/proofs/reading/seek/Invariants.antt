-- `seek` looks at the place itself first, and then at its column, row by row. Assumes nothing.
use Rattle.lines.specs.Reading.{size, seek_in, left}
use mathlib.Core.Path.{◌≡◌}
use Prim.Native.Nat.{◌-◌}
use Rattle.lines.proofs.reading.seek.Given as goal

abbrev pub invariant-loop-q : goal.invariant-loop-q
invariant-loop-q l = seek_in (left l.p) l.p l.b l.p ≡ seek_in (left l.q) l.p l.b l.q

abbrev pub decreases-loop-q : goal.decreases-loop-q
decreases-loop-q l = size - l.q

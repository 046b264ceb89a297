-- `read` folds the bytes of the line. Assumes nothing.
use Rattle.lines.specs.Reading.{ran}
use lib.ListN.{take}
use mathlib.Core.Path.{◌≡◌}
use Rattle.lines.proofs.reading.read.Given as goal

abbrev pub invariant-loop-b : goal.invariant-loop-b
invariant-loop-b l = (l.r ≡ (ran l.initial.room (take l.b-index l.line)).0) × (l.room ≡ (ran l.initial.room (take l.b-index l.line)).1)

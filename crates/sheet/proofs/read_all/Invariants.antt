-- `read_all` reads no more than there is room for, and ends: each read that does not end it brings a byte. Assumes nothing.
use Rattle.std.proofs.Common.{◌-◌, ◌≤◌}
use Rattle.sheet.proofs.read_all.Given as goal

abbrev pub invariant-loop-used : goal.invariant-loop-used
invariant-loop-used g l = l.used ≤ l.end

abbrev pub decreases-loop-used : goal.decreases-loop-used
decreases-loop-used g l = l.end - l.used

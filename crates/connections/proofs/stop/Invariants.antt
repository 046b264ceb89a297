-- `stop` meets its contract: the records before i are disconnected. Assumes nothing.
use Rattle.std.proofs.Common.{◌≡◌, ◌<◌, ◌≤◌, ◌-◌, length}
use Rattle.connections.proofs.Laws.{cleared}
use Rattle.connections.proofs.stop.Given as goal

abbrev pub invariant-loop-i : goal.invariant-loop-i
invariant-loop-i l = (l.conns ≡ cleared l.i l.initial.conns) × (l.i ≤ length l.initial.conns)

abbrev pub decreases-loop-i : goal.decreases-loop-i
decreases-loop-i l = length l.initial.conns - l.i

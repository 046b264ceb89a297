-- `through` meets its contract. Assumes nothing.
use Prim.Native.Nat.{◌-◌, ◌≤◌}
use Rattle.controller.specs.Nights.{Quiet}
use Rattle.controller.proofs.Turned.{Gone}
use Rattle.controller.proofs.nights.through.Given as goal

abbrev pub invariant-loop-k : goal.invariant-loop-k
invariant-loop-k l = (l.k ≤ l.budget) × (Gone l.initial.s l.outcomes l.initial.events l.node l.k l.s l.events × Quiet l.s l.low)

abbrev pub decreases-loop-k : goal.decreases-loop-k
decreases-loop-k l = l.budget - l.k

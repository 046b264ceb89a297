-- `clear_target` meets its contract. Assumes nothing.
use Prim.Native.Nat.{◌≤◌}
use Rattle.machine.specs.State.{absent}
use Rattle.image.proofs.Chain.{Here}
use Rattle.image.proofs.parts.clear_target.Given as goal

abbrev pub invariant-loop-k : goal.invariant-loop-k
invariant-loop-k l = (l.k ≤ 32) × Here l.initial.s absent l.s l.k

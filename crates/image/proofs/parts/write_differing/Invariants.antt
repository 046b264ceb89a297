-- `write_differing` meets its contract. Assumes nothing.
use Prim.Native.Nat.{◌≤◌}
use mathlib.Core.Path.{◌≡◌}
use lib.ListN.{length}
use Rattle.image.proofs.Differed.{Differed}
use Rattle.image.proofs.parts.write_differing.Given as goal

abbrev pub invariant-loop-k : goal.invariant-loop-k
invariant-loop-k l = (l.k ≤ 32) × ((length l.s ≡ length l.initial.s) × Differed l.initial.s l.s l.k l.count)

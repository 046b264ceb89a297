-- `owners_formed` meets its contract: `ok` says whether the owners before k are at most n. Assumes nothing.
use Prim.Native.Nat.{◌≤◌}
use mathlib.Core.Path.{◌≡◌}
use Rattle.image.proofs.Scanned.{most_of}
use Rattle.image.proofs.formed.owners_formed.Given as goal

abbrev pub invariant-loop-k : goal.invariant-loop-k
invariant-loop-k l = (l.k ≤ 32) × (l.ok ≡ most_of l.s l.n l.k)

-- `flags_formed` meets its contract: `ok` says whether the flags before are flags. Assumes nothing.
use mathlib.Core.Path.{◌≡◌}
use Rattle.image.proofs.Scanned.{flags_first}
use Rattle.image.proofs.formed.flags_formed.Given as goal

abbrev pub invariant-loop-k : goal.invariant-loop-k
invariant-loop-k l = l.ok ≡ flags_first l.s l.k

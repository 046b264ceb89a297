-- `feed` takes the bytes of a block one by one; what is lent keeps its length. Assumes nothing.
use Rattle.stepper.specs.Fed.{Feeds}
use lib.ListN.{length, take}
use mathlib.Core.Path.{◌≡◌}
use Prim.Native.Nat.{◌+◌, ◌*◌, ◌≤◌}
use Rattle.stepper.proofs.feed.Given as goal

abbrev pub invariant-loop-b : goal.invariant-loop-b
invariant-loop-b l = Feeds l.initial.image l.initial.out l.initial.room l.initial.session
    (take l.b-index l.block) l.session l.image l.out l.room × (length l.image ≡ length l.initial.image) × (length l.out ≡ length l.initial.out) × (l.session.used ≤ l.initial.session.used + 96 * l.b-index)

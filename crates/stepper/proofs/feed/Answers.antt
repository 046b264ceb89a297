-- `feed` takes the bytes of a block one by one; what is lent keeps its length. Assumes nothing.
use borrow.Author.Rules.{rules}
use Rattle.stepper.proofs.Fed.{fed_more, fed_all, takes_room}
use Rattle.stepper.specs.Fed.{none}
use lib.ListN.{get_or}
use native.Mathlib.Omega.{arith}
use mathlib.Core.Path.{refl}
use Prim.Native.Nat.{◌+◌, ◌≤◌}
use Rattle.stepper.proofs.feed.Goals as goal

pub loop-b-init : goal.loop-b-init
loop-b-init c = (none, refl, refl, omega arith)

pub loop-b-preserved : goal.loop-b-preserved
loop-b-preserved c = (
  fed_more _ _ _ _ _
      c.loop-b.b-index _ _ _ _ _ _ _ _
      c.loop-b-test.true
      c.loop-b.invariant.0 c.take_byte-session.ensures,
  search rules,
  search rules,
  let h : c.take_byte-session.result.used
      ≤ c.loop-b.session.used + 96 = takes_room _ _ _
      c.loop-b.session
      (get_or c.args.block.now
      c.loop-b.b-index 0) _ _ _ _
      c.take_byte-session.ensures in
      omega (arith, h, c.loop-b.invariant.3),
)

pub returns : goal.returns
returns c = fed_all _ _ _ _ _ c.loop-b.b-index _ _ _ _ c.loop-b-test.false c.loop-b.invariant.0

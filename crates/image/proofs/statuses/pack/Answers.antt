-- `pack` meets its contract. Assumes nothing.
use mathlib.Core.Path.{◌∙◌}
use native.Mathlib.Omega.{arith}
use Rattle.image.proofs.Packed.{statuses_of, packed_more, room_left, packs}
use Rattle.image.proofs.statuses.pack.Goals as goal

pub overflow_mul-packed : goal.overflow_mul-packed
overflow_mul-packed c = omega (arith, c.loop-status.invariant, room_left (statuses_of c.args.t) c.loop-status.status-index c.loop-status-test.true)

pub loop-status-preserved : goal.loop-status-preserved
loop-status-preserved c =
    packed_more (statuses_of c.args.t) _ _ _ _ c.loop-status.invariant (c.from.ensures ∙ c.code.ensures)
    (omega (arith, c.loop-status.invariant, room_left (statuses_of c.args.t) c.loop-status.status-index c.loop-status-test.true))

pub returns : goal.returns
returns c = packs c.args.t _ _ c.loop-status.invariant (omega (arith, c.loop-status-test.false, c.loop-status.auto.status-index-end))

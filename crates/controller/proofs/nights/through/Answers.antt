-- `through` meets its contract. Assumes nothing.
use native.Mathlib.Omega.{arith}
use Rattle.controller.proofs.Turned.{quiet_none, gone_none, turn_goes, turn_quiet, over_early, over_spent}
use Rattle.controller.proofs.nights.through.Goals as goal

pub loop-k-init : goal.loop-k-init
loop-k-init c = (omega arith, (gone_none _ _ _ _ (λ i. omega (arith, c.slice_known-1.given i)) c.requires, quiet_none _ c.requires.formed _ c.last_fold-low.ensures))

pub returns-then-t-eq0 : goal.returns-then-t-eq0
returns-then-t-eq0 c = over_early _ _ _ _ _ _ _ c.loop-k.invariant.1.0 _ _ _ (omega (arith, c.loop-k-test.true)) _ _ _ c.turn-t.ensures c.if-t-eq0.true c.stopped_at.ensures c.fitting.ensures

pub loop-k-preserved : goal.loop-k-preserved
loop-k-preserved c = (omega (arith, c.loop-k-test.true), (turn_goes _ _ _ _ _ _ _ c.loop-k.invariant.1.0 _ _ _ c.turn-t.ensures c.if-t-eq0.false, turn_quiet _ _ _ _ _ _ _ c.loop-k.invariant.1.0 _ _ _ c.turn-t.ensures c.if-t-eq0.false _ c.skip-low.ensures))

pub returns : goal.returns
returns c = over_spent _ _ _ _ _ _ _ c.loop-k.invariant.1.0 _ _ _ c.loop-k.invariant.0 c.loop-k-test.false c.why_stopped.ensures c.fitting-2.ensures

-- `skip` meets its contract. Assumes nothing.
use native.Mathlib.Omega.{arith}
use mathlib.Core.Path.{◌≡◌, subst}
use Rattle.controller.specs.Nights.{Quiet}
use Rattle.controller.proofs.Turned.{quiet_more}
use Rattle.controller.proofs.nights.skip.Goals as goal

pub loop-i-init : goal.loop-i-init
loop-i-init c = c.requires.1

pub returns-then-not-is_idle : goal.returns-then-not-is_idle
returns-then-not-is_idle c = c.loop-i.invariant

pub loop-i-preserved : goal.loop-i-preserved
loop-i-preserved c = quiet_more _ c.requires.0 _ _ _ _ _ _ c.loop-i.invariant c.loop-i-test.true c.last_number-n.ensures c.load_change-change.ensures c.load_head-h.ensures c.load_entry-t.ensures c.is_idle.ensures (c.if-not-is_idle.false)

pub returns : goal.returns
returns c =
    let z : c.loop-i.i ≡ c.last_number-n.result = omega (arith, c.loop-i.invariant.last, c.loop-i-test.false, c.last_number-n.ensures) in
    subst (Quiet c.args.s.now) z c.loop-i.invariant

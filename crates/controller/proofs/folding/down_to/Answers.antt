-- `down_to` meets its contract: the number falls at each hop. Assumes nothing.
use mathlib.Core.Path.{refl}
use native.Mathlib.Omega.{arith}
use Rattle.controller.proofs.Folded.{down_reaches, down_more}
use Rattle.controller.proofs.folding.down_to.Goals as goal

pub loop-i-init : goal.loop-i-init
loop-i-init c = (c.requires.0, refl)

pub loop-i-preserved : goal.loop-i-preserved
loop-i-preserved c = down_more _ _ _ _ _ c.loop-i.invariant c.requires.1 c.loop-i-test.true _ c.hop-i.ensures

pub returns : goal.returns
returns c = down_reaches _ _ _ _ _ c.loop-i.invariant (omega (arith, c.loop-i-test.false))

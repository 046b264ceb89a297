-- `clear_target` meets its contract. Assumes nothing.
use mathlib.Core.Path.{refl}
use borrow.Author.Rules.{rules}
use Rattle.image.proofs.Chain.{clear_none, clear_more, all_here}
use Rattle.image.proofs.parts.clear_target.Goals as goal

pub loop-k-init : goal.loop-k-init
loop-k-init c = (search rules, clear_none _)

pub loop-k-preserved : goal.loop-k-preserved
loop-k-preserved c = (search rules, clear_more _ _ _ _ c.loop-k-test.true c.loop-k.invariant.1 c.put.ensures)

pub returns : goal.returns
returns c = all_here _ _ _ _ c.loop-k.invariant.0 c.loop-k-test.false refl c.loop-k.invariant.1

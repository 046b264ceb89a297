-- `write_differing` meets its contract. Assumes nothing.
use mathlib.Core.Path.{refl}
use native.Mathlib.Omega.{arith}
use borrow.Author.Rules.{rules}
use Rattle.image.proofs.Differed.{path_few, differed_none, differed_more, differed_all}
use Rattle.image.proofs.parts.write_differing.Goals as goal

pub loop-k-init : goal.loop-k-init
loop-k-init c = (search rules, (refl, differed_none _))

pub overflow_add-count : goal.overflow_add-count
overflow_add-count c = omega (arith, c.loop-k-test.true, c.loop-k.invariant.1.1.few, path_few _ _ _ _ c.write_path-count.ensures)

pub loop-k-preserved : goal.loop-k-preserved
loop-k-preserved c = let w = differed_more _ _ _ _ _ _ c.loop-k-test.true c.loop-k.invariant.1.1 c.write_path-count.ensures in (search rules, (w.size, w))

pub returns : goal.returns
returns c = differed_all _ _ _ _ c.loop-k.invariant.0 c.loop-k-test.false c.loop-k.invariant.1.1

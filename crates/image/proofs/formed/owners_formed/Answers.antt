-- `owners_formed` meets its contract: `ok` says whether the owners before k are at most n. Assumes nothing.
use mathlib.Core.Path.{refl}
use borrow.Author.Rules.{rules}
use Rattle.machine.specs.WellFormed.{all_at_most}
use Rattle.image.proofs.Scanned.{most_more, most_all}
use Rattle.image.proofs.formed.owners_formed.Goals as goal

pub loop-k-init : goal.loop-k-init
unfolding all_at_most
loop-k-init c = (search rules, refl)

pub loop-k-preserved : goal.loop-k-preserved
loop-k-preserved c = (search rules, most_more _ _ _ _ _ c.loop-k-test.true c.get-owner.ensures c.loop-k.invariant.1)

pub returns : goal.returns
returns c = most_all _ _ _ _ c.loop-k-test.false c.loop-k.invariant.1

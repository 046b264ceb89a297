-- `put_list` meets its contract: so many numbers are still to come. Assumes nothing.
use Rattle.controller.proofs.Walked.{putting_none, putting_more, putting_done}
use Rattle.controller.proofs.walking.put_list.Goals as goal

pub loop-k-init : goal.loop-k-init
loop-k-init c = putting_none _ _ _ c.requires

pub loop-k-preserved : goal.loop-k-preserved
loop-k-preserved c = putting_more _ _ _ c.requires _ _ c.loop-k.invariant c.loop-k-test.true _ c.put_number.ensures

pub returns : goal.returns
returns c = putting_done _ _ _ c.requires _ _ c.loop-k.invariant c.loop-k-test.false

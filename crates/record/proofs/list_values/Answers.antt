-- `list_values` lists the base path by path: after p turns those below p stand there. Assumes nothing.
use Rattle.lines.proofs.Recorded.{listed_none, listed_next, listed_whole, pairs_at_holds}
use Rattle.lines.proofs.Putting.{put_length}
use native.Mathlib.Omega.{arith}
use Rattle.record.proofs.list_values.Goals as goal

pub loop-p-init : goal.loop-p-init
loop-p-init c = listed_none _ _ _ _

pub list_value-at-requires : goal.list_value-at-requires
list_value-at-requires c = (c.requires.0, omega (arith, put_length c.loop-p.invariant, pairs_at_holds _ _ _ c.loop-p.p c.loop-p.invariant, c.loop-p-test.true, c.requires.1))

pub loop-p-preserved : goal.loop-p-preserved
loop-p-preserved c = listed_next _ _ c.loop-p.p c.loop-p.invariant c.list_value-at.ensures

pub returns : goal.returns
returns c = listed_whole _ _ c.loop-p.p 32 c.loop-p.auto.p-end c.loop-p-test.false c.loop-p.invariant

-- `list_down` meets its contract: the number falls at each hop. Assumes nothing.
use Rattle.controller.proofs.Walked.{going_none, going_room, going_more, going_done}
use Rattle.controller.proofs.folding.list_down.Goals as goal

pub loop-i-init : goal.loop-i-init
loop-i-init c = going_none _ _ _ _ c.requires.chained

pub bounds-room-n : goal.bounds-room-n
bounds-room-n c = going_room _ _ _ _ _ _ _ c.loop-i.invariant c.requires c.loop-i-test.true

pub loop-i-preserved : goal.loop-i-preserved
loop-i-preserved c = going_more _ _ _ _ _ _ _ c.loop-i.invariant c.requires c.loop-i-test.true _ c.hop-i.ensures

pub returns : goal.returns
returns c = going_done _ _ _ _ _ _ _ c.loop-i.invariant c.loop-i-test.false

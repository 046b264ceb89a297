-- `both_heads` meets its contract. Assumes nothing.
use Rattle.controller.proofs.Shows.{heads_are, no_heads}
use Rattle.controller.proofs.reads.both_heads.Goals as goal

pub returns-then-well_formed : goal.returns-then-well_formed
returns-then-well_formed c = heads_are _ _ c.well_formed-2.ensures _ _ c.if-well_formed.true c.load_head-committed.ensures c.load_head-applied.ensures

pub returns : goal.returns
returns c = no_heads _ _ c.well_formed-2.ensures _ _ c.if-well_formed.false c.no_head-committed.ensures c.no_head-applied.ensures

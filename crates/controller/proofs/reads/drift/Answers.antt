-- `drift` meets its contract. Assumes nothing.
use Rattle.controller.proofs.Shows.{unread, shows_by}
use Rattle.controller.proofs.Tallied.{mask_shown}
use Rattle.controller.proofs.reads.drift.Goals as goal

pub returns-then-well_formed : goal.returns-then-well_formed
returns-then-well_formed c = shows_by _ _ _ _ c.well_formed-2.ensures c.if-well_formed.true _ c.shows.ensures (mask_shown _ _ c.mask_of-m.ensures)

pub returns : goal.returns
returns c = unread _ _ _ _ c.well_formed-2.ensures c.if-well_formed.false c.refuses.ensures

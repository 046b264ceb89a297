-- `owner` meets its contract. Assumes nothing.
use Rattle.controller.proofs.Shows.{unread, shows_by, refuses_by, no_owner, owner_is, owner_folded}
use Rattle.controller.proofs.reads.owner.Goals as goal

pub returns-then-b-k : goal.returns-then-b-k
returns-then-b-k c = shows_by _ _ _ _ c.well_formed-2.ensures c.if-well_formed.true _ c.shows.ensures (owner_is _ _ c.if-path-lt32.true _ _ c.load_value-k.ensures c.last_fold-b.ensures c.if-b-k.true _ c.from.ensures)

pub returns-then-path-lt32 : goal.returns-then-path-lt32
returns-then-path-lt32 c = shows_by _ _ _ _ c.well_formed-2.ensures c.if-well_formed.true 0 c.shows-then-path-lt32.ensures (owner_folded _ _ c.if-path-lt32.true _ _ c.load_value-k.ensures c.last_fold-b.ensures c.if-b-k.false)

pub returns-then-well_formed : goal.returns-then-well_formed
returns-then-well_formed c = refuses_by _ _ _ _ c.well_formed-2.ensures c.if-well_formed.true 2 c.refuses.ensures (no_owner _ _ c.if-path-lt32.false)

pub returns : goal.returns
returns c = unread _ _ _ _ c.well_formed-2.ensures c.if-well_formed.false c.refuses-2.ensures

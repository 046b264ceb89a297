-- `turn` meets its contract. Assumes nothing.
use Rattle.controller.proofs.Turned.{found_number, turned_none, turned_one}
use Rattle.controller.proofs.nights.turn.Goals as goal

pub returns-then-f-eq0 : goal.returns-then-f-eq0
returns-then-f-eq0 c = turned_none _ _ _ _ c.find-f.ensures _ _ c.if-f-eq0.true

pub perform-requires : goal.perform-requires
perform-requires c = found_number _ _ _ c.requires.0 _ c.find-f.ensures c.if-f-eq0.false

pub returns : goal.returns
returns c = turned_one _ _ _ _ c.find-f.ensures _ _ c.if-f-eq0.false _ _ _ c.of_commit.ensures c.perform.ensures c.put_event.ensures

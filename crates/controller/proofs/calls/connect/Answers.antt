-- `connect` meets its contract. Assumes nothing.
use Rattle.controller.proofs.Answered.{connect_refused, connected}
use Rattle.controller.proofs.calls.connect.Goals as goal

pub returns-then-answer-eq0 : goal.returns-then-answer-eq0
returns-then-answer-eq0 c = connected _ _ _ _ _ c.load_connections.ensures _ c.load_target-t.ensures c.connect_of-x.ensures _ c.if-answer-eq0.true c.of.ensures c.store_connections.ensures

pub returns : goal.returns
returns c = connect_refused _ _ _ _ _ c.load_connections.ensures _ c.load_target-t.ensures c.connect_of-x.ensures c.if-answer-eq0.false c.of-2.ensures

-- `disconnect` meets its contract. Assumes nothing.
use Rattle.controller.proofs.Answered.{disconnect_refused, disconnected}
use Rattle.controller.proofs.calls.disconnect.Goals as goal

pub returns-then-answer-eq0 : goal.returns-then-answer-eq0
returns-then-answer-eq0 c = disconnected _ _ _ _ _ c.load_connections.ensures c.disconnect_of-x.ensures _ c.if-answer-eq0.true c.of.ensures c.store_connections.ensures

pub returns : goal.returns
returns c = disconnect_refused _ _ _ _ _ c.load_connections.ensures c.disconnect_of-x.ensures c.if-answer-eq0.false c.of-2.ensures

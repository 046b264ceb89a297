-- `start` meets its contract. Assumes nothing.
use Rattle.controller.proofs.Answered.{start_refused, started}
use Rattle.controller.proofs.calls.start.Goals as goal

pub returns-then-answer-eq0 : goal.returns-then-answer-eq0
returns-then-answer-eq0 c = started _ _ _ _ c.load_target.ensures c.start-x.ensures _ c.if-answer-eq0.true c.of.ensures c.store_target.ensures

pub returns : goal.returns
returns c = start_refused _ _ _ _ c.load_target.ensures c.start-x.ensures c.if-answer-eq0.false c.of-2.ensures

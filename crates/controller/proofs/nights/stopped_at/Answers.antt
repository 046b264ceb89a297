-- `stopped_at` meets its contract. Assumes nothing.
use Rattle.controller.proofs.Turned.{stopped_1, stopped_0, stopped_2}
use Rattle.controller.proofs.nights.stopped_at.Goals as goal

pub returns-then-lacks : goal.returns-then-lacks
returns-then-lacks c = stopped_1 _ _ c.if-job-eq0.true c.if-lacks.true

pub returns-then-job-eq0 : goal.returns-then-job-eq0
returns-then-job-eq0 c = stopped_0 _ _ c.if-job-eq0.true c.if-lacks.false

pub returns : goal.returns
returns c = stopped_2 _ c.args.lacks c.if-job-eq0.false

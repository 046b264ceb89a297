-- `judge_change` meets its contract. Assumes nothing.
use Rattle.controller.proofs.Importing.{judged_3, judged_4, judged_taken}
use Rattle.controller.proofs.imports.judge_change.Goals as goal

pub returns-then-changes-lt128 : goal.returns-then-changes-lt128
returns-then-changes-lt128 c = judged_taken _ _ _ _ _ _ c.change_ok.ensures c.if-change_ok.true c.if-changes-lt128.true

pub returns-then-change_ok : goal.returns-then-change_ok
returns-then-change_ok c = judged_4 _ _ _ _ _ _ c.change_ok.ensures c.if-change_ok.true c.if-changes-lt128.false

pub returns : goal.returns
returns c = judged_3 _ _ _ _ _ _ c.change_ok.ensures c.if-change_ok.false

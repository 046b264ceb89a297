-- `judge_entry` meets its contract. Assumes nothing.
use Rattle.controller.proofs.Importing.{judged_change, judged_neither, judged_undone, judged_16}
use Rattle.controller.proofs.imports.judge_entry.Goals as goal

pub returns-then-kind-eq1 : goal.returns-then-kind-eq1
returns-then-kind-eq1 c = judged_change _ _ _ _ _ _ _ c.two_at-kind.ensures c.two_at-n.ensures _ c.if-kind-eq1.true c.judge_change.ensures

pub returns-then-depth-n : goal.returns-then-depth-n
returns-then-depth-n c = judged_undone _ _ _ _ _ _ _ c.two_at-kind.ensures c.two_at-n.ensures c.if-kind-eq1.false c.if-kind-eq2.true c.if-depth-n.true

pub returns-then-kind-eq2 : goal.returns-then-kind-eq2
returns-then-kind-eq2 c = judged_16 _ _ _ _ _ _ _ c.two_at-kind.ensures c.two_at-n.ensures c.if-kind-eq1.false c.if-kind-eq2.true c.if-depth-n.false

pub returns : goal.returns
returns c = judged_neither _ _ _ _ _ _ _ c.two_at-kind.ensures c.two_at-n.ensures c.if-kind-eq1.false c.if-kind-eq2.false

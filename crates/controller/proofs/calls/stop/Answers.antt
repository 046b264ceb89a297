-- `stop` meets its contract. The test goes by `grind`: one that is written otherwise and is the same is proved. Assumes nothing.
use Rattle.controller.proofs.Answered.{stop_refused, stopped, holds, loses}
use mathlib.Core.Path.{◌∙◌}
use native.Mathlib.Omega.{arith}
use Rattle.controller.proofs.calls.stop.Goals as goal
use Rattle.controller.proofs.calls.stop.Goals.{then-not-remembers, else-not-remembers}

pub returns-then-answer-eq0 : goal.returns-then-answer-eq0
returns-then-answer-eq0 c = stopped _ _ _ _ c.load_target-t.ensures c.stop-x.ensures _ _ _ _ _ c.load_connections.ensures c.stop_of-nodes.ensures c.if-answer-eq0.true c.of.ensures c.store_target.ensures
    (elim c.if-not-remembers.branch [
      | then-not-remembers w ↦ w.s-is ∙ loses _ _ _ (grind (arith, w.if-not-remembers.true)) w.clear_target.ensures
      | else-not-remembers w ↦ w.s-is ∙ holds _ _ (grind (arith, w.if-not-remembers.false))
    ])
    c.store_connections.ensures

pub returns : goal.returns
returns c = stop_refused _ _ _ _ c.load_target-t.ensures c.stop-x.ensures c.if-answer-eq0.false c.of-2.ensures

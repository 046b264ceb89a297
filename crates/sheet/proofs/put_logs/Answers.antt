-- `put_logs` goes from log to log: up to a place the lines and totals of those before it. The length of a piece and the last place
-- go by numbers: what is written otherwise and is the same is proved. Assumes nothing.
use mathlib.Core.Path.{◌∙◌}
use native.Mathlib.Omega.{arith}
use Rattle.sheet.proofs.Reported.{going_none, cut_more, cut_fits, cut_all}
use Rattle.sheet.proofs.put_logs.Goals as goal

pub loop-log-init : goal.loop-log-init
loop-log-init c = rw (c.into_iter-log-iterator.ensures.into_iter_gives, c.zip-log-items.ensures.first, c.zip-log-items.ensures.second, c.chunks.ensures.rest, c.chunks.ensures.size) (going_none _ _ _ c.requires.0, omega arith, omega arith)

pub put_log-used-requires : goal.put_log-used-requires
put_log-used-requires c = let turn = c.in-Some.ensures.steps in cut_fits c.loop-log.invariant.0 c.loop-log.invariant.2 turn.1.1.0 c.requires.1

pub loop-log-preserved : goal.loop-log-preserved
loop-log-preserved c = let turn = c.in-Some.ensures.steps in (
  cut_more c.loop-log.invariant.0 c.loop-log.invariant.2 _ _ _ c.loop-log.invariant.1 turn.0.1.0 turn.0.1.1 turn.0.1.2 turn.1.1.0 turn.1.1.1 turn.1.1.2 c.put_log-used.ensures,
  turn.0.0 ∙ c.loop-log.invariant.1,
  turn.1.0 ∙ c.loop-log.invariant.2,
)

pub returns : goal.returns
returns c = cut_all c.loop-log.invariant.0 c.loop-log.invariant.2 c.in-None.ensures.steps (λ u p. p.1.0) (λ u q. q.1.0)

-- `narrow_job` meets its contract. Assumes nothing.
use native.Mathlib.Omega.{arith}
use Rattle.northbound.proofs.Wider.{lows, job_low, job_far}
use Rattle.northbound.proofs.narrow_job.Goals as goal

pub overflow_cast-result : goal.overflow_cast-result
overflow_cast-result c = omega (
  arith,
  (lows c.args.node c.args.job c.args.number c.args.outcome c.args.cut
      c.if-number-cut.true).node,
)

pub overflow_cast-result-then-number-cut : goal.overflow_cast-result-then-number-cut
overflow_cast-result-then-number-cut c = omega (
  arith,
  (lows c.args.node c.args.job c.args.number c.args.outcome c.args.cut
      c.if-number-cut.true).job,
)

pub overflow_cast-result-then-number-cut-2 : goal.overflow_cast-result-then-number-cut-2
overflow_cast-result-then-number-cut-2 c = omega (
  arith,
  (lows c.args.node c.args.job c.args.number c.args.outcome c.args.cut
      c.if-number-cut.true).number,
)

pub overflow_cast-result-then-number-cut-3 : goal.overflow_cast-result-then-number-cut-3
overflow_cast-result-then-number-cut-3 c = omega (
  arith,
  (lows c.args.node c.args.job c.args.number c.args.outcome c.args.cut
      c.if-number-cut.true).outcome,
)

pub overflow_cast-result-then-number-cut-4 : goal.overflow_cast-result-then-number-cut-4
overflow_cast-result-then-number-cut-4 c = omega (
  arith,
  (lows c.args.node c.args.job c.args.number c.args.outcome c.args.cut
      c.if-number-cut.true).cut,
)

pub returns-then-number-cut : goal.returns-then-number-cut
returns-then-number-cut c = job_low _ _ _ _ _ c.if-number-cut.true

pub returns : goal.returns
returns c = job_far c.args.node c.args.job c.args.number c.args.outcome c.args.cut _ _ _
    _
    c.if-number-cut.false c.narrow.ensures c.narrow-2.ensures
    c.narrow-3.ensures c.narrow-4.ensures

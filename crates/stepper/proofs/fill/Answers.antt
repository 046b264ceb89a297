-- `fill` puts a night's outcomes into the table, place by place. Assumes nothing.
use mathlib.Core.Path.{◌∙◌}
use native.Mathlib.Omega.{arith}
use lib.ListN.{length-set}
use Rattle.stepper.proofs.Tables.{tab_none, tab_more}
use Rattle.stepper.proofs.fill.Goals as goal

pub loop-i-init : goal.loop-i-init
loop-i-init c = (tab_none _ c.args.table.now, c.told-table)

pub loop-i-preserved : goal.loop-i-preserved
loop-i-preserved c = (
  tab_more _ c.loop-i.i _ _ (omega (arith, c.loop-i-test.true, c.loop-i.invariant.1)) c.loop-i.invariant.0 c.outcome_in.ensures,
  length-set c.loop-i.table c.loop-i.i c.outcome_in.result ∙ c.loop-i.invariant.1,
)

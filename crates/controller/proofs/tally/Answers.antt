-- `tally` meets its contract. Assumes nothing.
use mathlib.Core.Path.{refl}
use Rattle.controller.proofs.Tallied.{may_lend, tallied, not_lent}
use Rattle.controller.proofs.tally.Goals as goal

pub report-requires : goal.report-requires
report-requires c = may_lend _ _ _ c.lent_ok.ensures c.if-lent_ok.true

pub returns-then-lent_ok : goal.returns-then-lent_ok
returns-then-lent_ok c = tallied _ _ _ _ c.lent_ok.ensures _ _ c.if-lent_ok.true c.report.ensures

pub returns : goal.returns
returns c = not_lent c.args.s.now _ _ _ c.lent_ok.ensures _ c.if-lent_ok.false refl

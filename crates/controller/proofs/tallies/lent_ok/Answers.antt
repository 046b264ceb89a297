-- `lent_ok` meets its contract. Assumes nothing.
use mathlib.Core.Path.{refl}
use Rattle.controller.proofs.Tallied.{no_place, no_totals, totals_told}
use Rattle.controller.proofs.tallies.lent_ok.Goals as goal

pub returns-then-totals-eq12 : goal.returns-then-totals-eq12
returns-then-totals-eq12 c = totals_told c.args.log c.args.totals.now c.if-log.true c.if-totals-eq12.true _ _ _ _ c.from-most.ensures refl c.total_of.ensures refl

pub returns-then-log : goal.returns-then-log
returns-then-log c = no_totals c.args.log c.args.totals.now c.if-log.true c.if-totals-eq12.false

pub returns : goal.returns
returns c = no_place c.args.log c.args.totals.now c.if-log.false

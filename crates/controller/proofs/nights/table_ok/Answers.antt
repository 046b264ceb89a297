-- `table_ok` meets its contract. Assumes nothing.
use Rattle.controller.proofs.Turned.{table_bits, table_not}
use Rattle.controller.proofs.nights.table_ok.Goals as goal

pub returns-then-outcomes-eq256 : goal.returns-then-outcomes-eq256
returns-then-outcomes-eq256 c = table_bits _ _ c.if-outcomes-eq256.true c.all_bits.ensures

pub returns : goal.returns
returns c = table_not c.args.outcomes.now c.if-outcomes-eq256.false

-- `store_value` meets its contract. Assumes nothing.
use Rattle.image.proofs.Chain.{value_stored, value_lost}
use Rattle.image.proofs.parts.store_value.Goals as goal

pub returns-then-k-lt-TABLE_LENGTH : goal.returns-then-k-lt-TABLE_LENGTH
returns-then-k-lt-TABLE_LENGTH c = value_stored _ _ _ _ _ _ c.from-k.ensures c.if-k-lt-TABLE_LENGTH.true c.put.ensures

pub returns : goal.returns
returns c = value_lost _ _ _ _ _ c.from-k.ensures c.if-k-lt-TABLE_LENGTH.false

-- `load_value` meets its contract. Assumes nothing.
use Rattle.image.proofs.Chain.{value_loaded, value_none}
use Rattle.image.proofs.parts.load_value.Goals as goal

pub returns-then-k-lt-TABLE_LENGTH : goal.returns-then-k-lt-TABLE_LENGTH
returns-then-k-lt-TABLE_LENGTH c = value_loaded _ _ _ _ _ c.from-k.ensures c.if-k-lt-TABLE_LENGTH.true c.get.ensures

pub returns : goal.returns
returns c = value_none _ _ _ _ c.from-k.ensures c.if-k-lt-TABLE_LENGTH.false

-- `narrow` meets its contract. Assumes nothing.
use Rattle.northbound.proofs.Wider.{narrow_low, narrow_far}
use Rattle.northbound.proofs.narrow.Goals as goal

pub returns-then-x-le65535 : goal.returns-then-x-le65535
returns-then-x-le65535 c = narrow_low _ _ c.if-x-le65535.true

pub returns : goal.returns
returns c = narrow_far _ _ c.if-x-le65535.false

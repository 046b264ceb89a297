-- `with_path` meets its contract. Assumes nothing.
use Rattle.controller.proofs.Tallied.{same_path, other_path}
use Rattle.controller.proofs.tallies.with_path.Goals as goal

pub returns-then-x-y : goal.returns-then-x-y
returns-then-x-y c = same_path _ _ _ c.if-x-y.true

pub returns : goal.returns
returns c = other_path _ _ _ c.if-x-y.false

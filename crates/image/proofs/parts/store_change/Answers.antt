-- `store_change` meets its contract. Assumes nothing.
use Rattle.image.specs.View.{write}
use Rattle.image.proofs.parts.store_change.Goals as goal

pub returns : goal.returns
unfolding write
returns c = cc

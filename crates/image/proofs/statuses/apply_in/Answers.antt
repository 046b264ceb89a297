-- `apply_in` meets its contract. Assumes nothing.
use Rattle.image.specs.Packed.{apply_in}
use Rattle.image.proofs.statuses.apply_in.Goals as goal

pub returns : goal.returns
unfolding apply_in
returns c = cc

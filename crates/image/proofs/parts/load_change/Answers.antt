-- `load_change` meets its contract. Assumes nothing.
use Rattle.image.specs.Records.{change_of}
use Rattle.image.proofs.parts.load_change.Goals as goal

pub returns : goal.returns
unfolding change_of
returns c = cc

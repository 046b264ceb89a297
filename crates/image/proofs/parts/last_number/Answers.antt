-- `last_number` meets its contract. Assumes nothing.
use Rattle.image.specs.Records.{last_of}
use Rattle.image.proofs.parts.last_number.Goals as goal

pub returns : goal.returns
unfolding last_of
returns c = cc

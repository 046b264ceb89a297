-- `last_fold` meets its contract. Assumes nothing.
use Rattle.image.specs.Records.{folded_of}
use Rattle.image.proofs.parts.last_fold.Goals as goal

pub returns : goal.returns
unfolding folded_of
returns c = cc

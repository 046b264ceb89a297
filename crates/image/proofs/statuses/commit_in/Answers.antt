-- `commit_in` meets its contract. Assumes nothing.
use Rattle.image.specs.Packed.{commit_in}
use Rattle.image.proofs.statuses.commit_in.Goals as goal

pub returns : goal.returns
unfolding commit_in
returns c = cc

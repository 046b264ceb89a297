-- `statuses_formed` meets its contract. Assumes nothing.
use Rattle.image.specs.Formed.{statuses_ok}
use Rattle.image.proofs.formed.statuses_formed.Goals as goal

pub returns : goal.returns
unfolding statuses_ok
returns c = simp (← c.get.ensures)

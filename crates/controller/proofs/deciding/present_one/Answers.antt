-- `present_one` meets its contract. Assumes nothing.
use Rattle.image.specs.View.{table_of}
use Rattle.controller.proofs.deciding.present_one.Goals as goal

pub returns-then-used : goal.returns-then-used
unfolding table_of
returns-then-used c = simp (c.load_value.ensures, c.if-used.true)

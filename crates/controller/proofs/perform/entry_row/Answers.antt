-- `entry_row` meets its contract. Assumes nothing.
use Rattle.image.specs.View.{written, write}
use Rattle.controller.proofs.perform.entry_row.Goals as goal

pub returns : goal.returns
unfolding written write
returns c = c.store_entry.ensures

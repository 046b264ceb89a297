-- `target_row` meets its contract. Assumes nothing.
use mathlib.Core.Path.{refl}
use Rattle.machine.specs.Stores.{of_target}
use Rattle.controller.proofs.perform.target_row.Goals as goal

pub returns : goal.returns
returns c = c.lay_by.ensures of_target refl

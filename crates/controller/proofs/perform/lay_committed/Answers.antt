-- `lay_committed` meets its contract. Assumes nothing.
use mathlib.Core.Path.{refl}
use Rattle.machine.specs.Stores.{of_committed, of_owners}
use Rattle.controller.proofs.Performed.{rows_on}
use Rattle.controller.proofs.perform.lay_committed.Goals as goal

pub returns : goal.returns
returns c = rows_on _ _ _ _ _ (c.lay.ensures of_committed refl) (c.lay-2.ensures of_owners refl)

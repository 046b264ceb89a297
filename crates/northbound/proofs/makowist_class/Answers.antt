-- `makowist_class` meets its contract. Assumes nothing.
use Rattle.machine.specs.Reads.{of_class}
use Rattle.northbound.proofs.Packed.{shows}
use Rattle.northbound.proofs.Wider.{shows_one, wide_class}
use Rattle.northbound.proofs.makowist_class.Goals as goal

pub returns : goal.returns
returns c = shows _ _ _ _ (shows_one _ of_class _ _ _ _ c.narrow-i.ensures (wide_class _ _) c.class.ensures) c.pack_read.ensures

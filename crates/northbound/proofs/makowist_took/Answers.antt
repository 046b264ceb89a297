-- `makowist_took` meets its contract. Assumes nothing.
use Rattle.machine.specs.Reads.{of_took}
use Rattle.northbound.proofs.Packed.{shows}
use Rattle.northbound.proofs.Wider.{shows_one, wide_took}
use Rattle.northbound.proofs.makowist_took.Goals as goal

pub returns : goal.returns
returns c = shows _ _ _ _ (shows_one _ of_took _ _ _ _ c.narrow-i.ensures (wide_took _ _) c.took.ensures) c.pack_read.ensures

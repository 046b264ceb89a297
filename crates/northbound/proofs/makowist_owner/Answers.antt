-- `makowist_owner` meets its contract. Assumes nothing.
use Rattle.machine.specs.Reads.{of_owner}
use Rattle.northbound.proofs.Packed.{shows}
use Rattle.northbound.proofs.Wider.{shows_one, wide_owner}
use Rattle.northbound.proofs.makowist_owner.Goals as goal

pub returns : goal.returns
returns c = shows _ _ _ _ (shows_one _ of_owner _ _ _ _ c.narrow-p.ensures (wide_owner _ _) c.owner.ensures) c.pack_read.ensures

-- `makowist_record` meets its contract. Assumes nothing.
use Rattle.machine.specs.Reads.{of_state}
use Rattle.northbound.proofs.Packed.{shows}
use Rattle.northbound.proofs.Wider.{shows_one, wide_record}
use Rattle.northbound.proofs.makowist_record.Goals as goal

pub returns : goal.returns
returns c = shows _ _ _ _ (shows_one _ of_state _ _ _ _ c.narrow-f.ensures (wide_record _ _) c.record.ensures) c.pack_read.ensures

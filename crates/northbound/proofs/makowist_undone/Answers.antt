-- `makowist_undone` meets its contract. Assumes nothing.
use Rattle.machine.specs.Reads.{of_undone}
use Rattle.northbound.proofs.Packed.{shows}
use Rattle.northbound.proofs.Wider.{shows_one, wide_undone}
use Rattle.northbound.proofs.makowist_undone.Goals as goal

pub returns : goal.returns
returns c = shows _ _ _ _ (shows_one _ of_undone _ _ _ _ c.narrow-i.ensures (wide_undone _ _) c.undone.ensures) c.pack_read.ensures

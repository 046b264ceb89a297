-- `makowist_night` meets its contract. Assumes nothing.
use Rattle.northbound.proofs.Packed.{nights}
use Rattle.northbound.proofs.WiderNight.{night_wide}
use Rattle.northbound.proofs.makowist_night.Goals as goal

pub returns : goal.returns
returns c = nights _ _ _ _ _ _ _ _ _ (night_wide _ _ _ _ _ _ _ _ _ _ c.narrow-n.ensures c.narrow-b.ensures c.night.ensures) c.pack_night.ensures

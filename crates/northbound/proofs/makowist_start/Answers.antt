-- `makowist_start` meets its contract. Assumes nothing.
use Rattle.northbound.proofs.Packed.{claims}
use Rattle.northbound.proofs.makowist_start.Goals as goal

pub returns : goal.returns
returns c = claims _ _ _ _ _ c.start.ensures c.pack.ensures

-- `makowist_stop` meets its contract. Assumes nothing.
use Rattle.northbound.proofs.Packed.{claims}
use Rattle.northbound.proofs.makowist_stop.Goals as goal

pub returns : goal.returns
returns c = claims _ _ _ _ _ c.stop.ensures c.pack.ensures

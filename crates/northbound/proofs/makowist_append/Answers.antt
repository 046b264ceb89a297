-- `makowist_append` meets its contract. Assumes nothing.
use Rattle.northbound.proofs.Packed.{claims}
use Rattle.northbound.proofs.makowist_append.Goals as goal

pub returns : goal.returns
returns c = claims _ _ _ _ _ c.append.ensures c.pack.ensures

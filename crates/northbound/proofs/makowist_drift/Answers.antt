-- `makowist_drift` meets its contract. Assumes nothing.
use Rattle.northbound.proofs.Packed.{shows}
use Rattle.northbound.proofs.makowist_drift.Goals as goal

pub returns : goal.returns
returns c = shows _ _ _ _ c.drift.ensures c.pack_read.ensures

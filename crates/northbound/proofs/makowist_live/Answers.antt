-- `makowist_live` meets its contract. Assumes nothing.
use Rattle.northbound.proofs.Packed.{lists}
use Rattle.northbound.proofs.makowist_live.Goals as goal

pub returns : goal.returns
returns c = lists _ _ _ _ _ c.live.ensures c.pack_listed.ensures

-- `makowist_sync` meets its contract. Assumes nothing.
use Rattle.machine.specs.Calls.{sync}
use Rattle.northbound.proofs.Packed.{claims}
use Rattle.northbound.proofs.Wider.{claims_wide, wide_sync}
use Rattle.northbound.proofs.makowist_sync.Goals as goal

pub returns : goal.returns
returns c = claims _ _ _ _ _ (claims_wide _ sync _ _ _ _ _ c.narrow-n.ensures (wide_sync _ _) c.sync.ensures) c.pack.ensures

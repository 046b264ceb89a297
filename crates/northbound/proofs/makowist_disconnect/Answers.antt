-- `makowist_disconnect` meets its contract. Assumes nothing.
use Rattle.machine.specs.Calls.{disconnect}
use Rattle.northbound.proofs.Packed.{claims}
use Rattle.northbound.proofs.Wider.{claims_wide, wide_disconnect}
use Rattle.northbound.proofs.makowist_disconnect.Goals as goal

pub returns : goal.returns
returns c = claims _ _ _ _ _ (claims_wide _ disconnect _ _ _ _ _ c.narrow-n.ensures (wide_disconnect _ _) c.disconnect.ensures) c.pack.ensures

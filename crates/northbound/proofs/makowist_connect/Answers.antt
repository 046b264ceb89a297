-- `makowist_connect` meets its contract. Assumes nothing.
use Rattle.machine.specs.Calls.{connect}
use Rattle.northbound.proofs.Packed.{claims}
use Rattle.northbound.proofs.Wider.{claims_wide, wide_connect}
use Rattle.northbound.proofs.makowist_connect.Goals as goal

pub returns : goal.returns
returns c = claims _ _ _ _ _ (claims_wide _ connect _ _ _ _ _ c.narrow-n.ensures (wide_connect _ _) c.connect.ensures) c.pack.ensures

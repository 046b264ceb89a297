-- `makowist_master` meets its contract. Assumes nothing.
use Rattle.machine.specs.Calls.{master}
use Rattle.northbound.proofs.Packed.{claims}
use Rattle.northbound.proofs.Wider.{claims_wide, wide_master}
use Rattle.northbound.proofs.makowist_master.Goals as goal

pub returns : goal.returns
returns c = claims _ _ _ _ _ (claims_wide _ master _ _ _ _ _ c.narrow-n.ensures (wide_master _ _) c.master.ensures) c.pack.ensures

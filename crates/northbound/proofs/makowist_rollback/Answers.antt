-- `makowist_rollback` meets its contract. Assumes nothing.
use Rattle.machine.specs.Calls.{rollback}
use Rattle.northbound.proofs.Packed.{claims}
use Rattle.northbound.proofs.Wider.{claims_wide, wide_rollback}
use Rattle.northbound.proofs.makowist_rollback.Goals as goal

pub returns : goal.returns
returns c = claims _ _ _ _ _ (claims_wide _ rollback _ _ _ _ _ c.narrow-i.ensures (wide_rollback _ _) c.rollback.ensures) c.pack.ensures

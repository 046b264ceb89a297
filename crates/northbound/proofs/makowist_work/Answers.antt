-- `makowist_work` meets its contract. Assumes nothing.
use Rattle.northbound.proofs.Packed.{claims}
use Rattle.northbound.proofs.Wider.{claims_work}
use Rattle.northbound.proofs.makowist_work.Goals as goal

pub returns : goal.returns
returns c = claims _ _ _ _ _ (claims_work _ _ _ _ _ _ _ _ _ c.narrow_job-w.ensures c.work.ensures) c.pack.ensures

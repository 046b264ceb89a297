-- `makowist_fold` meets its contract. Assumes nothing.
use Rattle.machine.specs.Calls.{fold_to}
use Rattle.northbound.proofs.Packed.{claims}
use Rattle.northbound.proofs.Wider.{claims_wide, wide_fold}
use Rattle.northbound.proofs.makowist_fold.Goals as goal

pub returns : goal.returns
returns c = claims _ _ _ _ _ (claims_wide _ fold_to _ _ _ _ _ c.narrow-i.ensures (wide_fold _ _) c.fold.ensures) c.pack.ensures

-- `present` meets its contract. Assumes nothing.
use Rattle.controller.proofs.Decided.{present_shown}
use Rattle.controller.proofs.deciding.present.Goals as goal

pub returns : goal.returns
returns c = present_shown _ _ _ _ c.present_in-values.ensures c.present_in-owners.ensures

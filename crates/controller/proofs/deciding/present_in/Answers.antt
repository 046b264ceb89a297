-- `present_in` meets its contract. Assumes nothing.
use Rattle.controller.proofs.Decided.{present_all}
use Rattle.controller.proofs.deciding.present_in.Goals as goal

pub returns : goal.returns
returns c = present_all _ _ _ _ _ _ c.present_one-a.ensures c.present_one-b.ensures c.present_one-c.ensures c.present_one-d.ensures

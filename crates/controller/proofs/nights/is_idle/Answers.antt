-- `is_idle` meets its contract. Assumes nothing.
use Rattle.controller.proofs.Turned.{idle_is}
use Rattle.controller.proofs.nights.is_idle.Goals as goal

pub returns : goal.returns
returns c = idle_is _ _ _ _ _ _ _ _ _ _ _ _ c.stands.ensures c.stands-2.ensures c.stands-3.ensures c.stands-4.ensures c.get-c.ensures c.get-a.ensures c.get.ensures c.get-2.ensures

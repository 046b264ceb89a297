-- `total_of` meets its contract. Assumes nothing.
use Rattle.controller.proofs.Tallied.{total_is}
use Rattle.controller.proofs.tallies.total_of.Goals as goal

pub returns : goal.returns
returns c = total_is _ _ _ _ c.get_four-t.ensures c.get.ensures c.get-2.ensures _ _ _ _ _ _ c.from-a.ensures c.from-b.ensures c.from-c.ensures c.from-d.ensures c.from-e.ensures c.from-f.ensures

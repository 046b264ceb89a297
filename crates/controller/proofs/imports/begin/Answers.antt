-- `begin` meets its contract. Assumes nothing.
use Rattle.controller.proofs.Lent.{fresh_none, fresh_then, fresh_formed}
use Rattle.controller.proofs.imports.begin.Goals as goal

pub start-requires : goal.start-requires
start-requires c = fresh_formed _ _ (fresh_none _ c.make_fresh.ensures)

pub connect-requires : goal.connect-requires
connect-requires c = fresh_formed _ _ (fresh_then _ _ _ _ _ (fresh_none _ c.make_fresh.ensures) c.start.ensures)

pub master-requires : goal.master-requires
master-requires c = fresh_formed _ _ (fresh_then _ _ _ _ _ (fresh_then _ _ _ _ _ (fresh_none _ c.make_fresh.ensures) c.start.ensures) c.connect.ensures)

pub returns : goal.returns
returns c = fresh_then _ _ _ _ _ (fresh_then _ _ _ _ _ (fresh_then _ _ _ _ _ (fresh_none _ c.make_fresh.ensures) c.start.ensures) c.connect.ensures) c.master.ensures

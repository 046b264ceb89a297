-- `perform` meets its contract. Assumes nothing.
use Rattle.controller.proofs.Performed.{performed}
use Rattle.controller.proofs.perform.perform.Goals as goal

pub returns : goal.returns
returns c = performed c.args.commits c.args.p c.args.i _ _ _ _ _ c.args.first c.args.second _ c.comes_by-x.ensures c.target_if.ensures c.entry_if.ensures c.head_if.ensures c.entry_if-2.ensures

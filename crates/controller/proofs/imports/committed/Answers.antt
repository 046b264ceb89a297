-- `committed` meets its contract. Assumes nothing.
use Rattle.controller.proofs.Entered.{committed_made}
use Rattle.controller.proofs.imports.committed.Goals as goal

pub returns : goal.returns
returns c = committed_made c.args.t _ _ c.args.present _ c.of.ensures

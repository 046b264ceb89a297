-- `commits` meets its contract. Assumes nothing.
use Rattle.controller.proofs.Entered.{commits_made}
use Rattle.controller.proofs.imports.commits.Goals as goal

pub returns : goal.returns
returns c = commits_made _ _ _ _ _ _ c.load_head-h.ensures c.next.ensures c.present-now.ensures c.committed.ensures

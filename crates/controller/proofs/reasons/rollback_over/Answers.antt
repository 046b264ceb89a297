-- `rollback_over` meets its contract. Assumes nothing.
use Rattle.controller.proofs.Explained.{rollback_over_holds}
use Rattle.controller.proofs.reasons.rollback_over.Goals as goal

pub returns : goal.returns
returns c = rollback_over_holds c.args.t c.args.a.0 _ _ c.code-code.ensures c.apply_finished.ensures

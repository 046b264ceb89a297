-- `enter` meets its contract. Assumes nothing.
use Rattle.controller.proofs.Importing.{made_change, made_rollback}
use Rattle.controller.proofs.imports.enter.Goals as goal

pub returns-then-kind-eq1 : goal.returns-then-kind-eq1
returns-then-kind-eq1 c = made_change c.args.s.now c.args.list.now c.args.at _ c.two_at-kind.ensures c.if-kind-eq1.true _ c.enter_change.ensures

pub returns : goal.returns
returns c = made_rollback c.args.s.now c.args.list.now c.args.at _ c.two_at-kind.ensures c.if-kind-eq1.false _ c.enter_rollback.ensures

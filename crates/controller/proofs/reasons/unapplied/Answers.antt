-- `unapplied` meets its contract. Assumes nothing.
use Rattle.controller.proofs.Explained.{uncommitted, before_it, none_fits}
use Rattle.controller.proofs.reasons.unapplied.Goals as goal

pub returns-then-k-get : goal.returns-then-k-get
returns-then-k-get c = before_it c.args.x c.args.a c.args.quiet _ c.complete.ensures _ c.if-complete.true _ _ _ c.get.ensures c.unsettled-k.ensures c.get-then-complete.ensures c.if-k-get.true c.gives.ensures

pub returns-then-complete : goal.returns-then-complete
returns-then-complete c = none_fits c.args.x c.args.a c.args.quiet _ c.complete.ensures _ c.if-complete.true _ _ _ c.get.ensures c.unsettled-k.ensures c.get-then-complete.ensures c.if-k-get.false c.gives-then-complete.ensures

pub returns : goal.returns
returns c = uncommitted c.args.x c.args.a c.args.quiet _ c.complete.ensures _ c.if-complete.false c.gives-2.ensures

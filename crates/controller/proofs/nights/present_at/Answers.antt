-- `present_at` meets its contract. Assumes nothing.
use Rattle.controller.proofs.Turned.{loaded_present, loaded_none}
use Rattle.controller.proofs.nights.present_at.Goals as goal

pub returns-then-pending-ready : goal.returns-then-pending-ready
returns-then-pending-ready c = loaded_present _ _ _ c.args.t _ _ c.pending-pending.ensures c.follows-ready.ensures _ c.if-pending-ready.true c.present.ensures

pub returns : goal.returns
returns c = loaded_none _ _ _ c.args.t _ _ c.pending-pending.ensures c.follows-ready.ensures _ c.if-pending-ready.false c.no_present.ensures

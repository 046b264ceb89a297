-- `put_event` meets its contract. Assumes nothing.
use Rattle.controller.proofs.Turned.{event_in_holds, event_out}
use Rattle.controller.proofs.nights.put_event.Goals as goal

pub returns-then-at-room : goal.returns-then-at-room
returns-then-at-room c = event_in_holds _ _ _ _ _ _ _ _ _ c.if-at-room.true c.put.ensures c.put-then-at-room.ensures c.get.ensures c.put-then-at-room-2.ensures c.code.ensures c.put-then-at-room-3.ensures

pub returns : goal.returns
returns c = event_out _ _ _ c.if-at-room.false

-- `sync` meets its contract. Assumes nothing.
use Rattle.controller.proofs.Answered.{no_sync, sync_refused, syncing, synced}
use mathlib.Core.Path.{refl}
use Rattle.controller.proofs.calls.sync.Goals as goal

pub returns-then-x : goal.returns-then-x
returns-then-x c = synced _ _ _ _ c.is_node.ensures c.if-is_node.true _ _ c.load_mastership-m.ensures c.load_connection.ensures _ _ _ _ c.load_target.ensures c.load_configuration.ensures c.reaches-reached.ensures c.synchronise-x.ensures _ _ _ _ c.requires c.if-answer-eq0.true c.if-x.true c.counted-event.ensures refl c.store_configuration.ensures c.write_differing.ensures

pub returns-then-answer-eq0 : goal.returns-then-answer-eq0
returns-then-answer-eq0 c = syncing _ _ _ _ c.is_node.ensures c.if-is_node.true _ _ c.load_mastership-m.ensures c.load_connection.ensures _ _ _ _ c.load_target.ensures c.load_configuration.ensures c.reaches-reached.ensures c.synchronise-x.ensures _ c.if-answer-eq0.true c.if-x.false c.of.ensures c.store_configuration.ensures

pub returns-then-is_node : goal.returns-then-is_node
returns-then-is_node c = sync_refused _ _ _ _ c.is_node.ensures c.if-is_node.true _ _ c.load_mastership-m.ensures c.load_connection.ensures _ _ _ _ c.load_target.ensures c.load_configuration.ensures c.reaches-reached.ensures c.synchronise-x.ensures c.if-answer-eq0.false c.of-then-is_node.ensures

pub returns : goal.returns
returns c = no_sync _ _ _ _ c.is_node.ensures c.if-is_node.false c.of-2.ensures

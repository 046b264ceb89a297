-- `load_scene` meets its contract. Assumes nothing.
use Rattle.controller.proofs.Turned.{scene_shown}
use Rattle.controller.proofs.nights.load_scene.Goals as goal

pub returns : goal.returns
returns c = scene_shown _ _ _ _ _ _ _ c.load_head-committed.ensures c.load_change-change.ensures c.rest-at_rest.ensures c.load_head-applied.ensures c.line-open.ensures

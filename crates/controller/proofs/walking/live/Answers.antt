-- `live` meets its contract. Assumes nothing.
use Rattle.controller.proofs.Walked.{live_first, live_then}
use mathlib.Core.Path.{refl}
use Rattle.controller.proofs.walking.live.Goals as goal

pub returns-then-well_formed : goal.returns-then-well_formed
returns-then-well_formed c = live_then _ c.args.room.now _ _ c.well_formed-2.ensures _ c.if-well_formed.true c.list.ensures

pub returns : goal.returns
returns c = live_first _ c.args.room.now _ _ c.well_formed-2.ensures c.if-well_formed.false refl

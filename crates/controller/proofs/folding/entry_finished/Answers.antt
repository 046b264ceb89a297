-- `entry_finished` meets its contract. Assumes nothing.
use Rattle.controller.proofs.Folded.{finished_stays, finished_else}
use Rattle.controller.proofs.folding.entry_finished.Goals as goal

pub returns-then-complete-t : goal.returns-then-complete-t
returns-then-complete-t c = finished_stays c.args.t _ c.complete-complete.ensures c.if-complete-t.true

pub returns : goal.returns
returns c = finished_else c.args.t _ c.complete-complete.ensures c.if-complete-t.false _ c.failed-failed.ensures _ c.done-undone.ensures

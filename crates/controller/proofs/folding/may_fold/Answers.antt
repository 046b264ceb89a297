-- `may_fold` meets its contract. Assumes nothing.
use Rattle.controller.proofs.Folded.{not_at_rest, not_settled, not_waiting, may}
use Rattle.controller.proofs.folding.may_fold.Goals as goal

pub returns-then-entries_wait : goal.returns-then-entries_wait
returns-then-entries_wait c = may _ _ _ _ c.requires _ c.rest.ensures c.if-rest.true _ c.settled.ensures c.if-settled.true _ c.load_head-h.ensures _ c.get-g.ensures _ c.entries_wait.ensures c.if-entries_wait.true _ c.entries_finished.ensures

pub returns-then-settled : goal.returns-then-settled
returns-then-settled c = not_waiting _ _ _ _ c.requires _ c.rest.ensures c.if-rest.true _ c.settled.ensures c.if-settled.true _ c.load_head-h.ensures _ c.get-g.ensures _ c.entries_wait.ensures c.if-entries_wait.false

pub returns-then-rest : goal.returns-then-rest
returns-then-rest c = not_settled _ _ _ _ c.requires _ c.rest.ensures c.if-rest.true _ c.settled.ensures c.if-settled.false

pub returns : goal.returns
returns c = not_at_rest _ _ _ _ c.requires _ c.rest.ensures c.if-rest.false

-- `is_next` meets its contract. Assumes nothing.
use Rattle.controller.specs.Nights.{is_next}
use Rattle.controller.proofs.nights.is_next.Goals as goal

pub returns : goal.returns
unfolding is_next
returns c = simp (c.complete-committed.ensures, c.pending-pending.ensures, c.follows-follows.ensures)

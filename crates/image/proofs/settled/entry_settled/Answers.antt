-- `entry_settled` meets its contract. Assumes nothing.
use Rattle.image.specs.Settled.{entry_settled_at}
use Rattle.image.proofs.settled.entry_settled.Goals as goal

pub returns-then-change_settled : goal.returns-then-change_settled
unfolding entry_settled_at
returns-then-change_settled c = simp (← c.place_of-at.ensures, ← c.change_settled.ensures, c.if-change_settled.true, ← c.rollback_settled.ensures)

pub returns : goal.returns
unfolding entry_settled_at
returns c = simp (← c.place_of-at.ensures, ← c.change_settled.ensures, c.if-change_settled.false)

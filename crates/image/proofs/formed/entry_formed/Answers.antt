-- `entry_formed` meets its contract. Assumes nothing.
use Rattle.image.specs.Formed.{entry_formed}
use Rattle.image.proofs.formed.entry_formed.Goals as goal

pub returns-then-marks_formed : goal.returns-then-marks_formed
unfolding entry_formed
returns-then-marks_formed c = simp (← c.requires.0, ← c.statuses_formed.ensures, ← c.marks_formed.ensures, c.if-statuses_formed.true, c.if-marks_formed.true, c.pairs_formed.ensures)

pub returns-then-statuses_formed : goal.returns-then-statuses_formed
unfolding entry_formed
returns-then-statuses_formed c = simp (← c.requires.0, ← c.statuses_formed.ensures, ← c.marks_formed.ensures, c.if-statuses_formed.true, c.if-marks_formed.false)

pub returns : goal.returns
unfolding entry_formed
returns c = simp (← c.requires.0, ← c.statuses_formed.ensures, c.if-statuses_formed.false)

-- `letter` looks it up in the table, whose bytes are those of the definition. `grind` says that the place is that: one that is
-- written otherwise and is the same is proved. Assumes nothing.
use native.Mathlib.Omega.{arith}
use Rattle.lines.specs.Reading.{letter_at}
use Rattle.lines.proofs.reading.letter.Goals as goal

pub returns : goal.returns
unfolding letter_at
returns c = grind (arith, c.byte_at.ensures)

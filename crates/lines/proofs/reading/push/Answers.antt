-- `push` meets its contract. Assumes nothing.
use borrow.Author.Tests.{le-leb, lt-leb}
use Rattle.lines.specs.Reading.{pushed}
use Rattle.lines.proofs.reading.push.Goals as goal

pub returns-then-b-lt48 : goal.returns-then-b-lt48
unfolding pushed
returns-then-b-lt48 c = (
  rw c.with_text.ensures.0 (simp (lt-leb _ _ c.if-b-lt48.true)),
  rw c.with_text.ensures.1
      (simp (lt-leb _ _ c.if-b-lt48.true)),
)

pub returns-then-b-gt57 : goal.returns-then-b-gt57
unfolding pushed
returns-then-b-gt57 c = (
  rw c.with_text-then-b-gt57.ensures.0 (simp (le-leb _ _ c.if-b-lt48.false, lt-leb _ _ c.if-b-gt57.true)),
  rw
      c.with_text-then-b-gt57.ensures.1 (simp (le-leb _ _ c.if-b-lt48.false, lt-leb _ _ c.if-b-gt57.true)),
)

pub returns : goal.returns
unfolding pushed
returns c = (
  rw c.with_digit.ensures.0 (simp (le-leb _ _ c.if-b-lt48.false, le-leb _ _ c.if-b-gt57.false)),
  rw c.with_digit.ensures.1 (simp (le-leb _ _ c.if-b-lt48.false, le-leb _ _ c.if-b-gt57.false)),
)

-- `marks_formed` meets its contract. Assumes nothing.
use Rattle.image.proofs.Scanned.{last_mark}
use borrow.Author.Tests.{lt-leb, le-leb, lt-ltb, le-ltb}
use Rattle.image.specs.Formed.{marks_ok}
use Rattle.image.proofs.formed.marks_formed.Goals as goal

pub returns-then-phase-lt1 : goal.returns-then-phase-lt1
unfolding marks_ok
returns-then-phase-lt1 c = simp (← c.get-phase.ensures, lt-leb _ _ c.if-phase-lt1.true)

pub returns-then-phase-gt2 : goal.returns-then-phase-gt2
unfolding marks_ok
returns-then-phase-gt2 c = simp (← c.get-phase.ensures, le-leb _ _ c.if-phase-lt1.false, lt-leb _ _ c.if-phase-gt2.true)

pub returns-then-n-index : goal.returns-then-n-index
unfolding marks_ok
returns-then-n-index c = simp (← c.get-phase.ensures, ← c.get-index.ensures, le-leb _ _ c.if-phase-lt1.false, le-leb _ _ c.if-phase-gt2.false, le-ltb _ _ c.if-n-index.true)

pub returns-then-get-gt-HIGHEST_ORDINAL : goal.returns-then-get-gt-HIGHEST_ORDINAL
unfolding marks_ok
returns-then-get-gt-HIGHEST_ORDINAL c = simp (← c.get-phase.ensures, ← c.get-index.ensures, ← c.recalls_formed.ensures, ← c.get.ensures, le-leb _ _ c.if-phase-lt1.false, le-leb _ _ c.if-phase-gt2.false, lt-ltb _ _ c.if-n-index.false, c.if-recalls_formed.true, lt-leb _ _ c.if-get-gt-HIGHEST_ORDINAL.true)

pub returns-then-recalls_formed : goal.returns-then-recalls_formed
returns-then-recalls_formed c = last_mark _ _ _ _ _ _ _ _ c.get-phase.ensures c.get-index.ensures c.get.ensures c.get-then-recalls_formed.ensures c.recalls_formed.ensures c.if-phase-lt1.false c.if-phase-gt2.false c.if-n-index.false c.if-recalls_formed.true c.if-get-gt-HIGHEST_ORDINAL.false

pub returns : goal.returns
unfolding marks_ok
returns c = simp (← c.get-phase.ensures, ← c.get-index.ensures, ← c.recalls_formed.ensures, le-leb _ _ c.if-phase-lt1.false, le-leb _ _ c.if-phase-gt2.false, lt-ltb _ _ c.if-n-index.false, c.if-recalls_formed.false)

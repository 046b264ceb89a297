-- `like` meets its contract. Assumes nothing.
use mathlib.Core.Path.{sym, ◌∙◌, ap₂}
use native.Mathlib.Omega.{arith}
use Rattle.lines.specs.Reading.{like}
use Rattle.lines.proofs.Places.{like_none, like_differ, like_start, like_back}
use Rattle.lines.proofs.reading.like.Goals as goal

pub returns-then-c-d : goal.returns-then-c-d
returns-then-c-d c = sym (c.loop-k.invariant ∙ like_differ _ _ (omega (arith, c.loop-k-test.true, c.min-k-end.ensures))
    (omega (arith, c.loop-k-test.true, c.min-k-end.ensures)) _ _ c.letter-c.ensures c.letter-d.ensures c.if-c-d.true)

pub returns-then-c-eq10 : goal.returns-then-c-eq10
returns-then-c-eq10 c = sym (c.loop-k.invariant ∙ like_start _ _ (omega (arith, c.loop-k-test.true, c.min-k-end.ensures))
    (omega (arith, c.loop-k-test.true, c.min-k-end.ensures)) _ _ c.letter-c.ensures c.letter-d.ensures
    c.if-c-d.false c.if-c-eq10.true)

pub loop-k-preserved : goal.loop-k-preserved
loop-k-preserved c = c.loop-k.invariant ∙ like_back _ _ (omega (arith, c.loop-k-test.true, c.min-k-end.ensures))
    (omega (arith, c.loop-k-test.true, c.min-k-end.ensures)) _ _ c.letter-c.ensures c.letter-d.ensures
    c.if-c-d.false c.if-c-eq10.false ∙ ap₂ like (omega arith) (omega arith)

pub returns : goal.returns
returns c = sym (c.loop-k.invariant ∙ like_none _ _ _ (omega (arith, c.loop-k-test.false, c.min-k-end.ensures)))

-- `seek` looks at the place itself first, and then at its column, row by row. Assumes nothing.
use Rattle.lines.proofs.Table.{size_is, in_place, seek_stops, seek_itself}
use Rattle.lines.proofs.Places.{seek_here, seek_on, seek_end}
use native.Mathlib.Omega.{arith}
use mathlib.Core.Path.{sym, ◌∙◌}
use Rattle.lines.proofs.reading.seek.Goals as goal

pub returns-then-p-c : goal.returns-then-p-c
returns-then-p-c c = sym (seek_stops _ _ _ c.letter-c.ensures c.if-p-c.true)

pub overflow_add-result : goal.overflow_add-result
overflow_add-result c = omega (arith, size_is, in_place c.args.p _ c.letter-c.ensures c.if-p-c.false)

pub returns-then-takes : goal.returns-then-takes
returns-then-takes c = sym (seek_itself _ _ _ _ c.letter-c.ensures c.if-p-c.false c.takes.ensures
    c.if-takes.true)

pub returns-then-goes : goal.returns-then-goes
returns-then-goes c = sym (c.loop-q.invariant ∙ seek_here _ _ _ (omega (arith, size_is, c.loop-q-test.true)) (sym c.goes.ensures ∙ c.if-goes.true))

pub loop-q-smaller : goal.loop-q-smaller
loop-q-smaller c = omega (arith, size_is, c.loop-q-test.true)

pub loop-q-preserved : goal.loop-q-preserved
loop-q-preserved c = c.loop-q.invariant ∙ seek_on _ _ _ (omega (arith, size_is, c.loop-q-test.true)) (sym c.goes.ensures ∙ c.if-goes.false)

pub returns : goal.returns
returns c = sym (c.loop-q.invariant ∙ seek_end _ _ _ (omega (arith, size_is, c.loop-q-test.false)))

-- `table_place` meets its contract. Assumes nothing.
use Rattle.image.specs.Layout.{table_place}
use borrow.Author.Tests.{eq-eqb, ne_eqb}
use Rattle.image.proofs.parts.table_place.Goals as goal

pub returns-then-table-eq1 : goal.returns-then-table-eq1
unfolding table_place
returns-then-table-eq1 c = simp (eq-eqb _ _ c.if-table-eq1.true)

pub returns-then-table-eq2 : goal.returns-then-table-eq2
unfolding table_place
returns-then-table-eq2 c = simp (ne_eqb _ _ c.if-table-eq1.false, eq-eqb _ _ c.if-table-eq2.true)

pub returns-then-table-eq3 : goal.returns-then-table-eq3
unfolding table_place
returns-then-table-eq3 c = simp (ne_eqb _ _ c.if-table-eq1.false, ne_eqb _ _ c.if-table-eq2.false, eq-eqb _ _ c.if-table-eq3.true)

pub returns : goal.returns
unfolding table_place
returns c = simp (ne_eqb _ _ c.if-table-eq1.false, ne_eqb _ _ c.if-table-eq2.false, ne_eqb _ _ c.if-table-eq3.false)

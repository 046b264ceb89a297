-- `past` meets its contract. Assumes nothing.
use Rattle.lines.proofs.Places.{mark_within}
use Rattle.lines.specs.Reading.{size, is_mark}
use native.Mathlib.Omega.{arith}
use mathlib.Core.Path.{ap, sym, ◌∙◌}
use Rattle.lines.proofs.reading.past.Goals as goal

pub overflow_add-result : goal.overflow_add-result
unfolding size
overflow_add-result c = omega (
  arith,
  mark_within _ (ap is_mark (sym c.requires) ∙ sym c.is_mark.ensures
      ∙ c.if-is_mark.true),
)

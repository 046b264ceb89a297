-- `refused` meets its contract. Assumes nothing.
use mathlib.Core.Path.{sym, ap, ◌∙◌}
use mathlib.Core.Bool.{true, false, cond}
use Rattle.northbound.proofs.refused.Goals as goal

pub returns-then-well_formed : goal.returns-then-well_formed
returns-then-well_formed c = ap (λ b. cond b 2 1) (sym c.if-well_formed.true ∙ c.well_formed-2.ensures)

pub returns : goal.returns
returns c = ap (λ b. cond b 2 1) (sym c.if-well_formed.false ∙ c.well_formed-2.ensures)

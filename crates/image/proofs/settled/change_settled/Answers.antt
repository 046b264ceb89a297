-- `change_settled` meets its contract. Assumes nothing.
use mathlib.Core.Path.{ap, ◌∙◌}
use Rattle.kinds.specs.Statuses.{done}
use Rattle.image.specs.Packed.{change_in, apply_in}
use Rattle.image.proofs.Carried.{side_done, side_other}
use Rattle.image.proofs.settled.change_settled.Goals as goal

pub returns-then-is : goal.returns-then-is
returns-then-is c = side_done _ _ _ _ _ _ _ _ c.get.ensures c.of-carried.ensures
    c.is.ensures c.if-is.true
    (c.done.ensures ∙ ap done (c.apply_in-apply.ensures ∙ ap apply_in (c.change_in.ensures ∙ ap change_in c.get-then-is.ensures)))

pub returns : goal.returns
returns c = side_other _ _ _ _ _ _ _ c.get.ensures c.of-carried.ensures c.is.ensures c.if-is.false

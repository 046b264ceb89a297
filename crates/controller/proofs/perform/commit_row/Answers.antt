-- `commit_row` meets its contract. The test goes by `grind`: one that is written otherwise and is the same is proved. Assumes nothing.
use Rattle.controller.proofs.Performed.{laid_owned, commit_row, change_moved, change_still}
use mathlib.Core.Path.{◌∙◌}
use native.Mathlib.Omega.{arith}
use Rattle.controller.proofs.perform.commit_row.Goals as goal
use Rattle.controller.proofs.perform.commit_row.Goals.{then-p, else-p}

pub returns : goal.returns
returns c =
    commit_row _ _ _ _ c.args.i c.args.p c.store_head.ensures
    (elim c.if-p.branch [ then-p w ↦ w.s-is ∙ change_moved _ _ _ _ _ (grind (arith, w.if-p.true)) w.of.ensures w.store_change.ensures | else-p w ↦ w.s-is ∙ change_still _ _ _ (grind (arith, w.if-p.false)) ])
    (laid_owned _ _ c.args.p.lay c.args.p.entry _ _ c.laid_values-v.ensures c.laid_count-n.ensures c.args.i _ c.laid_owners-o.ensures c.lay_committed.ensures)

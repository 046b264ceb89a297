-- `apply_rollback_why` meets its contract. Assumes nothing.
use mathlib.Core.Path.{ap, ◌∙◌}
use mathlib.Core.Bool.{Bool}
use Rattle.image.specs.View.{view}
use Rattle.controller.specs.Reasons.{quiet_unless}
use Rattle.controller.proofs.Explained.{ordinal_in_holds, rollback_11, rollback_15}
use Rattle.controller.proofs.reasons.apply_rollback_why.Goals as goal

pub rollback_waits-requires : goal.rollback_waits-requires
rollback_waits-requires c = ordinal_in_holds _ _ c.requires.0.formed c.load_head-h.ensures

pub returns-then-p-eq11 : goal.returns-then-p-eq11
returns-then-p-eq11 c = rollback_11 _ _ c.requires.0 _ c.load_entry-t.ensures _ c.load_head-h.ensures _ (c.quiet_unless-quiet.ensures ∙ ap (λ (x : Bool). quiet_unless x c.load_entry-t.result.rollback (view c.args.s.now)) c.rollback_over.ensures) _ _ _ c.line-open.ensures _ c.of.ensures _ c.apply_rollback-p.ensures c.if-p-eq11.true c.rollback_waits.ensures

pub returns : goal.returns
returns c = rollback_15 _ _ c.requires.0 _ c.load_entry-t.ensures _ c.load_head-h.ensures _ (c.quiet_unless-quiet.ensures ∙ ap (λ (x : Bool). quiet_unless x c.load_entry-t.result.rollback (view c.args.s.now)) c.rollback_over.ensures) _ _ _ c.line-open.ensures _ c.of.ensures _ c.apply_rollback-p.ensures c.if-p-eq11.false c.refuses.ensures

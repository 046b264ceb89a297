-- `commit_change_told` meets its contract. Assumes nothing.
use Rattle.controller.proofs.Explained.{change_finished, change_earlier, change_flight}
use mathlib.Core.Path.{ap}
use Prim.Native.Nat.{ℕ, ◌+◌}
use Rattle.controller.proofs.reasons.commit_change_told.Goals as goal

pub returns-then-commit_finished : goal.returns-then-commit_finished
returns-then-commit_finished c = change_finished _ _ c.requires _ c.load_entry-t.ensures _ _ c.load_change-change.ensures _ c.commit_finished.ensures c.if-commit_finished.true c.gives.ensures

pub returns-then-after-number : goal.returns-then-after-number
returns-then-after-number c = change_earlier _ _ c.requires _ c.load_entry-t.ensures _ _ c.load_change-change.ensures _ c.commit_finished.ensures c.if-commit_finished.false _ (ap (λ (y : ℕ). y + 1) c.get-k.ensures) c.if-after-number.true c.gives-then-after-number.ensures

pub returns : goal.returns
returns c = change_flight _ _ c.requires _ c.load_entry-t.ensures _ _ c.load_change-change.ensures _ c.commit_finished.ensures c.if-commit_finished.false _ (ap (λ (y : ℕ). y + 1) c.get-k.ensures) _ c.if-after-number.false c.gives-2.ensures c.flight_or.ensures

-- `held` meets its contract. Assumes nothing.
use mathlib.Core.Path.{ap₂}
use mathlib.Core.Bool.{Bool, not, ◌&&◌}
use Rattle.record.proofs.held.Goals as goal

pub returns : goal.returns
returns c = ap₂ (λ (x y : Bool). x && not y) c.side_landed-took.ensures c.side_landed-undone.ensures

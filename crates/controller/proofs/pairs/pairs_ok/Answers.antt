-- `pairs_ok` meets its contract. Assumes nothing.
use Rattle.machine.specs.WellFormed.{pairs_ok}
use mathlib.Core.Path.{refl}
use Rattle.controller.proofs.pairs.pairs_ok.Goals as goal

pub returns : goal.returns
unfolding pairs_ok
returns c = refl

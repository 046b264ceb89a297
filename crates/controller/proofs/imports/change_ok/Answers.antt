-- `change_ok` meets its contract. Assumes nothing.
use mathlib.Core.Path.{refl}
use native.Mathlib.Omega.{arith}
use Rattle.controller.proofs.Importing.{no_change, change_is}
use Rattle.controller.proofs.imports.change_ok.Goals as goal

pub returns-then-n-gt4 : goal.returns-then-n-gt4
returns-then-n-gt4 c = no_change _ _ _ c.if-n-gt4.true

pub returns : goal.returns
returns c = change_is _ _ _ c.requires _ _ refl refl c.if-n-gt4.false _ (λ i. omega (arith, c.shared_slice_known-1.given i)) c.valid.ensures

-- `import` meets its contract. Assumes nothing.
use mathlib.Core.Path.{refl}
use Rattle.controller.proofs.Importing.{import_1}
use Rattle.controller.proofs.import.Goals as goal

pub returns : goal.returns
returns c = import_1 _ _ c.if-s-eq-IMAGE_LENGTH.false _ refl

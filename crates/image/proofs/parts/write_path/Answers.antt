-- `write_path` meets its contract. Assumes nothing.
use mathlib.Core.Path.{refl}
use Rattle.image.proofs.Differed.{path_same, path_other}
use Rattle.image.proofs.parts.write_path.Goals as goal

pub returns-then-w-v : goal.returns-then-w-v
returns-then-w-v c = path_same _ _ _ _ _ c.get-v.ensures c.get-w.ensures c.if-w-v.true refl

pub returns : goal.returns
returns c = path_other _ _ _ _ _ c.get-v.ensures c.get-w.ensures _ c.if-w-v.false refl c.put.ensures

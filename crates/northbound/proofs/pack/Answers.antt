-- `pack` meets its contract. Assumes nothing.
use mathlib.Core.Path.{refl}
use Rattle.northbound.proofs.Packed.{adds_up}
use borrow.Author.Rules.{rules}
use Rattle.northbound.proofs.pack.Goals as goal

pub returns : goal.returns
returns c = adds_up c.args.r _ _ _ (search rules) (search rules) (search rules) c.code-code.ensures c.get-number.ensures refl

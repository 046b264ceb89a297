-- `pack_import` meets its contract. Assumes nothing.
use Rattle.northbound.proofs.Packed.{adds_up_import}
use borrow.Author.Rules.{rules}
use Rattle.northbound.proofs.pack_import.Goals as goal

pub returns : goal.returns
returns c = adds_up_import c.args.r (search rules)

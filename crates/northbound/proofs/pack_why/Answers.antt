-- `pack_why` meets its contract. Assumes nothing.
use Rattle.northbound.proofs.Packed.{adds_up_why}
use borrow.Author.Rules.{rules}
use Rattle.northbound.proofs.pack_why.Goals as goal

pub returns : goal.returns
returns c = adds_up_why c.args.r (search rules) (search rules)

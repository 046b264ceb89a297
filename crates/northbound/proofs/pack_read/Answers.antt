-- `pack_read` meets its contract. Assumes nothing.
use Rattle.northbound.proofs.Packed.{adds_up_read}
use borrow.Author.Rules.{rules}
use Rattle.northbound.proofs.pack_read.Goals as goal

pub returns : goal.returns
returns c = adds_up_read c.args.r (search rules)

-- `pack_listed` meets its contract. Assumes nothing.
use Rattle.northbound.proofs.Packed.{adds_up_listed}
use borrow.Author.Rules.{rules}
use Rattle.northbound.proofs.pack_listed.Goals as goal

pub returns : goal.returns
returns c = adds_up_listed c.args.r (search rules)

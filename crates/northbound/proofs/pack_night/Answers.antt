-- `pack_night` meets its contract. Assumes nothing.
use Rattle.northbound.proofs.Packed.{adds_up_night}
use borrow.Author.Rules.{rules}
use Rattle.northbound.proofs.pack_night.Goals as goal

pub returns : goal.returns
returns c = adds_up_night c.args.r (search rules) (search rules) (search rules)

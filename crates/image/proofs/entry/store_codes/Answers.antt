-- `store_codes` meets its contract. Assumes nothing.
use Rattle.image.proofs.Chain.{coded}
use Rattle.image.proofs.entry.store_codes.Goals as goal

pub returns : goal.returns
returns c = coded _ _ _ _ _ _ c.args.t c.pack.ensures c.put.ensures c.put-2.ensures c.put-3.ensures

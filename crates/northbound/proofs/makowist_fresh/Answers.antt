-- `makowist_fresh` meets its contract. Assumes nothing.
use Rattle.northbound.proofs.Packed.{freshens}
use Rattle.northbound.proofs.Wider.{wide_fresh}
use Rattle.northbound.proofs.makowist_fresh.Goals as goal

pub returns : goal.returns
returns c = freshens c.args.image.now c.args.remembers _ _ _
    (wide_fresh c.args.image.now c.args.remembers _ _ _ c.narrow-k.ensures c.fresh.ensures) c.pack.ensures

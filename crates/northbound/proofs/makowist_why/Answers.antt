-- `makowist_why` meets its contract. Assumes nothing.
use Rattle.northbound.proofs.Packed.{explains}
use Rattle.northbound.proofs.WiderWhy.{why_wide}
use Rattle.northbound.proofs.makowist_why.Goals as goal

pub returns : goal.returns
returns c = explains _ _ _ _ _ _ (why_wide _ _ _ _ _ _ _ _ c.narrow-n.ensures c.narrow-j.ensures
    c.narrow-i.ensures c.why.ensures) c.pack_why.ensures

-- `makowist_tally` meets its contract. Assumes nothing.
use Rattle.northbound.proofs.Packed.{tallies}
use Rattle.northbound.proofs.WiderTally.{tally_wide}
use Rattle.northbound.proofs.makowist_tally.Goals as goal

pub returns : goal.returns
returns c = tallies _ _ _ _ _ _ (tally_wide _ _ _ _ _ _ c.narrow-k.ensures c.tally.ensures) c.pack_tally.ensures

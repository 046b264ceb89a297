-- `hop` meets its contract. Assumes nothing.
use Rattle.controller.proofs.Walked.{hop_is}
use Rattle.controller.proofs.walking.hop.Goals as goal

pub returns : goal.returns
returns c = hop_is _ _ c.requires _ _ c.load_entry-t.ensures c.get.ensures

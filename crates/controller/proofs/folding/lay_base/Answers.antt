-- `lay_base` meets its contract. Assumes nothing.
use Rattle.controller.proofs.Walked.{fits}
use Rattle.controller.proofs.folding.lay_base.Goals as goal

pub list_down-n-requires : goal.list_down-n-requires
list_down-n-requires c = fits _ _ _ c.requires.0

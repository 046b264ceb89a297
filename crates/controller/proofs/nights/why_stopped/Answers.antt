-- `why_stopped` meets its contract. Assumes nothing.
use mathlib.Core.Path.{◌∙◌}
use Rattle.controller.proofs.Turned.{why_is}
use Rattle.controller.proofs.nights.why_stopped.Goals as goal

pub returns : goal.returns
returns c = c.stopped_at.ensures ∙ why_is _ _ _ _ c.find-f.ensures

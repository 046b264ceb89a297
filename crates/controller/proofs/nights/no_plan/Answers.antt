-- `no_plan` meets its contract. Assumes nothing.

use Rattle.controller.proofs.nights.no_plan.Goals as goal

pub returns : goal.returns
returns c = simp (c.none-event.ensures, c.of.ensures, c.of-2.ensures)

-- `settled_for` meets its contract. Assumes nothing.

use Rattle.controller.proofs.deciding.settled_for.Goals as goal

pub returns-in-Pending : goal.returns-in-Pending
returns-in-Pending c = simp (c.settled.ensures, c.in-Pending.is)

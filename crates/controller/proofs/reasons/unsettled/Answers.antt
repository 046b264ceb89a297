-- `unsettled` meets its contract. Assumes nothing.

use Rattle.controller.proofs.reasons.unsettled.Goals as goal

pub returns-then-quiet : goal.returns-then-quiet
returns-then-quiet c = simp c.if-quiet.true

-- `close`: both heads' line is put behind the answers that wait. Assumes nothing.
use Rattle.stepper.proofs.Waiting.{closed}
use borrow.Author.Rules.{rules}
use Rattle.stepper.proofs.close.Goals as goal

pub returns : goal.returns
returns c = closed _
    c.both_heads-heads.result _ _ _ _ _ _ _ _
    c.both_heads-heads.ensures
    c.get.ensures c.get-2.ensures
    c.get-3.ensures c.get-4.ensures (search rules)
    c.write_closing-n.ensures

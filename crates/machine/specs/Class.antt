-- The class of a transaction, as the handover sheet counts it (order 11): the first rule that fits. Assumes nothing.
use Rattle.std.specs.Prelude.{ℕ, not, ◌||◌, cond}
use Rattle.kinds.specs.declared.Transaction.{Transaction}
use Rattle.kinds.specs.declared.Status.{Status}
use Rattle.kinds.specs.declared.Status.TheVariants.{None, Complete, Aborted, Canceled, Failed}
use Rattle.machine.specs.Why.{is}

-- by c.commit, c.apply, r.commit and r.apply: 6 undone, 5 being undone, 4 taken, 3 invalid, 2 stopped, 1 open
unfoldable pub class_by : Status → Status → Status → Status → ℕ
class_by commit apply back undo =
    cond (is undo Complete || is undo Canceled) 6
    (cond (not (is back None)) 5
    (cond (is apply Complete) 4 (cond (is commit Failed) 3 (cond (is apply Aborted || is apply Failed) 2 1))))

abbrev pub class_of : Transaction → ℕ
class_of t = class_by t.change.commit t.change.apply t.rollback.commit t.rollback.apply

-- `read_all` feeds what the reads bring, from the first on. Assumes nothing.
use Rattle.stepper.proofs.Fed.{none_read, read_more}
use Rattle.stepper.proofs.read_all.Goals as goal

pub loop-init : goal.loop-init
loop-init g c = none_read _ _ _ c.fresh-line.ensures

pub loop-preserved : goal.loop-preserved
loop-preserved g c =
    read_more _ _ c.loop.session _ _ c.read_once-turn.result _ _ c.loop.invariant c.read_once-turn.ensures

pub returns-then-not-matches : goal.returns-then-not-matches
returns-then-not-matches g c =
    read_more _ _ c.loop.session _ _ c.read_once-turn.result _ _ c.loop.invariant c.read_once-turn.ensures

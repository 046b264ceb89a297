-- `list_value` lists a path's pair, where its base value is not 0. Assumes nothing.
use Rattle.record.proofs.Reported.{no_pair, one_pair}
use Rattle.record.proofs.list_value.Goals as goal

pub returns-then-v-eq0 : goal.returns-then-v-eq0
returns-then-v-eq0 c = no_pair _ _ _ c.load_value-v.ensures c.if-v-eq0.true _ _ _

pub returns : goal.returns
returns c = one_pair _ _ _ c.load_value-v.ensures c.if-v-eq0.false _ c.list_pair.ensures

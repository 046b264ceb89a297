-- `class` meets its contract. Assumes nothing.
use Rattle.controller.proofs.Shows.{class_refused, class_here, class_is}
use Rattle.controller.proofs.reads.class.Goals as goal

pub load_class-c-requires : goal.load_class-c-requires
load_class-c-requires c = class_here _ _ _ c.number_answer-a.ensures c.if-a-eq0.true

pub returns-then-a-eq0 : goal.returns-then-a-eq0
returns-then-a-eq0 c = class_is _ _ _ c.number_answer-a.ensures _ c.if-a-eq0.true _ _ c.load_class-c.ensures c.from.ensures c.shows.ensures

pub returns : goal.returns
returns c = class_refused _ _ _ c.number_answer-a.ensures _ c.if-a-eq0.false c.refuses.ensures

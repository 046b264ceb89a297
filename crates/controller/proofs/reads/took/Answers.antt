-- `took` meets its contract. Assumes nothing.
use Rattle.controller.proofs.Shows.{kept_entry, took_refused, took_is}
use Rattle.controller.proofs.Decided.{entry_here}
use Rattle.controller.proofs.reads.took.Goals as goal

pub load_entry-t-requires : goal.load_entry-t-requires
load_entry-t-requires c = entry_here _ _ (kept_entry _ _ _ c.number_answer-a.ensures c.if-a-eq0.true)

pub side_landed-requires : goal.side_landed-requires
side_landed-requires c = (entry_here _ _ (kept_entry _ _ _ c.number_answer-a.ensures c.if-a-eq0.true)).1

pub returns-then-a-eq0 : goal.returns-then-a-eq0
returns-then-a-eq0 c = took_is _ _ _ c.number_answer-a.ensures _ c.if-a-eq0.true _ c.load_entry-t.ensures _ c.side_landed.ensures c.shows.ensures

pub returns : goal.returns
returns c = took_refused _ _ _ c.number_answer-a.ensures _ c.if-a-eq0.false c.refuses.ensures

-- `master` meets its contract. Assumes nothing.
use Rattle.controller.proofs.Answered.{no_master, master_refused, mastered}
use Rattle.controller.proofs.calls.master.Goals as goal

pub returns-then-answer-eq0 : goal.returns-then-answer-eq0
returns-then-answer-eq0 c = mastered _ _ _ _ c.is_node.ensures c.if-is_node.true _ _ c.load_mastership.ensures c.load_connection-c.ensures _ c.master_of-x.ensures _ c.if-answer-eq0.true c.of.ensures c.store_mastership.ensures

pub returns-then-is_node : goal.returns-then-is_node
returns-then-is_node c = master_refused _ _ _ _ c.is_node.ensures c.if-is_node.true _ _ c.load_mastership.ensures c.load_connection-c.ensures _ c.master_of-x.ensures c.if-answer-eq0.false c.of-then-is_node.ensures

pub returns : goal.returns
returns c = no_master _ _ _ _ c.is_node.ensures c.if-is_node.false c.of-2.ensures

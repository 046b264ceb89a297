-- `rollback` meets its contract. Assumes nothing.
use Rattle.controller.proofs.Answered.{rollback_5, rollback_18, rollback_6, rolled_back_holds}
use Rattle.controller.proofs.calls.rollback.Goals as goal

pub returns-then-may_roll_back : goal.returns-then-may_roll_back
returns-then-may_roll_back c = rolled_back_holds _ c.requires _ _ _ c.last_number-n.ensures c.in_log.ensures c.if-in_log.true _ c.last_fold-b.ensures c.if-b-number.true _ _ _ c.load_entry-t.ensures c.may_roll_back.ensures _ _ c.if-may_roll_back.true c.rolled_back.ensures c.store_entry.ensures c.of.ensures

pub returns-then-b-number : goal.returns-then-b-number
returns-then-b-number c = rollback_6 _ c.requires _ _ _ c.last_number-n.ensures c.in_log.ensures c.if-in_log.true _ c.last_fold-b.ensures c.if-b-number.true _ _ _ c.load_entry-t.ensures c.may_roll_back.ensures c.if-may_roll_back.false c.of-then-b-number.ensures

pub returns-then-in_log : goal.returns-then-in_log
returns-then-in_log c = rollback_18 _ c.requires _ _ _ c.last_number-n.ensures c.in_log.ensures c.if-in_log.true _ c.last_fold-b.ensures _ c.if-b-number.false c.of-then-in_log.ensures

pub returns : goal.returns
returns c = rollback_5 _ c.requires _ _ _ c.last_number-n.ensures c.in_log.ensures _ c.if-in_log.false c.of-2.ensures

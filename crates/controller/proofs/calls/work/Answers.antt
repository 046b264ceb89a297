-- `work` meets its contract. Assumes nothing.
use Rattle.controller.proofs.Answered.{work_2, work_5, work_18, work_10, worked}
use mathlib.Core.Path.{ap}
use Rattle.kinds.specs.declared.Event.{Event}
use Rattle.controller.proofs.calls.work.Goals as goal

pub returns-then-m-at : goal.returns-then-m-at
returns-then-m-at c = worked _ c.requires _ _ _ c.last_number-n.ensures c.in_log.ensures c.if-in_log.true _ c.last_fold-b.ensures c.if-b-number.true _ _ _ _ _ _ c.args_ok.ensures c.if-args_ok.true _ c.load_mastership-m.ensures _ _ _ c.if-m-at.true c.plan_of-p.ensures c.of_commit.ensures c.perform.ensures (ap (λ (x : Event). record { answer = c.plan_of-p.result.answer; event = x }) c.event_of-event.ensures)

pub returns-then-b-number : goal.returns-then-b-number
returns-then-b-number c = work_10 _ c.requires _ _ _ c.last_number-n.ensures c.in_log.ensures c.if-in_log.true _ c.last_fold-b.ensures c.if-b-number.true _ _ _ _ _ _ c.args_ok.ensures c.if-args_ok.true _ c.load_mastership-m.ensures c.if-m-at.false c.of.ensures

pub returns-then-in_log : goal.returns-then-in_log
returns-then-in_log c = work_18 _ c.requires _ _ _ c.last_number-n.ensures c.in_log.ensures c.if-in_log.true _ c.last_fold-b.ensures _ _ _ _ _ _ c.args_ok.ensures c.if-args_ok.true c.if-b-number.false c.of-then-in_log.ensures

pub returns-then-args_ok : goal.returns-then-args_ok
returns-then-args_ok c = work_5 _ c.requires _ _ _ c.last_number-n.ensures c.in_log.ensures _ _ _ _ _ _ c.args_ok.ensures c.if-args_ok.true c.if-in_log.false c.of-then-args_ok.ensures

pub returns : goal.returns
returns c = work_2 _ _ _ _ _ _ _ _ c.args_ok.ensures c.if-args_ok.false c.of-2.ensures

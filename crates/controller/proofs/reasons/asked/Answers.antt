-- `asked` meets its contract. Assumes nothing.
use Rattle.controller.proofs.Explained.{why_2, why_5, why_18, why_10, why_job}
use Rattle.controller.proofs.reasons.asked.Goals as goal

pub returns-then-m-at : goal.returns-then-m-at
returns-then-m-at c = why_job _ c.requires _ _ _ _ c.args_ok.ensures _ c.if-args_ok.true _ _ c.last_number-n.ensures c.in_log.ensures c.if-in_log.true _ c.last_fold-b.ensures c.if-b-number.true _ c.load_mastership-m.ensures c.if-m-at.true c.by_job.ensures

pub returns-then-b-number : goal.returns-then-b-number
returns-then-b-number c = why_10 _ c.requires _ _ _ _ c.args_ok.ensures _ c.if-args_ok.true _ _ c.last_number-n.ensures c.in_log.ensures c.if-in_log.true _ c.last_fold-b.ensures c.if-b-number.true _ c.load_mastership-m.ensures c.if-m-at.false c.refuses.ensures

pub returns-then-in_log : goal.returns-then-in_log
returns-then-in_log c = why_18 _ c.requires _ _ _ _ c.args_ok.ensures _ c.if-args_ok.true _ _ c.last_number-n.ensures c.in_log.ensures c.if-in_log.true _ c.last_fold-b.ensures c.if-b-number.false c.refuses-then-in_log.ensures

pub returns-then-args_ok : goal.returns-then-args_ok
returns-then-args_ok c = why_5 _ c.requires _ _ _ _ c.args_ok.ensures _ c.if-args_ok.true _ _ c.last_number-n.ensures c.in_log.ensures c.if-in_log.false c.refuses-then-args_ok.ensures

pub returns : goal.returns
returns c = why_2 _ c.requires _ _ _ _ c.args_ok.ensures _ c.if-args_ok.false c.refuses-2.ensures

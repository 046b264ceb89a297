-- `number_answer` meets its contract. Assumes nothing.
use Rattle.controller.proofs.Shows.{number_unread, no_number, folded_number, kept_number}
use Rattle.controller.proofs.Answered.{told}
use Rattle.controller.proofs.reads.number_answer.Goals as goal

pub returns-then-b-number : goal.returns-then-b-number
returns-then-b-number c = kept_number _ _ (told _ _ c.well_formed-2.ensures c.if-well_formed.true) _ _ c.last_number-n.ensures c.in_log.ensures c.if-in_log.true _ c.last_fold-b.ensures c.if-b-number.true

pub returns-then-in_log : goal.returns-then-in_log
returns-then-in_log c = folded_number _ _ (told _ _ c.well_formed-2.ensures c.if-well_formed.true) _ _ c.last_number-n.ensures c.in_log.ensures c.if-in_log.true _ c.last_fold-b.ensures c.if-b-number.false

pub returns-then-well_formed : goal.returns-then-well_formed
returns-then-well_formed c = no_number _ _ (told _ _ c.well_formed-2.ensures c.if-well_formed.true) _ _ c.last_number-n.ensures c.in_log.ensures c.if-in_log.false

pub returns : goal.returns
returns c = number_unread _ _ _ c.well_formed-2.ensures c.if-well_formed.false

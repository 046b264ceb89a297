-- `try_jobs` meets its contract. Assumes nothing.
use mathlib.Core.Path.{ap}
use Rattle.rules.specs.declared.Plan.{Plan}
use Rattle.controller.proofs.Turned.{asked_1, first_1, first_2, first_3, first_4, first_0}
use Rattle.controller.proofs.nights.try_jobs.Goals as goal

pub returns-then-a-eq0 : goal.returns-then-a-eq0
returns-then-a-eq0 c = first_1 _ _ _ _ _ (asked_1 c.args.t c.args.x c.args.i c.args.valid _ _ c.no_present.ensures c.commit_change-a.ensures) c.if-a-eq0.true

pub returns-then-b-eq0 : goal.returns-then-b-eq0
returns-then-b-eq0 c = first_2 _ _ _ _ _ (asked_1 c.args.t c.args.x c.args.i c.args.valid _ _ c.no_present.ensures c.commit_change-a.ensures) c.if-a-eq0.false _ (ap (λ (q : Plan). q.answer) c.apply_change-b.ensures) c.if-b-eq0.true

pub returns-then-c-eq0 : goal.returns-then-c-eq0
returns-then-c-eq0 c = first_3 _ _ _ _ _ (asked_1 c.args.t c.args.x c.args.i c.args.valid _ _ c.no_present.ensures c.commit_change-a.ensures) c.if-a-eq0.false _ (ap (λ (q : Plan). q.answer) c.apply_change-b.ensures) c.if-b-eq0.false _ (ap (λ (q : Plan). q.answer) c.commit_rollback-c.ensures) c.if-c-eq0.true

pub returns-then-d-eq0 : goal.returns-then-d-eq0
returns-then-d-eq0 c = first_4 _ _ _ _ _ (asked_1 c.args.t c.args.x c.args.i c.args.valid _ _ c.no_present.ensures c.commit_change-a.ensures) c.if-a-eq0.false _ (ap (λ (q : Plan). q.answer) c.apply_change-b.ensures) c.if-b-eq0.false _ (ap (λ (q : Plan). q.answer) c.commit_rollback-c.ensures) c.if-c-eq0.false _ (ap (λ (q : Plan). q.answer) c.apply_rollback-d.ensures) c.if-d-eq0.true

pub returns : goal.returns
returns c = first_0 _ _ _ _ _ (asked_1 c.args.t c.args.x c.args.i c.args.valid _ _ c.no_present.ensures c.commit_change-a.ensures) c.if-a-eq0.false _ (ap (λ (q : Plan). q.answer) c.apply_change-b.ensures) c.if-b-eq0.false _ (ap (λ (q : Plan). q.answer) c.commit_rollback-c.ensures) c.if-c-eq0.false _ (ap (λ (q : Plan). q.answer) c.apply_rollback-d.ensures) c.if-d-eq0.false

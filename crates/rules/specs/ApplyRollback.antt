-- Job 4, apply rollback: which rule holds, and its plan. Fields are of Applied; o is r.ordinal (paper: Job 4).
-- Assumes nothing.
use Rattle.std.specs.Prelude.{Bool, true, false, cond, eqb}
use Rattle.kinds.specs.declared.Transaction.{Transaction}
use Rattle.kinds.specs.declared.Head.{Head}
use Rattle.kinds.specs.declared.Number.{Number}
use Rattle.kinds.specs.declared.Status.{Status}
use Rattle.kinds.specs.declared.Status.TheVariants.{None, Pending, InProgress, Complete, Aborted, Canceled, Failed}
use Rattle.kinds.specs.Numbers.{follows}
use Rattle.kinds.specs.Statuses.{is_complete}
use Rattle.kinds.specs.Events.{event}
use Rattle.kinds.specs.Records.{with_rollback}
use Rattle.rules.specs.declared.Plan.{Plan}
use Rattle.rules.specs.declared.ApplyRollbackTests.{ApplyRollbackTests}
use Rattle.rules.specs.declared.ApplyRollbackRule.{ApplyRollbackRule}
use Rattle.rules.specs.declared.ApplyRollbackRule.TheVariants.{Begin, Aim, Cancel, Close, Finish, Push, NoLine, Rejected, Wait}
use Rattle.rules.specs.declared.Lay.TheVariants.{Nothing, Kept}
use Rattle.rules.specs.Plans.{refuse, entry_only, head_only, head_then_entry, entry_then_head, three_stores}
use Rattle.rules.specs.Sides.{apply_at}
use Rattle.rules.specs.Heads.{aimed, landed, closed}
use Rattle.rules.specs.ApplyChange.{reached}

-- c.apply Complete or Failed: the change's push was tried
abbrev pub was_tried : Status → Bool
was_tried None = false
was_tried Pending = false
was_tried InProgress = false
was_tried Complete = true
was_tried Aborted = false
was_tried Canceled = false
was_tried Failed = true

abbrev pub is_aborted : Status → Bool
is_aborted None = false
is_aborted Pending = false
is_aborted InProgress = false
is_aborted Complete = false
is_aborted Aborted = true
is_aborted Canceled = false
is_aborted Failed = false

abbrev pub tests : Transaction → Head → Bool → Bool → Bool → ApplyRollbackTests
tests t h settled line accepted =
    record {
      committed = is_complete t.rollback.commit;
      next = follows h.ordinal.0 t.rollback.ordinal.0;
      tried = was_tried t.change.apply;
      aborted = is_aborted t.change.apply;
      aimed = eqb h.target.0 t.index.0;
      settled = settled;
      landed = reached h.ordinal t.rollback.ordinal;
      line = line;
      accepted = accepted;
    }

abbrev pub pending_rule : ApplyRollbackTests → ApplyRollbackRule
pending_rule a =
    cond a.next
    (cond a.tried (cond a.aimed Begin (cond a.settled Aim Wait)) (cond a.aborted (cond a.settled Cancel Wait) Wait))
    Wait

abbrev pub begun_rule : ApplyRollbackTests → ApplyRollbackRule
begun_rule a = cond a.landed Finish (cond a.next (cond a.line (cond a.accepted Push Rejected) NoLine) Wait)

-- by r.apply
abbrev pub rule_by : Status → ApplyRollbackTests → ApplyRollbackRule
rule_by Pending a = pending_rule a
rule_by InProgress a = begun_rule a
rule_by Canceled a = cond a.next Close Wait
rule_by None a = Wait
rule_by Complete a = Wait
rule_by Aborted a = Wait
rule_by Failed a = Wait

-- job 4 begins only if r.commit is Complete
abbrev pub rule : Status → ApplyRollbackTests → ApplyRollbackRule
rule s a = cond a.committed (rule_by s a) Wait

abbrev pub plans : ApplyRollbackRule → Transaction → Head → Number → Plan
plans Begin t h i = entry_only (with_rollback t (apply_at t.rollback InProgress)) h
plans Aim t h i = head_then_entry (event 2 2 i InProgress) (aimed h t.index) false Nothing (with_rollback t (apply_at t.rollback InProgress))
plans Cancel t h i = entry_then_head (event 2 2 i Canceled) (with_rollback t (apply_at t.rollback Canceled)) (closed h i t.index t.rollback.ordinal) false
plans Close t h i = head_only t (closed h i t.index t.rollback.ordinal) false
plans Finish t h i = entry_only (with_rollback t (apply_at t.rollback Complete)) h
plans Push t h i = three_stores (event 2 2 i Complete) (landed h i t.index t.rollback.ordinal) Kept (with_rollback t (apply_at t.rollback Complete))
plans NoLine t h i = refuse 12 t h
plans Rejected t h i = refuse 13 t h
plans Wait t h i = refuse 11 t h

abbrev pub apply_rollback : Transaction → Head → Bool → Number → Bool → Bool → Plan
apply_rollback t h settled i line accepted = plans (rule t.rollback.apply (tests t h settled line accepted)) t h i

-- Job 2, apply change: which rule holds, and its plan. Fields are of Applied; o is c.ordinal (paper: Job 2).
-- Assumes nothing.
use Rattle.std.specs.Prelude.{Bool, false, ◌&&◌, ◌||◌, cond, eqb, ltb, leb}
use Rattle.kinds.specs.declared.Transaction.{Transaction}
use Rattle.kinds.specs.declared.Head.{Head}
use Rattle.kinds.specs.declared.Number.{Number}
use Rattle.kinds.specs.declared.Ordinal.{Ordinal}
use Rattle.kinds.specs.declared.Status.{Status}
use Rattle.kinds.specs.declared.Status.TheVariants.{None, Pending, InProgress, Complete, Aborted, Canceled, Failed}
use Rattle.kinds.specs.Numbers.{follows}
use Rattle.kinds.specs.Statuses.{is_complete}
use Rattle.kinds.specs.Events.{event}
use Rattle.kinds.specs.Records.{with_change}
use Rattle.rules.specs.declared.Plan.{Plan}
use Rattle.rules.specs.declared.ApplyChangeTests.{ApplyChangeTests}
use Rattle.rules.specs.declared.ApplyChangeRule.{ApplyChangeRule}
use Rattle.rules.specs.declared.ApplyChangeRule.TheVariants.{Begin, Aim, Abort, Close, Finish, Fail, Push, NoLine, Wait}
use Rattle.rules.specs.declared.Lay.TheVariants.{Nothing, Values}
use Rattle.rules.specs.Plans.{refuse, entry_only, head_only, head_then_entry, entry_then_head, three_stores}
use Rattle.rules.specs.Sides.{apply_at}
use Rattle.rules.specs.Heads.{aimed, landed, closed}

-- "o ≥ 1 and ordinal = o": the push has landed
abbrev pub reached : Ordinal → Ordinal → Bool
reached a o = leb 1 o.0 && eqb a.0 o.0

-- next: ordinal = o − 1; undone: r.commit Complete; passed: at least one of r.commit Complete, revision < r.index;
-- level: revision = r.index
abbrev pub tests : Transaction → Head → Bool → Number → Bool → Bool → ApplyChangeTests
tests t h settled i line accepted =
    record {
      committed = is_complete t.change.commit;
      next = follows h.ordinal.0 t.change.ordinal.0;
      aimed = eqb h.target.0 i.0;
      settled = settled;
      undone = is_complete t.rollback.commit;
      passed = is_complete t.rollback.commit || ltb h.revision.0 t.index.0;
      level = eqb h.revision.0 t.index.0;
      landed = reached h.ordinal t.change.ordinal;
      line = line;
      accepted = accepted;
    }

abbrev pub pending_rule : ApplyChangeTests → ApplyChangeRule
pending_rule a = cond a.next (cond a.aimed Begin (cond a.settled (cond a.passed Abort (cond a.level Aim Wait)) Wait)) Wait

-- a begun change ends Failed, never Aborted
abbrev pub begun_rule : ApplyChangeTests → ApplyChangeRule
begun_rule a = cond a.landed Finish (cond a.next (cond a.undone Fail (cond a.line (cond a.accepted Push Fail) NoLine)) Wait)

-- by c.apply
abbrev pub rule_by : Status → ApplyChangeTests → ApplyChangeRule
rule_by Pending a = pending_rule a
rule_by InProgress a = begun_rule a
rule_by Aborted a = cond a.next Close Wait
rule_by Failed a = cond a.next Close Wait
rule_by None a = Wait
rule_by Complete a = Wait
rule_by Canceled a = Wait

-- job 2 begins only if c.commit is Complete
abbrev pub rule : Status → ApplyChangeTests → ApplyChangeRule
rule s a = cond a.committed (rule_by s a) Wait

abbrev pub plans : ApplyChangeRule → Transaction → Head → Number → Plan
plans Begin t h i = entry_only (with_change t (apply_at t.change InProgress)) h
plans Aim t h i = head_then_entry (event 1 2 i InProgress) (aimed h i) false Nothing (with_change t (apply_at t.change InProgress))
plans Abort t h i = entry_then_head (event 1 2 i Aborted) (with_change t (apply_at t.change Aborted)) (closed h i i t.change.ordinal) false
plans Close t h i = head_only t (closed h i i t.change.ordinal) false
plans Finish t h i = entry_only (with_change t (apply_at t.change Complete)) h
plans Fail t h i = entry_then_head (event 1 2 i Failed) (with_change t (apply_at t.change Failed)) (closed h i i t.change.ordinal) false
plans Push t h i = three_stores (event 1 2 i Complete) (landed h i i t.change.ordinal) Values (with_change t (apply_at t.change Complete))
plans NoLine t h i = refuse 12 t h
plans Wait t h i = refuse 11 t h

abbrev pub apply_change : Transaction → Head → Bool → Number → Bool → Bool → Plan
apply_change t h settled i line accepted = plans (rule t.change.apply (tests t h settled i line accepted)) t h i

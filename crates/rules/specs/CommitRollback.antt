-- Job 3, commit rollback: which rule holds, and its plan. Fields are of Committed (paper: Job 3). Assumes nothing.
use Rattle.std.specs.Prelude.{Bool, true, false, cond, eqb}
use Rattle.kinds.specs.declared.Transaction.{Transaction}
use Rattle.kinds.specs.declared.Head.{Head}
use Rattle.kinds.specs.declared.Number.{Number}
use Rattle.kinds.specs.declared.Ordinal.{Ordinal}
use Rattle.kinds.specs.declared.Status.{Status}
use Rattle.kinds.specs.declared.Status.TheVariants.{None, Pending, InProgress, Complete, Aborted, Canceled, Failed}
use Rattle.kinds.specs.Numbers.{is_full, next_ordinal}
use Rattle.kinds.specs.Events.{event}
use Rattle.kinds.specs.Records.{with_rollback}
use Rattle.rules.specs.declared.Plan.{Plan}
use Rattle.rules.specs.declared.CommitTests.{CommitTests}
use Rattle.rules.specs.declared.CommitRollbackRule.{CommitRollbackRule}
use Rattle.rules.specs.declared.CommitRollbackRule.TheVariants.{Begin, Aim, Land, Full, Finish, Wait}
use Rattle.rules.specs.declared.Lay.TheVariants.{Nothing, Kept}
use Rattle.rules.specs.Plans.{refuse, entry_only, head_then_entry}
use Rattle.rules.specs.Sides.{begun, committed}
use Rattle.rules.specs.Heads.{aimed, landed}

-- ready: revision = i; aimed: target = r.index; landed: revision = r.index. The outcome is not looked at
abbrev pub tests : Head → Number → Bool → Number → CommitTests
tests h index rest i =
    record {
      ready = eqb h.revision.0 i.0;
      aimed = eqb h.target.0 index.0;
      rest = rest;
      accepted = true;
      full = is_full h.ordinal.0;
      landed = eqb h.revision.0 index.0;
    }

-- by r.commit
abbrev pub rule : Status → CommitTests → CommitRollbackRule
rule Pending a = cond a.ready (cond a.aimed Begin (cond a.rest Aim Wait)) Wait
rule InProgress a = cond a.ready (cond a.full Full Land) (cond a.landed Finish Wait)
rule None a = Wait
rule Complete a = Wait
rule Aborted a = Wait
rule Canceled a = Wait
rule Failed a = Wait

-- o is the ordinal + 1
abbrev pub plans : CommitRollbackRule → Transaction → Head → Number → Ordinal → Plan
plans Begin t h i o = entry_only (with_rollback t (begun t.rollback)) h
plans Aim t h i o = head_then_entry (event 2 1 i InProgress) (aimed h t.index) false Nothing (with_rollback t (begun t.rollback))
plans Land t h i o = head_then_entry (event 2 1 i Complete) (landed h i t.index o) false Kept (with_rollback t (committed t.rollback o))
plans Full t h i o = refuse 9 t h
plans Finish t h i o = entry_only (with_rollback t (committed t.rollback h.ordinal)) h
plans Wait t h i o = refuse 11 t h

abbrev pub commit_rollback : Transaction → Head → Bool → Number → Plan
commit_rollback t h rest i = plans (rule t.rollback.commit (tests h t.index rest i)) t h i (next_ordinal h.ordinal)

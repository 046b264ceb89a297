-- Job 1, commit change: which rule holds, and its plan. Fields are of Committed (paper: Job 1). Assumes nothing.
use Rattle.std.specs.Prelude.{Bool, true, false, cond, eqb}
use Rattle.kinds.specs.declared.Transaction.{Transaction}
use Rattle.kinds.specs.declared.Head.{Head}
use Rattle.kinds.specs.declared.Number.{Number}
use Rattle.kinds.specs.declared.Ordinal.{Ordinal}
use Rattle.kinds.specs.declared.Status.{Status}
use Rattle.kinds.specs.declared.Status.TheVariants.{None, Pending, InProgress, Complete, Aborted, Canceled, Failed}
use Rattle.kinds.specs.Numbers.{follows, is_full, next_ordinal}
use Rattle.kinds.specs.Events.{event}
use Rattle.kinds.specs.Records.{with_change}
use Rattle.rules.specs.declared.Plan.{Plan}
use Rattle.rules.specs.declared.CommitTests.{CommitTests}
use Rattle.rules.specs.declared.Present.{Present}
use Rattle.rules.specs.declared.CommitChangeRule.{CommitChangeRule}
use Rattle.rules.specs.declared.CommitChangeRule.TheVariants.{Begin, Aim, Land, Full, Reject, Finish, Close, Wait}
use Rattle.rules.specs.declared.Lay.TheVariants.{Nothing, Values}
use Rattle.rules.specs.Plans.{refuse, entry_only, head_only, head_then_entry, entry_then_head}
use Rattle.rules.specs.Sides.{begun, committed, invalid}
use Rattle.rules.specs.Heads.{aimed, landed, passed}

-- ready: change = i − 1; aimed: target = i; landed: change = i
abbrev pub tests : Head → Number → Bool → Number → Bool → CommitTests
tests h change rest i accepted =
    record {
      ready = follows change.0 i.0;
      aimed = eqb h.target.0 i.0;
      rest = rest;
      accepted = accepted;
      full = is_full h.ordinal.0;
      landed = eqb change.0 i.0;
    }

-- by c.commit
abbrev pub rule : Status → CommitTests → CommitChangeRule
rule Pending a = cond a.ready (cond a.aimed Begin (cond a.rest Aim Wait)) Wait
rule InProgress a = cond a.ready (cond a.accepted (cond a.full Full Land) Reject) (cond a.landed Finish Wait)
rule Failed a = cond a.ready Close Wait
rule None a = Wait
rule Complete a = Wait
rule Aborted a = Wait
rule Canceled a = Wait

-- c.commit InProgress, r.index = revision, r.values = the present values, and the present owners are remembered (order 7)
abbrev pub beginning : Transaction → Number → Present → Transaction
beginning t revision present =
    record {
      phase = t.phase;
      count = t.count;
      paths = t.paths;
      values = t.values;
      change = begun t.change;
      rollback = t.rollback;
      index = revision;
      kept = present.values;
      owners = present.owners;
    }

-- o is the ordinal + 1
abbrev pub plans : CommitChangeRule → Transaction → Head → Number → Ordinal → Present → Plan
plans Begin t h i o present = entry_only (beginning t h.revision present) h
plans Aim t h i o present = head_then_entry (event 1 1 i InProgress) (aimed h i) false Nothing (beginning t h.revision present)
plans Land t h i o present = head_then_entry (event 1 1 i Complete) (landed h i i o) true Values (with_change t (committed t.change o))
plans Full t h i o present = refuse 9 t h
plans Reject t h i o present = entry_then_head (event 1 1 i Failed) (with_change t (invalid t.change)) (passed h i) true
plans Finish t h i o present = entry_only (with_change t (committed t.change h.ordinal)) h
plans Close t h i o present = head_only t (passed h i) true
plans Wait t h i o present = refuse 11 t h

abbrev pub commit_change : Transaction → Head → Number → Bool → Number → Bool → Present → Plan
commit_change t h change rest i accepted present =
    plans (rule t.change.commit (tests h change rest i accepted)) t h i (next_ordinal h.ordinal) present

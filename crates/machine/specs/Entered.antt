-- Order 6, an entry of a list: the state that its calls come to, and a row of stores that leaves it at once. That it is so:
-- proofs/ImportCalls. Assumes nothing.
use Rattle.std.specs.Prelude.{suc, List, ◌∷◌, ◌++◌}
use Rattle.kinds.specs.declared.Transaction.{Transaction}
use Rattle.kinds.specs.declared.Head.{Head}
use Rattle.kinds.specs.declared.Number.{Number}
use Rattle.kinds.specs.declared.Ordinal.{Ordinal}
use Rattle.kinds.specs.declared.Status.TheVariants.{Pending, Complete}
use Rattle.kinds.specs.Numbers.{num, next_ordinal}
use Rattle.rules.specs.declared.Lay.TheVariants.{Values, Kept}
use Rattle.rules.specs.declared.Present.{Present}
use Rattle.rules.specs.Sides.{untouched}
use Rattle.machine.specs.State.{State, in_each, entry_of, put_entry, grown, last}
use Rattle.machine.specs.Stores.{Store, of_committed, grow, entry, change, committed_head}
use Rattle.machine.specs.Rows.{laid, owned}
use Rattle.machine.specs.Laid.{over}
use Rattle.machine.specs.Calls.{Pair, appended, present_of}

-- ---- a transaction more, its change committed and not applied
abbrev pub committed_as : Transaction → (index : Number) → (ordinal : Ordinal) → Present → Transaction
committed_as t k o present =
    record {
      phase = 1;
      count = t.count;
      paths = t.paths;
      values = t.values;
      change = record { commit = Complete; apply = Pending; ordinal = o };
      rollback = untouched;
      index = k;
      kept = present.values;
      owners = present.owners;
    }

abbrev pub changed_entry : State → List Pair → Transaction
changed_entry s ps =
    let t = appended ps in committed_as t s.committed.head.revision (next_ordinal s.committed.head.ordinal) (present_of s t)

abbrev pub changed_head : State → Head
changed_head s = let n = num (suc (last s.log)) in record { index = n; target = n; revision = n; ordinal = next_ordinal s.committed.head.ordinal }

abbrev pub changed : State → List Pair → State
changed s ps =
    let t = appended ps in
    record {
      log = grown s.log (changed_entry s ps);
      change = num (suc (last s.log));
      committed = record {
        head = changed_head s;
        values = over t.paths t.values t.count s.committed.values;
        owners = over t.paths (in_each (suc (last s.log))) t.count s.committed.owners;
      };
      applied = s.applied;
      net = s.net;
    }

abbrev pub change_stores : State → List Pair → List Store
change_stores s ps =
    grow (changed_entry s ps) ∷ change (num (suc (last s.log))) ∷ committed_head (changed_head s)
    ∷ (laid of_committed Values (appended ps) ++ owned Values (appended ps) (suc (last s.log)))

-- ---- the newest live change undone, its rollback committed and not applied
abbrev pub undone_as : Transaction → Ordinal → Transaction
undone_as t o =
    record {
      phase = 2;
      count = t.count;
      paths = t.paths;
      values = t.values;
      change = t.change;
      rollback = record { commit = Complete; apply = Pending; ordinal = o };
      index = t.index;
      kept = t.kept;
      owners = t.owners;
    }

abbrev pub newest_in : State → Transaction
newest_in s = entry_of s.log s.committed.head.revision.0

abbrev pub undone_entry : State → Transaction
undone_entry s = undone_as (newest_in s) (next_ordinal s.committed.head.ordinal)

abbrev pub undone_head : State → Head
undone_head s =
    record {
      index = num s.committed.head.revision.0;
      target = (newest_in s).index;
      revision = (newest_in s).index;
      ordinal = next_ordinal s.committed.head.ordinal;
    }

abbrev pub undone : State → State
undone s =
    let t = newest_in s in
    record {
      log = put_entry s.log s.committed.head.revision.0 (undone_entry s);
      change = s.change;
      committed = record {
        head = undone_head s;
        values = over t.paths t.kept t.count s.committed.values;
        owners = over t.paths t.owners t.count s.committed.owners;
      };
      applied = s.applied;
      net = s.net;
    }

abbrev pub undo_stores : State → List Store
undo_stores s =
    entry s.committed.head.revision.0 (undone_entry s) ∷ committed_head (undone_head s)
    ∷ (laid of_committed Kept (newest_in s) ++ owned Kept (newest_in s) s.committed.head.revision.0)

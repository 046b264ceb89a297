-- A transaction with another side. Assumes nothing.
use Rattle.kinds.specs.declared.Transaction.{Transaction}
use Rattle.kinds.specs.declared.Side.{Side}

abbrev pub with_change : Transaction → Side → Transaction
with_change t x =
    record {
      phase = t.phase;
      count = t.count;
      paths = t.paths;
      values = t.values;
      change = x;
      rollback = t.rollback;
      index = t.index;
      kept = t.kept;
      owners = t.owners;
    }

abbrev pub with_rollback : Transaction → Side → Transaction
with_rollback t x =
    record {
      phase = t.phase;
      count = t.count;
      paths = t.paths;
      values = t.values;
      change = t.change;
      rollback = x;
      index = t.index;
      kept = t.kept;
      owners = t.owners;
    }

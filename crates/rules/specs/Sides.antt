-- What a store writes into one side of an entry. Change and rollback have sides of one shape, so each is said once.
-- Assumes nothing.
use Rattle.kinds.specs.declared.Side.{Side}
use Rattle.kinds.specs.declared.Ordinal.{Ordinal}
use Rattle.kinds.specs.declared.Status.{Status}
use Rattle.kinds.specs.declared.Status.TheVariants.{None, Pending, InProgress, Complete, Canceled, Failed}
use Rattle.kinds.specs.Numbers.{ord}

-- nothing asked yet
abbrev pub untouched : Side
untouched = record { commit = None; apply = None; ordinal = ord 0 }

-- commit and apply Pending
abbrev pub asked : Side → Side
asked x = record { commit = Pending; apply = Pending; ordinal = x.ordinal }

-- commit InProgress
abbrev pub begun : Side → Side
begun x = record { commit = InProgress; apply = x.apply; ordinal = x.ordinal }

-- commit Complete, with its ordinal
abbrev pub committed : Side → Ordinal → Side
committed x o = record { commit = Complete; apply = x.apply; ordinal = o }

-- commit Failed, apply Canceled
abbrev pub invalid : Side → Side
invalid x = record { commit = Failed; apply = Canceled; ordinal = x.ordinal }

-- apply at a status
abbrev pub apply_at : Side → Status → Side
apply_at x s = record { commit = x.commit; apply = s; ordinal = x.ordinal }

-- Settled: what carries the applied ordinal is Done applying (paper: The four jobs). Assumes nothing.
use Rattle.std.specs.Prelude.{ℕ, Bool, not, ◌&&◌, ◌||◌, eqb}
use Rattle.kinds.specs.declared.Transaction.{Transaction}
use Rattle.kinds.specs.declared.Side.{Side}
use Rattle.kinds.specs.Statuses.{done}
use Rattle.machine.specs.State.{State}
use Rattle.machine.specs.WellFormed.{all_entries}

-- a change or a rollback carrying o has a Done apply status
abbrev pub side_settled : ℕ → Side → Bool
side_settled o x = not (eqb x.ordinal.0 o) || done x.apply

abbrev pub entry_settled : ℕ → ℕ → Transaction → Bool
entry_settled o i t = side_settled o t.change && side_settled o t.rollback

-- the applied ordinal is 0, or each that carries it is Done
abbrev pub settled : State → Bool
settled s = eqb s.applied.head.ordinal.0 0 || all_entries (entry_settled s.applied.head.ordinal.0) s.log

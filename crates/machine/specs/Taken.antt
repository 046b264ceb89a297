-- Which changes the switch took, and which were undone, by the log and the applied ordinal alone (order 11). They stand here, below
-- history's Audit, which ties them to the events, because the reads answer them. Assumes nothing.
use Rattle.std.specs.Prelude.{ℕ, Bool, true, false, not, ◌&&◌, eqb}
use Rattle.kinds.specs.declared.Status.{Status}
use Rattle.kinds.specs.declared.Status.TheVariants.{None, Pending, InProgress, Complete, Aborted, Canceled, Failed}
use Rattle.machine.specs.State.{State, Log, entry_of}

-- an apply with this status and ordinal has completed: Complete, or in progress with its push made
abbrev pub landed : Status → (appliedOrdinal ordinal : ℕ) → Bool
landed None a o = false
landed Pending a o = false
landed InProgress a o = eqb a o
landed Complete a o = true
landed Aborted a o = false
landed Canceled a o = false
landed Failed a o = false

-- which changes did the switch take
abbrev pub took : Log → (appliedOrdinal : ℕ) → ℕ → Bool
took l a k = landed (entry_of l k).change.apply a (entry_of l k).change.ordinal.0

-- and which had been undone
abbrev pub undid : Log → (appliedOrdinal : ℕ) → ℕ → Bool
undid l a k = landed (entry_of l k).rollback.apply a (entry_of l k).rollback.ordinal.0

-- those taken and not undone: what the switch holds
abbrev pub holds : State → ℕ → Bool
holds s k = took s.log s.applied.head.ordinal.0 k && not (undid s.log s.applied.head.ordinal.0 k)

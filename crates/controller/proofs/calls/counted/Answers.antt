-- `counted` meets its contract. Assumes nothing.
use Prim.Native.Nat.{ℕ}
use mathlib.Core.Path.{◌≡◌}
use Rattle.kinds.specs.declared.Event.{Event}
use Rattle.kinds.specs.declared.Number.{Number}
use Rattle.kinds.specs.declared.Status.TheVariants.{None}
use Rattle.kinds.specs.Numbers.{num}
use Rattle.kinds.specs.Events.{numbered}
use Rattle.controller.proofs.calls.counted.Goals as goal

shown : (n : ℕ) (k : Number) → k ≡ num n → ◌≡◌ {A = Event} (record { phase = 0; stage = 0; number = k; status = None }) (numbered n)
shown n k e = rw e

pub returns : goal.returns
returns c = shown _ _ c.of.ensures

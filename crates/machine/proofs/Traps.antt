-- The paper's traps, shut out by theorems on the definitions (paper: Traps of this trade). The third, counting every Done
-- apply as taken by the switch, is a matter of the history (crate history). Assumes nothing.
use Prim.Native.Nat.{ℕ}
use mathlib.Core.Bool.{Bool, true, false}
use mathlib.Core.Path.{◌≡◌, refl}
use Rattle.kinds.specs.declared.Status.{Status}
use Rattle.kinds.specs.declared.Status.TheVariants.{InProgress, Complete}
use Rattle.kinds.specs.Numbers.{num, ord}
use Rattle.rules.specs.AtRest.{at_rest}
use Rattle.rules.specs.ApplyChange.{rule}
use Rattle.rules.specs.declared.ApplyChangeTests.{ApplyChangeTests}
use Rattle.rules.specs.declared.ApplyChangeRule.{ApplyChangeRule}
use Rattle.rules.specs.declared.ApplyChangeRule.TheVariants.{Begin, Aim, Abort, Close, Finish, Fail, Push, NoLine, Wait}
use Rattle.machine.specs.State.{Net, line_open_for, is_master}

-- 2 is rolled back (its r.commit is Done) and the rollback of 1 has begun: target 0 is below index 2, and it is no rest
pub rest_is_not_below : (c : Status) → at_rest (record { index = num 2; target = num 0; revision = num 1; ordinal = ord 3 }) c Complete ≡ false
rest_is_not_below c = refl

-- a node that is not master has no open line, whatever its connection's id
pub no_line : (w : Net) (n : ℕ) → is_master w n ≡ false → line_open_for w n ≡ false
no_line w n e = rw e

-- once begun, a change is never Aborted: no rule of an InProgress change is Abort
abbrev pub not_abort : ApplyChangeRule → Bool
not_abort Begin = true
not_abort Aim = true
not_abort Abort = false
not_abort Close = true
not_abort Finish = true
not_abort Fail = true
not_abort Push = true
not_abort NoLine = true
not_abort Wait = true

pub begun_not_aborted : (a : ApplyChangeTests) → not_abort (rule InProgress a) ≡ true
begun_not_aborted a = go a.committed a.landed a.next a.undone a.line a.accepted
  where
    go : (c l n u o y : Bool)
        → not_abort (rule InProgress (record { committed = c; next = n; aimed = a.aimed; settled = a.settled; undone = u; passed = a.passed; level = a.level; landed = l; line = o; accepted = y })) ≡ true
    go false l n u o y = refl
    go true true n u o y = refl
    go true false false u o y = refl
    go true false true true o y = refl
    go true false true false false y = refl
    go true false true false true true = refl
    go true false true false true false = refl

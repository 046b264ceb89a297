-- Order 7 in states that no session reaches: the owners of a well-formed state. Computed, as the sessions (OwnerSessions) are.
-- Assumes nothing.
use Prim.Native.Nat.{ℕ}
use mathlib.Core.List.{List, [], ◌∷◌, ◌++◌}
use mathlib.Core.Bool.{Bool, true, false, ◌&&◌}
use mathlib.Core.Path.{◌≡◌, refl}
use lib.Dec.{eqb}
use lib.ListN.{replicate}
use Rattle.kinds.specs.declared.Transaction.{Transaction}
use Rattle.kinds.specs.Numbers.{num}
use Rattle.rules.specs.Sides.{untouched}
use Rattle.machine.specs.State.{State, absent, four}
use Rattle.machine.specs.Stores.{with_committed, after, afters}
use Rattle.machine.specs.WellFormed.{all_from, all_at_most, pairs_ok, entry_ok, head_ok, well_formed}
use Rattle.machine.specs.Differ.{differ, differ_row}
use Rattle.machine.specs.Calls.{start, decide}
use Rattle.machine.specs.Step.{outcome, step}
use Rattle.machine.specs.Built.{log, none, state_of, logged}

-- ---- a state that is well-formed, and one that is not, which every call answers with 1
pub data Row : Type 0 where
  formed malformed : State → Row

abbrev answers : State → ℕ → Bool
answers s a = eqb (step s start).reply.answer a

unfoldable pub judge : List Row → Bool
judge [] = true
judge (formed s ∷ rs) = answers s 0 && judge rs
judge (malformed s ∷ rs) = answers s 1 && judge rs

-- ---- Committed's owners: 32, each at most its change, which may be below the highest number given
-- so many numbers are given, and this is Committed's change
abbrev owning : (given change : ℕ) → List ℕ → State
owning b n os = with_committed (state_of (log b []) n none none) (record { head = none; values = absent; owners = os })

pub owners : List Row
owners =
    formed (owning 5 5 (replicate 32 5)) ∷ formed (owning 5 3 (replicate 32 3)) ∷ formed (owning 0 0 (replicate 32 0))
    ∷ malformed (owning 5 5 (6 ∷ replicate 31 0)) ∷ malformed (owning 5 5 (replicate 16 0 ++ (6 ∷ replicate 15 0)))
    ∷ malformed (owning 5 5 (replicate 31 0 ++ (6 ∷ [])))
    ∷ malformed (owning 5 3 (replicate 31 0 ++ (4 ∷ []))) ∷ malformed (owning 0 0 (1 ∷ replicate 31 0))
    ∷ malformed (owning 5 5 (replicate 31 0)) ∷ malformed (owning 5 5 (replicate 33 0)) ∷ malformed (owning 5 5 []) ∷ []

pub owners_hold : judge owners ≡ true
unfolding judge step outcome decide differ differ_row well_formed all_from all_at_most entry_ok head_ok pairs_ok after afters owners
owners_hold = refl

-- ---- what an entry remembers: each of the four below its own number, those in places that are not in use too
-- a change of one pair that remembers these
abbrev recalling : List ℕ → Transaction
recalling os = record { phase = 1; count = 1; paths = four; values = four; change = untouched; rollback = untouched; index = num 0; kept = four; owners = os }

-- entry 6, and entry 7 behind it
abbrev sixth : (a b c d : ℕ) → State
sixth a b c d = logged (log 5 (recalling (a ∷ b ∷ c ∷ d ∷ []) ∷ []))

abbrev seventh : (a b c d : ℕ) → State
seventh a b c d = logged (log 5 (recalling four ∷ recalling (a ∷ b ∷ c ∷ d ∷ []) ∷ []))

pub recalls : List Row
recalls =
    formed (sixth 5 5 5 5) ∷ malformed (sixth 6 0 0 0) ∷ malformed (sixth 0 6 0 0) ∷ malformed (sixth 0 0 6 0) ∷ malformed (sixth 0 0 0 6)
    ∷ formed (seventh 6 6 6 6) ∷ malformed (seventh 7 0 0 0) ∷ malformed (seventh 0 0 0 8)
    ∷ malformed (logged (log 0 (recalling (1 ∷ 0 ∷ 0 ∷ 0 ∷ []) ∷ []))) ∷ []

pub recalls_hold : judge recalls ≡ true
unfolding judge step outcome decide differ differ_row well_formed all_from all_at_most entry_ok head_ok pairs_ok after afters recalls
recalls_hold = refl

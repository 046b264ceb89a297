-- Order 7, stated: who set a path, in a state and by the events that were given (live, sets and value_at are demand 3's). Proved
-- in Owned. Assumes nothing.
use Rattle.std.specs.Prelude.{ℕ, zero, suc, ◌<◌, List, [], ◌∷◌, Bool, ◌&&◌, cond, ◌≡◌, get_or}
use Rattle.kinds.specs.declared.Event.{Event}
use Rattle.machine.specs.State.{State, Log, entry_of, last}
use Rattle.machine.specs.LiveList as list
use Rattle.machine.specs.Owner.{owner_of}
use Rattle.history.specs.Demand3.{live, sets, value_at, kept}

-- of these changes the first that sets path p, 0 if none does
unfoldable pub first_setting : Log → List ℕ → ℕ → ℕ
first_setting l [] p = 0
first_setting l (k ∷ ks) p = cond (sets (entry_of l k) p) k (first_setting l ks p)

-- it equals the answer from reading the whole live list, newest first
abbrev pub Owns : State → Type 0
Owns s = (p : ℕ) → p < 32 → owner_of s p ≡ first_setting s.log (list.live s) p

-- of changes 1 to n the highest that f holds of and that sets p, 0 where none does
unfoldable pub highest_setting : Log → (ℕ → Bool) → ℕ → ℕ → ℕ
highest_setting l f zero p = 0
highest_setting l f (suc n) p = cond (f (suc n) && sets (entry_of l (suc n)) p) (suc n) (highest_setting l f n p)

-- for each path, the number of the newest live change, kept, that set it, 0 if none: live by the events, whatever it set the path to
abbrev pub OwnsNewest : State → List Event → Type 0
OwnsNewest s es = (p : ℕ) → p < 32 → owner_of s p ≡ highest_setting s.log (kept s (live es 1)) (last s.log) p

-- what change k gives path p, and where k is 0 the base value
abbrev pub given_by : Log → ℕ → ℕ → ℕ
given_by l zero p = get_or l.base p 0
given_by l (suc k) p = value_at (entry_of l (suc k)) p

-- a path's committed value is what its owner gives it
abbrev pub OwnersGive : State → Type 0
OwnersGive s = (p : ℕ) → p < 32 → get_or s.committed.values p 0 ≡ given_by s.log (owner_of s p) p

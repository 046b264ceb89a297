-- The handover sheet (order 11): of a log's state the kept transactions of each class and the paths at which the committed and
-- the applied values differ; of logs in turn the totals. Assumes nothing.
use Rattle.std.specs.Prelude.{ℕ, zero, suc, ◌+◌, ◌*◌, ◌/◌, ◌%◌, ◌^◌, ◌≤◌, ◌<◌, ◌≡◌, List, [], ◌∷◌, true, cond, eqb, length}
use Rattle.std.specs.Int.Count.{ones}
use Rattle.kinds.specs.declared.Transaction.{Transaction}
use Rattle.machine.specs.State.{State}
use Rattle.machine.specs.WellFormed.{well_formed}
use Rattle.machine.specs.Class.{class_of}
use Rattle.machine.specs.Differ.{differs_at, differ}

-- ---- one log
-- how many of these are in class c
unfoldable pub counted : (class : ℕ) → List Transaction → ℕ
counted c [] = 0
counted c (t ∷ ts) = cond (eqb (class_of t) c) 1 0 + counted c ts

-- open, stopped, invalid, taken, undoing, undone
abbrev pub counts : List Transaction → List ℕ
counts ts = counted 1 ts ∷ counted 2 ts ∷ counted 3 ts ∷ counted 4 ts ∷ counted 5 ts ∷ counted 6 ts ∷ []

-- of the paths below k those that differ, as a mask: bit p for path p
unfoldable pub mask_to : (k : ℕ) → (committed applied : List ℕ) → ℕ
mask_to zero vs ws = 0
mask_to (suc k) vs ws = mask_to k vs ws + cond (differs_at vs ws k) (2 ^ k) 0

abbrev pub mask_of : State → ℕ
mask_of s = mask_to 32 s.committed.values s.applied.values

-- a log's line
pub record Row : Type 0 where
  pub counts : List ℕ
  pub mask : ℕ
  pub drift : ℕ

unfoldable pub row_of : State → Row
row_of s = record { counts = counts s.log.entries; mask = mask_of s; drift = differ 32 s.committed.values s.applied.values }

-- ---- logs in turn
-- a log as the report meets it
pub data Met : Type 0 where
  refused : Met
  met : State → Met

-- before the first
abbrev pub none : List ℕ
none = 0 ∷ 0 ∷ 0 ∷ 0 ∷ 0 ∷ 0 ∷ []

-- two rows of numbers, place by place
abbrev pub added : List ℕ → List ℕ → List ℕ
added [] ys = []
added (x ∷ xs) [] = x ∷ xs
added (x ∷ xs) (y ∷ ys) = (x + y) ∷ added xs ys

-- a refused log adds nothing
abbrev pub added_to : (totals : List ℕ) → Met → List ℕ
added_to ts refused = ts
added_to ts (met s) = added ts (row_of s).counts

-- the totals behind the last of them, from those that stood before
unfoldable pub totals_from : (totals : List ℕ) → List Met → List ℕ
totals_from ts [] = ts
totals_from ts (x ∷ xs) = totals_from (added_to ts x) xs

abbrev pub totals : List Met → List ℕ
totals xs = totals_from none xs

-- ---- what they come to
-- a row of numbers, together
abbrev pub together : List ℕ → ℕ
together [] = 0
together (x ∷ xs) = x + together xs

-- the kept transactions of the logs that are not refused
unfoldable pub kept_in : List Met → ℕ
kept_in [] = 0
kept_in (refused ∷ xs) = kept_in xs
kept_in (met s ∷ xs) = length s.log.entries + kept_in xs

-- ---- the promises (proved in Sheeted)
-- of every state: each kept transaction is in one class, and in no other
abbrev pub InOneClass : State → Type 0
InOneClass s = together (row_of s).counts ≡ length s.log.entries

-- bit p of the mask is set where path p differs, and no other is; its ones are the paths that differ
pub record Masks (s : State) : Type 0 where
  pub bits : (p : ℕ) → p < 32 → mask_of s / 2 ^ p % 2 ≡ cond (differs_at s.committed.values s.applied.values p) 1 0
  pub low : mask_of s < 2 ^ 32
  pub ones : ones (mask_of s) ≡ (row_of s).drift
  pub drift : (row_of s).drift ≤ 32

-- of logs in turn: the totals together are what those that are not refused keep
abbrev pub Totals : List Met → Type 0
Totals xs = together (totals xs) ≡ kept_in xs

-- and where these are well-formed, no more than 128 each
unfoldable pub AllFormed : List Met → Type 0
AllFormed [] = Unit {0}
AllFormed (refused ∷ xs) = AllFormed xs
AllFormed (met s ∷ xs) = (well_formed s ≡ true) × AllFormed xs

abbrev pub Fits : List Met → Type 0
Fits xs = AllFormed xs → together (totals xs) ≤ 128 * length xs

-- Four statuses in one number, there and back: the number of any four statuses has room and gives each of them again, and a
-- number in range is that of the four statuses that it gives. Assumes nothing.
use Prim.Native.Nat.{ℕ, zero, suc, ◌+◌, ◌*◌, ◌/◌, ◌%◌, ◌≤◌, ◌<◌}
use mathlib.Core.Path.{◌≡◌, refl, ap, ap₂, sym, ◌∙◌}
use mathlib.Core.List.{List, [], ◌∷◌}
use lib.ListN.{get_or}
use native.Mathlib.Numerals.{add-one}
use native.Mathlib.Omega.{arith}
use Rattle.kinds.specs.declared.Transaction.{Transaction}
use Rattle.kinds.specs.declared.Status.{Status}
use Rattle.kinds.specs.declared.Status.TheVariants.{None, Pending, InProgress, Complete, Aborted, Canceled, Failed}
use Rattle.kinds.specs.Statuses.{code_of, status_of}
use Rattle.image.specs.Packed.{packed, packed_of, highest_packed, change_in, rollback_in, commit_in, apply_in}

-- ---- one status: its code and back
pub status_code : (s : Status) → status_of (code_of s) ≡ s
unfolding status_of
status_code None = refl
status_code Pending = refl
status_code InProgress = refl
status_code Complete = refl
status_code Aborted = refl
status_code Canceled = refl
status_code Failed = refl

pub code_low : (s : Status) → code_of s ≤ 6
code_low None = omega arith
code_low Pending = omega arith
code_low InProgress = omega arith
code_low Complete = omega arith
code_low Aborted = omega arith
code_low Canceled = omega arith
code_low Failed = omega arith

code_back : (n : ℕ) → n ≤ 6 → code_of (status_of n) ≡ n
unfolding status_of
code_back zero h = refl
code_back (suc zero) h = refl
code_back (suc (suc zero)) h = refl
code_back (suc (suc (suc zero))) h = refl
code_back (suc (suc (suc (suc zero)))) h = refl
code_back (suc (suc (suc (suc (suc zero))))) h = refl
code_back (suc (suc (suc (suc (suc (suc zero)))))) h = refl
code_back (suc (suc (suc (suc (suc (suc (suc n))))))) h = absurd (omega arith)

-- ---- four codes
module _ (a b c d : ℕ) (i : a ≤ 6) (j : b ≤ 6) (k : c ≤ 6) (m : d ≤ 6) where
  low : packed a b c d ≤ highest_packed
  low = omega arith

  first : packed a b c d / 49 / 7 ≡ a
  first = omega arith

  second : packed a b c d / 49 % 7 ≡ b
  second = omega arith

  third : packed a b c d % 49 / 7 ≡ c
  third = omega arith

  fourth : packed a b c d % 49 % 7 ≡ d
  fourth = omega arith

again : (n : ℕ) → packed (n / 49 / 7) (n / 49 % 7) (n % 49 / 7) (n % 49 % 7) ≡ n
again n = omega arith

-- ---- the four statuses of a transaction
module _ (t : Transaction) where
  pub packed_low : packed_of t ≤ highest_packed
  unfolding packed_of
  packed_low = low _ _ _ _ (code_low t.change.commit) (code_low t.change.apply) (code_low t.rollback.commit) (code_low t.rollback.apply)

  pub change_commit : commit_in (change_in (packed_of t)) ≡ t.change.commit
  unfolding packed_of commit_in
  change_commit =
      ap status_of (first _ _ _ _ (code_low t.change.commit) (code_low t.change.apply) (code_low t.rollback.commit) (code_low t.rollback.apply))
      ∙ status_code t.change.commit

  pub change_apply : apply_in (change_in (packed_of t)) ≡ t.change.apply
  unfolding packed_of apply_in
  change_apply =
      ap status_of (second _ _ _ _ (code_low t.change.commit) (code_low t.change.apply) (code_low t.rollback.commit) (code_low t.rollback.apply))
      ∙ status_code t.change.apply

  pub rollback_commit : commit_in (rollback_in (packed_of t)) ≡ t.rollback.commit
  unfolding packed_of commit_in
  rollback_commit =
      ap status_of (third _ _ _ _ (code_low t.change.commit) (code_low t.change.apply) (code_low t.rollback.commit) (code_low t.rollback.apply))
      ∙ status_code t.rollback.commit

  pub rollback_apply : apply_in (rollback_in (packed_of t)) ≡ t.rollback.apply
  unfolding packed_of apply_in
  rollback_apply =
      ap status_of (fourth _ _ _ _ (code_low t.change.commit) (code_low t.change.apply) (code_low t.rollback.commit) (code_low t.rollback.apply))
      ∙ status_code t.rollback.apply

-- ---- a number in range
abbrev pub codes_in : ℕ → ℕ
codes_in n = packed (code_of (commit_in (change_in n))) (code_of (apply_in (change_in n))) (code_of (commit_in (rollback_in n))) (code_of (apply_in (rollback_in n)))

pub packed_back : (n : ℕ) → n ≤ highest_packed → codes_in n ≡ n
unfolding commit_in apply_in
packed_back n h =
    rw (
      code_back (n / 49 / 7) (omega arith),
      code_back (n / 49 % 7) (omega arith),
      code_back (n % 49 / 7) (omega arith),
      code_back (n % 49 % 7) (omega arith),
    )
    (again n)

-- ---- as the code packs them: the number of the first k of a list of statuses
abbrev pub packed_first : List Status → ℕ → ℕ
packed_first xs zero = 0
packed_first xs (suc k) = packed_first xs k * 7 + code_of (get_or xs k None)

pub packed_more : (xs : List Status) (k n x p : ℕ) → n ≡ packed_first xs k → x ≡ code_of (get_or xs k None) → p ≡ n * 7 + x → p ≡ packed_first xs (k + 1)
packed_more xs k n x p e f g = g ∙ ap₂ (λ (a b : ℕ). a * 7 + b) e f ∙ sym (ap (packed_first xs) (add-one k))

pub room_left : (xs : List Status) (k : ℕ) → k < 4 → packed_first xs k ≤ 342
room_left xs zero h = omega arith
room_left xs (suc zero) h = omega (arith, code_low (get_or xs 0 None))
room_left xs (suc (suc zero)) h = omega (arith, code_low (get_or xs 0 None), code_low (get_or xs 1 None))
room_left xs (suc (suc (suc zero))) h = omega (arith, code_low (get_or xs 0 None), code_low (get_or xs 1 None), code_low (get_or xs 2 None))
room_left xs (suc (suc (suc (suc k)))) h = absurd (omega arith)

regrouped : (a b c d : ℕ) → (((0 * 7 + a) * 7 + b) * 7 + c) * 7 + d ≡ packed a b c d
regrouped a b c d = omega arith

abbrev pub statuses_of : Transaction → List Status
statuses_of t = t.change.commit ∷ t.change.apply ∷ t.rollback.commit ∷ t.rollback.apply ∷ []

pub packs : (t : Transaction) (n k : ℕ) → n ≡ packed_first (statuses_of t) k → k ≡ 4 → n ≡ packed_of t
unfolding packed_of
packs t n k e h =
    rw h at e
    ∙ regrouped (code_of t.change.commit) (code_of t.change.apply) (code_of t.rollback.commit) (code_of t.rollback.apply)

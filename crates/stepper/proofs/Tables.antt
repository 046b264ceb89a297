-- A night's table, as the line's bytes have it and as its digits say it. Assumes nothing.
use Prim.Native.Nat.{ℕ, zero, suc, ◌+◌, ◌*◌, ◌≤◌, ◌<◌}
use mathlib.Core.Path.{◌≡◌, refl, ap, ap₂, sym, ◌∙◌}
use mathlib.Core.Bool.{Bool, true, false}
use mathlib.Core.List.{List, [], ◌∷◌, ◌++◌}
use native.Mathlib.Numerals.{add-one}
use native.Mathlib.Omega.{arith}
use borrow.Author.Tests.{ltb-true, ltb-false, lt-ltb, le-ltb}
use lib.Dec.{ltb}
use lib.ListN.{length, take, set, get_or, replicate, length-take}
use lib.Seq.{get_or-take, take-suc-set}
use Rattle.lines.specs.Reading.{low, two_bytes}
use Rattle.lines.specs.Handed.{Low, night_bytes}
use Rattle.lines.proofs.Rooms.{two_length}
use Rattle.lines.proofs.Handing.{low_at}
use Rattle.stepper.specs.Answers.{tab, table_of, table_for, table_in}

-- ---- numbers in order
tab_same : (f g : ℕ → ℕ) (k : ℕ) → ((i : ℕ) → i < k → f i ≡ g i) → tab f k ≡ tab g k
unfolding tab
tab_same f g zero h = refl
tab_same f g (suc k) h = ap₂ (λ (xs : List ℕ) (x : ℕ). xs ++ (x ∷ [])) (tab_same f g k (λ i p. h i (omega arith))) (h k (omega arith))

-- one more is put behind them
pub tab_more : (f : ℕ → ℕ) (k x : ℕ) (t : List ℕ) → k < length t → take k t ≡ tab f k → x ≡ f k → take (k + 1) (set t k x) ≡ tab f (k + 1)
unfolding tab
tab_more f k x t h e d =
    ap (λ (i : ℕ). take i (set t k x)) (add-one k) ∙ take-suc-set t k x h ∙ ap₂ (λ (xs : List ℕ) (y : ℕ). xs ++ (y ∷ [])) e d
    ∙ sym (ap (λ (i : ℕ). tab f i) (add-one k))

pub tab_none : (f : ℕ → ℕ) (t : List ℕ) → take 0 t ≡ tab f 0
unfolding tab
tab_none f t = refl

-- ---- the bytes of a night's line have its digits
digit_at : (os : List ℕ) (i : ℕ) → Low os → get_or os i 0 ≤ 9
digit_at [] i x = omega arith
digit_at (o ∷ os) zero x = x.0
digit_at (o ∷ os) (suc i) x = digit_at os i x.1

module _ (n b : ℕ) (os : List ℕ) (x : Low os) where
  place_same : (i : ℕ) → i < 257 → get_or (night_bytes n b os) (2 * i + 4) 0 ≡ get_or os i 0
  place_same i h =
      let k : 2 * i + 4 ≡ 2 * suc (suc i) = omega arith in
      let d = digit_at os i x in
      let e : low (get_or os i 0) ≡ get_or os i 0 = omega arith in
      get_or-take 518 (two_bytes (n ∷ b ∷ os)) (2 * i + 4) 0 (omega arith) ∙ ap (λ (j : ℕ). get_or (two_bytes (n ∷ b ∷ os)) j 0) k ∙ low_at (n ∷ b ∷ os) (suc (suc i)) ∙ e

  few_same : ltb (length (night_bytes n b os)) 518 ≡ ltb (length os) 257
  few_same = by (ltb (length os) 257) refl
    where
      by : (t : Bool) → ltb (length os) 257 ≡ t → ltb (length (night_bytes n b os)) 518 ≡ t
      by true e =
          lt-ltb (length (night_bytes n b os)) 518
          (omega (arith, ltb-true (length os) 257 e, two_length (n ∷ b ∷ os), length-take 518 (two_bytes (n ∷ b ∷ os))))
      by false e =
          le-ltb (length (night_bytes n b os)) 518
          (omega (arith, ltb-false (length os) 257 e, two_length (n ∷ b ∷ os), length-take 518 (two_bytes (n ∷ b ∷ os))))

  pub table_same : table_in (night_bytes n b os) ≡ table_for os
  table_same = ap₂ table_of few_same (tab_same _ _ 257 place_same)

-- ---- by computing: three digits and 0 behind them; none; and a 257th, which is no table
pub padded : table_for (1 ∷ 0 ∷ 1 ∷ []) ≡ 1 ∷ 0 ∷ 1 ∷ replicate 253 0
unfolding tab
padded = refl

pub all_accepted : table_for [] ≡ replicate 256 0
unfolding tab
all_accepted = refl

pub too_long : length (table_for (replicate 257 0)) ≡ 257
unfolding tab
too_long = refl

-- A value of a type whose values are told by their numbers, as the trait Field says by `tells`, and by `each` of four, has no second
-- one where its number has none (specs/Promises). Assumes nothing.
use Prim.Native.Nat.{ℕ}
use mathlib.Core.Path.{◌≡◌, refl, ap, ap₂, sym, ◌∙◌}
use mathlib.Core.List.{List, [], ◌∷◌}
use native.Mathlib.Omega.{arith}
use lib.ListN.{length}
use Rattle.std.specs.Prelude.{map}
use Rattle.fields.specs.Promises.{Gets, gets_only, GetsFour, gets_four_only}

first : ℕ → List ℕ → ℕ
first d [] = d
first d (x ∷ xs) = x

rest : List ℕ → List ℕ
rest [] = []
rest (x ∷ xs) = xs

module _ (A : Type 0) (number : A → ℕ) (tells : (x y : A) → number x ≡ number y → x ≡ y) where
  told_by : (xs ys : List A) → map number xs ≡ map number ys → xs ≡ ys
  unfolding first rest
  told_by [] [] e = refl
  told_by [] (y ∷ ys) e = absurd (omega (arith, ap length e))
  told_by (x ∷ xs) [] e = absurd (omega (arith, ap length e))
  told_by (x ∷ xs) (y ∷ ys) e = ap₂ (λ (a : A) (l : List A). a ∷ l) (tells x y (ap (first 0) e)) (told_by xs ys (ap rest e))

  pub value_only : (s : List ℕ) (at w : ℕ) (r q : A) → Gets s at w (number r) → Gets s at w (number q) → r ≡ q
  value_only s at w r q h k = tells r q (gets_only s at w (number r) (number q) h k)

  pub values_only : (numbers : List A → List ℕ) → ((xs : List A) → numbers xs ≡ map number xs) → (s : List ℕ) (at : ℕ) (ws : List ℕ) (r q : List A) → GetsFour s at ws (numbers r) → GetsFour s at ws (numbers q) → r ≡ q
  values_only numbers each s at ws r q h k =
      told_by r q (sym (each r) ∙ (gets_four_only s at ws (numbers r) (numbers q) h k ∙ each q))

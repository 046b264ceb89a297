-- A number of one, two or four bytes is a number: the laws that each such type has. Assumes nothing.
use Rattle.std.specs.Prelude.{ℕ, ◌≡◌, List, map}
use mathlib.Core.Path.{sym}
use Rattle.std.proofs.lemmas.List.{map-id}

pub numbers_are : (xs : List ℕ) → xs ≡ map (λ (x : ℕ). x) xs
numbers_are xs = sym (map-id xs)

pub number_tells : (x y : ℕ) → x ≡ y → x ≡ y
number_tells x y e = e

-- The table, row by row: a letter is the cell of its row and column. One computed test; no answer needs it, since the code has one text.
-- Assumes nothing.
use Prim.Native.Nat.{ℕ, zero, suc, ◌/◌, ◌%◌, ◌*◌, ◌≤◌, ◌<◌}
use mathlib.Core.Path.{◌≡◌, refl, ap, sym, ◌∙◌}
use mathlib.Core.List.{List, [], ◌∷◌, ◌++◌}
use mathlib.Core.Bool.{Bool, true, false}
use native.Mathlib.Omega.{arith}
use borrow.Author.Tests.{eqb-true, ltb-true, ltb-false}
use lib.Dec.{eqb, ltb}
use lib.ListN.{get_or, replicate, get_or-eq_default}
use Rattle.lines.specs.Forms.{bytes, gap, Form, forms, table}
use Rattle.lines.specs.Reading.{size, letter_at}
use Rattle.lines.proofs.Table.{all, all_at}

-- the text of a row
abbrev pub row_text : List Form → ℕ → List ℕ
row_text [] k = []
row_text (f ∷ fs) zero = 10 ∷ (bytes f.form ++ (f.tag ∷ replicate (gap f.form) 46))
row_text (f ∷ fs) (suc k) = row_text fs k

abbrev cell_at : ℕ → Bool
cell_at p = eqb (letter_at p) (get_or (row_text forms (p / 64)) (p % 64) 0)

cells_all : all size cell_at ≡ true
unfolding all size letter_at
cells_all = refl

whole : size % 64 ≡ 0
unfolding size
whole = refl

-- in the row k
pub in_row : (p k c : ℕ) → p / 64 ≡ k → 64 * k < size → c ≡ get_or (row_text forms k) (p % 64) 0 → c ≡ letter_at p
in_row p k c e h f =
    let n = whole in
    f ∙ ap (λ (i : ℕ). get_or (row_text forms i) (p % 64) 0) (sym e)
    ∙ sym (eqb-true (letter_at p) (get_or (row_text forms (p / 64)) (p % 64) 0) (all_at size cell_at cells_all p (omega arith)))

-- a row that is none of the first n
abbrev NoneOf : ℕ → ℕ → Type 0
NoneOf zero x = Unit {0}
NoneOf (suc n) x = NoneOf n x × (x ≡ n → ⊥)

pub beyond : (n x : ℕ) → NoneOf n x → n ≤ x
beyond zero x h = omega arith
beyond (suc n) x h = by (ltb n x) refl (beyond n x h.0)
  where
    by : (t : Bool) → ltb n x ≡ t → n ≤ x → suc n ≤ x
    by true e g = omega (arith, ltb-true n x e)
    by false e g = absurd (h.1 (omega (arith, ltb-false n x e)))

pub past_table : (p : ℕ) → size ≤ p → letter_at p ≡ 0
unfolding size letter_at
past_table p h = get_or-eq_default table 0 h

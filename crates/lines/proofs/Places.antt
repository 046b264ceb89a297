-- Places of the table: which are like which, and what is found from one. Assumes nothing.
use Prim.Native.Nat.{ℕ, zero, suc, ◌+◌, ◌-◌, ◌*◌, ◌%◌, ◌≤◌, ◌<◌, min}
use mathlib.Core.Path.{◌≡◌, refl, ap, sym, subst, ◌∙◌}
use mathlib.Core.Logic.{◌⊎◌, inl, inr}
use mathlib.Core.Bool.{Bool, true, false, cond, ◌&&◌, ◌||◌}
use native.Mathlib.Omega.{arith}
use native.Mathlib.Numerals.{add-one}
use borrow.Author.Tests.{eqb-true, ne_eqb, eq-eqb, ltb-true, ltb-false}
use lib.Dec.{eqb, ltb}
use lib.ListN.{length, get_or-eq_default}
use Rattle.lines.specs.Forms.{table}
use Rattle.lines.specs.Reading.{size, letter_at, like, goes, seek_in, left, is_mark}
use Rattle.lines.proofs.Classes.{differ, and_left, and_right, or_split, mark_some}

or-true : (a : Bool) → a || true ≡ true
or-true true = refl
or-true false = refl

-- a later place of the column
beyond : (q r : ℕ) → r % 64 ≡ q % 64 → q ≤ r → (q ≡ r → ⊥) → q + 64 ≤ r
beyond q r c h n = by (ltb q r) refl
  where
    by : (t : Bool) → ltb q r ≡ t → q + 64 ≤ r
    by true e = omega (arith, ltb-true q r e)
    by false e = absurd (n (omega (arith, ltb-false q r e)))

-- ---- one letter back
pub like_step : (a b : ℕ) → 0 < a → 0 < b → like a b ≡ eqb (letter_at (a - 1)) (letter_at (b - 1)) && (eqb (letter_at (a - 1)) 10 || like (a - 1) (b - 1))
unfolding like
like_step zero b h g = absurd (omega arith)
like_step (suc a) zero h g = absurd (omega arith)
like_step (suc a) (suc b) h g = let e : suc a - 1 ≡ a = omega arith in let f : suc b - 1 ≡ b = omega arith in rw (e, f)

pub like_zero : (a : ℕ) → like a 0 ≡ false
unfolding like
like_zero zero = refl
like_zero (suc a) = refl

pub zero_like : (q : ℕ) → like 0 q ≡ false
unfolding like
zero_like q = refl

-- where nothing is left before one of two places
pub like_none : (a b k : ℕ) → min a b ≤ k → like (a - k) (b - k) ≡ false
like_none a b k h = by (ltb k a) refl
  where
    by : (t : Bool) → ltb k a ≡ t → like (a - k) (b - k) ≡ false
    by true e = let z : b - k ≡ 0 = omega (arith, ltb-true k a e) in ap (like (a - k)) z ∙ like_zero (a - k)
    by false e = let z : a - k ≡ 0 = omega (arith, ltb-false k a e) in ap (λ (x : ℕ). like x (b - k)) z ∙ zero_like (b - k)

-- ---- what is found
module _ (p b q : ℕ) where
  one_row : q < size → left q ≡ suc (left (q + 64))
  one_row h = omega arith

  pub seek_here : q < size → goes p b q ≡ true → seek_in (left q) p b q ≡ q + 1
  unfolding seek_in
  seek_here h g = ap (λ (n : ℕ). seek_in n p b q) (one_row h) ∙ rw g

  pub seek_on : q < size → goes p b q ≡ false → seek_in (left q) p b q ≡ seek_in (left (q + 64)) p b (q + 64)
  unfolding seek_in
  seek_on h g = ap (λ (n : ℕ). seek_in n p b q) (one_row h) ∙ rw g

  pub seek_end : size ≤ q → seek_in (left q) p b q ≡ 0
  unfolding seek_in
  seek_end h = let e : left q ≡ 0 = omega arith in ap (λ (n : ℕ). seek_in n p b q) e

-- nothing is like the place 0
pub seek_nowhere : (n b q : ℕ) → seek_in n 0 b q ≡ 0
unfolding seek_in
seek_nowhere zero b q = refl
seek_nowhere (suc n) b q = rw (zero_like q) (seek_nowhere n b (q + 64))

-- ---- a letter stands within the table
pub within : (p : ℕ) → 1 ≤ letter_at p → p < size
unfolding size letter_at
within p h = by (ltb p (length table)) refl
  where
    by : (t : Bool) → ltb p (length table) ≡ t → p < length table
    by true e = ltb-true p (length table) e
    by false e = absurd (omega (arith, get_or-eq_default table 0 (ltb-false p (length table) e)))

-- ---- the two texts, compared from their ends
module _ (a b : ℕ) (h : 0 < a) (g : 0 < b) where
  pub like_differ : (x y : ℕ) → x ≡ letter_at (a - 1) → y ≡ letter_at (b - 1) → (x ≡ y → ⊥) → like a b ≡ false
  like_differ x y e f n = like_step a b h g ∙ rw (← e, ← f, ne_eqb x y n)

  pub like_start : (x y : ℕ) → x ≡ letter_at (a - 1) → y ≡ letter_at (b - 1) → x ≡ y → x ≡ 10 → like a b ≡ true
  like_start x y e f i n = like_step a b h g ∙ rw (← e, ← f, eq-eqb x y i, eq-eqb x 10 n)

  pub like_back : (x y : ℕ) → x ≡ letter_at (a - 1) → y ≡ letter_at (b - 1) → x ≡ y → (x ≡ 10 → ⊥) → like a b ≡ like (a - 1) (b - 1)
  like_back x y e f i n = like_step a b h g ∙ rw (← e, ← f, eq-eqb x y i, ne_eqb x 10 n)

-- a mark stands within the table, and so a place comes behind it
pub mark_within : (p : ℕ) → is_mark (letter_at p) ≡ true → p < size
mark_within p h = within p (mark_some (letter_at p) h)

-- ---- one letter on
-- what two like places have before them
pub record Before (p q : ℕ) : Type 0 where
  pub letter : letter_at p ≡ letter_at q
  pub more : (letter_at p ≡ 10) ⊎ (like p q ≡ true)

pub before : (p q : ℕ) → like (suc p) (suc q) ≡ true → Before p q
unfolding like
before p q h =
    record {
      letter = eqb-true (letter_at p) (letter_at q) (and_left (eqb (letter_at p) (letter_at q)) (eqb (letter_at p) 10 || like p q) h);
      more = by (or_split (eqb (letter_at p) 10) (like p q) (and_right (eqb (letter_at p) (letter_at q)) (eqb (letter_at p) 10 || like p q) h));
    }
  where
    by : (eqb (letter_at p) 10 ≡ true) ⊎ (like p q ≡ true) → (letter_at p ≡ 10) ⊎ (like p q ≡ true)
    by (inl x) = inl (eqb-true (letter_at p) 10 x)
    by (inr x) = inr x

behind : (p q : ℕ) → Before p q → like (suc p) (suc q) ≡ true
unfolding like
behind p q x = rw (eq-eqb (letter_at p) (letter_at q) x.letter) (by x.more)
  where
    by : (letter_at p ≡ 10) ⊎ (like p q ≡ true) → eqb (letter_at p) 10 || like p q ≡ true
    by (inl e) = rw (eq-eqb (letter_at p) 10 e)
    by (inr e) = rw e (or-true (eqb (letter_at p) 10))

pub like_next : (p q : ℕ) → like p q ≡ true → letter_at p ≡ letter_at q → like (p + 1) (q + 1) ≡ true
like_next p q h e = rw (add-one p, add-one q) (behind p q (record { letter = e; more = inr h }))

-- behind a newline
pub like_newline : (p q : ℕ) → letter_at p ≡ 10 → letter_at q ≡ 10 → like (p + 1) (q + 1) ≡ true
like_newline p q e f = rw (add-one p, add-one q) (behind p q (record { letter = e ∙ sym f; more = inl e }))

pub record Prior (p q : ℕ) : Type 0 where
  pub place : ℕ
  pub is : q ≡ place + 1
  pub letter : letter_at place ≡ letter_at p
  pub same : (letter_at p ≡ 10 → ⊥) → like p place ≡ true

pub like_prior : (p q : ℕ) → like (p + 1) q ≡ true → Prior p q
like_prior p zero h = differ (sym h ∙ like_zero (p + 1))
like_prior p (suc q) h =
    let x = before p q (subst (λ (k : ℕ). like k (suc q) ≡ true) (add-one p) h) in
    record { place = q; is = sym (add-one q); letter = sym x.letter; same = λ n. by n x.more }
  where
    by : (letter_at p ≡ 10 → ⊥) → (letter_at p ≡ 10) ⊎ (like p q ≡ true) → like p q ≡ true
    by n (inl e) = absurd (n e)
    by n (inr e) = e

pub like_trans : (p q r : ℕ) → like p q ≡ true → like q r ≡ true → like p r ≡ true
like_trans zero q r h g = differ (sym h ∙ zero_like q)
like_trans (suc p) zero r h g = differ (sym g ∙ zero_like r)
like_trans (suc p) (suc q) zero h g = differ (sym g ∙ like_zero (suc q))
like_trans (suc p) (suc q) (suc r) h g =
    let x = before p q h in
    let y = before q r g in
    behind p r (record { letter = x.letter ∙ y.letter; more = by x.letter (λ i j. like_trans p q r i j) x.more y.more })
  where
    by :
        letter_at p ≡ letter_at q → (like p q ≡ true → like q r ≡ true → like p r ≡ true) → (letter_at p ≡ 10) ⊎ (like p q ≡ true) →
        (letter_at q ≡ 10) ⊎ (like q r ≡ true) → (letter_at p ≡ 10) ⊎ (like p r ≡ true)
    by e f (inl i) j = inl i
    by e f (inr i) (inl j) = inl (e ∙ j)
    by e f (inr i) (inr j) = inr (f i j)

pub like_sym : (p q : ℕ) → like p q ≡ true → like q p ≡ true
like_sym zero q h = differ (sym h ∙ zero_like q)
like_sym (suc p) zero h = differ (sym h ∙ like_zero (suc p))
like_sym (suc p) (suc q) h =
    let x = before p q h in
    behind q p (record { letter = sym x.letter; more = by x.letter (λ i. like_sym p q i) x.more })
  where
    by : letter_at p ≡ letter_at q → (like p q ≡ true → like q p ≡ true) → (letter_at p ≡ 10) ⊎ (like p q ≡ true) → (letter_at q ≡ 10) ⊎ (like q p ≡ true)
    by e f (inl i) = inl (sym e ∙ i)
    by e f (inr i) = inr (f i)

-- ---- the first of a column that takes a byte
pub record Found (p b q e : ℕ) : Type 0 where
  pub place : ℕ
  pub is : e ≡ place + 1
  pub above : q ≤ place
  pub takes : goes p b place ≡ true
  pub first : (r : ℕ) → r % 64 ≡ q % 64 → q ≤ r → goes p b r ≡ true → place ≤ r

pub record Missing (p b q n e : ℕ) : Type 0 where
  pub is : e ≡ 0
  pub never : (r : ℕ) → r % 64 ≡ q % 64 → q ≤ r → r < q + 64 * n → goes p b r ≡ true → ⊥

pub sought : (n p b q : ℕ) → Missing p b q n (seek_in n p b q) ⊎ Found p b q (seek_in n p b q)
unfolding seek_in
sought zero p b q = inl (record { is = refl; never = λ r c h g e. omega arith })
sought (suc n) p b q = by (goes p b q) refl (sought n p b (q + 64))
  where
    down : (r : ℕ) → r % 64 ≡ q % 64 → r % 64 ≡ (q + 64) % 64
    down r c = omega arith

    by :
        (t : Bool) → goes p b q ≡ t → Missing p b (q + 64) n (seek_in n p b (q + 64)) ⊎ Found p b (q + 64) (seek_in n p b (q + 64)) →
        Missing p b q (suc n) (cond t (q + 1) (seek_in n p b (q + 64))) ⊎ Found p b q (cond t (q + 1) (seek_in n p b (q + 64)))
    by true e x = inr (record { place = q; is = refl; above = omega arith; takes = e; first = λ r c h g. h })
    by false e (inl x) =
        inl (record {
          is = x.is;
          never = λ r c h g i. x.never r (down r c) (beyond q r c h (λ (j : q ≡ r). differ (sym i ∙ ap (goes p b) (sym j) ∙ e))) (omega arith) i;
        })
    by false e (inr x) =
        inr (record {
          place = x.place;
          is = x.is;
          above = omega (arith, x.above);
          takes = x.takes;
          first = λ r c h g. x.first r (down r c) (beyond q r c h (λ (j : q ≡ r). differ (sym g ∙ ap (goes p b) (sym j) ∙ e))) g;
        })

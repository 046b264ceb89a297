-- What the table of forms has to be, computed: rows of one width; where a mark or a tag stands, every row with the same text
-- before it has the same there; no mark stands behind a mark. A new row costs nothing here: it is computed again.
-- Assumes nothing.
use Prim.Native.Nat.{ℕ, zero, suc, ◌+◌, ◌*◌, ◌/◌, ◌%◌, ◌≤◌, ◌<◌}
use mathlib.Core.Path.{◌≡◌, refl, ap, sym, subst, ◌∙◌}
use mathlib.Core.Logic.{◌⊎◌, inl, inr}
use mathlib.Core.Bool.{Bool, true, false, not, cond, ◌&&◌, ◌||◌}
use native.Mathlib.Omega.{arith}
use native.Mathlib.Numerals.{add-one}
use borrow.Author.Tests.{eqb-true, eq-eqb, ne_eqb, ltb-true, ltb-false}
use lib.Dec.{eqb, ltb}
use Rattle.lines.specs.Reading.{size, letter_at, like, takes, seek_in, left, seek, is_mark, is_tag, tag_before}
use Rattle.lines.proofs.Classes.{differ, and_left, and_right, and_both, or_split, tag_some, mark_some}
use Rattle.lines.proofs.Places.{within, zero_like, like_zero, Before, before, like_next, like_newline, like_sym, Found, Missing, sought, seek_here, seek_end, seek_nowhere}

-- p at every number below n
unfoldable pub all : ℕ → (ℕ → Bool) → Bool
all zero f = true
all (suc n) f = f n && all n f

pub all_at : (n : ℕ) (f : ℕ → Bool) → all n f ≡ true → (i : ℕ) → i < n → f i ≡ true
unfolding all
all_at zero f h i g = absurd (omega arith)
all_at (suc n) f h i g = by (λ x. all_at n f (and_right (f n) (all n f) h) i x) (ltb i n) refl
  where
    by : (i < n → f i ≡ true) → (t : Bool) → ltb i n ≡ t → f i ≡ true
    by x true e = x (ltb-true i n e)
    by x false e = let j : i ≡ n = omega (arith, ltb-false i n e) in ap f j ∙ and_left (f n) (all n f) h

abbrev fixed : ℕ → Bool
fixed c = is_mark c || is_tag c

-- the place of the row k in the column of p
abbrev across : ℕ → ℕ → ℕ
across p k = p % 64 + 64 * k

abbrev newline_at : ℕ → Bool
newline_at p = not (eqb (letter_at p) 10) || eqb (p % 64) 0

abbrev same_at : ℕ → ℕ → Bool
same_at p k = not (like p (across p k)) || eqb (letter_at (across p k)) (letter_at p)

abbrev lone_at : ℕ → Bool
lone_at p = not (fixed (letter_at p)) || all (left 0) (same_at p)

abbrev parted_at : ℕ → Bool
parted_at p = not (is_mark (letter_at p) && is_mark (letter_at (p + 1)))

newline_all : all size newline_at ≡ true
unfolding all size letter_at
newline_all = refl

lone_all : all size lone_at ≡ true
unfolding all size letter_at like
lone_all = refl

some_all : all size (λ p. ltb 0 (letter_at p)) ≡ true
unfolding all size letter_at
some_all = refl

parted_all : all size parted_at ≡ true
unfolding all size letter_at
parted_all = refl

-- where the code's table ends
pub size_is : size ≡ 960
unfolding size
size_is = refl

pub first_newline : letter_at 0 ≡ 10
unfolding letter_at
first_newline = refl

-- a place is like itself, so that where it takes a byte nothing is looked for
like_itself : (p : ℕ) → like (suc p) (suc p) ≡ true
like_itself zero = like_newline 0 0 first_newline first_newline
like_itself (suc p) = subst (λ (k : ℕ). like k k ≡ true) (add-one (suc p)) (like_next (suc p) (suc p) (like_itself p) refl)

beyond_table : (p : ℕ) → letter_at p ≡ 0 → size ≤ p
beyond_table p e = by (ltb p size) refl
  where
    by : (t : Bool) → ltb p size ≡ t → size ≤ p
    by true h = absurd (omega (arith, ltb-true 0 (letter_at p) (all_at size (λ (p : ℕ). ltb 0 (letter_at p)) some_all p (ltb-true p size h))))
    by false h = ltb-false p size h

-- nothing is looked for from the place 0, or past the table
pub seek_stops : (p b c : ℕ) → c ≡ letter_at p → eqb p 0 || eqb c 0 ≡ true → seek_in (left p) p b p ≡ 0
seek_stops p b c e h = by (or_split (eqb p 0) (eqb c 0) h)
  where
    by : (eqb p 0 ≡ true) ⊎ (eqb c 0 ≡ true) → seek_in (left p) p b p ≡ 0
    by (inl x) = ap (λ (k : ℕ). seek_in (left k) k b k) (eqb-true p 0 x) ∙ seek_nowhere (left 0) b 0
    by (inr x) = seek_end p b p (beyond_table p (sym e ∙ eqb-true c 0 x))

or_none : (a b : Bool) → a || b ≡ false → (a ≡ false) × (b ≡ false)
or_none false b h = (refl, h)
or_none true b h = differ h

some_letter : (p c : ℕ) → c ≡ letter_at p → eqb c 0 ≡ false → p < size
some_letter p zero e h = differ h
some_letter p (suc c) e h = within p (omega arith)

pub in_place : (p c : ℕ) → c ≡ letter_at p → eqb p 0 || eqb c 0 ≡ false → p < size
in_place p c e h = some_letter p c e (or_none (eqb p 0) (eqb c 0) h).1

pub seek_itself :
    (p b c : ℕ) (t : Bool) → c ≡ letter_at p → eqb p 0 || eqb c 0 ≡ false → t ≡ takes c b → t ≡ true → seek_in (left p) p b p ≡ p + 1
seek_itself zero b c t e h f g = differ (or_none (eqb 0 0) (eqb c 0) h).0
seek_itself (suc p) b c t e h f g =
    seek_here (suc p) b (suc p) (in_place (suc p) c e h)
    (and_both (like (suc p) (suc p)) (takes (letter_at (suc p)) b) (like_itself p) (ap (λ (x : ℕ). takes x b) (sym e) ∙ sym f ∙ g))

-- ---- the rules
or_not : (a b : Bool) → a ≡ true → not a || b ≡ true → b ≡ true
or_not true b h g = g
or_not false b h g = differ (sym h)

and_not : (a b : Bool) → a ≡ true → not (a && b) ≡ true → b ≡ false
and_not true false h g = refl
and_not true true h g = sym g
and_not false b h g = differ (sym h)

-- ---- like places stand in one column
newline_column : (p : ℕ) → letter_at p ≡ 10 → p % 64 ≡ 0
newline_column p e =
    eqb-true (p % 64) 0
    (or_not (eqb (letter_at p) 10) (eqb (p % 64) 0) (eq-eqb (letter_at p) 10 e) (all_at size newline_at newline_all p (within p (rw e (omega arith)))))

pub same_column : (p q : ℕ) → like p q ≡ true → q % 64 ≡ p % 64
same_column zero q h = differ (sym h ∙ zero_like q)
same_column (suc p) zero h = differ (sym h ∙ like_zero (suc p))
same_column (suc p) (suc q) h = by x.more (λ y. same_column p q y)
  where
    x : Before p q
    x = before p q h

    by : (letter_at p ≡ 10) ⊎ (like p q ≡ true) → (like p q ≡ true → q % 64 ≡ p % 64) → suc q % 64 ≡ suc p % 64
    by (inl e) f = omega (arith, newline_column p e, newline_column q (sym x.letter ∙ e))
    by (inr e) f = omega (arith, f e)

lone : (p q : ℕ) → fixed (letter_at p) ≡ true → p < size → q < size → like p q ≡ true → letter_at q ≡ letter_at p
lone p q h g k e =
    let a : across p (q / 64) ≡ q = omega (arith, same_column p q e) in
    let s : same_at p (q / 64) ≡ true =
    all_at (left 0) (same_at p) (or_not (fixed (letter_at p)) (all (left 0) (same_at p)) h (all_at size lone_at lone_all p g)) (q / 64) (omega arith) in
    eqb-true (letter_at q) (letter_at p)
    (or_not (like p q) (eqb (letter_at q) (letter_at p)) e (subst (λ (x : ℕ). not (like p x) || eqb (letter_at x) (letter_at p) ≡ true) a s))

pub lone_mark : (p q : ℕ) → is_mark (letter_at p) ≡ true → q < size → like p q ≡ true → letter_at q ≡ letter_at p
lone_mark p q h k e = lone p q (rw h) (within p (mark_some (letter_at p) h)) k e

pub lone_tag : (p q : ℕ) → is_tag (letter_at p) ≡ true → q < size → like p q ≡ true → letter_at q ≡ letter_at p
lone_tag p q h k e = lone p q (rw h (or-true (is_mark (letter_at p)))) (within p (tag_some (letter_at p) h)) k e
  where
    or-true : (a : Bool) → a || true ≡ true
    or-true true = refl
    or-true false = refl

pub no_mark_behind : (p : ℕ) → is_mark (letter_at p) ≡ true → is_mark (letter_at (p + 1)) ≡ false
no_mark_behind p h = and_not (is_mark (letter_at p)) (is_mark (letter_at (p + 1))) h (all_at size parted_at parted_all p (within p (mark_some (letter_at p) h)))

-- ---- where a line ends: the tag at the place itself, for a row with the same text has the same there
pub tag_here : (p : ℕ) → tag_before (seek p 10) ≡ cond (is_tag (letter_at p)) (letter_at p) 0
tag_here p = by (sought (left p) p 10 p)
  where
    itself : (p : ℕ) → is_tag (letter_at p) ≡ true → seek p 10 ≡ p + 1
    itself zero h = differ (sym h ∙ ap is_tag first_newline)
    itself (suc p) h =
        seek_here (suc p) 10 (suc p) (within (suc p) (tag_some (letter_at (suc p)) h)) (and_both (like (suc p) (suc p)) (is_tag (letter_at (suc p))) (like_itself p) h)

    behind : (p : ℕ) → tag_before (p + 1) ≡ letter_at p
    behind p = rw (ne_eqb (p + 1) 0 (λ e. omega arith)) (ap letter_at (omega arith))

    none : (t : Bool) → is_tag (letter_at p) ≡ t → seek p 10 ≡ 0 → 0 ≡ cond t (letter_at p) 0
    none true h e = absurd (omega (arith, itself p h, e))
    none false h e = refl

    by : Missing p 10 p (left p) (seek p 10) ⊎ Found p 10 p (seek p 10) → tag_before (seek p 10) ≡ cond (is_tag (letter_at p)) (letter_at p) 0
    by (inl x) = ap tag_before x.is ∙ none (is_tag (letter_at p)) refl x.is
    by (inr x) =
        let h : is_tag (letter_at x.place) ≡ true = and_right (like p x.place) (is_tag (letter_at x.place)) x.takes in
        let e : letter_at p ≡ letter_at x.place =
        lone_tag x.place p h (omega (arith, x.above, within x.place (tag_some (letter_at x.place) h))) (like_sym p x.place
        (and_left (like p x.place) (is_tag (letter_at x.place)) x.takes)) in
        ap tag_before (itself p (ap is_tag e ∙ h)) ∙ behind p ∙ rw (ap is_tag e ∙ h)

pub tag_taken : (p c : ℕ) → c ≡ letter_at p → is_tag c ≡ true → c ≡ tag_before (seek p 10)
tag_taken p c e h = e ∙ sym (tag_here p ∙ rw (ap is_tag (sym e) ∙ h))

pub tag_left : (p c : ℕ) → c ≡ letter_at p → is_tag c ≡ false → 0 ≡ tag_before (seek p 10)
tag_left p c e h = sym (tag_here p ∙ rw (ap is_tag (sym e) ∙ h))

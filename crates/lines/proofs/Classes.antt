-- The bytes of a table: letters, marks and tags are apart, and digits and separators are none of them. Assumes nothing.
use Prim.Native.Nat.{ℕ, zero, suc, ◌≤◌}
use mathlib.Core.Path.{◌≡◌, refl, ap, sym, ◌∙◌}
use mathlib.Core.Logic.{◌⊎◌, inl, inr}
use mathlib.Core.Bool.{Bool, true, false, cond, ◌&&◌, ◌||◌}
use native.Mathlib.Omega.{arith}
use borrow.Author.Tests.{eqb-true, leb-true, ne_eqb}
use lib.Dec.{eqb, leb}
use Rattle.lines.specs.Decimal.{is_digit}
use Rattle.lines.specs.Grammar.{is_word}
use Rattle.lines.specs.Reading.{is_paired, is_numbered, is_mark, is_tag, inside, begins, may_end, parts}

pub differ : {A : Type 0} → true ≡ false → A
differ e = absurd (let z : ◌≡◌ {A = ℕ} 0 1 = ap (λ (b : Bool). cond b 0 1) e in omega arith)

pub and_left : (a b : Bool) → a && b ≡ true → a ≡ true
and_left true b h = refl
and_left false b h = h

pub and_right : (a b : Bool) → a && b ≡ true → b ≡ true
and_right true b h = h
and_right false b h = differ (sym h)

pub and_one : (a : Bool) → a && true ≡ a
and_one true = refl
and_one false = refl

pub and_none : (a : Bool) → a && false ≡ false
and_none true = refl
and_none false = refl

pub and_both : (a b : Bool) → a ≡ true → b ≡ true → a && b ≡ true
and_both a b h g = rw (h, g)

pub or-true : (a : Bool) → a || true ≡ true
or-true true = refl
or-true false = refl

pub or_split : (a b : Bool) → a || b ≡ true → (a ≡ true) ⊎ (b ≡ true)
or_split true b h = inl refl
or_split false b h = inr h

-- ---- a letter
pub word_elim : {A : Type 0} (c : ℕ) → is_word c ≡ true → (c ≡ 32 → A) → (c ≡ 61 → A) → (95 ≤ c → A) → A
word_elim {A} c h f g k = first (or_split (leb 97 c && leb c 122 || eqb c 61 || eqb c 32) (eqb c 95) h)
  where
    third : (leb 97 c && leb c 122 ≡ true) ⊎ (eqb c 61 ≡ true) → A
    third (inl x) = k (omega (arith, leb-true 97 c (and_left (leb 97 c) (leb c 122) x)))
    third (inr x) = g (eqb-true c 61 x)

    second : (leb 97 c && leb c 122 || eqb c 61 ≡ true) ⊎ (eqb c 32 ≡ true) → A
    second (inl x) = third (or_split (leb 97 c && leb c 122) (eqb c 61) x)
    second (inr x) = f (eqb-true c 32 x)

    first : (leb 97 c && leb c 122 || eqb c 61 || eqb c 32 ≡ true) ⊎ (eqb c 95 ≡ true) → A
    first (inl x) = second (or_split (leb 97 c && leb c 122 || eqb c 61) (eqb c 32) x)
    first (inr x) = k (omega (arith, eqb-true c 95 x))

pub word_no_digit : (c : ℕ) → is_word c ≡ true → is_digit c ≡ true → ⊥
word_no_digit c w d =
    let h = leb-true 48 c (and_left (leb 48 c) (leb c 57) d) in
    let g = leb-true c 57 (and_right (leb 48 c) (leb c 57) d) in
    word_elim c w (λ e. omega arith) (λ e. omega arith) (λ e. omega arith)

pub word_no_tag : (c : ℕ) → is_word c ≡ true → is_tag c ≡ true → ⊥
word_no_tag c w d =
    let h = leb-true 65 c (and_left (leb 65 c) (leb c 90) d) in
    let g = leb-true c 90 (and_right (leb 65 c) (leb c 90) d) in
    word_elim c w (λ e. omega arith) (λ e. omega arith) (λ e. omega arith)

pub word_other : (c x : ℕ) → is_word c ≡ true → x ≤ 60 → (x ≡ 32 → ⊥) → eqb c x ≡ false
word_other c x w h n = ne_eqb c x (λ i. word_elim c w (λ e. n (sym i ∙ e)) (λ e. omega arith) (λ e. omega arith))

-- ---- a mark
pub numbered_mark : (c : ℕ) → is_numbered c ≡ true → is_mark c ≡ true
numbered_mark c h = rw h

pub mark_is : (c : ℕ) → is_mark c ≡ true → (is_numbered c ≡ true) ⊎ (c ≡ 38)
mark_is c h = by (or_split (is_numbered c) (eqb c 38) h)
  where
    by : (is_numbered c ≡ true) ⊎ (eqb c 38 ≡ true) → (is_numbered c ≡ true) ⊎ (c ≡ 38)
    by (inl x) = inl x
    by (inr x) = inr (eqb-true c 38 x)

pub paired_elim : {A : Type 0} (c : ℕ) → is_paired c ≡ true → (c ≡ 37 → A) → (c ≡ 36 → A) → A
paired_elim {A} c h f g = by (or_split (eqb c 37) (eqb c 36) h)
  where
    by : (eqb c 37 ≡ true) ⊎ (eqb c 36 ≡ true) → A
    by (inl x) = f (eqb-true c 37 x)
    by (inr x) = g (eqb-true c 36 x)

pub paired_numbered : (c : ℕ) → is_paired c ≡ true → is_numbered c ≡ true
paired_numbered c h = rw h (or-true (eqb c 35))

pub mark_elim : {A : Type 0} (c : ℕ) → is_mark c ≡ true → (c ≡ 35 → A) → (c ≡ 37 → A) → (c ≡ 38 → A) → (c ≡ 36 → A) → A
mark_elim {A} c h f g k e = by (mark_is c h)
  where
    numbered : (eqb c 35 ≡ true) ⊎ (is_paired c ≡ true) → A
    numbered (inl x) = f (eqb-true c 35 x)
    numbered (inr x) = paired_elim c x g e

    by : (is_numbered c ≡ true) ⊎ (c ≡ 38) → A
    by (inl x) = numbered (or_split (eqb c 35) (is_paired c) x)
    by (inr x) = k x

-- what takes numbers takes no single digits
pub numbered_other : (c : ℕ) → is_numbered c ≡ true → eqb c 38 ≡ false
numbered_other c h =
    mark_elim c (numbered_mark c h) (λ e. ap (λ (x : ℕ). eqb x 38) e) (λ e. ap (λ (x : ℕ). eqb x 38) e) (λ e. differ (sym h ∙ ap is_numbered e))
    (λ e. ap (λ (x : ℕ). eqb x 38) e)

pub mark_no_word : (c : ℕ) → is_mark c ≡ true → is_word c ≡ true → ⊥
mark_no_word c h w =
    mark_elim c h (λ e. differ (sym w ∙ ap is_word e)) (λ e. differ (sym w ∙ ap is_word e)) (λ e. differ (sym w ∙ ap is_word e)) (λ e. differ (sym w ∙ ap is_word e))

pub mark_no_tag : (c : ℕ) → is_mark c ≡ true → is_tag c ≡ true → ⊥
mark_no_tag c h w =
    mark_elim c h (λ e. differ (sym w ∙ ap is_tag e)) (λ e. differ (sym w ∙ ap is_tag e)) (λ e. differ (sym w ∙ ap is_tag e)) (λ e. differ (sym w ∙ ap is_tag e))

pub tag_some : (c : ℕ) → is_tag c ≡ true → 1 ≤ c
tag_some c h = omega (arith, leb-true 65 c (and_left (leb 65 c) (leb c 90) h))

pub word_some : (c : ℕ) → is_word c ≡ true → 1 ≤ c
word_some c w = word_elim c w (λ e. omega arith) (λ e. omega arith) (λ e. omega arith)

pub mark_some : (c : ℕ) → is_mark c ≡ true → 1 ≤ c
mark_some zero h = differ (sym h)
mark_some (suc c) h = omega arith

-- ---- what has come of what a mark takes
pub begins_inside : (s : ℕ) → inside (begins s) ≡ true
begins_inside s = by (eqb s 2) (eqb s 4)
  where
    by : (t u : Bool) → inside (cond t 3 (cond u 5 1)) ≡ true
    by true u = refl
    by false true = refl
    by false false = refl

-- a byte that parts: a colon behind a path, a comma behind a value, or a slash behind an entry
pub data Parted (c s b n : ℕ) : Type 0 where
  colon : is_paired c ≡ true → (s ≡ 1) ⊎ (s ≡ 5) → b ≡ 58 → n ≡ 2 → Parted c s b n
  comma : is_paired c ≡ true → s ≡ 3 → b ≡ 44 → n ≡ 4 → Parted c s b n
  slash : c ≡ 36 → may_end c s ≡ true → b ≡ 47 → n ≡ 6 → Parted c s b n

pub parted_by : (c s b n : ℕ) → parts c s b ≡ suc n → Parted c s b (suc n)
parted_by c s b n h = by P refl Q refl R refl h
  where
    P : Bool
    P = is_paired c && ((eqb s 1 || eqb s 5) && eqb b 58)

    Q : Bool
    Q = is_paired c && (eqb s 3 && eqb b 44)

    R : Bool
    R = eqb c 36 && (may_end c s && eqb b 47)

    either : (eqb s 1 ≡ true) ⊎ (eqb s 5 ≡ true) → (s ≡ 1) ⊎ (s ≡ 5)
    either (inl x) = inl (eqb-true s 1 x)
    either (inr x) = inr (eqb-true s 5 x)

    by : (x : Bool) → P ≡ x → (y : Bool) → Q ≡ y → (z : Bool) → R ≡ z → cond x 2 (cond y 4 (cond z 6 0)) ≡ suc n → Parted c s b (suc n)
    by true e y f z g i =
        let j = and_right (is_paired c) ((eqb s 1 || eqb s 5) && eqb b 58) e in
        colon (and_left (is_paired c) ((eqb s 1 || eqb s 5) && eqb b 58) e) (either (or_split (eqb s 1) (eqb s 5) (and_left (eqb s 1 || eqb s 5) (eqb b 58) j)))
        (eqb-true b 58 (and_right (eqb s 1 || eqb s 5) (eqb b 58) j)) (sym i)
    by false e true f z g i =
        let j = and_right (is_paired c) (eqb s 3 && eqb b 44) f in
        comma (and_left (is_paired c) (eqb s 3 && eqb b 44) f) (eqb-true s 3 (and_left (eqb s 3) (eqb b 44) j)) (eqb-true b 44 (and_right (eqb s 3) (eqb b 44) j))
        (sym i)
    by false e false f true g i =
        let j = and_right (eqb c 36) (may_end c s && eqb b 47) g in
        slash (eqb-true c 36 (and_left (eqb c 36) (may_end c s && eqb b 47) g)) (and_left (may_end c s) (eqb b 47) j) (eqb-true b 47 (and_right (may_end c s) (eqb b 47) j))
        (sym i)
    by false e false f false g i = absurd (omega arith)

-- it comes at a mark that takes pairs
pub parted_at_holds : {c s b n : ℕ} → Parted c s b n → is_paired c ≡ true
parted_at_holds (colon p s b n) = p
parted_at_holds (comma p s b n) = p
parted_at_holds (slash c s b n) = ap is_paired c

pub parted_mark : {c s b n : ℕ} → Parted c s b n → is_mark c ≡ true
parted_mark {c} x = numbered_mark c (paired_numbered c (parted_at_holds x))

-- no letter parts
pub word_parts : (c s b : ℕ) → is_word b ≡ true → parts c s b ≡ 0
word_parts c s b w =
    rw (word_other b 58 w (omega arith) (λ e. omega arith), word_other b 44 w (omega arith) (λ e. omega arith), word_other b 47 w (omega arith) (λ e. omega arith))
    (by (is_paired c) (eqb s 1 || eqb s 5) (eqb s 3) (eqb c 36) (may_end c s))
  where
    by : (x y z u v : Bool) → ◌≡◌ {A = ℕ} (cond (x && (y && false)) 2 (cond (x && (z && false)) 4 (cond (u && (v && false)) 6 0))) 0
    by x y z u v = rw (and_none y, and_none x, and_none z, and_none x, and_none v, and_none u)

-- The laws of one number in a list of bytes, over its width. Assumes nothing.
use Prim.Native.Nat.{ℕ, zero, suc, ◌+◌, ◌*◌, ◌/◌, ◌%◌, ◌^◌, ◌≤◌, ◌<◌}
use mathlib.Core.Path.{◌≡◌, refl, ap, ap₂, ◌∙◌}
use mathlib.Core.Logic.{◌⊎◌, inl, inr, ⊎_elim}
use mathlib.Core.List.{List, [], ◌∷◌}
use native.Mathlib.Nat.{pow-suc, pow-zero}
use native.Mathlib.Omega.{arith}
use lib.ListN.{length, get_or, set, length-set}
use lib.Seq.{get_or-set_same, get_or-set_other, set-get_or}
use Rattle.fields.specs.Field.{field, put_field, quad}

-- m has the bytes of l outside the places from a to below e
abbrev pub Outside : List ℕ → List ℕ → ℕ → ℕ → Type 0
Outside l m a e = (j : ℕ) → (j < a) ⊎ (e ≤ j) → get_or m j 0 ≡ get_or l j 0

-- each element is a byte
abbrev pub Bytes : List ℕ → Type 0
Bytes l = (i : ℕ) → get_or l i 0 < 256

pub length_put : (w : ℕ) (l : List ℕ) (at x : ℕ) → length (put_field l at w x) ≡ length l
unfolding put_field
length_put zero l at x = refl
length_put (suc w) l at x = length_put w (set l at (x % 256)) (at + 1) (x / 256) ∙ length-set l at (x % 256)

-- nothing outside the number is touched
pub put_outside : (w : ℕ) (l : List ℕ) (at x : ℕ) → Outside l (put_field l at w x) at (at + w)
unfolding put_field
put_outside zero l at x j h = refl
put_outside (suc w) l at x j h =
    put_outside w (set l at (x % 256)) (at + 1) (x / 256) j (⊎_elim (λ a. inl (omega arith)) (λ b. inr (omega arith)) h)
    ∙ get_or-set_other l at j (x % 256) 0 (λ e. ⊎_elim (λ a. omega arith) (λ b. omega arith) h)

-- what was written is read
pub put_same : (w : ℕ) (l : List ℕ) (at x : ℕ) → x < 256 ^ w → at + w ≤ length l → field (put_field l at w x) at w ≡ x
unfolding field put_field
put_same zero l at x h k = omega (arith, pow-zero 256)
put_same (suc w) l at x h k =
    let l' : List ℕ = set l at (x % 256) in
    let b : get_or (put_field l' (at + 1) w (x / 256)) at 0 ≡ x % 256 =
    put_outside w l' (at + 1) (x / 256) at (inl (omega arith)) ∙ get_or-set_same l at (x % 256) 0 (omega arith) in
    let r : field (put_field l' (at + 1) w (x / 256)) (at + 1) w ≡ x / 256 =
    put_same w l' (at + 1) (x / 256) (omega (arith, pow-suc 256 w)) (omega (arith, length-set l at (x % 256))) in
    omega arith

-- a number that lies outside is read as before
pub field_kept : (l m : List ℕ) (a e : ℕ) → Outside l m a e → (w at : ℕ) → (at + w ≤ a) ⊎ (e ≤ at) → field m at w ≡ field l at w
unfolding field
field_kept l m a e o zero at h = refl
field_kept l m a e o (suc w) at h =
    ap₂ (λ (x y : ℕ). x + 256 * y)
    (o at (⊎_elim (λ p. inl (omega arith)) (λ q. inr (omega arith)) h))
    (field_kept l m a e o w (at + 1) (⊎_elim (λ p. inl (omega arith)) (λ q. inr (omega arith)) h))

-- a number of w bytes is below 256 ^ w
pub field_lt : (w : ℕ) (l : List ℕ) (at : ℕ) → Bytes l → field l at w < 256 ^ w
unfolding field
field_lt zero l at h = omega (arith, pow-zero 256)
field_lt (suc w) l at h = omega (arith, pow-suc 256 w, h at, field_lt w l (at + 1) h)

-- to write back what is there changes nothing
pub put_back : (w : ℕ) (l : List ℕ) (at : ℕ) → Bytes l → put_field l at w (field l at w) ≡ l
unfolding field put_field
put_back zero l at h = refl
put_back (suc w) l at h =
    let x : ℕ = get_or l at 0 + 256 * field l (at + 1) w in
    let m : x % 256 ≡ get_or l at 0 = omega (arith, h at) in
    let d : x / 256 ≡ field l (at + 1) w = omega (arith, h at) in
    ap₂ (λ (y z : ℕ). put_field (set l at y) (at + 1) w z) m d
    ∙ ap (λ (k : List ℕ). put_field k (at + 1) w (field l (at + 1) w)) (set-get_or l at 0)
    ∙ put_back w l (at + 1) h

-- an array of four is its four elements
pub quad_all : (l : List ℕ) → length l ≡ 4 → l ≡ quad l
quad_all (a ∷ b ∷ d ∷ e ∷ []) h = refl
quad_all [] h = absurd (omega arith)
quad_all (a ∷ []) h = absurd (omega arith)
quad_all (a ∷ b ∷ []) h = absurd (omega arith)
quad_all (a ∷ b ∷ d ∷ []) h = absurd (omega arith)
quad_all (a ∷ b ∷ d ∷ e ∷ f ∷ l) h = absurd (omega arith)

-- The laws of runs of numbers, over their widths. Assumes nothing.
use Prim.Native.Nat.{ℕ, zero, suc, ◌+◌, ◌*◌, ◌^◌, ◌≤◌, ◌<◌}
use mathlib.Core.Path.{◌≡◌, refl, ap, ap₂, ◌∙◌}
use mathlib.Core.Logic.{◌⊎◌, inl, inr, ⊎_elim}
use mathlib.Core.List.{List, [], ◌∷◌, ◌++◌}
use native.Mathlib.Nat.{add-zero, add_assoc}
use native.Mathlib.Omega.{arith}
use lib.ListN.{length, get_or, set, replicate}
use Rattle.fields.specs.Field.{field, put_field, fields_at, put_fields, total}
use Rattle.fields.proofs.Laws.{Outside, Bytes, length_put, put_outside, put_same, put_back, field_kept, field_lt}

-- each number has room in its width
abbrev pub Fit : List ℕ → List ℕ → Type 0
Fit [] [] = Unit {0}
Fit [] (x ∷ xs) = ⊥
Fit (w ∷ ws) [] = ⊥
Fit (w ∷ ws) (x ∷ xs) = (x < 256 ^ w) × Fit ws xs

pub length_puts : (ws xs l : List ℕ) (at : ℕ) → length (put_fields l at ws xs) ≡ length l
unfolding put_fields
length_puts [] xs l at = refl
length_puts (w ∷ ws) [] l at = refl
length_puts (w ∷ ws) (x ∷ xs) l at = length_puts ws xs (put_field l at w x) (at + w) ∙ length_put w l at x

-- nothing outside the run is touched
pub puts_outside : (ws xs l : List ℕ) (at : ℕ) → Outside l (put_fields l at ws xs) at (at + total ws)
unfolding put_fields
puts_outside [] xs l at j h = refl
puts_outside (w ∷ ws) [] l at j h = refl
puts_outside (w ∷ ws) (x ∷ xs) l at j h =
    puts_outside ws xs (put_field l at w x) (at + w) j (⊎_elim (λ p. inl (omega arith)) (λ q. inr (omega arith)) h)
    ∙ put_outside w l at x j (⊎_elim (λ p. inl (omega arith)) (λ q. inr (omega arith)) h)

-- a run that lies outside is read as before
pub fields_kept : (l m : List ℕ) (a e : ℕ) → Outside l m a e → (ws : List ℕ) (at : ℕ) → (at + total ws ≤ a) ⊎ (e ≤ at) → fields_at m at ws ≡ fields_at l at ws
unfolding fields_at
fields_kept l m a e o [] at h = refl
fields_kept l m a e o (w ∷ ws) at h =
    ap₂ (λ (y : ℕ) (ys : List ℕ). y ∷ ys)
    (field_kept l m a e o w at (⊎_elim (λ p. inl (omega arith)) (λ q. inr (omega arith)) h))
    (fields_kept l m a e o ws (at + w) (⊎_elim (λ p. inl (omega arith)) (λ q. inr (omega arith)) h))

-- what was written is read
pub puts_same : (ws xs l : List ℕ) (at : ℕ) → Fit ws xs → at + total ws ≤ length l → fields_at (put_fields l at ws xs) at ws ≡ xs
unfolding fields_at put_fields
puts_same [] [] l at f h = refl
puts_same [] (x ∷ xs) l at f h = elim f [ ]
puts_same (w ∷ ws) [] l at f h = elim f [ ]
puts_same (w ∷ ws) (x ∷ xs) l at f h =
    let l' : List ℕ = put_field l at w x in
    ap₂ (λ (y : ℕ) (ys : List ℕ). y ∷ ys)
    (field_kept l' (put_fields l' (at + w) ws xs) (at + w) (at + w + total ws) (puts_outside ws xs l' (at + w)) w at (inl (omega arith))
    ∙ put_same w l at x f.0 (omega arith))
    (puts_same ws xs l' (at + w) f.1 (omega (arith, length_put w l at x)))

-- to write back what is there changes nothing
pub puts_back : (ws l : List ℕ) (at : ℕ) → Bytes l → put_fields l at ws (fields_at l at ws) ≡ l
unfolding fields_at put_fields
puts_back [] l at h = refl
puts_back (w ∷ ws) l at h =
    ap (λ (k : List ℕ). put_fields k (at + w) ws (fields_at l (at + w) ws)) (put_back w l at h) ∙ puts_back ws l (at + w) h

-- what is read has room
pub fields_fit : (ws l : List ℕ) (at : ℕ) → Bytes l → Fit ws (fields_at l at ws)
unfolding fields_at
fields_fit [] l at h = tt
fields_fit (w ∷ ws) l at h = (field_lt w l at h, fields_fit ws l (at + w) h)

-- a run after a run
pub puts_append : (ws xs vs ys l : List ℕ) (at : ℕ) → length ws ≡ length xs
    → put_fields l at (ws ++ vs) (xs ++ ys) ≡ put_fields (put_fields l at ws xs) (at + total ws) vs ys
unfolding put_fields
puts_append [] [] vs ys l at h = rw add-zero
puts_append [] (x ∷ xs) vs ys l at h = absurd (omega arith)
puts_append (w ∷ ws) [] vs ys l at h = absurd (omega arith)
puts_append (w ∷ ws) (x ∷ xs) vs ys l at h =
    puts_append ws xs vs ys (put_field l at w x) (at + w) (omega arith)
    ∙ ap (λ (k : ℕ). put_fields (put_fields (put_field l at w x) (at + w) ws xs) k vs ys) (add_assoc at w (total ws))

-- ---- a table of n numbers of two bytes: its length, one of them, and the table with another number at a place
pub length_fields : (ws l : List ℕ) (at : ℕ) → length (fields_at l at ws) ≡ length ws
unfolding fields_at
length_fields [] l at = refl
length_fields (w ∷ ws) l at = ap suc (length_fields ws l (at + w))

pub table_at : (n : ℕ) (l : List ℕ) (at p : ℕ) → p < n → get_or (fields_at l at (replicate n 2)) p 0 ≡ field l (at + 2 * p) 2
unfolding fields_at
table_at zero l at p h = absurd (omega arith)
table_at (suc n) l at zero h = ap (λ (x : ℕ). field l x 2) (omega arith)
table_at (suc n) l at (suc p) h =
    let e : at + 2 + 2 * p ≡ at + 2 * suc p = omega arith in table_at n l (at + 2) p (omega arith) ∙ ap (λ (x : ℕ). field l x 2) e

pub total_twos : (n : ℕ) → total (replicate n 2) ≡ 2 * n
total_twos zero = refl
total_twos (suc n) = omega (arith, total_twos n)

pub table_set : (n : ℕ) (l : List ℕ) (at p v : ℕ) → p < n → v < 65536 → at + 2 * n ≤ length l
    → fields_at (put_field l (at + 2 * p) 2 v) at (replicate n 2) ≡ set (fields_at l at (replicate n 2)) p v
unfolding fields_at
table_set zero l at p v h k r = absurd (omega arith)
table_set (suc n) l at zero v h k r =
    let z : at + 2 * 0 ≡ at = omega arith in
    let o : Outside l (put_field l (at + 2 * 0) 2 v) at (at + 2) = rw z (put_outside 2 l at v) in
    ap₂ (λ (y : ℕ) (ys : List ℕ). y ∷ ys)
    (ap (λ (x : ℕ). field (put_field l x 2 v) at 2) z ∙ put_same 2 l at v k (omega arith))
    (fields_kept l (put_field l (at + 2 * 0) 2 v) at (at + 2) o (replicate n 2) (at + 2) (inr (omega arith)))
table_set (suc n) l at (suc p) v h k r =
    let e : at + 2 * suc p ≡ at + 2 + 2 * p = omega arith in
    let m : List ℕ = put_field l (at + 2 * suc p) 2 v in
    ap₂ (λ (y : ℕ) (ys : List ℕ). y ∷ ys)
    (field_kept l m (at + 2 * suc p) (at + 2 * suc p + 2) (put_outside 2 l (at + 2 * suc p) v) 2 at (inl (omega arith)))
    (ap (λ (x : ℕ). fields_at (put_field l x 2 v) (at + 2) (replicate n 2)) e ∙ table_set n l (at + 2) p v (omega arith) k (omega arith))

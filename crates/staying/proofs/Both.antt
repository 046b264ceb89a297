-- A byte of two images after the same is written in both. Assumes nothing.
use Prim.Native.Nat.{ℕ, zero, suc, ◌+◌, ◌/◌, ◌%◌, ◌≤◌, ◌<◌}
use mathlib.Core.Path.{◌≡◌, refl, sym, subst}
use mathlib.Core.Logic.{◌⊎◌, inl, inr, ⊎_elim}
use mathlib.Core.Bool.{Bool, true, false}
use mathlib.Core.List.{List, [], ◌∷◌}
use native.Mathlib.Omega.{arith}
use borrow.Author.Tests.{eqb-true, eqb-false, ltb-true, ltb-false}
use lib.Dec.{eqb, ltb}
use lib.ListN.{length, get_or, set, length-set}
use Rattle.fields.specs.Field.{put_field, put_fields, total}
use Rattle.fields.proofs.Laws.{length_put}

-- ---- the byte j after the same is written in both
set_both : (l m : List ℕ) (at v j : ℕ) → length m ≡ length l → get_or m j 0 ≡ get_or l j 0 → get_or (set m at v) j 0 ≡ get_or (set l at v) j 0
set_both [] [] at v j z h = h
set_both [] (y ∷ m) at v j z h = absurd (omega arith)
set_both (x ∷ l) [] at v j z h = absurd (omega arith)
set_both (x ∷ l) (y ∷ m) zero v zero z h = refl
set_both (x ∷ l) (y ∷ m) zero v (suc j) z h = h
set_both (x ∷ l) (y ∷ m) (suc at) v zero z h = h
set_both (x ∷ l) (y ∷ m) (suc at) v (suc j) z h = set_both l m at v j (omega arith) h

set_made : (l m : List ℕ) (at v : ℕ) → length m ≡ length l → get_or (set m at v) at 0 ≡ get_or (set l at v) at 0
set_made [] [] at v z = refl
set_made [] (y ∷ m) at v z = absurd (omega arith)
set_made (x ∷ l) [] at v z = absurd (omega arith)
set_made (x ∷ l) (y ∷ m) zero v z = refl
set_made (x ∷ l) (y ∷ m) (suc at) v z = set_made l m at v (omega arith)

-- it is one of those written, or it was the same
abbrev pub Both : List ℕ → List ℕ → ℕ → ℕ → ℕ → Type 0
Both l m at w j = ((at ≤ j) × (j < at + w)) ⊎ (get_or m j 0 ≡ get_or l j 0)

pub put_both : (w : ℕ) (l m : List ℕ) (at x j : ℕ) → length m ≡ length l → Both l m at w j → get_or (put_field m at w x) j 0 ≡ get_or (put_field l at w x) j 0
unfolding put_field
put_both zero l m at x j z h = ⊎_elim (λ p. absurd (omega (arith, p.0, p.1))) (λ q. q) h
put_both (suc w) l m at x j z h =
    put_both w (set l at (x % 256)) (set m at (x % 256)) (at + 1) (x / 256) j (omega (arith, length-set l at (x % 256), length-set m at (x % 256)))
    (⊎_elim (λ p. go p (eqb j at) refl) (λ q. inr (set_both l m at (x % 256) j z q)) h)
  where
    go : (at ≤ j) × (j < at + suc w) → (b : Bool) → eqb j at ≡ b → Both (set l at (x % 256)) (set m at (x % 256)) (at + 1) w j
    go p true e =
        let d : at ≡ j = sym (eqb-true j at e) in
        inr (subst (λ (k : ℕ). get_or (set m at (x % 256)) k 0 ≡ get_or (set l at (x % 256)) k 0) d (set_made l m at (x % 256) z))
    go p false e = inl (omega (arith, p.0, eqb-false j at e), omega (arith, p.1))

-- a whole run, or what was the same
abbrev pub Boths : List ℕ → List ℕ → List ℕ → List ℕ → ℕ → ℕ → Type 0
Boths ws xs l m at j = ((length ws ≡ length xs) × ((at ≤ j) × (j < at + total ws))) ⊎ (get_or m j 0 ≡ get_or l j 0)

pub puts_both : (ws xs l m : List ℕ) (at j : ℕ) → length m ≡ length l → Boths ws xs l m at j → get_or (put_fields m at ws xs) j 0 ≡ get_or (put_fields l at ws xs) j 0
unfolding put_fields
puts_both [] xs l m at j z h = ⊎_elim (λ p. absurd (omega (arith, p.1.0, p.1.1))) (λ q. q) h
puts_both (w ∷ ws) [] l m at j z h = ⊎_elim (λ p. absurd (omega (arith, p.0))) (λ q. q) h
puts_both (w ∷ ws) (x ∷ xs) l m at j z h =
    puts_both ws xs (put_field l at w x) (put_field m at w x) (at + w) j (omega (arith, length_put w l at x, length_put w m at x))
    (⊎_elim (λ p. go p (ltb j (at + w)) refl) (λ q. inr (put_both w l m at x j z (inr q))) h)
  where
    go : (length (w ∷ ws) ≡ length (x ∷ xs)) × ((at ≤ j) × (j < at + total (w ∷ ws))) → (b : Bool) → ltb j (at + w) ≡ b
        → Boths ws xs (put_field l at w x) (put_field m at w x) (at + w) j
    go p true e = inr (put_both w l m at x j z (inl (p.1.0, ltb-true j (at + w) e)))
    go p false e = inl (omega (arith, p.0), (ltb-false j (at + w) e, omega (arith, p.1.1)))

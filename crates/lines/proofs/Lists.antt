-- Laws on the elements of a list. Assumes nothing.
use Prim.Native.Nat.{ℕ, zero, suc, ◌+◌, ◌<◌}
use mathlib.Core.Path.{◌≡◌, refl, ap, ◌∙◌}
use mathlib.Core.List.{List, [], ◌∷◌, foldl, foldl-append}
use native.Mathlib.Numerals.{add-one}
use native.Mathlib.Omega.{arith}
use lib.ListN.{length, get_or, take}
use lib.Seq.{take-suc}

-- within the list what stands past its end does not matter
pub get_d_any : (l : List ℕ) (i d e : ℕ) → i < length l → get_or l i d ≡ get_or l i e
get_d_any [] i d e h = absurd (omega arith)
get_d_any (x ∷ l) zero d e h = refl
get_d_any (x ∷ l) (suc i) d e h = get_d_any l i d e (omega arith)

-- a fold over one element more
pub fold_more : {S : Type 0} (f : S → ℕ → S) (s : S) (l : List ℕ) (i : ℕ) → i < length l → foldl f s (take (i + 1) l) ≡ f (foldl f s (take i l)) (get_or l i 0)
fold_more f s l i h =
    ap (foldl f s) (ap (λ (k : ℕ). take k l) (add-one i) ∙ take-suc l i 0 h) ∙ foldl-append f s (take i l) (get_or l i 0 ∷ [])

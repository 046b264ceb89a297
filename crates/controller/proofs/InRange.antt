-- What `all` answers over a range: whether a test holds of each number from b + 1 to n. Assumes nothing.
use Prim.Native.Nat.{ℕ, zero, suc, ◌+◌, ◌-◌, ◌≤◌}
use mathlib.Core.Path.{◌≡◌, ap, ap₂, sym, ◌∙◌}
use mathlib.Core.Bool.{Bool, ◌&&◌}
use native.Mathlib.Omega.{arith}
use Rattle.std.specs.List.{list_all, range_with_len}
use Rattle.image.specs.Formed.{all_up_to, all_kept}
use Rattle.image.proofs.UpTo.{kept_none, kept_split}

one_kept : (p : ℕ → Bool) (b : ℕ) → all_kept p b (b + 1) ≡ p (b + 1)
unfolding all_kept all_up_to
one_kept p b = let z : b + 1 - b ≡ 1 = omega arith in ap (all_up_to (λ j. p (b + j))) z

runs_kept : (p : ℕ → Bool) (b k : ℕ) → list_all (λ i. p (i + 1)) (range_with_len b k) ≡ all_kept p b (b + k)
runs_kept p b zero = let z : b + 0 ≡ b = omega arith in sym (ap (all_kept p b) z ∙ kept_none p b)
runs_kept p b (suc k) =
    let z : b + 1 + k ≡ b + suc k = omega arith in
    ap₂ ◌&&◌ (sym (one_kept p b)) (runs_kept p (b + 1) k ∙ ap (all_kept p (b + 1)) z) ∙ sym (kept_split p b (b + 1) (b + suc k) (omega arith) (omega arith))

pub range_kept : (p : ℕ → Bool) (b n : ℕ) → b ≤ n → list_all (λ i. p (i + 1)) (range_with_len b (n - b)) ≡ all_kept p b n
range_kept p b n h = let z : b + (n - b) ≡ n = omega arith in runs_kept p b (n - b) ∙ ap (all_kept p b) z

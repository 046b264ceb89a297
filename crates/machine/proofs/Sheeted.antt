-- The handover sheet (order 11): each kept transaction is counted once, the mask has a one at the bit of each path that differs and
-- nowhere else, and the totals are what the logs keep. Assumes nothing.
use Prim.Native.Nat.{ℕ, zero, suc, ◌+◌, ◌-◌, ◌*◌, ◌/◌, ◌%◌, ◌^◌, ◌≤◌, ◌<◌}
use mathlib.Core.Path.{◌≡◌, refl, sym, ap, ◌∙◌, subst}
use mathlib.Core.Bool.{Bool, true, false, not, ◌||◌, cond}
use mathlib.Core.List.{List, [], ◌∷◌, ◌++◌}
use native.Mathlib.Nat.{pow-suc, add-zero, mul_comm, one-mul, add-mul-div_right, div-eq_of_lt}
use native.Mathlib.Omega.{arith}
use borrow.Author.Tests.{ltb-true, ltb-false}
use lib.Count.{ones, ones_in, ones_cat}
use lib.Dec.{eqb, ltb}
use lib.ListN.{length}
use lib.Pow.{pow_pos, pow-add}
use Rattle.kinds.specs.declared.Transaction.{Transaction}
use Rattle.kinds.specs.declared.Status.TheVariants.{None, Complete, Aborted, Canceled, Failed}
use Rattle.machine.specs.State.{State}
use Rattle.machine.specs.Why.{is}
use Rattle.machine.specs.Class.{class_by, class_of}
use Rattle.machine.specs.Differ.{differs_at, differ}
use Rattle.machine.proofs.Kept.{formed}
use Rattle.machine.specs.Sheet.{counted, counts, mask_to, row_of, Met, refused, met, none, added, totals_from, totals, together, kept_in, InOneClass, Masks, Totals, AllFormed, Fits}

-- ---- the classes
-- what one transaction adds to each count
abbrev pub adding : ℕ → List ℕ
adding k =
    cond (eqb k 1) 1 0 ∷ cond (eqb k 2) 1 0 ∷ cond (eqb k 3) 1 0 ∷ cond (eqb k 4) 1 0 ∷ cond (eqb k 5) 1 0 ∷ cond (eqb k 6) 1 0 ∷ []

pub class_low : (t : Transaction) → (1 ≤ class_of t) × (class_of t ≤ 6)
unfolding class_by
class_low t =
    go (is t.rollback.apply Complete || is t.rollback.apply Canceled) (not (is t.rollback.commit None)) (is t.change.apply Complete)
    (is t.change.commit Failed) (is t.change.apply Aborted || is t.change.apply Failed)
  where
    go : (a b c d e : Bool) → (1 ≤ cond a 6 (cond b 5 (cond c 4 (cond d 3 (cond e 2 1))))) × (cond a 6 (cond b 5 (cond c 4 (cond d 3 (cond e 2 1)))) ≤ 6)
    go true b c d e = (omega arith, omega arith)
    go false true c d e = (omega arith, omega arith)
    go false false true d e = (omega arith, omega arith)
    go false false false true e = (omega arith, omega arith)
    go false false false false true = (omega arith, omega arith)
    go false false false false false = (omega arith, omega arith)

one_class : (t : Transaction) → together (adding (class_of t)) ≡ 1
unfolding class_by
one_class t =
    go (is t.rollback.apply Complete || is t.rollback.apply Canceled) (not (is t.rollback.commit None)) (is t.change.apply Complete)
    (is t.change.commit Failed) (is t.change.apply Aborted || is t.change.apply Failed)
  where
    go : (a b c d e : Bool) → together (adding (cond a 6 (cond b 5 (cond c 4 (cond d 3 (cond e 2 1)))))) ≡ 1
    go true b c d e = refl
    go false true c d e = refl
    go false false true d e = refl
    go false false false true e = refl
    go false false false false true = refl
    go false false false false false = refl

pub counts_all : (ts : List Transaction) → together (counts ts) ≡ length ts
unfolding counted
counts_all [] = refl
counts_all (t ∷ ts) = omega (arith, one_class t, counts_all ts)

-- one more at the end
pub counted_more : (c : ℕ) (ts : List Transaction) (t : Transaction) → counted c (ts ++ (t ∷ [])) ≡ counted c ts + cond (eqb (class_of t) c) 1 0
unfolding counted
counted_more c [] t = omega arith
counted_more c (x ∷ ts) t = omega (arith, counted_more c ts t)

pub counted_few : (c : ℕ) (ts : List Transaction) → counted c ts ≤ length ts
unfolding counted
counted_few c [] = omega arith
counted_few c (t ∷ ts) = go (eqb (class_of t) c) (counted_few c ts)
  where
    go : (b : Bool) → counted c ts ≤ length ts → cond b 1 0 + counted c ts ≤ suc (length ts)
    go true h = omega arith
    go false h = omega arith

pub in_one_class : (s : State) → InOneClass s
unfolding row_of
in_one_class s = counts_all s.log.entries

-- ---- the mask
module _ (vs ws : List ℕ) where
  pub mask_low : (k : ℕ) → mask_to k vs ws < 2 ^ k
  unfolding mask_to
  mask_low zero = omega arith
  mask_low (suc k) = go (differs_at vs ws k) (mask_low k)
    where
      go : (b : Bool) → mask_to k vs ws < 2 ^ k → mask_to k vs ws + cond b (2 ^ k) 0 < 2 ^ suc k
      go true h = omega (arith, pow-suc 2 k)
      go false h = omega (arith, pow-suc 2 k)

  ones_one : ones 1 ≡ 1
  unfolding ones ones_in
  ones_one = refl

  ones_none : ones 0 ≡ 0
  unfolding ones ones_in
  ones_none = refl

  pub mask_ones : (k : ℕ) → ones (mask_to k vs ws) ≡ differ k vs ws
  unfolding mask_to differ
  mask_ones zero = ones_none
  mask_ones (suc k) = go (differs_at vs ws k) (mask_ones k)
    where
      go : (b : Bool) → ones (mask_to k vs ws) ≡ differ k vs ws → ones (mask_to k vs ws + cond b (2 ^ k) 0) ≡ differ k vs ws + cond b 1 0
      go true e =
          let z : mask_to k vs ws + 2 ^ k ≡ 1 * 2 ^ k + mask_to k vs ws = omega (arith, one-mul (2 ^ k)) in
          ap ones z ∙ ones_cat k 1 (mask_to k vs ws) (mask_low k) ∙ omega (arith, ones_one, e)
      go false e = ap ones (add-zero _) ∙ e ∙ sym (add-zero _)

  pub differ_few : (k : ℕ) → differ k vs ws ≤ k
  unfolding differ
  differ_few zero = omega arith
  differ_few (suc k) = go (differs_at vs ws k) (differ_few k)
    where
      go : (b : Bool) → differ k vs ws ≤ k → differ k vs ws + cond b 1 0 ≤ suc k
      go true h = omega arith
      go false h = omega arith

  -- a bit below the top one, and the top one
  below : (m p j : ℕ) (b : Bool) → (m + cond b (2 ^ (p + suc j)) 0) / 2 ^ p % 2 ≡ m / 2 ^ p % 2
  below m p j false = ap (λ (x : ℕ). x / 2 ^ p % 2) (add-zero m)
  below m p j true =
      let y : ℕ = 2 ^ j * 2 in
      let z : 2 ^ (p + suc j) ≡ y * 2 ^ p = pow-add 2 p (suc j) ∙ mul_comm (2 ^ p) (2 ^ suc j) ∙ ap (λ (x : ℕ). x * 2 ^ p) (pow-suc 2 j) in
      let e : (m + 2 ^ (p + suc j)) / 2 ^ p ≡ m / 2 ^ p + y = ap (λ (x : ℕ). (m + x) / 2 ^ p) z ∙ add-mul-div_right m y (pow_pos p) in
      ap (λ (x : ℕ). x % 2) e ∙ omega arith

  top : (m k : ℕ) (b : Bool) → m < 2 ^ k → (m + cond b (2 ^ k) 0) / 2 ^ k % 2 ≡ cond b 1 0
  top m k false h = ap (λ (x : ℕ). x % 2) (ap (λ (x : ℕ). x / 2 ^ k) (add-zero m) ∙ div-eq_of_lt h)
  top m k true h =
      let z : m + 2 ^ k ≡ m + 1 * 2 ^ k = ap (λ (x : ℕ). m + x) (sym (one-mul (2 ^ k))) in
      let e : (m + 2 ^ k) / 2 ^ k ≡ m / 2 ^ k + 1 = ap (λ (x : ℕ). x / 2 ^ k) z ∙ add-mul-div_right m 1 (pow_pos k) in
      ap (λ (x : ℕ). x % 2) (e ∙ ap (λ (x : ℕ). x + 1) (div-eq_of_lt h))

  pub mask_bit : (k p : ℕ) → p < k → mask_to k vs ws / 2 ^ p % 2 ≡ cond (differs_at vs ws p) 1 0
  unfolding mask_to
  mask_bit zero p h = absurd (omega arith)
  mask_bit (suc k) p h = go (mask_bit k p) (ltb p k) refl
    where
      go : (p < k → mask_to k vs ws / 2 ^ p % 2 ≡ cond (differs_at vs ws p) 1 0) → (b : Bool) → ltb p k ≡ b
          → (mask_to k vs ws + cond (differs_at vs ws k) (2 ^ k) 0) / 2 ^ p % 2 ≡ cond (differs_at vs ws p) 1 0
      go r true e =
          let l : p < k = ltb-true p k e in
          let z : k ≡ p + suc (k - p - 1) = omega arith in
          ap (λ (x : ℕ). (mask_to k vs ws + cond (differs_at vs ws k) (2 ^ x) 0) / 2 ^ p % 2) z
          ∙ below (mask_to k vs ws) p (k - p - 1) (differs_at vs ws k) ∙ r l
      go r false e =
          let z : p ≡ k = omega (arith, ltb-false p k e) in
          subst (λ (x : ℕ). (mask_to k vs ws + cond (differs_at vs ws k) (2 ^ k) 0) / 2 ^ x % 2 ≡ cond (differs_at vs ws x) 1 0) (sym z)
          (top (mask_to k vs ws) k (differs_at vs ws k) (mask_low k))

pub masks : (s : State) → Masks s
unfolding row_of
masks s =
    let vs = s.committed.values in
    let ws = s.applied.values in
    record { bits = mask_bit vs ws 32; low = mask_low vs ws 32; ones = mask_ones vs ws 32; drift = differ_few vs ws 32 }

-- ---- the totals
pub together_added : (xs ys : List ℕ) → length ys ≤ length xs → together (added xs ys) ≡ together xs + together ys
together_added [] [] h = refl
together_added [] (y ∷ ys) h = absurd (omega arith)
together_added (x ∷ xs) [] h = sym (add-zero _)
together_added (x ∷ xs) (y ∷ ys) h = omega (arith, together_added xs ys (omega arith))

pub length_added : (xs ys : List ℕ) → length (added xs ys) ≡ length xs
length_added [] ys = refl
length_added (x ∷ xs) [] = refl
length_added (x ∷ xs) (y ∷ ys) = ap suc (length_added xs ys)

pub six_counts : (s : State) → length (row_of s).counts ≡ 6
unfolding row_of
six_counts s = refl

pub totals_come : (ts : List ℕ) (xs : List Met) → length ts ≡ 6 → together (totals_from ts xs) ≡ together ts + kept_in xs
unfolding totals_from kept_in
totals_come ts [] h = sym (add-zero _)
totals_come ts (refused ∷ xs) h = totals_come ts xs h
totals_come ts (met s ∷ xs) h =
    let e : together (added ts (row_of s).counts) ≡ together ts + length s.log.entries =
    together_added ts (row_of s).counts (omega (arith, h, six_counts s)) ∙ ap (λ (x : ℕ). together ts + x) (in_one_class s) in
    totals_come (added ts (row_of s).counts) xs (length_added ts (row_of s).counts ∙ h) ∙ omega (arith, e)

pub totals_together : (xs : List Met) → Totals xs
totals_together xs = omega (arith, totals_come none xs refl)

-- logs that are well-formed keep 128 each at most
pub kept_few : (xs : List Met) → AllFormed xs → kept_in xs ≤ 128 * length xs
unfolding kept_in AllFormed
kept_few [] w = omega arith
kept_few (refused ∷ xs) w = omega (arith, kept_few xs w)
kept_few (met s ∷ xs) w = omega (arith, (formed s w.0).log.size, kept_few xs w.1)

pub totals_fit : (xs : List Met) → Fits xs
totals_fit xs w = omega (arith, totals_together xs, kept_few xs w)

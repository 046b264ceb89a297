-- Order 7, the sizes of owners: those of a table are at most a number where each path's is, and stay so where such ones are laid
-- over them; the four that a change remembers are below its own number. Assumes nothing.
use Prim.Native.Nat.{ℕ, zero, suc, ◌≤◌, ◌<◌}
use native.Mathlib.Omega.{arith}
use mathlib.Core.List.{List, [], ◌∷◌}
use mathlib.Core.Bool.{Bool, true, false, ◌&&◌}
use mathlib.Core.Path.{◌≡◌, refl}
use lib.Dec.{ltb, leb}
use lib.ListN.{get_or}
use borrow.Author.Tests.{leb-true, ltb-true, le-leb, lt-ltb}
use Rattle.kinds.specs.declared.Transaction.{Transaction}
use Rattle.machine.specs.State.{in_each}
use Rattle.machine.specs.WellFormed.{recalls_ok, all_at_most}
use Rattle.machine.specs.Laid.{laying, over}
use Rattle.machine.specs.Calls.{present_one, present}
use Rattle.machine.proofs.Cases.{and_left, and_right}
use Rattle.machine.proofs.Entries.{set_all, and_both}

-- every path's is at most n; a path past the table has none, which reads 0
abbrev pub Most : ℕ → List ℕ → Type 0
Most n ks = (p : ℕ) → get_or ks p 0 ≤ n

pub most_true : (n : ℕ) (ks : List ℕ) → all_at_most n ks ≡ true → Most n ks
unfolding all_at_most
most_true n [] e p = omega arith
most_true n (k ∷ ks) e zero = leb-true k n (and_left (leb k n) _ e)
most_true n (k ∷ ks) e (suc p) = most_true n ks (and_right (leb k n) _ e) p

pub true_most : (n : ℕ) (ks : List ℕ) → Most n ks → all_at_most n ks ≡ true
unfolding all_at_most
true_most n [] f = refl
true_most n (k ∷ ks) f = and_both (leb k n) _ (le-leb k n (f zero)) (true_most n ks (λ p. f (suc p)))

-- ---- the four that a change remembers
pub record Recalls (i : ℕ) (os : List ℕ) : Type 0 where
  pub first : get_or os 0 0 < i
  pub second : get_or os 1 0 < i
  pub third : get_or os 2 0 < i
  pub fourth : get_or os 3 0 < i

pub recalls_true : (i : ℕ) (os : List ℕ) → recalls_ok i os ≡ true → Recalls i os
recalls_true i os e =
    let a = ltb (get_or os 0 0) i in
    let b = ltb (get_or os 1 0) i in
    let c = ltb (get_or os 2 0) i in
    let d = ltb (get_or os 3 0) i in
    let x : (a && b) ≡ true = and_left (a && b) (c && d) e in
    let y : (c && d) ≡ true = and_right (a && b) (c && d) e in
    record {
      first = ltb-true _ _ (and_left a b x);
      second = ltb-true _ _ (and_right a b x);
      third = ltb-true _ _ (and_left c d y);
      fourth = ltb-true _ _ (and_right c d y);
    }

pub true_recalls : (i : ℕ) (os : List ℕ) → Recalls i os → recalls_ok i os ≡ true
true_recalls i os r =
    and_both _ _ (and_both _ _ (lt-ltb _ _ r.first) (lt-ltb _ _ r.second)) (and_both _ _ (lt-ltb _ _ r.third) (lt-ltb _ _ r.fourth))

-- such as are below are at most
pub most_recalls : (n i : ℕ) (os : List ℕ) → n < i → Most n os → Recalls i os
most_recalls n i os b f = record { first = omega (arith, f 0); second = omega (arith, f 1); third = omega (arith, f 2); fourth = omega (arith, f 3) }

-- ---- laid over a table
module _ (n : ℕ) where
  most_laying : (b : Bool) (l : List ℕ) (p v : ℕ) → Most n l → v ≤ n → Most n (laying b l p v)
  most_laying true l p v f h = set_all (λ q k. k ≤ n) l p v 0 f h
  most_laying false l p v f h = f

  over_most : (ps vs : List ℕ) (m : ℕ) (l : List ℕ) → Recalls (suc n) vs → Most n l → Most n (over ps vs m l)
  unfolding over
  over_most ps vs m l r f =
      most_laying (ltb 3 m) _ (get_or ps 3 0) (get_or vs 3 0)
      (most_laying (ltb 2 m) _ (get_or ps 2 0) (get_or vs 2 0)
      (most_laying (ltb 1 m) _ (get_or ps 1 0) (get_or vs 1 0)
      (most_laying (ltb 0 m) _ (get_or ps 0 0) (get_or vs 0 0) f (omega (arith, r.first)))
      (omega (arith, r.second)))
      (omega (arith, r.third)))
      (omega (arith, r.fourth))

-- a change's own number over those at most it
pub most_set : (i : ℕ) (ps : List ℕ) (m : ℕ) (l : List ℕ) → Most i l → Most i (over ps (in_each i) m l)
most_set i ps m l f =
    over_most i ps (in_each i) m l (record { first = omega arith; second = omega arith; third = omega arith; fourth = omega arith }) f

-- those that a change remembers, over any at most a number that its own is at most
pub most_back : (i n : ℕ) (ps os : List ℕ) (m : ℕ) (l : List ℕ) → i ≤ n → Recalls i os → Most n l → Most n (over ps os m l)
most_back i n ps os m l b r f =
    over_most n ps os m l
    (record { first = omega (arith, r.first); second = omega (arith, r.second); third = omega (arith, r.third); fourth = omega (arith, r.fourth) }) f

-- ---- the present ones at a change's paths
most_one : (n : ℕ) (l : List ℕ) → Most n l → (b : Bool) (p : ℕ) → present_one b l p ≤ n
most_one n l f true p = f p
most_one n l f false p = omega arith

pub most_present : (n : ℕ) (l : List ℕ) (t : Transaction) → Most n l → Most n (present l t)
unfolding present
most_present n l t f zero = most_one n l f (ltb 0 t.count) (get_or t.paths 0 0)
most_present n l t f (suc zero) = most_one n l f (ltb 1 t.count) (get_or t.paths 1 0)
most_present n l t f (suc (suc zero)) = most_one n l f (ltb 2 t.count) (get_or t.paths 2 0)
most_present n l t f (suc (suc (suc zero))) = most_one n l f (ltb 3 t.count) (get_or t.paths 3 0)
most_present n l t f (suc (suc (suc (suc p)))) = omega arith

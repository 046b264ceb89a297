-- The lent pairs: what the code reads of the bytes is what the definition makes of them. Assumes nothing.
use Prim.Native.Nat.{ℕ, zero, suc, ◌+◌, ◌*◌, ◌/◌, ◌%◌, ◌≤◌, ◌<◌}
use mathlib.Core.Path.{◌≡◌, refl, ap, ap₂, sym, ◌∙◌}
use mathlib.Core.Bool.{Bool, true, false, ◌&&◌, ◌||◌, and-true, and-false}
use mathlib.Core.List.{List, [], ◌∷◌, map}
use native.Mathlib.Omega.{arith}
use borrow.Author.Tests.{eqb-true, leb-true, ltb-true, ltb-false, eq-eqb, lt-leb, lt-ltb, le-ltb}
use lib.Dec.{eqb, leb, ltb}
use lib.ListN.{length, get_or, get_or-eq_default}
use Rattle.kinds.specs.declared.Transaction.{Transaction}
use Rattle.kinds.specs.declared.Number.{Number}
use Rattle.kinds.specs.declared.Ordinal.{Ordinal}
use Rattle.kinds.specs.declared.Status.TheVariants.{None, Pending}
use Rattle.kinds.specs.Numbers.{num, ord}
use Rattle.machine.specs.WellFormed.{pairs_ok}
use Rattle.machine.specs.Calls.{path_of, value_of, values_ok, valid_change, appended}
use Rattle.image.proofs.UpTo.{and_left, and_right}
use Rattle.controller.specs.Bytes.{AllBytes, two, pairs_of, pairs_if, paths_in, valid_bytes}

-- ---- m pairs in 4 m bytes
skip : (a x y z : ℕ) (l : List ℕ) (i j : ℕ) → i ≡ suc (suc (suc (suc j))) → two (a ∷ x ∷ y ∷ z ∷ l) i ≡ two l j
skip a x y z l i j e =
    let f : i + 1 ≡ suc (suc (suc (suc (j + 1)))) = omega arith in
    ap₂ (λ (u v : ℕ). get_or (a ∷ x ∷ y ∷ z ∷ l) u 0 + 256 * get_or (a ∷ x ∷ y ∷ z ∷ l) v 0) e f

pub pair_count : (m : ℕ) (b : List ℕ) → length b ≡ 4 * m → length (pairs_of b) ≡ m
unfolding pairs_of
pair_count zero [] h = refl
pair_count (suc m) (a ∷ x ∷ y ∷ z ∷ l) h = ap suc (pair_count m l (omega arith))
pair_count zero (a ∷ l) h = absurd (omega arith)
pair_count (suc m) [] h = absurd (omega arith)
pair_count (suc m) (a ∷ []) h = absurd (omega arith)
pair_count (suc m) (a ∷ x ∷ []) h = absurd (omega arith)
pair_count (suc m) (a ∷ x ∷ y ∷ []) h = absurd (omega arith)

pub pair_paths : (m : ℕ) (b : List ℕ) → length b ≡ 4 * m → (k : ℕ) → get_or (map path_of (pairs_of b)) k 0 ≡ two b (4 * k)
unfolding pairs_of
pair_paths zero [] h k = refl
pair_paths (suc m) (a ∷ x ∷ y ∷ z ∷ l) h zero = refl
pair_paths (suc m) (a ∷ x ∷ y ∷ z ∷ l) h (suc k) = pair_paths m l (omega arith) k ∙ sym (skip a x y z l (4 * suc k) (4 * k) (omega arith))
pair_paths zero (a ∷ l) h k = absurd (omega arith)
pair_paths (suc m) [] h k = absurd (omega arith)
pair_paths (suc m) (a ∷ []) h k = absurd (omega arith)
pair_paths (suc m) (a ∷ x ∷ []) h k = absurd (omega arith)
pair_paths (suc m) (a ∷ x ∷ y ∷ []) h k = absurd (omega arith)

pub pair_values : (m : ℕ) (b : List ℕ) → length b ≡ 4 * m → (k : ℕ) → get_or (map value_of (pairs_of b)) k 0 ≡ two b (4 * k + 2)
unfolding pairs_of
pair_values zero [] h k = refl
pair_values (suc m) (a ∷ x ∷ y ∷ z ∷ l) h zero = refl
pair_values (suc m) (a ∷ x ∷ y ∷ z ∷ l) h (suc k) = pair_values m l (omega arith) k ∙ sym (skip a x y z l (4 * suc k + 2) (4 * k + 2) (omega arith))
pair_values zero (a ∷ l) h k = absurd (omega arith)
pair_values (suc m) [] h k = absurd (omega arith)
pair_values (suc m) (a ∷ []) h k = absurd (omega arith)
pair_values (suc m) (a ∷ x ∷ []) h k = absurd (omega arith)
pair_values (suc m) (a ∷ x ∷ y ∷ []) h k = absurd (omega arith)

pub values_small : (b : List ℕ) → AllBytes b → values_ok (pairs_of b) ≡ true
unfolding pairs_of values_ok
values_small [] h = refl
values_small (a ∷ []) h = refl
values_small (a ∷ x ∷ []) h = refl
values_small (a ∷ x ∷ y ∷ []) h = refl
values_small (a ∷ x ∷ y ∷ z ∷ l) h =
    let u : y + 256 * z < 65536 = omega (arith, h 2, h 3) in
    rw (lt-ltb (y + 256 * z) 65536 u) (values_small l (λ i. h (suc (suc (suc (suc i))))))

-- ---- valid
-- the test of paths looks only at the first four
same_paths : (n : ℕ) (p q : List ℕ) → get_or p 0 0 ≡ get_or q 0 0 → get_or p 1 0 ≡ get_or q 1 0 → get_or p 2 0 ≡ get_or q 2 0 → get_or p 3 0 ≡ get_or q 3 0 → pairs_ok n p ≡ pairs_ok n q
unfolding pairs_ok
same_paths n p q a b d e = rw (a, b, d, e)

module _ (b : List ℕ) (m : ℕ) (h : length b ≡ 4 * m) where
  quarter : length b / 4 ≡ m
  quarter = omega arith

  whole : length b % 4 ≡ 0
  whole = omega arith

  paths_same : pairs_ok (length (pairs_of b)) (map path_of (pairs_of b)) ≡ pairs_ok (length b / 4) (paths_in b)
  paths_same =
      let p = pair_paths m b h in
      ap₂ pairs_ok (pair_count m b h ∙ sym quarter) refl ∙ same_paths (length b / 4) (map path_of (pairs_of b)) (paths_in b) (p 0) (p 1) (p 2) (p 3)

  pub valid_pairs : AllBytes b → valid_change (pairs_of b) ≡ valid_bytes b
  unfolding valid_bytes
  valid_pairs y =
      ap₂ (λ (u v : Bool). u && v) paths_same (values_small b y) ∙ and-true _ ∙ sym (ap (λ (u : Bool). u && pairs_ok (length b / 4) (paths_in b)) (eq-eqb _ _ whole))

no_pairs : valid_change [] ≡ false
unfolding pairs_ok
no_pairs = refl

-- the change that the bytes stand for is valid where the code says so
pub valid_change_holds : (b : List ℕ) → AllBytes b → valid_change (pairs_if (eqb (length b % 4) 0) (pairs_of b)) ≡ valid_bytes b
unfolding valid_bytes
valid_change_holds b y = go (eqb (length b % 4) 0) refl
  where
    go : (x : Bool) → eqb (length b % 4) 0 ≡ x → valid_change (pairs_if x (pairs_of b)) ≡ valid_bytes b
    go true e = valid_pairs b (length b / 4) (omega (arith, eqb-true (length b % 4) 0 e)) y
    go false e = no_pairs ∙ sym (ap (λ (u : Bool). u && pairs_ok (length b / 4) (paths_in b)) e)

pub whole_pairs : (b : List ℕ) → valid_bytes b ≡ true → pairs_if (eqb (length b % 4) 0) (pairs_of b) ≡ pairs_of b
unfolding valid_bytes
whole_pairs b v = ap (λ (x : Bool). pairs_if x (pairs_of b)) (and_left (eqb (length b % 4) 0) (pairs_ok (length b / 4) (paths_in b)) v)

-- ---- the code's answers
pub too_many : (b : List ℕ) → 16 < length b → false ≡ valid_bytes b
unfolding valid_bytes pairs_ok
too_many b h = sym (go (eqb (length b % 4) 0) refl)
  where
    go : (x : Bool) → eqb (length b % 4) 0 ≡ x → valid_bytes b ≡ false
    go false e = rw e
    go true e = let z : 4 < length b / 4 = omega (arith, eqb-true (length b % 4) 0 e) in rw (lt-leb _ _ z, and-false (leb 1 (length b / 4)), and-false (eqb (length b % 4) 0))

pub valid_bytes_holds : (b : List ℕ) (n p0 p1 p2 p3 : ℕ) (ok : Bool) → n ≡ length b / 4 → p0 ≡ two b 0 → p1 ≡ two b 4 → p2 ≡ two b 8 → p3 ≡ two b 12
    → ok ≡ pairs_ok n (p0 ∷ p1 ∷ p2 ∷ p3 ∷ []) → (eqb (length b % 4) 0 && ok) ≡ valid_bytes b
unfolding valid_bytes
valid_bytes_holds b n p0 p1 p2 p3 ok e q0 q1 q2 q3 r = ap (λ (u : Bool). eqb (length b % 4) 0 && u) (r ∙ rw (e, q0, q1, q2, q3))

-- ---- what a valid change's bytes have
module _ (b : List ℕ) (v : valid_bytes b ≡ true) where
  paths_ok : pairs_ok (length b / 4) (paths_in b) ≡ true
  unfolding valid_bytes
  paths_ok = and_right (eqb (length b % 4) 0) _ v

  few : (1 ≤ length b / 4) × (length b / 4 ≤ 4)
  unfolding pairs_ok
  few = let a = and_left (leb 1 (length b / 4) && leb (length b / 4) 4) _ paths_ok in (leb-true _ _ (and_left _ _ a), leb-true _ _ (and_right (leb 1 (length b / 4)) _ a))

  pub four_each : length b ≡ 4 * (length b / 4)
  unfolding valid_bytes
  four_each = let e : length b % 4 ≡ 0 = eqb-true (length b % 4) 0 (and_left _ _ v) in omega arith

  pub few_bytes : length b ≤ 16
  few_bytes = omega (arith, four_each, few)

  -- past the end, 0
  past : (k : ℕ) → length b ≤ k → two b k ≡ 0
  past k h = ap₂ (λ (x y : ℕ). x + 256 * y) (get_or-eq_default b 0 h) (get_or-eq_default b 0 (omega arith))

  either : (n c : ℕ) (x y : Bool) → (ltb n c || (x && y)) ≡ true → c ≤ n → y ≡ true
  either n c x y h k = and_right x y (rw (le-ltb n c k) at h)

  low : (k : ℕ) → k < 4 → k < length b / 4 → two b (4 * k) < 32
  unfolding pairs_ok
  low zero h q = ltb-true _ _ (and_left _ _ (and_right (leb 1 (length b / 4) && leb (length b / 4) 4) _ paths_ok))
  low (suc zero) h q =
      let t = and_right (ltb (two b 0) 32) _ (and_right (leb 1 (length b / 4) && leb (length b / 4) 4) _ paths_ok) in
      ltb-true _ _ (either (length b / 4) 2 (ltb (two b 0) (two b 4)) (ltb (two b 4) 32) (and_left _ _ t) (omega arith))
  low (suc (suc zero)) h q =
      let t = and_right (ltb (two b 0) 32) _ (and_right (leb 1 (length b / 4) && leb (length b / 4) 4) _ paths_ok) in
      let u = and_right (ltb (length b / 4) 2 || (ltb (two b 0) (two b 4) && ltb (two b 4) 32)) _ t in
      ltb-true _ _ (either (length b / 4) 3 (ltb (two b 4) (two b 8)) (ltb (two b 8) 32) (and_left _ _ u) (omega arith))
  low (suc (suc (suc zero))) h q =
      let t = and_right (ltb (two b 0) 32) _ (and_right (leb 1 (length b / 4) && leb (length b / 4) 4) _ paths_ok) in
      let u = and_right (ltb (length b / 4) 2 || (ltb (two b 0) (two b 4) && ltb (two b 4) 32)) _ t in
      let w = and_right (ltb (length b / 4) 3 || (ltb (two b 4) (two b 8) && ltb (two b 8) 32)) _ u in
      ltb-true _ _ (either (length b / 4) 4 (ltb (two b 8) (two b 12)) (ltb (two b 12) 32) w (omega arith))
  low (suc (suc (suc (suc k)))) h q = absurd (omega arith)

  -- each of the first four paths has room in a byte
  pub path_room : (k : ℕ) → k < 4 → two b (4 * k) < 256
  path_room k h = go (ltb k (length b / 4)) refl
    where
      go : (x : Bool) → ltb k (length b / 4) ≡ x → two b (4 * k) < 256
      go true e = omega (arith, low k h (ltb-true k (length b / 4) e))
      go false e = omega (arith, past (4 * k) (omega (arith, four_each, ltb-false k (length b / 4) e)))

-- the entry that the code makes
pub entry_made : (b : List ℕ) (n p0 p1 p2 p3 v0 v1 v2 v3 : ℕ) (o o' : Ordinal) (i : Number) → valid_bytes b ≡ true → n ≡ length b / 4
    → p0 ≡ two b 0 → p1 ≡ two b 4 → p2 ≡ two b 8 → p3 ≡ two b 12 → v0 ≡ two b 2 → v1 ≡ two b 6 → v2 ≡ two b 10 → v3 ≡ two b 14 → o ≡ ord 0 → o' ≡ ord 0 → i ≡ num 0
    → ◌≡◌ {A = Transaction}
    (record {
      phase = 1;
      count = n;
      paths = p0 ∷ p1 ∷ p2 ∷ p3 ∷ [];
      values = v0 ∷ v1 ∷ v2 ∷ v3 ∷ [];
      change = record { commit = Pending; apply = Pending; ordinal = o };
      rollback = record { commit = None; apply = None; ordinal = o' };
      index = i;
      kept = 0 ∷ 0 ∷ 0 ∷ 0 ∷ [];
      owners = 0 ∷ 0 ∷ 0 ∷ 0 ∷ [];
    })
    (appended (pairs_of b))
entry_made b n p0 p1 p2 p3 v0 v1 v2 v3 o o' i v en a0 a1 a2 a3 c0 c1 c2 c3 eo eo' ei =
    let h = four_each b v in
    let p = pair_paths (length b / 4) b h in
    let q = pair_values (length b / 4) b h in
    rw (pair_count (length b / 4) b h, p 0, p 1, p 2, p 3, q 0, q 1, q 2, q 3, en, a0, a1, a2, a3, c0, c1, c2, c3, eo, eo', ei)

-- The laws of `up_to` and `all_up_to`, and of `up_from` and `all_kept`: what is made, or tested, of each number from 1, or from
-- the last fold, to n. Assumes nothing.
use Prim.Native.Nat.{ℕ, zero, suc, ◌+◌, ◌-◌, ◌≤◌, ◌<◌}
use mathlib.Core.Path.{◌≡◌, refl, ap, ap₂, sym, ◌∙◌, subst}
use mathlib.Core.Bool.{Bool, true, false, ◌&&◌, and-true, and-false, and_assoc, true≢false}
use mathlib.Core.List.{List, [], ◌∷◌, ◌++◌}
use native.Mathlib.Omega.{arith}
use native.Mathlib.Numerals.{add-one}
use lib.Dec.{ltb, leb, eqb}
use lib.ListN.{length, get_or, set, drop, length-append, length-set, length-drop, get_or-append}
use lib.Seq.{get_or-append_seam, get_or-set_same, get_or-set_other, get_or-drop, ext_get_or}
use borrow.Author.Tests.{eqb-true, eqb-false, ltb-true, ltb-false, leb-true, leb-false}
use Rattle.std.specs.Bool.{MatchBool}
use Rattle.std.specs.List.{AllWithin, HoldsAt, range_with_len}
use Rattle.std.proofs.lemmas.List.FromFn.{get_or-range_with_len, length-range_with_len}
use Rattle.kinds.specs.declared.Transaction.{Transaction}
use Rattle.machine.specs.State.{place_of, put_place, blank}
use Rattle.machine.specs.WellFormed.{all_from}
use Rattle.image.specs.View.{up_to, up_from}
use Rattle.image.specs.Formed.{all_up_to, all_kept}

-- ---- `&&`
pub and_left : (a b : Bool) → (a && b) ≡ true → a ≡ true
and_left true b h = refl
and_left false b h = h

pub and_right : (a b : Bool) → (a && b) ≡ true → b ≡ true
and_right true b h = h
and_right false b h = absurd (true≢false (sym h))

pub both : (a b : Bool) → a ≡ true → b ≡ true → (a && b) ≡ true
both a b p q = rw (p, q)

-- ---- what is made
module _ {A : Type 0} where
  pub length_up_to : (f : ℕ → A) (n : ℕ) → length (up_to f n) ≡ n
  unfolding up_to
  length_up_to f zero = refl
  length_up_to f (suc n) = length-append (up_to f n) (f (suc n) ∷ []) ∙ omega (arith, length_up_to f n)

  -- what stands at place k is of number k + 1
  pub get_d_up_to : (f : ℕ → A) (n k : ℕ) (d : A) → k < n → get_or (up_to f n) k d ≡ f (suc k)
  unfolding up_to
  get_d_up_to f zero k d h = absurd (omega arith)
  get_d_up_to f (suc n) k d h = go (get_d_up_to f n k d) (ltb k n) refl
    where
      go : (k < n → get_or (up_to f n) k d ≡ f (suc k)) → (b : Bool) → ltb k n ≡ b → get_or (up_to f n ++ (f (suc n) ∷ [])) k d ≡ f (suc k)
      go r true e = get_or-append (up_to f n) (f (suc n) ∷ []) d k (omega (arith, ltb-true k n e, length_up_to f n)) ∙ r (ltb-true k n e)
      go r false e =
          let z : k ≡ length (up_to f n) = omega (arith, ltb-false k n e, length_up_to f n) in
          let y : suc n ≡ suc k = omega (arith, ltb-false k n e) in
          ap (λ (x : ℕ). get_or (up_to f n ++ (f (suc n) ∷ [])) x d) z ∙ get_or-append_seam (up_to f n) (f (suc n)) [] d ∙ ap f y

  pub up_to_same : (f g : ℕ → A) (n : ℕ) → ((k : ℕ) → 1 ≤ k → k ≤ n → g k ≡ f k) → up_to g n ≡ up_to f n
  unfolding up_to
  up_to_same f g zero h = refl
  up_to_same f g (suc n) h =
      ap₂ (λ (x : List A) (y : A). x ++ (y ∷ [])) (up_to_same f g n (λ k p q. h k p (omega arith))) (h (suc n) (omega arith) (omega arith))

  -- another at one place
  pub up_to_set : (f g : ℕ → A) (n i : ℕ) (a : A) → g (suc i) ≡ a → ((k : ℕ) → k < n → (k ≡ i → ⊥) → g (suc k) ≡ f (suc k))
      → up_to g n ≡ set (up_to f n) i a
  up_to_set f g n i a e h =
      ext_get_or a (up_to g n) (set (up_to f n) i a) (length_up_to g n ∙ sym (length-set (up_to f n) i a ∙ length_up_to f n))
      (λ k q. let r : k < n = omega (arith, length_up_to g n) in get_d_up_to g n k a r ∙ go k r (eqb k i) refl)
    where
      go : (k : ℕ) → k < n → (b : Bool) → eqb k i ≡ b → g (suc k) ≡ get_or (set (up_to f n) i a) k a
      go k r true z = let y : k ≡ i = eqb-true k i z in rw y (e ∙ sym (get_or-set_same (up_to f n) i a a (omega (arith, length_up_to f n))))
      go k r false z = h k r (eqb-false k i z) ∙ sym (get_or-set_other (up_to f n) i k a a (eqb-false k i z) ∙ get_d_up_to f n k a r)

  -- the first k left out
  pub drop_up_to : (f : ℕ → A) (n k : ℕ) (d : A) → k ≤ n → drop k (up_to f n) ≡ up_to (λ j. f (k + j)) (n - k)
  drop_up_to f n k d h =
      let z : length (drop k (up_to f n)) ≡ n - k = omega (arith, length-drop k (up_to f n), length_up_to f n) in
      ext_get_or d (drop k (up_to f n)) (up_to (λ j. f (k + j)) (n - k)) (z ∙ sym (length_up_to (λ j. f (k + j)) (n - k)))
      (λ j q.
      let r : j < n - k = omega (arith, z) in
      let x : suc (k + j) ≡ k + suc j = omega arith in
      get_or-drop k (up_to f n) j d ∙ get_d_up_to f n (k + j) d (omega arith) ∙ ap f x ∙ sym (get_d_up_to (λ i. f (k + i)) (n - k) j d r))

  -- ---- from b + 1 to n
  pub up_from_same : (f g : ℕ → A) (b n : ℕ) → ((k : ℕ) → b < k → k ≤ n → g k ≡ f k) → up_from g b n ≡ up_from f b n
  up_from_same f g b n h = up_to_same (λ j. f (b + j)) (λ j. g (b + j)) (n - b) (λ k p q. h (b + k) (omega arith) (omega arith))

  pub up_from_more : (f : ℕ → A) (b n : ℕ) → b ≤ n → up_from f b (n + 1) ≡ up_from f b n ++ (f (n + 1) ∷ [])
  unfolding up_to
  up_from_more f b n h =
      let z : n + 1 - b ≡ suc (n - b) = omega arith in
      let y : b + suc (n - b) ≡ n + 1 = omega arith in
      ap (up_to (λ j. f (b + j))) z ∙ ap (λ (x : ℕ). up_to (λ j. f (b + j)) (n - b) ++ (f x ∷ [])) y

  pub up_from_drop : (f : ℕ → A) (b m n : ℕ) (d : A) → b ≤ m → m ≤ n → up_from f m n ≡ drop (m - b) (up_from f b n)
  up_from_drop f b m n d p q =
      let z : n - b - (m - b) ≡ n - m = omega arith in
      let y : (k : ℕ) → b + (m - b + k) ≡ m + k = λ k. omega arith in
      sym
      (drop_up_to (λ j. f (b + j)) (n - b) (m - b) d (omega arith)
      ∙ ap (up_to (λ j. f (b + (m - b + j)))) z
      ∙ up_to_same (λ j. f (m + j)) (λ j. f (b + (m - b + j))) (n - m) (λ k u v. ap f (y k)))

-- ---- the log: the entry at its place among those kept, and another put there
pub entry_up_from : (f : ℕ → Transaction) (b n i : ℕ) → b < i → i ≤ n → place_of (up_from f b n) (i - b) ≡ f i
entry_up_from f b n i p q = go (i - b) refl
  where
    go : (k : ℕ) → i - b ≡ k → place_of (up_from f b n) k ≡ f i
    go zero e = absurd (omega arith)
    go (suc k) e = let y : b + suc k ≡ i = omega arith in get_d_up_to (λ j. f (b + j)) (n - b) k blank (omega arith) ∙ ap f y

pub put_up_from : (f g : ℕ → Transaction) (b n i : ℕ) (t : Transaction) → b < i → i ≤ n → g i ≡ t
    → ((k : ℕ) → b < k → k ≤ n → (k ≡ i → ⊥) → g k ≡ f k) → up_from g b n ≡ put_place (up_from f b n) (i - b) t
put_up_from f g b n i t p q e h = go (i - b) refl
  where
    go : (k : ℕ) → i - b ≡ k → up_from g b n ≡ put_place (up_from f b n) k t
    go zero z = absurd (omega arith)
    go (suc k) z =
        let y : b + suc k ≡ i = omega arith in
        up_to_set (λ j. f (b + j)) (λ j. g (b + j)) (n - b) k t (ap g y ∙ e) (λ j u d. h (b + suc j) (omega arith) (omega arith) (λ x. d (omega arith)))

-- ---- what is tested
pub all_none : (p : ℕ → Bool) → all_up_to p 0 ≡ true
unfolding all_up_to
all_none p = refl

pub all_more : (p : ℕ → Bool) (n : ℕ) → all_up_to p n ≡ true → p (n + 1) ≡ true → all_up_to p (n + 1) ≡ true
unfolding all_up_to
all_more p n a b = let z : n + 1 ≡ suc n = add-one n in let c : p (suc n) ≡ true = rw (← z) b in rw (z, a, c)

pub all_at : (p : ℕ → Bool) (n : ℕ) → all_up_to p n ≡ true → (k : ℕ) → 1 ≤ k → k ≤ n → p k ≡ true
unfolding all_up_to
all_at p zero a k h q = absurd (omega arith)
all_at p (suc n) a k h q = go (all_at p n (and_left _ _ a) k h) (ltb n k) refl
  where
    go : (k ≤ n → p k ≡ true) → (b : Bool) → ltb n k ≡ b → p k ≡ true
    go r false e = r (ltb-false n k e)
    go r true e = let z : suc n ≡ k = omega (arith, ltb-true n k e) in subst (λ (x : ℕ). p x ≡ true) z (and_right (all_up_to p n) _ a)

pub all_from_holds : (p : ℕ → Bool) (n : ℕ) → ((k : ℕ) → 1 ≤ k → k ≤ n → p k ≡ true) → all_up_to p n ≡ true
unfolding all_up_to
all_from_holds p zero h = refl
all_from_holds p (suc n) h = rw (all_from_holds p n (λ k a q. h k a (omega arith)), h (suc n) (omega arith) (omega arith))

-- one that fails, fails all
pub all_not : (p : ℕ → Bool) (n k : ℕ) → 1 ≤ k → k ≤ n → p k ≡ false → all_up_to p n ≡ false
all_not p n k a b e = go (all_up_to p n) refl
  where
    go : (x : Bool) → all_up_to p n ≡ x → x ≡ false
    go false z = refl
    go true z = absurd (true≢false (sym (all_at p n z k a b) ∙ e))

-- the scan is through
pub all_done : (p : ℕ → Bool) (n k : ℕ) → k ≤ n → n ≤ k → all_up_to p k ≡ true → true ≡ all_up_to p n
all_done p n k a b e = let z : k ≡ n = omega arith in sym (rw z at e)

pub all_same : (p q : ℕ → Bool) (n : ℕ) → ((k : ℕ) → 1 ≤ k → k ≤ n → p k ≡ q k) → all_up_to p n ≡ all_up_to q n
unfolding all_up_to
all_same p q zero h = refl
all_same p q (suc n) h = ap₂ (λ (a b : Bool). a && b) (all_same p q n (λ k r s. h k r (omega arith))) (h (suc n) (omega arith) (omega arith))

-- two tests at once
and_swap : (a b x y : Bool) → ((a && b) && (x && y)) ≡ ((a && x) && (b && y))
and_swap true true x y = refl
and_swap true false x y = sym (and-false x)
and_swap false b x y = refl

pub all_both : (p q : ℕ → Bool) (n : ℕ) → all_up_to (λ k. p k && q k) n ≡ (all_up_to p n && all_up_to q n)
unfolding all_up_to
all_both p q zero = refl
all_both p q (suc n) = ap (λ (x : Bool). x && (p (suc n) && q (suc n))) (all_both p q n) ∙ and_swap (all_up_to p n) (all_up_to q n) (p (suc n)) (q (suc n))

-- the test of every entry of a log so made
all_append : (p : ℕ → Transaction → Bool) (k : ℕ) (l : List Transaction) (t : Transaction)
    → all_from p k (l ++ (t ∷ [])) ≡ (all_from p k l && p (k + length l) t)
unfolding all_from
all_append p k [] t = let z : k + 0 ≡ k = omega arith in rw z (and-true (p k t))
all_append p k (x ∷ l) t =
    let z : k + 1 + length l ≡ k + suc (length l) = omega arith in
    ap (λ (b : Bool). p k x && b) (all_append p (k + 1) l t ∙ rw z) ∙ sym (and_assoc (p k x) (all_from p (k + 1) l) (p (k + suc (length l)) t))

all_entries_holds : (p : ℕ → Transaction → Bool) (f : ℕ → Transaction) (b n : ℕ) → all_from p (suc b) (up_to f n) ≡ all_up_to (λ k. p (b + k) (f k)) n
unfolding up_to all_up_to all_from
all_entries_holds p f b zero = refl
all_entries_holds p f b (suc n) =
    let z : suc b + length (up_to f n) ≡ b + suc n = omega (arith, length_up_to f n) in
    all_append p (suc b) (up_to f n) (f (suc n)) ∙ ap₂ (λ (a x : Bool). a && x) (all_entries_holds p f b n) (ap (λ (x : ℕ). p x (f (suc n))) z)

-- ---- what is tested of each number from b + 1 to n
module _ (p : ℕ → Bool) (b : ℕ) where
  pub kept_none : all_kept p b b ≡ true
  unfolding all_kept
  kept_none = let z : b - b ≡ 0 = omega arith in ap (all_up_to (λ j. p (b + j))) z ∙ all_none (λ j. p (b + j))

  pub kept_more : (n : ℕ) → b ≤ n → all_kept p b n ≡ true → p (n + 1) ≡ true → all_kept p b (n + 1) ≡ true
  unfolding all_kept
  kept_more n h a e =
      let z : n + 1 - b ≡ n - b + 1 = omega arith in
      let y : b + (n - b + 1) ≡ n + 1 = omega arith in
      ap (all_up_to (λ j. p (b + j))) z ∙ all_more (λ j. p (b + j)) (n - b) a (ap p y ∙ e)

  pub kept_at : (n : ℕ) → all_kept p b n ≡ true → (k : ℕ) → b < k → k ≤ n → p k ≡ true
  unfolding all_kept
  kept_at n a k u v = let y : b + (k - b) ≡ k = omega arith in subst (λ (x : ℕ). p x ≡ true) y (all_at (λ j. p (b + j)) (n - b) a (k - b) (omega arith) (omega arith))

  pub kept_not : (n k : ℕ) → b < k → k ≤ n → p k ≡ false → all_kept p b n ≡ false
  unfolding all_kept
  kept_not n k u v e = let y : b + (k - b) ≡ k = omega arith in all_not (λ j. p (b + j)) (n - b) (k - b) (omega arith) (omega arith) (ap p y ∙ e)

  -- the scan is through
  pub kept_done : (n k : ℕ) → k ≤ n → n ≤ k → all_kept p b k ≡ true → true ≡ all_kept p b n
  kept_done n k u v e = let z : k ≡ n = omega arith in sym (ap (λ (x : ℕ). all_kept p b x) (sym z) ∙ e)

pub kept_from : (p : ℕ → Bool) (b n : ℕ) → ((k : ℕ) → b < k → k ≤ n → p k ≡ true) → all_kept p b n ≡ true
unfolding all_kept
kept_from p b n h = all_from_holds (λ j. p (b + j)) (n - b) (λ k u v. h (b + k) (omega arith) (omega arith))

pub kept_both : (p q : ℕ → Bool) (b n : ℕ) → all_kept (λ k. p k && q k) b n ≡ (all_kept p b n && all_kept q b n)
unfolding all_kept
kept_both p q b n = all_both (λ j. p (b + j)) (λ j. q (b + j)) (n - b)

-- the scan, by the library's `all` over the numbers from b up to n, each of which stands for the next
pub kept_scanned : (p : ℕ → Bool) (b n : ℕ) (r : Bool) → b ≤ n
    → MatchBool r (AllWithin (λ (x : ℕ). p (x + 1) ≡ true) (range_with_len b (n - b)) 0 (length (range_with_len b (n - b))))
    ((i : ℕ) × (i < length (range_with_len b (n - b))) × HoldsAt (λ (x : ℕ). p (x + 1) ≡ false) (range_with_len b (n - b)) i)
    → r ≡ all_kept p b n
kept_scanned p b n true h m =
    sym
    (kept_from p b n
    (λ k u v.
    let i : ℕ = k - (b + 1) in
    let e : get_or (range_with_len b (n - b)) i 0 + 1 ≡ k = omega (arith, get_or-range_with_len b (n - b) i 0 (omega arith)) in
    subst (λ (x : ℕ). p x ≡ true) e (m i 0 (omega arith) (omega (arith, length-range_with_len b (n - b))))))
kept_scanned p b n false h m =
    let i : ℕ = m.0 in
    let q : i < n - b = omega (arith, m.1, length-range_with_len b (n - b)) in
    let e : get_or (range_with_len b (n - b)) i 0 + 1 ≡ b + i + 1 = omega (arith, get_or-range_with_len b (n - b) i 0 q) in
    sym (kept_not p b n (b + i + 1) (omega arith) (omega arith) (subst (λ (x : ℕ). p x ≡ false) e (m.2 0)))

-- the test of every entry of a log so made
pub kept_entries : (p : ℕ → Transaction → Bool) (f : ℕ → Transaction) (b n : ℕ) → all_from p (suc b) (up_from f b n) ≡ all_kept (λ k. p k (f k)) b n
unfolding all_kept
kept_entries p f b n = all_entries_holds p (λ j. f (b + j)) b (n - b)

pub kept_same : (p q : ℕ → Bool) (b n : ℕ) → ((k : ℕ) → b < k → k ≤ n → p k ≡ q k) → all_kept p b n ≡ all_kept q b n
unfolding all_kept
kept_same p q b n h = all_same (λ j. p (b + j)) (λ j. q (b + j)) (n - b) (λ k u v. h (b + k) (omega arith) (omega arith))

-- in two runs
pub kept_split : (p : ℕ → Bool) (b m n : ℕ) → b ≤ m → m ≤ n → all_kept p b n ≡ (all_kept p b m && all_kept p m n)
kept_split p b m n h k = go (all_kept p b m) refl (all_kept p m n) refl
  where
    part : (x : Bool) → all_kept p b n ≡ x → x ≡ true → (all_kept p b m ≡ true) × (all_kept p m n ≡ true)
    part x e t =
        let a : all_kept p b n ≡ true = e ∙ t in
        (kept_from p b m (λ i u v. kept_at p b n a i u (omega arith)), kept_from p m n (λ i u v. kept_at p b n a i (omega arith) v))

    not : (y : Bool) → (all_kept p b n ≡ true → y ≡ true) → y ≡ false → all_kept p b n ≡ false
    not y f z = go' (all_kept p b n) refl
      where
        go' : (x : Bool) → all_kept p b n ≡ x → x ≡ false
        go' true e = absurd (true≢false (sym (f e) ∙ z))
        go' false e = refl

    go : (x : Bool) → all_kept p b m ≡ x → (y : Bool) → all_kept p m n ≡ y → all_kept p b n ≡ (x && y)
    go true e true f = kept_from p b n (λ i u v. step e f i u v (leb i m) refl)
      where
        step : all_kept p b m ≡ true → all_kept p m n ≡ true → (i : ℕ) → b < i → i ≤ n → (x : Bool) → leb i m ≡ x → p i ≡ true
        step e f i u v true z = kept_at p b m e i u (leb-true i m z)
        step e f i u v false z = kept_at p m n f i (leb-false i m z) v
    go true e false f = not (all_kept p m n) (λ a. (part (all_kept p b n) refl a).1) f
    go false e y f = not (all_kept p b m) (λ a. (part (all_kept p b n) refl a).0) e

pub two_runs : (p : ℕ → Bool) (b m n : ℕ) (x r : Bool) → x ≡ all_kept p b m → x ≡ true → r ≡ all_kept p m n → b ≤ m → m ≤ n → r ≡ all_kept p b n
two_runs p b m n x r e t q h k = q ∙ sym (kept_split p b m n h k ∙ ap (λ (y : Bool). y && all_kept p m n) (sym e ∙ t))

pub first_falls : (p : ℕ → Bool) (b m n : ℕ) (x : Bool) → x ≡ all_kept p b m → x ≡ false → b ≤ m → m ≤ n → false ≡ all_kept p b n
first_falls p b m n x e t h k = sym (kept_split p b m n h k ∙ ap (λ (y : Bool). y && all_kept p m n) (sym e ∙ t))

-- A falling list of changes, read by number: the value that the highest of them setting a path gives it, the list itself,
-- and the hops along it. Assumes nothing.
use Prim.Native.Nat.{ℕ, zero, suc, ◌≤◌, ◌<◌}
use native.Mathlib.Omega.{arith}
use mathlib.Core.List.{List, [], ◌∷◌}
use mathlib.Core.Bool.{Bool, true, false, ◌&&◌, cond}
use mathlib.Core.Path.{◌≡◌, refl, sym, ap, ◌∙◌, subst}
use lib.Dec.{ltb, leb}
use lib.ListN.{length, get_or}
use borrow.Author.Tests.{ne_eqb, leb-true, leb-false, le-leb, lt-leb}
use Rattle.kinds.specs.declared.Transaction.{Transaction}
use Rattle.machine.specs.State.{Log, entry_of}
use Rattle.machine.specs.LiveList.{hops}
use Rattle.machine.specs.Folding.{stays}
use Rattle.machine.proofs.Next.{laying_if, base_over}
use Rattle.machine.proofs.Entries.{length_base}
use Rattle.history.specs.Demand3.{sets, value_at, highest, list_if, newest_first, hopped}
use Rattle.machine.proofs.Overlay.{at_over}
use Rattle.history.specs.Values.{look_sets}
use Rattle.history.specs.Ops.{top, Falls, mem, mem_above, mem_first}
use Rattle.history.specs.Invariant.{val, says}
use Rattle.history.specs.Frames.{LinkedStack, by_eq}

-- ---- a test of numbers that agrees with the list
pub highest_same : (l : Log) (f g : ℕ → Bool) (n p : ℕ) → ((k : ℕ) → 1 ≤ k → k ≤ n → f k ≡ g k) → highest l f n p ≡ highest l g n p
unfolding highest
highest_same l f g zero p h = refl
highest_same l f g (suc n) p h = rw (h (suc n) (omega arith) (omega arith), highest_same l f g n p (λ k a b. h k a (omega arith)))

pub list_same : (f g : ℕ → Bool) (n : ℕ) → ((k : ℕ) → 1 ≤ k → k ≤ n → f k ≡ g k) → newest_first f n ≡ newest_first g n
unfolding newest_first
list_same f g zero h = refl
list_same f g (suc n) h = rw (h (suc n) (omega arith) (omega arith), list_same f g n (λ k a b. h k a (omega arith)))

-- below its first, a falling list is its rest
mem_below : (k : ℕ) (ks : List ℕ) (j : ℕ) → j < k → mem j ks ≡ mem j (k ∷ ks)
unfolding mem
mem_below k ks j b = simp (ne_eqb k j (λ e. omega arith))

highest_mem : (l : Log) (n : ℕ) (ks : List ℕ) → Falls ks → top ks ≤ n → (p : ℕ) → get_or l.base p 0 ≡ 0 → val l ks p ≡ highest l (λ k. mem k ks) n p
unfolding highest val Falls mem
highest_mem l zero [] f b p z = sym z
highest_mem l zero (k ∷ ks) f b p z = absurd (omega (arith, f.0))
highest_mem l (suc n) [] f b p z = highest_mem l n [] f (omega arith) p z
highest_mem l (suc n) (k ∷ ks) f b p z =
    by_eq (suc n) k (λ e. here e (highest_mem l n ks f.1 (omega (arith, f.0)) p z)) (λ e. under e (highest_mem l n (k ∷ ks) f (omega arith) p z))
  where
    here : suc n ≡ k → val l ks p ≡ highest l (λ j. mem j ks) n p
        → says (entry_of l k) p (val l ks p) ≡ cond (mem (suc n) (k ∷ ks) && sets (entry_of l (suc n)) p) (value_at (entry_of l (suc n)) p) (highest l (λ j. mem j (k ∷ ks)) n p)
    here e r =
        let d : val l ks p ≡ highest l (λ j. mem j (k ∷ ks)) n p = r ∙ highest_same l (λ j. mem j ks) (λ j. mem j (k ∷ ks)) n p (λ j a x. mem_below k ks j (omega arith)) in
        ap (λ j. says (entry_of l j) p (val l ks p)) (sym e) ∙ look_sets (entry_of l (suc n)) p (val l ks p)
        ∙ ap (cond (sets (entry_of l (suc n)) p) (value_at (entry_of l (suc n)) p)) d
        ∙ ap (λ t. cond (t && sets (entry_of l (suc n)) p) (value_at (entry_of l (suc n)) p) (highest l (λ j. mem j (k ∷ ks)) n p)) (sym (ap (λ j. mem j (k ∷ ks)) e ∙ mem_first k ks))

    under : (suc n ≡ k → ⊥) → val l (k ∷ ks) p ≡ highest l (λ j. mem j (k ∷ ks)) n p
        → says (entry_of l k) p (val l ks p) ≡ cond (mem (suc n) (k ∷ ks) && sets (entry_of l (suc n)) p) (value_at (entry_of l (suc n)) p) (highest l (λ j. mem j (k ∷ ks)) n p)
    under e r =
        r ∙ ap (λ t. cond (t && sets (entry_of l (suc n)) p) (value_at (entry_of l (suc n)) p) (highest l (λ j. mem j (k ∷ ks)) n p)) (sym (mem_above (k ∷ ks) f (suc n) (omega arith)))

list_mem : (n : ℕ) (ks : List ℕ) → Falls ks → top ks ≤ n → ks ≡ newest_first (λ k. mem k ks) n
unfolding newest_first Falls mem
list_mem zero [] f b = refl
list_mem zero (k ∷ ks) f b = absurd (omega (arith, f.0))
list_mem (suc n) [] f b = list_mem n [] f (omega arith)
list_mem (suc n) (k ∷ ks) f b =
    by_eq (suc n) k (λ e. here e (list_mem n ks f.1 (omega (arith, f.0)))) (λ e. under e (list_mem n (k ∷ ks) f (omega arith)))
  where
    here : suc n ≡ k → ks ≡ newest_first (λ j. mem j ks) n → k ∷ ks ≡ list_if (mem (suc n) (k ∷ ks)) (suc n) (newest_first (λ j. mem j (k ∷ ks)) n)
    here e r =
        ap (λ j. j ∷ ks) (sym e) ∙ ap (λ x. suc n ∷ x) (r ∙ list_same (λ j. mem j ks) (λ j. mem j (k ∷ ks)) n (λ j a x. mem_below k ks j (omega arith)))
        ∙ ap (λ t. list_if t (suc n) (newest_first (λ j. mem j (k ∷ ks)) n)) (sym (ap (λ j. mem j (k ∷ ks)) e ∙ mem_first k ks))

    under : (suc n ≡ k → ⊥) → k ∷ ks ≡ newest_first (λ j. mem j (k ∷ ks)) n → k ∷ ks ≡ list_if (mem (suc n) (k ∷ ks)) (suc n) (newest_first (λ j. mem j (k ∷ ks)) n)
    under e r = r ∙ ap (λ t. list_if t (suc n) (newest_first (λ j. mem j (k ∷ ks)) n)) (sym (mem_above (k ∷ ks) f (suc n) (omega arith)))

pub val_highest : (l : Log) (g : ℕ → Bool) (n : ℕ) (ks : List ℕ) → Falls ks → top ks ≤ n → ((k : ℕ) → mem k ks ≡ g k) → (p : ℕ) → get_or l.base p 0 ≡ 0
    → val l ks p ≡ highest l g n p
val_highest l g n ks f b h p z = highest_mem l n ks f b p z ∙ highest_same l (λ k. mem k ks) g n p (λ k a x. h k)

pub list_newest : (g : ℕ → Bool) (n : ℕ) (ks : List ℕ) → Falls ks → top ks ≤ n → ((k : ℕ) → mem k ks ≡ g k) → ks ≡ newest_first g n
list_newest g n ks f b h = list_mem n ks f b ∙ list_same (λ k. mem k ks) g n (λ k a x. h k)

-- ---- hops, until a number at or below b
unfoldable pub above : ℕ → List ℕ → List ℕ
above b [] = []
above b (k ∷ ks) = cond (leb k b) [] (k ∷ above b ks)

-- log l, which has what is after its fold as m has it
module _ (l m : Log) (same : (k : ℕ) → l.folded.0 < k → entry_of l k ≡ entry_of m k) where
  abbrev low : ℕ
  low = l.folded.0

  pub hops_above : (n : ℕ) (ks : List ℕ) → Falls ks → LinkedStack m ks → top ks ≤ n → hops n l (top ks) ≡ above low ks
  unfolding hops above Falls LinkedStack
  hops_above zero [] f s b = refl
  hops_above zero (k ∷ ks) f s b = absurd (omega (arith, f.0))
  hops_above (suc n) [] f s b = rw (le-leb 0 low (omega arith)) refl
  hops_above (suc n) (k ∷ ks) f s b = go (hops_above n ks f.1 s.1 (omega (arith, f.0))) (leb k low) refl
    where
      go : hops n l (top ks) ≡ above low ks → (c : Bool) → leb k low ≡ c → cond c [] (k ∷ hops n l (entry_of l k).index.0) ≡ cond c [] (k ∷ above low ks)
      go r true e = refl
      go r false e = ap (λ x. k ∷ x) (ap (hops n l) (ap (λ t. t.index.0) (same k (leb-false k low e)) ∙ s.0.back) ∙ r)

  pub hopped_above : (ks : List ℕ) → LinkedStack m ks → hopped l (length (above low ks)) (top ks) ≤ low
  unfolding hopped above LinkedStack
  hopped_above [] s = omega arith
  hopped_above (k ∷ ks) s = go (hopped_above ks s.1) (leb k low) refl
    where
      go : hopped l (length (above low ks)) (top ks) ≤ low → (c : Bool) → leb k low ≡ c → hopped l (length (cond c [] (k ∷ above low ks))) k ≤ low
      go r true e = leb-true k low e
      go r false e = subst (λ v. hopped l (length (above low ks)) v ≤ low) (sym (ap (λ t. t.index.0) (same k (leb-false k low e)) ∙ s.0.back)) r

  -- ---- the highest, read on: the base stands for what m has up to the fold
  module _ (g : ℕ → Bool) (p : ℕ) (e : get_or l.base p 0 ≡ highest m g l.folded.0 p) where
    down : (n : ℕ) → n ≤ low → highest l (λ k. ltb low k && g k) n p ≡ get_or l.base p 0
    unfolding highest
    down zero q = refl
    down (suc n) q = rw (lt-leb (suc low) (suc n) (omega arith)) (down n (omega arith))

    pub up : (n : ℕ) → low ≤ n → highest l (λ k. ltb low k && g k) n p ≡ highest m g n p
    unfolding highest
    up zero q = e ∙ ap (λ n. highest m g n p) (let z : low ≡ 0 = omega arith in z)
    up (suc n) q = go (up n) (leb low n) refl
      where
        go : (low ≤ n → highest l (λ k. ltb low k && g k) n p ≡ highest m g n p) → (c : Bool) → leb low n ≡ c → highest l (λ k. ltb low k && g k) (suc n) p ≡ highest m g (suc n) p
        go r true x =
            rw (le-leb (suc low) (suc n) (omega (arith, leb-true low n x)), r (leb-true low n x))
            (ap (λ t. cond (g (suc n) && sets t p) (value_at t p) (highest m g n p)) (same (suc n) (omega (arith, leb-true low n x))))
        go r false x = let z : low ≡ suc n = omega (arith, leb-false low n x) in down (suc n) (omega arith) ∙ e ∙ ap (λ n. highest m g n p) z

-- the list of those after b
none_above : (b : ℕ) (g : ℕ → Bool) (n : ℕ) → n ≤ b → newest_first (λ k. ltb b k && g k) n ≡ []
unfolding newest_first
none_above b g zero q = refl
none_above b g (suc n) q = rw (lt-leb (suc b) (suc n) (omega arith)) (none_above b g n (omega arith))

pub newest_above : (b : ℕ) (g : ℕ → Bool) (n : ℕ) → above b (newest_first g n) ≡ newest_first (λ k. ltb b k && g k) n
unfolding newest_first above
newest_above b g zero = refl
newest_above b g (suc n) = go (newest_above b g n) (g (suc n)) (leb (suc n) b) refl
  where
    and_none : (y : Bool) → (y && false) ≡ false
    and_none true = refl
    and_none false = refl

    go : above b (newest_first g n) ≡ newest_first (λ k. ltb b k && g k) n → (x c : Bool) → leb (suc n) b ≡ c
        → above b (list_if x (suc n) (newest_first g n)) ≡ list_if (ltb b (suc n) && x) (suc n) (newest_first (λ k. ltb b k && g k) n)
    go r true true e = rw (e, lt-leb (suc b) (suc n) (omega (arith, leb-true (suc n) b e))) (sym (none_above b g n (omega (arith, leb-true (suc n) b e))))
    go r true false e = rw (e, le-leb (suc b) (suc n) (omega (arith, leb-false (suc n) b e))) (ap (λ x. suc n ∷ x) r)
    go r false c e = r ∙ ap (λ x. list_if x (suc n) (newest_first (λ k. ltb b k && g k) n)) (sym (and_none (ltb b (suc n))))

-- ---- the base that a fold up to b leaves, over the changes 1 to n that f holds of
pub base_highest : (l : Log) (b : ℕ) (f : ℕ → Bool) (n p : ℕ) → p < length l.base
    → get_or (base_over l b (newest_first f n) l.base) p 0 ≡ highest l (λ k. f k && leb k b) n p
unfolding base_over newest_first highest
base_highest l b f zero p q = refl
base_highest l b f (suc n) p q = go (base_highest l b f n p q) (f (suc n)) (leb (suc n) b) refl
  where
    go : get_or (base_over l b (newest_first f n) l.base) p 0 ≡ highest l (λ k. f k && leb k b) n p → (x y : Bool) → leb (suc n) b ≡ y
        → get_or (base_over l b (list_if x (suc n) (newest_first f n)) l.base) p 0
        ≡ cond ((x && y) && sets (entry_of l (suc n)) p) (value_at (entry_of l (suc n)) p) (highest l (λ k. f k && leb k b) n p)
    go r true true e =
        let t = entry_of l (suc n) in
        let vs = base_over l b (newest_first f n) l.base in
        ap (λ c. get_or (laying_if c t vs) p 0) e
        ∙ at_over p t.paths t.values t.count vs (omega (arith, length_base l b (newest_first f n) l.base))
        ∙ look_sets t p (get_or vs p 0) ∙ ap (cond (sets t p) (value_at t p)) r
    go r true false e = ap (λ c. get_or (laying_if c (entry_of l (suc n)) (base_over l b (newest_first f n) l.base)) p 0) e ∙ r
    go r false y e = r

-- numbers past b do not count
pub highest_cut : (m : Log) (f : ℕ → Bool) (b n p : ℕ) → b ≤ n → highest m (λ k. f k && leb k b) n p ≡ highest m f b p
unfolding highest
highest_cut m f b zero p q = ap (λ n. highest m f n p) (let z : 0 ≡ b = omega arith in z)
highest_cut m f b (suc n) p q = go (highest_cut m f b n p) (leb b n) refl
  where
    ever : (x : Bool) → (x && true) ≡ x
    ever true = refl
    ever false = refl

    never : (x : Bool) → (x && false) ≡ false
    never true = refl
    never false = refl

    go : (b ≤ n → highest m (λ k. f k && leb k b) n p ≡ highest m f b p) → (c : Bool) → leb b n ≡ c → highest m (λ k. f k && leb k b) (suc n) p ≡ highest m f b p
    go r true x = rw (lt-leb (suc n) b (omega (arith, leb-true b n x)), never (f (suc n))) (r (leb-true b n x))
    go r false x =
        let z : suc n ≡ b = omega (arith, leb-false b n x) in
        highest_same m (λ k. f k && leb k b) f (suc n) p (λ k a w. ap (λ y. f k && y) (le-leb k b (omega arith)) ∙ ever (f k)) ∙ ap (λ n. highest m f n p) z

-- a log with the same entries up to n, and the same base
pub highest_entries : (l m : Log) (n p : ℕ) → ((k : ℕ) → k ≤ n → entry_of l k ≡ entry_of m k) → l.base ≡ m.base
    → highest l (λ k. stays (entry_of l k)) n p ≡ highest m (λ k. stays (entry_of m k)) n p
unfolding highest
highest_entries l m zero p e a = ap (λ vs. get_or vs p 0) a
highest_entries l m (suc n) p e a =
    ap (λ t. cond (stays t && sets t p) (value_at t p) (highest l (λ k. stays (entry_of l k)) n p)) (e (suc n) (omega arith))
    ∙ ap (cond (stays (entry_of m (suc n)) && sets (entry_of m (suc n)) p) (value_at (entry_of m (suc n)) p)) (highest_entries l m n p (λ k b. e k (omega arith)) a)

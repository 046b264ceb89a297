-- Laws of entries and of values: a fact of every entry after one is stored or appended; the pairs laid over values.
-- Assumes nothing.
use Prim.Native.Nat.{ℕ, zero, suc, ◌+◌, ◌-◌, ◌≤◌, ◌<◌}
use native.Mathlib.Omega.{arith}
use mathlib.Core.List.{List, [], ◌∷◌, ◌++◌}
use mathlib.Core.Bool.{Bool, true, false, ◌&&◌}
use mathlib.Core.Path.{◌≡◌, refl, ap, ◌∙◌}
use lib.Dec.{ltb, leb}
use lib.ListN.{length, get_or, set, drop, length-drop, length-append, length-set, get_or-eq_default}
use lib.Seq.{get_or-set_same, get_or-drop}
use borrow.Author.Tests.{leb-true, leb-false}
use Rattle.kinds.specs.declared.Transaction.{Transaction}
use Rattle.rules.specs.declared.Lay.{Lay}
use Rattle.rules.specs.declared.Lay.TheVariants.{Nothing, Values, Kept}
use Rattle.machine.specs.State.{Log, unfolded, in_each, blank, place_of, put_place, entry_of, put_entry, grown, folded_to, last}
use Rattle.machine.specs.Stores.{with_base}
use Rattle.kinds.specs.Numbers.{num}
use Rattle.machine.specs.WellFormed.{all_from, all_entries}
use Rattle.machine.specs.Laid.{laying, over, laid_over, owned_over}
use Rattle.machine.proofs.Next.{laying_if, base_over}
use Rattle.machine.proofs.Cases.{and_left, and_right}

-- ---- what holds of every element, and of the new one, holds of every element after it is stored
pub set_all : {A : Type 0} (P : ℕ → A → Type 0) (l : List A) (i : ℕ) (a d : A) → ((k : ℕ) → P k (get_or l k d)) → P i a → (k : ℕ) → P k (get_or (set l i a) k d)
set_all P [] i a d h x k = h k
set_all P (y ∷ ys) zero a d h x zero = x
set_all P (y ∷ ys) zero a d h x (suc k) = h (suc k)
set_all P (y ∷ ys) (suc i) a d h x zero = h zero
set_all P (y ∷ ys) (suc i) a d h x (suc k) = set_all (λ k. P (suc k)) ys i a d (λ k. h (suc k)) x k

put_place_holds : (P : ℕ → Transaction → Type 0) (ts : List Transaction) (i : ℕ) (t : Transaction) → ((k : ℕ) → P k (place_of ts k)) → P i t
    → (k : ℕ) → P k (place_of (put_place ts i t) k)
put_place_holds P ts zero t h x k = h k
put_place_holds P ts (suc i) t h x zero = h zero
put_place_holds P ts (suc i) t h x (suc k) = set_all (λ k. P (suc k)) ts i t blank (λ k. h (suc k)) x k

snoc_all : {A : Type 0} (P : ℕ → A → Type 0) (l : List A) (a d : A) → ((k : ℕ) → P k (get_or l k d)) → P (length l) a → (k : ℕ) → P k (get_or (l ++ (a ∷ [])) k d)
snoc_all P [] a d h x zero = x
snoc_all P [] a d h x (suc k) = h (suc k)
snoc_all P (y ∷ ys) a d h x zero = h zero
snoc_all P (y ∷ ys) a d h x (suc k) = snoc_all (λ k. P (suc k)) ys a d (λ k. h (suc k)) x k

add_place : (P : ℕ → Transaction → Type 0) (ts : List Transaction) (t : Transaction) → ((k : ℕ) → P k (place_of ts k)) → P (suc (length ts)) t
    → (k : ℕ) → P k (place_of (ts ++ (t ∷ [])) k)
add_place P ts t h x zero = h zero
add_place P ts t h x (suc k) = snoc_all (λ k. P (suc k)) ts t blank (λ k. h (suc k)) x k

-- ---- an entry by its number, with b folded: place j is number b + j
module _ (P : ℕ → Transaction → Type 0) (b : ℕ) where
  -- of every number, from the folded ones and the places
  by_place : (ts : List Transaction) → ((k : ℕ) → k ≤ b → P k blank) → ((j : ℕ) → 1 ≤ j → P (b + j) (place_of ts j)) → (k : ℕ) → P k (place_of ts (k - b))
  by_place ts f h k = go (leb k b) refl
    where
      go : (x : Bool) → leb k b ≡ x → P k (place_of ts (k - b))
      go true e = let z : k - b ≡ 0 = omega (arith, leb-true k b e) in rw z (f k (leb-true k b e))
      go false e = let z : b + (k - b) ≡ k = omega (arith, leb-false k b e) in rw z at (h (k - b) (omega (arith, leb-false k b e)))

  at_place : (ts : List Transaction) → ((k : ℕ) → P k (place_of ts (k - b))) → (j : ℕ) → P (b + j) (place_of ts j)
  at_place ts h j = let z : b + j - b ≡ j = omega arith in rw z at (h (b + j))

  front : (ts : List Transaction) → ((k : ℕ) → P k (place_of ts (k - b))) → (k : ℕ) → k ≤ b → P k blank
  front ts h k e = let z : k - b ≡ 0 = omega arith in rw z at (h k)

pub put_all : (P : ℕ → Transaction → Type 0) (l : Log) (i : ℕ) (t : Transaction) → ((k : ℕ) → P k (entry_of l k)) → P i t
    → (k : ℕ) → P k (entry_of (put_entry l i t) k)
put_all P l i t h x = go (leb i l.folded.0) refl
  where
    go : (y : Bool) → leb i l.folded.0 ≡ y → (k : ℕ) → P k (entry_of (put_entry l i t) k)
    go true e = let z : i - l.folded.0 ≡ 0 = omega (arith, leb-true i l.folded.0 e) in rw z h
    go false e =
        let b = l.folded.0 in
        let z : b + (i - b) ≡ i = omega (arith, leb-false i b e) in
        by_place P b _ (front P b l.entries h) (λ j p. put_place_holds (λ j. P (b + j)) l.entries (i - b) t (at_place P b l.entries h) (rw z x) j)

pub add_all : (P : ℕ → Transaction → Type 0) (l : Log) (t : Transaction) → ((k : ℕ) → P k (entry_of l k)) → P (suc (last l)) t
    → (k : ℕ) → P k (entry_of (grown l t) k)
add_all P l t h x =
    let b = l.folded.0 in
    let z : b + suc (length l.entries) ≡ suc (last l) = omega arith in
    by_place P b _ (front P b l.entries h) (λ j p. add_place (λ j. P (b + j)) l.entries t (at_place P b l.entries h) (rw z x) j)

pub none_all : (P : ℕ → Transaction → Type 0) → ((k : ℕ) → P k blank) → (k : ℕ) → P k (entry_of (unfolded []) k)
none_all P h = by_place P 0 [] (λ k b. h k) (λ j b. let z : 0 + j ≡ j = omega arith in rw z (none j))
  where
    none : (j : ℕ) → P j (place_of [] j)
    none zero = h zero
    none (suc j) = h (suc j)

pub length_place : (ts : List Transaction) (i : ℕ) (t : Transaction) → length (put_place ts i t) ≡ length ts
length_place ts zero t = refl
length_place ts (suc i) t = length-set ts i t

pub last_put : (l : Log) (i : ℕ) (t : Transaction) → last (put_entry l i t) ≡ last l
last_put l i t = ap (λ n. l.folded.0 + n) (length_place l.entries (i - l.folded.0) t)

pub entry_put : (l : Log) (i : ℕ) (t : Transaction) → l.folded.0 < i → i ≤ last l → entry_of (put_entry l i t) i ≡ t
entry_put l i t p q = go (i - l.folded.0) (omega arith) (omega arith)
  where
    go : (j : ℕ) → 1 ≤ j → j ≤ length l.entries → place_of (put_place l.entries j t) j ≡ t
    go zero p q = absurd (omega arith)
    go (suc j) p q = get_or-set_same l.entries j t blank q

pub length_add : (ts : List Transaction) (t : Transaction) → length (ts ++ (t ∷ [])) ≡ suc (length ts)
length_add ts t = length-append ts (t ∷ []) ∙ (let z : length ts + 1 ≡ suc (length ts) = omega arith in z)

pub last_add : (l : Log) (t : Transaction) → last (grown l t) ≡ suc (last l)
last_add l t = let e = length_add l.entries t in omega (arith, e)

-- an entry is blank but where it is kept
pub entry_cases : (P : Transaction → Type 0) (l : Log) (k : ℕ) → P blank → (l.folded.0 < k → k ≤ last l → P (entry_of l k)) → P (entry_of l k)
entry_cases P l k h f = go (k - l.folded.0) refl (leb k (last l)) refl
  where
    past : (j : ℕ) → length l.entries < j → place_of l.entries j ≡ blank
    past zero p = refl
    past (suc j) p = get_or-eq_default l.entries blank (omega arith)

    go : (j : ℕ) → k - l.folded.0 ≡ j → (b : Bool) → leb k (last l) ≡ b → P (entry_of l k)
    go zero e b x = rw e h
    go (suc j) e true x = f (omega arith) (leb-true k (last l) x)
    go (suc j) e false x = rw (past (k - l.folded.0) (omega (arith, leb-false k (last l) x))) h

snoc_last : (ts : List Transaction) (t : Transaction) → get_or (ts ++ (t ∷ [])) (length ts) blank ≡ t
snoc_last [] t = refl
snoc_last (x ∷ xs) t = snoc_last xs t

pub entry_add : (l : Log) (t : Transaction) → entry_of (grown l t) (suc (last l)) ≡ t
entry_add l t = let z : suc (last l) - l.folded.0 ≡ suc (length l.entries) = omega arith in rw z (snoc_last l.entries t)

-- nothing stands at 0, nor past the last number
pub entry_zero : (l : Log) → entry_of l 0 ≡ blank
entry_zero l = let z : 0 - l.folded.0 ≡ 0 = omega arith in rw z refl

pub entry_folded : (l : Log) (k : ℕ) → k ≤ l.folded.0 → entry_of l k ≡ blank
entry_folded l k b = entry_cases (λ t. t ≡ blank) l k refl (λ p q. absurd (omega arith))

pub entry_past : (l : Log) → entry_of l (suc (last l)) ≡ blank
entry_past l = entry_cases (λ t. t ≡ blank) l (suc (last l)) refl (λ p q. absurd (omega arith))

-- a fold up to b keeps the entries after b, by their numbers
pub entry_fold : (l : Log) (vs : List ℕ) (b : ℕ) → l.folded.0 ≤ b → (k : ℕ) → b < k → entry_of (folded_to (with_base l vs) (num b)) k ≡ entry_of l k
entry_fold l vs b p k q = go (k - b) refl (k - l.folded.0) refl
  where
    go : (j : ℕ) → k - b ≡ j → (i : ℕ) → k - l.folded.0 ≡ i → place_of (drop (b - l.folded.0) l.entries) j ≡ place_of l.entries i
    go zero x i y = absurd (omega arith)
    go (suc j) x zero y = absurd (omega arith)
    go (suc j) x (suc i) y =
        let z : b - l.folded.0 + j ≡ i = omega arith in
        get_or-drop (b - l.folded.0) l.entries j blank ∙ ap (λ n. get_or l.entries n blank) z

pub last_fold : (l : Log) (vs : List ℕ) (b : ℕ) → l.folded.0 ≤ b → b ≤ last l → last (folded_to (with_base l vs) (num b)) ≡ last l
last_fold l vs b p q = let e = length-drop (b - l.folded.0) l.entries in omega (arith, e)

-- ---- a test of every entry
pub all_true : (p : ℕ → Transaction → Bool) (k : ℕ) (l : List Transaction) → all_from p k l ≡ true → (j : ℕ) → j < length l → p (k + j) (get_or l j blank) ≡ true
unfolding all_from
all_true p k [] e j b = absurd (omega arith)
all_true p k (t ∷ ts) e zero b = let z : k + 0 ≡ k = omega arith in rw z (and_left (p k t) _ e)
all_true p k (t ∷ ts) e (suc j) b = let z : k + suc j ≡ k + 1 + j = omega arith in rw z (all_true p (k + 1) ts (and_right (p k t) _ e) j (omega arith))

pub and_both : (a b : Bool) → a ≡ true → b ≡ true → (a && b) ≡ true
and_both a b e f = simp (e, f)

pub true_all : (p : ℕ → Transaction → Bool) (k : ℕ) (l : List Transaction) → ((j : ℕ) → j < length l → p (k + j) (get_or l j blank) ≡ true) → all_from p k l ≡ true
unfolding all_from
true_all p k [] h = refl
true_all p k (t ∷ ts) h =
    and_both (p k t) _ (let z : k ≡ k + 0 = omega arith in rw z (h 0 (omega arith)))
    (true_all p (k + 1) ts (λ j b. let z : k + 1 + j ≡ k + suc j = omega arith in rw z (h (suc j) (omega arith))))

-- of every entry kept, by its number
pub entries_true : (p : ℕ → Transaction → Bool) (l : Log) → all_entries p l ≡ true → (k : ℕ) → l.folded.0 < k → k ≤ last l → p k (entry_of l k) ≡ true
entries_true p l e k a b = go (k - l.folded.0) (omega arith)
  where
    go : (j : ℕ) → l.folded.0 + j ≡ k → p k (place_of l.entries j) ≡ true
    go zero z = absurd (omega arith)
    go (suc j) z = let y : suc l.folded.0 + j ≡ k = omega arith in rw y at (all_true p (suc l.folded.0) l.entries e j (omega arith))

pub true_entries : (p : ℕ → Transaction → Bool) (l : Log) → ((k : ℕ) → l.folded.0 < k → k ≤ last l → p k (entry_of l k) ≡ true) → all_entries p l ≡ true
true_entries p l h =
    true_all p (suc l.folded.0) l.entries
    (λ j b. let z : suc l.folded.0 + j - l.folded.0 ≡ suc j = omega arith in rw z at (h (suc l.folded.0 + j) (omega arith) (omega arith)))

-- ---- values keep their number
length_laying : (b : Bool) (l : List ℕ) (p v : ℕ) → length (laying b l p v) ≡ length l
length_laying true l p v = length-set l p v
length_laying false l p v = refl

pub length_over : (ps vs : List ℕ) (n : ℕ) (l : List ℕ) → length (over ps vs n l) ≡ length l
unfolding over
length_over ps vs n l =
    length_laying (ltb 3 n) _ (get_or ps 3 0) (get_or vs 3 0)
    ∙ length_laying (ltb 2 n) _ (get_or ps 2 0) (get_or vs 2 0)
    ∙ length_laying (ltb 1 n) _ (get_or ps 1 0) (get_or vs 1 0)
    ∙ length_laying (ltb 0 n) _ (get_or ps 0 0) (get_or vs 0 0)

pub length_laid : (v : Lay) (t : Transaction) (l : List ℕ) → length (laid_over v t l) ≡ length l
length_laid Nothing t l = refl
length_laid Values t l = length_over t.paths t.values t.count l
length_laid Kept t l = length_over t.paths t.kept t.count l

pub length_owned : (v : Lay) (t : Transaction) (i : ℕ) (l : List ℕ) → length (owned_over v t i l) ≡ length l
length_owned Nothing t i l = refl
length_owned Values t i l = length_over t.paths (in_each i) t.count l
length_owned Kept t i l = length_over t.paths t.owners t.count l

length_if : (c : Bool) (t : Transaction) (vs : List ℕ) → length (laying_if c t vs) ≡ length vs
length_if true t vs = length_over t.paths t.values t.count vs
length_if false t vs = refl

pub length_base : (l : Log) (b : ℕ) (ks vs : List ℕ) → length (base_over l b ks vs) ≡ length vs
unfolding base_over
length_base l b [] vs = refl
length_base l b (k ∷ ks) vs = length_if (leb k b) (entry_of l k) (base_over l b ks vs) ∙ length_base l b ks vs

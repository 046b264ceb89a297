-- Order 6: a list is refused for its first bad entry and for nothing else (Imports says what that is), and the places that the
-- judging keeps are those of the live changes. Assumes nothing.
use Prim.Native.Nat.{ℕ, zero, suc, ◌+◌, ◌-◌, ◌≤◌, ◌<◌}
use native.Mathlib.Omega.{arith}
use mathlib.Core.List.{List, [], ◌∷◌}
use mathlib.Core.Bool.{Bool, true, false, true≢false}
use mathlib.Core.Path.{◌≡◌, refl, sym, ap, ◌∙◌, subst}
use lib.Dec.{eqb, ltb, leb}
use lib.ListN.{length, get_or, drop, length-drop}
use borrow.Author.Tests.{eqb-true, eq-eqb, leb-true, ltb-true, leb-false, ltb-false}
use Rattle.machine.specs.Calls.{Pair, valid_change}
use Rattle.machine.specs.Import.{Entry, adds, undoes, neither, Verdict, bad_unless, is_newest, others, judged_from, judged, number_at}
use Rattle.machine.specs.Imports.{entry_after, Named, Live, Newest, Good, change, rollback, Bad, pairs, full, names, kind, GoodUpTo, FirstBad, Verdicts, accepted, long, refused}

-- ---- entries
abbrev is_change : Entry → Bool
is_change (adds ps) = true
is_change (undoes p) = false
is_change neither = false

abbrev place_in : Entry → ℕ
place_in (adds ps) = 0
place_in (undoes p) = p
place_in neither = 0

pub no_change : {A : Type 0} {e : Entry} {ps : List Pair} {p : ℕ} → e ≡ adds ps → e ≡ undoes p → A
no_change x y = absurd (true≢false (ap is_change (sym x ∙ y)))

pub same_place : {e : Entry} {p q : ℕ} → e ≡ undoes p → e ≡ undoes q → p ≡ q
same_place x y = ap place_in (sym x ∙ y)

-- the k-th entry is the first of those from there on
pub record Onwards (es : List Entry) (k : ℕ) (e : Entry) (after : List Entry) : Type 0 where
  pub inside : k < length es
  pub is : entry_after es k ≡ e
  pub rest : drop (suc k) es ≡ after

pub onwards : (es : List Entry) (k : ℕ) (e : Entry) (rest : List Entry) → drop k es ≡ e ∷ rest → Onwards es k e rest
onwards [] zero e rest x = let z : ◌≡◌ {A = ℕ} 0 (suc (length rest)) = ap length x in absurd (omega arith)
onwards [] (suc k) e rest x = let z : ◌≡◌ {A = ℕ} 0 (suc (length rest)) = ap length x in absurd (omega arith)
onwards (y ∷ es) zero e rest x = record { inside = omega arith; is = ap (λ l. get_or l 0 neither) x; rest = ap (drop 1) x }
onwards (y ∷ es) (suc k) e rest x = let o = onwards es k e rest x in record { inside = omega (arith, o.inside); is = o.is; rest = o.rest }

-- ---- the number of changes up to a place
pub number_change : (es : List Entry) (k : ℕ) {ps : List Pair} → k < length es → entry_after es k ≡ adds ps → number_at es (suc k) ≡ suc (number_at es k)
unfolding number_at
number_change [] k l e = absurd (omega arith)
number_change (adds qs ∷ es) zero l e = refl
number_change (undoes q ∷ es) zero l e = absurd (true≢false (sym (ap is_change e)))
number_change (neither ∷ es) zero l e = absurd (true≢false (sym (ap is_change e)))
number_change (adds qs ∷ es) (suc k) l e = ap suc (number_change es k (omega arith) e)
number_change (undoes q ∷ es) (suc k) l e = number_change es k (omega arith) e
number_change (neither ∷ es) (suc k) l e = number_change es k (omega arith) e

pub number_rollback : (es : List Entry) (k : ℕ) {p : ℕ} → k < length es → entry_after es k ≡ undoes p → number_at es (suc k) ≡ number_at es k
unfolding number_at
number_rollback [] k l e = absurd (omega arith)
number_rollback (adds qs ∷ es) zero l e = absurd (true≢false (ap is_change e))
number_rollback (undoes q ∷ es) zero l e = refl
number_rollback (neither ∷ es) zero l e = refl
number_rollback (adds qs ∷ es) (suc k) l e = ap suc (number_rollback es k (omega arith) e)
number_rollback (undoes q ∷ es) (suc k) l e = number_rollback es k (omega arith) e
number_rollback (neither ∷ es) (suc k) l e = number_rollback es k (omega arith) e

pub number_rises : (es : List Entry) (j k : ℕ) → j ≤ k → number_at es j ≤ number_at es k
unfolding number_at
number_rises es zero k l = omega arith
number_rises es (suc j) zero l = absurd (omega arith)
number_rises [] (suc j) (suc k) l = omega arith
number_rises (adds ps ∷ es) (suc j) (suc k) l = let z = number_rises es j k (omega arith) in omega (arith, z)
number_rises (undoes p ∷ es) (suc j) (suc k) l = number_rises es j k (omega arith)
number_rises (neither ∷ es) (suc j) (suc k) l = number_rises es j k (omega arith)

-- ---- the places kept are those of the live changes, the newest first
pub data In (p : ℕ) : List ℕ → Type 0 where
  here : {x : ℕ} {xs : List ℕ} → p ≡ x → In p (x ∷ xs)
  there : {x : ℕ} {xs : List ℕ} → In p xs → In p (x ∷ xs)

unfoldable pub Falls : ℕ → List ℕ → Type 0
Falls b [] = Unit {0}
Falls b (x ∷ xs) = (x < b) × Falls x xs

pub falls_low : (b : ℕ) (xs : List ℕ) → Falls b xs → (p : ℕ) → In p xs → p < b
unfolding Falls
falls_low b [] f p i = elim i [ ]
falls_low b (x ∷ xs) f p (here e) = omega (arith, e, f.0)
falls_low b (x ∷ xs) f p (there i) = let z = falls_low x xs f.1 p i in omega (arith, z, f.0)

falls_higher : (a b : ℕ) (xs : List ℕ) → a ≤ b → Falls a xs → Falls b xs
unfolding Falls
falls_higher a b [] l f = tt
falls_higher a b (x ∷ xs) l f = (omega (arith, f.0), f.1)

pub record Kept (es : List Entry) (k : ℕ) (ls : List ℕ) : Type 0 where
  pub live : (p : ℕ) → In p ls → Live es k p
  pub all : (p : ℕ) → Live es k p → In p ls
  pub falls : Falls (suc k) ls
  pub low : (p : ℕ) → Named es k p → p ≤ k

-- one entry more
pub named_before : {es : List Entry} {k p : ℕ} → Named es k p → Named es (suc k) p
named_before n = record { before = n.before; early = omega (arith, n.early); names = n.names }

pub named_cases : {A : Type 0} (es : List Entry) (k p : ℕ) → Named es (suc k) p → (entry_after es k ≡ undoes p → A) → (Named es k p → A) → A
named_cases {A} es k p n f g = go (ltb n.before k) refl
  where
    go : (b : Bool) → ltb n.before k ≡ b → A
    go true e = g (record { before = n.before; early = ltb-true _ k e; names = n.names })
    go false e =
        let z : n.before ≡ k = omega (arith, n.early, ltb-false n.before k e) in
        f (subst (λ j. entry_after es j ≡ undoes p) z n.names)

live_cases : {A : Type 0} (es : List Entry) (k p : ℕ) → (l : Live es (suc k) p) → (p ≡ suc k → entry_after es k ≡ adds l.pairs → A) → (Live es k p → A) → A
live_cases {A} es k p l f g = go (ltb l.before k) refl
  where
    go : (b : Bool) → ltb l.before k ≡ b → A
    go true e =
        g
        (record {
          before = l.before;
          early = ltb-true _ k e;
          place = l.place;
          pairs = l.pairs;
          change = l.change;
          stands = λ n. l.stands (named_before n);
        })
    go false e =
        let z : l.before ≡ k = omega (arith, l.early, ltb-false l.before k e) in
        f (l.place ∙ ap suc z) (subst (λ j. entry_after es j ≡ adds l.pairs) z l.change)

live_later : {es : List Entry} {k p : ℕ} → Live es k p → (entry_after es k ≡ undoes p → ⊥) → Live es (suc k) p
live_later {es} {k} {p} l f =
    record {
      before = l.before;
      early = omega (arith, l.early);
      place = l.place;
      pairs = l.pairs;
      change = l.change;
      stands = λ n. named_cases es k p n f l.stands;
    }

pub kept_none : (es : List Entry) → Kept es 0 []
unfolding Falls
kept_none es = record { live = λ p i. absurd (omega (arith, falls_low 0 [] tt p i)); all = λ p l. absurd (omega (arith, l.early)); falls = tt; low = λ p n. absurd (omega (arith, n.early)) }

module _ {es : List Entry} {k : ℕ} {ls : List ℕ} where
  pub kept_change : {ps : List Pair} → entry_after es k ≡ adds ps → Kept es k ls → Kept es (suc k) (suc k ∷ ls)
  unfolding Falls
  kept_change {ps} e x =
      record {
        live = lives;
        all = λ p l. live_cases es k p l (λ z w. here z) (λ m. there (x.all p m));
        falls = (omega arith, x.falls);
        low = λ p n. named_cases es k p n (λ z. no_change e z) (λ m. let z = x.low p m in omega (arith, z));
      }
    where
      new : (p : ℕ) → p ≡ suc k → Named es (suc k) p → ⊥
      new p z n = named_cases es k p n (λ w. no_change e w) (λ m. let w = x.low p m in omega (arith, w, z))

      lives : (p : ℕ) → In p (suc k ∷ ls) → Live es (suc k) p
      lives p (here z) = record { before = k; early = omega arith; place = z; pairs = ps; change = e; stands = new p z }
      lives p (there i) = live_later (x.live p i) (λ w. no_change e w)

  pub kept_rollback : {p : ℕ} → entry_after es k ≡ undoes p → Kept es k (p ∷ ls) → Kept es (suc k) ls
  unfolding Falls
  kept_rollback {p} e x =
      record {
        live = λ q i. live_later (x.live q (there i)) (λ w. let z = same_place e w in let f = falls_low p ls x.falls.1 q i in omega (arith, z, f));
        all = λ q l. live_cases es k q l (λ z w. no_change w e) (λ m. stay q l (x.all q m));
        falls = falls_higher p (suc (suc k)) ls (omega (arith, x.falls.0)) x.falls.1;
        low = λ q n. named_cases es k q n (λ w. let z = same_place e w in omega (arith, z, x.falls.0)) (λ m. let z = x.low q m in omega (arith, z));
      }
    where
      stay : (q : ℕ) → Live es (suc k) q → In q (p ∷ ls) → In q ls
      stay q l (here z) = absurd (l.stands (record { before = k; early = omega arith; names = e ∙ ap undoes (sym z) }))
      stay q l (there i) = i

-- the newest of them
pub kept_newest : (es : List Entry) (k : ℕ) (ls : List ℕ) → Kept es k ls → (p : ℕ) → is_newest p ls ≡ true → Newest es k p
unfolding Falls
kept_newest es k [] x p e = absurd (true≢false (sym e))
kept_newest es k (y ∷ ls) x p e = record { live = x.live p (here (eqb-true p y e)); newest = λ q l m. higher q l (x.all q m) }
  where
    higher : (q : ℕ) → p < q → In q (y ∷ ls) → ⊥
    higher q l (here z) = omega (arith, z, l, eqb-true p y e)
    higher q l (there i) = let w = falls_low y ls x.falls.1 q i in omega (arith, w, l, eqb-true p y e)

-- and so it is the first
pub record Heads (p : ℕ) (ls : List ℕ) : Type 0 where
  pub rest : List ℕ
  pub is : ls ≡ p ∷ rest

pub newest_kept : (es : List Entry) (k : ℕ) (ls : List ℕ) → Kept es k ls → (p : ℕ) → Newest es k p → Heads p ls
unfolding Falls
newest_kept es k ls x p n = go ls x (x.all p n.live)
  where
    go : (ls : List ℕ) → Kept es k ls → In p ls → Heads p ls
    go [] x i = elim i [ ]
    go (y ∷ ys) x (here z) = record { rest = ys; is = ap (λ a. a ∷ ys) (sym z) }
    go (y ∷ ys) x (there i) = absurd (n.newest y (falls_low y ys x.falls.1 p i) (x.live y (here refl)))

heads_newest : (p : ℕ) (ls : List ℕ) → Heads p ls → is_newest p ls ≡ true
heads_newest p ls h = subst (λ l. is_newest p l ≡ true) (sym h.is) (eq-eqb p p refl)

-- ---- the walk
good_more : (es : List Entry) (k : ℕ) → GoodUpTo es k → Good es k (entry_after es k) → GoodUpTo es (suc k)
good_more es k f g j l = go (ltb j k) refl
  where
    go : (b : Bool) → ltb j k ≡ b → Good es j (entry_after es j)
    go true e = f j (ltb-true j k e)
    go false e = let z : k ≡ j = omega (arith, l, ltb-false j k e) in subst (λ i. Good es i (entry_after es i)) z g

module _ (es : List Entry) (short : length es ≤ 256) where
  stop : (k a : ℕ) (e : Entry) → k < length es → entry_after es k ≡ e → GoodUpTo es k → Bad es k e a → Verdicts es (record { answer = a; position = suc k })
  stop k a e l z f b = refused short (record { before = k; inside = l; position = refl; good = f; bad = subst (λ e. Bad es k e a) (sym z) b })

  walk : (rest : List Entry) (k n : ℕ) (ls : List ℕ) → drop k es ≡ rest → n ≡ number_at es k → Kept es k ls → GoodUpTo es k → Verdicts es (judged_from (suc k) n ls rest)
  unfolding judged_from
  walk [] k n ls d m x f = accepted short (λ j l. f j (let z = ap length d in let w = length-drop k es in omega (arith, z, w, l)))
  walk (adds ps ∷ rest) k n ls d m x f =
      let o = onwards es k (adds ps) rest d in
      go (valid_change ps) refl (ltb n 128) refl o
      (λ v r. walk rest (suc k) (suc n) (suc k ∷ ls) o.rest (ap suc m ∙ sym (number_change es k o.inside o.is)) (kept_change o.is x)
      (good_more es k f (subst (Good es k) (sym o.is) (change v (omega (arith, m, ltb-true n 128 r))))))
    where
      go : (a : Bool) → valid_change ps ≡ a → (b : Bool) → ltb n 128 ≡ b → Onwards es k (adds ps) rest
          → (let v = judged_from (suc (suc k)) (suc n) (suc k ∷ ls) rest in
          (valid_change ps ≡ true → ltb n 128 ≡ true → Verdicts es v) → Verdicts es (bad_unless 3 (suc k) a (bad_unless 4 (suc k) b v)))
      go true v true r o f = f v r
      go true v false r o g = stop k 4 (adds ps) o.inside o.is f (full v (omega (arith, m, ltb-false n 128 r)))
      go false v b r o g = stop k 3 (adds ps) o.inside o.is f (pairs v)
  walk (undoes p ∷ rest) k n ls d m x f =
      let o = onwards es k (undoes p) rest d in
      go (is_newest p ls) refl o
      (λ v. let h = newest_kept es k ls x p (kept_newest es k ls x p v) in
      walk rest (suc k) n (others ls) o.rest (m ∙ sym (number_rollback es k o.inside o.is))
      (subst (Kept es (suc k)) (ap others (sym h.is)) (kept_rollback o.is (subst (Kept es k) h.is x)))
      (good_more es k f (subst (Good es k) (sym o.is) (rollback (kept_newest es k ls x p v)))))
    where
      go : (a : Bool) → is_newest p ls ≡ a → Onwards es k (undoes p) rest
          → (let v = judged_from (suc (suc k)) n (others ls) rest in (is_newest p ls ≡ true → Verdicts es v) → Verdicts es (bad_unless 16 (suc k) a v))
      go true v o g = g v
      go false v o g =
          stop k 16 (undoes p) o.inside o.is f
          (names (λ w. true≢false (sym (heads_newest p ls (newest_kept es k ls x p w)) ∙ v)))
  walk (neither ∷ rest) k n ls d m x f = let o = onwards es k neither rest d in stop k 16 neither o.inside o.is f kind

-- a list is accepted, too long, or refused for its first bad entry
pub judged_so : (es : List Entry) → Verdicts es (judged es)
unfolding judged number_at
judged_so es = go (leb (length es) 256) refl
  where
    go : (b : Bool) → leb (length es) 256 ≡ b → Verdicts es (bad_unless 2 0 b (judged_from 1 0 [] es))
    go true e = walk es (leb-true (length es) 256 e) es 0 0 [] refl refl (kept_none es) (λ j l. absurd (omega arith))
    go false e = long (leb-false (length es) 256 e)

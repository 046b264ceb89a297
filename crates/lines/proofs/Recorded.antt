-- The lines of a log's record: lists put text by text, and the bytes that each line can have. Assumes nothing.
use Prim.Native.Nat.{ℕ, zero, suc, ◌+◌, ◌*◌, ◌≤◌, ◌<◌}
use mathlib.Core.Path.{◌≡◌, refl, ap, ap₂, sym, subst, ◌∙◌}
use mathlib.Core.List.{List, [], ◌∷◌, ◌++◌, append_assoc, append-nil}
use mathlib.Core.Bool.{Bool, true, false, cond}
use native.Mathlib.Omega.{arith}
use native.Mathlib.Nat.{mul-suc, add-zero}
use native.Mathlib.Numerals.{add-one}
use borrow.Author.Tests.{lt-ltb, le-ltb}
use lib.Dec.{ltb}
use lib.ListN.{length, get_or, take, set, length-append}
use Rattle.std.proofs.lemmas.List.{get_or-take}
use Rattle.kinds.specs.declared.Transaction.{Transaction}
use Rattle.lines.specs.Text.{text}
use Rattle.lines.specs.Decimal.{decimal}
use Rattle.lines.specs.Replies.{filled_from, filled, Put}
use Rattle.lines.specs.Record.{comma, listed, comma_in, next_in, pair_text, pairs_text, values_text, entry_line, folded_line, held_line, number_room, pair_room, entry_room, folded_room, held_room}
use Rattle.lines.proofs.Putting.{put_then, put_byte, decimal_short, filled_short}

-- ---- nothing put, and a comma
pub put_none : (l : List ℕ) (at : ℕ) → Put l at [] at l
put_none l at = record { ends = sym (add-zero at); holds = refl }

module _ (l : List ℕ) (start at : ℕ) where
  pub put_comma : start < at → Put l at (comma_in start at) (at + 1) (set l at 44)
  put_comma h = rw (lt-ltb start at h) (put_byte l at 44)

  pub put_no_comma : at ≤ start → Put l at (comma_in start at) at l
  put_no_comma h = rw (le-ltb start at h) (put_none l at)

pub comma_short : (start at : ℕ) → length (comma_in start at) ≤ 1
comma_short start at = by (ltb start at)
  where
    by : (b : Bool) → length (cond b (text ",") []) ≤ 1
    by true = omega arith
    by false = omega arith

-- where the list has come to is told by its text
comma_is : (t : List ℕ) (start at : ℕ) → at ≡ start + length t → comma_in start at ≡ comma t
comma_is [] start at e = let h : at ≤ start = omega arith in rw (le-ltb start at h) refl
comma_is (c ∷ t) start at e = let h : start < at = omega arith in rw (lt-ltb start at h) refl

-- ---- what has room
pub keyed_fits : (key : List ℕ) (n at size : ℕ) → at + (length key + 10) ≤ size → at + length (key ++ decimal n) ≤ size
keyed_fits key n at size h = omega (arith, length-append key (decimal n), decimal_short n)

pub keyed_ends : (key : List ℕ) (n : ℕ) {l m : List ℕ} {at e : ℕ} → Put l at (key ++ decimal n) e m → e ≤ at + (length key + 10)
keyed_ends key n p = omega (arith, p.ends, length-append key (decimal n), decimal_short n)

pub number_short : (start at n : ℕ) → length (comma_in start at ++ decimal n) ≤ number_room
number_short start at n = omega (arith, length-append (comma_in start at) (decimal n), comma_short start at, decimal_short n)

pair_length : (p v : ℕ) → length (pair_text p v) ≤ 21
pair_length p v =
    omega (arith, length-append (decimal p) (text ":" ++ decimal v), length-append (text ":") (decimal v), decimal_short p, decimal_short v)

pub pair_short : (start at p v : ℕ) → length (comma_in start at ++ pair_text p v) ≤ pair_room
pair_short start at p v = omega (arith, length-append (comma_in start at) (pair_text p v), comma_short start at, pair_length p v)

-- ---- a list, place by place
module _ (p : ℕ → Bool) (f : ℕ → List ℕ) where
  pub listed_none : (l : List ℕ) (at : ℕ) → Put l at (listed p f 0) at l
  unfolding listed
  listed_none l at = put_none l at

  module _ {l m : List ℕ} {start at : ℕ} (k : ℕ) (x : Put l start (listed p f k) at m) where
    pub listed_more : p k ≡ true → {e : ℕ} {n : List ℕ} → Put m at (comma_in start at ++ f k) e n → Put l start (listed p f (k + 1)) e n
    unfolding listed
    listed_more h {e} {n} y =
        let z : listed p f (suc k) ≡ listed p f k ++ (comma (listed p f k) ++ f k) =
        ap (λ (b : Bool). cond b (listed p f k ++ (comma (listed p f k) ++ f k)) (listed p f k)) h in
        let w : Put m at (comma (listed p f k) ++ f k) e n = subst (λ (t : List ℕ). Put m at (t ++ f k) e n) (comma_is (listed p f k) start at x.ends) y in
        subst (λ (t : List ℕ). Put l start t e n) (sym z ∙ ap (listed p f) (sym (add-one k))) (put_then x w)

    pub listed_same : p k ≡ false → Put l start (listed p f (k + 1)) at m
    unfolding listed
    listed_same h =
        let z : listed p f (suc k) ≡ listed p f k =
        ap (λ (b : Bool). cond b (listed p f k ++ (comma (listed p f k) ++ f k)) (listed p f k)) h in
        subst (λ (t : List ℕ). Put l start t at m) (sym z ∙ ap (listed p f) (sym (add-one k))) x

  pub listed_whole : {l m : List ℕ} {at e : ℕ} (k n : ℕ) → k ≤ n → n ≤ k → Put l at (listed p f k) e m → Put l at (listed p f n) e m
  listed_whole {l} {m} {at} {e} k n h i x = let z : k ≡ n = omega arith in subst (λ (j : ℕ). Put l at (listed p f j) e m) z x

  -- so many bytes for each, its comma too
  pub listed_short : (r : ℕ) → ((j : ℕ) → length (f j) + 1 ≤ r) → (k : ℕ) → length (listed p f k) ≤ r * k
  unfolding listed
  listed_short r h zero = omega arith
  listed_short r h (suc k) = by (listed_short r h k) (p k)
    where
      comma_length : (t : List ℕ) → length (comma t) ≤ 1
      comma_length [] = omega arith
      comma_length (c ∷ t) = omega arith

      by : length (listed p f k) ≤ r * k → (b : Bool) → length (cond b (listed p f k ++ (comma (listed p f k) ++ f k)) (listed p f k)) ≤ r * suc k
      by i true =
          omega (arith, i, h k, mul-suc r k, comma_length (listed p f k), length-append (listed p f k) (comma (listed p f k) ++ f k), length-append (comma (listed p f k)) (f k))
      by i false = omega (arith, i, mul-suc r k)

  -- what is put at a place: its text where it passes, else nothing
  pub listed_next : {l m : List ℕ} {start at e : ℕ} {n : List ℕ} (k : ℕ) → Put l start (listed p f k) at m → Put m at (next_in (p k) start at (f k)) e n
      → Put l start (listed p f (k + 1)) e n
  listed_next {l} {m} {start} {at} {e} {n} k x y = by (p k) refl y
    where
      by : (b : Bool) → p k ≡ b → Put m at (next_in b start at (f k)) e n → Put l start (listed p f (k + 1)) e n
      by true h z = listed_more k x h z
      by false h z = subst (λ (t : List ℕ). Put l start t e n) (append-nil (listed p f (k + 1))) (put_then (listed_same k x h) z)

pub next_short : (b : Bool) (start at : ℕ) (t : List ℕ) (r : ℕ) → length (comma_in start at ++ t) ≤ r → length (next_in b start at t) ≤ r
next_short true start at t r h = h
next_short false start at t r h = omega arith

-- ---- the lines
three : (a b c d e f t : List ℕ) → (a ++ b) ++ ((c ++ d) ++ ((e ++ f) ++ t)) ≡ a ++ (b ++ (c ++ (d ++ (e ++ (f ++ t)))))
three a b c d e f t = simp append_assoc

pub marks_put : (c k u : ℕ) {l m n o q : List ℕ} {at e f g h : ℕ} → Put l at (text " class=" ++ decimal c) e m → Put m e (text " took=" ++ decimal k) f n
    → Put n f (text " undone=" ++ decimal u) g o → Put o g (text "\n") h q → Put l at (filled (text " class=# took=# undone=#\n") (c ∷ k ∷ u ∷ [])) h q
unfolding filled_from
marks_put c k u {l} {q = q} {at} {h = h} w x y z =
    subst (λ (t : List ℕ). Put l at t h q) (three (text " class=") (decimal c) (text " took=") (decimal k) (text " undone=") (decimal u) (text "\n"))
    (put_then w (put_then x (put_then y z)))

two : (a b c t : List ℕ) → (a ++ b) ++ (c ++ t) ≡ (a ++ (b ++ c)) ++ t
two a b c t = simp append_assoc

pub entry_put : (n : ℕ) (t : Transaction) (c k u : ℕ) {l m o q r : List ℕ} {at e f g h : ℕ} → Put l at (text "number=" ++ decimal n) e m
    → Put m e (text " pairs=") f o → Put o f (pairs_text t) g q → Put q g (filled (text " class=# took=# undone=#\n") (c ∷ k ∷ u ∷ [])) h r
    → Put l at (entry_line n t c k u) h r
unfolding entry_line filled_from
entry_put n t c k u {l} {r = r} {at} {h = h} w x y z =
    subst (λ (s : List ℕ). Put l at s h r)
    (two (text "number=") (decimal n) (text " pairs=") (pairs_text t ++ filled (text " class=# took=# undone=#\n") (c ∷ k ∷ u ∷ [])))
    (put_then w (put_then x (put_then y z)))

pub begin_put : (b : ℕ) {l m n : List ℕ} {at e f : ℕ} → Put l at (text "folded=" ++ decimal b) e m → Put m e (text " base=") f n
    → Put l at (filled (text "folded=# base=") (b ∷ [])) f n
unfolding filled_from
begin_put b {l} {n = n} {at} {f = f} x y = subst (λ (s : List ℕ). Put l at s f n) (append_assoc (text "folded=") (decimal b) (text " base=")) (put_then x y)

pub folded_put : (b : ℕ) (vs : List ℕ) {l m n o : List ℕ} {at e f g : ℕ} → Put l at (filled (text "folded=# base=") (b ∷ [])) e m
    → Put m e (values_text vs) f n → Put n f (text "\n") g o → Put l at (folded_line b vs) g o
unfolding folded_line
folded_put b vs x y z = put_then x (put_then y z)

pub held_put : (p : ℕ → Bool) (b k : ℕ) {l m n o : List ℕ} {at e f g : ℕ} → Put l at (text "held=") e m
    → Put m e (listed (λ j. p (b + suc j)) (λ j. decimal (b + suc j)) k) f n → Put n f (text "\n") g o → Put l at (held_line p b k) g o
unfolding held_line
held_put p b k x y z = put_then x (put_then y z)

-- ---- how long they can be
pub pairs_short : (t : Transaction) → t.count ≤ 4 → length (pairs_text t) ≤ pair_room * 4
pairs_short t h =
    omega (arith, listed_short (λ k. true) (λ k. pair_text (get_or t.paths k 0) (get_or t.values k 0)) 22 (λ j. omega (arith, pair_length (get_or t.paths j 0) (get_or t.values j 0))) t.count)

-- where a list of pairs has come to
pub pairs_at_holds : (p : ℕ → Bool) (f g : ℕ → ℕ) (k : ℕ) {l m : List ℕ} {at e : ℕ} → Put l at (listed p (λ j. pair_text (f j) (g j)) k) e m → e ≤ at + pair_room * k
pairs_at_holds p f g k x = omega (arith, x.ends, listed_short p (λ j. pair_text (f j) (g j)) 22 (λ j. omega (arith, pair_length (f j) (g j))) k)

-- one pair more of a transaction
module _ (t : Transaction) where
  abbrev pub first_pairs : ℕ → List ℕ
  first_pairs k = listed (λ j. true) (λ j. pair_text (get_or t.paths j 0) (get_or t.values j 0)) k

  pub pairs_more : {l m : List ℕ} {start at : ℕ} (k j p v : ℕ) → k < t.count → p ≡ get_or (take t.count t.paths) k 0
      → v ≡ get_or (take t.count t.values) k 0 → j ≡ k + 1 → Put l start (first_pairs k) at m → {e : ℕ} {n : List ℕ}
      → Put m at (comma_in start at ++ pair_text p v) e n → Put l start (first_pairs j) e n
  pairs_more {l} {m} {start} {at} k j p v h a b i x {e} {n} y =
      let q : p ≡ get_or t.paths k 0 = a ∙ get_or-take t.count t.paths k 0 h in
      let w : v ≡ get_or t.values k 0 = b ∙ get_or-take t.count t.values k 0 h in
      let z : Put m at (comma_in start at ++ pair_text (get_or t.paths k 0) (get_or t.values k 0)) e n =
      subst (λ (u : List ℕ). Put m at (comma_in start at ++ u) e n) (ap₂ pair_text q w) y in
      subst (λ (u : ℕ). Put l start (first_pairs u) e n) (sym i) (listed_more (λ j. true) (λ j. pair_text (get_or t.paths j 0) (get_or t.values j 0)) k x refl z)

pub entry_short : (n : ℕ) (t : Transaction) (c k u : ℕ) → t.count ≤ 4 → length (entry_line n t c k u) ≤ entry_room
unfolding entry_line
entry_short n t c k u h =
    let a = filled (text "number=# pairs=") (n ∷ []) in
    let b = filled (text " class=# took=# undone=#\n") (c ∷ k ∷ u ∷ []) in
    omega (arith, length-append a (pairs_text t ++ b), length-append (pairs_text t) b, filled_short (text "number=# pairs=") (n ∷ []) 0, filled_short (text " class=# took=# undone=#\n") (c ∷ k ∷ u ∷ []) 0, pairs_short t h)

pub values_short : (vs : List ℕ) → length (values_text vs) ≤ pair_room * 32
values_short vs = listed_short _ _ 22 (λ j. omega (arith, pair_length j (get_or vs j 0))) 32

pub folded_short : (b : ℕ) (vs : List ℕ) → length (folded_line b vs) ≤ folded_room
unfolding folded_line
folded_short b vs =
    omega (arith, length-append (filled (text "folded=# base=") (b ∷ [])) (values_text vs ++ text "\n"), length-append (values_text vs) (text "\n"), filled_short (text "folded=# base=") (b ∷ []) 0, values_short vs)

pub held_short : (p : ℕ → Bool) (b k : ℕ) → k ≤ 128 → length (held_line p b k) ≤ held_room
unfolding held_line
held_short p b k h =
    let t = listed (λ j. p (b + suc j)) (λ j. decimal (b + suc j)) k in
    omega (arith, length-append t (text "\n"), listed_short (λ j. p (b + suc j)) (λ j. decimal (b + suc j)) 11 (λ j. omega (arith, decimal_short (b + suc j))) k)

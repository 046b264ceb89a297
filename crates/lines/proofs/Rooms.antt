-- The room behind a line: what the line tells, put there one after another. Assumes nothing.
use Prim.Native.Nat.{ℕ, zero, suc, ◌+◌, ◌-◌, ◌*◌, ◌/◌, ◌≤◌, ◌<◌, min}
use mathlib.Core.Path.{◌≡◌, refl, ap, ap₂, sym, subst, ◌∙◌}
use mathlib.Core.List.{List, [], ◌∷◌, ◌++◌, foldl, foldl-append, append_assoc, append-nil}
use mathlib.Core.Bool.{Bool, true, false, cond, ◌&&◌}
use native.Mathlib.Omega.{arith}
use native.Mathlib.Numerals.{add-one}
use borrow.Author.Tests.{ltb-true, ltb-false, lt-ltb, le-ltb}
use lib.Dec.{eqb, leb, ltb}
use lib.ListN.{length, take, drop, set, replicate, length-append, length-set, length-take, length-drop, length-replicate, take-append-drop}
use lib.Seq.{sets, sets-eq, length-sets, take_all, take-append-le, take-suc-set, take_at, drop_at, length-take-le}
use Rattle.machine.specs.Calls.{Pair}
use Rattle.machine.specs.Import.{Entry, adds, undoes, neither}
use Rattle.lines.specs.declared.reading.Reader.{Reader}
use Rattle.lines.specs.Decimal.{is_digit}
use Rattle.lines.specs.Grammar.{tenfold, flat, Item, plain, inner, close, undo, as_items, items_of, items}
use Rattle.lines.specs.Reading.{letter_at, is_numbered, inside, begins, parts, past, spelt, low, high, two_bytes, two_at, at_most, used_next, stored_at, stored, kept, kept_in, count_next, noted_at, noted, noted_in, pairs_of, filled_by, used_closed, closed_at, closed, closed_in, changed_in, entered_in, in_entry, ends_entry, ended, ended_in, begun, placed, grown_if, with_digit, with_part, pushed, digit_in, text_in, pushed_in, stepped, last, last_in}
use Rattle.lines.specs.Handed.{padded, numbers_of, entry_bytes, SmallEntry, SmallEntries}
use Rattle.lines.proofs.Classes.{and_none}
use Rattle.lines.proofs.Goes.{held, entry_held, tells, digit_adds, text_adds, adds as addsTo}
use Rattle.lines.proofs.Runs.{told}
use Rattle.lines.proofs.Putting.{part_sets}

-- ---- what a reader has of the room, and the room
pub record Room : Type 0 where
  pub used : ℕ
  pub count : ℕ
  pub room : List ℕ

abbrev pub rm : ℕ → ℕ → List ℕ → Room
rm u n m = record { used = u; count = n; room = m }

-- what is told is put there
abbrev pub put : Room → Item → Room
put k (plain v) = rm (used_next k.used) k.count (stored_at k.used v k.room)
put k (inner v) = rm k.used (count_next k.count) (noted_at k.used k.count v k.room)
put k close = rm (used_closed k.used) 0 (closed_at k.used k.count 1 (pairs_of k.count) k.room)
put k (undo v) = rm (used_closed k.used) 0 (closed_at k.used k.count 2 v k.room)

abbrev pub room_of : Reader → List ℕ → Room
room_of r m = rm r.used r.count m

-- ---- just that is what the reader does
module _ (r : Reader) (m : List ℕ) where
  kept_puts : room_of (kept r) (kept_in r m) ≡ foldl put (room_of r m) (held r.sub r.value)
  kept_puts = by (inside r.sub)
    where
      by : (x : Bool) → room_of (cond x (stored r) r) (cond x (stored_at r.used r.value m) m) ≡ foldl put (room_of r m) (cond x (plain r.value ∷ []) [])
      by true = refl
      by false = refl

  entered_puts : room_of (closed r) (entered_in r m) ≡ foldl put (room_of r m) (entry_held r.sub r.value)
  entered_puts = by (eqb r.sub 1) (eqb r.sub 3)
    where
      by :
          (x y : Bool) →
          room_of (closed r) (cond x (closed_in r 2 r.value m) (cond y (changed_in (noted r) (noted_in r m)) (changed_in r m)))
          ≡ foldl put (room_of r m) (cond x (undo r.value ∷ []) (cond y (inner r.value ∷ close ∷ []) (close ∷ [])))
      by true y = refl
      by false true = refl
      by false false = refl

  pub ended_puts : (c n : ℕ) → room_of (ended c n r) (ended_in c n r m) ≡ foldl put (room_of r m) (tells c n r.sub r.value)
  ended_puts c n = by (eqb c 36) (in_entry n) (ends_entry r.sub n)
    where
      by :
          (x y z : Bool) →
          room_of (cond x (cond y (noted r) (cond z (closed r) r)) (kept r)) (cond x (cond y (noted_in r m) (cond z (entered_in r m) m)) (kept_in r m))
          ≡ foldl put (room_of r m) (cond x (cond y (inner r.value ∷ []) (cond z (entry_held r.sub r.value) [])) (held r.sub r.value))
      by true true z = refl
      by true false true = entered_puts
      by true false false = refl
      by false y z = kept_puts

  pub pushed_puts : (b : ℕ) → room_of (pushed r b) (pushed_in r b m) ≡ foldl put (room_of r m) (addsTo r b)
  unfolding pushed
  pushed_puts b = by (is_digit b)
    where
      c : ℕ
      c = letter_at r.at

      numbered : (x y z : Bool) →
          room_of (cond x (cond y (grown_if z r (tenfold r.value b)) (begun r (begins r.sub) (b - 48))) (placed r 0)) m ≡ room_of r m
      numbered true true true = refl
      numbered true true false = refl
      numbered true false z = refl
      numbered false y z = refl

      digits : (x : Bool) →
          room_of (cond x (begun (kept r) 1 (b - 48)) (cond (is_numbered (letter_at r.at)) (cond (inside r.sub) (grown_if (leb (tenfold r.value b) 65535) r (tenfold r.value b))
          (begun r (begins r.sub) (b - 48))) (placed r 0))) (cond x (kept_in r m) m)
          ≡ foldl put (room_of r m) (cond x (held r.sub r.value) [])
      digits true = kept_puts
      digits false = numbered (is_numbered (letter_at r.at)) (inside r.sub) (leb (tenfold r.value b) 65535)

      texts : (n : ℕ) (x : Bool) →
          room_of (cond x (placed (ended (letter_at r.at) n r) (spelt (past (letter_at r.at) r.sub r.at) b)) (begun (ended (letter_at r.at) n r) n 0))
          (ended_in (letter_at r.at) n r m)
          ≡ foldl put (room_of r m) (tells (letter_at r.at) n r.sub r.value)
      texts n true = ended_puts (letter_at r.at) n
      texts n false = ended_puts (letter_at r.at) n

      by : (x : Bool) →
          room_of (cond x (with_digit r (b - 48)) (with_part r (parts (letter_at r.at) r.sub b) b)) (cond x (digit_in r m) (text_in r b m))
          ≡ foldl put (room_of r m) (cond x (digit_adds r) (text_adds r b))
      by true = digits (eqb (letter_at r.at) 38)
      by false = texts (parts (letter_at r.at) r.sub b) (eqb (parts (letter_at r.at) r.sub b) 0)

-- the reader and the room behind a line's end
pub run_puts :
    (l : List ℕ) (r : Reader) (m : List ℕ) →
    room_of (last (foldl stepped (r, m) l).0) (last_in (foldl stepped (r, m) l).0 (foldl stepped (r, m) l).1) ≡ foldl put (room_of r m) (told r l)
unfolding told
run_puts [] r m = ended_puts r m (letter_at r.at) 0
run_puts (b ∷ l) r m =
    run_puts l (pushed r b) (pushed_in r b m) ∙ ap (λ (k : Room). foldl put k (told (pushed r b) l)) (pushed_puts r m b)
    ∙ sym (foldl-append put (room_of r m) (addsTo r b) (told (pushed r b) l))

-- ---- numbers: two bytes for each, 2,570 of them at most
abbrev pub firsts : List ℕ → List ℕ
firsts ns = take 5140 (two_bytes ns)

pub record Holds (ns : List ℕ) (u : ℕ) (m : List ℕ) : Type 0 where
  pub used : u ≡ length (firsts ns)
  pub first : take u m ≡ firsts ns
  pub long : length m ≡ 5140

pub two_length : (ns : List ℕ) → length (two_bytes ns) ≡ 2 * length ns
unfolding two_bytes
two_length [] = refl
two_length (n ∷ ns) = omega (arith, two_length ns)

two_append : (ns : List ℕ) (v : ℕ) → two_bytes (ns ++ (v ∷ [])) ≡ two_bytes ns ++ (low v ∷ high v ∷ [])
unfolding two_bytes
two_append [] v = refl
two_append (n ∷ ns) v = ap (λ (z : List ℕ). low n ∷ high n ∷ z) (two_append ns v)

-- two bytes put behind the first u
put_two : (u a b : ℕ) (m : List ℕ) → u + 1 < length m → take (u + 2) (set (set m u a) (u + 1) b) ≡ take u m ++ (a ∷ b ∷ [])
put_two u a b m h =
    let e : u + 2 ≡ suc (u + 1) = omega arith in
    ap (λ (k : ℕ). take k (set (set m u a) (u + 1) b)) e
    ∙ take-suc-set (set m u a) (u + 1) b (subst (λ (k : ℕ). u + 1 < k) (sym (length-set m u a)) h)
    ∙ ap (λ (z : List ℕ). z ++ (b ∷ [])) (ap (λ (k : ℕ). take k (set m u a)) (add-one u) ∙ take-suc-set m u a (omega arith))
    ∙ append_assoc (take u m) (a ∷ []) (b ∷ [])

module _ (ns : List ℕ) (v u : ℕ) (m : List ℕ) (h : Holds ns u m) where
  joined : firsts (ns ++ (v ∷ [])) ≡ take 5140 (two_bytes ns ++ (low v ∷ high v ∷ []))
  joined = ap (take 5140) (two_append ns v)

  kept_room : u < 5139 → Holds (ns ++ (v ∷ [])) (u + 2) (two_at m u v)
  kept_room g =
      let few : length (two_bytes ns) ≤ 5138 = omega (arith, two_length ns, length-take 5140 (two_bytes ns), h.used) in
      let all : firsts ns ≡ two_bytes ns = take_all 5140 (two_bytes ns) (omega arith) in
      let now : firsts (ns ++ (v ∷ [])) ≡ two_bytes ns ++ (low v ∷ high v ∷ []) =
      joined ∙ take_all 5140 (two_bytes ns ++ (low v ∷ high v ∷ [])) (omega (arith, length-append (two_bytes ns) (low v ∷ high v ∷ []))) in
      record {
        used = omega (arith, h.used, ap length all, ap length now, length-append (two_bytes ns) (low v ∷ high v ∷ []));
        first = put_two u (low v) (high v) m (omega (arith, h.long)) ∙ ap (λ (z : List ℕ). z ++ (low v ∷ high v ∷ [])) (h.first ∙ all) ∙ sym now;
        long = length-set (set m u (low v)) (u + 1) (high v) ∙ length-set m u (low v) ∙ h.long;
      }

  full_room : 5139 ≤ u → Holds (ns ++ (v ∷ [])) u m
  full_room g =
      let many : 5140 ≤ length (two_bytes ns) = omega (arith, two_length ns, length-take 5140 (two_bytes ns), h.used) in
      let same : firsts (ns ++ (v ∷ [])) ≡ firsts ns = joined ∙ take-append-le 5140 (two_bytes ns) (low v ∷ high v ∷ []) many in
      record { used = h.used ∙ ap length (sym same); first = h.first ∙ sym same; long = h.long }

  holds_stored : Holds (ns ++ (v ∷ [])) (used_next u) (stored_at u v m)
  holds_stored = by (ltb u 5139) refl
    where
      by : (t : Bool) → ltb u 5139 ≡ t → Holds (ns ++ (v ∷ [])) (cond t (u + 2) u) (cond t (two_at m u v) m)
      by true e = kept_room (ltb-true u 5139 e)
      by false e = full_room (ltb-false u 5139 e)

pub holds_all :
    (ms ns : List ℕ) (k : Room) → Holds ns k.used k.room → Holds (ns ++ ms) (foldl put k (as_items plain ms)).used (foldl put k (as_items plain ms)).room
unfolding as_items
holds_all [] ns k h = subst (λ (z : List ℕ). Holds z k.used k.room) (sym (append-nil ns)) h
holds_all (v ∷ ms) ns k h =
    subst (λ (z : List ℕ). Holds z (foldl put (put k (plain v)) (as_items plain ms)).used (foldl put (put k (plain v)) (as_items plain ms)).room)
    (append_assoc ns (v ∷ []) ms) (holds_all ms (ns ++ (v ∷ [])) (put k (plain v)) (holds_stored ns v k.used k.room h))

-- ---- the numbers of an entry, each at its place
unfoldable counts : ℕ → List ℕ → ℕ
counts n [] = n
counts n (v ∷ ns) = counts (count_next n) ns

unfoldable rooms : ℕ → ℕ → List ℕ → List ℕ → List ℕ
rooms u n m [] = m
rooms u n m (v ∷ ns) = rooms u (count_next n) (noted_at u n v m) ns

inner_run : (ns : List ℕ) (k : Room) → foldl put k (as_items inner ns) ≡ rm k.used (counts k.count ns) (rooms k.used k.count k.room ns)
unfolding as_items counts rooms
inner_run [] k = refl
inner_run (v ∷ ns) k = inner_run ns (put k (inner v))

few_count : (ns : List ℕ) (n : ℕ) → n + length ns ≤ 9 → counts n ns ≡ n + length ns
unfolding counts
few_count [] n h = omega arith
few_count (v ∷ ns) n h = ap (λ (x : Bool). counts (cond x (n + 1) n) ns) (lt-ltb n 9 (omega arith)) ∙ few_count ns (n + 1) (omega arith) ∙ omega arith

many_count : (ns : List ℕ) (n : ℕ) → n ≤ 9 → 9 ≤ n + length ns → counts n ns ≡ 9
unfolding counts
many_count [] n h g = omega arith
many_count (v ∷ ns) n h g = by (ltb n 9) refl (λ i. many_count ns (n + 1) (omega arith) (omega arith)) (λ i. many_count ns n h (omega arith))
  where
    by : (t : Bool) → ltb n 9 ≡ t → (n < 9 → counts (n + 1) ns ≡ 9) → (9 ≤ n → counts n ns ≡ 9) → counts (cond t (n + 1) n) ns ≡ 9
    by true e f g = f (ltb-true n 9 e)
    by false e f g = g (ltb-false n 9 e)

-- a room that is full, and numbers past the eighth
full_rooms : (ns : List ℕ) (u n : ℕ) (m : List ℕ) → 5121 ≤ u → rooms u n m ns ≡ m
unfolding rooms
full_rooms [] u n m h = refl
full_rooms (v ∷ ns) u n m h =
    ap (λ (x : Bool). rooms u (count_next n) (cond (x && ltb n 8) (two_at m (u + 4 + 2 * n) v) m) ns) (le-ltb u 5121 h) ∙ full_rooms ns u (count_next n) m h

past_eight : (ns : List ℕ) (u n : ℕ) (m : List ℕ) → 8 ≤ n → rooms u n m ns ≡ m
unfolding rooms
past_eight [] u n m h = refl
past_eight (v ∷ ns) u n m h =
    ap (λ (x : Bool). rooms u (count_next n) (cond x (two_at m (u + 4 + 2 * n) v) m) ns) (ap (λ (x : Bool). ltb u 5121 && x) (le-ltb n 8 h) ∙ and_none (ltb u 5121))
    ∙ past_eight ns u (count_next n) m (by (ltb n 9))
  where
    by : (x : Bool) → 8 ≤ cond x (n + 1) n
    by true = omega arith
    by false = h

-- g of them have a place
noted_all :
    (ns : List ℕ) (g u n : ℕ) (m : List ℕ) → u < 5121 → n + g ≡ 8 → rooms u n m ns ≡ sets m (u + 4 + 2 * n) (two_bytes (take g ns))
unfolding rooms two_bytes
noted_all ns zero u n m h e = past_eight ns u n m (omega arith)
noted_all [] (suc g) u n m h e = refl
noted_all (v ∷ ns) (suc g) u n m h e =
    ap (λ (x : Bool). rooms u (count_next n) (cond x (two_at m (u + 4 + 2 * n) v) m) ns) (ap₂ (λ (x y : Bool). x && y) (lt-ltb u 5121 h) (lt-ltb n 8 (omega arith)))
    ∙ ap (λ (x : Bool). rooms u (cond x (n + 1) n) (two_at m (u + 4 + 2 * n) v) ns) (lt-ltb n 9 (omega arith))
    ∙ noted_all ns g u (n + 1) (two_at m (u + 4 + 2 * n) v) h (omega arith)
    ∙ ap₂ (λ (i j : ℕ). sets (set (set m (u + 4 + 2 * n) (low v)) i (high v)) j (two_bytes (take g ns))) (add-one (u + 4 + 2 * n)) (omega arith)

-- ---- zeros, one after another
pub cleared : (l s : List ℕ) (at n : ℕ) → at + n ≤ length l → s ≡ replicate (length (take (at + n - at) (drop at l))) 0
    → take at l ++ (s ++ drop (at + n - at) (drop at l)) ≡ sets l at (replicate n 0)
cleared l s at n h f =
    let e : length (take (at + n - at) (drop at l)) ≡ n = length-take-le (at + n - at) (drop at l) (omega (arith, length-drop at l)) ∙ omega arith in
    part_sets l (replicate n 0) s at n h (sym (length-replicate {A = ℕ} n 0)) (f ∙ ap (λ (j : ℕ). replicate j 0) e)

pub at_most_is : (k n : ℕ) → min n k ≡ at_most k n
at_most_is k n = by (ltb n k) refl
  where
    by : (t : Bool) → ltb n k ≡ t → min n k ≡ cond t n k
    by true e = omega (arith, ltb-true n k e)
    by false e = omega (arith, ltb-false n k e)

-- ---- a whole entry
-- t in place of as many bytes
over : (a b d t : List ℕ) (i : ℕ) → length a ≡ i → length t ≡ length b → sets (a ++ (b ++ d)) i t ≡ a ++ (t ++ d)
over a b d t i e f =
    sets-eq t (a ++ (b ++ d)) i (omega (arith, length-append a (b ++ d), length-append b d))
    ∙ ap₂ (λ (x y : List ℕ). x ++ t ++ y) (take_at a (b ++ d) i e)
    (ap (drop (i + length t)) (sym (append_assoc a b d)) ∙ drop_at (a ++ b) d (i + length t) (omega (arith, length-append a b)))
    ∙ append_assoc a t d

head_bytes : (m : List ℕ) (u k p : ℕ) → two_at (two_at m u k) (u + 2) p ≡ sets m u (low k ∷ high k ∷ low p ∷ high p ∷ [])
head_bytes m u k p =
    let e : u + 2 + 1 ≡ suc (suc (suc u)) = omega arith in
    let f : u + 2 ≡ suc (suc u) = omega arith in
    rw (e, f, add-one u)

module _ (a h x y d : List ℕ) (t z : List ℕ) (u k p f : ℕ) (la : length a ≡ u) (lh : length h ≡ 4) (lt : length t ≡ length x) (lf : length t ≡ f)
    (lz : length z ≡ length y) where
  abbrev head : List ℕ
  head = low k ∷ high k ∷ low p ∷ high p ∷ []

  placed_block : sets (two_at (two_at (sets (a ++ (h ++ (x ++ (y ++ d)))) (u + 4) t) u k) (u + 2) p) (u + 4 + f) z ≡ a ++ (head ++ (t ++ (z ++ d)))
  placed_block =
      ap (λ (m : List ℕ). sets (two_at (two_at m u k) (u + 2) p) (u + 4 + f) z)
      (ap (λ (m : List ℕ). sets m (u + 4) t) (sym (append_assoc a h (x ++ (y ++ d)))) ∙ over (a ++ h) x (y ++ d) t (u + 4) (omega (arith, length-append a h)) lt
      ∙ append_assoc a h (t ++ (y ++ d)))
      ∙ ap (λ (m : List ℕ). sets m (u + 4 + f) z) (head_bytes (a ++ (h ++ (t ++ (y ++ d)))) u k p ∙ over a h (t ++ (y ++ d)) head u la (sym lh))
      ∙ ap (λ (m : List ℕ). sets m (u + 4 + f) z) (regroup (y ++ d))
      ∙ over (a ++ head ++ t) y d z (u + 4 + f) (omega (arith, length-append (a ++ head) t, length-append a head)) lz ∙ sym (regroup (z ++ d))
    where
      regroup : (r : List ℕ) → a ++ (head ++ (t ++ r)) ≡ a ++ head ++ t ++ r
      regroup r = sym (append_assoc (a ++ head) t r ∙ append_assoc a head (t ++ r))

-- five parts of a list
parts_of : (m : List ℕ) (u n j i : ℕ) →
    m ≡ take u m ++ (take n (drop u m) ++ (take j (drop n (drop u m)) ++ (take i (drop j (drop n (drop u m))) ++ drop i (drop j (drop n (drop u m))))))
parts_of m u n j i =
    sym (ap (λ (z : List ℕ). take u m ++ z)
    (ap (λ (z : List ℕ). take n (drop u m) ++ z)
    (ap (λ (z : List ℕ). take j (drop n (drop u m)) ++ z) (take-append-drop i (drop j (drop n (drop u m)))) ∙ take-append-drop j (drop n (drop u m)))
    ∙ take-append-drop n (drop u m)) ∙ take-append-drop u m)

block_laid :
    (m t : List ℕ) (u k p f : ℕ) → u + 20 ≤ length m → length t ≡ f → f ≤ 16 →
    take (u + 20) (sets (two_at (two_at (sets m (u + 4) t) u k) (u + 2) p) (u + 4 + f) (replicate (16 - f) 0))
    ≡ take u m ++ ((low k ∷ high k ∷ low p ∷ high p ∷ []) ++ (t ++ replicate (16 - f) 0))
block_laid m t u k p f h e g =
    ap (take (u + 20))
    (ap (λ (z : List ℕ). sets (two_at (two_at (sets z (u + 4) t) u k) (u + 2) p) (u + 4 + f) (replicate (16 - f) 0)) (parts_of m u 4 f (16 - f))
    ∙ placed_block a b x y d t (replicate (16 - f) 0) u k p f la lb lx e ly ∙ regroup)
    ∙ take_at (a ++ (head ++ (t ++ replicate (16 - f) 0))) d (u + 20)
    (omega (
      arith,
      length-append a (head ++ (t ++ replicate (16 - f) 0)),
      length-append head (t ++ replicate (16 - f) 0),
      length-append t (replicate (16 - f) 0),
      length-replicate {A = ℕ} (16 - f) 0,
      la,
    ))
  where
    a : List ℕ
    a = take u m

    b : List ℕ
    b = take 4 (drop u m)

    x : List ℕ
    x = take f (drop 4 (drop u m))

    y : List ℕ
    y = take (16 - f) (drop f (drop 4 (drop u m)))

    d : List ℕ
    d = drop (16 - f) (drop f (drop 4 (drop u m)))

    head : List ℕ
    head = low k ∷ high k ∷ low p ∷ high p ∷ []

    la : length (take u m) ≡ u
    la = length-take-le u m (omega arith)

    lb : length (take 4 (drop u m)) ≡ 4
    lb = length-take-le 4 (drop u m) (omega (arith, length-drop u m))

    lx : length t ≡ length (take f (drop 4 (drop u m)))
    lx = e ∙ sym (length-take-le f (drop 4 (drop u m)) (omega (arith, length-drop u m, length-drop 4 (drop u m))))

    ly : length {A = ℕ} (replicate (16 - f) 0) ≡ length (take (16 - f) (drop f (drop 4 (drop u m))))
    ly =
        length-replicate {A = ℕ} (16 - f) 0
        ∙ sym (length-take-le (16 - f) (drop f (drop 4 (drop u m)))
        (omega (arith, length-drop u m, length-drop 4 (drop u m), length-drop f (drop 4 (drop u m)))))

    regroup : a ++ (head ++ (t ++ (replicate (16 - f) 0 ++ d))) ≡ a ++ (head ++ (t ++ replicate (16 - f) 0)) ++ d
    regroup = simp append_assoc

-- ---- the entries of a list
padded_zeros : (g : ℕ) → two_bytes (padded g []) ≡ replicate (2 * g) 0
unfolding two_bytes padded
padded_zeros zero = refl
padded_zeros (suc g) =
    let e : 2 * suc g ≡ suc (suc (2 * g)) = omega arith in
    ap (λ (z : List ℕ). 0 ∷ 0 ∷ z) (padded_zeros g) ∙ ap (λ (n : ℕ). replicate n 0) (sym e)

padded_bytes : (g : ℕ) (ns : List ℕ) → two_bytes (padded g ns) ≡ two_bytes (take g ns) ++ replicate (2 * g - length (two_bytes (take g ns))) 0
unfolding two_bytes padded
padded_bytes zero ns = refl
padded_bytes (suc g) [] = let e : 2 * suc g ≡ 2 * suc g - 0 = omega arith in padded_zeros (suc g) ∙ ap (λ (i : ℕ). replicate i 0) e
padded_bytes (suc g) (n ∷ ns) =
    let e : 2 * g - length (two_bytes (take g ns)) ≡ 2 * suc g - suc (suc (length (two_bytes (take g ns)))) = omega arith in
    ap (λ (z : List ℕ). low n ∷ high n ∷ z) (padded_bytes g ns ∙ ap (λ (i : ℕ). two_bytes (take g ns) ++ replicate i 0) e)

padded_length : (g : ℕ) (ns : List ℕ) → length (padded g ns) ≡ g
unfolding padded
padded_length zero ns = refl
padded_length (suc g) [] = ap suc (padded_length g [])
padded_length (suc g) (n ∷ ns) = ap suc (padded_length g ns)

pub numbers_length : (e : Entry) → length (numbers_of e) ≡ 10
numbers_length (adds ps) = ap (λ (i : ℕ). suc (suc i)) (padded_length 8 (flat ps))
numbers_length (undoes n) = ap (λ (i : ℕ). suc (suc i)) (padded_length 8 [])
numbers_length neither = padded_length 10 []

pub bytes_length : (es : List Entry) → length (entry_bytes es) ≡ 20 * length es
unfolding entry_bytes
bytes_length [] = refl
bytes_length (e ∷ es) =
    omega (arith, length-append (two_bytes (numbers_of e)) (entry_bytes es), two_length (numbers_of e), numbers_length e, bytes_length es)

bytes_append : (es : List Entry) (e : Entry) → entry_bytes (es ++ (e ∷ [])) ≡ entry_bytes es ++ two_bytes (numbers_of e)
unfolding entry_bytes
bytes_append [] e = append-nil (two_bytes (numbers_of e))
bytes_append (x ∷ es) e =
    ap (λ (z : List ℕ). two_bytes (numbers_of x) ++ z) (bytes_append es e) ∙ sym (append_assoc (two_bytes (numbers_of x)) (entry_bytes es) (two_bytes (numbers_of e)))

flat_length : (ps : List Pair) → length (flat ps) ≡ 2 * length ps
unfolding flat
flat_length [] = refl
flat_length (p ∷ ps) = omega (arith, flat_length ps)

-- what an entry leaves where there is room for it
record Block (u : ℕ) (m : List ℕ) (b : List ℕ) (k : Room) : Type 0 where
  used : k.used ≡ u + 20
  count : k.count ≡ 0
  first : take (u + 20) k.room ≡ take u m ++ b
  long : length k.room ≡ length m

module _ (u : ℕ) (m : List ℕ) (low-u : u < 5121) (room-u : u + 20 ≤ length m) where
  closed_is : (n k p : ℕ) (m : List ℕ) → closed_at u n k p m ≡ sets (two_at (two_at m u k) (u + 2) p) (u + 4 + filled_by n) (replicate (16 - filled_by n) 0)
  closed_is n k p m =
      ap (λ (x : Bool). cond x (sets (two_at (two_at m u k) (u + 2) p) (u + 4 + filled_by n) (replicate (16 - filled_by n) 0)) m) (lt-ltb u 5121 low-u)

  used_is : used_closed u ≡ u + 20
  used_is = ap (λ (x : Bool). cond x (u + 20) u) (lt-ltb u 5121 low-u)

  closed_long : (m : List ℕ) (n k p : ℕ) → length (closed_at u n k p m) ≡ length m
  closed_long m n k p =
      ap length (closed_is n k p m) ∙ length-sets (two_at (two_at m u k) (u + 2) p) (u + 4 + filled_by n) (replicate (16 - filled_by n) 0)
      ∙ length-set (set (two_at m u k) (u + 2) (low p)) (u + 2 + 1) (high p) ∙ length-set (two_at m u k) (u + 2) (low p)
      ∙ length-set (set m u (low k)) (u + 1) (high k) ∙ length-set m u (low k)

  -- the bytes of the numbers that have a place
  filled_is : (ns : List ℕ) → filled_by (counts 0 ns) ≡ length (two_bytes (take 8 ns))
  filled_is ns = by (ltb (length ns) 9) refl
    where
      most : (n : ℕ) → n ≤ 8 → at_most 8 n ≡ n
      most n h = split (ltb n 8) refl
        where
          split : (t : Bool) → ltb n 8 ≡ t → cond t n 8 ≡ n
          split true e = refl
          split false e = omega (arith, ltb-false n 8 e)

      by : (t : Bool) → ltb (length ns) 9 ≡ t → filled_by (counts 0 ns) ≡ length (two_bytes (take 8 ns))
      by true e =
          let g = ltb-true (length ns) 9 e in
          let z : 0 + length ns ≡ length ns = omega arith in
          ap (λ (i : ℕ). filled_by i) (few_count ns 0 (omega arith) ∙ z) ∙ ap (λ (i : ℕ). 2 * i) (most (length ns) (omega arith))
          ∙ omega (arith, two_length (take 8 ns), length-take 8 ns)
      by false e =
          let g = ltb-false (length ns) 9 e in
          ap (λ (i : ℕ). filled_by i) (many_count ns 0 (omega arith) (omega arith)) ∙ omega (arith, two_length (take 8 ns), length-take 8 ns)

  pairs_is : (ps : List Pair) → pairs_of (counts 0 (flat ps)) ≡ at_most 5 (length ps)
  pairs_is ps = by (ltb (length ps) 5) refl
    where
      by : (t : Bool) → ltb (length ps) 5 ≡ t → pairs_of (counts 0 (flat ps)) ≡ cond t (length ps) 5
      by true e =
          let g = ltb-true (length ps) 5 e in
          let z : 0 + length (flat ps) ≡ 2 * length ps = omega (arith, flat_length ps) in
          ap (λ (i : ℕ). pairs_of i) (few_count (flat ps) 0 (omega (arith, flat_length ps)) ∙ z)
          ∙ ap (λ (x : Bool). cond x ((2 * length ps + 1) / 2) 5) (lt-ltb (2 * length ps) 9 (omega arith)) ∙ omega arith
      by false e =
          let g = ltb-false (length ps) 5 e in
          ap (λ (i : ℕ). pairs_of i) (many_count (flat ps) 0 (omega arith) (omega (arith, flat_length ps)))

  -- the ten numbers of an entry, as bytes
  ten : (k p : ℕ) (ns : List ℕ) → two_bytes (k ∷ p ∷ padded 8 ns) ≡
      (low k ∷ high k ∷ low p ∷ high p ∷ []) ++ (two_bytes (take 8 ns) ++ replicate (16 - length (two_bytes (take 8 ns))) 0)
  unfolding two_bytes
  ten k p ns = ap (λ (z : List ℕ). low k ∷ high k ∷ low p ∷ high p ∷ z) (padded_bytes 8 ns)

  change_block : (ps : List Pair) → Block u m (two_bytes (numbers_of (adds ps))) (foldl put (rm u 0 m) (items_of (adds ps)))
  change_block ps =
      subst (λ (k : Room). Block u m (two_bytes (numbers_of (adds ps))) k) (sym run)
      (record {
        used = used_is;
        count = refl;
        first =
            ap (take (u + 20)) (closed_is c 1 (pairs_of c) R ∙ ap₂ (λ (n : ℕ) (z : List ℕ). sets (two_at (two_at z u 1) (u + 2) (pairs_of c)) (u + 4 + n) (replicate (16 - n) 0)) (filled_is (flat ps)) laid)
            ∙ block_laid m T u 1 (pairs_of c) (length T) room-u refl (omega (arith, two_length (take 8 (flat ps)), length-take 8 (flat ps)))
            ∙ ap (λ (z : List ℕ). take u m ++ z) (sym (ten 1 (pairs_of c) (flat ps)) ∙ ap (λ (i : ℕ). two_bytes (1 ∷ i ∷ padded 8 (flat ps))) (pairs_is ps));
        long = closed_long R c 1 (pairs_of c) ∙ ap length laid ∙ length-sets m (u + 4) T;
      })
    where
      c : ℕ
      c = counts 0 (flat ps)

      R : List ℕ
      R = rooms u 0 m (flat ps)

      T : List ℕ
      T = two_bytes (take 8 (flat ps))

      laid : R ≡ sets m (u + 4) T
      laid = noted_all (flat ps) 8 u 0 m low-u refl ∙ ap (λ (i : ℕ). sets m i T) (omega arith)

      run : foldl put (rm u 0 m) (items_of (adds ps)) ≡ put (rm u c R) close
      run = foldl-append put (rm u 0 m) (as_items inner (flat ps)) (close ∷ []) ∙ ap (λ (k : Room). put k close) (inner_run (flat ps) (rm u 0 m))

  rollback_block : (n : ℕ) → Block u m (two_bytes (numbers_of (undoes n))) (foldl put (rm u 0 m) (items_of (undoes n)))
  unfolding two_bytes
  rollback_block n =
      record {
        used = used_is;
        count = refl;
        first =
            ap (take (u + 20)) (closed_is 0 2 n m) ∙ block_laid m [] u 2 n 0 room-u refl (omega arith) ∙ ap (λ (z : List ℕ). take u m ++ z) (sym (ten 2 n []));
        long = closed_long m 0 2 n;
      }

  block : (e : Entry) → SmallEntry e → Block u m (two_bytes (numbers_of e)) (foldl put (rm u 0 m) (items_of e))
  block (adds ps) s = change_block ps
  block (undoes n) s = rollback_block n
  block neither s = absurd s

-- where there is none for it
full_block : (u : ℕ) (m : List ℕ) → 5121 ≤ u → (e : Entry) → foldl put (rm u 0 m) (items_of e) ≡ rm u 0 m
full_block u m h (adds ps) =
    foldl-append put (rm u 0 m) (as_items inner (flat ps)) (close ∷ [])
    ∙ ap (λ (k : Room). put k close) (inner_run (flat ps) (rm u 0 m) ∙ ap (λ (z : List ℕ). rm u (counts 0 (flat ps)) z) (full_rooms (flat ps) u 0 m h))
    ∙ closed_full (counts 0 (flat ps)) 1 (pairs_of (counts 0 (flat ps)))
  where
    closed_full : (n k p : ℕ) → rm (used_closed u) 0 (closed_at u n k p m) ≡ rm u 0 m
    closed_full n k p =
        ap (λ (x : Bool). rm (cond x (u + 20) u) 0 (cond x (sets (two_at (two_at m u k) (u + 2) p) (u + 4 + filled_by n) (replicate (16 - filled_by n) 0)) m)) (le-ltb u 5121 h)
full_block u m h (undoes n) =
    ap (λ (x : Bool). rm (cond x (u + 20) u) 0 (cond x (sets (two_at (two_at m u 2) (u + 2) n) (u + 4 + filled_by 0) (replicate (16 - filled_by 0) 0)) m)) (le-ltb u 5121 h)
full_block u m h neither = refl

-- the room has the bytes of the entries so far, 257 of them at most
pub record Laid (es : List Entry) (k : Room) : Type 0 where
  pub used : k.used ≡ length (take 5140 (entry_bytes es))
  pub count : k.count ≡ 0
  pub first : take k.used k.room ≡ take 5140 (entry_bytes es)
  pub long : length k.room ≡ 5140

laid_more : (es : List Entry) (e : Entry) (u : ℕ) (m : List ℕ) → SmallEntry e → Laid es (rm u 0 m) → Laid (es ++ (e ∷ [])) (foldl put (rm u 0 m) (items_of e))
laid_more es e u m s h = by (ltb u 5121) refl
  where
    joined : take 5140 (entry_bytes (es ++ (e ∷ []))) ≡ take 5140 (entry_bytes es ++ two_bytes (numbers_of e))
    joined = ap (take 5140) (bytes_append es e)

    size : u ≡ length (take 5140 (entry_bytes es))
    size = h.used

    by : (t : Bool) → ltb u 5121 ≡ t → Laid (es ++ (e ∷ [])) (foldl put (rm u 0 m) (items_of e))
    by true i =
        let g = ltb-true u 5121 i in
        let few : length (entry_bytes es) ≤ 5120 = omega (arith, bytes_length es, length-take 5140 (entry_bytes es), size) in
        let all : take 5140 (entry_bytes es) ≡ entry_bytes es = take_all 5140 (entry_bytes es) (omega arith) in
        let now : take 5140 (entry_bytes (es ++ (e ∷ []))) ≡ entry_bytes es ++ two_bytes (numbers_of e) =
        joined ∙ take_all 5140 (entry_bytes es ++ two_bytes (numbers_of e))
        (omega (arith, length-append (entry_bytes es) (two_bytes (numbers_of e)), two_length (numbers_of e), numbers_length e)) in
        let b = block u m g (omega (arith, h.long)) e s in
        record {
          used =
              b.used
              ∙ omega (arith, size, ap length all, ap length now, length-append (entry_bytes es) (two_bytes (numbers_of e)), two_length (numbers_of e), numbers_length e);
          count = b.count;
          first =
              ap (λ (n : ℕ). take n (foldl put (rm u 0 m) (items_of e)).room) b.used ∙ b.first
              ∙ ap (λ (z : List ℕ). z ++ two_bytes (numbers_of e)) (h.first ∙ all) ∙ sym now;
          long = b.long ∙ h.long;
        }
    by false i =
        let g = ltb-false u 5121 i in
        let many : 5140 ≤ length (entry_bytes es) = omega (arith, bytes_length es, length-take 5140 (entry_bytes es), size) in
        let same : take 5140 (entry_bytes (es ++ (e ∷ []))) ≡ take 5140 (entry_bytes es) = joined ∙ take-append-le 5140 (entry_bytes es) (two_bytes (numbers_of e)) many in
        subst (λ (k : Room). Laid (es ++ (e ∷ [])) k) (sym (full_block u m g e))
        (record { used = size ∙ ap length (sym same); count = refl; first = h.first ∙ sym same; long = h.long })

no_count : (es : List Entry) (k : Room) → Laid es k → k ≡ rm k.used 0 k.room
no_count es k h = ap (λ (n : ℕ). rm k.used n k.room) h.count

laid_next : (es : List Entry) (e : Entry) (k : Room) → SmallEntry e → Laid es k → Laid (es ++ (e ∷ [])) (foldl put k (items_of e))
laid_next es e k s h =
    subst (λ (x : Room). Laid (es ++ (e ∷ [])) (foldl put x (items_of e))) (sym (no_count es k h))
    (laid_more es e k.used k.room s (subst (λ (x : Room). Laid es x) (no_count es k h) h))

pub laid_all : (ms es : List Entry) (k : Room) → SmallEntries ms → Laid es k → Laid (es ++ ms) (foldl put k (items ms))
unfolding items
laid_all [] es k s h = subst (λ (z : List Entry). Laid z k) (sym (append-nil es)) h
laid_all (e ∷ ms) es k s h =
    subst (λ (z : List Entry). Laid z (foldl put k (items_of e ++ items ms))) (append_assoc es (e ∷ []) ms)
    (subst (λ (x : Room). Laid (es ++ (e ∷ []) ++ ms) x) (sym (foldl-append put k (items_of e) (items ms)))
    (laid_all ms (es ++ (e ∷ [])) (foldl put k (items_of e)) s.1 (laid_next es e k s.0 h)))

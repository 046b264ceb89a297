-- What is loaded is what the image shows, so what is written is its record, and it has room. Assumes nothing.
use Prim.Native.Nat.{ℕ, zero, suc, ◌+◌, ◌-◌, ◌*◌, ◌≤◌, ◌<◌}
use mathlib.Core.Path.{◌≡◌, refl, ap, ap₂, sym, subst, ◌∙◌}
use mathlib.Core.List.{List, [], ◌∷◌, ◌++◌}
use mathlib.Core.Bool.{Bool, true, false, not, ◌&&◌}
use native.Mathlib.Omega.{arith}
use native.Mathlib.Nat.{zero-add}
use borrow.Author.Tests.{leb-true, eq-eqb, ne_eqb}
use lib.Dec.{eqb, leb}
use lib.ListN.{length, get_or, drop, length-append}
use lib.Seq.{sets-eq}
use Rattle.kinds.specs.declared.Transaction.{Transaction}
use Rattle.kinds.specs.declared.Head.{Head}
use Rattle.machine.specs.State.{entry_of, last}
use Rattle.machine.specs.Class.{class_of}
use Rattle.machine.specs.Taken.{landed, holds}
use Rattle.machine.specs.Reads.{flag}
use Rattle.machine.specs.Stores.{of_base}
use Rattle.machine.specs.WellFormed.{pairs_ok}
use Rattle.machine.proofs.Kept as kept
use Rattle.image.specs.Layout.{image_length, place_of, applied_at, values_at}
use Rattle.image.specs.Records.{entry_at, folded_of, last_of, head_at}
use Rattle.image.specs.View.{view, table_of}
use Rattle.image.specs.Formed.{statuses_ok, entry_statuses_ok, formed}
use Rattle.image.specs.Promises.{LoadsValue}
use Rattle.image.proofs.UpTo.{and_left, and_right, kept_at}
use Rattle.image.proofs.Scanned.{view_kept, view_last, view_entry, formed_size, formed_codes, formed_state, formed_room}
use Rattle.lines.specs.Decimal.{decimal}
use Rattle.lines.specs.Text.{text}
use Rattle.lines.specs.Replies.{filled, Put}
use Rattle.lines.specs.Record.{listed, next_in, pair_text, values_text, entry_line, folded_line, held_line, unformed_line, entry_room, folded_room, held_room, number_room}
use Rattle.lines.proofs.Putting.{put_then, put_length, decimal_short, filled_short}
use Rattle.lines.proofs.Recorded as line
use Rattle.lines.proofs.Recorded.{put_none, listed_next, listed_short, entry_short, folded_short, held_short}
use Rattle.record.specs.Told.{change_text, changes_text, held_text, state_text, record_text, record_room, Applied, Kept, Reports}

-- ---- a number that is kept
module _ {l : List ℕ} {k a : ℕ} (e : Kept l k a) where
  pub entry_here : (1 ≤ k) × (image_length ≤ length l)
  entry_here = (omega (arith, e.kept), formed_size l e.applied.formed)

  pub class_here : (1 ≤ k) × ((image_length ≤ length l) × (statuses_ok l (place_of k) ≡ true))
  class_here =
      let c = and_left _ _ (and_right (leb (folded_of l) (last_of l)) _ (formed_codes l e.applied.formed)) in
      (entry_here.0, (entry_here.1, kept_at (entry_statuses_ok l) (folded_of l) (last_of l) c k e.kept e.last))

  shown : entry_of (view l).log k ≡ entry_at l k
  shown = view_entry l k e.kept e.last

  applied_is : (view l).applied.head.ordinal.0 ≡ a
  unfolding view
  applied_is = sym e.applied.ordinal

  count_of : (t : Transaction) → pairs_ok t.count t.paths ≡ true → t.count ≤ 4
  unfolding pairs_ok
  count_of t h = leb-true _ _ (and_right (leb 1 t.count) _ (and_left (leb 1 t.count && leb t.count 4) _ h))

  pub count_low : (entry_at l k).count ≤ 4
  unfolding view
  count_low =
      let w = e.applied.formed in
      let f = kept.formed (view l) (formed_state l w) in
      let h : k ≤ last (view l).log = omega (arith, view_last l (formed_room l w).0, e.last) in
      count_of (entry_at l k) (subst (λ (t : Transaction). pairs_ok t.count t.paths ≡ true) shown (f.entries k e.kept h).pairs)

  pub this_low : (t : Transaction) → t ≡ entry_at l k → t.count ≤ 4
  this_low t q = rw q count_low

  -- its line, by what was loaded
  abbrev line_of : Transaction → ℕ → List ℕ
  line_of t o =
      entry_line k t (class_of t) (flag (landed t.change.apply o t.change.ordinal.0)) (flag (landed t.rollback.apply o t.rollback.ordinal.0))

  change_is : change_text (view l) k ≡ line_of (entry_at l k) a
  change_is = ap₂ line_of shown applied_is

  pub change_put : (t : Transaction) (c x y : ℕ) (p q : Bool) → t ≡ entry_at l k → c ≡ class_of (entry_at l k) → p ≡ landed t.change.apply a t.change.ordinal.0
      → x ≡ flag p → q ≡ landed t.rollback.apply a t.rollback.ordinal.0 → y ≡ flag q → {m n : List ℕ} {at f : ℕ}
      → Put m at (entry_line k t c x y) f n → Put m at (change_text (view l) k) f n
  change_put t c x y p q et ec ep ex eq ey {m} {n} {at} {f} z =
      subst (λ (s : List ℕ). Put m at s f n) (rw (ey, ex, eq, ep, ec, et) refl ∙ sym change_is) z

  pub change_short : length (change_text (view l) k) ≤ entry_room
  change_short = rw change_is (entry_short k (entry_at l k) _ _ _ count_low)

  pub held_is : (t : Transaction) (b : Bool) → t ≡ entry_at l k
      → b ≡ (landed t.change.apply a t.change.ordinal.0 && not (landed t.rollback.apply a t.rollback.ordinal.0)) → b ≡ holds (view l) k
  held_is t b et eb = rw (shown, applied_is) (eb ∙ rw et refl)

  pub held_put : (t : Transaction) (b : Bool) → t ≡ entry_at l k
      → b ≡ (landed t.change.apply a t.change.ordinal.0 && not (landed t.rollback.apply a t.rollback.ordinal.0))
      → (x : Bool) → b ≡ x → (start : ℕ) {m n : List ℕ} {at f : ℕ} → Put m at (next_in x start at (decimal k)) f n
      → Put m at (next_in (holds (view l) k) start at (decimal k)) f n
  held_put t b et eb x q start {m} {n} {at} {f} z = subst (λ (y : Bool). Put m at (next_in y start at (decimal k)) f n) (sym q ∙ held_is t b et eb) z

-- ---- the next number
-- the place of number k + 1 among those kept, and back
module _ {b k : ℕ} (h : b ≤ k) where
  pub place_next : suc (k - b) ≡ k + 1 - b
  place_next = omega arith

  number_next : b + suc (k - b) ≡ k + 1
  number_next = omega arith

-- from what is read at the loops' start
module _ (l : List ℕ) (a : ℕ) (w : Applied l a) where
  pub size : image_length ≤ length l
  size = formed_size l w.formed

  pub kept_few : last_of l - folded_of l ≤ 128
  kept_few = let r = formed_room l w.formed in omega (arith, r.1.0)

  pub fold_low : folded_of l ≤ last_of l
  fold_low = (formed_room l w.formed).0

  pub last_low : last_of l ≤ 65535
  last_low = (formed_room l w.formed).1.1

  pub kept_next : (k : ℕ) → folded_of l ≤ k → k < last_of l → Kept l (k + 1) a
  kept_next k p q = record { applied = w; kept = omega arith; last = omega arith }

  -- ---- the loops over the numbers kept: at the start, and when they are through
  pub at_start : (T : ℕ → List ℕ) → T 0 ≡ [] → {r n : ℕ} → r ≡ folded_of l → n ≡ last_of l → (m : List ℕ) (at : ℕ)
      → (folded_of l ≤ r) × ((r ≤ n) × Put m at (T (r - folded_of l)) at m)
  at_start T e {r} {n} er en m at =
      let z : r - folded_of l ≡ 0 = omega arith in
      (omega arith, (omega (arith, fold_low), subst (λ (j : List ℕ). Put m at j at m) (sym (ap T z ∙ e)) (put_none m at)))

  pub through : (T : ℕ → List ℕ) {k n : ℕ} → k ≤ n → n ≤ k → n ≡ last_of l → {m o : List ℕ} {at e : ℕ} → Put m at (T (k - folded_of l)) e o
      → Put m at (T (last_of l - folded_of l)) e o
  through T {k} {n} p q en {m} {o} {at} {e} x = let z : k ≡ last_of l = omega arith in subst (λ (j : ℕ). Put m at (T (j - folded_of l)) e o) z x

  -- ---- the lines of the changes
  pub no_changes : changes_text (view l) 0 ≡ []
  unfolding changes_text
  no_changes = refl

  pub changes_more : (k : ℕ) → folded_of l ≤ k → {m n o : List ℕ} {at e : ℕ} → Put m 0 (changes_text (view l) (k - folded_of l)) at n
      → Put n at (change_text (view l) (k + 1)) e o → Put m 0 (changes_text (view l) (k + 1 - folded_of l)) e o
  unfolding changes_text view
  changes_more k h {m} {n} {o} {at} {e} x y =
      subst (λ (j : ℕ). Put m 0 (changes_text (view l) j) e o) (place_next h)
      (put_then x (subst (λ (j : ℕ). Put n at (change_text (view l) j) e o) (sym (number_next h)) y))

  pub changes_short : (j : ℕ) → j ≤ last_of l - folded_of l → length (changes_text (view l) j) ≤ 164 * j
  unfolding changes_text view
  changes_short zero h = omega arith
  changes_short (suc j) h =
      let c : length (change_text (view l) (folded_of l + suc j)) ≤ 164 =
      change_short {l = l} {k = folded_of l + suc j} {a = a} (record { applied = w; kept = omega arith; last = omega arith }) in
      omega (arith, changes_short j (omega arith), c, length-append (changes_text (view l) j) (change_text (view l) (folded_of l + suc j)))

  pub changes_room : {m o : List ℕ} {at k : ℕ} → folded_of l ≤ k → k < last_of l → Put m 0 (changes_text (view l) (k - folded_of l)) at o → record_room ≤ length m
      → at + entry_room ≤ length o
  changes_room {k = k} p q x h = omega (arith, x.ends, changes_short (k - folded_of l) (omega arith), kept_few, put_length x)

  pub changes_low : {m o : List ℕ} {at : ℕ} → Put m 0 (changes_text (view l) (last_of l - folded_of l)) at o → at ≤ entry_room * 128
  changes_low x = omega (arith, x.ends, changes_short (last_of l - folded_of l) (omega arith), kept_few)

  -- ---- the changes held
  pub none_held : held_text (view l) 0 ≡ []
  unfolding listed
  none_held = refl

  pub held_more : (k : ℕ) → folded_of l ≤ k → {m n o : List ℕ} {start at e : ℕ} → Put m start (held_text (view l) (k - folded_of l)) at n
      → Put n at (next_in (holds (view l) (k + 1)) start at (decimal (k + 1))) e o → Put m start (held_text (view l) (k + 1 - folded_of l)) e o
  unfolding view
  held_more k h {m} {n} {o} {start} {at} {e} x y =
      let z : k - folded_of l + 1 ≡ k + 1 - folded_of l = omega arith in
      subst (λ (j : ℕ). Put m start (held_text (view l) j) e o) z
      (listed_next _ _ (k - folded_of l) x
      (subst (λ (j : ℕ). Put n at (next_in (holds (view l) j) start at (decimal j)) e o) (sym (number_next h)) y))

  pub held_few : (j : ℕ) → length (held_text (view l) j) ≤ 11 * j
  held_few j = listed_short _ _ 11 (λ i. omega (arith, decimal_short ((view l).log.folded.0 + suc i))) j

  pub held_room_holds : {m o : List ℕ} {start at k : ℕ} → folded_of l ≤ k → k < last_of l → Put m start (held_text (view l) (k - folded_of l)) at o
      → start + number_room * 128 ≤ length m → at + number_room ≤ length o
  held_room_holds {k = k} p q x h = omega (arith, x.ends, held_few (k - folded_of l), kept_few, put_length x)

  pub held_low : {m o : List ℕ} {start at : ℕ} → Put m start (held_text (view l) (last_of l - folded_of l)) at o → at ≤ start + number_room * 128
  held_low x = omega (arith, x.ends, held_few (last_of l - folded_of l), kept_few)

  pub held_line_holds : {m n o q : List ℕ} {at e f g : ℕ} → Put m at (text "held=") e n → Put n e (held_text (view l) (last_of l - folded_of l)) f o
      → Put o f (text "\n") g q → Put m at (held_line (holds (view l)) (folded_of l) (last_of l - folded_of l)) g q
  unfolding view
  held_line_holds x y z = line.held_put (holds (view l)) (folded_of l) (last_of l - folded_of l) x y z

  pub held_line_low : {m o : List ℕ} {at e : ℕ} → Put m at (held_line (holds (view l)) (folded_of l) (last_of l - folded_of l)) e o → e ≤ at + held_room
  held_line_low x = omega (arith, x.ends, held_short (holds (view l)) (folded_of l) (last_of l - folded_of l) kept_few)

  -- ---- the whole
  pub whole : {m n o q : List ℕ} {c d r : ℕ} → Put m 0 (changes_text (view l) (last_of l - folded_of l)) c n
      → Put n c (folded_line (folded_of l) (table_of l of_base)) d o
      → Put o d (held_line (holds (view l)) (folded_of l) (last_of l - folded_of l)) r q → Put m 0 (state_text (view l)) r q
  unfolding view
  whole {m} {q = q} {r = r} x y z =
      subst
      (λ (j : ℕ). Put m 0 (changes_text (view l) j ++ (folded_line (folded_of l) (table_of l of_base) ++ held_line (holds (view l)) (folded_of l) j)) r q)
      (sym (view_kept l)) (put_then x (put_then y z))

-- ---- the base, path by path
module _ (l : List ℕ) (p v : ℕ) (e : LoadsValue l (values_at of_base) p v) where
  at_base : v ≡ get_or (table_of l of_base) p 0
  unfolding table_of
  at_base = e

  pub no_pair : v ≡ 0 → (m : List ℕ) (start at : ℕ)
      → Put m at (next_in (not (eqb (get_or (table_of l of_base) p 0) 0)) start at (pair_text p (get_or (table_of l of_base) p 0))) at m
  no_pair z m start at = rw (← at_base, eq-eqb v 0 z) (put_none m at)

  pub one_pair : (v ≡ 0 → ⊥) → (start : ℕ) {m n : List ℕ} {at f : ℕ} → Put m at (next_in true start at (pair_text p v)) f n
      → Put m at (next_in (not (eqb (get_or (table_of l of_base) p 0) 0)) start at (pair_text p (get_or (table_of l of_base) p 0))) f n
  one_pair z start x = rw (← at_base, ne_eqb v 0 z) x

-- ---- what is folded
pub begin_low : (b : ℕ) {l m : List ℕ} {at e : ℕ} → Put l at (filled (text "folded=# base=") (b ∷ [])) e m → e ≤ at + 23
begin_low b x = omega (arith, x.ends, filled_short (text "folded=# base=") (b ∷ []) 0)

pub folded_line_holds : (l vs : List ℕ) (r : ℕ) → r ≡ folded_of l → {m n o q : List ℕ} {at e f g : ℕ} → Put m at (filled (text "folded=# base=") (r ∷ [])) e n
    → Put n e (values_text vs) f o → Put o f (text "\n") g q → Put m at (folded_line (folded_of l) vs) g q
folded_line_holds l vs r e {m} {q = q} {at} {g = g} x y z = subst (λ (b : ℕ). Put m at (folded_line b vs) g q) e (line.folded_put r vs x y z)

pub folded_low : (b : ℕ) (vs : List ℕ) {m o : List ℕ} {at e : ℕ} → Put m at (folded_line b vs) e o → e ≤ at + folded_room
folded_low b vs x = omega (arith, x.ends, folded_short b vs)

-- ---- what is reported
pub applied_of : (l : List ℕ) (b : Bool) (h : Head) → b ≡ formed l → b ≡ true → h ≡ head_at l applied_at → Applied l h.ordinal.0
applied_of l b h e t q = record { formed = sym e ∙ t; ordinal = ap (λ (x : Head). x.ordinal.0) q }

module _ {l m n : List ℕ} {r : ℕ} where
  reported : {t : List ℕ} → t ≡ record_text l → Put m 0 t r n → r ≤ length m → Reports l m r n
  reported {t} e p h =
      let f : r ≡ length t = omega (arith, p.ends) in
      record {
        sized = f ∙ ap length e;
        fits = h;
        holds =
            p.holds ∙ sets-eq t m 0 (omega arith) ∙ ap (λ (k : ℕ). t ++ drop k m) (zero-add (length t))
            ∙ ap (λ (s : List ℕ). s ++ drop (length s) m) e;
      }

  pub reports : (b : Bool) → b ≡ formed l → b ≡ true → Put m 0 (state_text (view l)) r n → r ≤ length m → Reports l m r n
  unfolding record_text
  reports b e t p h = let z : formed l ≡ true = sym e ∙ t in reported (rw z refl) p h

  pub reports_none : (b : Bool) → b ≡ formed l → b ≡ false → Put m 0 unformed_line r n → 9 ≤ length m → Reports l m r n
  unfolding record_text
  reports_none b e t p h = let z : formed l ≡ false = sym e ∙ t in reported (rw z refl) p (omega (arith, p.ends))

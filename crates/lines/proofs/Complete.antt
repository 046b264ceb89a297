-- Whatever line a form of the table fits is read as what that form asks for. Assumes nothing.
use Prim.Native.Nat.{ℕ, ◌+◌, ◌-◌, ◌≤◌}
use mathlib.Core.Path.{◌≡◌, refl, ap, sym, subst, ◌∙◌}
use mathlib.Core.Logic.{◌⊎◌, inl, inr}
use mathlib.Core.List.{List, [], ◌∷◌, ◌++◌, foldl, append_assoc, append-nil}
use mathlib.Core.Bool.{true, false, ◌||◌}
use native.Mathlib.Omega.{arith}
use lib.Dec.{eqb}
use lib.ListN.{length}
use Rattle.machine.specs.Calls.{Pair}
use Rattle.machine.specs.Import.{Entry}
use Rattle.lines.specs.Text.{text}
use Rattle.lines.specs.Decimal.{is_digit}
use Rattle.lines.specs.Forms.{Asked, Token, Asks}
use Rattle.lines.specs.Grammar.{all_digits, tenfold, flat, worths, Number, Row, one, more, Entered, no_pairs, some_pairs, place, Entries, last, then, Item, plain, inner, close, undo, as_items, items_of, items, Fits, fits_end, fits_letter, fits_number, fits_none, fits_pairs, fits_digits, fits_no_entry, fits_entries}
use Rattle.lines.specs.Reading.{letter_at, is_numbered, is_tag, inside, begins, may_end, parts}
use Rattle.lines.proofs.Classes.{and_none, and_left, and_right, begins_inside, paired_numbered}
use Rattle.lines.proofs.Goes.{tells, Paired, pairs_told, entries_told, Goes, done, leave, begin, grow, digit, part, spell}
use Rattle.lines.proofs.Standing.{Stands}

-- ---- digits
grows : (d : List ℕ) (v : ℕ) → v ≤ foldl tenfold v d
grows [] v = omega arith
grows (b ∷ d) v = omega (arith, grows d (tenfold v b))

module _ (q t : ℕ) (mark : is_numbered (letter_at q) ≡ true) where
  digits_go :
      (s : ℕ) → inside s ≡ true → (d : List ℕ) (v : ℕ) (l : List ℕ) (ns : List Item) → all_digits d ≡ true → foldl tenfold v d ≤ 65535 →
      Goes q s (foldl tenfold v d) l ns t → Goes q s v (d ++ l) ns t
  unfolding all_digits
  digits_go s i [] v l ns a f g = g
  digits_go s i (b ∷ d) v l ns a f g =
      grow {v = v} {b = b} mark (and_left (is_digit b) (all_digits d) a) i (omega (arith, grows d (tenfold v b)))
      (digits_go s i d (tenfold v b) l ns (and_right (is_digit b) (all_digits d) a) f g)

  number_goes :
      (s v : ℕ) (l : List ℕ) (ns : List Item) (d : List ℕ) {n : ℕ} → inside s ≡ false → Number d n → Goes q (begins s) n l ns t → Goes q s v (d ++ l) ns t
  unfolding all_digits
  number_goes s v l ns [] i x g = absurd (omega (arith, x.some))
  number_goes s v l ns (b ∷ d) {n} i x g =
      let w : foldl tenfold (b - 48) d ≡ n = ap (λ (u : ℕ). foldl tenfold u d) (omega arith) ∙ x.worth in
      begin mark (and_left (is_digit b) (all_digits d) x.digits) i
      (digits_go (begins s) (begins_inside s) d (b - 48) l ns (and_right (is_digit b) (all_digits d) x.digits) (omega (arith, x.fits))
      (subst (λ (u : ℕ). Goes q (begins s) u l ns t) (sym w) g))

-- ---- pairs
module _ (q t : ℕ) (k : ℕ → Item) (x : List Item) (h : Paired (letter_at q) k x) where
  mark : is_numbered (letter_at q) ≡ true
  mark = paired_numbered (letter_at q) h.paired

  -- the colon behind a path
  colon_goes : (s n : ℕ) (l : List ℕ) (ns : List Item) → (begins s ≡ 1) ⊎ (begins s ≡ 5) → Goes q 2 0 l ns t → Goes q (begins s) n (58 ∷ l) (k n ∷ ns) t
  colon_goes s n l ns e g = part 1 ns refl (colon e) (ap (λ (z : List Item). z ++ ns) (sym (h.path (begins s) n (begins_inside s)))) g
    where
      colon : (begins s ≡ 1) ⊎ (begins s ≡ 5) → parts (letter_at q) (begins s) 58 ≡ 2
      colon (inl i) = rw (i, h.paired)
      colon (inr i) = rw (i, h.paired)

  row_goes :
      {d : List ℕ} {ps : List Pair} → Row d ps → (s v : ℕ) (l : List ℕ) (ns : List Item) → inside s ≡ false → (begins s ≡ 1) ⊎ (begins s ≡ 5) →
      ((v : ℕ) → Goes q 3 v l (k v ∷ ns) t) → Goes q s v (d ++ l) (as_items k (flat ps) ++ ns) t
  unfolding flat as_items
  row_goes (one {a} {b} {p = p} {v = y} j i) s v l ns o e g =
      subst (λ (z : List ℕ). Goes q s v z (k p ∷ k y ∷ ns) t) (regroup a b)
      (number_goes q t mark s v (58 ∷ (b ++ l)) (k p ∷ k y ∷ ns) a o j
      (colon_goes s p (b ++ l) (k y ∷ ns) e (number_goes q t mark 2 0 l (k y ∷ ns) b refl i (g y))))
    where
      regroup : (a b : List ℕ) → a ++ (58 ∷ (b ++ l)) ≡ a ++ text ":" ++ b ++ l
      regroup a b = simp append_assoc
  row_goes (more {a} {b} {l = l'} {p = p} {v = y} {ps = ps} j i r) s v l ns o e g =
      subst (λ (z : List ℕ). Goes q s v z (k p ∷ k y ∷ (as_items k (flat ps) ++ ns)) t) (regroup a b l')
      (number_goes q t mark s v (58 ∷ (b ++ (44 ∷ (l' ++ l)))) (k p ∷ k y ∷ (as_items k (flat ps) ++ ns)) a o j
      (colon_goes s p (b ++ (44 ∷ (l' ++ l))) (k y ∷ (as_items k (flat ps) ++ ns)) e
      (number_goes q t mark 2 0 (44 ∷ (l' ++ l)) (k y ∷ (as_items k (flat ps) ++ ns)) b refl i
      (part 3 (as_items k (flat ps) ++ ns) refl (rw h.paired) (ap (λ (z : List Item). z ++ (as_items k (flat ps) ++ ns)) (sym (h.value y)))
      (row_goes r 4 0 l ns refl (inr refl) g)))))
    where
      regroup : (a b l' : List ℕ) → a ++ (58 ∷ (b ++ (44 ∷ (l' ++ l)))) ≡ a ++ text ":" ++ b ++ text "," ++ l' ++ l
      regroup a b l' = simp append_assoc

-- ---- entries
-- where an entry begins: behind a slash, or at the list's start if it has a byte
abbrev Begins : ℕ → List ℕ → Type 0
Begins s d = (s ≡ 6) ⊎ ((s ≡ 0) × (1 ≤ length d))

module _ (q t : ℕ) (is : letter_at q ≡ 36) where
  numbered : is_numbered (letter_at q) ≡ true
  numbered = rw is

  begins_one : (s : ℕ) → (s ≡ 6) ⊎ (s ≡ 0) → begins s ≡ 1
  begins_one s (inl e) = rw e
  begins_one s (inr e) = rw e

  not_inside : (s : ℕ) → (s ≡ 6) ⊎ (s ≡ 0) → inside s ≡ false
  not_inside s (inl e) = rw e
  not_inside s (inr e) = rw e

  may_end_holds : (s : ℕ) → (s ≡ 6) ⊎ (s ≡ 0) → may_end (letter_at q) s ≡ true
  may_end_holds s (inl e) = rw (is, e)
  may_end_holds s (inr e) = rw (is, e)

  -- an entry that the mark's end ends, or a slash, with what has come of it
  module _ (n : ℕ) (l : List ℕ) (ns : List Item) (change : (v : ℕ) → tells (letter_at q) n 3 v ≡ inner v ∷ close ∷ [])
      (rollback : (v : ℕ) → tells (letter_at q) n 1 v ≡ undo v ∷ [])
      (step : (s v : ℕ) → may_end (letter_at q) s ≡ true → Goes q s v l (tells (letter_at q) n s v ++ ns) t) where
    entry_goes :
        {d : List ℕ} {e : Entry} → Entered d e → (s v : ℕ) → (s ≡ 6) ⊎ (s ≡ 0) → (length d ≡ 0 → tells (letter_at q) n s v ≡ close ∷ []) →
        Goes q s v (d ++ l) (items_of e ++ ns) t
    unfolding flat as_items
    entry_goes no_pairs s v b none = subst (λ (z : List Item). Goes q s v l (z ++ ns) t) (none refl) (step s v (may_end_holds s b))
    entry_goes (some_pairs {d} {ps} r) s v b none =
        subst (λ (z : List Item). Goes q s v (d ++ l) z t) (sym (append_assoc (as_items inner (flat ps)) (close ∷ []) ns))
        (row_goes q t inner (close ∷ []) (entries_told (letter_at q) is) r s v l (close ∷ ns) (not_inside s b) (inl (begins_one s b))
        (λ u. subst (λ (z : List Item). Goes q 3 u l (z ++ ns) t) (change u) (step 3 u (rw is))))
    entry_goes (place {d} {n = p} x) s v b none =
        number_goes q t numbered s v l (undo p ∷ ns) d (not_inside s b) x
        (subst (λ (i : ℕ). Goes q i p l (undo p ∷ ns) t) (sym (begins_one s b))
        (subst (λ (z : List Item). Goes q 1 p l (z ++ ns) t) (rollback p) (step 1 p (rw is))))

  -- the mark's end, or a slash
  end_goes : (l : List ℕ) (ns : List Item) → ((v : ℕ) → Goes (q + 1) 0 v l ns t) → (s v : ℕ) → may_end (letter_at q) s ≡ true → Goes q s v l (tells (letter_at q) 0 s v ++ ns) t
  end_goes l ns g s v m = leave {q = q} {s = s} {v = v} ns (rw is) m refl (g v)

  slash_goes : (l : List ℕ) (ns : List Item) → Goes q 6 0 l ns t → (s v : ℕ) → may_end (letter_at q) s ≡ true → Goes q s v (47 ∷ l) (tells (letter_at q) 6 s v ++ ns) t
  slash_goes l ns g s v m = part {q = q} {s = s} {v = v} {b = 47} 5 ns refl (slash (letter_at q) s is m) refl g
    where
      slash : (c s : ℕ) → c ≡ 36 → may_end c s ≡ true → parts c s 47 ≡ 6
      slash c s e h =
          rw (e, ap (λ (x : ℕ). may_end x s) (sym e) ∙ h, and_none (eqb s 1 || eqb s 5), and_none (eqb s 3))

  first : (s : ℕ) (d : List ℕ) → Begins s d → (s ≡ 6) ⊎ (s ≡ 0)
  first s d (inl e) = inl e
  first s d (inr e) = inr e.0

  entries_go :
      {d : List ℕ} {es : List Entry} → Entries d es → (s v : ℕ) → Begins s d → (l : List ℕ) (ns : List Item) → ((v : ℕ) → Goes (q + 1) 0 v l ns t) →
      Goes q s v (d ++ l) (items es ++ ns) t
  unfolding items
  entries_go (last {d} {e} x) s v b l ns g =
      subst (λ (z : List Item). Goes q s v (d ++ l) (z ++ ns) t) (sym (append-nil (items_of e)))
      (entry_goes 0 l ns (λ u. rw is) (λ u. rw is) (end_goes l ns g) x s v (first s d b) (λ z. by b z))
    where
      by : Begins s d → length d ≡ 0 → tells (letter_at q) 0 s v ≡ close ∷ []
      by (inl i) z = rw (is, i)
      by (inr i) z = absurd (omega (arith, i.1))
  entries_go (then {d} {l = l'} {e} {es} x y) s v b l ns g =
      subst (λ (z : List ℕ). Goes q s v z ((items_of e ++ items es) ++ ns) t) (regroup d l')
      (subst (λ (z : List Item). Goes q s v (d ++ (47 ∷ (l' ++ l))) z t) (sym (append_assoc (items_of e) (items es) ns))
      (entry_goes 6 (47 ∷ (l' ++ l)) (items es ++ ns) (λ u. rw is) (λ u. rw is) (slash_goes (l' ++ l) (items es ++ ns) (entries_go y 6 0 (inl refl) l ns g)) x s v
      (first s (d ++ text "/" ++ l') b) (λ z. by (first s (d ++ text "/" ++ l') b))))
    where
      by : (s ≡ 6) ⊎ (s ≡ 0) → tells (letter_at q) 6 s v ≡ close ∷ []
      by (inl i) = rw (is, i)
      by (inr i) = rw (is, i)

      regroup : (d l' : List ℕ) → d ++ (47 ∷ (l' ++ l)) ≡ d ++ text "/" ++ l' ++ l
      regroup d l' = simp append_assoc

-- ---- single digits
module _ (q t : ℕ) (is : letter_at q ≡ 38) where
  may : may_end (letter_at q) 0 ≡ true
  may = rw is

  -- behind one that is being read
  more_go :
      (d : List ℕ) (v : ℕ) (l : List ℕ) (ns : List Item) → all_digits d ≡ true → ((v : ℕ) → Goes (q + 1) 0 v l ns t) → Goes q 1 v (d ++ l) (plain v ∷ (as_items plain (worths d) ++ ns)) t
  unfolding all_digits worths as_items
  more_go [] v l ns a g = leave {q = q} {s = 1} {v = v} {m = plain v ∷ ns} ns (rw is) (rw is) (rw is) (g v)
  more_go (b ∷ d) v l ns a g =
      digit (plain (b - 48) ∷ (as_items plain (worths d) ++ ns)) is (and_left (is_digit b) (all_digits d) a) refl (more_go d (b - 48) l ns (and_right (is_digit b) (all_digits d) a) g)

  singles_go :
      (d : List ℕ) (v : ℕ) (l : List ℕ) (ns : List Item) → all_digits d ≡ true → ((v : ℕ) → Goes (q + 1) 0 v l ns t) → Goes q 0 v (d ++ l) (as_items plain (worths d) ++ ns) t
  unfolding all_digits worths as_items
  singles_go [] v l ns a g = leave {q = q} {s = 0} {v = v} {m = ns} ns (rw is) may (rw is) (g v)
  singles_go (b ∷ d) v l ns a g =
      digit (plain (b - 48) ∷ (as_items plain (worths d) ++ ns)) is (and_left (is_digit b) (all_digits d) a) refl (more_go d (b - 48) l ns (and_right (is_digit b) (all_digits d) a) g)

-- ---- a form
pub fits_go :
    {f : List Token} {a : Asks f} {l : List ℕ} {ns : List Item} {x : Asked} → Fits f a l ns x → (q t v : ℕ) → is_tag t ≡ true → Stands f t q → Goes q 0 v l ns t
unfolding Stands
fits_go fits_end q t v g s = done refl g s
fits_go (fits_letter w y) q t v g s = spell refl w s.0 (fits_go y (q + 1) t v g s.1)
fits_go (fits_number {d} {n} {l = l} {ns = ns} x y) q t v g s =
    let m : is_numbered (letter_at q) ≡ true = rw s.0 in
    let e : may_end (letter_at q) 1 ≡ true = rw s.0 in
    number_goes q t m 0 v l (plain n ∷ ns) d refl x (leave {q = q} {s = 1} {v = n} {m = plain n ∷ ns} ns (rw s.0) e (rw s.0) (fits_go y (q + 1) t n g s.1))
fits_go (fits_none {ns = ns} y) q t v g s = leave {q = q} {s = 0} {v = v} {m = ns} ns (rw s.0) (rw s.0) (rw s.0) (fits_go y (q + 1) t v g s.1)
fits_go (fits_pairs {l = l} {ns = ns} r y) q t v g s =
    row_goes q t plain [] (pairs_told (letter_at q) s.0) r 0 v l ns refl (inl refl)
    (λ u. leave {q = q} {s = 3} {v = u} {m = plain u ∷ ns} ns (rw s.0) (rw s.0) (rw s.0) (fits_go y (q + 1) t u g s.1))
fits_go (fits_digits d {l = l} {ns = ns} a y) q t v g s = singles_go q t s.0 d v l ns a (λ u. fits_go y (q + 1) t u g s.1)
fits_go (fits_no_entry {ns = ns} y) q t v g s = leave {q = q} {s = 0} {v = v} {m = ns} ns (rw s.0) (rw s.0) (rw s.0) (fits_go y (q + 1) t v g s.1)
fits_go (fits_entries {l = l} {ns = ns} o r y) q t v g s = entries_go q t s.0 r 0 v (inr (refl, o)) l ns (λ u. fits_go y (q + 1) t u g s.1)

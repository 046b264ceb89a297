-- Whatever goes from the start of a row to its tag fits that row's form. Assumes nothing.
use Prim.Native.Nat.{ℕ, zero, suc, ◌+◌, ◌-◌, ◌≤◌}
use mathlib.Core.Path.{◌≡◌, refl, ap, sym, subst, ◌∙◌}
use mathlib.Core.Logic.{◌⊎◌, inl, inr}
use mathlib.Core.List.{List, [], ◌∷◌, ◌++◌, foldl, append_assoc, append-nil}
use mathlib.Core.Bool.{true, false}
use native.Mathlib.Omega.{arith}
use borrow.Author.Tests.{leb-true}
use lib.Dec.{leb}
use lib.ListN.{length, length-append}
use Rattle.machine.specs.Calls.{Pair}
use Rattle.machine.specs.Import.{Entry, adds, undoes}
use Rattle.lines.specs.Text.{text}
use Rattle.lines.specs.Forms.{Asked, Token, letter, number, pairs, digits, entries, Asks}
use Rattle.lines.specs.Grammar.{all_digits, tenfold, pair, flat, worths, is_word, Number, Row, one, more, Entered, no_pairs, some_pairs, place, Entries, last, then, Item, plain, inner, close, as_items, items_of, items, Fits, fits_end, fits_letter, fits_number, fits_none, fits_pairs, fits_digits, fits_no_entry, fits_entries}
use Rattle.lines.specs.Reading.{letter_at, is_numbered, is_mark, is_tag, inside, begins, parts, may_end}
use Rattle.lines.proofs.Classes.{differ, and_left, and_right, numbered_mark, paired_elim, paired_numbered, word_no_tag, mark_no_word, mark_no_tag, begins_inside, Parted, colon, comma, slash, parted_by, parted_at_holds, parted_mark}
use Rattle.lines.proofs.Goes.{held, tells, Paired, pairs_told, entries_told, Goes, done, leave, begin, grow, digit, part, spell}
use Rattle.lines.proofs.Standing.{Stands, sound_text}

module _ (q t : ℕ) (mark : is_numbered (letter_at q) ≡ true) where
  -- ---- where s has come and n is being read: what parts, or the mark's end
  data After (s n : ℕ) (l : List ℕ) (ns : List Item) : Type 0 where
    parts_with :
        (b i : ℕ) (l' : List ℕ) (ns' : List Item) → parts (letter_at q) s b ≡ suc i → l ≡ b ∷ l' → ns ≡ tells (letter_at q) (suc i) s n ++ ns' →
        Goes q (suc i) 0 l' ns' t → After s n l ns
    ends_with : (ns' : List Item) → may_end (letter_at q) s ≡ true → ns ≡ tells (letter_at q) 0 s n ++ ns' → Goes (q + 1) 0 n l ns' t → After s n l ns

  record Digits (s v : ℕ) (l : List ℕ) (ns : List Item) : Type 0 where
    d : List ℕ
    rest : List ℕ
    is : l ≡ d ++ rest
    digits : all_digits d ≡ true
    fits : foldl tenfold v d ≤ 65535
    after : After s (foldl tenfold v d) rest ns

  digits_of : {s v : ℕ} {l : List ℕ} {ns : List Item} → inside s ≡ true → v ≤ 65535 → Goes q s v l ns t → Digits s v l ns
  unfolding all_digits
  digits_of i f (done z g e) = differ (sym i ∙ ap inside z)
  digits_of i f (spell z w e g) = differ (sym i ∙ ap inside z)
  digits_of i f (begin m d n g) = differ (sym i ∙ n)
  digits_of i f (digit ns c d e g) = differ (sym mark ∙ ap is_numbered c)
  digits_of {s} {v} i f (grow {b = b} m d n k g) =
      let y = digits_of i k g in
      record { d = b ∷ y.d; rest = y.rest; is = ap (λ (z : List ℕ). b ∷ z) y.is; digits = rw d y.digits; fits = y.fits; after = y.after }
  digits_of {s} {v} {ns = ns} i f (part {b = b} {l = l} n ns' d e k g) =
      record { d = []; rest = b ∷ l; is = refl; digits = refl; fits = f; after = parts_with b n l ns' e refl k g }
  digits_of {s} {v} {l} {ns} i f (leave ns' m e k g) = record { d = []; rest = l; is = refl; digits = refl; fits = f; after = ends_with ns' e k g }

  -- ---- where no number has begun: one begins, or not
  record Numbered (s : ℕ) (l : List ℕ) (ns : List Item) : Type 0 where
    d : List ℕ
    n : ℕ
    rest : List ℕ
    is : l ≡ d ++ rest
    number : Number d n
    after : After (begins s) n rest ns

  numbered : {s v : ℕ} {l : List ℕ} {ns : List Item} → inside s ≡ false → Goes q s v l ns t → Numbered s l ns ⊎ After s v l ns
  unfolding all_digits
  numbered i (done z g e) = absurd (mark_no_tag (letter_at q) (numbered_mark (letter_at q) mark) (ap is_tag e ∙ g))
  numbered i (spell z w e g) = absurd (mark_no_word (letter_at q) (numbered_mark (letter_at q) mark) (ap is_word e ∙ w))
  numbered i (digit ns c d e g) = differ (sym mark ∙ ap is_numbered c)
  numbered {s} i (begin {b = b} m d n g) =
      let y = digits_of (begins_inside s) (omega (arith, leb-true b 57 (and_right (leb 48 b) (leb b 57) d))) g in
      inl (record {
        d = b ∷ y.d;
        n = foldl tenfold (b - 48) y.d;
        rest = y.rest;
        is = ap (λ (z : List ℕ). b ∷ z) y.is;
        number = record {
          some = omega arith;
          digits = rw d y.digits;
          worth = ap (λ (u : ℕ). foldl tenfold u y.d) (omega arith);
          fits = y.fits;
        };
        after = y.after;
      })
  numbered i (grow m d n k g) = differ (sym n ∙ i)
  numbered {s} i (part {b = b} {l = l} n ns' d e k g) = inr (parts_with b n l ns' e refl k g)
  numbered {s} {v} {l} {ns} i (leave ns' c e k g) = inr (ends_with ns' e k g)

shorter : (d : List ℕ) (b : ℕ) (l r : List ℕ) (n : ℕ) → l ≡ d ++ (b ∷ r) → length l ≤ suc n → length r ≤ n
shorter d b l r n e h = omega (arith, ap length e ∙ length-append d (b ∷ r))

-- ---- pairs
module _ (q t : ℕ) (k : ℕ → Item) (x : List Item) (h : Paired (letter_at q) k x) where
  mark : is_numbered (letter_at q) ≡ true
  mark = paired_numbered (letter_at q) h.paired

  -- nothing ends behind a comma or a further path
  no_end : (s : ℕ) → (s ≡ 4) ⊎ (s ≡ 5) → may_end (letter_at q) s ≡ false
  no_end s (inl e) = rw e (paired_elim (letter_at q) h.paired (λ i. rw i) (λ i. rw i))
  no_end s (inr e) = rw e (paired_elim (letter_at q) h.paired (λ i. rw i) (λ i. rw i))

  -- behind the last value v: the mark's end, or a slash
  data Ends (v : ℕ) (l : List ℕ) (left : List Item) : Type 0 where
    leaves : (ns' : List Item) → left ≡ x ++ ns' → Goes (q + 1) 0 v l ns' t → Ends v l left
    slashes : (l' : List ℕ) (ns' : List Item) → letter_at q ≡ 36 → l ≡ 47 ∷ l' → left ≡ x ++ ns' → Goes q 6 0 l' ns' t → Ends v l left

  record Listed (l : List ℕ) (ns : List Item) : Type 0 where
    d : List ℕ
    ps : List Pair
    rest : List ℕ
    left : List Item
    v : ℕ
    is_line : l ≡ d ++ rest
    row : Row d ps
    is_told : ns ≡ as_items k (flat ps) ++ left
    ends : Ends v rest left

  -- a pair whose path was p: behind the colon
  module _ (top : ℕ) (again : (l : List ℕ) (ns : List Item) → length l ≤ top → Goes q 4 0 l ns t → Listed l ns) where
    -- its value y is the last, or a further pair comes
    last_of :
        (p y : ℕ) (a c l : List ℕ) (ns : List Item) → Number a p → Number c y → length l ≤ top → After q t mark 3 y l ns →
        Listed (a ++ text ":" ++ c ++ l) (k p ∷ ns)
    unfolding flat as_items
    last_of p y a c l ns j i o (ends_with ns' may e g) =
        record {
          d = a ++ text ":" ++ c;
          ps = pair p y ∷ [];
          rest = l;
          left = x ++ ns';
          v = y;
          is_line = refl;
          row = one j i;
          is_told = ap (λ (z : List Item). k p ∷ z) (e ∙ ap (λ (z : List Item). z ++ ns') (h.ends y));
          ends = leaves ns' refl g;
        }
    last_of p y a c l ns j i o (parts_with b m l' ns' f e u g) = by (parted_by (letter_at q) 3 b m f)
      where
        by : Parted (letter_at q) 3 b (suc m) → Listed (a ++ text ":" ++ c ++ l) (k p ∷ ns)
        by (colon w (inl s) y n) = absurd (omega arith)
        by (colon w (inr s) y n) = absurd (omega arith)
        by (slash w s z n) =
            record {
              d = a ++ text ":" ++ c;
              ps = pair p y ∷ [];
              rest = l;
              left = x ++ ns';
              v = y;
              is_line = refl;
              row = one j i;
              is_told = ap (λ (z : List Item). k p ∷ z) (u ∙ ap (λ (z : List Item). z ++ ns') (ap (λ (i : ℕ). tells (letter_at q) i 3 y) n ∙ h.slash y));
              ends =
                  slashes l' ns' w (e ∙ ap (λ (i : ℕ). i ∷ l') z) refl (subst (λ (i : ℕ). Goes q i 0 l' ns' t) n g);
            }
        by (comma w s z n) =
            let r = again l' ns' (shorter [] b l l' top e (omega arith)) (subst (λ (i : ℕ). Goes q i 0 l' ns' t) n g) in
            record {
              d = a ++ text ":" ++ c ++ text "," ++ r.d;
              ps = pair p y ∷ r.ps;
              rest = r.rest;
              left = r.left;
              v = r.v;
              is_line =
                  ap (λ (i : List ℕ). a ++ text ":" ++ c ++ i) (e ∙ ap (λ (i : ℕ). i ∷ l') z ∙ ap (λ (i : List ℕ). 44 ∷ i) r.is_line) ∙ regroup a c r.d r.rest;
              row = more j i r.row;
              is_told =
                  ap (λ (z : List Item). k p ∷ z)
                  (u ∙ ap (λ (z : List Item). z ++ ns') (ap (λ (i : ℕ). tells (letter_at q) i 3 y) n ∙ h.value y) ∙ ap (λ (z : List Item). k y ∷ z) r.is_told);
              ends = r.ends;
            }
          where
            regroup : (a c d r : List ℕ) → a ++ text ":" ++ c ++ (44 ∷ (d ++ r)) ≡ a ++ text ":" ++ c ++ text "," ++ d ++ r
            regroup a c d r = simp append_assoc

    second_of : (p : ℕ) (a l : List ℕ) (ns : List Item) → Number a p → length l ≤ top → Goes q 2 0 l ns t → Listed (a ++ (58 ∷ l)) (k p ∷ ns)
    second_of p a l ns j o g = by (numbered q t mark refl g)
      where
        no_end_two : may_end (letter_at q) 2 ≡ false
        no_end_two = paired_elim (letter_at q) h.paired (λ i. rw i) (λ i. rw i)

        none : {b i : ℕ} → Parted (letter_at q) 2 b i → Listed (a ++ (58 ∷ l)) (k p ∷ ns)
        none (colon w (inl s) z n) = absurd (omega arith)
        none (colon w (inr s) z n) = absurd (omega arith)
        none (comma w s z n) = absurd (omega arith)
        none (slash w s z n) = differ (sym s ∙ no_end_two)

        by : Numbered q t mark 2 l ns ⊎ After q t mark 2 0 l ns → Listed (a ++ (58 ∷ l)) (k p ∷ ns)
        by (inr (parts_with b i l' ns' f e u g)) = none (parted_by (letter_at q) 2 b i f)
        by (inr (ends_with ns' may e g)) = differ (sym may ∙ no_end_two)
        by (inl z) =
            subst (λ (u : List ℕ). Listed u (k p ∷ ns)) (regroup a z.d z.rest ∙ ap (λ (u : List ℕ). a ++ (58 ∷ u)) (sym z.is))
            (last_of p z.n a z.d z.rest ns j z.number (omega (arith, ap length z.is ∙ length-append z.d z.rest)) z.after)
          where
            regroup : (a c l : List ℕ) → a ++ text ":" ++ c ++ l ≡ a ++ (58 ∷ (c ++ l))
            regroup a c l = simp append_assoc

    -- behind a path p a colon
    colon_of :
        (s p : ℕ) (a l l' : List ℕ) (ns ns' : List Item) (b i : ℕ) → inside s ≡ true → Number a p → length l ≤ suc top → l ≡ b ∷ l' → b ≡ 58 → suc i ≡ 2 →
        ns ≡ tells (letter_at q) (suc i) s p ++ ns' → Goes q (suc i) 0 l' ns' t → Listed (a ++ l) ns
    colon_of s p a l l' ns ns' b i w j o e z m u g =
        subst (λ (v : List ℕ). Listed (a ++ v) ns) (sym (e ∙ ap (λ (v : ℕ). v ∷ l') z))
        (subst (λ (v : List Item). Listed (a ++ (58 ∷ l')) v)
        (sym (u ∙ ap (λ (v : List Item). v ++ ns') (ap (λ (v : ℕ). tells (letter_at q) v s p) m ∙ h.path s p w)))
        (second_of p a l' ns' j (shorter [] b l l' top e o) (subst (λ (v : ℕ). Goes q v 0 l' ns' t) m g)))

    -- a further pair, behind its path p
    further_of : (p : ℕ) (a l : List ℕ) (ns : List Item) → Number a p → length l ≤ suc top → After q t mark 5 p l ns → Listed (a ++ l) ns
    further_of p a l ns j o (ends_with ns' may e g) = differ (sym may ∙ no_end 5 (inr refl))
    further_of p a l ns j o (parts_with b i l' ns' f e u g) = by (parted_by (letter_at q) 5 b i f)
      where
        by : Parted (letter_at q) 5 b (suc i) → Listed (a ++ l) ns
        by (colon w s z n) = colon_of 5 p a l l' ns ns' b i refl j o e z n u g
        by (comma w s z n) = absurd (omega arith)
        by (slash w s z n) = differ (sym s ∙ no_end 5 (inr refl))

  -- behind a comma, where a further pair is known to be listed
  behind_comma :
      (l : List ℕ) (ns : List Item) → (Numbered q t mark 4 l ns → Listed l ns) → Goes q 4 0 l ns t → Listed l ns
  behind_comma l ns go g = by (numbered q t mark refl g)
    where
      none : {b i : ℕ} → Parted (letter_at q) 4 b i → Listed l ns
      none (colon w (inl s) z n) = absurd (omega arith)
      none (colon w (inr s) z n) = absurd (omega arith)
      none (comma w s z n) = absurd (omega arith)
      none (slash w s z n) = differ (sym s ∙ no_end 4 (inl refl))

      by : Numbered q t mark 4 l ns ⊎ After q t mark 4 0 l ns → Listed l ns
      by (inr (parts_with b i l' ns' f e u g)) = none (parted_by (letter_at q) 4 b i f)
      by (inr (ends_with ns' may e g)) = differ (sym may ∙ no_end 4 (inl refl))
      by (inl z) = go z

  rows_of : (n : ℕ) (l : List ℕ) (ns : List Item) → length l ≤ n → Goes q 4 0 l ns t → Listed l ns
  rows_of zero l ns o g =
      behind_comma l ns (λ z. absurd (omega (arith, ap length z.is ∙ length-append z.d z.rest, z.number.some))) g
  rows_of (suc n) l ns o g = behind_comma l ns (further (λ l ns o g. rows_of n l ns o g)) g
    where
      further : ((l : List ℕ) (ns : List Item) → length l ≤ n → Goes q 4 0 l ns t → Listed l ns) → Numbered q t mark 4 l ns → Listed l ns
      further again z =
          subst (λ (u : List ℕ). Listed u ns) (sym z.is)
          (further_of n again z.n z.d z.rest ns z.number (omega (arith, ap length z.is ∙ length-append z.d z.rest)) z.after)

  -- pairs from a first path p on
  pairs_from :
      (p : ℕ) (a l l' : List ℕ) (ns ns' : List Item) (b i : ℕ) → Number a p → l ≡ b ∷ l' → b ≡ 58 → suc i ≡ 2 → ns ≡ tells (letter_at q) (suc i) 1 p ++ ns' →
      Goes q (suc i) 0 l' ns' t → Listed (a ++ l) ns
  pairs_from p a l l' ns ns' b i j e z m u g =
      colon_of (length l) (λ m ms o g. rows_of (length l) m ms o g) 1 p a l l' ns ns' b i refl j (omega arith) e z m u g

-- behind a key that takes pairs: a row of them, or nothing
record SomePairs (q t : ℕ) (l : List ℕ) (ns : List Item) : Type 0 where
  d : List ℕ
  ps : List Pair
  rest : List ℕ
  left : List Item
  v : ℕ
  is_line : l ≡ d ++ rest
  row : Row d ps
  is_told : ns ≡ as_items plain (flat ps) ++ left
  then : Goes (q + 1) 0 v rest left t

module _ (q t : ℕ) (is : letter_at q ≡ 37) where
  told : Paired (letter_at q) plain []
  told = pairs_told (letter_at q) is

  is_numbered_holds : is_numbered (letter_at q) ≡ true
  is_numbered_holds = paired_numbered (letter_at q) told.paired

  no_slash : {A : Type 0} → letter_at q ≡ 36 → A
  no_slash e = absurd (omega (arith, sym e ∙ is))

  listed_of : (l : List ℕ) (ns : List Item) → Listed q t plain [] told l ns → SomePairs q t l ns
  listed_of l ns x = by x.ends
    where
      by : Ends q t plain [] told x.v x.rest x.left → SomePairs q t l ns
      by (leaves ns' e g) =
          record { d = x.d; ps = x.ps; rest = x.rest; left = ns'; v = x.v; is_line = x.is_line; row = x.row; is_told = x.is_told ∙ ap (λ (z : List Item). as_items plain (flat x.ps) ++ z) e; then = g }
      by (slashes l' ns' c e u g) = no_slash c

  pairs_of : (v : ℕ) (l : List ℕ) (ns : List Item) → Goes q 0 v l ns t → SomePairs q t l ns ⊎ Goes (q + 1) 0 v l ns t
  pairs_of v l ns g = by (numbered q t is_numbered_holds refl g)
    where
      first_of : (x : ℕ) (a r : List ℕ) → Number a x → After q t is_numbered_holds 1 x r ns → Listed q t plain [] told (a ++ r) ns
      first_of x a r j (ends_with ns' may e g) = differ (sym may ∙ rw is)
      first_of x a r j (parts_with b i l' ns' f e u g) = path (parted_by (letter_at q) 1 b i f)
        where
          path : Parted (letter_at q) 1 b (suc i) → Listed q t plain [] told (a ++ r) ns
          path (colon w s z n) = pairs_from q t plain [] told x a r l' ns ns' b i j e z n u g
          path (comma w s z n) = absurd (omega arith)
          path (slash w s z n) = no_slash w

      none : {b i : ℕ} → Parted (letter_at q) 0 b i → SomePairs q t l ns ⊎ Goes (q + 1) 0 v l ns t
      none (colon w (inl s) z n) = absurd (omega arith)
      none (colon w (inr s) z n) = absurd (omega arith)
      none (comma w s z n) = absurd (omega arith)
      none (slash w s z n) = no_slash w

      by : Numbered q t is_numbered_holds 0 l ns ⊎ After q t is_numbered_holds 0 v l ns → SomePairs q t l ns ⊎ Goes (q + 1) 0 v l ns t
      by (inr (parts_with b i l' ns' f e u g)) = none (parted_by (letter_at q) 0 b i f)
      by (inr (ends_with ns' may e g)) = inr (subst (λ (z : List Item). Goes (q + 1) 0 v l z t) (sym (e ∙ rw is)) g)
      by (inl z) = inl (listed_of l ns (subst (λ (u : List ℕ). Listed q t plain [] told u ns) (sym z.is) (first_of z.n z.d z.rest z.number z.after)))

-- behind a key that takes a number
record Single (q t : ℕ) (l : List ℕ) (ns : List Item) : Type 0 where
  d : List ℕ
  n : ℕ
  rest : List ℕ
  left : List Item
  is_line : l ≡ d ++ rest
  number : Number d n
  is_told : ns ≡ plain n ∷ left
  then : Goes (q + 1) 0 n rest left t

number_of : (q t v : ℕ) (l : List ℕ) (ns : List Item) → letter_at q ≡ 35 → Goes q 0 v l ns t → Single q t l ns
number_of q t v l ns is g = by (numbered q t m refl g)
  where
    m : is_numbered (letter_at q) ≡ true
    m = rw is

    no_pair : {A : Type 0} {s b i : ℕ} → Parted (letter_at q) s b i → A
    no_pair x = differ (sym (parted_at_holds x) ∙ rw is)

    last_of : (z : Numbered q t m 0 l ns) → After q t m 1 z.n z.rest ns → Single q t l ns
    last_of z (ends_with ns' may e g) =
        record { d = z.d; n = z.n; rest = z.rest; left = ns'; is_line = z.is; number = z.number; is_told = e ∙ rw is; then = g }
    last_of z (parts_with b i l' ns' f e o g) = no_pair (parted_by (letter_at q) 1 b i f)

    by : Numbered q t m 0 l ns ⊎ After q t m 0 v l ns → Single q t l ns
    by (inr (parts_with b i l' ns' f e u g)) = no_pair (parted_by (letter_at q) 0 b i f)
    by (inr (ends_with ns' may e g)) = differ (sym may ∙ rw is)
    by (inl z) = last_of z z.after

-- ---- entries
module _ (q t : ℕ) (is : letter_at q ≡ 36) where
  entry_told : Paired (letter_at q) inner (close ∷ [])
  entry_told = entries_told (letter_at q) is

  has_numbers : is_numbered (letter_at q) ≡ true
  has_numbers = paired_numbered (letter_at q) entry_told.paired

  -- behind an entry e that had a byte or came behind a slash: the mark's end, or a slash
  data Behind (s : ℕ) (d : List ℕ) (e : Entry) (l : List ℕ) (ns : List Item) : Type 0 where
    ends : (v : ℕ) (ns' : List Item) → (s ≡ 0 → 1 ≤ length d) → ns ≡ items_of e ++ ns' → Goes (q + 1) 0 v l ns' t → Behind s d e l ns
    goes_on : (l' : List ℕ) (ns' : List Item) → l ≡ 47 ∷ l' → ns ≡ items_of e ++ ns' → Goes q 6 0 l' ns' t → Behind s d e l ns

  record One (s : ℕ) (l : List ℕ) (ns : List Item) : Type 0 where
    d : List ℕ
    e : Entry
    rest : List ℕ
    is_line : l ≡ d ++ rest
    entered : Entered d e
    behind : Behind s d e rest ns

  row_some : {d : List ℕ} {ps : List Pair} → Row d ps → 1 ≤ length d
  row_some (one {a} {b} j k) = omega (arith, j.some, length-append (a ++ text ":") b, length-append a (text ":"))
  row_some (more {a} {b} {l} j k r) =
      omega (
        arith,
        j.some,
        length-append (a ++ text ":" ++ b ++ text ",") l,
        length-append (a ++ text ":" ++ b) (text ","),
        length-append (a ++ text ":") b,
        length-append a (text ":"),
      )

  -- an entry of pairs
  of_pairs_holds : (s : ℕ) (l : List ℕ) (ns : List Item) → Listed q t inner (close ∷ []) entry_told l ns → One s l ns
  of_pairs_holds s l ns x = record { d = x.d; e = adds x.ps; rest = x.rest; is_line = x.is_line; entered = some_pairs x.row; behind = by x.ends }
    where
      joined : (ns' : List Item) → x.left ≡ (close ∷ []) ++ ns' → ns ≡ items_of (adds x.ps) ++ ns'
      joined ns' e = x.is_told ∙ ap (λ (z : List Item). as_items inner (flat x.ps) ++ z) e ∙ sym (append_assoc (as_items inner (flat x.ps)) (close ∷ []) ns')

      by : Ends q t inner (close ∷ []) entry_told x.v x.rest x.left → Behind s x.d (adds x.ps) x.rest ns
      by (leaves ns' e g) = ends x.v ns' (λ z. row_some x.row) (joined ns' e) g
      by (slashes l' ns' c e u g) = goes_on l' ns' e (joined ns' u) g

  -- an entry whose first number is n
  of_number : (s n : ℕ) (a l : List ℕ) (ns : List Item) → Number a n → After q t has_numbers 1 n l ns → One s (a ++ l) ns
  of_number s n a l ns j (ends_with ns' may e g) =
      record { d = a; e = undoes n; rest = l; is_line = refl; entered = place j; behind = ends n ns' (λ z. j.some) (e ∙ rw is) g }
  of_number s n a l ns j (parts_with b i l' ns' f e u g) = by (parted_by (letter_at q) 1 b i f)
    where
      by : Parted (letter_at q) 1 b (suc i) → One s (a ++ l) ns
      by (colon w o z m) = of_pairs_holds s (a ++ l) ns (pairs_from q t inner (close ∷ []) entry_told n a l l' ns ns' b i j e z m u g)
      by (comma w o z m) = absurd (omega arith)
      by (slash w o z m) =
          record {
            d = a;
            e = undoes n;
            rest = l;
            is_line = refl;
            entered = place j;
            behind = goes_on l' ns' (e ∙ ap (λ (y : ℕ). y ∷ l') z) (u ∙ ap (λ (y : ℕ). tells (letter_at q) y 1 n ++ ns') m ∙ rw is) (subst (λ (y : ℕ). Goes q y 0 l' ns' t) m g);
          }

  -- where no number begins
  of_none : (s v : ℕ) (l : List ℕ) (ns : List Item) → (s ≡ 6) ⊎ (s ≡ 0) → After q t has_numbers s v l ns → One s l ns ⊎ ((s ≡ 0) × Goes (q + 1) 0 v l ns t)
  unfolding flat as_items
  of_none s v l ns (inl o) (ends_with ns' may e g) =
      inl (record {
        d = [];
        e = adds [];
        rest = l;
        is_line = refl;
        entered = no_pairs;
        behind = ends v ns' (λ z. absurd (omega (arith, sym o ∙ z))) (e ∙ ap (λ (y : ℕ). tells (letter_at q) 0 y v ++ ns') o ∙ rw is) g;
      })
  of_none s v l ns (inr o) (ends_with ns' may e g) =
      inr (o, subst (λ (z : List Item). Goes (q + 1) 0 v l z t) (sym (e ∙ ap (λ (y : ℕ). tells (letter_at q) 0 y v ++ ns') o ∙ rw is)) g)
  of_none s v l ns o (parts_with b i l' ns' f e u g) = inl (by (parted_by (letter_at q) s b i f))
    where
      low : {A : Type 0} {x : ℕ} → s ≡ x → 1 ≤ x → x ≤ 5 → A
      low {A = A} {x = x} e h k = split o
        where
          split : (s ≡ 6) ⊎ (s ≡ 0) → A
          split (inl y) = absurd (omega (arith, sym y ∙ e))
          split (inr y) = absurd (omega (arith, sym y ∙ e))

      close_told : (s ≡ 6) ⊎ (s ≡ 0) → tells (letter_at q) 6 s v ≡ close ∷ []
      close_told (inl y) = rw (is, y)
      close_told (inr y) = rw (is, y)

      by : Parted (letter_at q) s b (suc i) → One s l ns
      by (colon w (inl y) z m) = low y (omega arith) (omega arith)
      by (colon w (inr y) z m) = low y (omega arith) (omega arith)
      by (comma w y z m) = low y (omega arith) (omega arith)
      by (slash w y z m) =
          record {
            d = [];
            e = adds [];
            rest = l;
            is_line = refl;
            entered = no_pairs;
            behind = goes_on l' ns' (e ∙ ap (λ (x : ℕ). x ∷ l') z)
                (u ∙ ap (λ (x : ℕ). tells (letter_at q) x s v ++ ns') m ∙ ap (λ (x : List Item). x ++ ns') (close_told o)) (subst (λ (x : ℕ). Goes q x 0 l' ns' t) m g);
          }

  one_of : (s v : ℕ) (l : List ℕ) (ns : List Item) → (s ≡ 6) ⊎ (s ≡ 0) → Goes q s v l ns t → One s l ns ⊎ ((s ≡ 0) × Goes (q + 1) 0 v l ns t)
  one_of s v l ns o g = by (numbered q t has_numbers (out o) g)
    where
      out : (s ≡ 6) ⊎ (s ≡ 0) → inside s ≡ false
      out (inl e) = rw e
      out (inr e) = rw e

      first : (s ≡ 6) ⊎ (s ≡ 0) → begins s ≡ 1
      first (inl e) = rw e
      first (inr e) = rw e

      by : Numbered q t has_numbers s l ns ⊎ After q t has_numbers s v l ns → One s l ns ⊎ ((s ≡ 0) × Goes (q + 1) 0 v l ns t)
      by (inr x) = of_none s v l ns o x
      by (inl z) =
          inl (subst (λ (u : List ℕ). One s u ns) (sym z.is)
          (of_number s z.n z.d z.rest ns z.number (subst (λ (i : ℕ). After q t has_numbers i z.n z.rest ns) (first o) z.after)))

  -- ---- all of them
  record Many (s : ℕ) (l : List ℕ) (ns : List Item) : Type 0 where
    d : List ℕ
    es : List Entry
    rest : List ℕ
    left : List Item
    v : ℕ
    is_line : l ≡ d ++ rest
    some : s ≡ 0 → 1 ≤ length d
    all : Entries d es
    is_told : ns ≡ items es ++ left
    then : Goes (q + 1) 0 v rest left t

  module _ (top : ℕ) (again : (l : List ℕ) (ns : List Item) → length l ≤ top → Goes q 6 0 l ns t → Many 6 l ns) where
    many_by : (s : ℕ) (l : List ℕ) (ns : List Item) → length l ≤ suc top → One s l ns → Many s l ns
    unfolding items
    many_by s l ns h x = by x.behind
      where
        by : Behind s x.d x.e x.rest ns → Many s l ns
        by (ends v ns' o e g) =
            record {
              d = x.d;
              es = x.e ∷ [];
              rest = x.rest;
              left = ns';
              v = v;
              is_line = x.is_line;
              some = o;
              all = last x.entered;
              is_told = e ∙ ap (λ (z : List Item). z ++ ns') (sym (append-nil (items_of x.e)));
              then = g;
            }
        by (goes_on l' ns' e u g) =
            let r = again l' ns' (shorter x.d 47 l l' top (x.is_line ∙ ap (λ (z : List ℕ). x.d ++ z) e) h) g in
            record {
              d = x.d ++ text "/" ++ r.d;
              es = x.e ∷ r.es;
              rest = r.rest;
              left = r.left;
              v = r.v;
              is_line = x.is_line ∙ ap (λ (z : List ℕ). x.d ++ z) (e ∙ ap (λ (z : List ℕ). 47 ∷ z) r.is_line) ∙ regroup x.d r.d r.rest;
              some = λ o. omega (arith, length-append (x.d ++ text "/") r.d, length-append x.d (text "/"));
              all = then x.entered r.all;
              is_told = u ∙ ap (λ (z : List Item). items_of x.e ++ z) r.is_told ∙ sym (append_assoc (items_of x.e) (items r.es) r.left);
              then = r.then;
            }
          where
            regroup : (a d r : List ℕ) → a ++ (47 ∷ (d ++ r)) ≡ a ++ text "/" ++ d ++ r
            regroup a d r = simp append_assoc

  behind_slash : (l : List ℕ) (ns : List Item) → (One 6 l ns → Many 6 l ns) → Goes q 6 0 l ns t → Many 6 l ns
  behind_slash l ns go g = by (one_of 6 0 l ns (inl refl) g)
    where
      by : One 6 l ns ⊎ ((◌≡◌ {A = ℕ} 6 0) × Goes (q + 1) 0 0 l ns t) → Many 6 l ns
      by (inl x) = go x
      by (inr x) = absurd (omega (arith, x.0))

  nothing_left : (l : List ℕ) (ns : List Item) → length l ≤ 0 → One 6 l ns → Many 6 l ns
  unfolding items
  nothing_left l ns h x = by x.behind
    where
      by : Behind 6 x.d x.e x.rest ns → Many 6 l ns
      by (ends v ns' o e g) =
          record {
            d = x.d;
            es = x.e ∷ [];
            rest = x.rest;
            left = ns';
            v = v;
            is_line = x.is_line;
            some = o;
            all = last x.entered;
            is_told = e ∙ ap (λ (z : List Item). z ++ ns') (sym (append-nil (items_of x.e)));
            then = g;
          }
      by (goes_on l' ns' e u g) = absurd (omega (arith, ap length (x.is_line ∙ ap (λ (z : List ℕ). x.d ++ z) e) ∙ length-append x.d (47 ∷ l')))

  many_of : (n : ℕ) (l : List ℕ) (ns : List Item) → length l ≤ n → Goes q 6 0 l ns t → Many 6 l ns
  many_of zero l ns h g = behind_slash l ns (nothing_left l ns h) g
  many_of (suc n) l ns h g = behind_slash l ns (many_by n (λ l ns h g. many_of n l ns h g) 6 l ns h) g

  -- behind a key that takes entries: some, or nothing
  entries_of_holds : (v : ℕ) (l : List ℕ) (ns : List Item) → Goes q 0 v l ns t → Many 0 l ns ⊎ Goes (q + 1) 0 v l ns t
  entries_of_holds v l ns g = by (one_of 0 v l ns (inr refl) g)
    where
      by : One 0 l ns ⊎ ((◌≡◌ {A = ℕ} 0 0) × Goes (q + 1) 0 v l ns t) → Many 0 l ns ⊎ Goes (q + 1) 0 v l ns t
      by (inl x) = inl (many_by (length l) (λ l' ns' h g. many_of (length l) l' ns' h g) 0 l ns (omega arith) x)
      by (inr x) = inr x.1

-- ---- single digits
module _ (q t : ℕ) (is : letter_at q ≡ 38) where
  -- some digits, what is told being what comes before and theirs
  record Singles (before : List Item) (l : List ℕ) (ns : List Item) : Type 0 where
    d : List ℕ
    rest : List ℕ
    left : List Item
    v : ℕ
    is_line : l ≡ d ++ rest
    digits : all_digits d ≡ true
    is_told : ns ≡ before ++ (as_items plain (worths d) ++ left)
    then : Goes (q + 1) 0 v rest left t

  no_number : {A : Type 0} → is_numbered (letter_at q) ≡ true → A
  no_number m = differ (sym m ∙ ap is_numbered is)

  singles_of : {s v : ℕ} {l : List ℕ} {ns : List Item} → Goes q s v l ns t → Singles (held s v) l ns
  unfolding all_digits worths as_items
  singles_of (done z g e) = differ (sym g ∙ ap is_tag (sym e ∙ is))
  singles_of (spell {b = b} z w e g) = differ (sym w ∙ ap is_word (sym e ∙ is))
  singles_of (begin m d n g) = no_number m
  singles_of (grow m d n k g) = no_number m
  singles_of {s} (part {b = b} n ns' d e k g) = no_number (paired_numbered (letter_at q) (parted_at_holds (parted_by (letter_at q) s b n e)))
  singles_of {l = l} (leave {v = v} ns' m e k g) = record { d = []; rest = l; left = ns'; v = v; is_line = refl; digits = refl; is_told = k ∙ rw is; then = g }
  singles_of {s} {v} (digit {b = b} ns' c d k g) =
      let y = singles_of g in
      record {
        d = b ∷ y.d;
        rest = y.rest;
        left = y.left;
        v = y.v;
        is_line = ap (λ (z : List ℕ). b ∷ z) y.is_line;
        digits = rw d y.digits;
        is_told = k ∙ ap (λ (z : List Item). held s v ++ z) y.is_told;
        then = y.then;
      }

-- ---- a form
pub record Fitted (f : List Token) (a : Asks f) (l : List ℕ) (ns : List Item) (t t' : ℕ) : Type 0 where
  pub asked : Asked
  pub fits : Fits f a l ns asked
  pub tag : t' ≡ t

at_tag : (q t t' v s : ℕ) (l : List ℕ) (ns : List Item) (a : Asked) → is_tag t ≡ true → letter_at q ≡ t → Goes q s v l ns t' → Fitted [] a l ns t t'
at_tag q t t' v s l ns a g e (done z h i) = record { asked = a; fits = fits_end; tag = sym i ∙ e }
at_tag q t t' v s l ns a g e (spell {b = b} z w i h) = absurd (word_no_tag b w (ap is_tag (sym i ∙ e) ∙ g))
at_tag q t t' v s l ns a g e (begin m d n h) = absurd (mark_no_tag (letter_at q) (numbered_mark (letter_at q) m) (ap is_tag e ∙ g))
at_tag q t t' v s l ns a g e (grow m d n f h) = absurd (mark_no_tag (letter_at q) (numbered_mark (letter_at q) m) (ap is_tag e ∙ g))
at_tag q t t' v s l ns a g e (digit k c d i h) = absurd (mark_no_tag (letter_at q) (ap is_mark c) (ap is_tag e ∙ g))
at_tag q t t' v s l ns a g e (part {b = b} n k d f i h) = absurd (mark_no_tag (letter_at q) (parted_mark (parted_by (letter_at q) s b n f)) (ap is_tag e ∙ g))
at_tag q t t' v s l ns a g e (leave k m f i h) = absurd (mark_no_tag (letter_at q) m (ap is_tag e ∙ g))

at_letter :
    (c : ℕ) (f : List Token) (a : Asks f) (q t t' v s : ℕ) (l : List ℕ) (ns : List Item) → is_word c ≡ true → letter_at q ≡ c →
    ((v : ℕ) (l : List ℕ) (ns : List Item) → Goes (q + 1) 0 v l ns t' → Fitted f a l ns t t') → Goes q s v l ns t' → Fitted (letter c ∷ f) a l ns t t'
at_letter c f a q t t' v s l ns w e ih (done z h i) = absurd (word_no_tag c w (ap is_tag (sym e ∙ i) ∙ h))
at_letter c f a q t t' v s l ns w e ih (spell {b = b} {l = l'} z u i h) =
    let y = ih v l' ns h in
    let j : c ≡ b = sym e ∙ i in
    record { asked = y.asked; fits = subst (λ (k : ℕ). Fits (letter c ∷ f) a (k ∷ l') ns y.asked) j (fits_letter w y.fits); tag = y.tag }
at_letter c f a q t t' v s l ns w e ih (begin m d n h) = absurd (mark_no_word (letter_at q) (numbered_mark (letter_at q) m) (ap is_word e ∙ w))
at_letter c f a q t t' v s l ns w e ih (grow m d n k h) = absurd (mark_no_word (letter_at q) (numbered_mark (letter_at q) m) (ap is_word e ∙ w))
at_letter c f a q t t' v s l ns w e ih (digit k y d i h) = absurd (mark_no_word (letter_at q) (ap is_mark y) (ap is_word e ∙ w))
at_letter c f a q t t' v s l ns w e ih (part {b = b} n k d i j h) = absurd
    (mark_no_word (letter_at q) (parted_mark (parted_by (letter_at q) s b n i)) (ap is_word e ∙ w))
at_letter c f a q t t' v s l ns w e ih (leave k m i j h) = absurd (mark_no_word (letter_at q) m (ap is_word e ∙ w))

at_number :
    (f : List Token) (a : ℕ → Asks f) (q t t' v : ℕ) (l : List ℕ) (ns : List Item) → letter_at q ≡ 35 →
    ((n v : ℕ) (l : List ℕ) (ns : List Item) → Goes (q + 1) 0 v l ns t' → Fitted f (a n) l ns t t') → Goes q 0 v l ns t' → Fitted (number ∷ f) a l ns t t'
at_number f a q t t' v l ns e ih g =
    let x = number_of q t' v l ns e g in
    let y = ih x.n x.n x.rest x.left x.then in
    record {
      asked = y.asked;
      fits =
          subst (λ (k : List ℕ). Fits (number ∷ f) a k ns y.asked) (sym x.is_line)
          (subst (λ (k : List Item). Fits (number ∷ f) a (x.d ++ x.rest) k y.asked) (sym x.is_told) (fits_number x.number y.fits));
      tag = y.tag;
    }

at_pairs :
    (f : List Token) (a : List Pair → Asks f) (q t t' v : ℕ) (l : List ℕ) (ns : List Item) → letter_at q ≡ 37 →
    ((ps : List Pair) (v : ℕ) (l : List ℕ) (ns : List Item) → Goes (q + 1) 0 v l ns t' → Fitted f (a ps) l ns t t') → Goes q 0 v l ns t' → Fitted (pairs ∷ f) a l ns t t'
at_pairs f a q t t' v l ns e ih g = by (pairs_of q t' e v l ns g)
  where
    by : SomePairs q t' l ns ⊎ Goes (q + 1) 0 v l ns t' → Fitted (pairs ∷ f) a l ns t t'
    by (inr h) = let y = ih [] v l ns h in record { asked = y.asked; fits = fits_none y.fits; tag = y.tag }
    by (inl x) =
        let y = ih x.ps x.v x.rest x.left x.then in
        record {
          asked = y.asked;
          fits =
              subst (λ (k : List ℕ). Fits (pairs ∷ f) a k ns y.asked) (sym x.is_line)
              (subst (λ (k : List Item). Fits (pairs ∷ f) a (x.d ++ x.rest) k y.asked) (sym x.is_told) (fits_pairs x.row y.fits));
          tag = y.tag;
        }

at_digits :
    (f : List Token) (a : List ℕ → Asks f) (q t t' v : ℕ) (l : List ℕ) (ns : List Item) → letter_at q ≡ 38 →
    ((os : List ℕ) (v : ℕ) (l : List ℕ) (ns : List Item) → Goes (q + 1) 0 v l ns t' → Fitted f (a os) l ns t t') → Goes q 0 v l ns t' → Fitted (digits ∷ f) a l ns t t'
at_digits f a q t t' v l ns e ih g =
    let x = singles_of q t' e g in
    let y = ih (worths x.d) x.v x.rest x.left x.then in
    record {
      asked = y.asked;
      fits =
          subst (λ (k : List ℕ). Fits (digits ∷ f) a k ns y.asked) (sym x.is_line)
          (subst (λ (k : List Item). Fits (digits ∷ f) a (x.d ++ x.rest) k y.asked) (sym x.is_told) (fits_digits x.d x.digits y.fits));
      tag = y.tag;
    }

at_entries :
    (f : List Token) (a : List Entry → Asks f) (q t t' v : ℕ) (l : List ℕ) (ns : List Item) → letter_at q ≡ 36 →
    ((es : List Entry) (v : ℕ) (l : List ℕ) (ns : List Item) → Goes (q + 1) 0 v l ns t' → Fitted f (a es) l ns t t') → Goes q 0 v l ns t' →
    Fitted (entries ∷ f) a l ns t t'
at_entries f a q t t' v l ns e ih g = by (entries_of_holds q t' e v l ns g)
  where
    by : Many q t' e 0 l ns ⊎ Goes (q + 1) 0 v l ns t' → Fitted (entries ∷ f) a l ns t t'
    by (inr h) = let y = ih [] v l ns h in record { asked = y.asked; fits = fits_no_entry y.fits; tag = y.tag }
    by (inl x) =
        let y = ih x.es x.v x.rest x.left x.then in
        record {
          asked = y.asked;
          fits =
              subst (λ (k : List ℕ). Fits (entries ∷ f) a k ns y.asked) (sym x.is_line)
              (subst (λ (k : List Item). Fits (entries ∷ f) a (x.d ++ x.rest) k y.asked) (sym x.is_told) (fits_entries (x.some refl) x.all y.fits));
          tag = y.tag;
        }

pub goes_fit :
    (f : List Token) (a : Asks f) (q t t' v : ℕ) (l : List ℕ) (ns : List Item) → sound_text f ≡ true → is_tag t ≡ true → Stands f t q → Goes q 0 v l ns t' →
    Fitted f a l ns t t'
unfolding Stands sound_text
goes_fit [] a q t t' v l ns w g s h = at_tag q t t' v 0 l ns a g s h
goes_fit (letter c ∷ f) a q t t' v l ns w g s h =
    at_letter c f a q t t' v 0 l ns (and_left (is_word c) (sound_text f) w) s.0
    (λ v l ns h. goes_fit f a (q + 1) t t' v l ns (and_right (is_word c) (sound_text f) w) g s.1 h) h
goes_fit (number ∷ f) a q t t' v l ns w g s h = at_number f a q t t' v l ns s.0 (λ n v l ns h. goes_fit f (a n) (q + 1) t t' v l ns w g s.1 h) h
goes_fit (pairs ∷ f) a q t t' v l ns w g s h = at_pairs f a q t t' v l ns s.0 (λ ps v l ns h. goes_fit f (a ps) (q + 1) t t' v l ns w g s.1 h) h
goes_fit (digits ∷ f) a q t t' v l ns w g s h = at_digits f a q t t' v l ns s.0 (λ os v l ns h. goes_fit f (a os) (q + 1) t t' v l ns w g s.1 h) h
goes_fit (entries ∷ f) a q t t' v l ns w g s h = at_entries f a q t t' v l ns s.0 (λ es v l ns h. goes_fit f (a es) (q + 1) t t' v l ns w g s.1 h) h

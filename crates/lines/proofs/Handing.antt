-- What is handed on of a line, by its form: one entry for each row of the table. Assumes nothing.
use Prim.Native.Nat.{ℕ, zero, suc, ◌+◌, ◌*◌, ◌≤◌, ◌<◌}
use mathlib.Core.Path.{◌≡◌, refl, ap, sym, subst, ◌∙◌}
use mathlib.Core.List.{List, [], ◌∷◌, ◌++◌, foldl, append_assoc, append-nil}
use mathlib.Core.Bool.{Bool, true, false, cond}
use native.Mathlib.Omega.{arith}
use borrow.Author.Tests.{ltb-true, ltb-false, leb-true}
use lib.Dec.{T, ltb, leb}
use lib.ListN.{length, take, get_or, length-take, get_or-eq_default}
use lib.Seq.{take_all, take-take, get_or-take}
use Rattle.machine.specs.Calls as machine
use Rattle.machine.specs.Calls.{Pair}
use Rattle.machine.specs.Import.{Entry}
use Rattle.lines.specs.declared.reading.Call.{Call}
use Rattle.lines.specs.Decimal.{is_digit}
use Rattle.lines.specs.Forms.{Asked, calls, why, night, owner, freshly, Token, letter, number, pairs, digits, entries, Asks, Form, forms}
use Rattle.lines.specs.Grammar.{all_digits, worths, flat, Row, one, more, Entered, no_pairs, some_pairs, place, Entries, last, then, Item, plain, as_items, items, Fits, fits_end, fits_letter, fits_number, fits_none, fits_pairs, fits_digits, fits_no_entry, fits_entries, Among}
use Rattle.lines.specs.Reading.{low, high, two_bytes, number_in, call_of, at_most, most_of, line_of}
use Rattle.lines.specs.Handed.{call_for, pairs_in, outcomes_in, entries_in, bytes_for, entry_bytes, Small, SmallEntry, SmallEntries, Low, Hands}
use Rattle.lines.proofs.Classes.{and_left, and_right}
use Rattle.lines.proofs.Each.{◌&◌, Each, each_among}
use Rattle.lines.proofs.Rooms.{Room, rm, put, Holds, two_length, holds_all, Laid, laid_all}

-- ---- a room that holds a line's numbers: each is read out of it
abbrev pub Bounded : List ℕ → Type 0
Bounded [] = T true
Bounded (n ∷ ns) = (n ≤ 65535) × Bounded ns

bounded_at : (ns : List ℕ) (k : ℕ) → Bounded ns → get_or ns k 0 ≤ 65535
bounded_at [] k x = omega arith
bounded_at (n ∷ ns) zero x = x.0
bounded_at (n ∷ ns) (suc k) x = bounded_at ns k x.1

pub low_at : (ns : List ℕ) (k : ℕ) → get_or (two_bytes ns) (2 * k) 0 ≡ low (get_or ns k 0)
unfolding two_bytes
low_at [] k = refl
low_at (n ∷ ns) zero = refl
low_at (n ∷ ns) (suc k) = let e : 2 * suc k ≡ suc (suc (2 * k)) = omega arith in ap (λ (i : ℕ). get_or (low n ∷ high n ∷ two_bytes ns) i 0) e ∙ low_at ns k

high_at : (ns : List ℕ) (k : ℕ) → get_or (two_bytes ns) (2 * k + 1) 0 ≡ high (get_or ns k 0)
unfolding two_bytes
high_at [] k = refl
high_at (n ∷ ns) zero = refl
high_at (n ∷ ns) (suc k) =
    let e : 2 * suc k + 1 ≡ suc (suc (2 * k + 1)) = omega arith in
    ap (λ (i : ℕ). get_or (low n ∷ high n ∷ two_bytes ns) i 0) e ∙ high_at ns k

past_end : (ns : List ℕ) (k : ℕ) → length ns ≤ k → get_or ns k 0 ≡ 0
past_end ns k h = get_or-eq_default ns 0 h

module _ (ns : List ℕ) (u : ℕ) (m : List ℕ) (h : Holds ns u m) (b : Bounded ns) where
  byte_at : (i : ℕ) → i < u → get_or m i 0 ≡ get_or (two_bytes ns) i 0
  byte_at i g =
      sym (get_or-take u m i 0 g) ∙ ap (λ (z : List ℕ). get_or z i 0) h.first
      ∙ get_or-take 5140 (two_bytes ns) i 0 (omega (arith, h.used, length-take 5140 (two_bytes ns)))

  -- the k-th of them
  pub number_is : (k : ℕ) → k < 2570 → number_in u m (2 * k) ≡ get_or ns k 0
  number_is k g = by (ltb (2 * k) u) refl
    where
      size : u ≡ length (take 5140 (two_bytes ns))
      size = h.used

      by : (t : Bool) → ltb (2 * k) u ≡ t → cond t (get_or m (2 * k) 0 + 256 * get_or m (2 * k + 1) 0) 0 ≡ get_or ns k 0
      by true e =
          let i = ltb-true (2 * k) u e in
          let j : 2 * k + 1 < u = omega (arith, size, length-take 5140 (two_bytes ns), two_length ns) in
          let x = byte_at (2 * k) i ∙ low_at ns k in
          let y = byte_at (2 * k + 1) j ∙ high_at ns k in
          let z = bounded_at ns k b in
          omega arith
      by false e = sym (past_end ns k (omega (arith, ltb-false (2 * k) u e, size, length-take 5140 (two_bytes ns), two_length ns)))

  -- the first j of the bytes
  pub bytes_are : (j : ℕ) → j ≤ 5140 → take (at_most j u) m ≡ take j (two_bytes ns)
  bytes_are j g = by (ltb u j) refl
    where
      by : (t : Bool) → ltb u j ≡ t → take (cond t u j) m ≡ take j (two_bytes ns)
      by true e =
          let i = ltb-true u j e in
          let few : length (two_bytes ns) < j = omega (arith, h.used, length-take 5140 (two_bytes ns)) in
          h.first ∙ take_all 5140 (two_bytes ns) (omega arith) ∙ sym (take_all j (two_bytes ns) (omega arith))
      by false e = sym (take-take j u m (ltb-false u j e)) ∙ ap (take j) h.first ∙ take-take j 5140 (two_bytes ns) g

-- the room m with what was told put into it
abbrev laid : List ℕ → List Item → Room
laid m is = foldl put (rm 0 0 m) is

-- what is asked is handed on, where the line has told this and has the tag t
abbrev pub HandsOn : Asked → List Item → ℕ → Type 0
HandsOn x is t = (m : List ℕ) → length m ≡ 5140 → Hands x (line_of t (laid m is).used (laid m is).room) (laid m is).room

-- whatever stands at the marks of f, behind what was told
abbrev HandsRow : (f : List Token) → Asks f → List Item → ℕ → Type 0
HandsRow [] x is t = HandsOn x is t
HandsRow (letter c ∷ f) a is t = HandsRow f a is t
HandsRow (number ∷ f) a is t = (n : ℕ) → n ≤ 65535 → HandsRow f (a n) (is ++ (plain n ∷ [])) t
HandsRow (pairs ∷ f) a is t = (ps : List Pair) → Small ps → HandsRow f (a ps) (is ++ as_items plain (flat ps)) t
HandsRow (digits ∷ f) a is t = (os : List ℕ) → Low os → HandsRow f (a os) (is ++ as_items plain os) t
HandsRow (entries ∷ f) a is t = (es : List Entry) → SmallEntries es → HandsRow f (a es) (is ++ items es) t

abbrev Handed : Form → Type 0
Handed f = HandsRow f.form f.asks [] f.tag

-- ---- a line that tells numbers alone
-- the call of the tag t with them
abbrev call_in : ℕ → List ℕ → Call
call_in t ns = call_of t (get_or ns 0 0) (get_or ns 1 0) (get_or ns 2 0) (get_or ns 3 0) (get_or ns 4 0)

record Right (x : Asked) (ns : List ℕ) (t : ℕ) : Type 0 where
  calls : call_in t ns ≡ call_for x
  bytes : take (most_of t) (two_bytes ns) ≡ bytes_for x
  most : most_of t ≤ 5140
  bounded : Bounded ns
  small : Small (pairs_in x)
  low : Low (outcomes_in x)
  entered : SmallEntries (entries_in x)

numbers_hand : (x : Asked) (ns : List ℕ) (t : ℕ) → Right x ns t → HandsOn x (as_items plain ns) t
unfolding two_bytes
numbers_hand x ns t r m e =
    let h = holds_all ns [] (rm 0 0 m) (record { used = refl; first = refl; long = e }) in
    let n = number_is ns (laid m (as_items plain ns)).used (laid m (as_items plain ns)).room h r.bounded in
    record {
      calls = rw (n 0 (omega arith), n 1 (omega arith), n 2 (omega arith), n 3 (omega arith), n 4 (omega arith)) r.calls;
      bytes = bytes_are ns (laid m (as_items plain ns)).used (laid m (as_items plain ns)).room h r.bounded (most_of t) r.most ∙ r.bytes;
      small = r.small;
      low = r.low;
      entered = r.entered;
    }

-- an append's bytes
five_pairs : (ps : List Pair) → take 20 (two_bytes (flat ps)) ≡ two_bytes (flat (take 5 ps))
unfolding flat two_bytes
five_pairs [] = refl
five_pairs (a ∷ []) = refl
five_pairs (a ∷ b ∷ []) = refl
five_pairs (a ∷ b ∷ d ∷ []) = refl
five_pairs (a ∷ b ∷ d ∷ e ∷ []) = refl
five_pairs (a ∷ b ∷ d ∷ e ∷ f ∷ ps) = refl

-- an import's
entries_hand : (es : List Entry) (m : List ℕ) → SmallEntries es → length m ≡ 5140 → take (at_most 5140 (laid m (items es)).used) (laid m (items es)).room ≡ take 5140 (entry_bytes es)
unfolding entry_bytes
entries_hand es m s e = by (ltb u 5140) refl
  where
    u : ℕ
    u = (laid m (items es)).used

    h : Laid es (laid m (items es))
    h = laid_all es [] (rm 0 0 m) s (record { used = refl; count = refl; first = refl; long = e })

    by : (t : Bool) → ltb u 5140 ≡ t → take (cond t u 5140) (laid m (items es)).room ≡ take 5140 (entry_bytes es)
    by true i = h.first
    by false i =
        let j : 5140 ≡ u = omega (arith, ltb-false u 5140 i, h.used, length-take 5140 (entry_bytes es)) in
        ap (λ (n : ℕ). take n (laid m (items es)).room) j ∙ h.first

-- ---- each row
flat_bounded : (ps : List Pair) → Small ps → Bounded (flat ps)
unfolding flat
flat_bounded [] x = tt
flat_bounded (p ∷ ps) x = (x.0, (x.1, flat_bounded ps x.2))

low_bounded : (os : List ℕ) → Low os → Bounded os
low_bounded [] x = tt
low_bounded (o ∷ os) x = (omega (arith, x.0), low_bounded os x.1)

-- a row whose marks are all numbers
numbered_row : (x : Asked) (ns : List ℕ) (t : ℕ) → call_in t ns ≡ call_for x → take (most_of t) (two_bytes ns) ≡ bytes_for x → most_of t ≡ 0 → Bounded ns → Small (pairs_in x) →
    Low (outcomes_in x) → SmallEntries (entries_in x) → HandsOn x (as_items plain ns) t
numbered_row x ns t c e z b s l i =
    numbers_hand x ns t (record { calls = c; bytes = e; most = omega arith; bounded = b; small = s; low = l; entered = i })

each : Each Handed forms
unfolding call_of flat two_bytes as_items
each =
    numbered_row (calls machine.stop) [] 84 refl refl refl tt tt tt tt
    & numbered_row (calls machine.start) [] 83 refl refl refl tt tt tt tt
    & (λ n b. numbered_row (calls (machine.sync n)) (n ∷ []) 89 refl refl refl (b, tt) tt tt tt)
    & (λ ps s. numbers_hand (calls (machine.append ps)) (flat ps) 65
    (record { calls = refl; bytes = five_pairs ps; most = omega arith; bounded = flat_bounded ps s; small = s; low = tt; entered = tt }))
    & (λ n b. numbered_row (calls (machine.connect n)) (n ∷ []) 67 refl refl refl (b, tt) tt tt tt)
    & (λ n b. numbered_row (calls (machine.disconnect n)) (n ∷ []) 68 refl refl refl (b, tt) tt tt tt)
    & (λ n b. numbered_row (calls (machine.master n)) (n ∷ []) 77 refl refl refl (b, tt) tt tt tt)
    & (λ n b. numbered_row (calls (machine.rollback n)) (n ∷ []) 82 refl refl refl (b, tt) tt tt tt)
    & (λ n b j d i e o f c g. numbered_row (calls (machine.work n j i o c)) (n ∷ j ∷ i ∷ o ∷ c ∷ []) 87 refl refl refl (b, (d, (e, (f, (g, tt))))) tt tt tt)
    & (λ n b. numbered_row (calls (machine.fold_to n)) (n ∷ []) 70 refl refl refl (b, tt) tt tt tt)
    & (λ n b j d i e. numbered_row (why n j i) (n ∷ j ∷ i ∷ []) 81 refl refl refl (b, (d, (e, tt))) tt tt tt)
    & (λ n b k d os l. numbers_hand (night n k os) (n ∷ k ∷ os) 78
    (record { calls = refl; bytes = refl; most = omega arith; bounded = (b, (d, low_bounded os l)); small = tt; low = l; entered = tt }))
    & (λ es s m e. record { calls = refl; bytes = entries_hand es m s e; small = tt; low = tt; entered = s })
    & (λ p b. numbered_row (owner p) (p ∷ []) 79 refl refl refl (b, tt) tt tt tt)
    & (λ r b. numbered_row (freshly r) (r ∷ []) 66 refl refl refl (b, tt) tt tt tt)
    & tt

row_small : {d : List ℕ} {ps : List Pair} → Row d ps → Small ps
row_small (one a b) = (a.fits, b.fits, tt)
row_small (more a b r) = (a.fits, b.fits, row_small r)

entry_small : {d : List ℕ} {e : Entry} → Entered d e → SmallEntry e
entry_small no_pairs = tt
entry_small (some_pairs r) = row_small r
entry_small (place k) = k.fits

pub entries_small : {d : List ℕ} {es : List Entry} → Entries d es → SmallEntries es
entries_small (last x) = (entry_small x, tt)
entries_small (then x y) = (entry_small x, entries_small y)

digits_low : (d : List ℕ) → all_digits d ≡ true → Low (worths d)
unfolding all_digits worths
digits_low [] a = tt
digits_low (b ∷ d) a =
    (omega (arith, leb-true b 57 (and_right (leb 48 b) (leb b 57) (and_left (is_digit b) (all_digits d) a))), digits_low d (and_right (is_digit b) (all_digits d) a))

-- ---- any line that fits
fits_hand :
    {f : List Token} {a : Asks f} {l : List ℕ} {ns : List Item} {x : Asked} → Fits f a l ns x → (is : List Item) (t : ℕ) → HandsRow f a is t → HandsOn x (is ++ ns) t
unfolding flat as_items items
fits_hand {x = x} fits_end is t h = subst (λ (z : List Item). HandsOn x z t) (sym (append-nil is)) h
fits_hand (fits_letter w y) is t h = fits_hand y is t h
fits_hand {x = x} (fits_number {n = n} {ns = ns} k y) is t h =
    subst (λ (z : List Item). HandsOn x z t) (append_assoc is (plain n ∷ []) ns) (fits_hand y (is ++ (plain n ∷ [])) t (h n k.fits))
fits_hand {x = x} (fits_none {ns = ns} y) is t h = subst (λ (z : List Item). HandsOn x (z ++ ns) t) (append-nil is) (fits_hand y (is ++ []) t (h [] tt))
fits_hand {x = x} (fits_pairs {ps = ps} {ns = ns} r y) is t h =
    subst (λ (z : List Item). HandsOn x z t) (append_assoc is (as_items plain (flat ps)) ns) (fits_hand y (is ++ as_items plain (flat ps)) t (h ps (row_small r)))
fits_hand {x = x} (fits_digits d {ns = ns} a y) is t h =
    subst (λ (z : List Item). HandsOn x z t) (append_assoc is (as_items plain (worths d)) ns) (fits_hand y (is ++ as_items plain (worths d)) t (h (worths d) (digits_low d a)))
fits_hand {x = x} (fits_no_entry {ns = ns} y) is t h = subst (λ (z : List Item). HandsOn x (z ++ ns) t) (append-nil is) (fits_hand y (is ++ []) t (h [] tt))
fits_hand {x = x} (fits_entries {es = es} {ns = ns} o r y) is t h =
    subst (λ (z : List Item). HandsOn x z t) (append_assoc is (items es) ns) (fits_hand y (is ++ items es) t (h es (entries_small r)))

pub handed : (f : Form) → Among f forms → {l : List ℕ} {ns : List Item} {x : Asked} → Fits f.form f.asks l ns x → HandsOn x ns f.tag
handed f a y = fits_hand y [] f.tag (each_among Handed f forms each a)

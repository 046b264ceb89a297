-- What may still come of a line from a place of the table on; and that a byte pushed leaves just that. Assumes nothing.
use Prim.Native.Nat.{ℕ, zero, suc, ◌+◌, ◌-◌, ◌≤◌, ◌<◌}
use mathlib.Core.Path.{◌≡◌, refl, ap, sym, subst, ◌∙◌}
use mathlib.Core.Logic.{◌⊎◌, inl, inr}
use mathlib.Core.List.{List, [], ◌∷◌, ◌++◌}
use mathlib.Core.Bool.{Bool, true, false, cond}
use native.Mathlib.Omega.{arith}
use borrow.Author.Tests.{eqb-true, eq-eqb, le-leb, leb-true, eqb-false}
use lib.Dec.{eqb, leb, eqb-suc-zero}
use Rattle.lines.specs.declared.reading.Reader.{Reader}
use Rattle.lines.specs.Decimal.{is_digit}
use Rattle.lines.specs.Grammar.{is_word, tenfold, Item, plain, inner, close, undo}
use Rattle.lines.specs.Reading.{size, letter_at, is_paired, is_numbered, is_mark, is_tag, like, takes, goes, left, seek, inside, begins, parts, may_end, past, in_entry, ends_entry, pushed, grown_if, stored, noted, closed, kept, ended, placed, begun, spelt}
use Rattle.lines.proofs.Classes.{differ, and_left, and_right, and_both, numbered_mark, numbered_other, word_no_digit, mark_no_word, tag_some, word_some, mark_some, word_other, parted_by, parted_mark, word_parts}
use Rattle.lines.proofs.Places.{within, zero_like, like_next, like_prior, like_trans, like_sym, Found, Missing, sought}
use Rattle.lines.proofs.Table.{same_column, lone_mark, no_mark_behind}

-- ---- what is told where s has come of a mark with the letter c and v is being read
-- the number that ends
abbrev pub held : ℕ → ℕ → List Item
held s v = cond (inside s) (plain v ∷ []) []

-- the entry that ends
abbrev pub entry_held : ℕ → ℕ → List Item
entry_held s v = cond (eqb s 1) (undo v ∷ []) (cond (eqb s 3) (inner v ∷ close ∷ []) (close ∷ []))

-- n comes with a byte that parts, or 0
abbrev pub list_held : (n s v : ℕ) → List Item
list_held n s v = cond (in_entry n) (inner v ∷ []) (cond (ends_entry s n) (entry_held s v) [])

abbrev pub tells : (c n s v : ℕ) → List Item
tells c n s v = cond (eqb c 36) (list_held n s v) (held s v)

-- nothing has come, and nothing is told
pub tells_none : (c v : ℕ) → tells c 0 0 v ≡ []
tells_none c v = by (eqb c 36)
  where
    by : (x : Bool) → ◌≡◌ {A = List Item} (cond x [] []) []
    by true = refl
    by false = refl

-- how a mark that takes pairs tells them: each number as k, and x behind the last
pub record Paired (c : ℕ) (k : ℕ → Item) (x : List Item) : Type 0 where
  pub paired : is_paired c ≡ true
  pub path : (s v : ℕ) → inside s ≡ true → tells c 2 s v ≡ k v ∷ []
  pub value : (v : ℕ) → tells c 4 3 v ≡ k v ∷ []
  pub ends : (v : ℕ) → tells c 0 3 v ≡ k v ∷ x
  pub slash : (v : ℕ) → tells c 6 3 v ≡ k v ∷ x

pub pairs_told : (c : ℕ) → c ≡ 37 → Paired c plain []
pairs_told c e = record { paired = rw e; path = λ s v i. rw (e, i); value = λ v. rw e; ends = λ v. rw e; slash = λ v. rw e }

pub entries_told : (c : ℕ) → c ≡ 36 → Paired c inner (close ∷ [])
entries_told c e = record { paired = rw e; path = λ s v i. rw e; value = λ v. rw e; ends = λ v. rw e; slash = λ v. rw e }

-- from the place q, where s has come of a mark and v is being read, the rest l of a line ends at the tag t and tells ns
pub data Goes : (q s v : ℕ) → List ℕ → List Item → ℕ → Type 0 where
  done : {q s v t : ℕ} → s ≡ 0 → is_tag t ≡ true → letter_at q ≡ t → Goes q s v [] [] t
  spell : {q s v b t : ℕ} {l : List ℕ} {ns : List Item} → s ≡ 0 → is_word b ≡ true → letter_at q ≡ b → Goes (q + 1) 0 v l ns t → Goes q s v (b ∷ l) ns t
  begin :
      {q s v b t : ℕ} {l : List ℕ} {ns : List Item} → is_numbered (letter_at q) ≡ true → is_digit b ≡ true → inside s ≡ false → Goes q (begins s) (b - 48) l ns t →
      Goes q s v (b ∷ l) ns t
  grow :
      {q s v b t : ℕ} {l : List ℕ} {ns : List Item} → is_numbered (letter_at q) ≡ true → is_digit b ≡ true → inside s ≡ true → tenfold v b ≤ 65535 →
      Goes q s (tenfold v b) l ns t → Goes q s v (b ∷ l) ns t
  digit :
      {q s v b t : ℕ} {l : List ℕ} {m : List Item} (ns : List Item) → letter_at q ≡ 38 → is_digit b ≡ true → m ≡ held s v ++ ns → Goes q 1 (b - 48) l ns t →
      Goes q s v (b ∷ l) m t
  part :
      {q s v b t : ℕ} {l : List ℕ} {m : List Item} (n : ℕ) (ns : List Item) → is_digit b ≡ false → parts (letter_at q) s b ≡ suc n → m ≡ tells (letter_at q) (suc n) s v ++ ns → Goes q (suc n) 0 l ns t →
      Goes q s v (b ∷ l) m t
  leave :
      {q s v t : ℕ} {l : List ℕ} {m : List Item} (ns : List Item) → is_mark (letter_at q) ≡ true → may_end (letter_at q) s ≡ true → m ≡ tells (letter_at q) 0 s v ++ ns → Goes (q + 1) 0 v l ns t →
      Goes q s v l m t

pub goes_some : {q s v t : ℕ} {l : List ℕ} {ns : List Item} → Goes q s v l ns t → 1 ≤ letter_at q
goes_some {q} {t = t} (done e h i) = subst (λ (c : ℕ). 1 ≤ c) (sym i) (tag_some t h)
goes_some (spell {b = b} e w i g) = subst (λ (c : ℕ). 1 ≤ c) (sym i) (word_some b w)
goes_some {q} (begin m d n g) = mark_some (letter_at q) (numbered_mark (letter_at q) m)
goes_some {q} (grow m d n f g) = mark_some (letter_at q) (numbered_mark (letter_at q) m)
goes_some {q} (digit ns c d e g) = subst (λ (x : ℕ). 1 ≤ x) (sym c) (omega arith)
goes_some {q} {s} (part {b = b} n ns d e f g) = mark_some (letter_at q) (parted_mark (parted_by (letter_at q) s b n e))
goes_some {q} (leave ns m f e g) = mark_some (letter_at q) m

-- the same from one of the places that are like p
pub record Acc (p s v : ℕ) (l : List ℕ) (ns : List Item) (t : ℕ) : Type 0 where
  pub place : ℕ
  pub above : p ≤ place
  pub same : like p place ≡ true
  pub then : Goes place s v l ns t

pub none : {A : Type 0} {s v t : ℕ} {l : List ℕ} {ns : List Item} → Acc 0 s v l ns t → A
none a = differ (sym a.same ∙ zero_like a.place)

-- at a mark all like places have it
at_mark : {p s v t : ℕ} {l : List ℕ} {ns : List Item} (a : Acc p s v l ns t) → is_mark (letter_at p) ≡ true → letter_at a.place ≡ letter_at p
at_mark {p} a h = lone_mark p a.place h (within a.place (goes_some a.then)) a.same

-- and so has p where one of them has a mark
pub mark_there : (p q : ℕ) → p ≤ q → like p q ≡ true → is_mark (letter_at q) ≡ true → letter_at p ≡ letter_at q
mark_there p q h e m = lone_mark q p m (omega (arith, within q (mark_some (letter_at q) m))) (like_sym p q e)

-- ---- behind a mark that may end
pub leave_back : (p s v t : ℕ) (l : List ℕ) (ns : List Item) → Acc (past (letter_at p) s p) 0 v l ns t → Acc p s v l (tells (letter_at p) 0 s v ++ ns) t
leave_back p s v t l ns a = by (is_mark (letter_at p)) refl a
  where
    rest : (x : Bool) → eqb s 0 ≡ x → Acc (cond x p 0) 0 v l ns t → Acc p s v l (tells (letter_at p) 0 s v ++ ns) t
    rest true e b = rw (eqb-true s 0 e) (subst (λ (z : List Item). Acc p 0 v l (z ++ ns) t) (sym (tells_none (letter_at p) v)) b)
    rest false e b = none b

    marked :
        (x : Bool) → may_end (letter_at p) s ≡ x → is_mark (letter_at p) ≡ true → Acc (cond x (p + 1) 0) 0 v l ns t → Acc p s v l (tells (letter_at p) 0 s v ++ ns) t
    marked false e m b = none b
    marked true e m b =
        let x = like_prior p b.place b.same in
        let no : letter_at p ≡ 10 → ⊥ = λ i. differ (sym m ∙ ap is_mark i) in
        record {
          place = x.place;
          above = omega (arith, x.is, b.above);
          same = x.same no;
          then =
              leave {q = x.place} {s = s} {v = v} ns (rw x.letter m) (rw x.letter e) (ap (λ (c : ℕ). tells c 0 s v ++ ns) (sym x.letter))
              (subst (λ (k : ℕ). Goes k 0 v l ns t) x.is b.then);
        }

    by :
        (x : Bool) → is_mark (letter_at p) ≡ x → Acc (cond x (cond (may_end (letter_at p) s) (p + 1) 0) (cond (eqb s 0) p 0)) 0 v l ns t →
        Acc p s v l (tells (letter_at p) 0 s v ++ ns) t
    by true m b = marked (may_end (letter_at p) s) refl m b
    by false m b = rest (eqb s 0) refl b

-- ---- a letter
word_newline : (b : ℕ) → is_word b ≡ true → eqb b 10 ≡ false
word_newline b w = word_other b 10 w (omega arith) (λ e. omega arith)

-- found, and so it takes the byte
taken : (p b q : ℕ) → is_word b ≡ true → goes p b q ≡ true → letter_at q ≡ b
taken p b q w h = eqb-true (letter_at q) b (rw (word_newline b w) at (and_right (like p q) (takes (letter_at q) b) h))

pub spell_on : (p q v b t : ℕ) (l : List ℕ) (ns : List Item) → p ≤ q → like p q ≡ true → is_word b ≡ true → letter_at q ≡ b → Goes (q + 1) 0 v l ns t → Acc
    (seek p b) 0 v l ns t
spell_on p q v b t l ns h e w i g = by (sought (left p) p b p)
  where
    take : goes p b q ≡ true
    take = and_both (like p q) (takes (letter_at q) b) e (rw (word_newline b w) (eq-eqb (letter_at q) b i))

    in_table : q < size
    in_table = within q (subst (λ (c : ℕ). 1 ≤ c) (sym i) (word_some b w))

    by : Missing p b p (left p) (seek p b) ⊎ Found p b p (seek p b) → Acc (seek p b) 0 v l ns t
    by (inl x) = absurd (x.never q (same_column p q e) h (omega (arith, in_table)) take)
    by (inr x) =
        let f = x.first q (same_column p q e) h take in
        let s : like x.place q ≡ true = like_trans x.place p q (like_sym p x.place
        (and_left (like p x.place) (takes (letter_at x.place) b) x.takes)) e in
        subst (λ (k : ℕ). Acc k 0 v l ns t) (sym x.is)
        (record { place = q + 1; above = omega arith; same = like_next x.place q s (taken p b x.place w x.takes ∙ sym i); then = g })

pub spell_back : (p v b t : ℕ) (l : List ℕ) (ns : List Item) → is_word b ≡ true → Acc (seek p b) 0 v l ns t → Acc p 0 v (b ∷ l) ns t
spell_back p v b t l ns w a = by (sought (left p) p b p)
  where
    by : Missing p b p (left p) (seek p b) ⊎ Found p b p (seek p b) → Acc p 0 v (b ∷ l) ns t
    by (inl x) = none (subst (λ (k : ℕ). Acc k 0 v l ns t) x.is a)
    by (inr x) =
        let c : Acc (x.place + 1) 0 v l ns t = subst (λ (k : ℕ). Acc k 0 v l ns t) x.is a in
        let y = like_prior x.place c.place c.same in
        let i = taken p b x.place w x.takes in
        let no : letter_at x.place ≡ 10 → ⊥ = λ j. eqb-false b 10 (word_newline b w) (sym i ∙ j) in
        record {
          place = y.place;
          above = omega (arith, x.above, c.above, y.is);
          same = like_trans p x.place y.place (and_left (like p x.place) (takes (letter_at x.place) b) x.takes) (y.same no);
          then = spell refl w (y.letter ∙ i) (subst (λ (k : ℕ). Goes k 0 v l ns t) y.is c.then);
        }

-- ---- a byte pushed: what it adds to what is told
abbrev pub st : ℕ → ℕ → ℕ → ℕ → ℕ → Reader
st p s v k n = record { at = p; sub = s; value = v; used = k; count = n }

abbrev pub digit_adds : Reader → List Item
digit_adds r = cond (eqb (letter_at r.at) 38) (held r.sub r.value) []

abbrev pub text_adds : Reader → ℕ → List Item
text_adds r b = tells (letter_at r.at) (parts (letter_at r.at) r.sub b) r.sub r.value

abbrev pub adds : Reader → ℕ → List Item
adds r b = cond (is_digit b) (digit_adds r) (text_adds r b)

abbrev pub AccR : Reader → List ℕ → List Item → ℕ → Type 0
AccR r l ns t = Acc r.at r.sub r.value l ns t

-- what has ended leaves the reader where it is
kept_at : (r : Reader) → (kept r).at ≡ r.at
kept_at r = by (inside r.sub)
  where
    by : (x : Bool) → (cond x (stored r) r).at ≡ r.at
    by true = refl
    by false = refl

ended_at : (c n : ℕ) (r : Reader) → (ended c n r).at ≡ r.at
ended_at c n r = by (eqb c 36) (in_entry n) (ends_entry r.sub n)
  where
    by : (x y z : Bool) → (cond x (cond y (noted r) (cond z (closed r) r)) (kept r)).at ≡ r.at
    by true true z = refl
    by true false true = refl
    by true false false = refl
    by false y z = kept_at r

ended_value : (c n : ℕ) (r : Reader) → (ended c n r).value ≡ r.value
ended_value c n r = by (eqb c 36) (in_entry n) (ends_entry r.sub n) (inside r.sub)
  where
    by : (x y z u : Bool) → (cond x (cond y (noted r) (cond z (closed r) r)) (cond u (stored r) r)).value ≡ r.value
    by true true z u = refl
    by true false true u = refl
    by true false false u = refl
    by false y z true = refl
    by false y z false = refl

module _ (p s v k m : ℕ) (b : ℕ) where
  push_begin : is_digit b ≡ true → is_numbered (letter_at p) ≡ true → inside s ≡ false → pushed (st p s v k m) b ≡ st p (begins s) (b - 48) k m
  unfolding pushed
  push_begin d h i = rw (d, numbered_other (letter_at p) h, h, i)

  push_grow :
      is_digit b ≡ true → is_numbered (letter_at p) ≡ true → inside s ≡ true →
      pushed (st p s v k m) b ≡ grown_if (leb (tenfold v b) 65535) (st p s v k m) (tenfold v b)
  unfolding pushed
  push_grow d h i = rw (d, numbered_other (letter_at p) h, h, i)

  push_dead : is_digit b ≡ true → eqb (letter_at p) 38 ≡ false → is_numbered (letter_at p) ≡ false → pushed (st p s v k m) b ≡ st 0 0 v k m
  unfolding pushed
  push_dead d o h = rw (d, o, h)

  push_digit : is_digit b ≡ true → letter_at p ≡ 38 → pushed (st p s v k m) b ≡ begun (kept (st p s v k m)) 1 (b - 48)
  unfolding pushed
  push_digit d h = rw (d, h)

  push_part :
      (n : ℕ) → is_digit b ≡ false → parts (letter_at p) s b ≡ suc n → pushed (st p s v k m) b ≡ begun (ended (letter_at p) (suc n) (st p s v k m)) (suc n) 0
  unfolding pushed
  push_part n d e = rw (d, e, eqb-suc-zero n)

  push_spell :
      is_digit b ≡ false → parts (letter_at p) s b ≡ 0 →
      pushed (st p s v k m) b ≡ placed (ended (letter_at p) 0 (st p s v k m)) (spelt (past (letter_at p) s p) b)
  unfolding pushed
  push_spell d e = rw (d, e)

-- what is left of a line behind its first byte
pub record On (r : Reader) (b : ℕ) (l : List ℕ) (ns : List Item) (t : ℕ) : Type 0 where
  pub rest : List Item
  pub is : ns ≡ adds r b ++ rest
  pub acc : AccR (pushed r b) l rest t

module _ (p s v k m : ℕ) (b t : ℕ) (l : List ℕ) where
  to : (ns : List Item) (r : Reader) → pushed (st p s v k m) b ≡ r → AccR r l ns t → AccR (pushed (st p s v k m) b) l ns t
  to ns r e a = subst (λ (x : Reader). AccR x l ns t) (sym e) a

  spelled_on : (ns : List Item) → is_digit b ≡ false → is_word b ≡ true → Acc (seek (past (letter_at p) s p) b) 0 v l ns t → AccR (pushed (st p s v k m) b) l ns t
  spelled_on ns d w a =
      to ns (placed (ended (letter_at p) 0 (st p s v k m)) (spelt (past (letter_at p) s p) b)) (push_spell p s v k m b d (word_parts (letter_at p) s b w))
      (rw w (subst (λ (x : ℕ). Acc (seek (past (letter_at p) s p) b) 0 x l ns t) (sym (ended_value (letter_at p) 0 (st p s v k m))) a))

  -- what a letter adds
  word_adds : is_digit b ≡ false → is_word b ≡ true → adds (st p s v k m) b ≡ tells (letter_at p) 0 s v
  word_adds d w = rw (d, word_parts (letter_at p) s b w)

  pub push_on : (ns : List Item) → AccR (st p s v k m) (b ∷ l) ns t → On (st p s v k m) b l ns t
  push_on ns a = by a.place a.above a.same a.then
    where
      no_digit : is_word b ≡ true → is_digit b ≡ false
      no_digit w = split (is_digit b) refl
        where
          split : (x : Bool) → is_digit b ≡ x → is_digit b ≡ false
          split true e = absurd (word_no_digit b w e)
          split false e = e

      numbered_there : (q : ℕ) → p ≤ q → like p q ≡ true → is_numbered (letter_at q) ≡ true → is_numbered (letter_at p) ≡ true
      numbered_there q h e c = ap is_numbered (mark_there p q h e (numbered_mark (letter_at q) c)) ∙ c

      behind : (q : ℕ) (ns' : List Item) → p ≤ q → like p q ≡ true → is_mark (letter_at q) ≡ true → may_end (letter_at q) s ≡ true → ns ≡ tells (letter_at q) 0 s v ++ ns' → Goes
          (q + 1) 0 v (b ∷ l) ns' t → On (st p s v k m) b l ns t
      behind q ns' h e c f i (spell z w j g) =
          let c-is = mark_there p q h e c in
          let at : past (letter_at p) s p ≡ p + 1 = rw (c-is, c, f) in
          let x = spell_on (p + 1) (q + 1) v b t l ns' (omega arith) (like_next p q e c-is) w j g in
          record {
            rest = ns';
            is = i ∙ ap (λ (z : List Item). z ++ ns') (ap (λ (c : ℕ). tells c 0 s v) (sym c-is) ∙ sym (word_adds (no_digit w) w));
            acc = spelled_on ns' (no_digit w) w (subst (λ (y : ℕ). Acc (seek y b) 0 v l ns' t) (sym at) x);
          }
      behind q ns' h e c f i (begin y d n g) = differ (sym (numbered_mark (letter_at (q + 1)) y) ∙ no_mark_behind q c)
      behind q ns' h e c f i (grow y d n z g) = differ (sym (numbered_mark (letter_at (q + 1)) y) ∙ no_mark_behind q c)
      behind q ns' h e c f i (digit x y d j g) = differ (sym (ap is_mark y) ∙ no_mark_behind q c)
      behind q ns' h e c f i (part n z d y j g) = differ (sym (parted_mark (parted_by (letter_at (q + 1)) 0 b n y)) ∙ no_mark_behind q c)
      behind q ns' h e c f i (leave x y z j g) = differ (sym y ∙ no_mark_behind q c)

      by : (q : ℕ) → p ≤ q → like p q ≡ true → Goes q s v (b ∷ l) ns t → On (st p s v k m) b l ns t
      by q h e (spell z w i g) =
          let out : is_mark (letter_at p) ≡ false = split (is_mark (letter_at p)) refl w i in
          let at : past (letter_at p) s p ≡ p = rw (out, eq-eqb s 0 z) in
          record {
            rest = ns;
            is =
                ap (λ (y : List Item). y ++ ns) (sym (tells_none (letter_at p) v) ∙ ap (λ (y : ℕ). tells (letter_at p) 0 y v) (sym z) ∙ sym (word_adds (no_digit w) w));
            acc = spelled_on ns (no_digit w) w (subst (λ (y : ℕ). Acc (seek y b) 0 v l ns t) (sym at) (spell_on p q v b t l ns h e w i g));
          }
        where
          split : (x : Bool) → is_mark (letter_at p) ≡ x → is_word b ≡ true → letter_at q ≡ b → is_mark (letter_at p) ≡ false
          split true j w i =
              absurd (mark_no_word (letter_at p) j
              (ap is_word (sym (lone_mark p q j (within q (subst (λ (c : ℕ). 1 ≤ c) (sym i) (word_some b w))) e) ∙ i) ∙ w))
          split false j w i = j
      by q h e (begin c d n g) =
          record {
            rest = ns;
            is = rw (d, numbered_other (letter_at p) (numbered_there q h e c));
            acc = to ns (st p (begins s) (b - 48) k m) (push_begin p s v k m b d (numbered_there q h e c) n) (record { place = q; above = h; same = e; then = g });
          }
      by q h e (grow c d n f g) =
          record {
            rest = ns;
            is = rw (d, numbered_other (letter_at p) (numbered_there q h e c));
            acc =
                to ns (st p s (tenfold v b) k m) (push_grow p s v k m b d (numbered_there q h e c) n ∙ rw (le-leb (tenfold v b) 65535 f))
                (record { place = q; above = h; same = e; then = g });
          }
      by q h e (digit ns' c d i g) =
          let there : letter_at p ≡ 38 = mark_there p q h e (ap is_mark c) ∙ c in
          record {
            rest = ns';
            is = i ∙ rw (d, there);
            acc =
                to ns' (begun (kept (st p s v k m)) 1 (b - 48)) (push_digit p s v k m b d there)
                (subst (λ (y : ℕ). Acc y 1 (b - 48) l ns' t) (sym (kept_at (st p s v k m))) (record { place = q; above = h; same = e; then = g }));
          }
      by q h e (part n ns' d f i g) =
          let c-is = mark_there p q h e (parted_mark (parted_by (letter_at q) s b n f)) in
          let f' : parts (letter_at p) s b ≡ suc n = ap (λ (c : ℕ). parts c s b) c-is ∙ f in
          record {
            rest = ns';
            is = i ∙ ap (λ (c : ℕ). tells c (suc n) s v ++ ns') (sym c-is) ∙ rw (d, f');
            acc =
                to ns' (begun (ended (letter_at p) (suc n) (st p s v k m)) (suc n) 0) (push_part p s v k m b n d f')
                (subst (λ (y : ℕ). Acc y (suc n) 0 l ns' t) (sym (ended_at (letter_at p) (suc n) (st p s v k m))) (record { place = q; above = h; same = e; then = g }));
          }
      by q h e (leave ns' c f i g) = behind q ns' h e c f i g

  -- ---- and back
  pub push_back : (ns : List Item) → AccR (pushed (st p s v k m) b) l ns t → AccR (st p s v k m) (b ∷ l) (adds (st p s v k m) b ++ ns) t
  push_back ns a = by (is_digit b) refl
    where
      from : (r : Reader) → pushed (st p s v k m) b ≡ r → AccR r l ns t
      from r e = subst (λ (x : Reader). AccR x l ns t) e a

      grown : (x : Bool) → leb (tenfold v b) 65535 ≡ x → is_digit b ≡ true → is_numbered (letter_at p) ≡ true → inside s ≡ true → Acc p s v (b ∷ l) ns t
      grown true f d c i =
          let y = from (st p s (tenfold v b) k m) (push_grow p s v k m b d c i ∙ rw f) in
          record {
            place = y.place;
            above = y.above;
            same = y.same;
            then = grow {q = y.place} (ap is_numbered (at_mark y (numbered_mark (letter_at p) c)) ∙ c) d i (leb-true (tenfold v b) 65535 f) y.then;
          }
      grown false f d c i = none (from (st 0 0 v k m) (push_grow p s v k m b d c i ∙ rw f))

      digit_of : (x y : Bool) → eqb (letter_at p) 38 ≡ false → is_numbered (letter_at p) ≡ x → inside s ≡ y → is_digit b ≡ true → Acc p s v (b ∷ l) ns t
      digit_of true true o c i d = grown (leb (tenfold v b) 65535) refl d c i
      digit_of true false o c i d =
          let y = from (st p (begins s) (b - 48) k m) (push_begin p s v k m b d c i) in
          record {
            place = y.place;
            above = y.above;
            same = y.same;
            then = begin {q = y.place} (ap is_numbered (at_mark y (numbered_mark (letter_at p) c)) ∙ c) d i y.then;
          }
      digit_of false y o c i d = none (from (st 0 0 v k m) (push_dead p s v k m b d o c))

      single : (x : Bool) → eqb (letter_at p) 38 ≡ x → is_digit b ≡ true → Acc p s v (b ∷ l) (cond x (held s v) [] ++ ns) t
      single false e d = digit_of (is_numbered (letter_at p)) (inside s) e refl refl d
      single true e d =
          let c = eqb-true (letter_at p) 38 e in
          let y : Acc p 1 (b - 48) l ns t = subst (λ (z : ℕ). Acc z 1 (b - 48) l ns t) (kept_at (st p s v k m)) (from (begun (kept (st p s v k m)) 1 (b - 48)) (push_digit p s v k m b d c)) in
          record {
            place = y.place;
            above = y.above;
            same = y.same;
            then = digit {q = y.place} {s = s} {v = v} ns (at_mark y (ap is_mark c) ∙ c) d refl y.then;
          }

      other : (n : ℕ) → parts (letter_at p) s b ≡ n → (x : Bool) → is_word b ≡ x → is_digit b ≡ false → Acc p s v (b ∷ l) (tells (letter_at p) n s v ++ ns) t
      other (suc n) e x w d =
          let z = parted_mark (parted_by (letter_at p) s b n e) in
          let y : Acc p (suc n) 0 l ns t =
          subst (λ (z : ℕ). Acc z (suc n) 0 l ns t) (ended_at (letter_at p) (suc n) (st p s v k m))
          (from (begun (ended (letter_at p) (suc n) (st p s v k m)) (suc n) 0) (push_part p s v k m b n d e)) in
          record {
            place = y.place;
            above = y.above;
            same = y.same;
            then =
                part {q = y.place} {s = s} {v = v} {b = b} n ns d (rw (at_mark y z) e) (ap (λ (c : ℕ). tells c (suc n) s v ++ ns) (sym (at_mark y z))) y.then;
          }
      other zero e false w d =
          none (subst (λ (x : ℕ). Acc x 0 (ended (letter_at p) 0 (st p s v k m)).value l ns t) (rw w)
          (from (placed (ended (letter_at p) 0 (st p s v k m)) (spelt (past (letter_at p) s p) b)) (push_spell p s v k m b d e)))
      other zero e true w d =
          let y = from (placed (ended (letter_at p) 0 (st p s v k m)) (spelt (past (letter_at p) s p) b)) (push_spell p s v k m b d e) in
          let z : Acc (seek (past (letter_at p) s p) b) 0 v l ns t =
          subst (λ (x : ℕ). Acc (seek (past (letter_at p) s p) b) 0 x l ns t) (ended_value (letter_at p) 0 (st p s v k m)) (rw w at y) in
          leave_back p s v t (b ∷ l) ns (spell_back (past (letter_at p) s p) v b t l ns w z)

      by : (x : Bool) → is_digit b ≡ x → Acc p s v (b ∷ l) (cond x (digit_adds (st p s v k m)) (text_adds (st p s v k m) b) ++ ns) t
      by true d = single (eqb (letter_at p) 38) refl d
      by false d = other (parts (letter_at p) s b) refl (is_word b) refl d

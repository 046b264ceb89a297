-- Where the rows of the table stand, and that every place behind a newline is the start of one. Assumes nothing.
use Prim.Native.Nat.{ℕ, zero, suc, ◌+◌, ◌-◌, ◌≤◌}
use mathlib.Core.Path.{◌≡◌, refl, ap, sym, subst, ◌∙◌}
use mathlib.Core.List.{List, [], ◌∷◌, ◌++◌}
use mathlib.Core.Bool.{Bool, true, false, ◌&&◌}
use native.Mathlib.Omega.{arith}
use native.Mathlib.Nat.{add-zero}
use borrow.Author.Tests.{eqb-true, eqb-false, ltb-true, ltb-false}
use lib.Dec.{eqb, ltb}
use lib.ListN.{length, get_or, replicate}
use Rattle.lines.specs.Forms.{Token, letter, number, pairs, digits, entries, byte_of, bytes, gap, rows, Form, forms}
use Rattle.lines.specs.Grammar.{is_word, Among, here, there}
use Rattle.lines.specs.Reading.{letter_at, like, is_tag}
use Rattle.lines.proofs.Classes.{differ, and_left, and_right}
use Rattle.lines.proofs.Places.{like_prior, like_newline}
use Rattle.lines.proofs.Table.{first_newline}

-- the form f and its tag t stand at q
unfoldable pub Stands : List Token → ℕ → ℕ → Type 0
Stands [] t q = letter_at q ≡ t
Stands (k ∷ f) t q = (letter_at q ≡ byte_of k) × Stands f t (q + 1)

-- ---- each row's letters are letters, and its tag is a tag
abbrev wordy : Token → Bool
wordy (letter c) = is_word c
wordy number = true
wordy pairs = true
wordy digits = true
wordy entries = true

unfoldable pub sound_text : List Token → Bool
sound_text [] = true
sound_text (k ∷ f) = wordy k && sound_text f

abbrev sound_row : Form → Bool
sound_row f = is_tag f.tag && sound_text f.form

sound_rows : List Form → Bool
sound_rows [] = true
sound_rows (f ∷ fs) = sound_row f && sound_rows fs

all_sound : sound_rows forms ≡ true
unfolding sound_rows sound_text
all_sound = refl

sound_among : (f : Form) (fs : List Form) → sound_rows fs ≡ true → Among f fs → sound_row f ≡ true
unfolding sound_rows
sound_among f [] h a = elim a [ ]
sound_among f (g ∷ fs) h here = and_left (sound_row f) (sound_rows fs) h
sound_among f (g ∷ fs) h (there a) = sound_among f fs (and_right (sound_row g) (sound_rows fs) h) a

pub tag_is : (f : Form) → Among f forms → is_tag f.tag ≡ true
tag_is f a = and_left (is_tag f.tag) (sound_text f.form) (sound_among f forms all_sound a)

pub text_is : (f : Form) → Among f forms → sound_text f.form ≡ true
text_is f a = and_right (is_tag f.tag) (sound_text f.form) (sound_among f forms all_sound a)

-- ---- the table from o on
abbrev From : ℕ → List ℕ → Type 0
From o l = (j : ℕ) → letter_at (o + j) ≡ get_or l j 0

from_head : (o c : ℕ) (l : List ℕ) → From o (c ∷ l) → letter_at o ≡ c
from_head o c l h = ap letter_at (sym (add-zero o)) ∙ h 0

from_tail : (o c : ℕ) (l : List ℕ) → From o (c ∷ l) → From (o + 1) l
from_tail o c l h j = let e : o + 1 + j ≡ o + suc j = omega arith in ap letter_at e ∙ h (suc j)

stands_from : (f : List Token) (t o : ℕ) (l : List ℕ) → From o (bytes f ++ (t ∷ l)) → Stands f t o
unfolding Stands
stands_from [] t o l h = from_head o t l h
stands_from (k ∷ f) t o l h = (from_head o (byte_of k) (bytes f ++ (t ∷ l)) h, stands_from f t (o + 1) l (from_tail o (byte_of k) (bytes f ++ (t ∷ l)) h))

behind_from : (f : List Token) (t o : ℕ) (l : List ℕ) → From o (bytes f ++ (t ∷ l)) → From (o + length f + 1) l
behind_from [] t o l h = subst (λ (x : ℕ). From x l) (omega arith) (from_tail o t l h)
behind_from (k ∷ f) t o l h = subst (λ (x : ℕ). From x l) (omega arith) (behind_from f t (o + 1) l (from_tail o (byte_of k) (bytes f ++ (t ∷ l)) h))

over_dots : (n o : ℕ) (l : List ℕ) → From o (replicate n 46 ++ l) → From (o + n) l
over_dots zero o l h = subst (λ (x : ℕ). From x l) (omega arith) h
over_dots (suc n) o l h = subst (λ (x : ℕ). From x l) (omega arith) (over_dots n (o + 1) l (from_tail o 46 (replicate n 46 ++ l) h))

-- what is left of a row behind its tag, and the rows behind it
abbrev tail : Form → List Form → List ℕ
tail f fs = replicate (gap f.form) 46 ++ rows fs

-- where the row behind that of f at o begins
abbrev end : Form → ℕ → ℕ
end f o = o + 1 + length f.form + 1 + gap f.form

-- behind the newline
text_from : (f : Form) (fs : List Form) (o : ℕ) → From o (rows (f ∷ fs)) → From (o + 1) (bytes f.form ++ (f.tag ∷ tail f fs))
text_from f fs o h = from_tail o 10 (bytes f.form ++ (f.tag ∷ tail f fs)) h

dots_from : (f : Form) (fs : List Form) (o : ℕ) → From o (rows (f ∷ fs)) → From (o + 1 + length f.form + 1) (tail f fs)
dots_from f fs o h = behind_from f.form f.tag (o + 1) (tail f fs) (text_from f fs o h)

row_end : (f : Form) (fs : List Form) (o : ℕ) → From o (rows (f ∷ fs)) → From (end f o) (rows fs)
row_end f fs o h = over_dots (gap f.form) (o + 1 + length f.form + 1) (rows fs) (dots_from f fs o h)

row_stands : (f : Form) (fs : List Form) (o : ℕ) → From o (rows (f ∷ fs)) → Stands f.form f.tag (o + 1)
row_stands f fs o h = stands_from f.form f.tag (o + 1) (tail f fs) (text_from f fs o h)

-- behind a newline
pub record Start (q : ℕ) : Type 0 where
  pub place : ℕ
  pub is : q ≡ place + 1
  pub newline : letter_at place ≡ 10

pub record RowAt (f : Form) : Type 0 where
  pub place : ℕ
  pub start : Start place
  pub stands : Stands f.form f.tag place

row_at : (f : Form) (fs : List Form) → Among f fs → (o : ℕ) → From o (rows fs) → RowAt f
row_at f [] a o h = elim a [ ]
row_at f (g ∷ fs) here o h =
    record {
      place = o + 1;
      start = record { place = o; is = refl; newline = from_head o 10 (bytes f.form ++ (f.tag ∷ tail f fs)) h };
      stands = row_stands f fs o h;
    }
row_at f (g ∷ fs) (there a) o h = row_at f fs a (end g o) (row_end g fs o h)

table_from : From 0 (rows forms)
unfolding letter_at
table_from j = ap letter_at (zero-add j)
  where
    zero-add : (j : ℕ) → 0 + j ≡ j
    zero-add j = omega arith

pub row_of : (f : Form) → Among f forms → RowAt f
row_of f a = row_at f forms a 0 table_from

-- ---- and back
no_newline : (k : Token) → wordy k ≡ true → byte_of k ≡ 10 → ⊥
no_newline (letter c) h e = differ (sym h ∙ ap is_word e)
no_newline number h e = omega arith
no_newline pairs h e = omega arith
no_newline digits h e = omega arith
no_newline entries h e = omega arith

not_here : (o q : ℕ) → o ≤ q → (o ≡ q → ⊥) → o + 1 ≤ q
not_here o q h n = by (ltb o q) refl
  where
    by : (t : Bool) → ltb o q ≡ t → o + 1 ≤ q
    by true e = omega (arith, ltb-true o q e)
    by false e = absurd (n (omega (arith, ltb-false o q e)))

past_row :
    (f : List Token) (t o : ℕ) (l : List ℕ) → From o (bytes f ++ (t ∷ l)) → sound_text f ≡ true → is_tag t ≡ true → (q : ℕ) → o ≤ q → letter_at q ≡ 10 →
    o + length f + 1 ≤ q
unfolding sound_text
past_row [] t o l h s g q i e =
    let n : o ≡ q → ⊥ = λ j. differ (sym g ∙ ap is_tag (sym (from_head o t l h) ∙ ap letter_at j ∙ e)) in
    omega (arith, not_here o q i n)
past_row (k ∷ f) t o l h s g q i e =
    let n : o ≡ q → ⊥ = λ j. no_newline k (and_left (wordy k) (sound_text f) s) (sym (from_head o (byte_of k) (bytes f ++ (t ∷ l)) h) ∙ ap letter_at j ∙ e) in
    omega (arith, past_row f t (o + 1) l (from_tail o (byte_of k) (bytes f ++ (t ∷ l)) h) (and_right (wordy k) (sound_text f) s) g q (not_here o q i n) e)

past_dots : (n o : ℕ) (l : List ℕ) → From o (replicate n 46 ++ l) → (q : ℕ) → o ≤ q → letter_at q ≡ 10 → o + n ≤ q
past_dots zero o l h q i e = omega arith
past_dots (suc n) o l h q i e =
    let k : o ≡ q → ⊥ = λ j. let z = sym (from_head o 46 (replicate n 46 ++ l) h) ∙ ap letter_at j ∙ e in omega arith in
    omega (arith, past_dots n (o + 1) l (from_tail o 46 (replicate n 46 ++ l) h) q (not_here o q i k) e)

pub record RowThere (q : ℕ) (fs : List Form) : Type 0 where
  pub of : Form
  pub among : Among of fs
  pub stands : Stands of.form of.tag q

nowhere : (o n : ℕ) → From o [] → o ≤ n → letter_at n ≡ 10 → ⊥
nowhere o n h g e = let z : letter_at n ≡ 0 = ap letter_at (split o n g) ∙ h (n - o) in omega arith
  where
    split : (o q : ℕ) → o ≤ q → q ≡ o + (q - o)
    split o q g = omega arith

row_there : (fs : List Form) → sound_rows fs ≡ true → (o n : ℕ) → From o (rows fs) → o ≤ n → letter_at n ≡ 10 → RowThere (n + 1) fs
unfolding sound_rows
row_there [] s o n h g e = absurd (nowhere o n h g e)
row_there (f ∷ fs) s o n h g e = by (eqb o n) refl (λ y. row_there fs (and_right (sound_row f) (sound_rows fs) s) (end f o) n (row_end f fs o h) y e)
  where
    good : sound_row f ≡ true
    good = and_left (sound_row f) (sound_rows fs) s

    over : RowThere (n + 1) fs → RowThere (n + 1) (f ∷ fs)
    over r = record { of = r.of; among = there r.among; stands = r.stands }

    by : (t : Bool) → eqb o n ≡ t → (end f o ≤ n → RowThere (n + 1) fs) → RowThere (n + 1) (f ∷ fs)
    by true i r = record { of = f; among = here; stands = subst (λ (x : ℕ). Stands f.form f.tag (x + 1)) (eqb-true o n i) (row_stands f fs o h) }
    by false i r =
        let a = not_here o n g (eqb-false o n i) in
        let b = past_row f.form f.tag (o + 1) (tail f fs) (text_from f fs o h) (and_right (is_tag f.tag) (sound_text f.form) good)
        (and_left (is_tag f.tag) (sound_text f.form) good) n a e in
        over (r (past_dots (gap f.form) (o + 1 + length f.form + 1) (rows fs) (dots_from f fs o h) n b e))

-- a place like the first
pub start_of : (q : ℕ) → like 1 q ≡ true → Start q
start_of q h =
    let x = like_prior 0 q h in
    record { place = x.place; is = x.is; newline = x.letter ∙ first_newline }

pub like_start_of : (q : ℕ) → Start q → like 1 q ≡ true
like_start_of q s = rw s.is (like_newline 0 s.place first_newline s.newline)

pub row_from : (q : ℕ) → like 1 q ≡ true → RowThere q forms
row_from q h =
    let x = start_of q h in
    subst (λ (p : ℕ). RowThere p forms) (sym x.is) (row_there forms all_sound 0 x.place table_from (omega arith) x.newline)

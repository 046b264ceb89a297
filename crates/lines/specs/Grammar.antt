-- What a readable line says (paper: Program and host). The grammar alone, with no way of reading: a line says what a form of
-- the table asks for where it is put together as the form is. Assumes nothing.
use Rattle.std.specs.Prelude.{ℕ, ◌+◌, ◌-◌, ◌*◌, ◌≤◌, ◌≡◌, Bool, true, ◌&&◌, ◌||◌, leb, eqb, length}
use mathlib.Core.List.{List, [], ◌∷◌, ◌++◌, foldl}
use Rattle.machine.specs.Calls.{Pair}
use Rattle.machine.specs.Import.{Entry, adds, undoes, neither}
use Rattle.lines.specs.Text.{text}
use Rattle.lines.specs.Decimal.{is_digit}
use Rattle.lines.specs.Forms.{Asked, Token, letter, number, pairs, digits, entries, Asks, Form, forms}

unfoldable pub all_digits : List ℕ → Bool
all_digits [] = true
all_digits (b ∷ d) = is_digit b && all_digits d

-- a digit behind a number: ten times the number, and the digit
abbrev pub tenfold : ℕ → ℕ → ℕ
tenfold v b = 10 * v + (b - 48)

-- a number of a line: one digit or more, however many zeros in front, worth n, which is at most 65,535
pub record Number (d : List ℕ) (n : ℕ) : Type 0 where
  pub some : 1 ≤ length d
  pub digits : all_digits d ≡ true
  pub worth : foldl tenfold 0 d ≡ n
  pub fits : n ≤ 65535

abbrev pub pair : ℕ → ℕ → Pair
pair p v = record { path = p; value = v }

-- path, value, path, value, ..
unfoldable pub flat : List Pair → List ℕ
flat [] = []
flat (p ∷ ps) = p.path ∷ p.value ∷ flat ps

-- pairs `path:value`, joined by commas
pub data Row : List ℕ → List Pair → Type 0 where
  one : {a b : List ℕ} {p v : ℕ} → Number a p → Number b v → Row (a ++ text ":" ++ b) (pair p v ∷ [])
  more : {a b l : List ℕ} {p v : ℕ} {ps : List Pair} → Number a p → Number b v → Row l ps → Row (a ++ text ":" ++ b ++ text "," ++ l) (pair p v ∷ ps)

-- an entry of a list: a change's pairs, or none; or the place of the entry that a rollback undoes (order 6)
pub data Entered : List ℕ → Entry → Type 0 where
  no_pairs : Entered [] (adds [])
  some_pairs : {d : List ℕ} {ps : List Pair} → Row d ps → Entered d (adds ps)
  place : {d : List ℕ} {n : ℕ} → Number d n → Entered d (undoes n)

-- entries, joined by slashes
pub data Entries : List ℕ → List Entry → Type 0 where
  last : {d : List ℕ} {e : Entry} → Entered d e → Entries d (e ∷ [])
  then : {d l : List ℕ} {e : Entry} {es : List Entry} → Entered d e → Entries l es → Entries (d ++ text "/" ++ l) (e ∷ es)

-- what single digits are worth
unfoldable pub worths : List ℕ → List ℕ
worths [] = []
worths (b ∷ d) = (b - 48) ∷ worths d

-- what a line tells, in order: numbers; and of entries the numbers of a change, where the change ends, and the place that a
-- rollback names
pub data Item : Type 0 where
  plain : ℕ → Item
  inner : ℕ → Item
  close : Item
  undo : ℕ → Item

unfoldable pub as_items : (ℕ → Item) → List ℕ → List Item
as_items k [] = []
as_items k (n ∷ ns) = k n ∷ as_items k ns

abbrev pub items_of : Entry → List Item
items_of (adds ps) = as_items inner (flat ps) ++ (close ∷ [])
items_of (undoes n) = undo n ∷ []
items_of neither = []

unfoldable pub items : List Entry → List Item
items [] = []
items (e ∷ es) = items_of e ++ items es

-- what may stand for itself in a line: a small letter, `=`, a blank, `_`
abbrev pub is_word : ℕ → Bool
is_word b = leb 97 b && leb b 122 || eqb b 61 || eqb b 32 || eqb b 95

-- a line of the form f asks for x where f's marks ask for a; what it tells, in order, is ns
pub data Fits : (f : List Token) → Asks f → List ℕ → List Item → Asked → Type 0 where
  fits_end : {x : Asked} → Fits [] x [] [] x
  fits_letter :
      {c : ℕ} {f : List Token} {a : Asks f} {l : List ℕ} {ns : List Item} {x : Asked} → is_word c ≡ true → Fits f a l ns x → Fits (letter c ∷ f) a (c ∷ l) ns x
  fits_number :
      {d : List ℕ} {n : ℕ} {f : List Token} {a : ℕ → Asks f} {l : List ℕ} {ns : List Item} {x : Asked} → Number d n → Fits f (a n) l ns x →
      Fits (number ∷ f) a (d ++ l) (plain n ∷ ns) x
  fits_none : {f : List Token} {a : List Pair → Asks f} {l : List ℕ} {ns : List Item} {x : Asked} → Fits f (a []) l ns x → Fits (pairs ∷ f) a l ns x
  fits_pairs :
      {d : List ℕ} {ps : List Pair} {f : List Token} {a : List Pair → Asks f} {l : List ℕ} {ns : List Item} {x : Asked} → Row d ps → Fits f (a ps) l ns x →
      Fits (pairs ∷ f) a (d ++ l) (as_items plain (flat ps) ++ ns) x
  fits_digits :
      (d : List ℕ) {f : List Token} {a : List ℕ → Asks f} {l : List ℕ} {ns : List Item} {x : Asked} → all_digits d ≡ true → Fits f (a (worths d)) l ns x →
      Fits (digits ∷ f) a (d ++ l) (as_items plain (worths d) ++ ns) x
  -- nothing is an empty list
  fits_no_entry : {f : List Token} {a : List Entry → Asks f} {l : List ℕ} {ns : List Item} {x : Asked} → Fits f (a []) l ns x → Fits (entries ∷ f) a l ns x
  fits_entries :
      {d : List ℕ} {es : List Entry} {f : List Token} {a : List Entry → Asks f} {l : List ℕ} {ns : List Item} {x : Asked} → 1 ≤ length d → Entries d es →
      Fits f (a es) l ns x → Fits (entries ∷ f) a (d ++ l) (items es ++ ns) x

pub data Among (f : Form) : List Form → Type 0 where
  here : {fs : List Form} → Among f (f ∷ fs)
  there : {g : Form} {fs : List Form} → Among f fs → Among f (g ∷ fs)

pub record Says (l : List ℕ) (x : Asked) : Type 0 where
  pub of : Form
  pub among : Among of forms
  pub tells : List Item
  pub fits : Fits of.form of.asks l tells x

-- The lines of a log's record, change by change (order 11): an entry's, that of what is folded with the base, and that of the
-- changes held. Assumes nothing.
use Rattle.std.specs.Prelude.{ℕ, zero, suc, ◌+◌, ◌*◌, List, [], ◌∷◌, ◌++◌, Bool, true, not, cond, eqb, ltb, get_or}
use Rattle.kinds.specs.declared.Transaction.{Transaction}
use Rattle.lines.specs.Text.{text}
use Rattle.lines.specs.Decimal.{decimal}
use Rattle.lines.specs.Replies.{filled}

-- ---- a list of texts
-- a comma, where a text stands before it
abbrev pub comma : List ℕ → List ℕ
comma [] = []
comma (c ∷ l) = text ","

-- of the first n places those that pass, each as its text, a comma between each two
unfoldable pub listed : (ℕ → Bool) → (ℕ → List ℕ) → ℕ → List ℕ
listed p f zero = []
listed p f (suc k) = cond (p k) (listed p f k ++ (comma (listed p f k) ++ f k)) (listed p f k)

-- the same comma, by where the list begins and where it has come to
abbrev pub comma_in : (start at : ℕ) → List ℕ
comma_in start at = cond (ltb start at) (text ",") []

-- what one place adds there
abbrev pub next_in : Bool → (start at : ℕ) → List ℕ → List ℕ
next_in b start at t = cond b (comma_in start at ++ t) []

-- ---- pairs
abbrev pub pair_text : (path value : ℕ) → List ℕ
pair_text p v = decimal p ++ (text ":" ++ decimal v)

-- those of a transaction, in their order
abbrev pub pairs_text : Transaction → List ℕ
pairs_text t = listed (λ k. true) (λ k. pair_text (get_or t.paths k 0) (get_or t.values k 0)) t.count

-- those of a table of values, of the paths whose value is not 0, rising
abbrev pub values_text : List ℕ → List ℕ
values_text vs = listed (λ p. not (eqb (get_or vs p 0) 0)) (λ p. pair_text p (get_or vs p 0)) 32

-- ---- the lines
-- an entry's: its number, its pairs, its class, and 1 or 0 for each of took and undone
unfoldable pub entry_line : (number : ℕ) (t : Transaction) (class took undone : ℕ) → List ℕ
entry_line n t c k u = filled (text "number=# pairs=") (n ∷ []) ++ (pairs_text t ++ filled (text " class=# took=# undone=#\n") (c ∷ k ∷ u ∷ []))

-- the last fold, and the base
unfoldable pub folded_line : (folded : ℕ) (base : List ℕ) → List ℕ
folded_line b vs = filled (text "folded=# base=") (b ∷ []) ++ (values_text vs ++ text "\n")

-- of the n numbers after b those that are held
unfoldable pub held_line : (ℕ → Bool) → (b n : ℕ) → List ℕ
held_line holds b n = text "held=" ++ (listed (λ j. holds (b + suc j)) (λ j. decimal (b + suc j)) n ++ text "\n")

-- what is no image has no record
abbrev pub unformed_line : List ℕ
unformed_line = text "answer=1\n"

-- ---- the bytes that they can have: ten for each number
abbrev pub number_room : ℕ
number_room = 11

abbrev pub pair_room : ℕ
pair_room = 22

abbrev pub entry_room : ℕ
entry_room = 76 + pair_room * 4

abbrev pub folded_room : ℕ
folded_room = 24 + pair_room * 32

abbrev pub held_room : ℕ
held_room = 6 + number_room * 128

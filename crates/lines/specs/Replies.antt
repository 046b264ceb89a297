-- The lines that the program writes (paper: Program and host). Assumes nothing.
use Rattle.std.specs.Prelude.{ℕ, ◌+◌, ◌≤◌, List, [], ◌∷◌, ◌++◌, ◌≡◌, cond, eqb, leb, length, drop, get_or}
use Rattle.std.proofs.lemmas.List.Edits.{sets}
use Rattle.kinds.specs.declared.Reply.{Reply}
use Rattle.kinds.specs.Statuses.{code_of}
use Rattle.lines.specs.Text.{text}
use Rattle.lines.specs.Decimal.{decimal}

-- ---- a form filled in: each `#` of it is the next of the numbers, in decimal; all else stands for itself
abbrev pub filled_at : ℕ → ℕ → List ℕ
filled_at c n = cond (eqb c 35) (decimal n) (c ∷ [])

abbrev pub next_at : ℕ → ℕ → ℕ
next_at c k = cond (eqb c 35) (k + 1) k

-- from the k-th number on
unfoldable pub filled_from : List ℕ → List ℕ → ℕ → List ℕ
filled_from [] ns k = []
filled_from (c ∷ f) ns k = filled_at c (get_or ns k 0) ++ filled_from f ns (next_at c k)

abbrev pub filled : List ℕ → List ℕ → List ℕ
filled f ns = filled_from f ns 0

-- the bytes that a form can have: ten for each number
abbrev pub room_of : List ℕ → ℕ
room_of [] = 0
room_of (c ∷ f) = cond (eqb c 35) 10 1 + room_of f

-- ---- the forms of the replies
-- the answer, then the event
unfoldable pub reply_line : Reply → List ℕ
reply_line r =
    filled (text "answer=# phase=# stage=# number=# status=#\n")
    (r.answer ∷ r.event.phase ∷ r.event.stage ∷ r.event.number.0 ∷ code_of r.event.status ∷ [])

-- those below are forms filled in by `write_form` and nothing more: abbreviations, so that its contract is their writers' too
-- the answer, the reason and what it names (order 4)
abbrev pub why_line : (answer reason named : ℕ) → List ℕ
why_line a r k = filled (text "answer=# reason=# named=#\n") (a ∷ r ∷ k ∷ [])

-- the answer, the jobs done and why the night stopped (order 2)
abbrev pub night_line : (answer jobs stopped : ℕ) → List ℕ
night_line a j s = filled (text "answer=# jobs=# stopped=#\n") (a ∷ j ∷ s ∷ [])

-- the answer, and the position of the entry that is refused (order 6)
abbrev pub import_line : (answer position : ℕ) → List ℕ
import_line a p = filled (text "answer=# position=#\n") (a ∷ p ∷ [])

-- the answer, and the number of the newest live change that set the path (order 7)
abbrev pub owner_line : (answer owner : ℕ) → List ℕ
owner_line a o = filled (text "answer=# owner=#\n") (a ∷ o ∷ [])

-- at the end the committed and applied revision and ordinal
abbrev pub closing_line : (committed committedOrdinal applied appliedOrdinal : ℕ) → List ℕ
closing_line c o a u = filled (text "committed=# committed_ordinal=# applied=# applied_ordinal=#\n") (c ∷ o ∷ a ∷ u ∷ [])

-- ---- the forms of the sheet (order 11)
-- a log's place, how many of its kept transactions are in each class, class 1 first, the paths at which its tables differ, bit p for
-- path p, and how many they are
abbrev pub log_form : List ℕ
log_form = text "log=# open=# stopped=# invalid=# taken=# undoing=# undone=# mask=# drift=#\n"

abbrev pub log_line : (log : ℕ) (counts : List ℕ) (mask drift : ℕ) → List ℕ
log_line n cs m d = filled log_form (n ∷ (cs ++ (m ∷ d ∷ [])))

-- a refused log
abbrev pub refused_form : List ℕ
refused_form = text "log=# answer=#\n"

abbrev pub refused_line : (log answer : ℕ) → List ℕ
refused_line n a = filled refused_form (n ∷ a ∷ [])

-- the totals, under the keys of a log's counts
abbrev pub totals_form : List ℕ
totals_form = text "open=# stopped=# invalid=# taken=# undoing=# undone=#\n"

abbrev pub totals_line : (totals : List ℕ) → List ℕ
totals_line ts = filled totals_form ts

-- ---- a text put into a lent buffer
-- the room that a line of the sheet asks for, and any other
abbrev pub sheet_room : ℕ
sheet_room = 160

abbrev pub line_room : ℕ
line_room = 96

-- t stands in the list from `at` on, all else is as it was, and `ends` is where t ends
pub record Put (before : List ℕ) (at : ℕ) (t : List ℕ) (end : ℕ) (after : List ℕ) : Type 0 where
  pub ends : end ≡ at + length t
  pub holds : after ≡ sets before at t

-- a line written into a lent buffer that has room for so many bytes: the line, then what stood behind it. Else nothing
pub record WrittenIn (room : ℕ) (before line : List ℕ) (size : ℕ) (after : List ℕ) : Type 0 where
  pub sized : size ≡ cond (leb room (length before)) (length line) 0
  pub fits : size ≤ length before
  pub holds : after ≡ cond (leb room (length before)) (line ++ drop (length line) before) before

-- the same of a buffer that has room for 96 bytes
abbrev pub Written : (before line : List ℕ) (size : ℕ) (after : List ℕ) → Type 0
Written before line size after = WrittenIn 96 before line size after

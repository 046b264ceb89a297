-- The text that the sheet is for the bytes of an input (order 11): a line for each log in turn, then the totals. Assumes nothing.
use Rattle.std.specs.Prelude.{ℕ, zero, suc, ◌+◌, ◌*◌, ◌≡◌, cond, List, [], ◌∷◌, ◌++◌, leb, take, drop}
use Rattle.machine.specs.Sheet.{row_of, Met, refused, met, totals, together, kept_in}
use Rattle.image.specs.Layout.{image_length}
use Rattle.image.specs.View.{view}
use Rattle.image.specs.Formed.{formed}
use Rattle.lines.specs.Replies.{log_line, refused_line, totals_line}
use Rattle.controller.specs.Tallies.{most_logs}

-- ---- the logs
-- those of an input, at most so many: an image's bytes each, and the last has what is left
unfoldable pub logs_in : (most : ℕ) → List ℕ → List (List ℕ)
logs_in zero bs = []
logs_in (suc n) [] = []
logs_in (suc n) (b ∷ bs) = take image_length (b ∷ bs) ∷ logs_in n (drop image_length (b ∷ bs))

-- a bad one is refused
abbrev pub as_met : List ℕ → Met
as_met l = cond (formed l) (met (view l)) refused

unfoldable pub met_in : List (List ℕ) → List Met
met_in [] = []
met_in (l ∷ ls) = as_met l ∷ met_in ls

-- the logs that are read: no 65th is
abbrev pub logs_read : List ℕ → List Met
logs_read bs = met_in (logs_in most_logs bs)

-- ---- their lines
abbrev pub met_line : (place : ℕ) → Met → List ℕ
met_line k refused = refused_line k 1
met_line k (met s) = log_line k (row_of s).counts (row_of s).mask (row_of s).drift

-- a 65th log is refused, whatever it has
abbrev pub line_at : (place : ℕ) → List ℕ → List ℕ
line_at k l = cond (leb k most_logs) (met_line k (as_met l)) (refused_line k 2)

-- from place k on
unfoldable pub lines_from : (place : ℕ) → List (List ℕ) → List ℕ
lines_from k [] = []
lines_from k (l ∷ ls) = line_at k l ++ lines_from (k + 1) ls

-- ---- the sheet
unfoldable pub sheet_text : List ℕ → List ℕ
sheet_text bs = lines_from 1 (logs_in (most_logs + 1) bs) ++ totals_line (totals (logs_read bs))

-- the numbers in its last line together are the transactions that the logs not refused keep (proved in Reported)
pub record Sums (bs : List ℕ) : Type 0 where
  pub lines : List ℕ
  pub numbers : List ℕ
  pub ends : sheet_text bs ≡ lines ++ totals_line numbers
  pub sums : together numbers ≡ kept_in (logs_read bs)

-- the bytes of an input that the program keeps, a 65th log's first the last of them: they make the text of the whole (proved in Cut)
abbrev pub input_room : ℕ
input_room = image_length * most_logs + 1

abbrev pub Cut : List ℕ → Type 0
Cut bs = sheet_text (take input_room bs) ≡ sheet_text bs

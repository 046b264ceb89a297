-- What the sheet's functions promise, and that no second outcome keeps a promise. Assumes nothing.
use Rattle.std.specs.Prelude.{ℕ, ◌+◌, ◌-◌, ◌*◌, ◌≤◌, ◌≡◌, cond, List, eqb, ltb}
use Rattle.kinds.specs.Outcome.{one}
use Rattle.machine.specs.Sheet.{totals}
use Rattle.image.specs.Layout.{image_length}
use Rattle.lines.specs.Replies.{log_line, refused_line, sheet_room, Put, WrittenIn}
use Rattle.lines.specs.Promises.{written_in_only}
use Rattle.controller.specs.declared.tallies.Tally.{Tally}
use Rattle.controller.specs.Tallies.{most_logs, totals_in, tally_of, totals_after}
use Rattle.sheet.specs.SheetText.{logs_in, logs_read, lines_from, sheet_text}

-- the line of what a tally answers
abbrev pub tally_line : (place : ℕ) → Tally → List ℕ
tally_line k t = cond (eqb t.answer 0) (log_line k t.counts t.mask t.drift) (refused_line k t.answer)

-- the line of the log l is put behind the first `used` bytes, and the totals are those behind it
abbrev pub PutsLog : (l : List ℕ) (place : ℕ) (m out : List ℕ) (used end : ℕ) (m' after : List ℕ) → Type 0
PutsLog l k m out used end m' after = Put out used (tally_line k (tally_of l k m)) end after × (m' ≡ totals_after l k m)

-- the lines of all logs are put, and the totals are theirs
pub record PutsLogs (bs out : List ℕ) (end : ℕ) (m after : List ℕ) : Type 0 where
  pub puts : Put out 0 (lines_from 1 (logs_in (most_logs + 1) bs)) end after
  pub fits : end ≤ sheet_room * (most_logs + 1)
  pub adds : totals_in m ≡ totals (logs_read bs)

-- a line for each of 65 logs, and that of the totals
abbrev pub report_room : ℕ
report_room = (most_logs + 2) * sheet_room

-- the text stands at the start of the buffer; where it has no room for 66 lines, nothing is written
abbrev pub Reports : (bs out : List ℕ) (size : ℕ) (after : List ℕ) → Type 0
Reports bs out size after = WrittenIn report_room out (sheet_text bs) size after

-- ---- no second outcome
put_only : (out : List ℕ) (at : ℕ) (t : List ℕ) (e f : ℕ) (a b : List ℕ) → Put out at t e a → Put out at t f b → (e ≡ f) × (a ≡ b)
put_only out at t e f a b x y = (one x.ends y.ends, one x.holds y.holds)

pub puts_log_only :
    (l : List ℕ) (k : ℕ) (m out : List ℕ) (used e f : ℕ) (m₁ m₂ a b : List ℕ) → PutsLog l k m out used e m₁ a → PutsLog l k m out used f m₂ b →
    (e ≡ f) × (m₁ ≡ m₂) × (a ≡ b)
puts_log_only l k m out used e f m₁ m₂ a b x y =
    let z = put_only out used (tally_line k (tally_of l k m)) e f a b x.0 y.0 in
    (z.0, one x.1 y.1, z.1)

pub reports_only : (bs out : List ℕ) (r q : ℕ) (a b : List ℕ) → Reports bs out r a → Reports bs out q b → (r ≡ q) × (a ≡ b)
reports_only bs out r q a b = written_in_only report_room out (sheet_text bs) r q a b

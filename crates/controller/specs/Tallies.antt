-- What `tally` claims (order 11): a log's line, and the totals that are lent with its counts added; refused, every byte of them is
-- what it had been. Assumes nothing.
use Rattle.std.specs.Prelude.{ℕ, ◌-◌, ◌*◌, ◌≤◌, ◌≡◌, Bool, ◌&&◌, cond, List, [], ◌∷◌, eqb, leb, length}
use Rattle.machine.specs.Sheet.{Row, row_of, none, added, together}
use Rattle.fields.specs.Field.{fields_at, put_fields, total}
use Rattle.image.specs.Layout.{slots}
use Rattle.image.specs.View.{view}
use Rattle.image.specs.Formed.{formed}
use Rattle.controller.specs.declared.tallies.Tally.{Tally}

-- ---- the totals that are lent: six numbers of two bytes each, open first
abbrev pub total_widths : List ℕ
total_widths = 2 ∷ 2 ∷ 2 ∷ 2 ∷ 2 ∷ 2 ∷ []

abbrev pub totals_in : List ℕ → List ℕ
totals_in m = fields_at m 0 total_widths

abbrev pub put_totals : List ℕ → List ℕ → List ℕ
put_totals m ts = put_fields m 0 total_widths ts

-- how many logs a report has
abbrev pub most_logs : ℕ
most_logs = 64

-- the logs before place k keep no more than this: so totals that are lent have room for one more
abbrev pub before : ℕ → ℕ
before k = slots * (k - 1)

unfoldable pub lent_ok : (log : ℕ) → (totals : List ℕ) → Bool
lent_ok k m = (leb 1 k && leb k most_logs) && (eqb (length m) (total total_widths) && leb (together (totals_in m)) (before k))

-- ---- the call
abbrev pub given : Row → Tally
given w = record { answer = 0; counts = w.counts; mask = w.mask; drift = w.drift }

abbrev pub refuses : ℕ → Tally
refuses a = record { answer = a; counts = none; mask = 0; drift = 0 }

-- of totals that may be lent: refusal 1, or the line; and the totals behind it
abbrev pub line_of : (image : List ℕ) → Tally
line_of l = cond (formed l) (given (row_of (view l))) (refuses 1)

abbrev pub added_in : (image totals : List ℕ) → List ℕ
added_in l m = cond (formed l) (put_totals m (added (totals_in m) (row_of (view l)).counts)) m

-- 2 comes before 1: a 65th log is not read
unfoldable pub tally_of : (image : List ℕ) → (log : ℕ) → (totals : List ℕ) → Tally
tally_of l k m = cond (lent_ok k m) (line_of l) (refuses 2)

unfoldable pub totals_after : (image : List ℕ) → (log : ℕ) → (totals : List ℕ) → List ℕ
totals_after l k m = cond (lent_ok k m) (added_in l m) m

abbrev pub Tallies : (image : List ℕ) → (log : ℕ) → (totals : List ℕ) → Tally → (totals : List ℕ) → Type 0
Tallies l k m r m' = (r ≡ tally_of l k m) × (m' ≡ totals_after l k m)

-- ---- as the code makes it
-- totals that may be lent
pub record Lent (m : List ℕ) : Type 0 where
  pub size : length m ≡ total total_widths
  pub few : together (totals_in m) ≤ before most_logs

abbrev pub Reports : (image totals : List ℕ) → Tally → (totals : List ℕ) → Type 0
Reports l m r m' = (r ≡ line_of l) × (m' ≡ added_in l m)

-- totals that have room for these counts
pub record Fitting (m counts : List ℕ) : Type 0 where
  pub lent : Lent m
  pub six : length counts ≡ 6
  pub all : together counts ≤ slots

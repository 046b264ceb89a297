-- A log tallied by its place in turn: its line is the text's, and the totals behind it are the sheet's. Assumes nothing.
use Prim.Native.Nat.{ℕ, zero, suc, ◌+◌, ◌-◌, ◌*◌, ◌≤◌, ◌<◌}
use mathlib.Core.Path.{◌≡◌, refl, subst, ◌∙◌}
use mathlib.Core.Bool.{Bool, true, false, cond, ◌&&◌}
use mathlib.Core.List.{List, [], ◌∷◌, ◌++◌}
use native.Mathlib.Omega.{arith}
use borrow.Author.Tests.{le-leb, eq-eqb, ne_eqb}
use lib.Dec.{eqb, leb}
use lib.ListN.{length, take, drop, replicate}
use Rattle.machine.specs.Sheet.{row_of, refused, met, added, added_to, together}
use Rattle.machine.proofs.Sheeted.{in_one_class, together_added, length_added, six_counts}
use Rattle.fields.proofs.Runs.{Fit, length_fields, length_puts, puts_same}
use Rattle.image.specs.Layout.{slots}
use Rattle.image.specs.View.{view}
use Rattle.image.specs.Formed.{formed}
use Rattle.image.proofs.Scanned.{view_kept, formed_room}
use Rattle.lines.proofs.Putting.{log_short, refused_short, part_put}
use Rattle.lines.specs.Replies.{log_line, refused_line, sheet_room, WrittenIn}
use Rattle.controller.specs.declared.tallies.Tally.{Tally}
use Rattle.controller.specs.Tallies.{total_widths, totals_in, put_totals, most_logs, lent_ok, given, refuses, tally_of, totals_after}
use Rattle.sheet.specs.SheetText.{as_met, met_line, line_at}
use Rattle.sheet.specs.Reports.{tally_line, PutsLog}

-- its line has room
pub line_short : (k : ℕ) (t : Tally) → length (tally_line k t) ≤ sheet_room
line_short k t = by (eqb t.answer 0)
  where
    by : (b : Bool) → length (cond b (log_line k t.counts t.mask t.drift) (refused_line k t.answer)) ≤ sheet_room
    by true = log_short k t.counts t.mask t.drift
    by false = refused_short k t.answer

-- its line, written
module _ (k : ℕ) (t : Tally) (l : List ℕ) (r : ℕ) (m : List ℕ) where
  pub read_line : t.answer ≡ 0 → WrittenIn sheet_room l (log_line k t.counts t.mask t.drift) r m → WrittenIn sheet_room l (tally_line k t) r m
  read_line e x = rw (eq-eqb t.answer 0 e) x

  pub refused_line_holds : (t.answer ≡ 0 → ⊥) → WrittenIn sheet_room l (refused_line k t.answer) r m → WrittenIn sheet_room l (tally_line k t) r m
  refused_line_holds e x = rw (ne_eqb t.answer 0 e) x

-- and put
pub log_put :
    (l : List ℕ) (k : ℕ) (m out : List ℕ) (used size : ℕ) (t : Tally) (m' rest : List ℕ) → t ≡ tally_of l k m → m' ≡ totals_after l k m →
    used + 160 ≤ length out → WrittenIn sheet_room (take (used + 160 - used) (drop used out)) (tally_line k t) size rest →
    PutsLog l k m out used (used + size) m' (take used out ++ (rest ++ drop (used + 160 - used) (drop used out)))
log_put l k m out used size t m' rest e f h x = (
  part_put sheet_room out used (tally_line k (tally_of l k m)) (used + 160 - used) size rest (omega arith) h
      (subst (λ (y : Tally). WrittenIn sheet_room (take (used + 160 - used) (drop used out)) (tally_line k y) size rest) e x),
  f,
)

-- numbers that are small together have room in two bytes each
fit_twos : (n : ℕ) (xs : List ℕ) → length xs ≡ n → together xs < 65536 → Fit (replicate n 2) xs
fit_twos zero [] h g = tt
fit_twos zero (x ∷ xs) h g = absurd (omega arith)
fit_twos (suc n) [] h g = absurd (omega arith)
fit_twos (suc n) (x ∷ xs) h g = (omega arith, fit_twos n xs (omega arith) (omega arith))

-- a well-formed log keeps at most as many as the ring has
kept_few : (l : List ℕ) → formed l ≡ true → together (row_of (view l)).counts ≤ slots
kept_few l h = omega (arith, in_one_class (view l), view_kept l, (formed_room l h).1.0)

-- ---- totals that the logs before place k can have
module _ (l : List ℕ) (k : ℕ) (m : List ℕ) (first : 1 ≤ k) (size : length m ≡ 12) (few : together (totals_in m) ≤ slots * (k - 1)) where
  pub lent : lent_ok k m ≡ leb k most_logs
  unfolding lent_ok
  lent = rw (le-leb 1 k first, eq-eqb (length m) 12 size, le-leb (together (totals_in m)) (slots * (k - 1)) few) (by (leb k most_logs))
    where
      by : (b : Bool) → (b && true) ≡ b
      by true = refl
      by false = refl

  pub line_is : tally_line k (tally_of l k m) ≡ line_at k l
  unfolding tally_of
  line_is = rw lent (by (leb k most_logs) (formed l))
    where
      by : (a b : Bool) →
          tally_line k (cond a (cond b (given (row_of (view l))) (refuses 1)) (refuses 2)) ≡ cond a (met_line k (cond b (met (view l)) refused)) (refused_line k 2)
      by true true = refl
      by true false = refl
      by false b = refl

  -- the totals with this log's counts
  six : length (totals_in m) ≡ 6
  six = length_fields total_widths m 0

  more : (b : Bool) → formed l ≡ b → together (added_to (totals_in m) (cond b (met (view l)) refused)) ≤ slots * (k - 1) + slots
  more true e =
      omega (arith, kept_few l e, together_added (totals_in m) (row_of (view l)).counts (omega (arith, six, six_counts (view l))))
  more false e = omega arith

  put_in : (b : Bool) → formed l ≡ b → k ≤ most_logs →
      totals_in (cond b (put_totals m (added (totals_in m) (row_of (view l)).counts)) m) ≡ added_to (totals_in m) (cond b (met (view l)) refused)
  put_in true e h =
      let ts : List ℕ = added (totals_in m) (row_of (view l)).counts in
      puts_same total_widths ts m 0 (fit_twos 6 ts (length_added (totals_in m) (row_of (view l)).counts ∙ six) (omega (arith, more true e))) (omega (arith, size))
  put_in false e h = refl

  size_in : (a b : Bool) → length (cond a (cond b (put_totals m (added (totals_in m) (row_of (view l)).counts)) m) m) ≡ 12
  size_in true true = length_puts total_widths (added (totals_in m) (row_of (view l)).counts) m 0 ∙ size
  size_in true false = size
  size_in false b = size

  pub totals_size : length (totals_after l k m) ≡ 12
  unfolding totals_after
  totals_size = size_in (lent_ok k m) (formed l)

  -- of a log that is read
  pub totals_read : k ≤ most_logs → totals_in (totals_after l k m) ≡ added_to (totals_in m) (as_met l)
  unfolding totals_after
  totals_read h = rw (lent ∙ le-leb k most_logs h) (put_in (formed l) refl h)

  pub totals_few : k ≤ most_logs → together (added_to (totals_in m) (as_met l)) ≤ slots * k
  totals_few h = omega (arith, more (formed l) refl)

  -- of one that is not
  pub totals_kept : leb k most_logs ≡ false → totals_after l k m ≡ m
  unfolding totals_after
  totals_kept h = rw (lent ∙ h)

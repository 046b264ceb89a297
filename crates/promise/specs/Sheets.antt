-- THE HANDOVER SHEET, on bytes (order 11; of states: machine's Sheet). No proof in it; proved in Sheeted. Assumes nothing.
use Rattle.std.specs.Prelude.{ℕ, suc, ◌≡◌, cond, List, [], ◌∷◌, map, replicate}
use Rattle.machine.specs.Sheet.{row_of, Met, refused, met, added, totals, together, kept_in}
use Rattle.image.specs.View.{view}
use Rattle.image.specs.Formed.{formed}
use Rattle.controller.specs.Tallies.{totals_in, given}
use Rattle.northbound.specs.Packing.{low, unpacked_read, unpacked_tally}
use Rattle.northbound.specs.Exports as north

-- ---- one log, in C: of its image l makowist_tally, with the totals m lent, answered p and left n, and makowist_drift answered x
pub record Tallied (l m : List ℕ) (p x : ℕ) (n : List ℕ) : Type 0 where
  -- accepted: the line of the state that the image shows, and the totals, as they are read, with its counts added
  pub line : low p ≡ 0 → unpacked_tally (unpacked_read x).value p ≡ given (row_of (view l))
  pub adds : low p ≡ 0 → totals_in n ≡ added (totals_in m) (row_of (view l)).counts
  -- refused: zeros behind the answer, and every byte of the totals is what it had been
  pub zeros : (low p ≡ 0 → ⊥) → p ≡ low p
  pub stays : (low p ≡ 0 → ⊥) → n ≡ m

-- ---- logs in turn, in C: from place k on, the first with the totals m, and each with those that the one before it left
pub data Reporting : (place : ℕ) → (totals : List ℕ) → (images : List (List ℕ)) → (replies totals : List ℕ) → Type 0 where
  none : {k : ℕ} {m : List ℕ} → Reporting k m [] [] m
  next : {k p : ℕ} {m m' n l : List ℕ} {ls : List (List ℕ)} {ps : List ℕ} → north.Tallies l k m p m' → Reporting (suc k) m' ls ps n → Reporting k m (l ∷ ls) (p ∷ ps) n

-- a log as the report meets it
abbrev pub met_in : List ℕ → Met
met_in l = cond (formed l) (met (view l)) refused

-- what the totals come to, behind the last of them
pub record Reported (ls : List (List ℕ)) (n : List ℕ) : Type 0 where
  pub totals : totals_in n ≡ totals (map met_in ls)
  -- together they are the kept transactions of the logs that are not refused
  pub kept : together (totals_in n) ≡ kept_in (map met_in ls)

abbrev pub cleared : List ℕ
cleared = replicate 12 0

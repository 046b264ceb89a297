-- The logs of an input in turn: what is put and what is added up to a place, and the rest of the text. Assumes nothing.
use Prim.Native.Nat.{ℕ, zero, suc, ◌+◌, ◌-◌, ◌*◌, ◌≤◌, ◌<◌, min}
use mathlib.Core.Path.{◌≡◌, refl, ap, ap₂, sym, subst, ◌∙◌}
use mathlib.Core.Logic.{◌⊎◌, inl, inr}
use mathlib.Core.Bool.{Bool, true, false}
use mathlib.Core.List.{List, [], ◌∷◌, ◌++◌, append_assoc, append-nil}
use native.Mathlib.Omega.{arith}
use borrow.Author.Tests.{leb-true, leb-false, ltb-true, ltb-false}
use lib.Dec.{leb, ltb}
use lib.ListN.{length, take, drop, replicate, length-append, drop_of_length-le}
use lib.Seq.{take_all, take_at, drop_at}
use Rattle.machine.specs.Sheet.{Met, none, totals_from, totals, together}
use Rattle.machine.proofs.Sheeted.{totals_together}
use Rattle.fields.specs.Field.{field, fields_at}
use Rattle.image.specs.Layout.{image_length, slots}
use Rattle.lines.specs.Replies.{totals_form, totals_line, sheet_room, Put, WrittenIn}
use Rattle.lines.proofs.Putting.{put_then, put_length, totals_short, filled_same, written_in, part_put}
use Rattle.controller.specs.Tallies.{totals_in, most_logs, tally_of, totals_after}
use Rattle.sheet.specs.SheetText.{logs_in, met_in, logs_read, line_at, lines_from, sheet_text, Sums}
use Rattle.sheet.specs.Reports.{PutsLog, PutsLogs, report_room, Reports}
use Rattle.sheet.proofs.Tallied.{line_short, line_is, totals_size, totals_read, totals_few, totals_kept}

-- ---- the logs of some bytes
pub logs_next : (n : ℕ) (bs : List ℕ) → 0 < length bs → logs_in (suc n) bs ≡ take image_length bs ∷ logs_in n (drop image_length bs)
unfolding logs_in
logs_next n [] h = absurd (omega arith)
logs_next n (b ∷ bs) h = refl

logs_none : (n : ℕ) (bs : List ℕ) → length bs ≡ 0 → logs_in n bs ≡ []
unfolding logs_in
logs_none zero bs h = refl
logs_none (suc n) [] h = refl
logs_none (suc n) (b ∷ bs) h = absurd (omega arith)

-- ---- a piece off the front
nil_of : (l : List ℕ) → length l ≡ 0 → l ≡ []
nil_of [] h = refl
nil_of (x ∷ l) h = absurd (omega arith)

piece_is : (k : ℕ) (rest piece left : List ℕ) → rest ≡ piece ++ left → length piece ≡ min k (length rest) → (piece ≡ take k rest) × (left ≡ drop k rest)
piece_is k rest piece left e n = by (ltb (length rest) k) refl
  where
    by : (b : Bool) → ltb (length rest) k ≡ b → (piece ≡ take k rest) × (left ≡ drop k rest)
    by true h =
        let f : length rest < k = ltb-true (length rest) k h in
        let z : left ≡ [] = nil_of left (omega (arith, n, f, ap length e, length-append piece left)) in (
          sym (append-nil piece) ∙ ap (λ (l : List ℕ). piece ++ l) (sym z) ∙ sym e ∙ sym (take_all k rest (omega (arith, f))),
          z ∙ sym (drop_of_length-le rest {i = k} (omega (arith, f))),
        )
    by false h =
        let m : length piece ≡ k = omega (arith, n, ltb-false (length rest) k h) in
        (sym (ap (take k) e ∙ take_at piece left k m), sym (ap (drop k) e ∙ drop_at piece left k m))

-- ---- up to a place
-- what is done, and that what is left of the input makes the rest
pub record Going (bs before rest : List ℕ) (place used : ℕ) (m out : List ℕ) : Type 0 where
  pub done : List ℕ
  pub put : Put before 0 done used out
  pub lines : done ++ lines_from place (logs_in (66 - place) rest) ≡ lines_from 1 (logs_in 65 bs)
  pub adds : totals_from (totals_in m) (met_in (logs_in (65 - place) rest)) ≡ totals (logs_read bs)
  pub few : together (totals_in m) ≤ slots * (place - 1)
  pub low : used + sheet_room ≤ sheet_room * place
  pub first : 1 ≤ place
  pub last : place ≤ 66
  pub size : length m ≡ 12

zeros_none : totals_in (replicate 12 0) ≡ none
unfolding fields_at field
zeros_none = refl

pub going_none : (bs out m : List ℕ) → m ≡ replicate 12 0 → Going bs out bs 1 0 m out
going_none bs out m e =
    let n : totals_in m ≡ none = ap totals_in e ∙ zeros_none in
    record {
      done = [];
      put = record { ends = refl; holds = refl };
      lines = refl;
      adds = ap (λ (ts : List ℕ). totals_from ts (met_in (logs_in 64 bs))) n;
      few = omega (arith, ap together n);
      low = omega arith;
      first = omega arith;
      last = omega arith;
      size = ap length e;
    }

module _ (bs before rest : List ℕ) (place used : ℕ) (m out : List ℕ) (x : Going bs before rest place used m out) (some : 0 < length rest) (g : place ≤ 65) where
  log : List ℕ
  log = take image_length rest

  -- the text's line for it, then the rest
  step : lines_from place (logs_in (66 - place) rest)
      ≡ line_at place log ++ lines_from (place + 1) (logs_in (66 - (place + 1)) (drop image_length rest))
  unfolding lines_from log
  step =
      let e : 66 - place ≡ suc (66 - (place + 1)) = omega arith in
      ap (λ (n : ℕ). lines_from place (logs_in n rest)) e
      ∙ ap (λ (ls : List (List ℕ)). lines_from place ls) (logs_next (66 - (place + 1)) rest some)

  -- the totals with it, then the rest
  adding : (b : Bool) → leb place most_logs ≡ b →
      totals_from (totals_in (totals_after log place m)) (met_in (logs_in (65 - (place + 1)) (drop image_length rest)))
      ≡ totals_from (totals_in m) (met_in (logs_in (65 - place) rest))
  unfolding totals_from met_in logs_in log
  adding true e =
      let k : place ≤ 64 = leb-true place 64 e in
      let n : 65 - place ≡ suc (65 - (place + 1)) = omega arith in
      ap (λ (ts : List ℕ). totals_from ts (met_in (logs_in (65 - (place + 1)) (drop image_length rest)))) (totals_read log place m x.first x.size x.few k)
      ∙ sym
      (ap (λ (i : ℕ). totals_from (totals_in m) (met_in (logs_in i rest))) n
      ∙ ap (λ (ls : List (List ℕ)). totals_from (totals_in m) (met_in ls)) (logs_next (65 - (place + 1)) rest some))
  adding false e =
      let k : 64 < place = leb-false place 64 e in
      let i : 65 - (place + 1) ≡ 0 = omega arith in
      let j : 65 - place ≡ 0 = omega arith in
      ap₂ (λ (ts : List ℕ) (n : ℕ). totals_from ts (met_in (logs_in n (drop image_length rest))))
      (ap totals_in (totals_kept log place m x.first x.size x.few e)) i
      ∙ sym (ap (λ (n : ℕ). totals_from (totals_in m) (met_in (logs_in n rest))) j)

  fewer : (b : Bool) → leb place most_logs ≡ b → together (totals_in (totals_after log place m)) ≤ slots * place
  fewer true e =
      let k : place ≤ 64 = leb-true place 64 e in
      omega (
        arith,
        ap together (totals_read log place m x.first x.size x.few k),
        totals_few log place m x.first x.size x.few k,
      )
  fewer false e = omega (arith, ap (λ (l : List ℕ). together (totals_in l)) (totals_kept log place m x.first x.size x.few e), x.few)

  put_next : (e : ℕ) (m' out' : List ℕ) → PutsLog log place m out used e m' out' → Going bs before (drop image_length rest) (place + 1) e m' out'
  put_next e m' out' p =
      let t = line_is log place m x.first x.size x.few in
      let q : Put out used (line_at place log) e out' = subst (λ (z : List ℕ). Put out used z e out') t p.0 in
      let s = line_short place (tally_of log place m) in
      let o : place + 1 - 1 ≡ place = omega arith in
      record {
        done = x.done ++ line_at place log;
        put = put_then x.put q;
        lines = append_assoc x.done (line_at place log) _ ∙ ap (λ (z : List ℕ). x.done ++ z) (sym step) ∙ x.lines;
        adds =
            ap (λ (z : List ℕ). totals_from (totals_in z) (met_in (logs_in (65 - (place + 1)) (drop image_length rest)))) p.1
            ∙ adding (leb place most_logs) refl ∙ x.adds;
        few = omega (arith, ap (λ (z : List ℕ). together (totals_in z)) p.1, fewer (leb place most_logs) refl);
        low = omega (arith, s, p.0.ends, x.low);
        first = omega arith;
        last = omega arith;
        size = ap length p.1 ∙ totals_size log place m x.first x.size x.few;
      }

  -- as the code cuts it
  pub going_more :
      (piece left : List ℕ) (next e : ℕ) (m' out' : List ℕ) → piece ≡ take image_length rest → left ≡ drop image_length rest → next ≡ place + 1
      → PutsLog piece place m out used e m' out' → Going bs before left next e m' out'
  unfolding log
  going_more piece left next e m' out' i j k p =
      rw (j, k) (put_next e m' out' (subst (λ (l : List ℕ). PutsLog l place m out used e m' out') i p))

-- ---- the last place
module _ (bs before rest : List ℕ) (place used : ℕ) (m out : List ℕ) (x : Going bs before rest place used m out) where
  ended : lines_from place (logs_in (66 - place) rest) ≡ [] → met_in (logs_in (65 - place) rest) ≡ [] → PutsLogs bs before used m out
  unfolding totals_from
  ended e f =
      record {
        puts = subst (λ (z : List ℕ). Put before 0 z used out) (sym (append-nil x.done) ∙ ap (λ (z : List ℕ). x.done ++ z) (sym e) ∙ x.lines) x.put;
        fits = omega (arith, x.low, x.last);
        adds = ap (λ (xs : List Met). totals_from (totals_in m) xs) (sym f) ∙ x.adds;
      }

  -- the input's end
  pub going_all : length rest ≡ 0 → PutsLogs bs before used m out
  unfolding lines_from met_in
  going_all z = ended (ap (λ (ls : List (List ℕ)). lines_from place ls) (logs_none (66 - place) rest z)) (ap met_in (logs_none (65 - place) rest z))

  -- behind the 65th log
  pub going_over : 65 < place → PutsLogs bs before used m out
  unfolding lines_from met_in logs_in
  going_over h =
      let i : 66 - place ≡ 0 = omega (arith, x.last) in
      let j : 65 - place ≡ 0 = omega (arith, x.last) in
      ended (ap (λ (n : ℕ). lines_from place (logs_in n rest)) i) (ap (λ (n : ℕ). met_in (logs_in n rest)) j)

-- ---- as the loop cuts the input, piece by piece, each with its place
module _ {bs before rest : List ℕ} {place used end : ℕ} {m out : List ℕ} (x : Going bs before rest place used m out) (stop : end ≡ 66) where
  pub cut_more :
      (piece left : List ℕ) (size : ℕ) {at next e : ℕ} {m' out' : List ℕ} → size ≡ image_length → rest ≡ piece ++ left → length piece ≡ min size (length rest)
      → 0 < length rest → 0 < end - place → at ≡ place → next ≡ place + 1 → PutsLog piece at m out used e m' out' → Going bs before left next e m' out'
  cut_more piece left size {at} {next} {e} {m'} {out'} f g h i j k n p =
      let z = piece_is image_length rest piece left g (h ∙ ap (λ (k : ℕ). min k (length rest)) f) in
      going_more bs before rest place used m out x i (omega (arith, stop, j)) piece left next e m' out' z.0 z.1 n
      (subst (λ (k : ℕ). PutsLog piece k m out used e m' out') k p)

  pub cut_fits : 0 < end - place → sheet_room * (most_logs + 1) ≤ length before → used + sheet_room ≤ length out
  cut_fits j h = omega (arith, stop, j, x.low, put_length x.put, h)

  -- no piece is left, or no place
  pub cut_all :
      {S T : Type 0} {P : S → Type 0} {Q : T → Type 0} → ((u : S) × P u) ⊎ ((u : T) × Q u) → ((u : S) → P u → length rest ≡ 0)
      → ((u : T) → Q u → end - place ≡ 0) → PutsLogs bs before used m out
  cut_all (inl y) f g = going_all bs before rest place used m out x (f y.0 y.1)
  cut_all (inr y) f g = going_over bs before rest place used m out x (omega (arith, stop, g y.0 y.1))

-- ---- the whole text
pub reported :
    (bs out : List ℕ) (used e : ℕ) (m mid after : List ℕ) → report_room ≤ length out → PutsLogs bs out used m mid →
    Put mid used (totals_line (totals_in m)) e after → Reports bs out e after
unfolding sheet_text
reported bs out used e m mid after h p q =
    let t : Put mid used (totals_line (totals (logs_read bs))) e after = subst (λ (ts : List ℕ). Put mid used (totals_line ts) e after) p.adds q in
    let s = totals_short (totals (logs_read bs)) in
    written_in report_room (put_then p.puts t) h (omega (arith, t.ends, s, p.fits))

-- six numbers, put as the last line
pub totals_put :
    (m out : List ℕ) (used size : ℕ) (ns rest : List ℕ) → ns ≡ totals_in m → used + 160 ≤ length out →
    WrittenIn sheet_room (take (used + 160 - used) (drop used out)) (totals_line ns) size rest →
    Put out used (totals_line (totals_in m)) (used + size) (take used out ++ (rest ++ drop (used + 160 - used) (drop used out)))
totals_put m out used size ns rest e h x =
    part_put sheet_room out used (totals_line (totals_in m)) (used + 160 - used) size rest (omega arith) h (filled_same totals_form e x)

pub totals_same :
    (m : List ℕ) {a b c d e f : ℕ} → a ≡ field m 0 2 → b ≡ field m 2 2 → c ≡ field m 4 2 → d ≡ field m 6 2 → e ≡ field m 8 2 → f ≡ field m 10 2 →
    (a ∷ b ∷ c ∷ d ∷ e ∷ f ∷ []) ≡ totals_in m
unfolding fields_at
totals_same m p q r s t u = rw (p, q, r, s, t, u)

-- ---- the last line
pub sheet_sums : (bs : List ℕ) → Sums bs
unfolding sheet_text
sheet_sums bs =
    record { lines = lines_from 1 (logs_in 65 bs); numbers = totals (logs_read bs); ends = refl; sums = totals_together (logs_read bs) }

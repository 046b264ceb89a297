-- The handover sheet, on bytes: what C is told of one log, and what the totals of logs in turn come to (order 11). Assumes nothing.
use Prim.Native.Nat.{ℕ, suc, ◌+◌, ◌-◌, ◌*◌, ◌≤◌}
use mathlib.Core.Path.{◌≡◌, refl, sym, ap, ◌∙◌}
use mathlib.Core.Bool.{Bool, true, false, cond}
use mathlib.Core.List.{List, [], ◌∷◌, map}
use native.Mathlib.Omega.{arith}
use borrow.Author.Tests.{le-leb, eq-eqb}
use lib.ListN.{length}
use Rattle.fields.specs.Field.{field, fields_at}
use Rattle.fields.proofs.Runs.{length_puts}
use Rattle.machine.specs.Sheet as sheet
use Rattle.machine.specs.Sheet.{mask_of, row_of, added, added_to, totals_from, totals, together}
use Rattle.machine.specs.Reads.{of_drift, read}
use Rattle.machine.proofs.Sheeted.{six_counts, together_added, totals_together}
use Rattle.image.specs.View.{view}
use Rattle.image.specs.Formed.{formed}
use Rattle.controller.specs.declared.reads.Read.{Read}
use Rattle.controller.specs.declared.tallies.Tally.{Tally}
use Rattle.controller.specs.Reads.{read_of}
use Rattle.controller.specs.Tallies.{total_widths, totals_in, put_totals, lent_ok, given, refuses, tally_of, totals_after, Fitting}
use Rattle.controller.proofs.Tallied.{may_lend, fits, read_back}
use Rattle.northbound.specs.Packing.{low, packed_tally, unpacked_read, unpacked_tally}
use Rattle.northbound.specs.Exports as north
use Rattle.promise.specs.Sheets.{Tallied, Reporting, none, next, met_in, Reported, cleared}

-- ---- one log
module _ (l : List ℕ) (k : ℕ) (m : List ℕ) where
  by_tests : (a b : Bool) → lent_ok k m ≡ a → formed l ≡ b → tally_of l k m ≡ cond a (cond b (given (row_of (view l))) (refuses 1)) (refuses 2)
  unfolding tally_of
  by_tests a b p q = rw (p, q)

  left_by : (a b : Bool) → lent_ok k m ≡ a → formed l ≡ b
      → totals_after l k m ≡ cond a (cond b (put_totals m (added (totals_in m) (row_of (view l)).counts)) m) m
  unfolding totals_after
  left_by a b p q = rw (p, q)

  -- totals that were taken have room
  taken_fits : lent_ok k m ≡ true → formed l ≡ true → Fitting m (row_of (view l)).counts
  taken_fits p q = fits l m true (sym q) (given (row_of (view l))) refl refl (may_lend k m true (sym p) refl)

  module _ (p x : ℕ) (n : List ℕ) (e : north.Tallies l k m p n) (d : north.Shows l of_drift x) where
    answered : (r : Tally) → tally_of l k m ≡ r → low p ≡ r.answer
    answered r q = ap (λ (y : Tally). y.answer) (e.0.1 ∙ q)

    mask_read : formed l ≡ true → (unpacked_read x).value ≡ mask_of (view l)
    unfolding read_of read
    mask_read f = ap (λ (y : Read). y.value) d.1 ∙ rw f

    not_taken : (r : Tally) (a : ℕ) → tally_of l k m ≡ refuses a → totals_after l k m ≡ m → (a ≡ 0 → ⊥) → Tallied l m p x n
    unfolding packed_tally
    not_taken r a q s z =
        let w : low p ≡ a = answered (refuses a) q in
        let y : p ≡ a = e.0.0 ∙ ap packed_tally q ∙ omega arith in
        record {
          line = λ g. absurd (z (sym w ∙ g));
          adds = λ g. absurd (z (sym w ∙ g));
          zeros = λ g. y ∙ sym w;
          stays = λ g. e.1 ∙ s;
        }

    pub tallied : Tallied l m p x n
    unfolding row_of
    tallied = go (lent_ok k m) (formed l) refl refl
      where
        go : (a b : Bool) → lent_ok k m ≡ a → formed l ≡ b → Tallied l m p x n
        go false b u v = not_taken (refuses 2) 2 (by_tests false b u v) (left_by false b u v) (λ z. omega arith)
        go true false u v = not_taken (refuses 1) 1 (by_tests true false u v) (left_by true false u v) (λ z. omega arith)
        go true true u v =
            let q = by_tests true true u v in
            let w : low p ≡ 0 = answered (given (row_of (view l))) q in
            record {
              line = λ g. ap (λ (y : ℕ). unpacked_tally y p) (mask_read v ∙ ap (λ (y : Tally). y.mask) (sym q)) ∙ e.0.1 ∙ q;
              adds = λ g. ap totals_in (e.1 ∙ left_by true true u v) ∙ read_back m (row_of (view l)).counts (taken_fits u v);
              zeros = λ g. absurd (g w);
              stays = λ g. absurd (g w);
            }

-- ---- logs in turn
-- the totals are lent as they are taken
lent : (k : ℕ) (m : List ℕ) → 1 ≤ k → k ≤ 64 → length m ≡ 12 → together (totals_in m) ≤ 128 * (k - 1) → lent_ok k m ≡ true
unfolding lent_ok
lent k m a b c d = rw (le-leb 1 k a, le-leb k 64 b, eq-eqb (length m) 12 c, le-leb _ _ d)

six_totals : (m : List ℕ) → length (totals_in m) ≡ 6
unfolding fields_at
six_totals m = refl

-- one log more
pub record Onward (k : ℕ) (l m m' : List ℕ) : Type 0 where
  pub size : length m' ≡ 12
  pub few : together (totals_in m') ≤ 128 * k
  pub same : totals_in m' ≡ added_to (totals_in m) (met_in l)

onward : (k p : ℕ) (l m m' : List ℕ) → 1 ≤ k → k ≤ 64 → length m ≡ 12 → together (totals_in m) ≤ 128 * (k - 1) → north.Tallies l k m p m' → Onward k l m m'
onward k p l m m' a b c d e = go (formed l) refl
  where
    o : lent_ok k m ≡ true
    o = lent k m a b c d

    go : (f : Bool) → formed l ≡ f → Onward k l m m'
    go false v =
        let z : m' ≡ m = e.1 ∙ left_by l k m true false o v in
        record { size = ap length z ∙ c; few = omega (arith, ap (λ (y : List ℕ). together (totals_in y)) z); same = ap totals_in z ∙ sym (rw v) }
    go true v =
        let cs = (row_of (view l)).counts in
        let w = taken_fits l k m o v in
        let z : m' ≡ put_totals m (added (totals_in m) cs) = e.1 ∙ left_by l k m true true o v in
        let s : totals_in m' ≡ added (totals_in m) cs = ap totals_in z ∙ read_back m cs w in
        let t : together (added (totals_in m) cs) ≡ together (totals_in m) + together cs = together_added (totals_in m) cs (omega (arith, six_totals m, six_counts (view l))) in
        record {
          size = ap length z ∙ length_puts total_widths (added (totals_in m) cs) m 0 ∙ c;
          few = omega (arith, ap together s, t, w.all);
          same = s ∙ sym (rw v);
        }

reports : (k : ℕ) (m : List ℕ) (ls : List (List ℕ)) (ps n : List ℕ) → Reporting k m ls ps n → 1 ≤ k → k + length ls ≤ 65 → length m ≡ 12 → together (totals_in m) ≤ 128 * (k - 1)
    → totals_in n ≡ totals_from (totals_in m) (map met_in ls)
unfolding totals_from
reports k m [] [] n none a b c d = refl
reports k m [] (p ∷ ps) n w a b c d = elim w [ ]
reports k m (l ∷ ls) [] n w a b c d = elim w [ ]
reports k m (l ∷ ls) (p ∷ ps) n (next {m' = m'} e w) a b c d =
    let s = onward k p l m m' a (omega arith) c d e in
    reports (suc k) m' ls ps n w (omega arith) (omega arith) s.size (let h = s.few in omega arith)
    ∙ ap (λ (y : List ℕ). totals_from y (map met_in ls)) s.same

cleared_none : totals_in cleared ≡ sheet.none
unfolding fields_at field
cleared_none = refl

pub reported : (ls : List (List ℕ)) (ps n : List ℕ) → length ls ≤ 64 → Reporting 1 cleared ls ps n → Reported ls n
reported ls ps n h w =
    let e : totals_in n ≡ totals (map met_in ls) =
    reports 1 cleared ls ps n w (omega arith) (omega arith) refl (omega (arith, ap together cleared_none))
    ∙ ap (λ (y : List ℕ). totals_from y (map met_in ls)) cleared_none in
    record { totals = e; kept = ap together e ∙ totals_together (map met_in ls) }

-- What `tally` makes of the bytes is a log's line, and totals with its counts added (order 11). Assumes nothing.
use Prim.Native.Nat.{ℕ, zero, suc, ◌+◌, ◌-◌, ◌*◌, ◌^◌, ◌≤◌, ◌<◌}
use mathlib.Core.Path.{◌≡◌, refl, sym, ap, ap₂, ◌∙◌, subst}
use mathlib.Core.Bool.{Bool, true, false, not, ◌&&◌, cond}
use mathlib.Core.List.{List, [], ◌∷◌, ◌++◌}
use native.Mathlib.Nat.{pow-suc, add-zero, zero-add, zero-mul, mul-one, mul_assoc, add-mul, one-mul, le-mul_of_pos_right}
use native.Mathlib.Omega.{arith}
use borrow.Author.Tests.{leb-true, eqb-true, eq-eqb, ne_eqb}
use lib.Count.{ones}
use lib.Dec.{eqb, leb}
use lib.ListN.{length, get_or, set}
use lib.Pow.{pow_pos}
use Rattle.kinds.specs.declared.Transaction.{Transaction}
use Rattle.machine.specs.Class.{class_of}
use Rattle.machine.specs.Differ.{differ}
use Rattle.machine.specs.Stores.{of_committed, of_applied}
use Rattle.machine.specs.Sheet.{counted, counts, mask_to, mask_of, row_of, added, together}
use Rattle.machine.specs.Reads.{of_drift, shows, read}
use Rattle.machine.proofs.Sheeted.{class_low, counts_all, counted_more, mask_low, mask_ones, six_counts, in_one_class}
use Rattle.fields.specs.Field.{field, fields_at, put_fields, twos}
use Rattle.fields.specs.Promises.{GetsFour, Gets, PutsFour, Puts}
use Rattle.fields.proofs.Runs.{Fit, puts_same}
use Rattle.image.specs.Layout.{slots, place_of, image_length, values_at}
use Rattle.image.specs.Records.{entry_at, last_of, folded_of}
use Rattle.image.specs.View.{up_to, up_from, table_of, view}
use Rattle.image.specs.Formed.{all_kept, entry_statuses_ok, statuses_ok, formed}
use Rattle.image.specs.Promises.{LoadsClass, LoadsValue}
use Rattle.image.proofs.UpTo.{and_left, and_right, kept_at, length_up_to, up_from_more}
use Rattle.image.proofs.Scanned.{view_kept, formed_codes, formed_room}
use Rattle.controller.specs.declared.tallies.Tally.{Tally}
use Rattle.controller.specs.Tallies.{total_widths, totals_in, put_totals, before, most_logs, lent_ok, given, refuses, tally_of, totals_after, Tallies, Lent, Reports, Fitting}
use Rattle.controller.proofs.Decided.{size}

-- ---- the totals that are lent
-- the six elements of an array of six
abbrev six : List ℕ → List ℕ
six l = get_or l 0 0 ∷ get_or l 1 0 ∷ get_or l 2 0 ∷ get_or l 3 0 ∷ get_or l 4 0 ∷ get_or l 5 0 ∷ []

six_all : (l : List ℕ) → length l ≡ 6 → l ≡ six l
six_all (a ∷ b ∷ d ∷ e ∷ f ∷ g ∷ []) h = refl
six_all [] h = absurd (omega arith)
six_all (a ∷ []) h = absurd (omega arith)
six_all (a ∷ b ∷ []) h = absurd (omega arith)
six_all (a ∷ b ∷ d ∷ []) h = absurd (omega arith)
six_all (a ∷ b ∷ d ∷ e ∷ []) h = absurd (omega arith)
six_all (a ∷ b ∷ d ∷ e ∷ f ∷ []) h = absurd (omega arith)
six_all (a ∷ b ∷ d ∷ e ∷ f ∷ g ∷ i ∷ l) h = absurd (omega arith)

-- none is more than all of them
pub at_most : (xs : List ℕ) (k : ℕ) → get_or xs k 0 ≤ together xs
at_most [] k = omega arith
at_most (x ∷ xs) zero = omega arith
at_most (x ∷ xs) (suc k) = omega (arith, at_most xs k)

-- what was read of them
module _ (m t : List ℕ) (y z : ℕ) (et : GetsFour m 0 twos t) (ey : Gets m 8 2 y) (ez : Gets m 10 2 z) where
  four_of : get_or t 0 0 + (get_or t 1 0 + (get_or t 2 0 + get_or t 3 0)) ≡ field m 0 2 + (field m 2 2 + (field m 4 2 + field m 6 2))
  unfolding fields_at
  four_of = rw et

  pub total_is : (a b c d e f : ℕ) → a ≡ get_or t 0 0 → b ≡ get_or t 1 0 → c ≡ get_or t 2 0 → d ≡ get_or t 3 0 → e ≡ y → f ≡ z
      → a + b + c + d + e + f ≡ together (totals_in m)
  unfolding fields_at
  total_is a b c d e f ea eb ec ed ee ef = omega (arith, four_of, ey, ez)

  -- each of them has room for a byte more
  pub record Rooms : Type 0 where
    pub first : get_or t 0 0 ≤ 8064
    pub second : get_or t 1 0 ≤ 8064
    pub third : get_or t 2 0 ≤ 8064
    pub fourth : get_or t 3 0 ≤ 8064
    pub fifth : y ≤ 8064
    pub sixth : z ≤ 8064

  pub rooms : (cs : List ℕ) → Fitting m cs → Rooms
  rooms cs w =
      let h = total_is _ _ _ _ _ _ refl refl refl refl refl refl in
      let k = w.lent.few in
      record {
        first = omega arith;
        second = omega arith;
        third = omega arith;
        fourth = omega arith;
        fifth = omega arith;
        sixth = omega arith;
      }

  pub adds : (cs : List ℕ) (a b c d e f : ℕ) (m1 m2 m3 : List ℕ) → Fitting m cs
      → a ≡ get_or cs 0 0 → b ≡ get_or cs 1 0 → c ≡ get_or cs 2 0 → d ≡ get_or cs 3 0 → e ≡ get_or cs 4 0 → f ≡ get_or cs 5 0
      → PutsFour m 0 twos ((get_or t 0 0 + a) ∷ (get_or t 1 0 + b) ∷ (get_or t 2 0 + c) ∷ (get_or t 3 0 + d) ∷ []) m1
      → Puts m1 8 2 (y + e) m2 → Puts m2 10 2 (z + f) m3 → m3 ≡ put_totals m (added (totals_in m) cs)
  unfolding fields_at put_fields
  adds cs a b c d e f m1 m2 m3 w ea eb ec ed ee ef p q r = rw (six_all cs w.six, r, q, p, et, ey, ez, ea, eb, ec, ed, ee, ef)

module _ (k : ℕ) (m : List ℕ) where
  -- out of range: the place, then the length
  pub no_place : (leb 1 k && leb k 64) ≡ false → false ≡ lent_ok k m
  unfolding lent_ok
  no_place e = rw e

  module _ (e : (leb 1 k && leb k 64) ≡ true) where
    pub no_totals : (length m ≡ 12 → ⊥) → false ≡ lent_ok k m
    unfolding lent_ok
    no_totals h = rw (e, ne_eqb (length m) 12 h)

    pub totals_told : length m ≡ 12 → (x y w : ℕ) (r : Bool) → w ≡ k - 1 → y ≡ 128 * w → x ≡ together (totals_in m) → r ≡ leb x y → r ≡ lent_ok k m
    unfolding lent_ok
    totals_told h x y w r ew ey ex er = er ∙ rw (e, eq-eqb (length m) 12 h, ex, ey, ew)

  pub may_lend : (b : Bool) → b ≡ lent_ok k m → b ≡ true → Lent m
  unfolding lent_ok
  may_lend b e t =
      let h : lent_ok k m ≡ true = sym e ∙ t in
      let p = leb-true k 64 (and_right (leb 1 k) _ (and_left (leb 1 k && leb k 64) _ h)) in
      let q = and_right (leb 1 k && leb k 64) _ h in
      let n = leb-true (together (totals_in m)) (before k) (and_right (eqb (length m) 12) _ q) in
      record { size = eqb-true (length m) 12 (and_left (eqb (length m) 12) _ q); few = omega arith }

-- ---- the classes
-- the statuses of a kept entry are in range
class_asks : (l : List ℕ) (b n i : ℕ) → formed l ≡ true → b ≡ folded_of l → n ≡ last_of l → b < i → i ≤ n → (1 ≤ i) × ((image_length ≤ length l) × (statuses_ok l (place_of i) ≡ true))
class_asks l b n i w eb en h k =
    let c : all_kept (entry_statuses_ok l) (folded_of l) (last_of l) ≡ true = and_left _ _ (and_right (leb (folded_of l) (last_of l)) _ (formed_codes l w)) in
    (omega arith, (size l w, kept_at (entry_statuses_ok l) (folded_of l) (last_of l) c i (omega arith) (omega arith)))

pub class_place : (l : List ℕ) (n c : ℕ) → LoadsClass l n c → (1 ≤ c) × (c ≤ 6)
class_place l n c e = let h = class_low (entry_at l n) in (omega (arith, e, h.0), omega (arith, e, h.1))

-- one more in a class
bump_at : (c a b d e f g : ℕ) → 1 ≤ c → c ≤ 6
    → set (a ∷ b ∷ d ∷ e ∷ f ∷ g ∷ []) (c - 1) (get_or (a ∷ b ∷ d ∷ e ∷ f ∷ g ∷ []) (c - 1) 0 + 1)
    ≡ (a + cond (eqb c 1) 1 0) ∷ (b + cond (eqb c 2) 1 0) ∷ (d + cond (eqb c 3) 1 0) ∷ (e + cond (eqb c 4) 1 0) ∷ (f + cond (eqb c 5) 1 0) ∷ (g + cond (eqb c 6) 1 0) ∷ []
bump_at zero a b d e f g h k = absurd (omega arith)
bump_at (suc zero) a b d e f g h k = simp add-zero
bump_at (suc (suc zero)) a b d e f g h k = simp add-zero
bump_at (suc (suc (suc zero))) a b d e f g h k = simp add-zero
bump_at (suc (suc (suc (suc zero)))) a b d e f g h k = simp add-zero
bump_at (suc (suc (suc (suc (suc zero))))) a b d e f g h k = simp add-zero
bump_at (suc (suc (suc (suc (suc (suc zero)))))) a b d e f g h k = simp add-zero
bump_at (suc (suc (suc (suc (suc (suc (suc c))))))) a b d e f g h k = absurd (omega arith)

bump : (ts : List Transaction) (t : Transaction) (c : ℕ) → c ≡ class_of t → set (counts ts) (c - 1) (get_or (counts ts) (c - 1) 0 + 1) ≡ counts (ts ++ (t ∷ []))
bump ts t c e =
    let h = class_low t in
    bump_at c _ _ _ _ _ _ (omega (arith, e, h.0)) (omega (arith, e, h.1))
    ∙ ap (λ (x : ℕ). (counted 1 ts + cond (eqb x 1) 1 0) ∷ (counted 2 ts + cond (eqb x 2) 1 0) ∷ (counted 3 ts + cond (eqb x 3) 1 0)
    ∷ (counted 4 ts + cond (eqb x 4) 1 0) ∷ (counted 5 ts + cond (eqb x 5) 1 0) ∷ (counted 6 ts + cond (eqb x 6) 1 0) ∷ []) e
    ∙ sym (rw (counted_more 1 ts t, counted_more 2 ts t, counted_more 3 ts t, counted_more 4 ts t, counted_more 5 ts t, counted_more 6 ts t))

-- the loop: those up to number i are counted
pub record Counting (l a : List ℕ) (i : ℕ) : Type 0 where
  pub kept : folded_of l ≤ i
  pub last : i ≤ last_of l
  pub same : a ≡ counts (up_from (entry_at l) (folded_of l) i)

module _ (l : List ℕ) (w : formed l ≡ true) where
  pub counting_none : (b : ℕ) → b ≡ folded_of l → Counting l (0 ∷ 0 ∷ 0 ∷ 0 ∷ 0 ∷ 0 ∷ []) b
  unfolding up_to counted
  counting_none b e =
      let z : b - folded_of l ≡ 0 = omega arith in
      let h = (formed_room l w).0 in
      record { kept = omega arith; last = omega arith; same = sym (ap (λ (x : ℕ). counts (up_to (λ j. entry_at l (folded_of l + j)) x)) z) }

  module _ (a : List ℕ) (i : ℕ) (q : Counting l a i) where
    pub counted_low : (k n : ℕ) → n ≡ last_of l → i < n → get_or a k 0 < 128
    counted_low k n en h =
        let ts = up_from (entry_at l) (folded_of l) i in
        let e : get_or a k 0 ≡ get_or (counts ts) k 0 = ap (λ (x : List ℕ). get_or x k 0) q.same in
        let z : length ts ≡ i - folded_of l = length_up_to (λ j. entry_at l (folded_of l + j)) (i - folded_of l) in
        omega (arith, e, z, at_most (counts ts) k, counts_all ts, (formed_room l w).1.0, q.kept)

    pub class_here : (b n : ℕ) → b ≡ folded_of l → n ≡ last_of l → i < n → (1 ≤ i + 1) × ((image_length ≤ length l) × (statuses_ok l (place_of (i + 1)) ≡ true))
    class_here b n eb en h = let k = q.kept in class_asks l b n (i + 1) w eb en (omega arith) (omega arith)

    pub counting_more : (n c : ℕ) → n ≡ last_of l → i < n → LoadsClass l (i + 1) c → Counting l (set a (c - 1) (get_or a (c - 1) 0 + 1)) (i + 1)
    counting_more n c en h e =
        let ts = up_from (entry_at l) (folded_of l) i in
        let k = q.kept in
        record {
          kept = omega arith;
          last = omega arith;
          same =
              ap (λ (x : List ℕ). set x (c - 1) (get_or x (c - 1) 0 + 1)) q.same
              ∙ bump ts (entry_at l (i + 1)) c e
              ∙ ap counts (sym (up_from_more (entry_at l) (folded_of l) i q.kept));
        }

    pub counting_done : (n : ℕ) → n ≡ last_of l → n ≤ i → a ≡ counts (view l).log.entries
    unfolding view
    counting_done n en h =
        let k = q.last in
        let z : i ≡ last_of l = omega arith in
        q.same ∙ ap (λ (x : ℕ). counts (up_from (entry_at l) (folded_of l) x)) z

-- ---- the mask
mask_nothing : (vs ws : List ℕ) → mask_to 0 vs ws ≡ 0
unfolding mask_to
mask_nothing vs ws = refl

mask_step : (k : ℕ) (vs ws : List ℕ) → mask_to (suc k) vs ws ≡ mask_to k vs ws + cond (not (eqb (get_or vs k 0) (get_or ws k 0))) (2 ^ k) 0
unfolding mask_to
mask_step k vs ws = refl

-- one path, by its two values
pub same_path : (mask x y : ℕ) → x ≡ y → 2 * mask ≡ 2 * mask + cond (eqb x y) 0 1
same_path mask x y e = rw (eq-eqb x y e) (sym (add-zero _))

pub other_path : (mask x y : ℕ) → (x ≡ y → ⊥) → 2 * mask + 1 ≡ 2 * mask + cond (eqb x y) 0 1
other_path mask x y n = rw (ne_eqb x y n)

-- the loop: of the paths from k on, what is left of the mask where those below k are shifted out
pub record Masking (l : List ℕ) (k mask : ℕ) : Type 0 where
  pub low : k ≤ 32
  pub same : mask * 2 ^ k + mask_to k (table_of l of_committed) (table_of l of_applied) ≡ mask_to 32 (table_of l of_committed) (table_of l of_applied)

pub masking_none : (l : List ℕ) → Masking l 32 0
masking_none l = record { low = omega arith; same = ap (λ (x : ℕ). x + mask_to 32 (table_of l of_committed) (table_of l of_applied)) (zero-mul (2 ^ 32)) ∙ zero-add _ }

module _ (l : List ℕ) (k mask : ℕ) (q : Masking l (suc k) mask) where
  twice : mask * 2 ^ suc k ≡ mask * 2 ^ k * 2
  twice = ap (λ (x : ℕ). mask * x) (pow-suc 2 k) ∙ sym (mul_assoc mask (2 ^ k) 2)

  mask_fits : mask < 2147483648
  mask_fits =
      let h : mask ≤ mask * 2 ^ k = le-mul_of_pos_right mask (pow_pos k) in
      omega (arith, h, twice, q.same, mask_low (table_of l of_committed) (table_of l of_applied) 32)

  -- one path more, by whether its values are equal
  mask_more : (b : Bool) (n : ℕ) → mask * 2 ^ suc k + (n + cond (not b) (2 ^ k) 0) ≡ mask_to 32 (table_of l of_committed) (table_of l of_applied)
      → (2 * mask + cond b 0 1) * 2 ^ k + n ≡ mask_to 32 (table_of l of_committed) (table_of l of_applied)
  mask_more true n h = ap (λ (x : ℕ). x * 2 ^ k + n) (add-zero (2 * mask)) ∙ omega (arith, h, twice, mul_assoc 2 mask (2 ^ k))
  mask_more false n h =
      ap (λ (x : ℕ). x + n) (add-mul (2 * mask) 1 (2 ^ k)) ∙ omega (arith, h, twice, mul_assoc 2 mask (2 ^ k), one-mul (2 ^ k))

  mask_next : (v w : ℕ) → LoadsValue l (values_at of_committed) k v → LoadsValue l (values_at of_applied) k w → Masking l k (2 * mask + cond (eqb v w) 0 1)
  unfolding table_of
  mask_next v w ev ew =
      let h = q.low in
      let n = mask_to k (table_of l of_committed) (table_of l of_applied) in
      let e = ap (λ (x : ℕ). mask * 2 ^ suc k + x) (sym (mask_step k (table_of l of_committed) (table_of l of_applied))) ∙ q.same in
      record {
        low = omega arith;
        same =
            ap (λ (b : Bool). (2 * mask + cond b 0 1) * 2 ^ k + n) (ap₂ (λ (x y : ℕ). eqb x y) ev ew)
            ∙ mask_more (eqb (get_or (table_of l of_committed) k 0) (get_or (table_of l of_applied) k 0)) n e;
      }

pub masking_room : (l : List ℕ) (k mask : ℕ) → Masking l k mask → 0 < k → mask < 2147483648
masking_room l zero mask q h = absurd (omega arith)
masking_room l (suc k) mask q h = mask_fits l k mask q

pub masking_more : (l : List ℕ) (k j mask v w r : ℕ) → Masking l k mask → 0 < k → j ≡ k - 1 → LoadsValue l (values_at of_committed) j v
    → LoadsValue l (values_at of_applied) j w → r ≡ 2 * mask + cond (eqb v w) 0 1 → Masking l j r
masking_more l zero j mask v w r q h e ev ew er = absurd (omega arith)
masking_more l (suc k) j mask v w r q h e ev ew er =
    let z : j ≡ k = omega (arith, e) in rw (er, z) (mask_next l k mask q v w (rw z at ev) (rw z at ew))

pub masking_done : (l : List ℕ) (k mask : ℕ) → Masking l k mask → k ≤ 0 → mask ≡ mask_of (view l)
unfolding view
masking_done l zero mask q h = omega (arith, q.same, mul-one mask, mask_nothing (table_of l of_committed) (table_of l of_applied))
masking_done l (suc k) mask q h = absurd (omega arith)

-- its ones are no more than there are paths
module _ (l : List ℕ) (mask : ℕ) (em : mask ≡ mask_of (view l)) where
  drift_is : ones mask ≡ differ 32 (view l).committed.values (view l).applied.values
  drift_is = ap ones em ∙ mask_ones (view l).committed.values (view l).applied.values 32

  -- ---- a log's line
  pub row_is : (cs : List ℕ) (drift : ℕ) → cs ≡ counts (view l).log.entries → drift ≡ ones mask
      → record { answer = 0; counts = cs; mask = mask; drift = drift } ≡ given (row_of (view l))
  unfolding row_of
  row_is cs drift ec ed = let d = ed ∙ drift_is in rw (ec, d, em)

  -- ---- the mask, as a read
  pub mask_shown : read (view l) of_drift ≡ shows mask
  unfolding read
  mask_shown = ap shows (sym em)

-- ---- the call
module _ (l m : List ℕ) (c : Bool) (ec : c ≡ formed l) (r : Tally) where
  pub not_formed : c ≡ false → r ≡ refuses 1 → Reports l m r m
  not_formed u e = let f : formed l ≡ false = sym ec ∙ u in (rw f e, rw f)

  module _ (u : c ≡ true) (er : r ≡ given (row_of (view l))) where
    pub fits : Lent m → Fitting m r.counts
    fits w =
        let e : r.counts ≡ (row_of (view l)).counts = ap (λ (x : Tally). x.counts) er in
        let s : together r.counts ≡ length (view l).log.entries = ap together e ∙ in_one_class (view l) in
        record { lent = w; six = ap length e ∙ six_counts (view l); all = omega (arith, s, view_kept l, (formed_room l (sym ec ∙ u)).1.0) }

    pub reported : (m' : List ℕ) → m' ≡ put_totals m (added (totals_in m) r.counts) → Reports l m r m'
    reported m' em =
        let f : formed l ≡ true = sym ec ∙ u in
        (rw f er, rw f (em ∙ ap (λ (x : Tally). put_totals m (added (totals_in m) x.counts)) er))

module _ (l : List ℕ) (k : ℕ) (m : List ℕ) (b : Bool) (eb : b ≡ lent_ok k m) (r : Tally) where
  pub not_lent : b ≡ false → r ≡ refuses 2 → Tallies l k m r m
  unfolding tally_of totals_after
  not_lent t e = let o : lent_ok k m ≡ false = sym eb ∙ t in (rw o e, rw o)

  pub tallied : (m' : List ℕ) → b ≡ true → Reports l m r m' → Tallies l k m r m'
  unfolding tally_of totals_after
  tallied m' t e = let o : lent_ok k m ≡ true = sym eb ∙ t in (rw o e.0, rw o e.1)

-- ---- the totals, read back
fits_six : (m cs : List ℕ) → together (totals_in m) ≤ before most_logs → together (six cs) ≤ slots → Fit total_widths (added (totals_in m) (six cs))
unfolding fields_at
fits_six m cs h k = (omega arith, (omega arith, (omega arith, (omega arith, (omega arith, (omega arith, tt))))))

pub read_back : (m cs : List ℕ) → Fitting m cs → totals_in (put_totals m (added (totals_in m) cs)) ≡ added (totals_in m) cs
read_back m cs w =
    let e = six_all cs w.six in
    let k : together (six cs) ≤ slots = omega (arith, w.all, ap together e) in
    puts_same total_widths (added (totals_in m) cs) m 0 (subst (λ (x : List ℕ). Fit total_widths (added (totals_in m) x)) (sym e) (fits_six m cs w.lent.few k)) (omega (arith, w.lent.size))

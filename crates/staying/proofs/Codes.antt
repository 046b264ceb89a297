-- Codes stay codes: a store that has room leaves the statuses of every entry and the flags in range. Assumes nothing.
use Prim.Native.Nat.{ℕ, ◌+◌, ◌*◌, ◌≤◌, ◌<◌}
use mathlib.Core.Path.{◌≡◌, refl, ap, sym, ◌∙◌, subst}
use mathlib.Core.Logic.{inl, inr}
use mathlib.Core.Bool.{Bool, true, false, ◌&&◌, cond}
use mathlib.Core.List.{List, [], ◌∷◌}
use native.Mathlib.Omega.{arith}
use borrow.Author.Tests.{eqb-true, eqb-false, le-leb, ltb-true, ltb-false}
use lib.Dec.{eqb, leb, ltb}
use lib.ListN.{length, get_or}
use Rattle.kinds.specs.declared.Transaction.{Transaction}
use Rattle.kinds.specs.declared.Connection.{Connection}
use Rattle.kinds.specs.declared.Configuration.{Configuration}
use Rattle.kinds.specs.declared.Mastership.{Mastership}
use Rattle.kinds.specs.declared.Target.{Target}
use Rattle.kinds.specs.Statuses.{progress_code}
use Rattle.machine.specs.State.{never}
use Rattle.fields.specs.Field.{field, put_field, fields_at, put_fields, total}
use Rattle.fields.proofs.Laws.{Outside, put_outside}
use Rattle.fields.proofs.Runs.{Fit, puts_outside, puts_same, fields_kept}
use Rattle.machine.proofs.Entries.{and_both}
use Rattle.machine.specs.Stores.{Table, of_committed, of_applied, of_target, of_base, of_owners, Store, grow, entry, fold, change, committed_head, applied_head, value, target_values, configuration, mastership, connections, target}
use Rattle.image.specs.Packed.{highest_packed}
use Rattle.image.specs.Layout.{entry_widths, head_widths, table_widths, configuration_widths, mastership_widths, target_widths, connections_widths, place_of, last_at, change_at, committed_at, applied_at, values_at, configuration_at, mastership_at, target_at, connections_at, folded_at, image_length, slots, highest, stride, value_size, table_length, connections_size, number_size}
use Rattle.image.specs.Records.{flag_code, entry_numbers, put_entry_at, last_of, folded_of, head_numbers, put_head_at, configuration_numbers, put_configuration, mastership_numbers, put_mastership, target_numbers, put_target, connections_numbers, eight, put_connections}
use Rattle.image.specs.View.{write, written}
use Rattle.image.specs.Formed.{all_kept, statuses_ok, entry_statuses_ok, flags_ok, codes_ok}
use Rattle.image.proofs.UpTo.{and_left, and_right, kept_at, kept_from}
use Rattle.image.proofs.Kept.{Apart, statuses_kept, last_kept, folded_kept}
use Rattle.image.proofs.Scanned.{Room}
use Rattle.image.proofs.Packed.{packed_low}
use Rattle.image.proofs.Sized.{SizedEntry, SizedConnections, progress_low, flag_low, entry_room_holds, configuration_room, target_room, connections_room, eight_all}
use Rattle.image.proofs.Shown.{Fits, FitsAll, entries_apart, entry_outside, grow_outside, length_write, ends_write, room_write, rest_fits}

-- ---- the flags, in the three runs where they lie
abbrev pub state_ok : List ℕ → Bool
state_ok g = leb 1 (get_or g 0 0) && leb (get_or g 0 0) 3

abbrev pub running_ok : List ℕ → Bool
running_ok t = leb (get_or t 1 0) 1 && leb (get_or t 2 0) 1

abbrev pub nodes_ok : List ℕ → Bool
nodes_ok x =
    (leb (get_or x 1 0) 1 && (leb (get_or x 3 0) 1 && (leb (get_or x 5 0) 1 && leb (get_or x 7 0) 1)))
    && (leb (get_or x 9 0) 1 && (leb (get_or x 11 0) 1 && (leb (get_or x 13 0) 1 && leb (get_or x 15 0) 1)))

abbrev pub state_run : List ℕ → List ℕ
state_run l = fields_at l configuration_at configuration_widths

abbrev pub target_run : List ℕ → List ℕ
target_run l = fields_at l target_at target_widths

abbrev pub nodes_run : List ℕ → List ℕ
nodes_run l = fields_at l connections_at connections_widths

flags_are : (l : List ℕ) → flags_ok l ≡ (state_ok (state_run l) && (running_ok (target_run l) && nodes_ok (nodes_run l)))
unfolding flags_ok fields_at
flags_are l = refl

-- each of them, anew
state_ok_holds : (g : Configuration) → state_ok (configuration_numbers g) ≡ true
state_ok_holds g = and_both (leb 1 (progress_code g.state)) (leb (progress_code g.state) 3) (le-leb _ _ (progress_low g.state).0) (le-leb _ _ (progress_low g.state).1)

running_ok_holds : (t : Target) → running_ok (target_numbers t) ≡ true
running_ok_holds t =
    and_both (leb (flag_code t.running) 1) (leb (flag_code t.remembers) 1) (le-leb _ _ (flag_low t.running)) (le-leb _ _ (flag_low t.remembers))

nodes_ok_holds : (xs : List Connection) → nodes_ok (connections_numbers (eight xs)) ≡ true
nodes_ok_holds xs = rw (low 0, low 1, low 2, low 3, low 4, low 5, low 6, low 7)
  where
    low : (k : ℕ) → leb (flag_code (get_or xs k never).connected) 1 ≡ true
    low k = le-leb _ 1 (flag_low (get_or xs k never).connected)

-- ---- the statuses of an entry that was stored
stored_statuses : (m : List ℕ) (at : ℕ) (t : Transaction) → fields_at m at entry_widths ≡ entry_numbers t → statuses_ok m at ≡ true
unfolding statuses_ok fields_at
stored_statuses m at t q = ap (λ (x : List ℕ). leb (get_or x 0 0) highest_packed) q ∙ le-leb _ _ (packed_low t)

-- ---- an image of which the codes are codes
pub record Codes (l : List ℕ) : Type 0 where
  pub entries : (k : ℕ) → folded_of l < k → k ≤ last_of l → statuses_ok l (place_of k) ≡ true
  pub state : state_ok (state_run l) ≡ true
  pub running : running_ok (target_run l) ≡ true
  pub nodes : nodes_ok (nodes_run l) ≡ true

pub codes : (l : List ℕ) → codes_ok l ≡ true → Codes l
codes l h =
    let g : (all_kept (entry_statuses_ok l) (folded_of l) (last_of l) && flags_ok l) ≡ true = and_right (leb (folded_of l) (last_of l)) _ h in
    let e : (state_ok (state_run l) && (running_ok (target_run l) && nodes_ok (nodes_run l))) ≡ true =
    sym (flags_are l) ∙ and_right (all_kept (entry_statuses_ok l) (folded_of l) (last_of l)) (flags_ok l) g in
    let r : (running_ok (target_run l) && nodes_ok (nodes_run l)) ≡ true = and_right (state_ok (state_run l)) _ e in
    record {
      entries = kept_at (entry_statuses_ok l) (folded_of l) (last_of l) (and_left (all_kept (entry_statuses_ok l) (folded_of l) (last_of l)) (flags_ok l) g);
      state = and_left (state_ok (state_run l)) _ e;
      running = and_left (running_ok (target_run l)) _ r;
      nodes = and_right (running_ok (target_run l)) _ r;
    }

pub codes_ok_holds : (l : List ℕ) → folded_of l ≤ last_of l → Codes l → codes_ok l ≡ true
codes_ok_holds l f c =
    and_both (leb (folded_of l) (last_of l)) _ (le-leb _ _ f)
    (and_both (all_kept (entry_statuses_ok l) (folded_of l) (last_of l)) (flags_ok l) (kept_from (entry_statuses_ok l) (folded_of l) (last_of l) c.entries)
    (flags_are l ∙ and_both (state_ok (state_run l)) _ c.state (and_both (running_ok (target_run l)) (nodes_ok (nodes_run l)) c.running c.nodes)))

-- ---- what a store changes, from a to below e
module _ (l m : List ℕ) (a e : ℕ) (o : Outside l m a e) (c : Codes l) where
  same_state : Apart a e configuration_at 5 → state_ok (state_run m) ≡ true
  same_state h = ap (λ (x : List ℕ). state_ok x) (fields_kept l m a e o configuration_widths configuration_at h) ∙ c.state

  same_running : Apart a e target_at 6 → running_ok (target_run m) ≡ true
  same_running h = ap (λ (x : List ℕ). running_ok x) (fields_kept l m a e o target_widths target_at h) ∙ c.running

  same_nodes : Apart a e connections_at connections_size → nodes_ok (nodes_run m) ≡ true
  same_nodes h = ap (λ (x : List ℕ). nodes_ok x) (fields_kept l m a e o connections_widths connections_at h) ∙ c.nodes

  -- before the flags
  below : ((k : ℕ) → folded_of m < k → k ≤ last_of m → statuses_ok m (place_of k) ≡ true) → e ≤ configuration_at → Codes m
  below h q = record { entries = h; state = same_state (inr (omega arith)); running = same_running (inr (omega arith)); nodes = same_nodes (inr (omega arith)) }

  -- past them
  above : ((k : ℕ) → folded_of m < k → k ≤ last_of m → statuses_ok m (place_of k) ≡ true) → folded_at ≤ a → Codes m
  above h q = record { entries = h; state = same_state (inl (omega arith)); running = same_running (inl (omega arith)); nodes = same_nodes (inl (omega arith)) }

  -- past the ring, where no number is kept that was not
  same_statuses : change_at ≤ a → folded_of l ≤ folded_of m → (k : ℕ) → folded_of m < k → k ≤ last_of m → statuses_ok m (place_of k) ≡ true
  same_statuses p g k x y =
      let n : last_of m ≡ last_of l = last_kept l m a e o (inl p) in statuses_kept l m a e o k (inl (omega arith)) ∙ c.entries k (omega arith) (omega arith)

  same_fold : e ≤ folded_at → folded_of l ≤ folded_of m
  same_fold h = omega (arith, folded_kept l m a e o (inr h))

module _ (l : List ℕ) (z : length l ≡ image_length) (f : Room (folded_of l) (last_of l)) (c : Codes l) where
  -- ---- entries
  stored : (i : ℕ) (t : Transaction) → SizedEntry t → statuses_ok (put_entry_at l i t) (place_of i) ≡ true
  unfolding put_entry_at
  stored i t h = stored_statuses _ (place_of i) t (puts_same entry_widths (entry_numbers t) l (place_of i) (entry_room_holds t h) (omega arith))

  -- another kept number's
  others : (i : ℕ) (t : Transaction) → folded_of l < i → i ≤ folded_of l + slots → (k : ℕ) → folded_of l < k → k ≤ last_of l → (k ≡ i → ⊥)
      → statuses_ok (put_entry_at l i t) (place_of k) ≡ true
  others i t p q k u v d =
      statuses_kept l (put_entry_at l i t) _ _ (entry_outside l z f i t) k (entries_apart (folded_of l) i k p q u (omega (arith, f.1.0)) d) ∙ c.entries k u v

  entry_codes : (i : ℕ) (t : Transaction) → SizedEntry t → (folded_of l < i) × (i ≤ last_of l) → Codes (put_entry_at l i t)
  entry_codes i t h b =
      let m = put_entry_at l i t in
      let o : Outside l m (place_of i) (place_of i + stride) = entry_outside l z f i t in
      let x : place_of i + stride ≤ last_at = omega arith in
      let n : last_of m ≡ last_of l = last_kept l m _ _ o (inr x) in
      let g : folded_of m ≡ folded_of l = folded_kept l m _ _ o (inr (omega arith)) in
      below l m _ _ o c (λ k p q. go k (omega arith) (omega arith) (eqb k i) refl) (omega arith)
    where
      go : (k : ℕ) → folded_of l < k → k ≤ last_of l → (x : Bool) → eqb k i ≡ x → statuses_ok (put_entry_at l i t) (place_of k) ≡ true
      go k p q true e = subst (λ (x : ℕ). statuses_ok (put_entry_at l i t) (place_of x) ≡ true) (sym (eqb-true k i e)) (stored i t h)
      go k p q false e = others i t b.0 (omega (arith, b.1, f.1.0)) k p q (eqb-false k i e)

  grow_codes : (t : Transaction) → SizedEntry t → (last_of l < folded_of l + slots) × (last_of l < highest)
      → Codes (put_field (put_entry_at l (last_of l + 1) t) last_at number_size (last_of l + 1))
  unfolding write
  grow_codes t h b =
      let n = last_of l in
      let l1 = put_entry_at l (n + 1) t in
      let m = put_field l1 last_at number_size (n + 1) in
      let w = ends_write l z f (grow t) (h, b) in
      below l m _ _ (grow_outside l z f t) c (λ k p q. go k (omega (arith, w.0)) (omega (arith, w.1)) (ltb k (n + 1)) refl) (omega arith)
    where
      up : (k : ℕ) → statuses_ok (put_field (put_entry_at l (last_of l + 1) t) last_at number_size (last_of l + 1)) (place_of k) ≡ statuses_ok (put_entry_at l (last_of l + 1) t) (place_of k)
      up k =
          statuses_kept (put_entry_at l (last_of l + 1) t) _ last_at change_at (put_outside number_size (put_entry_at l (last_of l + 1) t) last_at (last_of l + 1)) k (inl (omega arith))

      go : (k : ℕ) → folded_of l < k → k ≤ last_of l + 1 → (x : Bool) → ltb k (last_of l + 1) ≡ x
          → statuses_ok (put_field (put_entry_at l (last_of l + 1) t) last_at number_size (last_of l + 1)) (place_of k) ≡ true
      go k p q true e =
          let d : k < last_of l + 1 = ltb-true k (last_of l + 1) e in
          up k ∙ others (last_of l + 1) t (omega (arith, f.0)) (omega (arith, b.0)) k p (omega arith) (λ y. absurd (omega arith))
      go k p q false e =
          let d : last_of l + 1 ≡ k = omega (arith, ltb-false k (last_of l + 1) e) in
          up k ∙ subst (λ (x : ℕ). statuses_ok (put_entry_at l (last_of l + 1) t) (place_of x) ≡ true) d (stored (last_of l + 1) t h)

  -- ---- the last fold: fewer are kept
  fold_codes : (b : ℕ) → (folded_of l ≤ b) × (b ≤ last_of l) → folded_of (put_field l folded_at number_size b) ≡ b → Codes (put_field l folded_at number_size b)
  fold_codes b h g =
      let o : Outside l (put_field l folded_at number_size b) folded_at (values_at of_base) = put_outside number_size l folded_at b in
      above l _ _ _ o c (same_statuses l _ _ _ o c (omega arith) (omega (arith, h.0))) (omega arith)

  base_codes : (p v : ℕ) → p < table_length → Codes (put_field l (values_at of_base + value_size * p) value_size v)
  base_codes p v h =
      let o : Outside l (put_field l (values_at of_base + value_size * p) value_size v) (values_at of_base + value_size * p) (values_at of_base + value_size * p + value_size) = put_outside value_size l (values_at of_base + value_size * p) v in
      let g : folded_of (put_field l (values_at of_base + value_size * p) value_size v) ≡ folded_of l = folded_kept l _ _ _ o (inl (omega arith)) in
      above l _ _ _ o c (same_statuses l _ _ _ o c (omega arith) (omega arith)) (omega arith)

  -- ---- past the log
  put_codes : (at x : ℕ) → change_at ≤ at → at + number_size ≤ configuration_at → Codes (put_field l at number_size x)
  put_codes at x p q = let o : Outside l (put_field l at number_size x) at (at + number_size) = put_outside number_size l at x in below l _ _ _ o c (same_statuses l _ _ _ o c p (same_fold l _ _ _ o c (omega arith))) q

  puts_codes : (ws xs : List ℕ) (at : ℕ) → change_at ≤ at → at + total ws ≤ configuration_at → Codes (put_fields l at ws xs)
  puts_codes ws xs at p q =
      let o : Outside l (put_fields l at ws xs) at (at + total ws) = puts_outside ws xs l at in below l _ _ _ o c (same_statuses l _ _ _ o c p (same_fold l _ _ _ o c (omega arith))) q

  value_codes : (x : Bool) (b : Table) (p v : ℕ) → ltb p table_length ≡ x → Codes (cond x (put_field l (values_at b + value_size * p) value_size v) l)
  value_codes true of_committed p v e = put_codes _ v (omega arith) (omega (arith, ltb-true p table_length e))
  value_codes true of_owners p v e = put_codes _ v (omega arith) (omega (arith, ltb-true p table_length e))
  value_codes true of_applied p v e = put_codes _ v (omega arith) (omega (arith, ltb-true p table_length e))
  value_codes true of_target p v e = put_codes _ v (omega arith) (omega (arith, ltb-true p table_length e))
  value_codes true of_base p v e = base_codes p v (ltb-true p table_length e)
  value_codes false b p v e = c

  configuration_codes : (g : Configuration) → g.term.0 < 4294967296 → Codes (put_configuration l g)
  unfolding put_configuration
  configuration_codes g h =
      let m = put_fields l configuration_at configuration_widths (configuration_numbers g) in
      let o : Outside l m configuration_at mastership_at = puts_outside configuration_widths (configuration_numbers g) l configuration_at in
      record {
        entries = same_statuses l m _ _ o c (omega arith) (same_fold l m _ _ o c (omega arith));
        state = ap (λ (x : List ℕ). state_ok x) (puts_same configuration_widths (configuration_numbers g) l configuration_at (configuration_room g h) (omega arith)) ∙ state_ok_holds g;
        running = same_running l m _ _ o c (inr (omega arith));
        nodes = same_nodes l m _ _ o c (inr (omega arith));
      }

  mastership_codes : (x : Mastership) → Codes (put_mastership l x)
  unfolding put_mastership
  mastership_codes x =
      let m = put_fields l mastership_at mastership_widths (mastership_numbers x) in
      let o : Outside l m mastership_at target_at = puts_outside mastership_widths (mastership_numbers x) l mastership_at in
      record {
        entries = same_statuses l m _ _ o c (omega arith) (same_fold l m _ _ o c (omega arith));
        state = same_state l m _ _ o c (inl (omega arith));
        running = same_running l m _ _ o c (inr (omega arith));
        nodes = same_nodes l m _ _ o c (inr (omega arith));
      }

  target_codes : (t : Target) → t.id < 4294967296 → Codes (put_target l t)
  unfolding put_target
  target_codes t h =
      let m = put_fields l target_at target_widths (target_numbers t) in
      let o : Outside l m target_at connections_at = puts_outside target_widths (target_numbers t) l target_at in
      record {
        entries = same_statuses l m _ _ o c (omega arith) (same_fold l m _ _ o c (omega arith));
        state = same_state l m _ _ o c (inl (omega arith));
        running = ap (λ (x : List ℕ). running_ok x) (puts_same target_widths (target_numbers t) l target_at (target_room t h) (omega arith)) ∙ running_ok_holds t;
        nodes = same_nodes l m _ _ o c (inr (omega arith));
      }

  nodes_codes : (xs : List Connection) → SizedConnections xs → Codes (put_connections l xs)
  unfolding put_connections
  nodes_codes xs h =
      let ns = connections_numbers (eight xs) in
      let m = put_fields l connections_at connections_widths ns in
      let o : Outside l m connections_at (connections_at + connections_size) = puts_outside connections_widths ns l connections_at in
      let r : Fit connections_widths ns = subst (λ (y : List Connection). Fit connections_widths (connections_numbers y)) (eight_all xs h.size) (connections_room xs h) in
      record {
        entries = same_statuses l m _ _ o c (omega arith) (same_fold l m _ _ o c (omega arith));
        state = same_state l m _ _ o c (inl (omega arith));
        running = same_running l m _ _ o c (inl (omega arith));
        nodes = ap (λ (x : List ℕ). nodes_ok x) (puts_same connections_widths ns l connections_at r (omega arith)) ∙ nodes_ok_holds xs;
      }

  -- ---- any store
  pub write_codes : (e : Store) → Fits (folded_of l) (last_of l) e → Codes (write l e)
  unfolding write put_head_at
  write_codes (grow t) h = grow_codes t h.0 h.1
  write_codes (entry i t) h = entry_codes i t h.0 h.1
  write_codes (fold b) h = fold_codes b.0 h (ends_write l z f (fold b) h).0
  write_codes (change n) h = put_codes change_at n.0 (omega arith) (omega arith)
  write_codes (committed_head k) h = puts_codes head_widths (head_numbers k) committed_at (omega arith) (omega arith)
  write_codes (applied_head k) h = puts_codes head_widths (head_numbers k) applied_at (omega arith) (omega arith)
  write_codes (value b p v) h = value_codes (ltb p table_length) b p v refl
  write_codes (target_values vs) h = puts_codes table_widths vs (values_at of_target) (omega arith) (omega arith)
  write_codes (configuration g) h = configuration_codes g h
  write_codes (mastership m) h = mastership_codes m
  write_codes (connections xs) h = nodes_codes xs h
  write_codes (target t) h = target_codes t h

-- ---- any row of stores
pub codes_written : (es : List Store) (l : List ℕ) → length l ≡ image_length → Room (folded_of l) (last_of l) → FitsAll (folded_of l) (last_of l) es → Codes l
    → Codes (written l es) × Room (folded_of (written l es)) (last_of (written l es))
unfolding written
codes_written [] l z f h c = (c, f)
codes_written (e ∷ es) l z f h c =
    codes_written es (write l e) (length_write l z f e) (room_write l z f e h.0) (rest_fits l z f e es h) (write_codes l z f c e h.0)

-- Slots of no number kept, and what a row of stores leaves of them: it changes the slots of the numbers that it stores, and no
-- other byte of the ring. Assumes nothing.
use Prim.Native.Nat.{ℕ, ◌+◌, ◌*◌, ◌≤◌, ◌<◌}
use mathlib.Core.Path.{◌≡◌, refl, ◌∙◌}
use mathlib.Core.Logic.{◌⊎◌, inl}
use mathlib.Core.Bool.{Bool, true, false, cond}
use mathlib.Core.List.{List, [], ◌∷◌}
use native.Mathlib.Omega.{arith}
use lib.Dec.{ltb}
use lib.ListN.{length, get_or}
use Rattle.kinds.specs.declared.Transaction.{Transaction}
use Rattle.fields.specs.Field.{put_field, put_fields}
use Rattle.fields.proofs.Laws.{put_outside}
use Rattle.fields.proofs.Runs.{puts_outside}
use Rattle.machine.specs.Stores.{Table, of_committed, of_applied, of_target, of_base, of_owners, Store, grow, entry, fold, change, committed_head, applied_head, value, target_values, configuration, mastership, connections, target}
use Rattle.image.specs.Layout.{entry_widths, head_widths, table_widths, configuration_widths, mastership_widths, target_widths, connections_widths, place_of, last_at, change_at, committed_at, applied_at, values_at, configuration_at, mastership_at, target_at, connections_at, folded_at, image_length, stride, value_size, table_length, number_size}
use Rattle.image.specs.Records.{entry_numbers, put_entry_at, last_of, folded_of, head_numbers, put_head_at, configuration_numbers, put_configuration, mastership_numbers, put_mastership, target_numbers, put_target, connections_numbers, eight, put_connections}
use Rattle.image.specs.View.{write, written}
use Rattle.image.proofs.Scanned.{Room}
use Rattle.image.proofs.Shown.{Fits, FitsAll, last_after, length_write, ends_write, room_write, rest_fits}
use Rattle.staying.proofs.Rooms.{Still, Stills, none, more}

-- a byte in use, where b is the last fold and n the highest number: past the ring, or of the entry of a number kept
pub data Used (b n j : ℕ) : Type 0 where
  past : last_at ≤ j → Used b n j
  slot : (k : ℕ) → b < k → k ≤ n → place_of k ≤ j → j < place_of k + stride → Used b n j

-- ---- the highest number does not fall
last_after_holds : (n : ℕ) (e : Store) → n ≤ last_after n e
last_after_holds n (grow t) = omega arith
last_after_holds n (entry i t) = omega arith
last_after_holds n (fold k) = omega arith
last_after_holds n (change k) = omega arith
last_after_holds n (committed_head h) = omega arith
last_after_holds n (applied_head h) = omega arith
last_after_holds n (value c p v) = omega arith
last_after_holds n (target_values vs) = omega arith
last_after_holds n (configuration g) = omega arith
last_after_holds n (mastership m) = omega arith
last_after_holds n (connections xs) = omega arith
last_after_holds n (target t) = omega arith

pub last_rises : (es : List Store) (l : List ℕ) → length l ≡ image_length → Room (folded_of l) (last_of l) → FitsAll (folded_of l) (last_of l) es → last_of l ≤ last_of (written l es)
unfolding written
last_rises [] l z f h = omega arith
last_rises (e ∷ es) l z f h =
    let x = (ends_write l z f e h.0).1 in
    let y = last_after_holds (last_of l) e in
    let k = last_rises es (write l e) (length_write l z f e) (room_write l z f e h.0) (rest_fits l z f e es h) in
    omega (arith, x, y, k)

-- ---- not changed: a byte of no entry kept
abbrev pub Free : ℕ → ℕ → ℕ → Type 0
Free b n j = (k : ℕ) → b < k → k ≤ n → (j < place_of k) ⊎ (place_of k + stride ≤ j)

module _ (j : ℕ) (q : j < last_at) where
  pub put_past : (l : List ℕ) (at w x : ℕ) → last_at ≤ at → get_or (put_field l at w x) j 0 ≡ get_or l j 0
  put_past l at w x h = put_outside w l at x j (inl (omega arith))

  puts_past : (l ws xs : List ℕ) (at : ℕ) → last_at ≤ at → get_or (put_fields l at ws xs) j 0 ≡ get_or l j 0
  puts_past l ws xs at h = puts_outside ws xs l at j (inl (omega arith))

  value_past : (l : List ℕ) (x : Bool) (at v : ℕ) → last_at ≤ at → get_or (cond x (put_field l at value_size v) l) j 0 ≡ get_or l j 0
  value_past l true at v h = put_past l at value_size v h
  value_past l false at v h = refl

  table_past : (t : Table) (p : ℕ) → last_at ≤ values_at t + value_size * p
  table_past of_committed p = omega arith
  table_past of_applied p = omega arith
  table_past of_target p = omega arith
  table_past of_base p = omega arith
  table_past of_owners p = omega arith

  module _ (b n : ℕ) (free : Free b n j) where
    write_unused : (l : List ℕ) (e : Store) → Still b n e → get_or (write l e) j 0 ≡ get_or l j 0
    unfolding write put_entry_at put_head_at put_configuration put_mastership put_connections put_target
    write_unused l (grow t) h = absurd (omega (arith, h.last))
    write_unused l (entry i t) h = puts_outside entry_widths (entry_numbers t) l (place_of i) j (free i h.fits.1.0 h.fits.1.1)
    write_unused l (fold k) h = put_past l folded_at number_size k.0 (omega arith)
    write_unused l (change k) h = put_past l change_at number_size k.0 (omega arith)
    write_unused l (committed_head k) h = puts_past l head_widths (head_numbers k) committed_at (omega arith)
    write_unused l (applied_head k) h = puts_past l head_widths (head_numbers k) applied_at (omega arith)
    write_unused l (value t p v) h = value_past l (ltb p table_length) (values_at t + value_size * p) v (table_past t p)
    write_unused l (target_values vs) h = puts_past l table_widths vs (values_at of_target) (omega arith)
    write_unused l (configuration g) h = puts_past l configuration_widths (configuration_numbers g) configuration_at (omega arith)
    write_unused l (mastership x) h = puts_past l mastership_widths (mastership_numbers x) mastership_at (omega arith)
    write_unused l (connections xs) h = puts_past l connections_widths (connections_numbers (eight xs)) connections_at (omega arith)
    write_unused l (target t) h = puts_past l target_widths (target_numbers t) target_at (omega arith)

    pub written_unused : {es : List Store} → Stills b n es → (l : List ℕ) → get_or (written l es) j 0 ≡ get_or l j 0
    unfolding written
    written_unused none l = refl
    written_unused (more {e = e} h k) l = written_unused k (write l e) ∙ write_unused l e h

  pub grow_keeps : (l : List ℕ) (t : Transaction) → (j < place_of (last_of l + 1)) ⊎ (place_of (last_of l + 1) + stride ≤ j) → get_or (write l (grow t)) j 0 ≡ get_or l j 0
  unfolding write put_entry_at
  grow_keeps l t a =
      let m = put_fields l (place_of (last_of l + 1)) entry_widths (entry_numbers t) in
      put_past m last_at number_size (last_of l + 1) (omega arith) ∙ puts_outside entry_widths (entry_numbers t) l (place_of (last_of l + 1)) j a

  -- ---- any row that fits: the byte is of no number up to n
  module _ (n : ℕ) (free : Free 0 n j) where
    write_free : (l : List ℕ) (e : Store) → Fits (folded_of l) (last_of l) e → last_after (last_of l) e ≤ n → get_or (write l e) j 0 ≡ get_or l j 0
    unfolding write put_entry_at put_head_at put_configuration put_mastership put_connections put_target
    write_free l (grow t) h k = grow_keeps l t (free (last_of l + 1) (omega arith) k)
    write_free l (entry i t) h k =
        let a : 0 < i = let z = h.1.0 in omega arith in
        let b : i ≤ n = let z = h.1.1 in omega arith in
        puts_outside entry_widths (entry_numbers t) l (place_of i) j (free i a b)
    write_free l (fold b) h k = put_past l folded_at number_size b.0 (omega arith)
    write_free l (change b) h k = put_past l change_at number_size b.0 (omega arith)
    write_free l (committed_head b) h k = puts_past l head_widths (head_numbers b) committed_at (omega arith)
    write_free l (applied_head b) h k = puts_past l head_widths (head_numbers b) applied_at (omega arith)
    write_free l (value t p v) h k = value_past l (ltb p table_length) (values_at t + value_size * p) v (table_past t p)
    write_free l (target_values vs) h k = puts_past l table_widths vs (values_at of_target) (omega arith)
    write_free l (configuration g) h k = puts_past l configuration_widths (configuration_numbers g) configuration_at (omega arith)
    write_free l (mastership x) h k = puts_past l mastership_widths (mastership_numbers x) mastership_at (omega arith)
    write_free l (connections xs) h k = puts_past l connections_widths (connections_numbers (eight xs)) connections_at (omega arith)
    write_free l (target t) h k = puts_past l target_widths (target_numbers t) target_at (omega arith)

    pub written_free : (es : List Store) (l : List ℕ) → length l ≡ image_length → Room (folded_of l) (last_of l) → FitsAll (folded_of l) (last_of l) es
        → last_of (written l es) ≤ n → get_or (written l es) j 0 ≡ get_or l j 0
    unfolding written
    written_free [] l z f h k = refl
    written_free (e ∷ es) l z f h k =
        let g = rest_fits l z f e es h in
        let x = (ends_write l z f e h.0).1 in
        let y = last_rises es (write l e) (length_write l z f e) (room_write l z f e h.0) g in
        written_free es (write l e) (length_write l z f e) (room_write l z f e h.0) g k ∙ write_free l e h.0 (omega (arith, x, y))

-- Slots of no number kept are not read, and only append changes one of them: the new entry's. Assumes nothing.
use Prim.Native.Nat.{ℕ, zero, suc, ◌+◌, ◌*◌, ◌≤◌, ◌<◌}
use mathlib.Core.Path.{◌≡◌, refl, ap, ap₂, sym, ◌∙◌, subst}
use mathlib.Core.Logic.{◌⊎◌, inr, ⊎_elim}
use mathlib.Core.Bool.{Bool, true, false, ◌&&◌, true≢false}
use mathlib.Core.List.{List, [], ◌∷◌, ◌++◌}
use native.Mathlib.Omega.{arith}
use lib.Dec.{eqb, leb, ltb}
use lib.ListN.{length, get_or}
use Rattle.kinds.specs.declared.Reply.{Reply}
use Rattle.kinds.specs.Numbers.{num}
use Rattle.fields.specs.Field.{field, fields_at, total}
use Rattle.fields.proofs.Laws.{Outside, Bytes}
use Rattle.machine.specs.State.{last, is_kept}
use Rattle.machine.specs.WellFormed.{well_formed}
use Rattle.machine.specs.LiveList.{live}
use Rattle.machine.specs.Folding.{may_fold, base_row}
use Rattle.machine.specs.Stores.{Store, grow, fold}
use Rattle.machine.specs.Calls as calls
use Rattle.machine.specs.Calls.{Pair, Call, Outcome, append, fold_to, unless, accepted, valid_change, appended, decide}
use Rattle.machine.proofs.Kept as kept
use Rattle.image.specs.Layout.{entry_widths, place_of, last_at, folded_at, image_length, slots, highest, stride, number_size}
use Rattle.image.specs.Records.{to_entry, entry_at, last_of, folded_of}
use Rattle.image.specs.View.{up_from, entries_of, view, write, written}
use Rattle.image.specs.Formed.{all_kept, statuses_ok, entry_statuses_ok, flags_ok, codes_ok, formed}
use Rattle.image.proofs.UpTo.{up_from_same, kept_same}
use Rattle.image.proofs.Kept.{last_kept, folded_kept, flags_kept}
use Rattle.image.proofs.Scanned.{view_last, view_folded, formed_room, formed_state}
use Rattle.image.proofs.Shown.{shown_log_holds, written_append}
use Rattle.controller.specs.Claims.{outcome_of, Claims}
use Rattle.staying.proofs.Sizes.{sizes}
use Rattle.staying.proofs.Unused.{Used, past, slot, Free, put_past, written_unused, grow_keeps}
use Rattle.staying.proofs.Rooms.{Stills, is_plain, decide_still, base_row_still}

-- images that agree in length and in every byte in use
pub record Agree (l m : List ℕ) : Type 0 where
  pub length : length m ≡ length l
  pub used : (j : ℕ) → Used (folded_of l) (last_of l) j → get_or m j 0 ≡ get_or l j 0

-- ---- fields of bytes that are the same
field_same : (w : ℕ) (l m : List ℕ) (at : ℕ) → ((j : ℕ) → at ≤ j → j < at + w → get_or m j 0 ≡ get_or l j 0) → field m at w ≡ field l at w
unfolding field
field_same zero l m at h = refl
field_same (suc w) l m at h =
    ap₂ (λ (x y : ℕ). x + 256 * y) (h at (omega arith) (omega arith)) (field_same w l m (at + 1) (λ j p q. h j (omega arith) (omega arith)))

fields_same : (ws l m : List ℕ) (at : ℕ) → ((j : ℕ) → at ≤ j → j < at + total ws → get_or m j 0 ≡ get_or l j 0) → fields_at m at ws ≡ fields_at l at ws
unfolding fields_at
fields_same [] l m at h = refl
fields_same (w ∷ ws) l m at h =
    ap₂ (λ (x : ℕ) (xs : List ℕ). x ∷ xs) (field_same w l m at (λ j p q. h j p (omega arith)))
    (fields_same ws l m (at + w) (λ j p q. h j (omega arith) (omega arith)))

-- ---- not read
module _ (l m : List ℕ) (a : Agree l m) where
  outside : Outside l m 0 last_at
  outside j h = ⊎_elim (λ x. absurd (omega arith)) (λ y. a.used j (past y)) h

  pub same_last : last_of m ≡ last_of l
  same_last = last_kept l m _ _ outside (inr (omega arith))

  pub same_folded : folded_of m ≡ folded_of l
  same_folded = folded_kept l m _ _ outside (inr (omega arith))

  same_entry : (k : ℕ) → folded_of l < k → k ≤ last_of l → entry_at m k ≡ entry_at l k
  unfolding entry_at
  same_entry k u v = ap to_entry (fields_same entry_widths l m (place_of k) (λ j p q. a.used j (slot k u v p q)))

  -- they show the same state
  pub same_view : view m ≡ view l
  unfolding view
  same_view =
      shown_log_holds l m _ _ outside (omega arith) (entries_of l)
      (ap₂ (λ (b n : ℕ). up_from (entry_at m) b n) same_folded same_last ∙ up_from_same (entry_at l) (entry_at m) (folded_of l) (last_of l) same_entry)

  same_statuses : (k : ℕ) → folded_of l < k → k ≤ last_of l → statuses_ok m (place_of k) ≡ statuses_ok l (place_of k)
  unfolding statuses_ok
  same_statuses k u v = rw (field_same 2 l m (place_of k) (λ j p q. a.used j (slot k u v p (omega arith))))

  same_codes : codes_ok m ≡ codes_ok l
  same_codes =
      ap₂ (λ (b n : ℕ). leb b n && (all_kept (entry_statuses_ok m) b n && flags_ok m)) same_folded same_last
      ∙ ap₂ (λ (x y : Bool). leb (folded_of l) (last_of l) && (x && y))
      (kept_same (entry_statuses_ok m) (entry_statuses_ok l) (folded_of l) (last_of l) same_statuses)
      (flags_kept l m _ _ outside (inr (omega arith)) (inr (omega arith)) (inr (omega arith)))

  -- are both well-formed, or neither
  pub same_formed : formed m ≡ formed l
  unfolding formed
  same_formed =
      ap₂ (λ (x y : Bool). x && y) (ap (λ (n : ℕ). eqb n image_length) a.length) (ap₂ (λ (x y : Bool). x && y) same_codes (ap well_formed same_view))

  -- and have the same outcome of every call: the same reply and the same stores
  pub same_outcome : (c : Call) → outcome_of m c ≡ outcome_of l c
  unfolding outcome_of
  same_outcome c = rw (same_formed, same_view)

  pub same_reply_holds : (c : Call) (r r' : Reply) (l' m' : List ℕ) → Claims l c r l' → Claims m c r' m' → r' ≡ r
  same_reply_holds c r r' l' m' p q = q.0 ∙ ap (λ (x : Outcome). x.reply) (same_outcome c) ∙ sym p.0

-- ---- not changed
abbrev pub is_append : Call → Bool
is_append (append ps) = true
is_append (calls.rollback i) = false
is_append calls.start = false
is_append calls.stop = false
is_append (calls.connect n) = false
is_append (calls.disconnect n) = false
is_append (calls.master n) = false
is_append (calls.sync n) = false
is_append (calls.work n j i r c) = false
is_append (fold_to b) = false

module _ (l : List ℕ) (j : ℕ) (q : j < last_at) where
  module _ (y : Bytes l) (w : formed l ≡ true) (free : Free (folded_of l) (last_of l) j) where
    here : {es : List Store} → Stills (view l).log.folded.0 (last (view l).log) es → Stills (folded_of l) (last_of l) es
    here {es} h =
        subst (λ (n : ℕ). Stills (folded_of l) n es) (view_last l (formed_room l w).0)
        (subst (λ (b : ℕ). Stills b (last (view l).log) es) (view_folded l) h)

    plain : (c : Call) → is_plain c ≡ true → get_or (written l (decide (view l) c).stores) j 0 ≡ get_or l j 0
    plain c e = written_unused j q (folded_of l) (last_of l) free (here (decide_still (view l) (sizes l y w) c e)) l

    folds : (b : ℕ) → get_or (written l (decide (view l) (fold_to b)).stores) j 0 ≡ get_or l j 0
    unfolding decide written write
    folds b = go (is_kept (view l) b && leb b (last (view l).log)) (may_fold (view l) b)
      where
        go : (x z : Bool) → get_or (written l (unless 5 x (unless 17 z (accepted (base_row (view l).log b (live (view l)) ++ (fold (num b) ∷ []))))).stores) j 0 ≡ get_or l j 0
        go true true =
            ap (λ (m : List ℕ). get_or m j 0) (written_append l (base_row (view l).log b (live (view l))) (fold (num b) ∷ []))
            ∙ put_past j q (written l (base_row (view l).log b (live (view l)))) folded_at number_size b (omega arith)
            ∙ written_unused j q (folded_of l) (last_of l) free (here (base_row_still (view l) (sizes l y w) (kept.formed (view l) (formed_state l w)) b)) l
        go true false = refl
        go false z = refl

    stays : (c : Call) → is_append c ≡ false → get_or (written l (decide (view l) c).stores) j 0 ≡ get_or l j 0
    stays (append ps) e = absurd (true≢false e)
    stays (calls.rollback i) e = plain (calls.rollback i) refl
    stays calls.start e = plain calls.start refl
    stays calls.stop e = plain calls.stop refl
    stays (calls.connect n) e = plain (calls.connect n) refl
    stays (calls.disconnect n) e = plain (calls.disconnect n) refl
    stays (calls.master n) e = plain (calls.master n) refl
    stays (calls.sync n) e = plain (calls.sync n) refl
    stays (calls.work n k i r c) e = plain (calls.work n k i r c) refl
    stays (fold_to b) e = folds b

  -- every call but append leaves every byte of the slots of no number kept: a fold too
  pub keeps_unused : (c : Call) (r : Reply) (m : List ℕ) → Claims l c r m → Bytes l → is_append c ≡ false → Free (folded_of l) (last_of l) j → get_or m j 0 ≡ get_or l j 0
  unfolding outcome_of written
  keeps_unused c r m p y x a = ap (λ (k : List ℕ). get_or k j 0) p.1 ∙ go (formed l) refl
    where
      go : (w : Bool) → formed l ≡ w → get_or (written l (unless 1 w (decide (view l) c)).stores) j 0 ≡ get_or l j 0
      go true w = stays y w a c x
      go false w = refl

  -- append leaves every byte but the new entry's
  pub append_unused : (ps : List Pair) (r : Reply) (m : List ℕ) → Claims l (append ps) r m → (j < place_of (last_of l + 1)) ⊎ (place_of (last_of l + 1) + stride ≤ j)
      → get_or m j 0 ≡ get_or l j 0
  unfolding outcome_of decide written
  append_unused ps r m p a =
      ap (λ (k : List ℕ). get_or k j 0) p.1 ∙ go (formed l) (valid_change ps) (ltb (length (view l).log.entries) slots) (ltb (last (view l).log) highest)
    where
      go : (w v f h : Bool)
          → get_or
          (written l
          (unless 1 w
          (unless 3 v
          (unless 4 f
          (unless 9 h (record { reply = record { answer = 0; event = Rattle.kinds.specs.Events.numbered (last (view l).log + 1) }; stores = grow (appended ps) ∷ [] }))))).stores)
          j 0
          ≡ get_or l j 0
      go true true true true = grow_keeps j q l (appended ps) a
      go true true true false = refl
      go true true false h = refl
      go true false f h = refl
      go false v f h = refl

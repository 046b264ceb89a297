-- Images that agree in length and in every byte in use go on to agree, whatever is called: so no call's reply, now or
-- later, depends on what stood in a slot of no number kept. Assumes nothing.
use Prim.Native.Nat.{ℕ, ◌+◌, ◌*◌, ◌≤◌, ◌<◌}
use mathlib.Core.Path.{◌≡◌, refl, ap, ap₂, sym, ◌∙◌, subst}
use mathlib.Core.Logic.{◌⊎◌, inl, inr, ⊎_elim}
use mathlib.Core.Bool.{Bool, true, false, cond}
use mathlib.Core.List.{List, [], ◌∷◌}
use native.Mathlib.Omega.{arith}
use borrow.Author.Tests.{ltb-true, ltb-false}
use lib.Dec.{ltb}
use lib.ListN.{length, get_or}
use Rattle.kinds.specs.declared.Transaction.{Transaction}
use Rattle.kinds.specs.declared.Reply.{Reply}
use Rattle.fields.specs.Field.{put_field, put_fields}
use Rattle.fields.proofs.Laws.{Bytes}
use Rattle.fields.proofs.Runs.{length_puts}
use Rattle.machine.specs.Stores.{Store, grow, entry, fold, change, committed_head, applied_head, value, target_values, configuration, mastership, connections, target, of_target}
use Rattle.machine.specs.Calls.{Call, Outcome, unless, decide}
use Rattle.image.specs.Layout.{entry_widths, head_widths, table_widths, configuration_widths, mastership_widths, target_widths, connections_widths, place_of, last_at, change_at, committed_at, applied_at, values_at, configuration_at, mastership_at, target_at, connections_at, folded_at, image_length, stride, value_size, table_length, number_size}
use Rattle.image.specs.Records.{entry_numbers, put_entry_at, last_of, folded_of, head_numbers, put_head_at, configuration_numbers, put_configuration, mastership_numbers, put_mastership, target_numbers, put_target, connections_numbers, eight, put_connections}
use Rattle.image.specs.View.{view, write, written}
use Rattle.image.specs.Formed.{formed}
use Rattle.image.proofs.Scanned.{Room, formed_length, formed_room}
use Rattle.image.proofs.Shown.{Fits, FitsAll, last_after, folded_after, length_write, ends_write, room_write, rest_fits}
use Rattle.controller.specs.Claims.{outcome_of, Claims}
use Rattle.link.specs.Runs.{Calling, none, next}
use Rattle.staying.proofs.Unused.{Used, past, slot}
use Rattle.staying.proofs.Both.{Both, put_both, Boths, puts_both}
use Rattle.staying.proofs.Stays.{decide_fits}
use Rattle.link.proofs.Link.{stays_bytes}
use Rattle.link.proofs.Unused.{Agree, same_last, same_folded, same_outcome, same_reply_holds}

-- ---- any store
module _ (l m : List ℕ) (z : length m ≡ length l) (n : last_of m ≡ last_of l) (j : ℕ) where
  if_both : (b : Bool) (at v : ℕ) → get_or m j 0 ≡ get_or l j 0 → get_or (cond b (put_field m at value_size v) m) j 0 ≡ get_or (cond b (put_field l at value_size v) l) j 0
  if_both true at v h = put_both value_size l m at v j z (inr h)
  if_both false at v h = h

  -- a byte of the new entry, or one that was the same
  grow_both : (t : Transaction) → Both l m (place_of (last_of l + 1)) stride j → get_or (write m (grow t)) j 0 ≡ get_or (write l (grow t)) j 0
  unfolding write put_entry_at
  grow_both t h =
      let at = place_of (last_of l + 1) in
      let x = entry_numbers t in
      let s : Boths entry_widths x l m at j = ⊎_elim (λ p. inl (refl, p)) (λ q. inr q) h in
      ap (λ (k : ℕ). get_or (put_field (put_fields m (place_of (k + 1)) entry_widths x) last_at number_size (k + 1)) j 0) n
      ∙ put_both number_size (put_fields l at entry_widths x) (put_fields m at entry_widths x) last_at (last_of l + 1) j
      (length_puts entry_widths x m at ∙ z ∙ sym (length_puts entry_widths x l at)) (inr (puts_both entry_widths x l m at j z s))

  write_both : (e : Store) → get_or m j 0 ≡ get_or l j 0 → get_or (write m e) j 0 ≡ get_or (write l e) j 0
  unfolding write put_entry_at put_head_at put_configuration put_mastership put_connections put_target
  write_both (grow t) h = grow_both t (inr h)
  write_both (entry i t) h = puts_both entry_widths (entry_numbers t) l m (place_of i) j z (inr h)
  write_both (fold k) h = put_both number_size l m folded_at k.0 j z (inr h)
  write_both (change k) h = put_both number_size l m change_at k.0 j z (inr h)
  write_both (committed_head k) h = puts_both head_widths (head_numbers k) l m committed_at j z (inr h)
  write_both (applied_head k) h = puts_both head_widths (head_numbers k) l m applied_at j z (inr h)
  write_both (value t p v) h = if_both (ltb p table_length) (values_at t + value_size * p) v h
  write_both (target_values vs) h = puts_both table_widths vs l m (values_at of_target) j z (inr h)
  write_both (configuration g) h = puts_both configuration_widths (configuration_numbers g) l m configuration_at j z (inr h)
  write_both (mastership x) h = puts_both mastership_widths (mastership_numbers x) l m mastership_at j z (inr h)
  write_both (connections xs) h = puts_both connections_widths (connections_numbers (eight xs)) l m connections_at j z (inr h)
  write_both (target t) h = puts_both target_widths (target_numbers t) l m target_at j z (inr h)

-- ---- a store that fits: what is in use after it was in use before, or is the new entry's
module _ (l m : List ℕ) (a : Agree l m) (z : length l ≡ image_length) (f : Room (folded_of l) (last_of l)) where
  size_m : length m ≡ image_length
  size_m = a.length ∙ z

  room_m : Room (folded_of m) (last_of m)
  room_m = rw (same_folded l m a, same_last l m a) f

  grown_byte : (t : Transaction) (j k : ℕ) → folded_of l < k → k ≤ last_of l + 1 → place_of k ≤ j → j < place_of k + stride → (x : Bool) → ltb (last_of l) k ≡ x
      → Both l m (place_of (last_of l + 1)) stride j
  grown_byte t j k p q r s true e =
      let d : k ≡ last_of l + 1 = omega (arith, ltb-true (last_of l) k e) in
      inl (subst (λ (i : ℕ). (place_of i ≤ j) × (j < place_of i + stride)) d (r, s))
  grown_byte t j k p q r s false e = inr (a.used j (slot k p (ltb-false (last_of l) k e) r s))

  by : (e : Store) → Fits (folded_of l) (last_of l) e → (j : ℕ) → Used (folded_after (folded_of l) e) (last_after (last_of l) e) j → get_or (write m e) j 0 ≡ get_or (write l e) j 0
  by (grow t) h j (past x) = grow_both l m a.length (same_last l m a) j t (inr (a.used j (past x)))
  by (grow t) h j (slot k p q r s) = grow_both l m a.length (same_last l m a) j t (grown_byte t j k p q r s (ltb (last_of l) k) refl)
  by (fold b) h j (past x) = write_both l m a.length (same_last l m a) j (fold b) (a.used j (past x))
  by (fold b) h j (slot k p q r s) = write_both l m a.length (same_last l m a) j (fold b) (a.used j (slot k (omega (arith, h.0)) q r s))
  by (entry i t) h j u = write_both l m a.length (same_last l m a) j (entry i t) (a.used j u)
  by (change k) h j u = write_both l m a.length (same_last l m a) j (change k) (a.used j u)
  by (committed_head k) h j u = write_both l m a.length (same_last l m a) j (committed_head k) (a.used j u)
  by (applied_head k) h j u = write_both l m a.length (same_last l m a) j (applied_head k) (a.used j u)
  by (value t p v) h j u = write_both l m a.length (same_last l m a) j (value t p v) (a.used j u)
  by (target_values vs) h j u = write_both l m a.length (same_last l m a) j (target_values vs) (a.used j u)
  by (configuration g) h j u = write_both l m a.length (same_last l m a) j (configuration g) (a.used j u)
  by (mastership x) h j u = write_both l m a.length (same_last l m a) j (mastership x) (a.used j u)
  by (connections xs) h j u = write_both l m a.length (same_last l m a) j (connections xs) (a.used j u)
  by (target t) h j u = write_both l m a.length (same_last l m a) j (target t) (a.used j u)

  agree_write : (e : Store) → Fits (folded_of l) (last_of l) e → Agree (write l e) (write m e)
  agree_write e h =
      let c = ends_write l z f e h in
      record {
        length = length_write m size_m room_m e ∙ sym (length_write l z f e);
        used = λ j u. by e h j (subst (λ (n : ℕ). Used (folded_after (folded_of l) e) n j) c.1 (subst (λ (b : ℕ). Used b (last_of (write l e)) j) c.0 u));
      }

agree_written : (es : List Store) (l m : List ℕ) → Agree l m → length l ≡ image_length → Room (folded_of l) (last_of l) → FitsAll (folded_of l) (last_of l) es
    → Agree (written l es) (written m es)
unfolding written
agree_written [] l m a z f h = a
agree_written (e ∷ es) l m a z f h =
    agree_written es (write l e) (write m e) (agree_write l m a z f e h.0) (length_write l z f e) (room_write l z f e h.0) (rest_fits l z f e es h)

-- ---- one call: what is left agrees again, the new entry of an append too
pub agree_next : (l m : List ℕ) (c : Call) (r r' : Reply) (l' m' : List ℕ) → Agree l m → Bytes l → Claims l c r l' → Claims m c r' m' → Agree l' m'
unfolding outcome_of written
agree_next l m c r r' l' m' a y p q =
    let e : m' ≡ written m (outcome_of l c).stores = q.1 ∙ ap (λ (o : Outcome). written m o.stores) (same_outcome l m a c) in
    subst (λ (x : List ℕ). Agree x m') (sym p.1) (subst (λ (x : List ℕ). Agree (written l (outcome_of l c).stores) x) (sym e) (go (formed l) refl))
  where
    go : (w : Bool) → formed l ≡ w → (let es = (unless 1 w (decide (view l) c)).stores in Agree (written l es) (written m es))
    go true w = agree_written (decide (view l) c).stores l m a (formed_length l w) (formed_room l w) (decide_fits l c y w)
    go false w = a

-- ---- any calls: the same replies, and what is left agrees
pub agree_run : {l m : List ℕ} {cs : List Call} {rs us : List Reply} {l' m' : List ℕ} → Calling l cs rs l' → Calling m cs us m' → Agree l m → Bytes l
    → (us ≡ rs) × ((Agree l' m') × (Bytes l'))
agree_run none none a y = (refl, (a, y))
agree_run (next {k = k} d c r l' p) (next {k = k'} d' _ r' m' q) a y =
    let h = agree_run d d' a y in (
      ap₂ (λ (x : Reply) (xs : List Reply). x ∷ xs) (same_reply_holds k k' h.1.0 c r r' l' m' p q) h.0,
      (agree_next k k' c r r' l' m' h.1.0 h.1.1 p q, stays_bytes k c r l' p h.1.1),
    )

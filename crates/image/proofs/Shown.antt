-- The joint: the view of an image with a row of stores made in it is the view with the same stores made. Assumes nothing.
use Prim.Native.Nat.{ℕ, ◌+◌, ◌-◌, ◌*◌, ◌≤◌, ◌<◌}
use mathlib.Core.Path.{◌≡◌, refl, ap, ap₂, sym, subst, ◌∙◌}
use mathlib.Core.Logic.{inl, inr, ⊎_elim}
use mathlib.Core.Bool.{Bool, true, false, cond}
use mathlib.Core.List.{List, [], ◌∷◌, ◌++◌}
use native.Mathlib.Omega.{arith}
use borrow.Author.Tests.{ltb-true, ltb-false}
use lib.Dec.{ltb}
use lib.ListN.{length, set, drop}
use lib.Seq.{set_out}
use Rattle.kinds.specs.declared.Transaction.{Transaction}
use Rattle.kinds.specs.declared.Head.{Head}
use Rattle.kinds.specs.declared.Number.{Number}
use Rattle.kinds.specs.declared.Configuration.{Configuration}
use Rattle.kinds.specs.declared.Mastership.{Mastership}
use Rattle.kinds.specs.declared.Connection.{Connection}
use Rattle.kinds.specs.declared.Target.{Target}
use Rattle.kinds.specs.Numbers.{num}
use Rattle.fields.specs.Field.{put_field, put_fields}
use Rattle.fields.proofs.Laws.{Outside, length_put, put_outside, put_same}
use Rattle.fields.proofs.Runs.{Fit, length_puts, puts_outside, puts_same, table_set}
use Rattle.machine.specs.State.{Part, Ledger, Net, Log, State, blank, put_place}
use Rattle.machine.specs.Stores.{Table, of_committed, of_applied, of_target, of_base, of_owners, Store, grow, entry, fold, change, committed_head, applied_head, value, target_values, configuration, mastership, connections, target, with_log, with_committed, with_applied, with_net, after_value, after, afters}
use Rattle.image.specs.Layout.{entry_widths, head_widths, table_widths, configuration_widths, mastership_widths, target_widths, connections_widths, slot_of, place_of, last_at, change_at, committed_at, applied_at, values_at, configuration_at, mastership_at, target_at, connections_at, folded_at, image_length, slots, highest, stride, head_size, table_size, connections_size}
use Rattle.image.specs.Records.{to_entry, entry_numbers, entry_at, put_entry_at, last_of, folded_of, change_of, to_head, head_numbers, head_at, put_head_at, to_configuration, configuration_numbers, configuration_of, put_configuration, to_mastership, mastership_numbers, mastership_of, put_mastership, to_target, target_numbers, target_of, put_target, to_connections, connections_numbers, eight, connections_of, put_connections}
use Rattle.image.specs.View.{up_from, table_of, entries_of, log_of, part_of, ledger_of, net_of, view, write, written}
use Rattle.image.proofs.UpTo.{up_from_same, up_from_more, up_from_drop, put_up_from}
use Rattle.image.proofs.Scanned.{Room}
use Rattle.image.proofs.Chain.{length_table}
use Rattle.image.proofs.Kept.{Apart, same_log, part_kept, ledger_kept, net_kept, entry_kept, last_kept, folded_kept, entries_kept, ends_kept, log_kept, change_kept, head_kept, table_kept, configuration_kept, mastership_kept, target_kept, connections_kept}
use Rattle.image.proofs.Sized.{SizedEntry, SizedHead, SizedMastership, SizedTable, SizedConnections, entry_room_holds, head_room, configuration_room, mastership_room, target_room, connections_room, table_room, entry_back, configuration_back, target_back, connections_back, eight_all}

-- ---- one row of stores behind another
pub written_append : (l : List ℕ) (es fs : List Store) → written l (es ++ fs) ≡ written (written l es) fs
unfolding written
written_append l [] fs = refl
written_append l (e ∷ es) fs = written_append (write l e) es fs

-- ---- each number of a store has room, and a store of an entry is of a number kept: b the last fold, n the highest number
abbrev pub Fits : ℕ → ℕ → Store → Type 0
Fits b n (grow t) = SizedEntry t × ((n < b + slots) × (n < highest))
Fits b n (entry i t) = SizedEntry t × ((b < i) × (i ≤ n))
Fits b n (fold k) = (b ≤ k.0) × (k.0 ≤ n)
Fits b n (change k) = k.0 < 65536
Fits b n (committed_head h) = SizedHead h
Fits b n (applied_head h) = SizedHead h
Fits b n (value c p v) = v < 65536
Fits b n (target_values vs) = SizedTable vs
Fits b n (configuration g) = g.term.0 < 4294967296
Fits b n (mastership m) = SizedMastership m
Fits b n (connections xs) = SizedConnections xs
Fits b n (target t) = t.id < 4294967296

-- the highest number after a store
abbrev pub last_after : ℕ → Store → ℕ
last_after n (grow t) = n + 1
last_after n (entry i t) = n
last_after n (fold k) = n
last_after n (change k) = n
last_after n (committed_head h) = n
last_after n (applied_head h) = n
last_after n (value c p v) = n
last_after n (target_values vs) = n
last_after n (configuration g) = n
last_after n (mastership m) = n
last_after n (connections xs) = n
last_after n (target t) = n

-- the last fold after a store
abbrev pub folded_after : ℕ → Store → ℕ
folded_after b (grow t) = b
folded_after b (entry i t) = b
folded_after b (fold k) = k.0
folded_after b (change k) = b
folded_after b (committed_head h) = b
folded_after b (applied_head h) = b
folded_after b (value c p v) = b
folded_after b (target_values vs) = b
folded_after b (configuration g) = b
folded_after b (mastership m) = b
folded_after b (connections xs) = b
folded_after b (target t) = b

abbrev pub FitsAll : ℕ → ℕ → List Store → Type 0
FitsAll b n [] = Unit {0}
FitsAll b n (e ∷ es) = Fits b n e × FitsAll (folded_after b e) (last_after n e) es

-- ---- the view, from its five parts
pub same_view : (l : List ℕ) (log : Log) (n : ℕ) (c : Ledger) (a : Part) (w : Net) → log_of l ≡ log → change_of l ≡ n
    → ledger_of l ≡ c → part_of l applied_at of_applied ≡ a → net_of l ≡ w
    → view l ≡ record { log = log; change = num n; committed = c; applied = a; net = w }
unfolding view
same_view l log n c a w p q r s t = cc

-- a store inside the ring or of the highest number leaves all that lies past it but the log
pub shown_log_holds : (l m : List ℕ) (a e : ℕ) → Outside l m a e → e ≤ change_at → (ts : List Transaction) → entries_of m ≡ ts
    → view m ≡ with_log (view l) (record { folded = num (folded_of l); base = table_of l of_base; entries = ts })
unfolding view
shown_log_holds l m a e o h ts q =
    same_view m _ _ _ _ _ (same_log m _ _ _ (folded_kept l m a e o (inr (omega arith))) (table_kept l m a e o of_base (inr (omega arith))) q)
    (change_kept l m a e o (inr (omega arith))) (ledger_kept l m a e o (inr (omega arith)))
    (part_kept l m a e o applied_at of_applied (inr (omega arith)) (inr (omega arith))) (net_kept l m a e o (inr (omega arith)))

-- a store past the nodes' side, of the last fold or the base, leaves all but the log
shown_base : (l m : List ℕ) (a e : ℕ) → Outside l m a e → folded_at ≤ a → (log : Log) → log_of m ≡ log → view m ≡ with_log (view l) log
unfolding view
shown_base l m a e o h log q =
    same_view m _ _ _ _ _ q
    (change_kept l m a e o (inl (omega arith))) (ledger_kept l m a e o (inl (omega arith)))
    (part_kept l m a e o applied_at of_applied (inl (omega arith)) (inl (omega arith))) (net_kept l m a e o (inl (omega arith)))

-- two numbers that the ring keeps at once lie apart
pub slots_differ : (b i j : ℕ) → b < i → i ≤ b + slots → b < j → j ≤ b + slots → slot_of j ≡ slot_of i → j ≡ i
slots_differ b i j p q r s e = omega arith

pub entries_apart : (b i j : ℕ) → b < i → i ≤ b + slots → b < j → j ≤ b + slots → (j ≡ i → ⊥) → Apart (place_of i) (place_of i + stride) (place_of j) stride
entries_apart b i j p q r s d = go (ltb (slot_of j) (slot_of i)) refl
  where
    go : (x : Bool) → ltb (slot_of j) (slot_of i) ≡ x → Apart (place_of i) (place_of i + stride) (place_of j) stride
    go true e = let y : slot_of j < slot_of i = ltb-true (slot_of j) (slot_of i) e in inl (omega arith)
    go false e =
        let y : slot_of i ≤ slot_of j = ltb-false (slot_of j) (slot_of i) e in
        let w : slot_of j ≡ slot_of i → ⊥ = λ x. d (slots_differ b i j p q r s x) in
        let v : slot_of i < slot_of j = omega (arith, w) in
        inr (omega arith)

-- what is kept outside a run is kept outside a wider one
wider : (l m : List ℕ) (a e b d : ℕ) → Outside l m a e → b ≤ a → e ≤ d → Outside l m b d
wider l m a e b d o p q j h = o j (⊎_elim (λ x. inl (omega arith)) (λ y. inr (omega arith)) h)

same_net : (g : Configuration) (m : Mastership) (xs : List Connection) (t : Target) (v : List ℕ) (g' : Configuration) (m' : Mastership) (xs' : List Connection) (t' : Target) (v' : List ℕ)
    → g ≡ g' → m ≡ m' → xs ≡ xs' → t ≡ t' → v ≡ v'
    → ◌≡◌ {A = Net} (record { configuration = g; mastership = m; connections = xs; target = t; values = v }) (record { configuration = g'; mastership = m'; connections = xs'; target = t'; values = v' })
same_net g m xs t v g' m' xs' t' v' p q r s u = cc

same_part : (h : Head) (v : List ℕ) (k : Head) (u : List ℕ) → h ≡ k → v ≡ u → ◌≡◌ {A = Part} (record { head = h; values = v }) (record { head = k; values = u })
same_part h v k u p q = cc

same_ledger : (h : Head) (v o : List ℕ) (k : Head) (u p : List ℕ) → h ≡ k → v ≡ u → o ≡ p
    → ◌≡◌ {A = Ledger} (record { head = h; values = v; owners = o }) (record { head = k; values = u; owners = p })
same_ledger h v o k u p q r s = cc

module _ (l : List ℕ) (z : length l ≡ image_length) (f : Room (folded_of l) (last_of l)) where
  -- ---- an entry
  pub entry_outside : (n : ℕ) (t : Transaction) → Outside l (put_entry_at l n t) (place_of n) (place_of n + stride)
  unfolding put_entry_at
  entry_outside n t = puts_outside entry_widths (entry_numbers t) l (place_of n)

  pub entry_same : (n : ℕ) (t : Transaction) → SizedEntry t → entry_at (put_entry_at l n t) n ≡ t
  unfolding entry_at put_entry_at
  entry_same n t h = ap to_entry (puts_same entry_widths (entry_numbers t) l (place_of n) (entry_room_holds t h) (omega arith)) ∙ entry_back t h

  -- every other kept
  pub other_kept : (m : List ℕ) (i : ℕ) → Outside l m (place_of i) (place_of i + stride) → folded_of l < i → i ≤ folded_of l + slots
      → (k : ℕ) → folded_of l < k → k ≤ last_of l → (k ≡ i → ⊥) → entry_at m k ≡ entry_at l k
  other_kept m i o p q k u v d = entry_kept l m _ _ o k (entries_apart (folded_of l) i k p q u (omega (arith, f.1.0)) d)

  shown_entry : (i : ℕ) (t : Transaction) → SizedEntry t → (folded_of l < i) × (i ≤ last_of l) → view (write l (entry i t)) ≡ after (view l) (entry i t)
  unfolding view write after
  shown_entry i t h k =
      let m = put_entry_at l i t in
      let o : Outside l m (place_of i) (place_of i + stride) = entry_outside i t in
      let x : place_of i + stride ≤ last_at = omega arith in
      let p : folded_of m ≡ folded_of l = folded_kept l m _ _ o (inr (omega arith)) in
      let c : last_of m ≡ last_of l = last_kept l m _ _ o (inr x) in
      let q : entries_of m ≡ put_place (entries_of l) (i - folded_of l) t =
      ap₂ (λ (b n : ℕ). up_from (entry_at m) b n) p c
      ∙ put_up_from (entry_at l) (entry_at m) (folded_of l) (last_of l) i t k.0 k.1 (entry_same i t h)
      (other_kept m i o k.0 (omega (arith, k.1, f.1.0))) in
      shown_log_holds l m _ _ o (omega arith) _ q

  -- ---- the log, one longer
  counted : (m : List ℕ) (n : ℕ) → length m ≡ image_length → n < highest → last_of (put_field m last_at 2 (n + 1)) ≡ n + 1
  unfolding last_of
  counted m n y h = put_same 2 m last_at (n + 1) (omega arith) (omega arith)

  pub length_entry : (n : ℕ) (t : Transaction) → length (put_entry_at l n t) ≡ image_length
  unfolding put_entry_at
  length_entry n t = length_puts entry_widths (entry_numbers t) l (place_of n) ∙ z

  -- both writes of growing lie in the ring and the highest number
  pub grow_outside : (t : Transaction) → Outside l (put_field (put_entry_at l (last_of l + 1) t) last_at 2 (last_of l + 1)) 0 (last_at + 2)
  grow_outside t j h =
      put_outside 2 (put_entry_at l (last_of l + 1) t) last_at (last_of l + 1) j (⊎_elim (λ x. inl (omega arith)) (λ y. inr (omega arith)) h)
      ∙ entry_outside (last_of l + 1) t j (⊎_elim (λ x. inl (omega arith)) (λ y. inr (omega arith)) h)

  shown_grow : (t : Transaction) → SizedEntry t → (last_of l < folded_of l + slots) × (last_of l < highest) → view (write l (grow t)) ≡ after (view l) (grow t)
  unfolding view write after
  shown_grow t h k =
      let n = last_of l in
      let l1 = put_entry_at l (n + 1) t in
      let m = put_field l1 last_at 2 (n + 1) in
      let o : Outside l m 0 (last_at + 2) = grow_outside t in
      let u : Outside l1 m last_at (last_at + 2) = put_outside 2 l1 last_at (n + 1) in
      let p : folded_of m ≡ folded_of l = folded_kept l m _ _ o (inr (omega arith)) in
      let c : last_of m ≡ n + 1 = counted l1 n (length_entry (n + 1) t) k.1 in
      let g : folded_of l < n + 1 = omega (arith, f.0) in
      let q : entries_of m ≡ entries_of l ++ (t ∷ []) =
      ap₂ (λ (b e : ℕ). up_from (entry_at m) b e) p c
      ∙ up_from_more (entry_at m) (folded_of l) n f.0
      ∙ ap₂ (λ (xs : List Transaction) (x : Transaction). xs ++ (x ∷ []))
      (entries_kept l1 m _ _ u (folded_of l) n (omega arith)
      ∙ up_from_same (entry_at l) (entry_at l1) (folded_of l) n
      (λ j a b. other_kept l1 (n + 1) (entry_outside (n + 1) t) g (omega (arith, k.0)) j a b (λ e. absurd (omega arith))))
      (entry_kept l1 m _ _ u (n + 1) (inl (omega arith)) ∙ entry_same (n + 1) t h) in
      shown_log_holds l m _ _ o (omega arith) _ q

  -- ---- the last fold
  fold_outside : (x : ℕ) → Outside l (put_field l folded_at 2 x) folded_at (folded_at + 2)
  fold_outside x = put_outside 2 l folded_at x

  fold_same : (x : ℕ) → x < 65536 → folded_of (put_field l folded_at 2 x) ≡ x
  unfolding folded_of
  fold_same x k = put_same 2 l folded_at x k (omega arith)

  shown_fold : (b : Number) → (folded_of l ≤ b.0) × (b.0 ≤ last_of l) → view (write l (fold b)) ≡ after (view l) (fold b)
  unfolding view write after
  shown_fold b k =
      let m = put_field l folded_at 2 b.0 in
      let o : Outside l m folded_at (folded_at + 2) = fold_outside b.0 in
      let p : folded_of m ≡ b.0 = fold_same b.0 (omega (arith, k.1, f.1.1)) in
      let c : last_of m ≡ last_of l = last_kept l m _ _ o (inl (omega arith)) in
      let q : entries_of m ≡ drop (b.0 - folded_of l) (entries_of l) =
      ap₂ (λ (x n : ℕ). up_from (entry_at m) x n) p c
      ∙ entries_kept l m _ _ o b.0 (last_of l) (omega arith)
      ∙ up_from_drop (entry_at l) (folded_of l) b.0 (last_of l) blank k.0 k.1 in
      shown_base l m _ _ o (omega arith) _ (same_log m _ _ _ p (table_kept l m _ _ o of_base (inr (omega arith))) q)

  -- ---- past the log: the log is kept, and so is what lies apart
  change_outside : (x : ℕ) → Outside l (put_field l change_at 2 x) change_at (change_at + 2)
  change_outside x = put_outside 2 l change_at x

  change_same : (x : ℕ) → x < 65536 → change_of (put_field l change_at 2 x) ≡ x
  unfolding change_of
  change_same x k = put_same 2 l change_at x k (omega arith)

  shown_change : (n : Number) → n.0 < 65536 → view (write l (change n)) ≡ after (view l) (change n)
  unfolding view write after
  shown_change n k =
      let m = put_field l change_at 2 n.0 in
      let o : Outside l m change_at (change_at + 2) = change_outside n.0 in
      same_view m _ _ _ _ _ (log_kept l m _ _ o (omega arith) (omega arith)) (change_same n.0 k)
      (ledger_kept l m _ _ o (inr (omega arith)))
      (part_kept l m _ _ o applied_at of_applied (inr (omega arith)) (inr (omega arith)))
      (net_kept l m _ _ o (inr (omega arith)))

  -- ---- in Committed, from its head to the end of its owners
  module _ (m : List ℕ) (o : Outside l m committed_at applied_at) (c : Ledger) (q : ledger_of m ≡ c) where
    in_committed : view m ≡ with_committed (view l) c
    unfolding view
    in_committed =
        same_view m _ _ _ _ _ (log_kept l m _ _ o (omega arith) (omega arith)) (change_kept l m _ _ o (inl (omega arith))) q
        (part_kept l m _ _ o applied_at of_applied (inr (omega arith)) (inr (omega arith))) (net_kept l m _ _ o (inr (omega arith)))

  -- ---- in Applied
  module _ (m : List ℕ) (o : Outside l m applied_at (values_at of_target)) (c : Part) (q : part_of m applied_at of_applied ≡ c) where
    in_applied : view m ≡ with_applied (view l) c
    unfolding view
    in_applied =
        same_view m _ _ _ _ _ (log_kept l m _ _ o (omega arith) (omega arith)) (change_kept l m _ _ o (inl (omega arith)))
        (ledger_kept l m _ _ o (inl (omega arith))) q (net_kept l m _ _ o (inr (omega arith)))

  -- ---- on the nodes' side
  module _ (m : List ℕ) (o : Outside l m (values_at of_target) folded_at) (w : Net) (q : net_of m ≡ w) where
    in_net : view m ≡ with_net (view l) w
    unfolding view
    in_net =
        same_view m _ _ _ _ _ (log_kept l m _ _ o (omega arith) (omega arith)) (change_kept l m _ _ o (inl (omega arith)))
        (ledger_kept l m _ _ o (inl (omega arith)))
        (part_kept l m _ _ o applied_at of_applied (inl (omega arith)) (inl (omega arith))) q

  -- ---- heads
  pub head_outside : (at : ℕ) (h : Head) → Outside l (put_head_at l at h) at (at + head_size)
  unfolding put_head_at
  head_outside at h = puts_outside head_widths (head_numbers h) l at

  head_same : (at : ℕ) (h : Head) → SizedHead h → at + head_size ≤ image_length → head_at (put_head_at l at h) at ≡ h
  unfolding head_at put_head_at
  head_same at h k r = ap to_head (puts_same head_widths (head_numbers h) l at (head_room h k) (omega arith))

  shown_committed : (h : Head) → SizedHead h → view (write l (committed_head h)) ≡ after (view l) (committed_head h)
  unfolding write after view
  shown_committed h k =
      let m = put_head_at l committed_at h in
      let o : Outside l m committed_at (committed_at + head_size) = head_outside committed_at h in
      in_committed m (wider l m _ _ _ _ o (omega arith) (omega arith)) _
      (same_ledger (head_at m committed_at) (table_of m of_committed) (table_of m of_owners) h (table_of l of_committed) (table_of l of_owners)
      (head_same committed_at h k (omega arith)) (table_kept l m _ _ o of_committed (inr (omega arith))) (table_kept l m _ _ o of_owners (inr (omega arith))))

  shown_applied : (h : Head) → SizedHead h → view (write l (applied_head h)) ≡ after (view l) (applied_head h)
  unfolding write after view
  shown_applied h k =
      let m = put_head_at l applied_at h in
      let o : Outside l m applied_at (applied_at + head_size) = head_outside applied_at h in
      in_applied m (wider l m _ _ _ _ o (omega arith) (omega arith)) _
      (same_part (head_at m applied_at) (table_of m of_applied) h (table_of l of_applied) (head_same applied_at h k (omega arith)) (table_kept l m _ _ o of_applied (inr (omega arith))))

  -- ---- one value of a table
  module _ (b : Table) (p v : ℕ) (h : p < 32) where
    pub value_outside : Outside l (put_field l (values_at b + 2 * p) 2 v) (values_at b) (values_at b + table_size)
    value_outside = wider l (put_field l (values_at b + 2 * p) 2 v) _ _ _ _ (put_outside 2 l (values_at b + 2 * p) v) (omega arith) (omega arith)

    value_same : v < 65536 → values_at b + table_size ≤ image_length → table_of (put_field l (values_at b + 2 * p) 2 v) b ≡ set (table_of l b) p v
    unfolding table_of
    value_same k r = table_set 32 l (values_at b) p v h k (omega arith)

  -- the target's values alone
  target_values_holds : (m vs : List ℕ) → Outside l m (values_at of_target) (values_at of_target + table_size) → table_of m of_target ≡ vs
      → view m ≡ with_net (view l) (record { configuration = configuration_of l; mastership = mastership_of l; connections = connections_of l; target = target_of l; values = vs })
  target_values_holds m vs o q =
      in_net m (wider l m _ _ _ _ o (omega arith) (omega arith)) _
      (same_net _ _ _ _ _ _ _ _ _ _ (configuration_kept l m _ _ o (inr (omega arith))) (mastership_kept l m _ _ o (inr (omega arith)))
      (connections_kept l m _ _ o (inr (omega arith))) (target_kept l m _ _ o (inr (omega arith))) q)

  value_in : (b : Table) (p v : ℕ) → v < 65536 → p < 32 → view (put_field l (values_at b + 2 * p) 2 v) ≡ after_value (view l) b p v
  unfolding view
  value_in of_committed p v k h =
      let m = put_field l (values_at of_committed + 2 * p) 2 v in
      let o : Outside l m (values_at of_committed) (values_at of_committed + table_size) = value_outside of_committed p v h in
      in_committed m (wider l m _ _ _ _ o (omega arith) (omega arith)) _
      (same_ledger (head_at m committed_at) (table_of m of_committed) (table_of m of_owners) (head_at l committed_at) (set (table_of l of_committed) p v) (table_of l of_owners)
      (head_kept l m _ _ o committed_at (inl (omega arith))) (value_same of_committed p v h k (omega arith)) (table_kept l m _ _ o of_owners (inr (omega arith))))
  value_in of_owners p v k h =
      let m = put_field l (values_at of_owners + 2 * p) 2 v in
      let o : Outside l m (values_at of_owners) (values_at of_owners + table_size) = value_outside of_owners p v h in
      in_committed m (wider l m _ _ _ _ o (omega arith) (omega arith)) _
      (same_ledger (head_at m committed_at) (table_of m of_committed) (table_of m of_owners) (head_at l committed_at) (table_of l of_committed) (set (table_of l of_owners) p v)
      (head_kept l m _ _ o committed_at (inl (omega arith))) (table_kept l m _ _ o of_committed (inl (omega arith))) (value_same of_owners p v h k (omega arith)))
  value_in of_applied p v k h =
      let m = put_field l (values_at of_applied + 2 * p) 2 v in
      let o : Outside l m (values_at of_applied) (values_at of_applied + table_size) = value_outside of_applied p v h in
      in_applied m (wider l m _ _ _ _ o (omega arith) (omega arith)) _
      (same_part (head_at m applied_at) (table_of m of_applied) (head_at l applied_at) (set (table_of l of_applied) p v) (head_kept l m _ _ o applied_at (inl (omega arith))) (value_same of_applied p v h k (omega arith)))
  value_in of_target p v k h =
      let m = put_field l (values_at of_target + 2 * p) 2 v in
      let o : Outside l m (values_at of_target) (values_at of_target + table_size) = value_outside of_target p v h in
      target_values_holds m _ o (value_same of_target p v h k (omega arith))
  value_in of_base p v k h =
      let m = put_field l (values_at of_base + 2 * p) 2 v in
      let o : Outside l m (values_at of_base) (values_at of_base + table_size) = value_outside of_base p v h in
      let e : (folded_of m ≡ folded_of l) × (last_of m ≡ last_of l) = (folded_kept l m _ _ o (inl (omega arith)), last_kept l m _ _ o (inl (omega arith))) in
      shown_base l m _ _ o (omega arith) _
      (same_log m _ _ _ e.0 (value_same of_base p v h k (omega arith))
      (ap₂ (λ (b n : ℕ). up_from (entry_at m) b n) e.0 e.1 ∙ entries_kept l m _ _ o (folded_of l) (last_of l) (omega arith)))

  value_out : (b : Table) (p v : ℕ) → 32 ≤ p → view l ≡ after_value (view l) b p v
  unfolding view
  value_out of_committed p v h = let e : table_of l of_committed ≡ set (table_of l of_committed) p v = sym (set_out (table_of l of_committed) p v (omega (arith, length_table l of_committed))) in
      ap (λ (x : List ℕ). with_committed (view l) (record { head = head_at l committed_at; values = x; owners = table_of l of_owners })) e
  value_out of_owners p v h = let e : table_of l of_owners ≡ set (table_of l of_owners) p v = sym (set_out (table_of l of_owners) p v (omega (arith, length_table l of_owners))) in
      ap (λ (x : List ℕ). with_committed (view l) (record { head = head_at l committed_at; values = table_of l of_committed; owners = x })) e
  value_out of_applied p v h = let e : table_of l of_applied ≡ set (table_of l of_applied) p v = sym (set_out (table_of l of_applied) p v (omega (arith, length_table l of_applied))) in
      ap (λ (x : List ℕ). with_applied (view l) (record { head = head_at l applied_at; values = x })) e
  value_out of_target p v h = let e : table_of l of_target ≡ set (table_of l of_target) p v = sym (set_out (table_of l of_target) p v (omega (arith, length_table l of_target))) in
      ap (λ (x : List ℕ). with_net (view l) (record { configuration = configuration_of l; mastership = mastership_of l; connections = connections_of l; target = target_of l; values = x })) e
  value_out of_base p v h = let e : table_of l of_base ≡ set (table_of l of_base) p v = sym (set_out (table_of l of_base) p v (omega (arith, length_table l of_base))) in
      ap (λ (x : List ℕ). with_log (view l) (record { folded = num (folded_of l); base = x; entries = entries_of l })) e

  shown_value : (b : Table) (p v : ℕ) → v < 65536 → view (write l (value b p v)) ≡ after (view l) (value b p v)
  unfolding write after
  shown_value b p v k = go (ltb p 32) refl
    where
      go : (x : Bool) → ltb p 32 ≡ x → view (cond x (put_field l (values_at b + 2 * p) 2 v) l) ≡ after_value (view l) b p v
      go true e = value_in b p v k (ltb-true p 32 e)
      go false e = value_out b p v (ltb-false p 32 e)

  -- ---- all of the target's values
  table_same : (vs : List ℕ) → SizedTable vs → table_of (put_fields l (values_at of_target) table_widths vs) of_target ≡ vs
  unfolding table_of
  table_same vs k = puts_same table_widths vs l (values_at of_target) (table_room vs k) (omega arith)

  shown_table : (vs : List ℕ) → SizedTable vs → view (write l (target_values vs)) ≡ after (view l) (target_values vs)
  unfolding write after view
  shown_table vs k = target_values_holds (put_fields l (values_at of_target) table_widths vs) vs (puts_outside table_widths vs l (values_at of_target)) (table_same vs k)

  -- ---- configuration, mastership, target, connections
  pub configuration_outside : (g : Configuration) → Outside l (put_configuration l g) configuration_at (configuration_at + 5)
  unfolding put_configuration
  configuration_outside g = puts_outside configuration_widths (configuration_numbers g) l configuration_at

  configuration_same : (g : Configuration) → g.term.0 < 4294967296 → configuration_of (put_configuration l g) ≡ g
  unfolding configuration_of put_configuration
  configuration_same g k = ap to_configuration (puts_same configuration_widths (configuration_numbers g) l configuration_at (configuration_room g k) (omega arith)) ∙ configuration_back g

  shown_configuration : (g : Configuration) → g.term.0 < 4294967296 → view (write l (configuration g)) ≡ after (view l) (configuration g)
  unfolding write after view
  shown_configuration g k =
      let m = put_configuration l g in
      let o : Outside l m configuration_at (configuration_at + 5) = configuration_outside g in
      in_net m (wider l m _ _ _ _ o (omega arith) (omega arith)) _
      (same_net _ _ _ _ _ _ _ _ _ _ (configuration_same g k) (mastership_kept l m _ _ o (inr (omega arith))) (connections_kept l m _ _ o (inr (omega arith)))
      (target_kept l m _ _ o (inr (omega arith))) (table_kept l m _ _ o of_target (inl (omega arith))))

  mastership_outside : (x : Mastership) → Outside l (put_mastership l x) mastership_at (mastership_at + 9)
  unfolding put_mastership
  mastership_outside x = puts_outside mastership_widths (mastership_numbers x) l mastership_at

  mastership_same : (x : Mastership) → SizedMastership x → mastership_of (put_mastership l x) ≡ x
  unfolding mastership_of put_mastership
  mastership_same x k = ap to_mastership (puts_same mastership_widths (mastership_numbers x) l mastership_at (mastership_room x k) (omega arith))

  shown_mastership : (x : Mastership) → SizedMastership x → view (write l (mastership x)) ≡ after (view l) (mastership x)
  unfolding write after view
  shown_mastership x k =
      let m = put_mastership l x in
      let o : Outside l m mastership_at (mastership_at + 9) = mastership_outside x in
      in_net m (wider l m _ _ _ _ o (omega arith) (omega arith)) _
      (same_net _ _ _ _ _ _ _ _ _ _ (configuration_kept l m _ _ o (inl (omega arith))) (mastership_same x k) (connections_kept l m _ _ o (inr (omega arith)))
      (target_kept l m _ _ o (inr (omega arith))) (table_kept l m _ _ o of_target (inl (omega arith))))

  target_outside : (t : Target) → Outside l (put_target l t) target_at (target_at + 6)
  unfolding put_target
  target_outside t = puts_outside target_widths (target_numbers t) l target_at

  target_same : (t : Target) → t.id < 4294967296 → target_of (put_target l t) ≡ t
  unfolding target_of put_target
  target_same t k = ap to_target (puts_same target_widths (target_numbers t) l target_at (target_room t k) (omega arith)) ∙ target_back t

  shown_target : (t : Target) → t.id < 4294967296 → view (write l (target t)) ≡ after (view l) (target t)
  unfolding write after view
  shown_target t k =
      let m = put_target l t in
      let o : Outside l m target_at (target_at + 6) = target_outside t in
      in_net m (wider l m _ _ _ _ o (omega arith) (omega arith)) _
      (same_net _ _ _ _ _ _ _ _ _ _ (configuration_kept l m _ _ o (inl (omega arith))) (mastership_kept l m _ _ o (inl (omega arith)))
      (connections_kept l m _ _ o (inr (omega arith))) (target_same t k) (table_kept l m _ _ o of_target (inl (omega arith))))

  connections_outside : (xs : List Connection) → Outside l (put_connections l xs) connections_at (connections_at + connections_size)
  unfolding put_connections
  connections_outside xs = puts_outside connections_widths (connections_numbers (eight xs)) l connections_at

  connections_same : (xs : List Connection) → SizedConnections xs → connections_of (put_connections l xs) ≡ xs
  unfolding connections_of put_connections
  connections_same xs k =
      let e : eight xs ≡ xs = sym (eight_all xs k.size) in
      ap to_connections (puts_same connections_widths (connections_numbers (eight xs)) l connections_at (subst (λ (y : List Connection). Fit connections_widths (connections_numbers y)) (eight_all xs k.size) (connections_room xs k)) (omega arith))
      ∙ connections_back (eight xs) ∙ e

  shown_connections : (xs : List Connection) → SizedConnections xs → view (write l (connections xs)) ≡ after (view l) (connections xs)
  unfolding write after view
  shown_connections xs k =
      let m = put_connections l xs in
      let o : Outside l m connections_at (connections_at + connections_size) = connections_outside xs in
      in_net m (wider l m _ _ _ _ o (omega arith) (omega arith)) _
      (same_net _ _ _ _ _ _ _ _ _ _ (configuration_kept l m _ _ o (inl (omega arith))) (mastership_kept l m _ _ o (inl (omega arith))) (connections_same xs k)
      (target_kept l m _ _ o (inl (omega arith))) (table_kept l m _ _ o of_target (inl (omega arith))))

  -- ---- any store
  pub shown : (e : Store) → Fits (folded_of l) (last_of l) e → view (write l e) ≡ after (view l) e
  shown (grow t) h = shown_grow t h.0 h.1
  shown (entry i t) h = shown_entry i t h.0 h.1
  shown (fold b) h = shown_fold b h
  shown (change n) h = shown_change n h
  shown (committed_head k) h = shown_committed k h
  shown (applied_head k) h = shown_applied k h
  shown (value b p v) h = shown_value b p v h
  shown (target_values vs) h = shown_table vs h
  shown (configuration g) h = shown_configuration g h
  shown (mastership x) h = shown_mastership x h
  shown (connections xs) h = shown_connections xs h
  shown (target t) h = shown_target t h

  -- a store keeps the image's length
  length_if : (x : Bool) (at v : ℕ) → length (cond x (put_field l at 2 v) l) ≡ image_length
  length_if true at v = length_put 2 l at v ∙ z
  length_if false at v = z

  pub length_write : (e : Store) → length (write l e) ≡ image_length
  unfolding write put_head_at put_configuration put_mastership put_connections put_target
  length_write (grow t) = length_put 2 (put_entry_at l (last_of l + 1) t) last_at (last_of l + 1) ∙ length_entry (last_of l + 1) t
  length_write (entry i t) = length_entry i t
  length_write (fold b) = length_put 2 l folded_at b.0 ∙ z
  length_write (change n) = length_put 2 l change_at n.0 ∙ z
  length_write (committed_head h) = length_puts head_widths (head_numbers h) l committed_at ∙ z
  length_write (applied_head h) = length_puts head_widths (head_numbers h) l applied_at ∙ z
  length_write (value b p v) = length_if (ltb p 32) (values_at b + 2 * p) v
  length_write (target_values vs) = length_puts table_widths vs l (values_at of_target) ∙ z
  length_write (configuration g) = length_puts configuration_widths (configuration_numbers g) l configuration_at ∙ z
  length_write (mastership m) = length_puts mastership_widths (mastership_numbers m) l mastership_at ∙ z
  length_write (connections xs) = length_puts connections_widths (connections_numbers (eight xs)) l connections_at ∙ z
  length_write (target t) = length_puts target_widths (target_numbers t) l target_at ∙ z

  -- ---- the last fold and the highest number after a store
  abbrev pub Ends : List ℕ → Store → Type 0
  Ends m e = (folded_of m ≡ folded_after (folded_of l) e) × (last_of m ≡ last_after (last_of l) e)

  ends_value : (b : Table) (p v : ℕ) → (x : Bool) → ltb p 32 ≡ x
      → (folded_of (cond x (put_field l (values_at b + 2 * p) 2 v) l) ≡ folded_of l) × (last_of (cond x (put_field l (values_at b + 2 * p) 2 v) l) ≡ last_of l)
  ends_value b p v false e = (refl, refl)
  ends_value of_committed p v true e =
      ends_kept l (put_field l (values_at of_committed + 2 * p) 2 v) _ _ (value_outside of_committed p v (ltb-true p 32 e)) (omega arith) (omega arith)
  ends_value of_owners p v true e =
      ends_kept l (put_field l (values_at of_owners + 2 * p) 2 v) _ _ (value_outside of_owners p v (ltb-true p 32 e)) (omega arith) (omega arith)
  ends_value of_applied p v true e =
      ends_kept l (put_field l (values_at of_applied + 2 * p) 2 v) _ _ (value_outside of_applied p v (ltb-true p 32 e)) (omega arith) (omega arith)
  ends_value of_target p v true e =
      ends_kept l (put_field l (values_at of_target + 2 * p) 2 v) _ _ (value_outside of_target p v (ltb-true p 32 e)) (omega arith) (omega arith)
  ends_value of_base p v true e =
      let m = put_field l (values_at of_base + 2 * p) 2 v in
      let o : Outside l m (values_at of_base) (values_at of_base + table_size) = value_outside of_base p v (ltb-true p 32 e) in
      (folded_kept l m _ _ o (inl (omega arith)), last_kept l m _ _ o (inl (omega arith)))

  pub ends_write : (e : Store) → Fits (folded_of l) (last_of l) e → Ends (write l e) e
  unfolding write
  ends_write (grow t) h =
      (folded_kept l _ _ _ (grow_outside t) (inr (omega arith)), counted (put_entry_at l (last_of l + 1) t) (last_of l) (length_entry (last_of l + 1) t) h.1.1)
  ends_write (entry i t) h =
      let x : place_of i + stride ≤ last_at = omega arith in
      (folded_kept l _ _ _ (entry_outside i t) (inr (omega arith)), last_kept l _ _ _ (entry_outside i t) (inr x))
  ends_write (fold b) h = (fold_same b.0 (omega (arith, h.1, f.1.1)), last_kept l _ _ _ (fold_outside b.0) (inl (omega arith)))
  ends_write (change n) h = ends_kept l _ _ _ (change_outside n.0) (omega arith) (omega arith)
  ends_write (committed_head k) h = ends_kept l _ _ _ (head_outside committed_at k) (omega arith) (omega arith)
  ends_write (applied_head k) h = ends_kept l _ _ _ (head_outside applied_at k) (omega arith) (omega arith)
  ends_write (value b p v) h = ends_value b p v (ltb p 32) refl
  ends_write (target_values vs) h = ends_kept l _ _ _ (puts_outside table_widths vs l (values_at of_target)) (omega arith) (omega arith)
  ends_write (configuration g) h = ends_kept l _ _ _ (configuration_outside g) (omega arith) (omega arith)
  ends_write (mastership x) h = ends_kept l _ _ _ (mastership_outside x) (omega arith) (omega arith)
  ends_write (connections xs) h = ends_kept l _ _ _ (connections_outside xs) (omega arith) (omega arith)
  ends_write (target t) h = ends_kept l _ _ _ (target_outside t) (omega arith) (omega arith)

-- a store that fits leaves room
pub room_after : (b n : ℕ) (e : Store) → Fits b n e → Room b n → Room (folded_after b e) (last_after n e)
room_after b n (grow t) h k = (omega (arith, k.0), (omega (arith, h.1.0), omega (arith, h.1.1)))
room_after b n (entry i t) h k = k
room_after b n (fold i) h k = (h.1, (omega (arith, h.0, k.1.0), k.1.1))
room_after b n (change i) h k = k
room_after b n (committed_head x) h k = k
room_after b n (applied_head x) h k = k
room_after b n (value c p v) h k = k
room_after b n (target_values vs) h k = k
room_after b n (configuration g) h k = k
room_after b n (mastership m) h k = k
room_after b n (connections xs) h k = k
room_after b n (target t) h k = k

-- the same of the image with the store made
pub room_write : (l : List ℕ) → length l ≡ image_length → Room (folded_of l) (last_of l) → (e : Store) → Fits (folded_of l) (last_of l) e
    → Room (folded_of (write l e)) (last_of (write l e))
room_write l z f e h = let c = ends_write l z f e h in rw (c.0, c.1) (room_after (folded_of l) (last_of l) e h f)

pub rest_fits : (l : List ℕ) (z : length l ≡ image_length) (f : Room (folded_of l) (last_of l)) (e : Store) (es : List Store)
    → FitsAll (folded_of l) (last_of l) (e ∷ es) → FitsAll (folded_of (write l e)) (last_of (write l e)) es
rest_fits l z f e es h = let c = ends_write l z f e h.0 in rw (c.0, c.1) h.1

-- THE law of the image: what the written image shows is what it showed, with the same stores made
pub view_written : (es : List Store) (l : List ℕ) → length l ≡ image_length → Room (folded_of l) (last_of l) → FitsAll (folded_of l) (last_of l) es
    → view (written l es) ≡ afters (view l) es
unfolding written afters
view_written [] l z f h = refl
view_written (e ∷ es) l z f h =
    view_written es (write l e) (length_write l z f e) (room_write l z f e h.0) (rest_fits l z f e es h)
    ∙ ap (λ (s : State). afters s es) (shown l z f e h.0)

pub length_written : (es : List Store) (l : List ℕ) → length l ≡ image_length → Room (folded_of l) (last_of l) → FitsAll (folded_of l) (last_of l) es
    → length (written l es) ≡ image_length
unfolding written
length_written [] l z f h = z
length_written (e ∷ es) l z f h = length_written es (write l e) (length_write l z f e) (room_write l z f e h.0) (rest_fits l z f e es h)

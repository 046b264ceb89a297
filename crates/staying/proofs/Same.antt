-- An image is the state that it shows: well-formed images that show the same have the same bytes, but for slots of no number
-- kept. Where only connections differ, so do no bytes but theirs. Assumes nothing.
use Prim.Native.Nat.{ℕ, zero, suc, ◌+◌, ◌-◌, ◌≤◌, ◌<◌}
use mathlib.Core.Path.{◌≡◌, refl, ap, sym, ◌∙◌, subst}
use mathlib.Core.Logic.{◌⊎◌, inl, inr, ⊎_elim}
use mathlib.Core.Bool.{Bool, true, false}
use mathlib.Core.List.{List}
use native.Mathlib.Omega.{arith}
use borrow.Author.Tests.{ltb-true, ltb-false, leb-true, leb-false}
use lib.Dec.{ltb, leb}
use lib.ListN.{length, get_or, get_or-eq_default}
use lib.Seq.{ext_get_or}
use Rattle.kinds.specs.declared.Transaction.{Transaction}
use Rattle.kinds.specs.declared.Head.{Head}
use Rattle.kinds.specs.declared.Connection.{Connection}
use Rattle.fields.specs.Field.{field, put_field, fields_at, put_fields, total}
use Rattle.fields.proofs.Laws.{Bytes, put_back}
use Rattle.machine.specs.State.{Log, State, entry_of, last, is_node, node_of}
use Rattle.machine.specs.Stores.{Table, of_committed, of_applied, of_target, of_base, of_owners, connections, after}
use Rattle.image.specs.Layout.{entry_widths, head_widths, table_widths, configuration_widths, mastership_widths, target_widths, node_widths, connections_widths, place_of, last_at, change_at, committed_at, applied_at, values_at, configuration_at, mastership_at, target_at, connections_at, node_at, folded_at, image_length, stride, head_size, table_size, node_size, number_size}
use Rattle.image.specs.Records.{entry_numbers, entry_at, put_entry_at, last_of, folded_of, change_of, head_numbers, head_at, put_head_at, configuration_numbers, configuration_of, put_configuration, mastership_numbers, mastership_of, put_mastership, target_numbers, target_of, put_target, node_numbers, to_node, put_node_at, connections_numbers, eight, connections_of, put_connections}
use Rattle.image.specs.View.{table_of, view}
use Rattle.image.specs.Formed.{flags_ok, formed, all_kept, entry_statuses_ok, statuses_ok}
use Rattle.image.proofs.UpTo.{and_left, and_right, kept_at}
use Rattle.image.proofs.Scanned.{view_folded, view_last, view_entry, formed_length, formed_codes, formed_room}
use Rattle.image.proofs.Chain.{node_loaded}
use Rattle.image.proofs.Back.{head_back, table_back, mastership_back, entry_stored_back, configuration_stored_back, target_stored_back, node_stored_back, connections_stored_back}
use Rattle.staying.proofs.Unused.{Used, past, slot, Free}
use Rattle.staying.proofs.Both.{put_both, puts_both}

-- ---- the codes of a well-formed image
flags : (l : List ℕ) → formed l ≡ true → flags_ok l ≡ true
flags l w = and_right (all_kept (entry_statuses_ok l) (folded_of l) (last_of l)) _ (and_right (leb (folded_of l) (last_of l)) _ (formed_codes l w))

pub statuses : (l : List ℕ) → formed l ≡ true → (k : ℕ) → folded_of l < k → k ≤ last_of l → statuses_ok l (place_of k) ≡ true
statuses l w = kept_at (entry_statuses_ok l) (folded_of l) (last_of l) (and_left _ _ (and_right (leb (folded_of l) (last_of l)) _ (formed_codes l w)))

-- ---- a byte of the ring is in use or free
module _ (b j : ℕ) where
  used_or_free : (n : ℕ) → (Used b n j) ⊎ (Free b n j)
  used_or_free zero = inr (λ k p q. absurd (omega (arith, p, q)))
  used_or_free (suc n) = ⊎_elim (λ u. inl (wider u)) (λ f. here f (ltb b (suc n)) refl (leb (place_of (suc n)) j) refl (ltb j (place_of (suc n) + stride)) refl) (used_or_free n)
    where
      wider : Used b n j → Used b (suc n) j
      wider (past h) = past h
      wider (slot k p q r s) = slot k p (omega (arith, q)) r s

      beside : Free b n j → (b < suc n → (j < place_of (suc n)) ⊎ (place_of (suc n) + stride ≤ j)) → Free b (suc n) j
      beside f g k p q = go (leb k n) refl
        where
          go : (t : Bool) → leb k n ≡ t → (j < place_of k) ⊎ (place_of k + stride ≤ j)
          go true e = f k p (leb-true k n e)
          go false e =
              let d : suc n ≡ k = omega (arith, q, leb-false k n e) in
              subst (λ (i : ℕ). (j < place_of i) ⊎ (place_of i + stride ≤ j)) d (g (omega (arith, p)))

      here : Free b n j → (x : Bool) → ltb b (suc n) ≡ x → (y : Bool) → leb (place_of (suc n)) j ≡ y → (z : Bool) → ltb j (place_of (suc n) + stride) ≡ z
          → (Used b (suc n) j) ⊎ (Free b (suc n) j)
      here f true d true e true g = inl (slot (suc n) (ltb-true b (suc n) d) (omega arith) (leb-true _ j e) (ltb-true j _ g))
      here f true d true e false g = inr (beside f (λ p. inr (ltb-false j _ g)))
      here f true d false e z g = inr (beside f (λ p. inl (leb-false _ j e)))
      here f false d y e z g = inr (beside f (λ p. absurd (omega (arith, p, ltb-false b (suc n) d))))

-- ---- a byte of what both have: what was read is written back, in both
module _ (l m : List ℕ) (z : length m ≡ length l) (j at : ℕ) where
  run_same : (ws xs ys : List ℕ) → length ws ≡ length xs → ys ≡ xs → put_fields l at ws xs ≡ l → put_fields m at ws ys ≡ m → at ≤ j → j < at + total ws
      → get_or m j 0 ≡ get_or l j 0
  run_same ws xs ys n e p q a b =
      ap (λ (k : List ℕ). get_or k j 0) (sym q) ∙ ap (λ (v : List ℕ). get_or (put_fields m at ws v) j 0) e ∙ puts_both ws xs l m at j z (inl (n, (a, b)))
      ∙ ap (λ (k : List ℕ). get_or k j 0) p

  field_same : (w : ℕ) → Bytes l → Bytes m → field m at w ≡ field l at w → at ≤ j → j < at + w → get_or m j 0 ≡ get_or l j 0
  field_same w y x e a b =
      ap (λ (k : List ℕ). get_or k j 0) (sym (put_back w m at x)) ∙ ap (λ (v : ℕ). get_or (put_field m at w v) j 0) e
      ∙ put_both w l m at (field l at w) j z (inl (a, b)) ∙ ap (λ (k : List ℕ). get_or k j 0) (put_back w l at y)

-- a number is below another or not
split : {R : Type 0} (j b : ℕ) → (j < b → R) → (b ≤ j → R) → R
split {R} j b f g = go (ltb j b) refl
  where
    go : (t : Bool) → ltb j b ≡ t → R
    go true e = f (ltb-true j b e)
    go false e = g (ltb-false j b e)

-- ---- well-formed images that show the same but for connections
module _ (l m : List ℕ) (y : Bytes l) (x : Bytes m) (u : formed l ≡ true) (w : formed m ≡ true) where
  same_length : length m ≡ length l
  same_length = formed_length m w ∙ sym (formed_length l u)

  module _ (cs : List Connection) (e : view m ≡ after (view l) (connections cs)) where
    log_same : (view m).log ≡ (view l).log
    unfolding after
    log_same = ap (λ (s : State). s.log) e

    pub folded_same : folded_of m ≡ folded_of l
    folded_same = sym (view_folded m) ∙ ap (λ (g : Log). g.folded.0) log_same ∙ view_folded l

    pub last_same : last_of m ≡ last_of l
    last_same = sym (view_last m (formed_room m w).0) ∙ ap last log_same ∙ view_last l (formed_room l u).0

    entry_same : (k : ℕ) → folded_of l < k → k ≤ last_of l → entry_at m k ≡ entry_at l k
    entry_same k p q =
        sym (view_entry m k (omega (arith, folded_same)) (omega (arith, last_same))) ∙ ap (λ (g : Log). entry_of g k) log_same ∙ view_entry l k p q

    module _ (j : ℕ) where
      abbrev Same : Type 0
      Same = get_or m j 0 ≡ get_or l j 0

      in_entry : (k : ℕ) → folded_of l < k → k ≤ last_of l → place_of k ≤ j → j < place_of k + stride → Same
      unfolding put_entry_at
      in_entry k p q =
          run_same l m same_length j (place_of k) entry_widths (entry_numbers (entry_at l k)) (entry_numbers (entry_at m k)) refl
          (ap (λ (t : Transaction). entry_numbers t) (entry_same k p q))
          (entry_stored_back l y k (statuses l u k p q)) (entry_stored_back m x k (statuses m w k (omega (arith, folded_same)) (omega (arith, last_same))))

      in_last : last_at ≤ j → j < last_at + number_size → Same
      unfolding last_of
      in_last = field_same l m same_length j last_at number_size y x last_same

      in_change : change_at ≤ j → j < change_at + number_size → Same
      unfolding view after change_of
      in_change = field_same l m same_length j change_at number_size y x (ap (λ (s : State). s.change.0) e)

      in_folded : folded_at ≤ j → j < folded_at + number_size → Same
      unfolding folded_of
      in_folded = field_same l m same_length j folded_at number_size y x folded_same

      in_head : (at : ℕ) → head_at m at ≡ head_at l at → at ≤ j → j < at + head_size → Same
      unfolding put_head_at
      in_head at h =
          run_same l m same_length j at head_widths (head_numbers (head_at l at)) (head_numbers (head_at m at)) refl (ap (λ (k : Head). head_numbers k) h) (head_back l y at) (head_back m x at)

      in_table : (b : Table) → table_of m b ≡ table_of l b → values_at b ≤ j → j < values_at b + table_size → Same
      unfolding table_of fields_at
      in_table b h = run_same l m same_length j (values_at b) table_widths (table_of l b) (table_of m b) refl h (table_back l y b) (table_back m x b)

      in_configuration : configuration_at ≤ j → j < configuration_at + total configuration_widths → Same
      unfolding view after put_configuration
      in_configuration =
          run_same l m same_length j configuration_at configuration_widths (configuration_numbers (configuration_of l)) (configuration_numbers (configuration_of m)) refl
          (ap (λ (s : State). configuration_numbers s.net.configuration) e) (configuration_stored_back l y (flags l u)) (configuration_stored_back m x (flags m w))

      in_mastership : mastership_at ≤ j → j < mastership_at + total mastership_widths → Same
      unfolding view after put_mastership
      in_mastership =
          run_same l m same_length j mastership_at mastership_widths (mastership_numbers (mastership_of l)) (mastership_numbers (mastership_of m)) refl
          (ap (λ (s : State). mastership_numbers s.net.mastership) e) (mastership_back l y) (mastership_back m x)

      in_target : target_at ≤ j → j < target_at + total target_widths → Same
      unfolding view after put_target
      in_target =
          run_same l m same_length j target_at target_widths (target_numbers (target_of l)) (target_numbers (target_of m)) refl
          (ap (λ (s : State). target_numbers s.net.target) e) (target_stored_back l y (flags l u)) (target_stored_back m x (flags m w))

      -- the byte of a node that has the same connection in both
      pub in_node : (n : ℕ) → is_node n ≡ true → node_of (view m).net.connections n ≡ node_of (view l).net.connections n
          → node_at (n - 1) ≤ j → j < node_at (n - 1) + node_size → Same
      unfolding view put_node_at
      in_node n i h =
          let a : 1 ≤ n = leb-true 1 n (and_left (leb 1 n) (leb n 8) i) in
          let b : n ≤ 8 = leb-true n 8 (and_right (leb 1 n) (leb n 8) i) in
          let at = node_at (n - 1) in
          let d : to_node m at ≡ to_node l at = node_loaded m n (to_node m at) a b refl ∙ h ∙ sym (node_loaded l n (to_node l at) a b refl) in
          run_same l m same_length j at (node_widths 1) (node_numbers (to_node l at)) (node_numbers (to_node m at)) refl (ap (λ (c : Connection). node_numbers c) d)
          (node_stored_back l y (flags l u) (n - 1) (omega arith)) (node_stored_back m x (flags m w) (n - 1) (omega arith))

      -- behind the ring, before the connections and behind them
      before : last_at ≤ j → j < connections_at → Same
      unfolding view after
      before h o =
          split j change_at (λ a. in_last h a)
          (λ b. split j committed_at (λ a. in_change b a)
          (λ b. split j (committed_at + head_size) (λ a. in_head committed_at (ap (λ (s : State). s.committed.head) e) b a)
          (λ b. split j (values_at of_owners) (λ a. in_table of_committed (ap (λ (s : State). s.committed.values) e) b a)
          (λ b. split j applied_at (λ a. in_table of_owners (ap (λ (s : State). s.committed.owners) e) b a)
          (λ b. split j (applied_at + head_size) (λ a. in_head applied_at (ap (λ (s : State). s.applied.head) e) b a)
          (λ b. split j (values_at of_target) (λ a. in_table of_applied (ap (λ (s : State). s.applied.values) e) b a)
          (λ b. split j configuration_at (λ a. in_table of_target (ap (λ (s : State). s.net.values) e) b a)
          (λ b. split j mastership_at (λ a. in_configuration b a)
          (λ b. split j target_at (λ a. in_mastership b a) (λ b. in_target b o))))))))))

      behind : folded_at ≤ j → Same
      unfolding view after
      behind h =
          split j (values_at of_base) (λ a. in_folded h a)
          (λ b. split j image_length (λ a. in_table of_base (ap (λ (s : State). s.log.base) e) b a)
          (λ b. get_or-eq_default m 0 (omega (arith, formed_length m w)) ∙ sym (get_or-eq_default l 0 (omega (arith, formed_length l u)))))

      -- so every byte in use but the connections' is the same
      used_same : Used (folded_of l) (last_of l) j → (j < connections_at) ⊎ (folded_at ≤ j) → Same
      used_same (slot k p q r s) o = in_entry k p q r s
      used_same (past h) (inl o) = before h o
      used_same (past h) (inr o) = behind o

    -- and with the slots of no number kept, every byte but the connections'
    abbrev FreeSame : Type 0
    FreeSame = (j : ℕ) → j < last_at → Free (folded_of l) (last_of l) j → get_or m j 0 ≡ get_or l j 0

    pub beside_same : FreeSame → (j : ℕ) → (j < connections_at) ⊎ (folded_at ≤ j) → get_or m j 0 ≡ get_or l j 0
    beside_same f j o =
        split j last_at (λ a. ⊎_elim (λ v. used_same j v o) (f j a) (used_or_free (folded_of l) j (last_of l))) (λ b. used_same j (past b) o)

  -- ---- that show the same: no byte is another
  pub image_same : view m ≡ view l → ((j : ℕ) → j < last_at → Free (folded_of l) (last_of l) j → get_or m j 0 ≡ get_or l j 0) → m ≡ l
  unfolding view after put_connections
  image_same e f =
      ext_get_or 0 m l same_length
      (λ j h. split j connections_at (λ a. beside_same (connections_of l) e f j (inl a))
      (λ b. split j folded_at
      (λ a. run_same l m same_length j connections_at connections_widths (connections_numbers (eight (connections_of l))) (connections_numbers (eight (connections_of m))) refl
      (ap (λ (s : State). connections_numbers (eight s.net.connections)) e) (connections_stored_back l y (flags l u)) (connections_stored_back m x (flags m w)) b a)
      (λ a. beside_same (connections_of l) e f j (inr a))))

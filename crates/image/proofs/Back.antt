-- Storing what was loaded changes nothing: each record of an image whose codes are codes, written back as it was read,
-- leaves every byte. Assumes nothing.
use Prim.Native.Nat.{ℕ, zero, suc, ◌+◌, ◌≤◌, ◌<◌}
use mathlib.Core.Path.{◌≡◌, refl}
use mathlib.Core.Bool.{true, ◌&&◌}
use mathlib.Core.List.{List}
use native.Mathlib.Omega.{arith}
use borrow.Author.Tests.{leb-true}
use lib.Dec.{leb}
use Rattle.kinds.specs.Statuses.{progress_code, progress_of}
use Rattle.fields.specs.Field.{field, put_field, fields_at, put_fields}
use Rattle.fields.proofs.Laws.{Bytes, put_back}
use Rattle.fields.proofs.Runs.{puts_back}
use Rattle.machine.specs.Stores.{Table}
use Rattle.image.specs.Packed.{packed_of}
use Rattle.image.specs.Layout.{entry_widths, head_widths, table_widths, configuration_widths, mastership_widths, target_widths, node_widths, connections_widths, place_of, change_at, values_at, configuration_at, mastership_at, target_at, connections_at, node_at, connected_at, running_in, remembers_in}
use Rattle.image.specs.Records.{flag_code, flag_of, entry_at, put_entry_at, change_of, head_at, put_head_at, configuration_of, put_configuration, mastership_of, put_mastership, target_of, put_target, to_node, put_node_at, connections_of, put_connections}
use Rattle.image.specs.View.{table_of}
use Rattle.image.specs.Formed.{flag_ok, statuses_ok, flags_ok}
use Rattle.image.proofs.Packed.{packed_back}
use Rattle.image.proofs.UpTo.{and_left, and_right}

-- ---- a code that is one is read and written back as it was
state_back : (n : ℕ) → 1 ≤ n → n ≤ 3 → progress_code (progress_of n) ≡ n
unfolding progress_of
state_back zero a b = absurd (omega arith)
state_back (suc zero) a b = refl
state_back (suc (suc zero)) a b = refl
state_back (suc (suc (suc zero))) a b = refl
state_back (suc (suc (suc (suc n)))) a b = absurd (omega arith)

flag_back : (n : ℕ) → n ≤ 1 → flag_code (flag_of n) ≡ n
flag_back zero h = refl
flag_back (suc zero) h = refl
flag_back (suc (suc n)) h = absurd (omega arith)

module _ (l : List ℕ) (y : Bytes l) where
  -- ---- records with no codes
  pub head_back : (at : ℕ) → put_head_at l at (head_at l at) ≡ l
  unfolding put_head_at head_at fields_at
  head_back at = puts_back head_widths l at y

  pub change_back : put_field l change_at 2 (change_of l) ≡ l
  unfolding change_of
  change_back = put_back 2 l change_at y

  pub table_back : (b : Table) → put_fields l (values_at b) table_widths (table_of l b) ≡ l
  unfolding table_of
  table_back b = puts_back table_widths l (values_at b) y

  pub mastership_back : put_mastership l (mastership_of l) ≡ l
  unfolding put_mastership mastership_of fields_at
  mastership_back = puts_back mastership_widths l mastership_at y

  -- ---- an entry whose statuses are codes
  pub entry_stored_back : (n : ℕ) → statuses_ok l (place_of n) ≡ true → put_entry_at l n (entry_at l n) ≡ l
  unfolding statuses_ok put_entry_at entry_at fields_at packed_of
  entry_stored_back n s = rw (packed_back (field l (place_of n) 2) (leb-true _ _ s)) (puts_back entry_widths l (place_of n) y)

  -- ---- configuration, target and connections, where the flags are flags
  module _ (f : flags_ok l ≡ true) where
    pub configuration_stored_back : put_configuration l (configuration_of l) ≡ l
    unfolding flags_ok put_configuration configuration_of fields_at
    configuration_stored_back =
        let s = and_left (leb 1 (field l configuration_at 1) && leb (field l configuration_at 1) 3) _ f in
        let a : 1 ≤ field l configuration_at 1 = leb-true _ _ (and_left _ _ s) in
        let b : field l configuration_at 1 ≤ 3 = leb-true _ _ (and_right (leb 1 (field l configuration_at 1)) _ s) in
        rw (state_back (field l configuration_at 1) a b) (puts_back configuration_widths l configuration_at y)

    rest : ((flag_ok l (target_at + running_in) && flag_ok l (target_at + remembers_in))
        && ((flag_ok l (connected_at 0) && (flag_ok l (connected_at 1) && (flag_ok l (connected_at 2) && flag_ok l (connected_at 3))))
        && (flag_ok l (connected_at 4) && (flag_ok l (connected_at 5) && (flag_ok l (connected_at 6) && flag_ok l (connected_at 7)))))) ≡ true
    unfolding flags_ok
    rest = and_right (leb 1 (field l configuration_at 1) && leb (field l configuration_at 1) 3) _ f

    pub target_stored_back : put_target l (target_of l) ≡ l
    unfolding put_target target_of fields_at
    target_stored_back =
        let t : (flag_ok l (target_at + running_in) && flag_ok l (target_at + remembers_in)) ≡ true = and_left (flag_ok l (target_at + running_in) && flag_ok l (target_at + remembers_in)) _ rest in
        rw (
          flag_back (field l (target_at + running_in) 1) (leb-true _ _ (and_left _ _ t)),
          flag_back (field l (target_at + remembers_in) 1) (leb-true _ _ (and_right (flag_ok l (target_at + running_in)) _ t)),
        )
        (puts_back target_widths l target_at y)

    nodes : ((flag_ok l (connected_at 0) && (flag_ok l (connected_at 1) && (flag_ok l (connected_at 2) && flag_ok l (connected_at 3))))
        && (flag_ok l (connected_at 4) && (flag_ok l (connected_at 5) && (flag_ok l (connected_at 6) && flag_ok l (connected_at 7))))) ≡ true
    nodes = and_right (flag_ok l (target_at + running_in) && flag_ok l (target_at + remembers_in)) _ rest

    four_flags : (a b d e : ℕ) → (flag_ok l a && (flag_ok l b && (flag_ok l d && flag_ok l e))) ≡ true
        → (field l a 1 ≤ 1) × ((field l b 1 ≤ 1) × ((field l d 1 ≤ 1) × (field l e 1 ≤ 1)))
    four_flags a b d e h =
        let h2 = and_right (flag_ok l a) _ h in
        let h3 = and_right (flag_ok l b) _ h2 in
        (leb-true _ _ (and_left _ _ h), (leb-true _ _ (and_left _ _ h2), (leb-true _ _ (and_left _ _ h3), leb-true _ _ (and_right (flag_ok l d) _ h3))))

    first_four : (field l (connected_at 0) 1 ≤ 1) × ((field l (connected_at 1) 1 ≤ 1) × ((field l (connected_at 2) 1 ≤ 1) × (field l (connected_at 3) 1 ≤ 1)))
    first_four = four_flags (connected_at 0) (connected_at 1) (connected_at 2) (connected_at 3) (and_left _ _ nodes)

    last_four : (field l (connected_at 4) 1 ≤ 1) × ((field l (connected_at 5) 1 ≤ 1) × ((field l (connected_at 6) 1 ≤ 1) × (field l (connected_at 7) 1 ≤ 1)))
    last_four =
        four_flags (connected_at 4) (connected_at 5) (connected_at 6) (connected_at 7)
        (and_right (flag_ok l (connected_at 0) && (flag_ok l (connected_at 1) && (flag_ok l (connected_at 2) && flag_ok l (connected_at 3)))) _ nodes)

    pub connections_stored_back : put_connections l (connections_of l) ≡ l
    unfolding put_connections connections_of fields_at
    connections_stored_back =
        let p = first_four in
        let q = last_four in
        rw (
          flag_back (field l (connected_at 0) 1) p.0,
          flag_back (field l (connected_at 1) 1) p.1.0,
          flag_back (field l (connected_at 2) 1) p.1.1.0,
          flag_back (field l (connected_at 3) 1) p.1.1.1,
          flag_back (field l (connected_at 4) 1) q.0,
          flag_back (field l (connected_at 5) 1) q.1.0,
          flag_back (field l (connected_at 6) 1) q.1.1.0,
          flag_back (field l (connected_at 7) 1) q.1.1.1,
        )
        (puts_back connections_widths l connections_at y)

    -- each node's flag is a flag, k from 0
    node_flag : (k : ℕ) → k < 8 → field l (connected_at k) 1 ≤ 1
    node_flag zero h = first_four.0
    node_flag (suc zero) h = first_four.1.0
    node_flag (suc (suc zero)) h = first_four.1.1.0
    node_flag (suc (suc (suc zero))) h = first_four.1.1.1
    node_flag (suc (suc (suc (suc zero)))) h = last_four.0
    node_flag (suc (suc (suc (suc (suc zero))))) h = last_four.1.0
    node_flag (suc (suc (suc (suc (suc (suc zero)))))) h = last_four.1.1.0
    node_flag (suc (suc (suc (suc (suc (suc (suc zero))))))) h = last_four.1.1.1
    node_flag (suc (suc (suc (suc (suc (suc (suc (suc k)))))))) h = absurd (omega arith)

    pub node_stored_back : (k : ℕ) → k < 8 → put_node_at l (node_at k) (to_node l (node_at k)) ≡ l
    unfolding put_node_at fields_at
    node_stored_back k h = rw (flag_back (field l (connected_at k) 1) (node_flag k h)) (puts_back (node_widths 1) l (node_at k) y)

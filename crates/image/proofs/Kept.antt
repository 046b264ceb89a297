-- What a change of the bytes from a to below e leaves: each part of the view that lies apart. Assumes nothing.
use Prim.Native.Nat.{ℕ, ◌+◌, ◌-◌, ◌*◌, ◌≤◌, ◌<◌}
use mathlib.Core.Path.{◌≡◌, refl, ap, ap₂, ◌∙◌}
use mathlib.Core.Bool.{Bool, true, false, cond}
use mathlib.Core.Logic.{◌⊎◌, inl, inr, ⊎_elim}
use mathlib.Core.List.{List}
use lib.Dec.{ltb}
use lib.ListN.{length}
use native.Mathlib.Omega.{arith}
use Rattle.kinds.specs.declared.Transaction.{Transaction}
use Rattle.kinds.specs.Numbers.{num}
use Rattle.fields.specs.Field.{put_field}
use Rattle.fields.proofs.Laws.{Outside, field_kept, put_outside, length_put}
use Rattle.fields.proofs.Runs.{fields_kept}
use Rattle.machine.specs.Stores.{Table, of_committed, of_target, of_base, of_owners, value}
use Rattle.image.specs.Layout.{entry_widths, head_widths, table_widths, configuration_widths, mastership_widths, target_widths, connections_widths, place_of, last_at, change_at, committed_at, applied_at, values_at, configuration_at, mastership_at, target_at, connections_at, folded_at, stride, head_size, table_size, table_length, value_size, connections_size, connected_at, running_in, remembers_in}
use Rattle.image.specs.Records.{to_entry, entry_at, last_of, folded_of, change_of, to_head, head_at, to_configuration, configuration_of, to_mastership, mastership_of, to_target, target_of, to_connections, connections_of}
use Rattle.image.specs.View.{up_from, table_of, entries_of, log_of, part_of, ledger_of, net_of, write}
use Rattle.image.specs.Formed.{statuses_ok, flags_ok}
use Rattle.image.proofs.UpTo.{up_from_same}

-- a record of w bytes at a place lies apart
abbrev pub Apart : ℕ → ℕ → ℕ → ℕ → Type 0
Apart a e at w = (at + w ≤ a) ⊎ (e ≤ at)

-- the log, from its three parts
pub same_log : (l : List ℕ) (b : ℕ) (vs : List ℕ) (ts : List Transaction) → folded_of l ≡ b → table_of l of_base ≡ vs → entries_of l ≡ ts
    → log_of l ≡ record { folded = num b; base = vs; entries = ts }
same_log l b vs ts p q r = ap₂ (λ (x : ℕ) (y : List ℕ). record { folded = num x; base = y; entries = entries_of l }) p q ∙ ap (λ (z : List Transaction). record { folded = num b; base = vs; entries = z }) r

module _ (l m : List ℕ) (a e : ℕ) (o : Outside l m a e) where
  pub entry_kept : (n : ℕ) → Apart a e (place_of n) stride → entry_at m n ≡ entry_at l n
  unfolding entry_at
  entry_kept n h = ap to_entry (fields_kept l m a e o entry_widths (place_of n) h)

  pub statuses_kept : (n : ℕ) → Apart a e (place_of n) stride → statuses_ok m (place_of n) ≡ statuses_ok l (place_of n)
  unfolding statuses_ok
  statuses_kept n h = rw (field_kept l m a e o 2 (place_of n) (⊎_elim (λ x. inl (omega arith)) (λ y. inr (omega arith)) h))

  pub last_kept : Apart a e last_at 2 → last_of m ≡ last_of l
  unfolding last_of
  last_kept h = field_kept l m a e o 2 last_at h

  pub folded_kept : Apart a e folded_at 2 → folded_of m ≡ folded_of l
  unfolding folded_of
  folded_kept h = field_kept l m a e o 2 folded_at h

  pub change_kept : Apart a e change_at 2 → change_of m ≡ change_of l
  unfolding change_of
  change_kept h = field_kept l m a e o 2 change_at h

  pub head_kept : (at : ℕ) → Apart a e at head_size → head_at m at ≡ head_at l at
  unfolding head_at
  head_kept at h = ap to_head (fields_kept l m a e o head_widths at h)

  pub table_kept : (b : Table) → Apart a e (values_at b) table_size → table_of m b ≡ table_of l b
  unfolding table_of
  table_kept b h = fields_kept l m a e o table_widths (values_at b) h

  pub part_kept : (at : ℕ) (b : Table) → Apart a e at head_size → Apart a e (values_at b) table_size → part_of m at b ≡ part_of l at b
  part_kept at b h k = rw (head_kept at h, table_kept b k)

  pub ledger_kept : Apart a e committed_at (applied_at - committed_at) → ledger_of m ≡ ledger_of l
  ledger_kept h =
      let k : (at w : ℕ) → committed_at ≤ at → at + w ≤ applied_at → Apart a e at w = λ at w p q. ⊎_elim (λ x. inl (omega arith)) (λ y. inr (omega arith)) h in
      rw (
        head_kept committed_at (k committed_at head_size (omega arith) (omega arith)),
        table_kept of_committed (k (values_at of_committed) table_size (omega arith) (omega arith)),
        table_kept of_owners (k (values_at of_owners) table_size (omega arith) (omega arith)),
      )

  pub configuration_kept : Apart a e configuration_at 5 → configuration_of m ≡ configuration_of l
  unfolding configuration_of
  configuration_kept h = ap to_configuration (fields_kept l m a e o configuration_widths configuration_at h)

  pub mastership_kept : Apart a e mastership_at 9 → mastership_of m ≡ mastership_of l
  unfolding mastership_of
  mastership_kept h = ap to_mastership (fields_kept l m a e o mastership_widths mastership_at h)

  pub target_kept : Apart a e target_at 6 → target_of m ≡ target_of l
  unfolding target_of
  target_kept h = ap to_target (fields_kept l m a e o target_widths target_at h)

  pub connections_kept : Apart a e connections_at connections_size → connections_of m ≡ connections_of l
  unfolding connections_of
  connections_kept h = ap to_connections (fields_kept l m a e o connections_widths connections_at h)

  pub net_kept : Apart a e (values_at of_target) (folded_at - values_at of_target) → net_of m ≡ net_of l
  net_kept h =
      let k : (at w : ℕ) → values_at of_target ≤ at → at + w ≤ folded_at → Apart a e at w = λ at w p q. ⊎_elim (λ x. inl (omega arith)) (λ y. inr (omega arith)) h in
      rw (
        configuration_kept (k configuration_at 5 (omega arith) (omega arith)),
        mastership_kept (k mastership_at 9 (omega arith) (omega arith)),
        connections_kept (k connections_at connections_size (omega arith) (omega arith)),
        target_kept (k target_at 6 (omega arith) (omega arith)),
        table_kept of_target (k (values_at of_target) table_size (omega arith) (omega arith)),
      )

  -- every entry, past the ring
  pub entries_kept : (b n : ℕ) → last_at ≤ a → up_from (entry_at m) b n ≡ up_from (entry_at l) b n
  entries_kept b n h = up_from_same (entry_at l) (entry_at m) b n (λ k p q. entry_kept k (inl (omega arith)))

  -- the log, between the highest number and the last fold
  pub ends_kept : last_at + 2 ≤ a → e ≤ folded_at → (folded_of m ≡ folded_of l) × (last_of m ≡ last_of l)
  ends_kept h k = (folded_kept (inr k), last_kept (inl h))

  pub log_kept : last_at + 2 ≤ a → e ≤ folded_at → log_of m ≡ log_of l
  log_kept h k =
      same_log m _ _ _ (ends_kept h k).0 (table_kept of_base (inr (omega arith)))
      (ap₂ (λ (b n : ℕ). up_from (entry_at m) b n) (ends_kept h k).0 (ends_kept h k).1 ∙ entries_kept (folded_of l) (last_of l) (omega arith))

  -- the flags lie in three places
  pub flags_kept : Apart a e configuration_at 5 → Apart a e target_at 6 → Apart a e connections_at connections_size → flags_ok m ≡ flags_ok l
  unfolding flags_ok
  flags_kept g t x =
      let c : Apart a e configuration_at 1 = ⊎_elim (λ p. inl (omega arith)) (λ q. inr (omega arith)) g in
      let k : (d : ℕ) → d < connections_size → Apart a e (connections_at + d) 1 = λ d r. ⊎_elim (λ p. inl (omega arith)) (λ q. inr (omega arith)) x in
      let f : (d : ℕ) → d < 6 → Apart a e (target_at + d) 1 = λ d r. ⊎_elim (λ p. inl (omega arith)) (λ q. inr (omega arith)) t in
      rw (
        field_kept l m a e o 1 configuration_at c,
        field_kept l m a e o 1 (target_at + running_in) (f 4 (omega arith)),
        field_kept l m a e o 1 (target_at + remembers_in) (f 5 (omega arith)),
        field_kept l m a e o 1 (connected_at 0) (k 4 (omega arith)),
        field_kept l m a e o 1 (connected_at 1) (k 9 (omega arith)),
        field_kept l m a e o 1 (connected_at 2) (k 14 (omega arith)),
        field_kept l m a e o 1 (connected_at 3) (k 19 (omega arith)),
        field_kept l m a e o 1 (connected_at 4) (k 24 (omega arith)),
        field_kept l m a e o 1 (connected_at 5) (k 29 (omega arith)),
        field_kept l m a e o 1 (connected_at 6) (k 34 (omega arith)),
        field_kept l m a e o 1 (connected_at 7) (k 39 (omega arith)),
      )

-- ---- a value laid over the base leaves every entry, and the length
pub value_leaves : (l : List ℕ) (p v k : ℕ) → (entry_at (write l (value of_base p v)) k ≡ entry_at l k) × (length (write l (value of_base p v)) ≡ length l)
unfolding write
value_leaves l p v k = go (ltb p table_length) (values_at of_base + value_size * p) (omega arith)
  where
    go : (x : Bool) (at : ℕ) → last_at ≤ at → (entry_at (cond x (put_field l at value_size v) l) k ≡ entry_at l k) × (length (cond x (put_field l at value_size v) l) ≡ length l)
    go false at h = (refl, refl)
    go true at h = (entry_kept l (put_field l at value_size v) at (at + 2) (put_outside 2 l at v) k (inl (omega arith)), length_put 2 l at v)

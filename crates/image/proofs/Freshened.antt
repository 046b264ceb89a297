-- A fresh image, of either kind, as the code makes it; it is well-formed, and shows the fresh state. Assumes nothing.
use Prim.Native.Nat.{ℕ, zero, suc, ◌+◌, ◌≤◌}
use mathlib.Core.Path.{◌≡◌, refl, ap, ap₂, ◌∙◌}
use mathlib.Core.Logic.{inl, inr}
use mathlib.Core.Bool.{Bool, true, false}
use mathlib.Core.List.{List, [], ◌∷◌}
use native.Mathlib.Omega.{arith}
use borrow.Author.Tests.{eq-eqb, le-leb}
use mir.Val.{bool_byte}
use lib.ListN.{length, get_or, replicate, length-replicate}
use Rattle.kinds.specs.Statuses.{progress_of}
use Rattle.fields.specs.Field.{field, put_field, fields_at, total}
use Rattle.fields.proofs.Laws.{Outside, put_outside, put_same, field_kept, length_put}
use Rattle.fields.proofs.Runs.{fields_kept}
use Rattle.machine.specs.State.{absent, unfolded, fresh, fresh_part, fresh_ledger, fresh_net}
use Rattle.machine.specs.Stores.{Table, of_committed, of_applied, of_target, of_base, of_owners}
use Rattle.machine.specs.WellFormed.{all_from, all_at_most, head_ok, well_formed}
use Rattle.image.specs.Layout.{head_size, running_in, remembers_in, connected_at, head_widths, table_widths, mastership_widths, connections_widths, last_at, change_at, committed_at, applied_at, values_at, configuration_at, mastership_at, target_at, connections_at, folded_at, image_length, table_size, connections_size}
use Rattle.image.specs.Records.{flag_code, last_of, folded_of, change_of, to_head, head_at, configuration_of, to_mastership, mastership_of, target_of, to_connections, connections_of}
use Rattle.image.specs.View.{up_to, table_of, entries_of, log_of, part_of, ledger_of, net_of, view}
use Rattle.image.specs.Formed.{all_up_to, all_kept, flags_ok, formed}
use Rattle.image.proofs.Kept.{Apart, same_log}
use Rattle.image.proofs.Sized.{flag_code_holds, flag_low}
use Rattle.image.proofs.Shown.{same_view}
use Rattle.image.specs.Fresh.{zeros, fresh_image}

-- ---- zeros
byte_zeros : (n i : ℕ) → get_or (zeros n) i 0 ≡ 0
unfolding zeros
byte_zeros zero i = refl
byte_zeros (suc n) zero = refl
byte_zeros (suc n) (suc i) = byte_zeros n i

length_zeros : (n : ℕ) → length (zeros n) ≡ n
unfolding zeros
length_zeros n = length-replicate n 0

field_zeros : (w n at : ℕ) → field (zeros n) at w ≡ 0
unfolding field
field_zeros zero n at = refl
field_zeros (suc w) n at = omega (arith, byte_zeros n at, field_zeros w n (at + 1))

fields_zeros : (ws : List ℕ) (n at : ℕ) → fields_at (zeros n) at ws ≡ replicate (length ws) 0
unfolding fields_at
fields_zeros [] n at = refl
fields_zeros (w ∷ ws) n at = ap₂ (λ (x : ℕ) (xs : List ℕ). x ∷ xs) (field_zeros w n at) (fields_zeros ws n (at + w))

-- ---- cleared, and the two bytes set
pub flag_byte : (b : Bool) → bool_byte b ≡ flag_code b
flag_byte true = refl
flag_byte false = refl

pub freshened : (m : Bool) (l l1 l2 l3 : List ℕ) (f : ℕ) → length l ≡ image_length → l1 ≡ zeros (length l) → l2 ≡ put_field l1 configuration_at 1 1 → f ≡ flag_code m
    → l3 ≡ put_field l2 (target_at + remembers_in) 1 f → l3 ≡ fresh_image m
unfolding fresh_image
freshened m l l1 l2 l3 f e p q z r =
    r ∙ ap₂ (λ (x : List ℕ) (y : ℕ). put_field x (target_at + remembers_in) 1 y) (q ∙ ap (λ (x : List ℕ). put_field x configuration_at 1 1) (p ∙ ap zeros e)) z

-- ---- what a fresh image holds
-- cleared, and Pending
abbrev pending : List ℕ
pending = put_field (zeros image_length) configuration_at 1 1

pub length_fresh : (m : Bool) → length (fresh_image m) ≡ image_length
unfolding fresh_image
length_fresh m =
    length_put 1 pending (target_at + remembers_in) (flag_code m)
    ∙ length_put 1 (zeros image_length) configuration_at 1 ∙ length_zeros image_length

-- a run that has neither of the two bytes
abbrev Zero : ℕ → ℕ → Type 0
Zero at w = Apart configuration_at (configuration_at + 1) at w × Apart (target_at + remembers_in) (target_at + remembers_in + 1) at w

before : (at w : ℕ) → at + w ≤ configuration_at → Zero at w
before at w h = (inl h, inl (omega arith))

between : (at w : ℕ) → configuration_at + 1 ≤ at → at + w ≤ target_at + remembers_in → Zero at w
between at w h k = (inr h, inl k)

behind : (at w : ℕ) → connections_at ≤ at → Zero at w
behind at w h = (inr (omega arith), inr (omega arith))

module _ (m : Bool) where
  outside : Outside pending (fresh_image m) (target_at + remembers_in) (target_at + remembers_in + 1)
  unfolding fresh_image
  outside = put_outside 1 pending (target_at + remembers_in) (flag_code m)

  -- the two bytes
  state_is : field (fresh_image m) configuration_at 1 ≡ 1
  state_is =
      field_kept pending (fresh_image m) _ _ outside 1 configuration_at (inl (omega arith))
      ∙ put_same 1 (zeros image_length) configuration_at 1 (omega arith) (omega (arith, length_zeros image_length))

  kind_is : field (fresh_image m) (target_at + remembers_in) 1 ≡ flag_code m
  unfolding fresh_image
  kind_is =
      put_same 1 pending (target_at + remembers_in) (flag_code m) (omega (arith, flag_low m))
      (omega (arith, length_put 1 (zeros image_length) configuration_at 1, length_zeros image_length))

  other : (w at : ℕ) → Zero at w → field (fresh_image m) at w ≡ 0
  other w at h =
      field_kept pending (fresh_image m) _ _ outside w at h.1
      ∙ field_kept (zeros image_length) pending _ _ (put_outside 1 (zeros image_length) configuration_at 1) w at h.0 ∙ field_zeros w image_length at

  others : (ws : List ℕ) (at : ℕ) → Zero at (total ws) → fields_at (fresh_image m) at ws ≡ replicate (length ws) 0
  others ws at h =
      fields_kept pending (fresh_image m) _ _ outside ws at h.1
      ∙ fields_kept (zeros image_length) pending _ _ (put_outside 1 (zeros image_length) configuration_at 1) ws at h.0 ∙ fields_zeros ws image_length at

  no_log : last_of (fresh_image m) ≡ 0
  unfolding last_of
  no_log = other 2 last_at (before last_at 2 (omega arith))

  no_change : change_of (fresh_image m) ≡ 0
  unfolding change_of
  no_change = other 2 change_at (before change_at 2 (omega arith))

  no_fold : folded_of (fresh_image m) ≡ 0
  unfolding folded_of
  no_fold = other 2 folded_at (behind folded_at 2 (omega arith))

  none : entries_of (fresh_image m) ≡ []
  unfolding up_to
  none = rw (no_log, no_fold)

  head : (at : ℕ) → at + head_size ≤ configuration_at → head_at (fresh_image m) at ≡ fresh_part.head
  unfolding head_at
  head at h = ap to_head (others head_widths at (before at head_size h))

  table : (b : Table) → table_of (fresh_image m) b ≡ fresh_part.values
  unfolding table_of
  table of_committed = others table_widths (values_at of_committed) (before (values_at of_committed) table_size (omega arith))
  table of_applied = others table_widths (values_at of_applied) (before (values_at of_applied) table_size (omega arith))
  table of_target = others table_widths (values_at of_target) (before (values_at of_target) table_size (omega arith))
  table of_owners = others table_widths (values_at of_owners) (before (values_at of_owners) table_size (omega arith))
  table of_base = others table_widths (values_at of_base) (behind (values_at of_base) table_size (omega arith))

  log : log_of (fresh_image m) ≡ unfolded []
  log = same_log (fresh_image m) 0 absent [] no_fold (table of_base) none

  part : (at : ℕ) (b : Table) → at + head_size ≤ configuration_at → part_of (fresh_image m) at b ≡ fresh_part
  part at b h = rw (head at h, table b)

  ledger : ledger_of (fresh_image m) ≡ fresh_ledger
  ledger = rw (head committed_at (omega arith), table of_committed, table of_owners)

  configuration : configuration_of (fresh_image m) ≡ (fresh_net m).configuration
  unfolding configuration_of fields_at progress_of
  configuration = rw (state_is, other 4 (configuration_at + 1) (between (configuration_at + 1) 4 (omega arith) (omega arith)))

  mastership : mastership_of (fresh_image m) ≡ (fresh_net m).mastership
  unfolding mastership_of
  mastership = ap to_mastership (others mastership_widths mastership_at (between mastership_at 9 (omega arith) (omega arith)))

  target : target_of (fresh_image m) ≡ (fresh_net m).target
  unfolding target_of fields_at
  target =
      rw (
        other 4 target_at (between target_at 4 (omega arith) (omega arith)),
        other 1 (target_at + running_in) (between (target_at + running_in) 1 (omega arith) (omega arith)),
        kind_is,
        flag_code_holds m,
      )

  connections : connections_of (fresh_image m) ≡ (fresh_net m).connections
  unfolding connections_of
  connections = ap to_connections (others connections_widths connections_at (behind connections_at connections_size (omega arith)))

  net : net_of (fresh_image m) ≡ fresh_net m
  net = rw (configuration, mastership, target, connections, table of_target)

  -- a fresh image shows the fresh state
  pub shows_fresh : view (fresh_image m) ≡ fresh m
  shows_fresh =
      same_view (fresh_image m) (unfolded []) 0 fresh_ledger fresh_part (fresh_net m) log no_change ledger
      (part applied_at of_applied (omega arith)) net

  connected : (k : ℕ) → field (fresh_image m) (connected_at k) 1 ≡ 0
  connected k = other 1 (connected_at k) (behind (connected_at k) 1 (omega arith))

  flags : flags_ok (fresh_image m) ≡ true
  unfolding flags_ok
  flags =
      rw (
        state_is,
        other 1 (target_at + running_in) (between (target_at + running_in) 1 (omega arith) (omega arith)),
        kind_is,
        le-leb (flag_code m) 1 (flag_low m),
        connected 0,
        connected 1,
        connected 2,
        connected 3,
        connected 4,
        connected 5,
        connected 6,
        connected 7,
      )

  well_formed_holds : well_formed (fresh m) ≡ true
  unfolding well_formed all_from all_at_most head_ok
  well_formed_holds = refl

  -- a fresh image is well-formed
  pub formed_fresh : formed (fresh_image m) ≡ true
  unfolding formed all_kept all_up_to
  formed_fresh = rw (eq-eqb (length (fresh_image m)) image_length (length_fresh m), no_log, no_fold, flags, shows_fresh, well_formed_holds)

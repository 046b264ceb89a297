-- Each number of the state that an image of bytes shows has room in its field. Assumes nothing.
use Prim.Native.Nat.{ℕ, zero, suc, ◌≤◌, ◌<◌}
use mathlib.Core.Path.{◌≡◌, refl, sym, subst}
use mathlib.Core.Bool.{true}
use mathlib.Core.List.{List, [], ◌∷◌}
use native.Mathlib.Omega.{arith}
use lib.ListN.{length, get_or, replicate}
use Rattle.fields.specs.Field.{field, fields_at}
use Rattle.fields.proofs.Laws.{Bytes, field_lt}
use Rattle.fields.proofs.Runs.{Fit, fields_fit, length_fields}
use Rattle.machine.specs.State.{State, entry_of, last, never}
use Rattle.machine.specs.Stores.{Table, of_committed, of_applied, of_owners}
use Rattle.image.specs.Layout.{table_widths, node_widths, connections_widths, values_at, connections_at, committed_at, applied_at}
use Rattle.image.specs.Records.{entry_at, head_at, configuration_of, mastership_of, target_of, to_connections, connections_of}
use Rattle.image.specs.View.{table_of, view}
use Rattle.image.specs.Formed.{formed}
use Rattle.image.proofs.Scanned.{Room, view_last, view_folded, view_entry, formed_room}
use Rattle.image.proofs.Sized.{Four, SizedEntry, SizedHead, SizedMastership, SizedTable, SizedConnections}

-- ---- a state of which each number has room, with at most as many kept as the ring has
pub record Sizes (s : State) : Type 0 where
  pub room : Room s.log.folded.0 (last s.log)
  pub entries : (i : ℕ) → s.log.folded.0 < i → i ≤ last s.log → SizedEntry (entry_of s.log i)
  pub committed : SizedHead s.committed.head
  pub committed_values : SizedTable s.committed.values
  pub owners : SizedTable s.committed.owners
  pub applied : SizedHead s.applied.head
  pub applied_values : SizedTable s.applied.values
  pub configuration : s.net.configuration.term.0 < 4294967296
  pub mastership : SizedMastership s.net.mastership
  pub connections : SizedConnections s.net.connections
  pub target : s.net.target.id < 4294967296

-- ---- four numbers
pub four : (bound a b c d : ℕ) → a < bound → b < bound → c < bound → d < bound → Four bound (a ∷ b ∷ c ∷ d ∷ [])
four bound a b c d p q r s = record { size = refl; small = small }
  where
    small : (k : ℕ) → get_or (a ∷ b ∷ c ∷ d ∷ []) k 0 < bound
    small zero = p
    small (suc zero) = q
    small (suc (suc zero)) = r
    small (suc (suc (suc zero))) = s
    small (suc (suc (suc (suc k)))) = omega arith

-- ---- runs of numbers that have room
twos_small : (n : ℕ) (vs : List ℕ) → Fit (replicate n 2) vs → (k : ℕ) → get_or vs k 0 < 65536
twos_small zero [] f k = omega arith
twos_small zero (v ∷ vs) f k = elim f [ ]
twos_small (suc n) [] f k = elim f [ ]
twos_small (suc n) (v ∷ vs) f zero = f.0
twos_small (suc n) (v ∷ vs) f (suc k) = twos_small n vs f.1 k

nodes_small : (n : ℕ) (xs : List ℕ) → Fit (node_widths n) xs → (k : ℕ) → (get_or (to_connections xs) k never).id < 4294967296
nodes_small zero [] f k = omega arith
nodes_small zero (a ∷ xs) f k = elim f [ ]
nodes_small (suc n) [] f k = elim f [ ]
nodes_small (suc n) (a ∷ []) f k = elim f.1 [ ]
nodes_small (suc n) (a ∷ b ∷ xs) f zero = f.0
nodes_small (suc n) (a ∷ b ∷ xs) f (suc k) = nodes_small n xs f.1.1 k

-- ---- what is read of bytes
module _ (l : List ℕ) (y : Bytes l) where
  one : (at : ℕ) → field l at 1 < 256
  one at = field_lt 1 l at y

  two : (at : ℕ) → field l at 2 < 65536
  two at = field_lt 2 l at y

  long : (at : ℕ) → field l at 4 < 4294967296
  long at = field_lt 4 l at y

  pub sized_entry : (n : ℕ) → SizedEntry (entry_at l n)
  unfolding entry_at fields_at
  sized_entry n =
      record {
        phase = one _;
        count = one _;
        index = two _;
        change_ordinal = long _;
        rollback_ordinal = long _;
        paths = four 256 _ _ _ _ (one _) (one _) (one _) (one _);
        values = four 65536 _ _ _ _ (two _) (two _) (two _) (two _);
        kept = four 65536 _ _ _ _ (two _) (two _) (two _) (two _);
        owners = four 65536 _ _ _ _ (two _) (two _) (two _) (two _);
      }

  sized_head : (at : ℕ) → SizedHead (head_at l at)
  unfolding head_at fields_at
  sized_head at = record { index = two _; target = two _; revision = two _; ordinal = long _ }

  sized_table : (b : Table) → SizedTable (table_of l b)
  unfolding table_of
  sized_table b = record { size = length_fields table_widths l (values_at b); small = twos_small 32 (fields_at l (values_at b) table_widths) (fields_fit table_widths l (values_at b) y) }

  eight_nodes : length (connections_of l) ≡ 8
  unfolding connections_of fields_at
  eight_nodes = refl

  sized_connections : SizedConnections (connections_of l)
  unfolding connections_of
  sized_connections = record { size = eight_nodes; small = nodes_small 8 (fields_at l connections_at connections_widths) (fields_fit connections_widths l connections_at y) }

  sized_mastership : SizedMastership (mastership_of l)
  unfolding mastership_of fields_at
  sized_mastership = record { master = one _; term = long _; conn = long _ }

  sized_term : (configuration_of l).term.0 < 4294967296
  unfolding configuration_of fields_at
  sized_term = long _

  sized_id : (target_of l).id < 4294967296
  unfolding target_of fields_at
  sized_id = long _

  view_room : formed l ≡ true → Room (view l).log.folded.0 (last (view l).log)
  view_room w =
      let k = formed_room l w in
      let e = view_last l k.0 in
      let d = view_folded l in
      (omega (arith, k.0), (omega (arith, k.1.0), omega (arith, k.1.1)))

  view_entries : formed l ≡ true → (i : ℕ) → (view l).log.folded.0 < i → i ≤ last (view l).log → SizedEntry (entry_of (view l).log i)
  view_entries w i p q =
      subst SizedEntry (sym (view_entry l i (omega (arith, view_folded l)) (omega (arith, view_last l (formed_room l w).0)))) (sized_entry i)

  -- the state that a well-formed image shows
  pub sizes : formed l ≡ true → Sizes (view l)
  unfolding view
  sizes w =
      record {
        room = view_room w;
        entries = view_entries w;
        committed = sized_head committed_at;
        committed_values = sized_table of_committed;
        owners = sized_table of_owners;
        applied = sized_head applied_at;
        applied_values = sized_table of_applied;
        configuration = sized_term;
        mastership = sized_mastership;
        connections = sized_connections;
        target = sized_id;
      }

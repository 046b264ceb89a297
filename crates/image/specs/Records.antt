-- Each record as a run of numbers, and back; where the image has it, and the image with another there. Assumes nothing.
use Rattle.std.specs.Prelude.{ℕ, ◌+◌, List, [], ◌∷◌, ◌++◌, Bool, true, false, eqb, get_or, take, drop}
use Rattle.kinds.specs.declared.Transaction.{Transaction}
use Rattle.kinds.specs.declared.Head.{Head}
use Rattle.kinds.specs.declared.Side.{Side}
use Rattle.kinds.specs.declared.Configuration.{Configuration}
use Rattle.kinds.specs.declared.Mastership.{Mastership}
use Rattle.kinds.specs.declared.Connection.{Connection}
use Rattle.kinds.specs.declared.Target.{Target}
use Rattle.kinds.specs.Numbers.{num, ord, trm}
use Rattle.kinds.specs.Statuses.{progress_code, progress_of}
use Rattle.machine.specs.State.{never}
use Rattle.fields.specs.Field.{field, fields_at, put_fields, quad}
use Rattle.image.specs.Packed.{packed_of, change_in, rollback_in, commit_in, apply_in}
use Rattle.image.specs.Layout.{entry_widths, head_widths, configuration_widths, mastership_widths, target_widths, node_widths, connections_widths, connected_in, place_of, last_at, change_at, configuration_at, mastership_at, target_at, connections_at, folded_at, number_size}

-- ---- flags
abbrev pub flag_code : Bool → ℕ
flag_code true = 1
flag_code false = 0

abbrev pub flag_of : ℕ → Bool
flag_of n = eqb n 1

-- ---- a transaction
abbrev pub codes : Transaction → List ℕ
codes t = packed_of t ∷ t.phase ∷ t.count ∷ []

abbrev pub marks : Transaction → List ℕ
marks t = t.index.0 ∷ t.change.ordinal.0 ∷ t.rollback.ordinal.0 ∷ []

abbrev pub entry_numbers : Transaction → List ℕ
entry_numbers t = codes t ++ (marks t ++ (quad t.paths ++ (quad t.values ++ (quad t.kept ++ quad t.owners))))

-- one side, by its two statuses in one number and its ordinal
abbrev pub to_side : ℕ → ℕ → Side
to_side h o = record { commit = commit_in h; apply = apply_in h; ordinal = ord o }

abbrev pub to_entry : List ℕ → Transaction
to_entry l =
    record {
      phase = get_or l 1 0;
      count = get_or l 2 0;
      paths = take 4 (drop 6 l);
      values = take 4 (drop 10 l);
      change = to_side (change_in (get_or l 0 0)) (get_or l 4 0);
      rollback = to_side (rollback_in (get_or l 0 0)) (get_or l 5 0);
      index = num (get_or l 3 0);
      kept = take 4 (drop 14 l);
      owners = take 4 (drop 18 l);
    }

-- the entry of number n
unfoldable pub entry_at : List ℕ → ℕ → Transaction
entry_at l n = to_entry (fields_at l (place_of n) entry_widths)

unfoldable pub put_entry_at : List ℕ → ℕ → Transaction → List ℕ
put_entry_at l n t = put_fields l (place_of n) entry_widths (entry_numbers t)

-- ---- the highest number given, the last fold, Committed's change
unfoldable pub last_of : List ℕ → ℕ
last_of l = field l last_at number_size

unfoldable pub folded_of : List ℕ → ℕ
folded_of l = field l folded_at number_size

unfoldable pub change_of : List ℕ → ℕ
change_of l = field l change_at number_size

-- ---- a head, at a place
abbrev pub head_numbers : Head → List ℕ
head_numbers h = h.index.0 ∷ h.target.0 ∷ h.revision.0 ∷ h.ordinal.0 ∷ []

abbrev pub to_head : List ℕ → Head
to_head l = record { index = num (get_or l 0 0); target = num (get_or l 1 0); revision = num (get_or l 2 0); ordinal = ord (get_or l 3 0) }

unfoldable pub head_at : List ℕ → ℕ → Head
head_at l at = to_head (fields_at l at head_widths)

unfoldable pub put_head_at : List ℕ → ℕ → Head → List ℕ
put_head_at l at h = put_fields l at head_widths (head_numbers h)

-- ---- configuration, mastership, target
abbrev pub configuration_numbers : Configuration → List ℕ
configuration_numbers g = progress_code g.state ∷ g.term.0 ∷ []

abbrev pub to_configuration : List ℕ → Configuration
to_configuration l = record { state = progress_of (get_or l 0 0); term = trm (get_or l 1 0) }

unfoldable pub configuration_of : List ℕ → Configuration
configuration_of l = to_configuration (fields_at l configuration_at configuration_widths)

unfoldable pub put_configuration : List ℕ → Configuration → List ℕ
put_configuration l g = put_fields l configuration_at configuration_widths (configuration_numbers g)

abbrev pub mastership_numbers : Mastership → List ℕ
mastership_numbers m = m.master ∷ m.term.0 ∷ m.conn ∷ []

abbrev pub to_mastership : List ℕ → Mastership
to_mastership l = record { master = get_or l 0 0; term = trm (get_or l 1 0); conn = get_or l 2 0 }

unfoldable pub mastership_of : List ℕ → Mastership
mastership_of l = to_mastership (fields_at l mastership_at mastership_widths)

unfoldable pub put_mastership : List ℕ → Mastership → List ℕ
put_mastership l m = put_fields l mastership_at mastership_widths (mastership_numbers m)

abbrev pub target_numbers : Target → List ℕ
target_numbers t = t.id ∷ flag_code t.running ∷ flag_code t.remembers ∷ []

abbrev pub to_target : List ℕ → Target
to_target l = record { id = get_or l 0 0; running = flag_of (get_or l 1 0); remembers = flag_of (get_or l 2 0) }

unfoldable pub target_of : List ℕ → Target
target_of l = to_target (fields_at l target_at target_widths)

unfoldable pub put_target : List ℕ → Target → List ℕ
put_target l t = put_fields l target_at target_widths (target_numbers t)

-- ---- the eight connections
abbrev pub node_numbers : Connection → List ℕ
node_numbers x = x.id ∷ flag_code x.connected ∷ []

abbrev pub to_node : List ℕ → ℕ → Connection
to_node l at = record { id = field l at 4; connected = flag_of (field l (at + connected_in) 1) }

unfoldable pub put_node_at : List ℕ → ℕ → Connection → List ℕ
put_node_at l at x = put_fields l at (node_widths 1) (node_numbers x)

abbrev pub connections_numbers : List Connection → List ℕ
connections_numbers [] = []
connections_numbers (x ∷ xs) = x.id ∷ flag_code x.connected ∷ connections_numbers xs

abbrev pub to_connections : List ℕ → List Connection
to_connections [] = []
to_connections (a ∷ []) = []
to_connections (a ∷ b ∷ l) = record { id = a; connected = flag_of b } ∷ to_connections l

unfoldable pub connections_of : List ℕ → List Connection
connections_of l = to_connections (fields_at l connections_at connections_widths)

-- the eight elements of an array of eight
abbrev pub eight : List Connection → List Connection
eight xs =
    get_or xs 0 never ∷ get_or xs 1 never ∷ get_or xs 2 never ∷ get_or xs 3 never ∷ get_or xs 4 never ∷ get_or xs 5 never ∷ get_or xs 6 never ∷ get_or xs 7 never ∷ []

unfoldable pub put_connections : List ℕ → List Connection → List ℕ
put_connections l xs = put_fields l connections_at connections_widths (connections_numbers (eight xs))

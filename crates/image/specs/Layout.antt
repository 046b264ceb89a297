-- Where each record lies in the image: every offset follows from the one before it (docs/IMAGE.md). Assumes nothing.
use Rattle.std.specs.Prelude.{ℕ, zero, suc, ◌+◌, ◌-◌, ◌*◌, ◌%◌, List, [], ◌∷◌, ◌++◌, cond, eqb, replicate}
use Rattle.fields.specs.Field.{ones, twos, total}
use Rattle.machine.specs.Stores.{Table, of_committed, of_applied, of_target, of_base, of_owners}
use Rattle.image.specs.Packed.{highest_packed}

-- ---- the widths of each record's numbers
-- the four statuses in one number (order 12)
abbrev pub statuses_size : ℕ
statuses_size = 2

-- these, phase, number of pairs
abbrev pub code_widths : List ℕ
code_widths = statuses_size ∷ 1 ∷ 1 ∷ []

-- r.index, c.ordinal, r.ordinal
abbrev pub mark_widths : List ℕ
mark_widths = 2 ∷ 4 ∷ 4 ∷ []

-- the codes, the marks, four paths, four values, four r.values, four owners remembered
abbrev pub entry_widths : List ℕ
entry_widths = code_widths ++ (mark_widths ++ (ones ++ (twos ++ (twos ++ twos))))

-- index, target, revision, ordinal
abbrev pub head_widths : List ℕ
head_widths = 2 ∷ 2 ∷ 2 ∷ 4 ∷ []

-- a value for each path
abbrev pub table_length : ℕ
table_length = 32

abbrev pub value_size : ℕ
value_size = 2

abbrev pub table_widths : List ℕ
table_widths = replicate table_length value_size

-- state, term
abbrev pub configuration_widths : List ℕ
configuration_widths = 1 ∷ 4 ∷ []

-- master, term, conn
abbrev pub mastership_widths : List ℕ
mastership_widths = 1 ∷ 4 ∷ 4 ∷ []

-- id, running, remembers
abbrev pub target_widths : List ℕ
target_widths = 4 ∷ 1 ∷ 1 ∷ []

-- id, connected, of each node
abbrev pub node_widths : ℕ → List ℕ
node_widths zero = []
node_widths (suc n) = 4 ∷ 1 ∷ node_widths n

abbrev pub connections_widths : List ℕ
connections_widths = node_widths 8

-- ---- the ring
-- how many entries it has
abbrev pub slots : ℕ
slots = 128

-- the highest number and the highest ordinal that there are
abbrev pub highest : ℕ
highest = 65535

abbrev pub highest_ordinal : ℕ
highest_ordinal = 131070

abbrev pub stride : ℕ
stride = total entry_widths

-- at which slot the entry of a number lies: this is the one place that says it
abbrev pub slot_of : ℕ → ℕ
slot_of n = (n - 1) % slots

abbrev pub place_of : ℕ → ℕ
place_of n = stride * slot_of n

-- ---- in an entry, after its statuses: each follows from the one before it
abbrev pub phase_in : ℕ
phase_in = statuses_size

abbrev pub count_in : ℕ
count_in = phase_in + 1

-- r.index
abbrev pub index_in : ℕ
index_in = total code_widths

abbrev pub change_ordinal_in : ℕ
change_ordinal_in = index_in + 2

abbrev pub rollback_ordinal_in : ℕ
rollback_ordinal_in = change_ordinal_in + 4

-- four of one byte
abbrev pub paths_in : ℕ
paths_in = index_in + total mark_widths

abbrev pub values_in : ℕ
values_in = paths_in + total ones

-- r.values
abbrev pub kept_in : ℕ
kept_in = values_in + total twos

abbrev pub owners_in : ℕ
owners_in = kept_in + total twos

-- ---- in a head, after its index; in a table of values; in a node's connection, after its id
abbrev pub target_in : ℕ
target_in = 2

abbrev pub revision_in : ℕ
revision_in = target_in + 2

abbrev pub ordinal_in : ℕ
ordinal_in = revision_in + 2

abbrev pub head_size : ℕ
head_size = total head_widths

abbrev pub table_size : ℕ
table_size = total table_widths

abbrev pub connected_in : ℕ
connected_in = 4

-- in the target, after its id
abbrev pub running_in : ℕ
running_in = 4

abbrev pub remembers_in : ℕ
remembers_in = running_in + 1

abbrev pub node_size : ℕ
node_size = total (node_widths 1)

abbrev pub connections_size : ℕ
connections_size = total connections_widths

-- ---- behind the ring
-- a log number's width
abbrev pub number_size : ℕ
number_size = 2

-- the highest number given
abbrev pub last_at : ℕ
last_at = stride * slots

abbrev pub change_at : ℕ
change_at = last_at + number_size

abbrev pub committed_at : ℕ
committed_at = change_at + number_size

-- a head, then its 32 values; Committed's are followed by the 32 owners
abbrev pub applied_at : ℕ
applied_at = committed_at + head_size + table_size + table_size

abbrev pub target_values_at : ℕ
target_values_at = applied_at + head_size + table_size

abbrev pub configuration_at : ℕ
configuration_at = target_values_at + table_size

abbrev pub mastership_at : ℕ
mastership_at = configuration_at + total configuration_widths

abbrev pub target_at : ℕ
target_at = mastership_at + total mastership_widths

abbrev pub connections_at : ℕ
connections_at = target_at + total target_widths

-- the last fold, then the base
abbrev pub folded_at : ℕ
folded_at = connections_at + connections_size

abbrev pub values_at : Table → ℕ
values_at of_committed = committed_at + head_size
values_at of_applied = applied_at + head_size
values_at of_target = target_values_at
values_at of_base = folded_at + number_size
values_at of_owners = committed_at + head_size + table_size

-- the same by a table's number, as it is read: 1 Committed's, 2 Applied's, 3 the target's, 4 the base
unfoldable pub table_place : ℕ → ℕ
table_place b = cond (eqb b 1) (values_at of_committed) (cond (eqb b 2) (values_at of_applied) (cond (eqb b 3) (values_at of_target) (values_at of_base)))

-- 5,782
abbrev pub image_length : ℕ
image_length = values_at of_base + table_size

-- the place of a node's connection, n from 0
abbrev pub node_at : ℕ → ℕ
node_at n = connections_at + node_size * n

abbrev pub connected_at : ℕ → ℕ
connected_at n = node_at n + connected_in

-- ---- the code's constants, in its order (src/layout.rt)
abbrev pub limits : List ℕ
limits = slots ∷ highest ∷ highest_ordinal ∷ highest_packed ∷ []

abbrev pub entry_places : List ℕ
entry_places =
    phase_in ∷ count_in ∷ index_in ∷ change_ordinal_in ∷ rollback_ordinal_in
    ∷ paths_in ∷ (paths_in + 1) ∷ (paths_in + 2) ∷ values_in ∷ kept_in ∷ owners_in ∷ stride ∷ []

abbrev pub head_places : List ℕ
head_places =
    target_in ∷ revision_in ∷ ordinal_in ∷ head_size ∷ table_length ∷ value_size ∷ table_size ∷ connected_in ∷ node_size ∷ (2 * node_size) ∷ (3 * node_size) ∷ []

abbrev pub places : List ℕ
places =
    number_size ∷ last_at ∷ change_at ∷ committed_at ∷ (committed_at + revision_in) ∷ values_at of_committed ∷ values_at of_owners ∷ applied_at
    ∷ (applied_at + ordinal_in) ∷ values_at of_applied ∷ values_at of_target ∷ configuration_at ∷ (configuration_at + 1) ∷ mastership_at ∷ (mastership_at + 1) ∷ (mastership_at + 5)
    ∷ target_at ∷ (target_at + running_in) ∷ (target_at + remembers_in) ∷ connections_at ∷ folded_at ∷ values_at of_base ∷ image_length ∷ []

abbrev pub node_places : List ℕ
node_places =
    node_at 1 ∷ node_at 2 ∷ node_at 3 ∷ node_at 4 ∷ node_at 5 ∷ node_at 6 ∷ node_at 7 ∷ connected_at 0 ∷ connected_at 1 ∷ connected_at 2
    ∷ connected_at 3 ∷ connected_at 4 ∷ connected_at 5 ∷ connected_at 6 ∷ connected_at 7 ∷ []

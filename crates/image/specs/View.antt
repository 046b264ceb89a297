-- The state that an image shows, and the image with a row of stores made in it. Assumes nothing.
use Rattle.std.specs.Prelude.{ℕ, zero, suc, ◌+◌, ◌-◌, ◌*◌, List, [], ◌∷◌, ◌++◌, cond, ltb}
use Rattle.kinds.specs.declared.Transaction.{Transaction}
use Rattle.kinds.specs.Numbers.{num}
use Rattle.fields.specs.Field.{put_field, fields_at, put_fields}
use Rattle.machine.specs.State.{Part, Ledger, Net, Log, State}
use Rattle.machine.specs.Stores.{Table, of_committed, of_applied, of_target, of_base, of_owners, Store, grow, entry, fold, change, committed_head, applied_head, value, target_values, configuration, mastership, connections, target}
use Rattle.image.specs.Layout.{table_length, value_size, table_widths, last_at, change_at, committed_at, applied_at, folded_at, values_at, number_size}
use Rattle.image.specs.Records.{entry_at, put_entry_at, last_of, folded_of, change_of, head_at, put_head_at, configuration_of, put_configuration, mastership_of, put_mastership, target_of, put_target, connections_of, put_connections}

-- f 1, f 2 .. f n
unfoldable pub up_to : {A : Type 0} → (ℕ → A) → ℕ → List A
up_to f zero = []
up_to f (suc n) = up_to f n ++ (f (suc n) ∷ [])

-- f (b + 1) .. f n
abbrev pub up_from : {A : Type 0} → (ℕ → A) → ℕ → ℕ → List A
up_from f b n = up_to (λ j. f (b + j)) (n - b)

-- a table of 32
unfoldable pub table_of : List ℕ → Table → List ℕ
table_of l b = fields_at l (values_at b) table_widths

abbrev pub part_of : List ℕ → ℕ → Table → Part
part_of l at b = record { head = head_at l at; values = table_of l b }

abbrev pub ledger_of : List ℕ → Ledger
ledger_of l = record { head = head_at l committed_at; values = table_of l of_committed; owners = table_of l of_owners }

abbrev pub net_of : List ℕ → Net
net_of l =
    record {
      configuration = configuration_of l;
      mastership = mastership_of l;
      connections = connections_of l;
      target = target_of l;
      values = table_of l of_target;
    }

-- the entries after the last fold
abbrev pub entries_of : List ℕ → List Transaction
entries_of l = up_from (entry_at l) (folded_of l) (last_of l)

abbrev pub log_of : List ℕ → Log
log_of l = record { folded = num (folded_of l); base = table_of l of_base; entries = entries_of l }

unfoldable pub view : List ℕ → State
view l =
    record {
      log = log_of l;
      change = num (change_of l);
      committed = ledger_of l;
      applied = part_of l applied_at of_applied;
      net = net_of l;
    }

-- ---- stores in an image
unfoldable pub write : List ℕ → Store → List ℕ
write l (grow t) = put_field (put_entry_at l (last_of l + 1) t) last_at number_size (last_of l + 1)
write l (entry i t) = put_entry_at l i t
write l (fold b) = put_field l folded_at number_size b.0
write l (change n) = put_field l change_at number_size n.0
write l (committed_head h) = put_head_at l committed_at h
write l (applied_head h) = put_head_at l applied_at h
write l (value b p v) = cond (ltb p table_length) (put_field l (values_at b + value_size * p) value_size v) l
write l (target_values vs) = put_fields l (values_at of_target) table_widths vs
write l (configuration g) = put_configuration l g
write l (mastership m) = put_mastership l m
write l (connections xs) = put_connections l xs
write l (target t) = put_target l t

unfoldable pub written : List ℕ → List Store → List ℕ
written l [] = l
written l (e ∷ es) = written (write l e) es

-- Bytes stay bytes: whatever is stored in them. Assumes nothing.
use Prim.Native.Nat.{ℕ, zero, suc, ◌+◌, ◌*◌, ◌/◌, ◌%◌, ◌<◌}
use mathlib.Core.Bool.{Bool, true, false, cond}
use mathlib.Core.List.{List, [], ◌∷◌}
use native.Mathlib.Omega.{arith}
use lib.Dec.{ltb}
use lib.ListN.{set}
use Rattle.fields.specs.Field.{put_field, put_fields}
use Rattle.fields.proofs.Laws.{Bytes}
use Rattle.machine.proofs.Entries.{set_all}
use Rattle.machine.specs.Stores.{Store, grow, entry, fold, change, committed_head, applied_head, value, target_values, configuration, mastership, connections, target, of_target}
use Rattle.image.specs.Layout.{entry_widths, head_widths, table_widths, configuration_widths, mastership_widths, target_widths, connections_widths, place_of, last_at, change_at, committed_at, applied_at, values_at, configuration_at, mastership_at, target_at, connections_at, folded_at, value_size, table_length, number_size}
use Rattle.image.specs.Records.{entry_numbers, put_entry_at, last_of, head_numbers, put_head_at, configuration_numbers, put_configuration, mastership_numbers, put_mastership, target_numbers, put_target, connections_numbers, eight, put_connections}
use Rattle.image.specs.View.{write, written}

pub bytes_put : (w : ℕ) (l : List ℕ) (at x : ℕ) → Bytes l → Bytes (put_field l at w x)
unfolding put_field
bytes_put zero l at x h = h
bytes_put (suc w) l at x h = bytes_put w (set l at (x % 256)) (at + 1) (x / 256) (set_all (λ j y. y < 256) l at (x % 256) 0 h (omega arith))

bytes_puts : (ws xs l : List ℕ) (at : ℕ) → Bytes l → Bytes (put_fields l at ws xs)
unfolding put_fields
bytes_puts [] xs l at h = h
bytes_puts (w ∷ ws) [] l at h = h
bytes_puts (w ∷ ws) (x ∷ xs) l at h = bytes_puts ws xs (put_field l at w x) (at + w) (bytes_put w l at x h)

bytes_if : (b : Bool) (l m : List ℕ) → Bytes m → Bytes l → Bytes (cond b m l)
bytes_if true l m p q = p
bytes_if false l m p q = q

bytes_write : (l : List ℕ) (e : Store) → Bytes l → Bytes (write l e)
unfolding write put_entry_at put_head_at put_configuration put_mastership put_connections put_target
bytes_write l (grow t) h =
    bytes_put number_size (put_fields l (place_of (last_of l + 1)) entry_widths (entry_numbers t)) last_at (last_of l + 1) (bytes_puts entry_widths (entry_numbers t) l (place_of (last_of l + 1)) h)
bytes_write l (entry i t) h = bytes_puts entry_widths (entry_numbers t) l (place_of i) h
bytes_write l (fold b) h = bytes_put number_size l folded_at b.0 h
bytes_write l (change n) h = bytes_put number_size l change_at n.0 h
bytes_write l (committed_head k) h = bytes_puts head_widths (head_numbers k) l committed_at h
bytes_write l (applied_head k) h = bytes_puts head_widths (head_numbers k) l applied_at h
bytes_write l (value b p v) h = bytes_if (ltb p table_length) l (put_field l (values_at b + value_size * p) value_size v) (bytes_put value_size l (values_at b + value_size * p) v h) h
bytes_write l (target_values vs) h = bytes_puts table_widths vs l (values_at of_target) h
bytes_write l (configuration g) h = bytes_puts configuration_widths (configuration_numbers g) l configuration_at h
bytes_write l (mastership m) h = bytes_puts mastership_widths (mastership_numbers m) l mastership_at h
bytes_write l (connections xs) h = bytes_puts connections_widths (connections_numbers (eight xs)) l connections_at h
bytes_write l (target t) h = bytes_puts target_widths (target_numbers t) l target_at h

pub bytes_written : (es : List Store) (l : List ℕ) → Bytes l → Bytes (written l es)
unfolding written
bytes_written [] l h = h
bytes_written (e ∷ es) l h = bytes_written es (write l e) (bytes_write l e h)

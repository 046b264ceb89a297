-- What it is to bring one path of the target to Applied's value (order 13). Assumes nothing.
use Rattle.std.specs.Prelude.{ℕ, ◌+◌, ◌*◌, ◌≡◌, cond, List, eqb}
use Rattle.fields.specs.Field.{field, put_field}
use Rattle.machine.specs.Stores.{Table, of_applied, of_target}
use Rattle.image.specs.Layout.{value_size, values_at}

-- the value of path k
abbrev pub value_in : List ℕ → Table → ℕ → ℕ
value_in l b k = field l (values_at b + value_size * k) value_size

abbrev pub WritesPath : List ℕ → ℕ → ℕ → List ℕ → Type 0
WritesPath l k r m =
    (r ≡ cond (eqb (value_in l of_target k) (value_in l of_applied k)) 0 1)
    × (m ≡ cond (eqb (value_in l of_target k) (value_in l of_applied k)) l (put_field l (values_at of_target + value_size * k) value_size (value_in l of_applied k)))

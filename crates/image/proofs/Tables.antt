-- The tables of values by their numbers: each has room in the image, and shows what the machine reads. Assumes nothing.
use Prim.Native.Nat.{ℕ, ◌+◌, ◌≤◌}
use mathlib.Core.Path.{◌≡◌, refl, ap, ◌∙◌}
use mathlib.Core.Bool.{Bool, true, false, cond}
use mathlib.Core.List.{List}
use native.Mathlib.Omega.{arith}
use lib.Dec.{eqb}
use lib.ListN.{get_or}
use Rattle.fields.specs.Field.{fields_at}
use Rattle.machine.specs.Reads.{table_numbers}
use Rattle.machine.specs.Stores.{of_committed, of_applied, of_target, of_base}
use Rattle.image.specs.Layout.{table_size, table_widths, values_at, table_place, image_length}
use Rattle.image.specs.View.{table_of, view}
use Rattle.image.specs.Promises.{PlacesTable, LoadsValue}

at_table : (l : List ℕ) (b at : ℕ) → at ≡ table_place b → fields_at l at table_widths ≡ table_numbers (view l) b
unfolding table_place view table_of
at_table l b at e = ap (λ (x : ℕ). fields_at l x table_widths) e ∙ go (eqb b 1) (eqb b 2) (eqb b 3)
  where
    go : (x y z : Bool)
        → fields_at l (cond x (values_at of_committed) (cond y (values_at of_applied) (cond z (values_at of_target) (values_at of_base)))) table_widths
        ≡ cond x (table_of l of_committed) (cond y (table_of l of_applied) (cond z (table_of l of_target) (table_of l of_base)))
    go true y z = refl
    go false true z = refl
    go false false true = refl
    go false false false = refl

-- a value of a table, loaded, is the one that the machine reads
pub table_shows : (l : List ℕ) (b at p v : ℕ) → PlacesTable b at → LoadsValue l at p v → v ≡ get_or (table_numbers (view l) b) p 0
table_shows l b at p v e q = q ∙ ap (λ (x : List ℕ). get_or x p 0) (at_table l b at e)

pub table_room : (b at n : ℕ) → PlacesTable b at → image_length ≤ n → at + table_size ≤ n
unfolding table_place
table_room b at n e h = go (eqb b 1) (eqb b 2) (eqb b 3) e
  where
    go : (x y z : Bool) → at ≡ cond x (values_at of_committed) (cond y (values_at of_applied) (cond z (values_at of_target) (values_at of_base))) → at + table_size ≤ n
    go true y z q = omega arith
    go false true z q = omega arith
    go false false true q = omega arith
    go false false false q = omega arith

-- A plan's stores as `perform` makes them: what a lay lays, and which stores come at which place. That they are the rows of the
-- plan is the contract of `perform`; these are for the functions below it. Assumes nothing.
use Rattle.std.specs.Prelude.{ℕ, Bool, true, false, not, ◌&&◌, List}
use Rattle.kinds.specs.declared.Transaction.{Transaction}
use Rattle.rules.specs.declared.Lay.{Lay}
use Rattle.rules.specs.declared.Lay.TheVariants.{Nothing, Values, Kept}
use Rattle.rules.specs.declared.Order.{Order}
use Rattle.rules.specs.declared.Order.TheVariants.{Neither, EntryOnly, HeadOnly, EntryThenHead, HeadThenEntry, TargetThenHeadThenEntry}
use Rattle.machine.specs.State.{in_each}
use Rattle.controller.specs.declared.perform.Comes.{Comes}

-- ---- what is laid: the values, their owners, and how many of the pairs; where it is nothing, none of them
abbrev pub laid_values : Lay → Transaction → List ℕ
laid_values Nothing t = t.values
laid_values Values t = t.values
laid_values Kept t = t.kept

abbrev pub laid_owners : Lay → Transaction → ℕ → List ℕ
laid_owners Nothing t i = t.owners
laid_owners Values t i = in_each i
laid_owners Kept t i = t.owners

abbrev pub laid_count : Lay → Transaction → ℕ
laid_count Nothing t = 0
laid_count Values t = t.count
laid_count Kept t = t.count

-- ---- which stores come
abbrev pub coming : (target before head after : Bool) → Comes
coming t b h a = record { target = t; before = b; head = h; after = a }

abbrev pub comes_by : Order → (first second : Bool) → Comes
comes_by Neither first second = coming false false false false
comes_by EntryOnly first second = coming false true false false
comes_by HeadOnly first second = coming false false true false
comes_by EntryThenHead first second = coming false true (not first) false
comes_by HeadThenEntry first second = coming false false true (not first)
comes_by TargetThenHeadThenEntry first second = coming true false (not first) (not first && not second)

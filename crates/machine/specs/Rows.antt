-- A job's plan as rows of stores; the cut leaves out what follows a "then" (paper: The four jobs; order 8). `first` and
-- `second` say whether the call is cut after its first store and after its second; a rule with fewer stores does not look
-- at `second`. Assumes nothing.
use Rattle.std.specs.Prelude.{ℕ, List, [], ◌∷◌, ◌++◌, Bool, true, false, ◌&&◌, cond, ltb, get_or}
use Rattle.kinds.specs.declared.Transaction.{Transaction}
use Rattle.kinds.specs.declared.Event.{Event}
use Rattle.kinds.specs.Numbers.{num}
use Rattle.kinds.specs.Events.{no_event}
use Rattle.rules.specs.Plans.{is_push}
use Rattle.rules.specs.declared.Plan.{Plan}
use Rattle.rules.specs.declared.Lay.{Lay}
use Rattle.rules.specs.declared.Lay.TheVariants.{Nothing, Values, Kept}
use Rattle.rules.specs.declared.Order.{Order}
use Rattle.rules.specs.declared.Order.TheVariants.{Neither, EntryOnly, HeadOnly, EntryThenHead, HeadThenEntry, TargetThenHeadThenEntry}
use Rattle.machine.specs.State.{in_each}
use Rattle.machine.specs.Stores.{Table, of_committed, of_applied, of_target, of_owners, Store, entry, change, committed_head, applied_head, value}

-- ---- overlay: the first n pairs over a table's values, each path's value replaced, the others kept
abbrev pub lay_one : Bool → Table → ℕ → ℕ → List Store
lay_one true b p v = value b p v ∷ []
lay_one false b p v = []

abbrev pub lay_at : Table → List ℕ → List ℕ → ℕ → ℕ → List Store
lay_at b ps vs n k = lay_one (ltb k n) b (get_or ps k 0) (get_or vs k 0)

unfoldable pub overlay : Table → List ℕ → List ℕ → ℕ → List Store
overlay b ps vs n = lay_at b ps vs n 0 ++ (lay_at b ps vs n 1 ++ (lay_at b ps vs n 2 ++ lay_at b ps vs n 3))

abbrev pub laid : Table → Lay → Transaction → List Store
laid b Nothing t = []
laid b Values t = overlay b t.paths t.values t.count
laid b Kept t = overlay b t.paths t.kept t.count

-- the owners of a change's paths: its number, or those that it remembers (order 7)
abbrev pub owned : Lay → Transaction → ℕ → List Store
owned Nothing t i = []
owned Values t i = overlay of_owners t.paths (in_each i) t.count
owned Kept t i = overlay of_owners t.paths t.owners t.count

-- ---- the stores of a plan
abbrev pub entry_row : Plan → ℕ → List Store
entry_row p i = entry i p.entry ∷ []

abbrev pub change_row : Bool → ℕ → List Store
change_row true i = change (num i) ∷ []
change_row false i = []

-- jobs 1 and 3 store Committed; jobs 2 and 4 Applied
abbrev pub head_row : Bool → Plan → ℕ → List Store
head_row true p i = committed_head p.head ∷ (change_row p.change i ++ (laid of_committed p.lay p.entry ++ owned p.lay p.entry i))
head_row false p i = applied_head p.head ∷ laid of_applied p.lay p.entry

-- the push itself
abbrev pub target_row : Plan → List Store
target_row p = laid of_target p.lay p.entry

-- a cut leaves out what follows "then"
abbrev pub then_row : Bool → List Store → List Store → List Store
then_row true a b = a
then_row false a b = a ++ b

abbrev pub rows_by : Order → Bool → Plan → ℕ → (first second : Bool) → List Store
rows_by Neither commits p i first second = []
rows_by EntryOnly commits p i first second = entry_row p i
rows_by HeadOnly commits p i first second = head_row commits p i
rows_by EntryThenHead commits p i first second = then_row first (entry_row p i) (head_row commits p i)
rows_by HeadThenEntry commits p i first second = then_row first (head_row commits p i) (entry_row p i)
rows_by TargetThenHeadThenEntry commits p i first second = then_row first (target_row p) (then_row second (head_row commits p i) (entry_row p i))

unfoldable pub rows_of : Bool → Plan → ℕ → (first second : Bool) → List Store
rows_of commits p i first second = rows_by p.order commits p i first second

-- the event comes with the first store, but for a push, whose first store is the target's
abbrev pub event_of : Plan → Bool → Event
event_of p first = cond (is_push p.order && first) no_event p.event

-- What each public function of this crate promises of its answer r, or of the image s' that it leaves, and that no second
-- outcome keeps the promise. Assumes nothing.
use Rattle.std.specs.Prelude.{ℕ, ◌+◌, ◌*◌, Bool, ◌||◌, cond, List, ◌≡◌, ltb, get_or}
use Rattle.kinds.specs.Numbers.{num, follows}
use Rattle.kinds.specs.Outcome.{one, both}
use Rattle.kinds.specs.declared.Configuration.{Configuration}
use Rattle.kinds.specs.declared.Connection.{Connection}
use Rattle.kinds.specs.declared.Head.{Head}
use Rattle.kinds.specs.declared.Mastership.{Mastership}
use Rattle.kinds.specs.declared.Number.{Number}
use Rattle.kinds.specs.declared.Ordinal.{Ordinal}
use Rattle.kinds.specs.declared.Status.{Status}
use Rattle.kinds.specs.declared.Target.{Target}
use Rattle.kinds.specs.declared.Transaction.{Transaction}
use Rattle.fields.specs.Field.{fields_at, put_field}
use Rattle.image.specs.Formed.{formed}
use Rattle.image.specs.Layout.{table_length, value_size, table_widths, table_place}
use Rattle.image.specs.Records.{entry_at, put_entry_at, last_of, folded_of, change_of, head_at, put_head_at, configuration_of, put_configuration, mastership_of, put_mastership, target_of, put_target, connections_of, put_connections}
use Rattle.image.specs.View.{write, written, table_of, view}
use Rattle.image.specs.Fresh.{fresh_image}
use Rattle.machine.specs.Settled.{entry_settled}
use Rattle.machine.specs.Class.{class_of}
use Rattle.machine.specs.Taken.{landed}
use Rattle.machine.specs.WellFormed.{all_entries}
use Rattle.machine.specs.State.{node_of, absent}
use Rattle.machine.specs.Stores.{grow, fold, change, target_values, of_applied, of_target}
use Rattle.machine.specs.Differ.{differ, differ_row}

abbrev pub TellsFormed : List ℕ → Bool → Type 0
TellsFormed s r = r ≡ formed s

pub tells_formed_only : (s : List ℕ) (r q : Bool) → TellsFormed s r → TellsFormed s q → r ≡ q
tells_formed_only s r q = one

abbrev pub TellsSettled : List ℕ → Ordinal → Bool → Type 0
TellsSettled s o r = r ≡ all_entries (entry_settled o.0) (view s).log

pub tells_settled_only : (s : List ℕ) (o : Ordinal) (r q : Bool) → TellsSettled s o r → TellsSettled s o q → r ≡ q
tells_settled_only s o r q = one

abbrev pub TellsLanded : (apply : Status) (applied ordinal : Ordinal) → Bool → Type 0
TellsLanded apply a o r = r ≡ landed apply a.0 o.0

pub tells_landed_only : (apply : Status) (a o : Ordinal) (r q : Bool) → TellsLanded apply a o r → TellsLanded apply a o q → r ≡ q
tells_landed_only apply a o r q = one

abbrev pub MakesFresh : List ℕ → Bool → List ℕ → Type 0
MakesFresh s m s' = s' ≡ fresh_image m

pub makes_fresh_only : (s s' s'' : List ℕ) (m : Bool) → MakesFresh s m s' → MakesFresh s m s'' → s' ≡ s''
makes_fresh_only s s' s'' m = one

abbrev pub LoadsEntry : List ℕ → ℕ → Transaction → Type 0
LoadsEntry s n r = r ≡ entry_at s n

pub loads_entry_only : (s : List ℕ) (n : ℕ) (r q : Transaction) → LoadsEntry s n r → LoadsEntry s n q → r ≡ q
loads_entry_only s n r q = one

-- of an entry whose statuses are in range
abbrev pub LoadsClass : List ℕ → ℕ → ℕ → Type 0
LoadsClass s n r = r ≡ class_of (entry_at s n)

pub loads_class_only : (s : List ℕ) (n r q : ℕ) → LoadsClass s n r → LoadsClass s n q → r ≡ q
loads_class_only s n r q = one

abbrev pub StoresEntry : List ℕ → ℕ → Transaction → List ℕ → Type 0
StoresEntry s n t s' = s' ≡ put_entry_at s n t

pub stores_entry_only : (s : List ℕ) (n : ℕ) (t : Transaction) (s' s'' : List ℕ)
    → StoresEntry s n t s' → StoresEntry s n t s'' → s' ≡ s''
stores_entry_only s n t s' s'' = one

-- a side carries the ordinal after a
abbrev pub TellsCarried : List ℕ → ℕ → Ordinal → Bool → Type 0
TellsCarried s n a r = r ≡ (follows a.0 (entry_at s n).change.ordinal.0 || follows a.0 (entry_at s n).rollback.ordinal.0)

pub tells_carried_only : (s : List ℕ) (n : ℕ) (a : Ordinal) (r q : Bool) → TellsCarried s n a r → TellsCarried s n a q → r ≡ q
tells_carried_only s n a r q = one

abbrev pub TellsLast : List ℕ → ℕ → Type 0
TellsLast s r = r ≡ last_of s

pub tells_last_only : (s : List ℕ) (r q : ℕ) → TellsLast s r → TellsLast s q → r ≡ q
tells_last_only s r q = one

abbrev pub TellsFolded : List ℕ → ℕ → Type 0
TellsFolded s r = r ≡ folded_of s

pub tells_folded_only : (s : List ℕ) (r q : ℕ) → TellsFolded s r → TellsFolded s q → r ≡ q
tells_folded_only s r q = one

abbrev pub StoresFolded : List ℕ → Number → List ℕ → Type 0
StoresFolded s n s' = s' ≡ write s (fold n)

pub stores_folded_only : (s : List ℕ) (n : Number) (s' s'' : List ℕ) → StoresFolded s n s' → StoresFolded s n s'' → s' ≡ s''
stores_folded_only s n s' s'' = one

abbrev pub Grows : List ℕ → ℕ → Transaction → List ℕ → Type 0
Grows s n t s' = s' ≡ write s (grow t)

pub grows_only : (s : List ℕ) (n : ℕ) (t : Transaction) (s' s'' : List ℕ) → Grows s n t s' → Grows s n t s'' → s' ≡ s''
grows_only s n t s' s'' = one

abbrev pub LoadsChange : List ℕ → Number → Type 0
LoadsChange s r = r ≡ num (change_of s)

pub loads_change_only : (s : List ℕ) (r q : Number) → LoadsChange s r → LoadsChange s q → r ≡ q
loads_change_only s r q = one

abbrev pub StoresChange : List ℕ → Number → List ℕ → Type 0
StoresChange s n s' = s' ≡ write s (change n)

pub stores_change_only : (s : List ℕ) (n : Number) (s' s'' : List ℕ) → StoresChange s n s' → StoresChange s n s'' → s' ≡ s''
stores_change_only s n s' s'' = one

abbrev pub LoadsHead : List ℕ → ℕ → Head → Type 0
LoadsHead s at r = r ≡ head_at s at

pub loads_head_only : (s : List ℕ) (at : ℕ) (r q : Head) → LoadsHead s at r → LoadsHead s at q → r ≡ q
loads_head_only s at r q = one

abbrev pub StoresHead : List ℕ → ℕ → Head → List ℕ → Type 0
StoresHead s at h s' = s' ≡ put_head_at s at h

pub stores_head_only : (s : List ℕ) (at : ℕ) (h : Head) (s' s'' : List ℕ)
    → StoresHead s at h s' → StoresHead s at h s'' → s' ≡ s''
stores_head_only s at h s' s'' = one

abbrev pub PlacesTable : ℕ → ℕ → Type 0
PlacesTable b r = r ≡ table_place b

pub places_table_only : (b r q : ℕ) → PlacesTable b r → PlacesTable b q → r ≡ q
places_table_only b r q = one

abbrev pub LoadsValue : List ℕ → ℕ → ℕ → ℕ → Type 0
LoadsValue s at p r = r ≡ get_or (fields_at s at table_widths) p 0

pub loads_value_only : (s : List ℕ) (at p r q : ℕ) → LoadsValue s at p r → LoadsValue s at p q → r ≡ q
loads_value_only s at p r q = one

-- a path's value in the table at a place; a path past the table stores nothing
abbrev pub value_put : List ℕ → ℕ → ℕ → ℕ → List ℕ
value_put s at p v = cond (ltb p table_length) (put_field s (at + value_size * p) value_size v) s

abbrev pub StoresValue : List ℕ → ℕ → ℕ → ℕ → List ℕ → Type 0
StoresValue s at p v s' = s' ≡ value_put s at p v

pub stores_value_only : (s : List ℕ) (at p v : ℕ) (s' s'' : List ℕ)
    → StoresValue s at p v s' → StoresValue s at p v s'' → s' ≡ s''
stores_value_only s at p v s' s'' = one

abbrev pub LoadsConfiguration : List ℕ → Configuration → Type 0
LoadsConfiguration s r = r ≡ configuration_of s

pub loads_configuration_only : (s : List ℕ) (r q : Configuration) → LoadsConfiguration s r → LoadsConfiguration s q → r ≡ q
loads_configuration_only s r q = one

abbrev pub StoresConfiguration : List ℕ → Configuration → List ℕ → Type 0
StoresConfiguration s g s' = s' ≡ put_configuration s g

pub stores_configuration_only : (s : List ℕ) (g : Configuration) (s' s'' : List ℕ)
    → StoresConfiguration s g s' → StoresConfiguration s g s'' → s' ≡ s''
stores_configuration_only s g s' s'' = one

abbrev pub LoadsMastership : List ℕ → Mastership → Type 0
LoadsMastership s r = r ≡ mastership_of s

pub loads_mastership_only : (s : List ℕ) (r q : Mastership) → LoadsMastership s r → LoadsMastership s q → r ≡ q
loads_mastership_only s r q = one

abbrev pub StoresMastership : List ℕ → Mastership → List ℕ → Type 0
StoresMastership s m s' = s' ≡ put_mastership s m

pub stores_mastership_only : (s : List ℕ) (m : Mastership) (s' s'' : List ℕ)
    → StoresMastership s m s' → StoresMastership s m s'' → s' ≡ s''
stores_mastership_only s m s' s'' = one

abbrev pub LoadsTarget : List ℕ → Target → Type 0
LoadsTarget s r = r ≡ target_of s

pub loads_target_only : (s : List ℕ) (r q : Target) → LoadsTarget s r → LoadsTarget s q → r ≡ q
loads_target_only s r q = one

abbrev pub StoresTarget : List ℕ → Target → List ℕ → Type 0
StoresTarget s t s' = s' ≡ put_target s t

pub stores_target_only : (s : List ℕ) (t : Target) (s' s'' : List ℕ) → StoresTarget s t s' → StoresTarget s t s'' → s' ≡ s''
stores_target_only s t s' s'' = one

abbrev pub LoadsConnection : List ℕ → ℕ → Connection → Type 0
LoadsConnection s n r = r ≡ node_of (connections_of s) n

pub loads_connection_only : (s : List ℕ) (n : ℕ) (r q : Connection) → LoadsConnection s n r → LoadsConnection s n q → r ≡ q
loads_connection_only s n r q = one

abbrev pub LoadsConnections : List ℕ → List Connection → Type 0
LoadsConnections s r = r ≡ connections_of s

pub loads_connections_only : (s : List ℕ) (r q : List Connection) → LoadsConnections s r → LoadsConnections s q → r ≡ q
loads_connections_only s r q = one

abbrev pub StoresConnections : List ℕ → List Connection → List ℕ → Type 0
StoresConnections s xs s' = s' ≡ put_connections s xs

pub stores_connections_only : (s : List ℕ) (xs : List Connection) (s' s'' : List ℕ)
    → StoresConnections s xs s' → StoresConnections s xs s'' → s' ≡ s''
stores_connections_only s xs s' s'' = one

abbrev pub ClearsTarget : List ℕ → List ℕ → Type 0
ClearsTarget s s' = s' ≡ write s (target_values absent)

pub clears_target_only : (s s' s'' : List ℕ) → ClearsTarget s s' → ClearsTarget s s'' → s' ≡ s''
clears_target_only s s' s'' = one

-- the paths that differ are Applied's now, and r is how many they were (order 13)
abbrev pub WritesDiffering : List ℕ → ℕ → List ℕ → Type 0
WritesDiffering s r s' =
    (r ≡ differ table_length (table_of s of_target) (table_of s of_applied)) × (s' ≡ written s (differ_row table_length (table_of s of_target) (table_of s of_applied)))

pub writes_differing_only : (s : List ℕ) (r q : ℕ) (s' s'' : List ℕ) → WritesDiffering s r s' → WritesDiffering s q s'' → (r ≡ q) × (s' ≡ s'')
writes_differing_only s r q s' s'' = both

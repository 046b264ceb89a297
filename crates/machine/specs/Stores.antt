-- The primitive stores, and the state after a row of them. Every change of a state is such a row. Each store is total: an
-- entry outside the log and a path past the values store nothing. Assumes nothing.
use Rattle.std.specs.Prelude.{ℕ, List, [], ◌∷◌, set}
use Rattle.kinds.specs.declared.Transaction.{Transaction}
use Rattle.kinds.specs.declared.Head.{Head}
use Rattle.kinds.specs.declared.Number.{Number}
use Rattle.kinds.specs.declared.Configuration.{Configuration}
use Rattle.kinds.specs.declared.Mastership.{Mastership}
use Rattle.kinds.specs.declared.Connection.{Connection}
use Rattle.kinds.specs.declared.Target.{Target}
use Rattle.machine.specs.State.{Part, Ledger, Net, Log, State, put_entry, grown, folded_to}

-- the tables of 32: Committed's values and owners, Applied's and the target's values, and the log's base
pub data Table : Type 0 where
  of_committed of_applied of_target of_base of_owners : Table

pub data Store : Type 0 where
  grow : Transaction → Store  -- one entry more, at the log's end
  entry : ℕ → Transaction → Store  -- the entry of a number
  fold : Number → Store  -- the entries up to a number folded away
  change : Number → Store  -- Committed's change
  committed_head : Head → Store
  applied_head : Head → Store
  value : Table → ℕ → ℕ → Store  -- one path's value, or owner
  target_values : List ℕ → Store  -- all of the target's values
  configuration : Configuration → Store
  mastership : Mastership → Store
  connections : List Connection → Store  -- all eight
  target : Target → Store

-- ---- a state with one part anew
abbrev pub with_log : State → Log → State
with_log s l = record { log = l; change = s.change; committed = s.committed; applied = s.applied; net = s.net }

abbrev pub with_committed : State → Ledger → State
with_committed s p = record { log = s.log; change = s.change; committed = p; applied = s.applied; net = s.net }

abbrev pub with_applied : State → Part → State
with_applied s p = record { log = s.log; change = s.change; committed = s.committed; applied = p; net = s.net }

abbrev pub with_net : State → Net → State
with_net s w = record { log = s.log; change = s.change; committed = s.committed; applied = s.applied; net = w }

abbrev pub with_head : Part → Head → Part
with_head p h = record { head = h; values = p.values }

abbrev pub with_value : Part → ℕ → ℕ → Part
with_value p k v = record { head = p.head; values = set p.values k v }

abbrev pub with_ledger_head : Ledger → Head → Ledger
with_ledger_head p h = record { head = h; values = p.values; owners = p.owners }

abbrev pub with_base : Log → List ℕ → Log
with_base l vs = record { folded = l.folded; base = vs; entries = l.entries }

abbrev pub with_target_values : Net → List ℕ → Net
with_target_values w vs =
    record { configuration = w.configuration; mastership = w.mastership; connections = w.connections; target = w.target; values = vs }

-- ---- the state after a store, and after a row of them
abbrev pub after_value : State → Table → ℕ → ℕ → State
after_value s of_committed p v = with_committed s (record { head = s.committed.head; values = set s.committed.values p v; owners = s.committed.owners })
after_value s of_owners p v = with_committed s (record { head = s.committed.head; values = s.committed.values; owners = set s.committed.owners p v })
after_value s of_applied p v = with_applied s (with_value s.applied p v)
after_value s of_target p v = with_net s (with_target_values s.net (set s.net.values p v))
after_value s of_base p v = with_log s (with_base s.log (set s.log.base p v))

unfoldable pub after : State → Store → State
after s (grow t) = with_log s (grown s.log t)
after s (entry i t) = with_log s (put_entry s.log i t)
after s (fold b) = with_log s (folded_to s.log b)
after s (change n) = record { log = s.log; change = n; committed = s.committed; applied = s.applied; net = s.net }
after s (committed_head h) = with_committed s (with_ledger_head s.committed h)
after s (applied_head h) = with_applied s (with_head s.applied h)
after s (value b p v) = after_value s b p v
after s (target_values vs) = with_net s (with_target_values s.net vs)
after s (configuration g) =
    with_net s
    (record { configuration = g; mastership = s.net.mastership; connections = s.net.connections; target = s.net.target; values = s.net.values })
after s (mastership m) =
    with_net s
    (record { configuration = s.net.configuration; mastership = m; connections = s.net.connections; target = s.net.target; values = s.net.values })
after s (connections cs) =
    with_net s
    (record { configuration = s.net.configuration; mastership = s.net.mastership; connections = cs; target = s.net.target; values = s.net.values })
after s (target t) =
    with_net s
    (record { configuration = s.net.configuration; mastership = s.net.mastership; connections = s.net.connections; target = t; values = s.net.values })

unfoldable pub afters : State → List Store → State
afters s [] = s
afters s (e ∷ es) = afters (after s e) es

-- The calls from outside, each on the few records that it reads (paper: Calls from outside). Append and the tables of
-- nodes and values are in the crate machine. Assumes nothing.
use Rattle.std.specs.Prelude.{ℕ, ◌+◌, Bool, true, false, ◌&&◌, cond, eqb, ltb}
use Rattle.kinds.specs.declared.Transaction.{Transaction}
use Rattle.kinds.specs.declared.Configuration.{Configuration}
use Rattle.kinds.specs.declared.Progress.{Progress}
use Rattle.kinds.specs.declared.Progress.TheVariants.{Pending, InProgress, Complete}
use Rattle.kinds.specs.declared.Mastership.{Mastership}
use Rattle.kinds.specs.declared.Connection.{Connection}
use Rattle.kinds.specs.declared.Target.{Target}
use Rattle.kinds.specs.declared.Term.{Term}
use Rattle.kinds.specs.Numbers.{is_last, next_term}
use Rattle.kinds.specs.Statuses.{is_complete}
use Rattle.rules.specs.declared.Targeted.{Targeted}
use Rattle.rules.specs.declared.Connected.{Connected}
use Rattle.rules.specs.declared.Mastered.{Mastered}
use Rattle.rules.specs.declared.Synchronised.{Synchronised}
use Rattle.rules.specs.Sides.{asked}

-- ---- rollback request: phase Change and c.commit Complete, else 6
abbrev pub may_roll_back : Transaction → Bool
may_roll_back t = eqb t.phase 1 && is_complete t.change.commit

-- phase Rollback, r.commit and r.apply Pending
abbrev pub rolled_back : Transaction → Transaction
rolled_back t =
    record {
      phase = 2;
      count = t.count;
      paths = t.paths;
      values = t.values;
      change = t.change;
      rollback = asked t.rollback;
      index = t.index;
      kept = t.kept;
      owners = t.owners;
    }

-- ---- start and stop: the target. Its kind stays (order 13). Stop also clears the values of one that
-- forgets, and disconnects every node
abbrev pub targeted : ℕ → Target → Targeted
targeted a t = record { answer = a; target = t }

abbrev pub start : Target → Targeted
start t =
    cond t.running (targeted 7 t)
    (cond (is_last t.id) (targeted 9 t) (targeted 0 (record { id = t.id + 1; running = true; remembers = t.remembers })))

abbrev pub stop : Target → Targeted
stop t = cond t.running (targeted 0 (record { id = t.id; running = false; remembers = t.remembers })) (targeted 7 t)

-- ---- connect and disconnect: one node's connection
abbrev pub answered : ℕ → Connection → Connected
answered a x = record { answer = a; connection = x }

-- the connection's id stays when it is lost
abbrev pub off : Connection → Connection
off x = record { id = x.id; connected = false }

abbrev pub connect : Connection → Bool → Connected
connect x running =
    cond x.connected (answered 7 x)
    (cond running
    (cond (is_last x.id) (answered 9 x) (answered 0 (record { id = x.id + 1; connected = true })))
    (answered 8 x))

abbrev pub disconnect : Connection → Connected
disconnect x = cond x.connected (answered 0 (off x)) (answered 7 x)

-- ---- mastership of node n, whose connection is x
abbrev pub mastered : ℕ → Mastership → Mastered
mastered a m = record { answer = a; mastership = m }

-- no master and n connected: n at the next term and at its connection's id, or 9 at the last term;
-- n master, and not connected or its id differs from conn (order 1): no master and the rest kept; else 11
abbrev pub master : Mastership → ℕ → Connection → Mastered
master m n x =
    cond (x.connected && eqb m.master 0)
    (cond (is_last m.term.0) (mastered 9 m) (mastered 0 (record { master = n; term = next_term m.term; conn = x.id })))
    (cond (eqb m.master n)
    (cond (x.connected && eqb x.id m.conn) (mastered 11 m) (mastered 0 (record { master = 0; term = m.term; conn = m.conn })))
    (mastered 11 m))

-- ---- synchronise by a node: whether it is master, and whether it reaches the target
-- `copies`: the target's values become the applied values
abbrev pub synchronised : ℕ → Configuration → Bool → Synchronised
synchronised a g b = record { answer = a; configuration = g; copies = b }

-- the configuration's term below the mastership's
abbrev pub synchronise_by : Progress → Configuration → Term → Bool → Synchronised
synchronise_by Pending g term reaches = synchronised 0 (record { state = InProgress; term = g.term }) false
synchronise_by Complete g term reaches = synchronised 0 (record { state = InProgress; term = g.term }) false
synchronise_by InProgress g term reaches = cond reaches (synchronised 0 (record { state = Complete; term = term }) true) (synchronised 12 g false)

abbrev pub synchronise : Configuration → Term → Bool → Bool → Synchronised
synchronise g term is_master reaches =
    cond is_master
    (cond (ltb g.term.0 term.0) (synchronise_by g.state g term reaches) (synchronised 11 g false))
    (synchronised 10 g false)

-- ---- the line
-- n is connected with id equal to conn, and the target runs
abbrev pub reaches : Connection → Mastership → Target → Bool
reaches x m t = x.connected && (eqb x.id m.conn && t.running)

abbrev pub is_synchronised : Progress → Bool
is_synchronised Pending = false
is_synchronised InProgress = false
is_synchronised Complete = true

-- the line is open for n: n is master and reaches the target, and the configuration is Complete in this term
abbrev pub line_open : ℕ → Connection → Mastership → Target → Configuration → Bool
line_open n x m t g = eqb m.master n && (reaches x m t && (is_synchronised g.state && eqb g.term.0 m.term.0))

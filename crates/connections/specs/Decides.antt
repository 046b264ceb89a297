-- What the machine decides of connect, disconnect and stop, by this crate's functions on the table: the answer is theirs, and
-- where it is 0 the table stored is theirs. So the controller that calls them stores what `decide` says. Assumes nothing.
use Rattle.std.specs.Prelude.{ℕ, ◌≡◌, refl, Bool, true, false, cond, List, [], ◌∷◌}
use Rattle.kinds.specs.declared.Connection.{Connection}
use Rattle.rules.specs.declared.Connected.{Connected}
use Rattle.rules.specs.Outside as outside
use Rattle.machine.specs.State.{State, is_node, node_of, put_node}
use Rattle.machine.specs.Stores.{connections}
use Rattle.machine.specs.Calls.{Outcome, connect, disconnect, answers, unless, decide}
use Rattle.connections.specs.declared.Tabled.{Tabled}
use Rattle.connections.specs.Table.{connect_of, disconnect_of}

-- a call that answered t .answer, and that stores t's table where that is 0
abbrev pub outcome_of : Tabled → Outcome
outcome_of t = answers t.answer (connections t.connections ∷ [])

by_node : (node : Bool) (x : Connected) (cs zs : List Connection)
    → unless 2 node (answers x.answer (connections zs ∷ [])) ≡ outcome_of (record { answer = cond node x.answer 2; connections = cond node zs cs })
by_node true x cs zs = refl
by_node false x cs zs = refl

pub decides_connect : (s : State) (n : ℕ) → decide s (connect n) ≡ outcome_of (connect_of s.net.connections n s.net.target.running)
unfolding decide
decides_connect s n =
    let x = outside.connect (node_of s.net.connections n) s.net.target.running in
    by_node (is_node n) x s.net.connections (put_node s.net.connections n x.connection)

pub decides_disconnect : (s : State) (n : ℕ) → decide s (disconnect n) ≡ outcome_of (disconnect_of s.net.connections n)
unfolding decide
decides_disconnect s n =
    let x = outside.disconnect (node_of s.net.connections n) in
    by_node (is_node n) x s.net.connections (put_node s.net.connections n x.connection)

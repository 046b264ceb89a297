-- The calls on the table of connections: what `rules` says of one record, put into the table as `machine` does, and what the
-- calls on a lent table promise. Assumes nothing.
use Rattle.std.specs.Prelude.{ℕ, ◌-◌, ◌≡◌, Bool, cond, List, map, eqb, length}
use Rattle.kinds.specs.declared.Connection.{Connection}
use Rattle.rules.specs.declared.Connected.{Connected}
use Rattle.rules.specs.Outside.{off, connect, disconnect}
use Rattle.machine.specs.State.{is_node, node_of, put_node}
use Rattle.connections.specs.declared.Place.{Place}
use Rattle.connections.specs.declared.Tabled.{Tabled}

-- ---- one record, by its numbers
abbrev pub connect_by : ℕ → Bool → Bool → Connected
connect_by id connected running = connect (record { id = id; connected = connected }) running

abbrev pub disconnect_by : ℕ → Bool → Connected
disconnect_by id connected = disconnect (record { id = id; connected = connected })

-- ---- where node n stands in a table of l records: not eight of them 1, no such node 2
abbrev pub place_of : ℕ → ℕ → Place
place_of l n = cond (eqb l 8) (cond (is_node n) (record { answer = 0; at = n - 1 }) (record { answer = 2; at = 0 })) (record { answer = 1; at = 0 })

-- ---- a rule f of one record, on node n of eight
abbrev pub answer_at : (Connection → Connected) → List Connection → ℕ → ℕ
answer_at f cs n = cond (is_node n) (f (node_of cs n)).answer 2

abbrev pub table_at : (Connection → Connected) → List Connection → ℕ → List Connection
table_at f cs n = cond (is_node n) (put_node cs n (f (node_of cs n)).connection) cs

-- the answer and the table together
abbrev pub tabled : (Connection → Connected) → List Connection → ℕ → Tabled
tabled f cs n = record { answer = answer_at f cs n; connections = table_at f cs n }

abbrev pub connect_of : List Connection → ℕ → Bool → Tabled
connect_of cs n running = tabled (λ x. connect x running) cs n

abbrev pub disconnect_of : List Connection → ℕ → Tabled
disconnect_of cs n = tabled disconnect cs n

-- ---- what a call on a lent table cs promises of its answer r and of the table cs' that it leaves: a table that is not of eight
-- is refused with 1, and is left as it was
abbrev pub Changes : (Connection → Connected) → List Connection → ℕ → ℕ → List Connection → Type 0
Changes f cs n r cs' = (r ≡ cond (eqb (length cs) 8) (answer_at f cs n) 1) × (cs' ≡ cond (eqb (length cs) 8) (table_at f cs n) cs)

abbrev pub Connects : List Connection → ℕ → Bool → ℕ → List Connection → Type 0
Connects cs n running r cs' = Changes (λ x. connect x running) cs n r cs'

abbrev pub Disconnects : List Connection → ℕ → ℕ → List Connection → Type 0
Disconnects cs n r cs' = Changes disconnect cs n r cs'

-- every record disconnected, its id kept
abbrev pub Stops : List Connection → ℕ → List Connection → Type 0
Stops cs r cs' = (r ≡ cond (eqb (length cs) 8) 0 1) × (cs' ≡ cond (eqb (length cs) 8) (map off cs) cs)

-- No second outcome keeps what a public function of this crate promises: `Connects`, `Disconnects` and `Stops` (in Table) of
-- the lent table, and here the same of a table by value. Assumes nothing.
use Rattle.std.specs.Prelude.{ℕ, ◌≡◌, Bool, List, map}
use Rattle.kinds.specs.declared.Connection.{Connection}
use Rattle.kinds.specs.Outcome.{one, both}
use Rattle.rules.specs.Outside.{off}
use Rattle.connections.specs.declared.Tabled.{Tabled}
use Rattle.connections.specs.Table.{connect_of, disconnect_of, Connects, Disconnects, Stops}

-- ---- lent
pub connects_only : (cs : List Connection) (n : ℕ) (running : Bool) (r q : ℕ) (cs' cs'' : List Connection)
    → Connects cs n running r cs' → Connects cs n running q cs'' → (r ≡ q) × (cs' ≡ cs'')
connects_only cs n running r q cs' cs'' = both

pub disconnects_only : (cs : List Connection) (n r q : ℕ) (cs' cs'' : List Connection)
    → Disconnects cs n r cs' → Disconnects cs n q cs'' → (r ≡ q) × (cs' ≡ cs'')
disconnects_only cs n r q cs' cs'' = both

pub stops_only : (cs : List Connection) (r q : ℕ) (cs' cs'' : List Connection) → Stops cs r cs' → Stops cs q cs'' → (r ≡ q) × (cs' ≡ cs'')
stops_only cs r q cs' cs'' = both

-- ---- by value
abbrev pub ConnectsOf : List Connection → ℕ → Bool → Tabled → Type 0
ConnectsOf cs n running r = r ≡ connect_of cs n running

pub connects_of_only : (cs : List Connection) (n : ℕ) (running : Bool) (r q : Tabled)
    → ConnectsOf cs n running r → ConnectsOf cs n running q → r ≡ q
connects_of_only cs n running r q = one

abbrev pub DisconnectsOf : List Connection → ℕ → Tabled → Type 0
DisconnectsOf cs n r = r ≡ disconnect_of cs n

pub disconnects_of_only : (cs : List Connection) (n : ℕ) (r q : Tabled)
    → DisconnectsOf cs n r → DisconnectsOf cs n q → r ≡ q
disconnects_of_only cs n r q = one

abbrev pub StopsOf : List Connection → List Connection → Type 0
StopsOf cs r = r ≡ map off cs

pub stops_of_only : (cs r q : List Connection) → StopsOf cs r → StopsOf cs q → r ≡ q
stops_of_only cs r q = one

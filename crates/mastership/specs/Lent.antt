-- The mastership call on a lent record: what `rules` says of it, and what the call promises. Assumes nothing.
use Rattle.std.specs.Prelude.{ℕ, ◌≡◌, Bool, cond}
use Rattle.kinds.specs.declared.Mastership.{Mastership}
use Rattle.kinds.specs.declared.Term.{Term}
use Rattle.rules.specs.declared.Mastered.{Mastered}
use Rattle.rules.specs.Outside.{master, mastered}
use Rattle.machine.specs.State.{is_node}

-- the rule, for node n with a connection of this id, connected or not; no such node is refused with 2
abbrev pub master_of : Mastership → ℕ → ℕ → Bool → Mastered
master_of m n id connected = cond (is_node n) (master m n (record { id = id; connected = connected })) (mastered 2 m)

-- the same on the record's parts
abbrev pub master_by : ℕ → Term → ℕ → ℕ → ℕ → Bool → Mastered
master_by master term conn n id connected = master_of (record { master = master; term = term; conn = conn }) n id connected

-- what the call promises of its answer r and of the record m' that it leaves
abbrev pub Masters : Mastership → ℕ → ℕ → Bool → ℕ → Mastership → Type 0
Masters m n id connected r m' = (r ≡ (master_of m n id connected).answer) × (m' ≡ (master_of m n id connected).mastership)

-- No second outcome keeps what a public function of this crate promises: `Masters` (in Lent) of the lent record, and here
-- the same of a record by value. Assumes nothing.
use Rattle.std.specs.Prelude.{ℕ, ◌≡◌, Bool}
use Rattle.kinds.specs.declared.Mastership.{Mastership}
use Rattle.kinds.specs.Outcome.{one, both}
use Rattle.rules.specs.declared.Mastered.{Mastered}
use Rattle.mastership.specs.Lent.{master_of, Masters}

pub masters_only : (m : Mastership) (n id : ℕ) (connected : Bool) (r q : ℕ) (m' m'' : Mastership)
    → Masters m n id connected r m' → Masters m n id connected q m'' → (r ≡ q) × (m' ≡ m'')
masters_only m n id connected r q m' m'' = both

abbrev pub MastersOf : Mastership → ℕ → ℕ → Bool → Mastered → Type 0
MastersOf m n id connected r = r ≡ master_of m n id connected

pub masters_of_only : (m : Mastership) (n id : ℕ) (connected : Bool) (r q : Mastered)
    → MastersOf m n id connected r → MastersOf m n id connected q → r ≡ q
masters_of_only m n id connected r q = one

-- A contract that is an equation has one outcome. Every crate's Promises cite this law. Assumes nothing.
use Rattle.std.specs.Prelude.{◌≡◌}
use Rattle.std.proofs.Common.{sym, ◌∙◌}

-- of an answer, or of a lent table
pub one : {A : Type 0} {x r q : A} → r ≡ x → q ≡ x → r ≡ q
one p q = p ∙ sym q

-- of an answer and a lent table together
pub both : {A B : Type 0} {x r q : A} {y m n : B} → (r ≡ x) × (m ≡ y) → (q ≡ x) × (n ≡ y) → (r ≡ q) × (m ≡ n)
both p q = (one p.0 q.0, one p.1 q.1)

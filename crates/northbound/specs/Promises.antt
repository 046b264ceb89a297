-- No second outcome keeps what an exported function promises (in Exports). Assumes nothing.
use Rattle.std.specs.Prelude.{ℕ, ◌≡◌, List}
use Rattle.kinds.specs.Outcome.{one}
use Rattle.machine.specs.Calls.{Call}
use Rattle.machine.specs.Reads.{Query}
use Rattle.northbound.specs.Exports.{Claims, Freshens, Nights, Imports, Tallies, Lists, Shows, Explains, Tells}

pub claims_only : (l : List ℕ) (c : Call) (p q : ℕ) (m n : List ℕ) → Claims l c p m → Claims l c q n → (p ≡ q) × (m ≡ n)
claims_only l c p q m n a b = (one a.0.0 b.0.0, one a.1 b.1)

pub freshens_only : (l : List ℕ) (v p q : ℕ) (m n : List ℕ) → Freshens l v p m → Freshens l v q n → (p ≡ q) × (m ≡ n)
freshens_only l v p q m n a b = (one a.0.0 b.0.0, one a.1 b.1)

pub nights_only : (l : List ℕ) (n b : ℕ) (os room : List ℕ) (p q : ℕ) (m m' x x' : List ℕ) → Nights l n b os room p m x → Nights l n b os room q m' x'
    → (p ≡ q) × (m ≡ m') × (x ≡ x')
nights_only l n b os room p q m m' x x' u v = (one u.0.0 v.0.0, one u.1 v.1, one u.2 v.2)

pub imports_only : (l b : List ℕ) (p q : ℕ) (m n : List ℕ) → Imports l b p m → Imports l b q n → (p ≡ q) × (m ≡ n)
imports_only l b p q m n u v = (one u.0.0 v.0.0, one u.1 v.1)

pub tallies_only : (l : List ℕ) (k : ℕ) (m : List ℕ) (p q : ℕ) (n n' : List ℕ) → Tallies l k m p n → Tallies l k m q n' → (p ≡ q) × (n ≡ n')
tallies_only l k m p q n n' u v = (one u.0.0 v.0.0, one u.1 v.1)

pub lists_only : (l room : List ℕ) (p q : ℕ) (m n : List ℕ) → Lists l room p m → Lists l room q n → (p ≡ q) × (m ≡ n)
lists_only l room p q m n a b = (one a.0.0 b.0.0, one a.1 b.1)

pub shows_only : (l : List ℕ) (what : Query) (p q : ℕ) → Shows l what p → Shows l what q → p ≡ q
shows_only l what p q a b = one a.0 b.0

pub explains_only : (l : List ℕ) (n j i p q : ℕ) → Explains l n j i p → Explains l n j i q → p ≡ q
explains_only l n j i p q a b = one a.0 b.0

pub tells_only : (l : List ℕ) (p q : ℕ) → Tells l p → Tells l q → p ≡ q
tells_only l p q = one

-- No second outcome keeps what a public function of this crate promises: `Claims`, `Freshens` (in Fresh), `Lists` (in Live),
-- `Nights` (in Nights), `Imports` (in Imports), `Tallies` (in Tallies), and here what the reads promise, and `why`. Assumes nothing.
use Rattle.std.specs.Prelude.{ℕ, ◌≡◌, List}
use Rattle.kinds.specs.declared.Reply.{Reply}
use Rattle.kinds.specs.Outcome.{one, both}
use Rattle.machine.specs.Calls.{Call}
use Rattle.machine.specs.Reads.{Query}
use Rattle.controller.specs.declared.walking.Listed.{Listed}
use Rattle.controller.specs.declared.reads.Read.{Read}
use Rattle.controller.specs.declared.reads.Heads.{Heads}
use Rattle.controller.specs.declared.reasons.Why.{Why}
use Rattle.controller.specs.declared.nights.Night.{Night}
use Rattle.controller.specs.declared.imports.Imported.{Imported}
use Rattle.controller.specs.declared.tallies.Tally.{Tally}
use Rattle.controller.specs.Claims.{Claims}
use Rattle.controller.specs.Fresh.{Freshens}
use Rattle.controller.specs.Live.{Lists}
use Rattle.controller.specs.Reads.{read_of, heads_of}
use Rattle.controller.specs.Reasons.{why_of}
use Rattle.controller.specs.Nights.{Nights}
use Rattle.controller.specs.Imports.{Imports}
use Rattle.controller.specs.Tallies.{Tallies}

-- ---- what changes lent bytes
pub claims_only : (l : List ℕ) (c : Call) (r q : Reply) (m n : List ℕ) → Claims l c r m → Claims l c q n → (r ≡ q) × (m ≡ n)
claims_only l c r q m n = both

pub freshens_only : (l : List ℕ) (v : ℕ) (r q : Reply) (m n : List ℕ) → Freshens l v r m → Freshens l v q n → (r ≡ q) × (m ≡ n)
freshens_only l v r q m n = both

pub lists_only : (l room : List ℕ) (r q : Listed) (m n : List ℕ) → Lists l room r m → Lists l room q n → (r ≡ q) × (m ≡ n)
lists_only l room r q m n = both

pub nights_only : (l : List ℕ) (n b : ℕ) (os room : List ℕ) (r q : Night) (m m' x x' : List ℕ)
    → Nights l n b os room r m x → Nights l n b os room q m' x' → (r ≡ q) × (m ≡ m') × (x ≡ x')
nights_only l n b os room r q m m' x x' p u = (one p.0 u.0, one p.1 u.1, one p.2 u.2)

pub imports_only : (l b : List ℕ) (r q : Imported) (m n : List ℕ) → Imports l b r m → Imports l b q n → (r ≡ q) × (m ≡ n)
imports_only l b r q m n = both

pub tallies_only : (l : List ℕ) (k : ℕ) (m : List ℕ) (r q : Tally) (n n' : List ℕ) → Tallies l k m r n → Tallies l k m q n' → (r ≡ q) × (n ≡ n')
tallies_only l k m r q n n' = both

-- ---- reads
abbrev pub Shows : List ℕ → Query → Read → Type 0
Shows l what r = r ≡ read_of l what

pub shows_only : (l : List ℕ) (what : Query) (r q : Read) → Shows l what r → Shows l what q → r ≡ q
shows_only l what r q = one

abbrev pub ShowsHeads : List ℕ → Heads → Type 0
ShowsHeads l r = r ≡ heads_of l

pub shows_heads_only : (l : List ℕ) (r q : Heads) → ShowsHeads l r → ShowsHeads l q → r ≡ q
shows_heads_only l r q = one

-- ---- why a job does not move
abbrev pub Explains : List ℕ → (node job number : ℕ) → Why → Type 0
Explains l n j i r = r ≡ why_of l n j i

pub explains_only : (l : List ℕ) (n j i : ℕ) (r q : Why) → Explains l n j i r → Explains l n j i q → r ≡ q
explains_only l n j i r q = one

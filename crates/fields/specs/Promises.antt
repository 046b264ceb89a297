-- What each public function of this crate promises of its answer r, or of the bytes s' that it leaves, and that no second
-- outcome keeps the promise. Assumes nothing.
use Rattle.std.specs.Prelude.{ℕ, ◌≡◌, List}
use Rattle.kinds.specs.Outcome.{one}
use Rattle.fields.specs.Field.{field, put_field, fields_at, put_fields, quad}

-- ---- one number of w bytes
abbrev pub Gets : List ℕ → ℕ → ℕ → ℕ → Type 0
Gets s at w r = r ≡ field s at w

pub gets_only : (s : List ℕ) (at w r q : ℕ) → Gets s at w r → Gets s at w q → r ≡ q
gets_only s at w r q = one

abbrev pub Puts : List ℕ → ℕ → ℕ → ℕ → List ℕ → Type 0
Puts s at w x s' = s' ≡ put_field s at w x

pub puts_only : (s : List ℕ) (at w x : ℕ) (s' s'' : List ℕ) → Puts s at w x s' → Puts s at w x s'' → s' ≡ s''
puts_only s at w x s' s'' = one

-- ---- four numbers side by side, of the widths ws
abbrev pub GetsFour : List ℕ → ℕ → List ℕ → List ℕ → Type 0
GetsFour s at ws r = r ≡ fields_at s at ws

pub gets_four_only : (s : List ℕ) (at : ℕ) (ws r q : List ℕ) → GetsFour s at ws r → GetsFour s at ws q → r ≡ q
gets_four_only s at ws r q = one

abbrev pub PutsFour : List ℕ → ℕ → List ℕ → List ℕ → List ℕ → Type 0
PutsFour s at ws xs s' = s' ≡ put_fields s at ws (quad xs)

pub puts_four_only : (s : List ℕ) (at : ℕ) (ws xs s' s'' : List ℕ) → PutsFour s at ws xs s' → PutsFour s at ws xs s'' → s' ≡ s''
puts_four_only s at ws xs s' s'' = one

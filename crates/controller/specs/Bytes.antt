-- The pairs of an append as they are lent: four bytes a pair, its path and its value, each little-endian. Assumes nothing.
use Rattle.std.specs.Prelude.{ℕ, ◌+◌, ◌*◌, ◌/◌, ◌%◌, ◌<◌, Bool, true, false, ◌&&◌, List, [], ◌∷◌, eqb, length, get_or}
use Rattle.machine.specs.WellFormed.{pairs_ok}
use Rattle.machine.specs.Calls.{Pair, Call, append}
use Rattle.machine.specs.Import as list

-- every one is a byte
abbrev pub AllBytes : List ℕ → Type 0
AllBytes b = (j : ℕ) → get_or b j 0 < 256

-- the number of two bytes at a place, as in a list of entries (order 6); bytes past the end count as 0
abbrev pub two : List ℕ → ℕ → ℕ
two b k = list.two b k

unfoldable pub pairs_of : List ℕ → List Pair
pairs_of [] = []
pairs_of (a ∷ []) = []
pairs_of (a ∷ b ∷ []) = []
pairs_of (a ∷ b ∷ c ∷ []) = []
pairs_of (a ∷ b ∷ c ∷ d ∷ l) = record { path = a + 256 * b; value = c + 256 * d } ∷ pairs_of l

abbrev pub pairs_if : Bool → List Pair → List Pair
pairs_if true ps = ps
pairs_if false ps = []

-- bytes that are no list of pairs stand for no pairs, which no log takes (3)
abbrev pub append_of : List ℕ → Call
append_of b = append (pairs_if (eqb (length b % 4) 0) (pairs_of b))

-- ---- as the code reads them
-- the first four paths
abbrev pub paths_in : List ℕ → List ℕ
paths_in b = two b 0 ∷ two b 4 ∷ two b 8 ∷ two b 12 ∷ []

unfoldable pub valid_bytes : List ℕ → Bool
valid_bytes b = eqb (length b % 4) 0 && pairs_ok (length b / 4) (paths_in b)

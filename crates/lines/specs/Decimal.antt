-- Decimal digits: what a row of them is worth, and how a number is written. Assumes nothing.
use Rattle.std.specs.Prelude.{ℕ, zero, suc, ◌+◌, ◌/◌, ◌%◌, List, [], ◌∷◌, ◌++◌, Bool, cond, ◌&&◌, ltb, leb}

-- `0` to `9`
abbrev pub is_digit : ℕ → Bool
is_digit b = leb 48 b && leb b 57

-- the last k digits of n, none in front of the first that is not 0; `0` alone for 0
unfoldable pub spelled : ℕ → ℕ → List ℕ
spelled zero n = []
spelled (suc k) n = cond (ltb n 10) ((48 + n) ∷ []) (spelled k (n / 10) ++ ((48 + n % 10) ∷ []))

-- n in decimal with no leading zero; ten digits hold every number of 32 bits
unfoldable pub decimal : ℕ → List ℕ
decimal n = spelled 10 n

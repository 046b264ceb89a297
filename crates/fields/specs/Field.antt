-- A number of w bytes, little-endian, at a place of a list of bytes; and runs of such numbers. Assumes nothing.
use Rattle.std.specs.Prelude.{ℕ, zero, suc, ◌+◌, ◌*◌, ◌/◌, ◌%◌, List, [], ◌∷◌, get_or, set}

-- the number at a place
unfoldable pub field : List ℕ → ℕ → ℕ → ℕ
field l at zero = 0
field l at (suc w) = get_or l at 0 + 256 * field l (at + 1) w

-- the list with another number there
unfoldable pub put_field : List ℕ → ℕ → ℕ → ℕ → List ℕ
put_field l at zero x = l
put_field l at (suc w) x = put_field (set l at (x % 256)) (at + 1) w (x / 256)

-- numbers one after another, of the widths ws
unfoldable pub fields_at : List ℕ → ℕ → List ℕ → List ℕ
fields_at l at [] = []
fields_at l at (w ∷ ws) = field l at w ∷ fields_at l (at + w) ws

-- the list with others there
unfoldable pub put_fields : List ℕ → ℕ → List ℕ → List ℕ → List ℕ
put_fields l at [] xs = l
put_fields l at (w ∷ ws) [] = l
put_fields l at (w ∷ ws) (x ∷ xs) = put_fields (put_field l at w x) (at + w) ws xs

-- how many bytes a run takes
abbrev pub total : List ℕ → ℕ
total [] = 0
total (w ∷ ws) = w + total ws

-- four of one width
abbrev pub four : ℕ → List ℕ
four w = w ∷ w ∷ w ∷ w ∷ []

abbrev pub ones : List ℕ
ones = 1 ∷ 1 ∷ 1 ∷ 1 ∷ []

abbrev pub twos : List ℕ
twos = 2 ∷ 2 ∷ 2 ∷ 2 ∷ []

-- the four elements of an array of four
abbrev pub quad : List ℕ → List ℕ
quad l = get_or l 0 0 ∷ get_or l 1 0 ∷ get_or l 2 0 ∷ get_or l 3 0 ∷ []

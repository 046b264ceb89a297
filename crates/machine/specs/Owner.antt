-- Order 7, who set this path: the number of the newest live change that set it, as it is kept beside the committed values; 0 if
-- none did, or if it is folded away. Assumes nothing.
use Rattle.std.specs.Prelude.{ℕ, cond, leb, get_or}
use Rattle.machine.specs.State.{Log, State}

-- a number as it is answered: one at or below the last fold as 0
abbrev pub unless_folded : Log → ℕ → ℕ
unless_folded l k = cond (leb k l.folded.0) 0 k

abbrev pub owner_of : State → ℕ → ℕ
owner_of s p = unless_folded s.log (get_or s.committed.owners p 0)

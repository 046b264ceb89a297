-- What a store writes into a head, Committed's or Applied's. `aim` is where a job leads: its number for a change, its
-- r.index for a rollback. Assumes nothing.
use Rattle.kinds.specs.declared.Head.{Head}
use Rattle.kinds.specs.declared.Number.{Number}
use Rattle.kinds.specs.declared.Ordinal.{Ordinal}

-- target = aim
abbrev pub aimed : Head → Number → Head
aimed h aim = record { index = h.index; target = aim; revision = h.revision; ordinal = h.ordinal }

-- index = i, revision = aim, and the ordinal
abbrev pub landed : Head → Number → Number → Ordinal → Head
landed h i aim o = record { index = i; target = h.target; revision = aim; ordinal = o }

-- index = i
abbrev pub passed : Head → Number → Head
passed h i = record { index = i; target = h.target; revision = h.revision; ordinal = h.ordinal }

-- "close": target = aim, index = i, ordinal = o
abbrev pub closed : Head → Number → Number → Ordinal → Head
closed h i aim o = record { index = i; target = aim; revision = h.revision; ordinal = o }

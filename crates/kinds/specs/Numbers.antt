-- Log numbers, ordinals and terms: made from a number, and the one after each (paper: Numbers). Assumes nothing.
use Rattle.std.specs.Prelude.{ℕ, ◌+◌, Bool, true, false, eqb, leb}
use Rattle.kinds.specs.declared.Number.{Number}
use Rattle.kinds.specs.declared.Ordinal.{Ordinal}
use Rattle.kinds.specs.declared.Term.{Term}

abbrev pub num : ℕ → Number
num n = record { 0 = n }

abbrev pub ord : ℕ → Ordinal
ord n = record { 0 = n }

abbrev pub trm : ℕ → Term
trm n = record { 0 = n }

-- b is a and one: "change = i − 1", "applied ordinal = o − 1", where b = 0 follows nothing
abbrev pub follows : ℕ → ℕ → Bool
follows a b = eqb (a + 1) b

-- ordinals run to 131,070
abbrev pub is_full : ℕ → Bool
is_full o = leb 131070 o

-- terms, connection ids and target ids are 32-bit
abbrev pub is_last : ℕ → Bool
is_last n = leb 4294967295 n

abbrev pub ordinal_unless : Bool → ℕ → Ordinal
ordinal_unless true o = ord o
ordinal_unless false o = ord (o + 1)

abbrev pub next_ordinal : Ordinal → Ordinal
next_ordinal o = ordinal_unless (is_full o.0) o.0

abbrev pub term_unless : Bool → ℕ → Term
term_unless true n = trm n
term_unless false n = trm (n + 1)

abbrev pub next_term : Term → Term
next_term t = term_unless (is_last t.0) t.0

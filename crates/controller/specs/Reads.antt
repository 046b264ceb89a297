-- What a read answers: refusal 1, then what the machine reads from what the image shows. Assumes nothing.
use Rattle.std.specs.Prelude.{ℕ, Bool, true, false, List}
use Rattle.kinds.specs.declared.Head.{Head}
use Rattle.machine.specs.State.{State, fresh_part}
use Rattle.machine.specs.Reads.{Query, Answer, refuses, shows_kept, read}
use Rattle.image.specs.View.{view}
use Rattle.image.specs.Formed.{formed}
use Rattle.controller.specs.declared.reads.Read.{Read}
use Rattle.controller.specs.declared.reads.Heads.{Heads}

abbrev pub given : Answer → Read
given x = record { answer = x.answer; value = x.value }

abbrev pub unless : Bool → Answer → Answer
unless true x = x
unless false x = refuses 1

unfoldable pub read_of : List ℕ → Query → Read
read_of l q = given (unless (formed l) (read (view l) q))

-- Committed's and Applied's head
abbrev pub heads_in : State → Heads
heads_in s = record { committed = s.committed.head; applied = s.applied.head }

abbrev pub no_head : Head
no_head = fresh_part.head

abbrev pub heads_if : Bool → State → Heads
heads_if true s = heads_in s
heads_if false s = record { committed = no_head; applied = no_head }

-- zeros, where the image is not well-formed
unfoldable pub heads_of : List ℕ → Heads
heads_of l = heads_if (formed l) (view l)

-- ---- as the code reads them
-- what a read of a number is refused with, 0 where it is kept
unfoldable pub number_answer : List ℕ → ℕ → ℕ
number_answer l i = (unless (formed l) (shows_kept (view l) i 0)).answer

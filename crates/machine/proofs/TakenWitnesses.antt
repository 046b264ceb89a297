-- The class of a transaction, whether the switch took it and whether it was undone, as they are read (order 11), on sessions, by
-- computing: a group for each sentence. Assumes nothing.
use Prim.Native.Nat.{ℕ}
use mathlib.Core.List.{List, [], ◌∷◌}
use mathlib.Core.Bool.{Bool, true, false, ◌&&◌}
use mathlib.Core.Path.{◌≡◌, refl}
use lib.Dec.{eqb}
use Rattle.kinds.specs.declared.Status.{Status}
use Rattle.kinds.specs.declared.Status.TheVariants.{None, Pending, InProgress, Complete, Aborted, Canceled, Failed}
use Rattle.machine.specs.State.{State, fresh}
use Rattle.machine.specs.Stores.{after, afters}
use Rattle.machine.specs.Rows.{overlay, rows_of}
use Rattle.machine.specs.Differ.{differ, differ_row}
use Rattle.machine.specs.WellFormed.{all_from, all_at_most, pairs_ok, entry_ok, head_ok, well_formed}
use Rattle.machine.specs.LiveList.{hops}
use Rattle.machine.specs.Folding.{base_row}
use Rattle.machine.specs.Class.{class_by}
use Rattle.machine.specs.Reads.{Query, of_class, of_took, of_undone, read}
use Rattle.machine.specs.Calls.{Call, append, rollback, start, connect, master, sync, work, fold_to, values_ok, present, plan_of, decide}
use Rattle.machine.specs.Step.{outcome, step, state_from}
use Rattle.machine.specs.Built.{side, entry, head, none, log, state_of}

-- ---- a number after a session, the newest call first: its class, took and undone, or what all three are refused with
pub data Row : Type 0 where
  of : List Call → (number class took undone : ℕ) → Row
  refused : List Call → (number answer : ℕ) → Row

abbrev answers : State → Query → (answer value : ℕ) → Bool
answers s q a v = let r = read s q in eqb r.answer a && eqb r.value v

abbrev shows : State → (number class took undone : ℕ) → Bool
shows s i c t u = answers s (of_class i) 0 c && (answers s (of_took i) 0 t && answers s (of_undone i) 0 u)

unfoldable pub judge : List Row → Bool
judge [] = true
judge (of cs i c t u ∷ rs) = shows (state_from (fresh false) cs) i c t u && judge rs
judge (refused cs i a ∷ rs) =
    let s = state_from (fresh false) cs in
    (answers s (of_class i) a 0 && (answers s (of_took i) a 0 && answers s (of_undone i) a 0)) && judge rs

-- ---- sessions, the newest first
abbrev line : List Call
line = sync 1 ∷ sync 1 ∷ master 1 ∷ connect 1 ∷ start ∷ []

abbrev given : List Call → List Call
given cs = append (record { path = 3; value = 7 } ∷ []) ∷ cs

-- a job begun and ended; ended with an outcome, cut at a store
abbrev through : (job number : ℕ) → List Call → List Call
through j i cs = work 1 j i 0 0 ∷ work 1 j i 0 0 ∷ cs

abbrev ended : (job number outcome cut : ℕ) → List Call → List Call
ended j i o c cs = work 1 j i o c ∷ work 1 j i 0 0 ∷ cs

-- 1 committed; applied; its rollback committed, and applied
abbrev committed : List Call
committed = through 1 1 (given line)

abbrev applied : List Call
applied = through 2 1 committed

abbrev undoing : List Call
undoing = through 3 1 (rollback 1 ∷ applied)

abbrev undone : List Call
undone = through 4 1 undoing

-- ---- a change is taken with the push of its apply, and not before; a push that is cut at its first store is not made
pub taken : List Row
taken =
    of (given line) 1 1 0 0 ∷ of committed 1 1 0 0 ∷ of (work 1 2 1 0 0 ∷ committed) 1 1 0 0 ∷ of (ended 2 1 0 1 committed) 1 1 0 0
    ∷ of applied 1 4 1 0 ∷ of (through 2 2 (through 1 2 (given applied))) 2 4 1 0 ∷ of (given applied) 2 1 0 0 ∷ of (given applied) 1 4 1 0 ∷ []

pub taken_hold : judge taken ≡ true
unfolding judge class_by read state_from step outcome decide differ differ_row plan_of afters after overlay rows_of all_from all_at_most pairs_ok entry_ok head_ok well_formed values_ok present taken
taken_hold = refl

-- ---- where the store that closes it is cut, it is taken though its apply is in progress; and its class is open
pub cut : List Row
cut =
    of (ended 2 1 0 2 committed) 1 1 1 0 ∷ of (work 1 2 1 0 0 ∷ ended 2 1 0 2 committed) 1 4 1 0
    ∷ of (given (ended 2 1 0 2 committed)) 1 1 1 0 ∷ of (given (ended 2 1 0 2 committed)) 2 1 0 0
    ∷ of (ended 4 1 0 1 undoing) 1 5 1 0 ∷ of (ended 4 1 0 2 undoing) 1 5 1 1 ∷ of (work 1 4 1 0 0 ∷ ended 4 1 0 2 undoing) 1 6 1 1 ∷ []

pub cut_hold : judge cut ≡ true
unfolding judge class_by read state_from step outcome decide differ differ_row plan_of afters after overlay rows_of all_from all_at_most pairs_ok entry_ok head_ok well_formed values_ok present cut
cut_hold = refl

-- ---- it is undone with the push of its rollback, and had been taken all the same
pub undoes : List Row
undoes =
    of (rollback 1 ∷ applied) 1 5 1 0 ∷ of undoing 1 5 1 0 ∷ of (work 1 4 1 0 0 ∷ undoing) 1 5 1 0 ∷ of undone 1 6 1 1
    ∷ of (given undone) 1 6 1 1 ∷ of (given undone) 2 1 0 0 ∷ []

pub undoes_hold : judge undoes ≡ true
unfolding judge class_by read state_from step outcome decide differ differ_row plan_of afters after overlay rows_of all_from all_at_most pairs_ok entry_ok head_ok well_formed values_ok present undoes
undoes_hold = refl

-- ---- what was invalid, what the switch rejected and what was then passed over was not taken. The rollback of what it rejected is
-- pushed, and so that is undone; that of what was passed over is canceled, and undoes nothing
-- the switch rejects 1; 2 is behind it, and is passed over
abbrev rejected : List Call
rejected = ended 2 1 1 0 committed

abbrev behind : List Call
behind = work 1 2 2 0 0 ∷ through 1 2 (given rejected)

pub others : List Row
others =
    of (ended 1 1 1 0 (given line)) 1 3 0 0 ∷ of rejected 1 2 0 0 ∷ of (through 3 1 (rollback 1 ∷ rejected)) 1 5 0 0
    ∷ of (through 4 1 (through 3 1 (rollback 1 ∷ rejected))) 1 6 0 1
    ∷ of behind 2 2 0 0 ∷ of (through 3 2 (rollback 2 ∷ behind)) 2 5 0 0 ∷ of (work 1 4 2 0 0 ∷ through 3 2 (rollback 2 ∷ behind)) 2 6 0 0 ∷ []

pub others_hold : judge others ≡ true
unfolding judge class_by read state_from step outcome decide differ differ_row plan_of afters after overlay rows_of all_from all_at_most pairs_ok entry_ok head_ok well_formed values_ok present others
others_hold = refl

-- ---- a folded number is 18; 0 and one past the end are 5, in an empty log too
pub numbers : List Row
numbers =
    refused [] 0 5 ∷ refused [] 1 5 ∷ refused line 65535 5 ∷ refused applied 0 5 ∷ refused applied 2 5
    ∷ refused (fold_to 1 ∷ applied) 1 18 ∷ refused (fold_to 1 ∷ applied) 0 5 ∷ refused (fold_to 1 ∷ applied) 2 5
    ∷ refused (fold_to 1 ∷ given applied) 1 18 ∷ of (fold_to 1 ∷ given applied) 2 1 0 0 ∷ refused (fold_to 1 ∷ given applied) 3 5 ∷ []

pub numbers_hold : judge numbers ≡ true
unfolding judge class_by read state_from step outcome decide differ differ_row plan_of afters after overlay rows_of all_from all_at_most pairs_ok entry_ok head_ok well_formed values_ok present hops base_row numbers
numbers_hold = refl

-- ---- each status of an apply, beside ordinals that are Applied's and that are not: entry 1, with the ordinal 4 of its change and 5 of
-- its rollback, and Applied's ordinal
pub data Mark : Type 0 where
  by : (apply back : Status) → (appliedOrdinal took undone : ℕ) → Mark

abbrev marked : (apply back : Status) → (appliedOrdinal : ℕ) → State
marked x y a = state_of (log 0 (entry 2 (side Complete x 4) (side Complete y 5) 0 ∷ [])) 1 none (head 1 1 1 a)

unfoldable pub mark : List Mark → Bool
mark [] = true
mark (by x y a t u ∷ ms) = let s = marked x y a in (answers s (of_took 1) 0 t && answers s (of_undone 1) 0 u) && mark ms

pub marks : List Mark
marks =
    by InProgress None 4 1 0 ∷ by InProgress None 3 0 0 ∷ by InProgress None 5 0 0
    ∷ by Complete InProgress 5 1 1 ∷ by Complete InProgress 4 1 0 ∷ by Complete InProgress 6 1 0 ∷ by Complete Complete 0 1 1 ∷ by Complete Complete 6 1 1
    ∷ by None None 4 0 0 ∷ by Pending None 4 0 0 ∷ by Aborted None 4 0 0 ∷ by Canceled None 4 0 0 ∷ by Failed None 4 0 0
    ∷ by None None 5 0 0 ∷ by None Pending 5 0 0 ∷ by None Aborted 5 0 0 ∷ by None Canceled 5 0 0 ∷ by None Failed 5 0 0 ∷ []

pub marks_hold : mark marks ≡ true
unfolding mark read marks
marks_hold = refl

-- Order 13 in states that no session reaches: tables that differ anywhere, of either kind. Computed, as the sessions
-- (RememberSessions) are. Assumes nothing.
use Prim.Native.Nat.{ℕ}
use mathlib.Core.List.{List, [], ◌∷◌, ◌++◌}
use mathlib.Core.Bool.{Bool, true, false}
use mathlib.Core.Path.{◌≡◌, refl}
use lib.ListN.{replicate}
use Rattle.kinds.specs.declared.Progress.{Progress}
use Rattle.kinds.specs.declared.Progress.TheVariants.{Pending, InProgress, Complete}
use Rattle.kinds.specs.Numbers.{trm}
use Rattle.machine.specs.State.{State, absent, never}
use Rattle.machine.specs.Stores.{with_net, with_applied, after, afters}
use Rattle.machine.specs.Rows.{overlay, rows_of}
use Rattle.machine.specs.Differ.{differ, differ_row}
use Rattle.machine.specs.WellFormed.{all_from, all_at_most, pairs_ok, entry_ok, head_ok, well_formed}
use Rattle.machine.specs.Reads.{entry_numbers, state_numbers}
use Rattle.machine.specs.Calls.{stop, sync, values_ok, present, plan_of, decide}
use Rattle.machine.specs.Step.{outcome, step, state_from}
use Rattle.machine.specs.Built.{log, none, logged}
use Rattle.machine.specs.Sessions.{reads, nets, begins, agrees}
use Rattle.machine.specs.RememberSessions.{Row, of, row_numbers, told}

-- node 1 is master, and reaches the target; the configuration is so, and these values are the target's and applied
abbrev apart : Bool → Progress → (target applied : List ℕ) → State
apart m g ws vs =
    with_net (with_applied (logged (log 0 [])) (record { head = none; values = vs }))
    (record {
      configuration = record { state = g; term = trm 0 };
      mastership = record { master = 1; term = trm 1; conn = 1 };
      connections = record { id = 1; connected = true } ∷ replicate 7 never;
      target = record { id = 1; running = true; remembers = m };
      values = ws;
    })

-- one path alone, the first, one within and the last
abbrev first : ℕ → List ℕ
first v = v ∷ replicate 31 0

abbrev within : ℕ → List ℕ
within v = replicate 16 0 ++ (v ∷ replicate 15 0)

abbrev final : ℕ → List ℕ
final v = replicate 31 0 ++ (v ∷ [])

-- ---- every path is looked at, the first and the last too; a value put back to absent is written as any other
abbrev wrote : Bool → List Row
wrote m =
    of (apart m InProgress (first 5) absent) [] (sync 1) 0 1 1 (4 ∷ 5 ∷ 0 ∷ 0 ∷ []) (reads 0 0 0 0 ∷ []) ∷ of (apart m InProgress absent (first 5)) [] (sync 1) 0 1 1 (4 ∷ 5 ∷ 0 ∷ 5 ∷ []) (reads 0 0 5 5 ∷ [])
    ∷ of (apart m InProgress (within 65535) (within 65534)) [] (sync 1) 0 1 1 (4 ∷ 5 ∷ 16 ∷ 65534 ∷ []) (reads 16 0 65534 65534 ∷ [])
    ∷ of (apart m InProgress (final 5) (final 6)) [] (sync 1) 0 1 1 (4 ∷ 5 ∷ 31 ∷ 6 ∷ []) (reads 31 0 6 6 ∷ []) ∷ of (apart m InProgress (final 5) (first 5)) [] (sync 1) 0 2 1 (4 ∷ 5 ∷ 0 ∷ 5 ∷ 5 ∷ 31 ∷ 0 ∷ []) (reads 0 0 5 5 ∷ reads 31 0 0 0 ∷ [])
    ∷ of (apart m InProgress (replicate 32 5) (replicate 32 5)) [] (sync 1) 0 0 1 (4 ∷ []) (reads 0 0 5 5 ∷ reads 31 0 5 5 ∷ []) ∷ []

pub anywhere : List Row
anywhere = wrote true ++ wrote false

pub anywhere_hold : told anywhere ≡ true
unfolding told row_numbers state_from step outcome decide differ differ_row plan_of afters after overlay rows_of all_from all_at_most pairs_ok entry_ok head_ok well_formed values_ok present agrees begins entry_numbers state_numbers anywhere
anywhere_hold = refl

-- ---- all but one of the 32; and 0 where it only becomes InProgress, from Pending and from Complete
abbrev begun : Bool → Progress → Row
begun m g = of (apart m g (replicate 32 4) (replicate 32 5)) [] (sync 1) 0 0 0 (4 ∷ []) (reads 0 0 5 4 ∷ reads 31 0 5 4 ∷ nets (2 ∷ 0 ∷ []) ∷ [])

abbrev ended : Bool → Row
ended m =
    of (apart m InProgress (replicate 32 4) (replicate 2 5 ++ (4 ∷ replicate 29 5))) [] (sync 1) 0 31 1
    (4 ∷ 5 ∷ 0 ∷ 5 ∷ 5 ∷ 1 ∷ 5 ∷ 5 ∷ 3 ∷ 5 ∷ 5 ∷ 4 ∷ 5 ∷ 5 ∷ 5 ∷ 5 ∷ 5 ∷ 6 ∷ 5 ∷ 5 ∷ 7 ∷ 5 ∷ 5 ∷ 8 ∷ 5 ∷ 5 ∷ 9 ∷ 5 ∷ 5 ∷ 10 ∷ 5 ∷ 5 ∷ 11 ∷ 5 ∷ 5 ∷ 12 ∷ 5 ∷ 5 ∷ 13 ∷ 5 ∷ 5 ∷ 14 ∷ 5 ∷ 5 ∷ 15 ∷ 5
    ∷ 5 ∷ 16 ∷ 5 ∷ 5 ∷ 17 ∷ 5 ∷ 5 ∷ 18 ∷ 5 ∷ 5 ∷ 19 ∷ 5 ∷ 5 ∷ 20 ∷ 5 ∷ 5 ∷ 21 ∷ 5 ∷ 5 ∷ 22 ∷ 5 ∷ 5 ∷ 23 ∷ 5 ∷ 5 ∷ 24 ∷ 5 ∷ 5 ∷ 25 ∷ 5 ∷ 5 ∷ 26 ∷ 5 ∷ 5 ∷ 27 ∷ 5 ∷ 5 ∷ 28 ∷ 5 ∷ 5 ∷ 29 ∷ 5 ∷ 5 ∷ 30 ∷ 5 ∷ 5 ∷ 31 ∷ 5 ∷ [])
    (reads 0 0 5 5 ∷ reads 2 0 4 4 ∷ reads 31 0 5 5 ∷ nets (3 ∷ 1 ∷ []) ∷ [])

pub everywhere : List Row
everywhere = begun true Pending ∷ begun true Complete ∷ begun false Pending ∷ begun false Complete ∷ ended true ∷ ended false ∷ []

pub everywhere_hold : told everywhere ≡ true
unfolding told row_numbers state_from step outcome decide differ differ_row plan_of afters after overlay rows_of all_from all_at_most pairs_ok entry_ok head_ok well_formed values_ok present agrees begins entry_numbers state_numbers everywhere
everywhere_hold = refl

-- ---- 1 comes first, of either kind: a table that is too short is neither written nor cleared
abbrev short : Bool → List Row
short m = let s = apart m InProgress (replicate 31 4) (replicate 32 5) in of s [] (sync 1) 1 0 0 [] (reads 0 0 5 4 ∷ []) ∷ of s [] (sync 0) 1 0 0 [] [] ∷ of s [] stop 1 0 0 [] (reads 0 0 5 4 ∷ []) ∷ []

pub unformed : List Row
unformed = short true ++ short false

pub unformed_hold : told unformed ≡ true
unfolding told row_numbers state_from step outcome decide differ differ_row plan_of afters after overlay rows_of all_from all_at_most pairs_ok entry_ok head_ok well_formed values_ok present agrees begins entry_numbers state_numbers unformed
unformed_hold = refl

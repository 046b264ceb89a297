-- Whether a push that was cut at its first store is made good (order 8; Demand3's `whole`), by computing: what the notes of
-- sessions say, and of note lists that no session gives. Assumes nothing.
use Rattle.std.specs.Prelude.{List, [], ◌∷◌, Bool, true, false, not, ◌&&◌, ◌≡◌, refl, eqb}
use Rattle.machine.specs.Stores.{after, afters}
use Rattle.machine.specs.Rows.{overlay, rows_of}
use Rattle.machine.specs.Differ.{differ, differ_row}
use Rattle.machine.specs.WellFormed.{all_from, all_at_most, pairs_ok, entry_ok, head_ok, well_formed}
use Rattle.machine.specs.Calls.{Call, append, rollback, start, connect, disconnect, master, sync, work, values_ok, present, plan_of, decide}
use Rattle.machine.specs.Step.{outcome, step, run}
use Rattle.machine.specs.Notes.{Note, nothing, wrote, half, full, notes}
use Rattle.history.specs.Demand3.{cut_since, last_cut, pushed_since, made_good}

-- ---- sessions, the newest call first: 1 is committed and has begun to apply; its push is cut at its first store
abbrev begun : List Call
begun =
    work 1 2 1 0 0 ∷ work 1 1 1 0 0 ∷ work 1 1 1 0 0 ∷ append (record { path = 3; value = 7 } ∷ []) ∷ sync 1 ∷ sync 1 ∷ master 1 ∷ connect 1 ∷ start ∷ []

abbrev cut : List Call
cut = work 1 2 1 0 1 ∷ begun

-- it ends Failed; its rollback is committed, and has begun to apply
abbrev failed : List Call
failed = work 1 2 1 1 0 ∷ cut

abbrev returning : List Call
returning = work 1 4 1 0 0 ∷ work 1 3 1 0 0 ∷ work 1 3 1 0 0 ∷ rollback 1 ∷ failed

-- the line is lost, another is taken, and synchronising has begun
abbrev syncing : List Call
syncing = sync 1 ∷ master 1 ∷ connect 1 ∷ master 1 ∷ disconnect 1 ∷ cut

-- no push was cut; it was pushed again, whole or cut after its second store; a synchronise wrote; its rollback was pushed
pub good : List (List Call)
good = [] ∷ begun ∷ (work 1 2 1 0 0 ∷ cut) ∷ (work 1 2 1 0 2 ∷ cut) ∷ (sync 1 ∷ syncing) ∷ (work 1 4 1 0 0 ∷ returning) ∷ []

-- cut, once or twice; Failed; its rollback cut too; synchronising only begun; cut again after a synchronise that wrote
pub bad : List (List Call)
bad = cut ∷ (work 1 2 1 0 1 ∷ cut) ∷ failed ∷ returning ∷ (work 1 4 1 0 1 ∷ returning) ∷ syncing ∷ (work 1 2 1 0 1 ∷ sync 1 ∷ syncing) ∷ []

unfoldable pub each : (List Call → Bool) → List (List Call) → Bool
each f [] = true
each f (cs ∷ css) = f cs && each f css

pub good_hold : each (λ cs. made_good (notes false cs)) good ≡ true
unfolding each good notes cut_since pushed_since last_cut run step outcome decide differ differ_row plan_of afters after overlay rows_of all_from all_at_most pairs_ok entry_ok head_ok well_formed values_ok present
good_hold = refl

pub bad_hold : each (λ cs. not (made_good (notes false cs))) bad ≡ true
unfolding each bad notes cut_since pushed_since last_cut run step outcome decide differ differ_row plan_of afters after overlay rows_of all_from all_at_most pairs_ok entry_ok head_ok well_formed values_ok present
bad_hold = refl

-- ---- note lists: another's push makes nothing good, and a synchronise that wrote whatever came before it
pub notes_hold :
    (not (made_good (full 2 ∷ half 1 ∷ []))
    && (made_good (full 1 ∷ nothing ∷ half 1 ∷ [])
    && (made_good (full 2 ∷ wrote ∷ half 1 ∷ [])
    && (not (made_good (half 1 ∷ full 1 ∷ half 1 ∷ []))
    && (not (made_good (full 1 ∷ half 2 ∷ full 1 ∷ half 1 ∷ [])) && eqb (last_cut (full 2 ∷ wrote ∷ nothing ∷ half 3 ∷ half 1 ∷ [])) 3)))))
    ≡ true
unfolding cut_since pushed_since last_cut
notes_hold = refl

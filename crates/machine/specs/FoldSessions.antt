-- Sessions of order 10, as those of the paper (Sessions): one table, computed group by group. Each sentence of the order has a
-- line here that a definition without it does not give. Assumes nothing.
use Rattle.std.specs.Prelude.{ℕ, zero, suc, List, [], ◌∷◌, ◌++◌, Bool, true, false, ◌&&◌, ◌≡◌, refl, eqb, length, get_or}
use Rattle.kinds.specs.declared.Status.{Status}
use Rattle.kinds.specs.declared.Status.TheVariants.{Pending, InProgress, Complete, Aborted, Canceled, Failed}
use Rattle.kinds.specs.Numbers.{num}
use Rattle.kinds.specs.Events.{event}
use Rattle.machine.specs.State.{State, fresh}
use Rattle.machine.specs.Stores.{after, afters}
use Rattle.machine.specs.Rows.{overlay, rows_of}
use Rattle.machine.specs.Differ.{differ, differ_row}
use Rattle.machine.specs.WellFormed.{all_from, all_at_most, pairs_ok, entry_ok, head_ok, well_formed}
use Rattle.machine.specs.LiveList.{hops, live}
use Rattle.machine.specs.Folding.{base_row}
use Rattle.machine.specs.Reads.{of_table, of_entry, of_state, entry_numbers, state_numbers, read}
use Rattle.machine.specs.Calls.{append, rollback, work, fold_to, values_ok, present, plan_of, decide}
use Rattle.machine.specs.Step.{outcome, step}
use Rattle.machine.specs.Sessions.{Line, gives, tells, reads, shows, stands, marks, heads, nets, nodes, asks, agrees, accepts, refuses, adds, does, mastered, opened, commits_change, applies_change, commits_rollback, applies_rollback}

-- ---- lines of the paper's kind; and what is seen of a fold
pub data Piece : Type 0 where
  says : List Line → Piece
  bases : (path value : ℕ) → Piece  -- the base value of a path
  lists : List ℕ → Piece  -- the live list
  keeps : (fold kept : ℕ) → Piece  -- the last fold, and how many are kept

unfoldable pub same_list : List ℕ → List ℕ → Bool
same_list [] [] = true
same_list [] (y ∷ ys) = false
same_list (x ∷ xs) [] = false
same_list (x ∷ xs) (y ∷ ys) = eqb x y && same_list xs ys

-- the state after the calls of some lines
unfoldable pub ended : State → List Line → State
ended s [] = s
ended s (gives c r ∷ ls) = ended (step s c).next ls
ended s (tells c a p g i x ∷ ls) = ended (step s c).next ls
ended s (reads p c a v ∷ ls) = ended s ls
ended s (stands c o a u ∷ ls) = ended s ls
ended s (shows p g i x ∷ ls) = ended s ls
ended s (marks i xs ∷ ls) = ended s ls
ended s (heads xs ∷ ls) = ended s ls
ended s (nets xs ∷ ls) = ended s ls
ended s (nodes n xs ∷ ls) = ended s ls
ended s (asks q a v ∷ ls) = ended s ls

unfoldable pub holds : State → List Piece → Bool
holds s [] = true
holds s (says ls ∷ ps) = agrees s ls && holds (ended s ls) ps
holds s (bases p v ∷ ps) = eqb (get_or s.log.base p 0) v && holds s ps
holds s (lists ks ∷ ps) = same_list (live s) ks && holds s ps
holds s (keeps b n ∷ ps) = (eqb s.log.folded.0 b && eqb (length s.log.entries) n) && holds s ps

unfoldable pub hold : List (List Piece) → Bool
hold [] = true
hold (ps ∷ rest) = holds (fresh false) ps && hold rest

-- ---- lines, shorter
-- change i committed and applied; rolled back
abbrev takes : ℕ → List Line
takes i = commits_change i ++ applies_change i

abbrev undoes : ℕ → List Line
undoes i = accepts (rollback i) ∷ (commits_rollback i ++ applies_rollback i)

-- a job whose second store is cut off
abbrev cuts : (phase stage job outcome number : ℕ) → Status → Line
cuts p g j r i x = gives (work 1 j i r 1) (record { answer = 0; event = event p g (num i) x })

-- a push whose third store, the status, is cut off
abbrev pushes : (phase job number : ℕ) → Line
pushes p j i = gives (work 1 j i 0 2) (record { answer = 0; event = event p 2 (num i) Complete })

-- 1 and 2, both of path 3
abbrev two : List Line
two = adds 1 3 7 ∷ adds 2 3 9 ∷ opened

-- ---- numbers: 5 for none, before 17 and 18; 18 for a folded one, straight after it
numbers : List Piece
numbers =
    says
    (refuses 5 (fold_to 0) ∷ refuses 5 (fold_to 1) ∷ adds 1 3 7
    ∷ (opened ++ (commits_change 1 ++ (refuses 5 (fold_to 0) ∷ refuses 5 (fold_to 2) ∷ refuses 17 (fold_to 1) ∷ (applies_change 1 ++ (accepts (fold_to 1) ∷ []))))))
    ∷ keeps 1 0
    ∷ says
    (reads 3 7 7 7 ∷ stands 1 1 1 1
    ∷ refuses 5 (rollback 0) ∷ refuses 18 (rollback 1) ∷ refuses 5 (rollback 2)
    ∷ refuses 2 (work 9 1 1 0 0) ∷ refuses 5 (work 1 1 0 0 0) ∷ refuses 18 (work 1 1 1 0 0) ∷ refuses 18 (work 2 2 1 0 0) ∷ refuses 5 (work 1 1 2 0 0)
    ∷ refuses 5 (fold_to 0) ∷ refuses 5 (fold_to 1) ∷ refuses 5 (fold_to 2) ∷ adds 2 3 9
    ∷ asks (of_entry 1 22) 2 0 ∷ asks (of_entry 0 1) 5 0 ∷ asks (of_entry 1 1) 18 0 ∷ asks (of_entry 2 1) 0 1 ∷ asks (of_entry 3 1) 5 0
    ∷ asks (of_table 4 3) 0 7 ∷ asks (of_state 1) 0 2 ∷ asks (of_state 18) 0 1 ∷ [])
    ∷ []

pub numbered : List (List Piece)
numbered = numbers ∷ []

pub numbered_hold : hold numbered ≡ true
unfolding hold holds ended agrees same_list step outcome decide differ differ_row read entry_numbers state_numbers well_formed all_from all_at_most entry_ok head_ok pairs_ok values_ok plan_of rows_of overlay present after afters hops base_row numbered numbers
numbered_hold = refl

-- ---- what a fold leaves
-- 2 is rolled back to what 1 had set, and 1 is folded away: r.index keeps its number
returned : List Piece
returned =
    says (two ++ (takes 1 ++ (takes 2 ++ (accepts (fold_to 1) ∷ reads 3 9 9 9 ∷ []))))
    ∷ bases 3 7 ∷ lists (2 ∷ [])
    ∷ says (asks (of_entry 2 8) 0 1 ∷ undoes 2 ++ (reads 3 7 7 7 ∷ stands 1 3 1 3 ∷ []))
    ∷ lists []
    ∷ says (accepts (fold_to 2) ∷ reads 3 7 7 7 ∷ refuses 5 (fold_to 1) ∷ adds 3 4 1 ∷ (takes 3 ++ (stands 3 4 3 4 ∷ [])))
    ∷ bases 3 7 ∷ bases 4 0 ∷ lists (3 ∷ []) ∷ []

-- of two that set a path the newer is the base; a second fold drops what the first kept, and no more
twice : List Piece
twice =
    says (two ++ (adds 3 4 1 ∷ (takes 1 ++ (takes 2 ++ (takes 3 ++ (accepts (fold_to 2) ∷ adds 4 5 2 ∷ []))))))
    ∷ bases 3 9 ∷ bases 4 0 ∷ lists (3 ∷ []) ∷ keeps 2 2
    ∷ says (shows 1 2 3 Complete ∷ accepts (fold_to 3) ∷ shows 1 1 4 Pending ∷ [])
    ∷ bases 3 9 ∷ bases 4 1 ∷ lists [] ∷ keeps 3 1
    ∷ says (takes 4 ++ (reads 3 9 9 9 ∷ reads 5 2 2 2 ∷ adds 5 3 1 ∷ [])) ∷ []

-- one rolled back leaves nothing
undone : List Piece
undone = says (two ++ (takes 1 ++ (undoes 1 ++ (accepts (fold_to 1) ∷ [])))) ∷ bases 3 0 ∷ lists [] ∷ says (takes 2 ++ (stands 2 3 2 3 ∷ [])) ∷ []

pub left : List (List Piece)
left = returned ∷ twice ∷ undone ∷ []

pub left_hold : hold left ≡ true
unfolding hold holds ended agrees same_list step outcome decide differ differ_row read entry_numbers state_numbers well_formed all_from all_at_most entry_ok head_ok pairs_ok values_ok plan_of rows_of overlay present after afters hops base_row left returned twice undone
left_hold = refl

-- ---- the commit side at rest
-- 2 is on its way through commit
committing : List Piece
committing = says (two ++ (takes 1 ++ (does 1 1 1 0 2 InProgress ∷ refuses 17 (fold_to 1) ∷ does 1 1 1 0 2 Complete ∷ accepts (fold_to 1) ∷ []))) ∷ []

-- a rejected change whose closing store is cut; then it is the index, folded away, and its c.commit counts as Done
rejected : List Piece
rejected =
    says
    (two
    ++ (does 1 1 1 0 1 InProgress ∷ cuts 1 1 1 1 1 Failed ∷ refuses 17 (fold_to 1) ∷ accepts (work 1 1 1 0 0) ∷ accepts (fold_to 1)
    ∷ (takes 2 ++ (stands 2 1 2 1 ∷ []))))
    ∷ []

pub resting : List (List Piece)
resting = committing ∷ rejected ∷ []

pub resting_hold : hold resting ≡ true
unfolding hold holds ended agrees same_list step outcome decide differ differ_row well_formed all_from all_at_most entry_ok head_ok pairs_ok values_ok plan_of rows_of overlay present after afters hops base_row resting committing rejected
resting_hold = refl

-- ---- the applied side settled
-- a push whose status is cut off, of a change and of a rollback
pushed : List Piece
pushed =
    says
    (two ++ (takes 1 ++ (commits_change 2 ++ (does 1 2 2 0 2 InProgress ∷ pushes 1 2 2 ∷ refuses 17 (fold_to 1) ∷ accepts (work 1 2 2 0 0) ∷ accepts (fold_to 1) ∷ []))))
    ∷ []

returning : List Piece
returning =
    says
    (two
    ++ (takes 1
    ++ (takes 2
    ++ (accepts (rollback 2)
    ∷ (commits_rollback 2 ++ (does 2 2 4 0 2 InProgress ∷ pushes 2 4 2 ∷ refuses 17 (fold_to 1) ∷ accepts (work 1 4 2 0 0) ∷ accepts (fold_to 2) ∷ []))))))
    ∷ []

pub settling : List (List Piece)
settling = pushed ∷ returning ∷ []

pub settling_hold : hold settling ≡ true
unfolding hold holds ended agrees same_list step outcome decide differ differ_row well_formed all_from all_at_most entry_ok head_ok pairs_ok values_ok plan_of rows_of overlay present after afters hops base_row settling pushed returning
settling_hold = refl

-- ---- the next still Pending, and the applied target not moved to it
-- the next is a change: Pending; the target moved and it still Pending; begun
next_change : List Piece
next_change = says (two ++ (takes 1 ++ (commits_change 2 ++ (accepts (fold_to 1) ∷ (applies_change 2 ++ (reads 3 9 9 9 ∷ [])))))) ∷ []

change_aimed : List Piece
change_aimed =
    says
    (two
    ++ (takes 1
    ++ (commits_change 2
    ++ (cuts 1 2 2 0 2 InProgress ∷ shows 1 2 2 Pending ∷ refuses 17 (fold_to 1) ∷ accepts (work 1 2 2 0 0) ∷ refuses 17 (fold_to 1) ∷ does 1 2 2 0 2 Complete
    ∷ accepts (fold_to 1) ∷ []))))
    ∷ []

-- it is a rollback, and leads to r.index
next_rollback : List Piece
next_rollback =
    says (two ++ (takes 1 ++ (takes 2 ++ (accepts (rollback 2) ∷ (commits_rollback 2 ++ (accepts (fold_to 1) ∷ (applies_rollback 2 ++ (reads 3 7 7 7 ∷ stands 1 3 1 3 ∷ []))))))))
    ∷ []

rollback_aimed : List Piece
rollback_aimed =
    says
    (two
    ++ (takes 1
    ++ (takes 2
    ++ (accepts (rollback 2)
    ∷ (commits_rollback 2
    ++ (cuts 2 2 4 0 2 InProgress ∷ shows 2 2 2 Pending ∷ refuses 17 (fold_to 1) ∷ accepts (work 1 4 2 0 0) ∷ refuses 17 (fold_to 1) ∷ does 2 2 4 0 2 Complete
    ∷ accepts (fold_to 1) ∷ []))))))
    ∷ []

-- no longer Pending, though the target has not moved: an Aborted change and a Canceled rollback whose closing stores are cut
aborted : List Piece
aborted =
    says
    (two
    ++ (takes 1
    ++ (commits_change 2
    ++ (accepts (rollback 2) ∷ (commits_rollback 2 ++ (cuts 1 2 2 0 2 Aborted ∷ refuses 17 (fold_to 1) ∷ accepts (work 1 2 2 0 0) ∷ accepts (fold_to 1) ∷ []))))))
    ∷ []

canceled : List Piece
canceled =
    says
    (adds 1 3 7
    ∷ (mastered
    ++ (commits_change 1
    ++ (accepts (rollback 1)
    ∷ (commits_rollback 1
    ++ (does 1 2 2 0 1 Aborted ∷ cuts 2 2 4 0 1 Canceled ∷ refuses 17 (fold_to 1) ∷ accepts (work 1 4 1 0 0) ∷ accepts (fold_to 1) ∷ stands 0 2 0 2 ∷ []))))))
    ∷ []

pub waiting : List (List Piece)
waiting = next_change ∷ change_aimed ∷ next_rollback ∷ rollback_aimed ∷ aborted ∷ canceled ∷ []

pub waiting_hold : hold waiting ≡ true
unfolding hold holds ended agrees same_list step outcome decide differ differ_row well_formed all_from all_at_most entry_ok head_ok pairs_ok values_ok plan_of rows_of overlay present after afters hops base_row waiting next_change change_aimed next_rollback rollback_aimed aborted canceled
waiting_hold = refl

-- ---- finished
-- the switch rejected it: Done, and not finished before its rollback is
failed : List Piece
failed =
    says
    (adds 1 3 7
    ∷ (opened
    ++ (commits_change 1
    ++ (does 1 2 2 0 1 InProgress ∷ does 1 2 2 1 1 Failed ∷ refuses 17 (fold_to 1) ∷ accepts (rollback 1)
    ∷ (commits_rollback 1 ++ (refuses 17 (fold_to 1) ∷ (applies_rollback 1 ++ (accepts (fold_to 1) ∷ stands 0 2 0 2 ∷ []))))))))
    ∷ []

-- applied Complete, and its rollback asked for
asked : List Piece
asked =
    says
    (adds 1 3 7
    ∷ (opened
    ++ (takes 1
    ++ (accepts (rollback 1) ∷ refuses 17 (fold_to 1) ∷ (commits_rollback 1 ++ (refuses 17 (fold_to 1) ∷ (applies_rollback 1 ++ (accepts (fold_to 1) ∷ []))))))))
    ∷ bases 3 0 ∷ []

-- an invalid change is kept behind one rolled back and folded: 2 has the r.values of 1's time
invalid : List Piece
invalid =
    says
    (two
    ++ (commits_change 1
    ++ (accepts (rollback 1) ∷ does 1 1 1 0 2 InProgress ∷ does 1 1 1 1 2 Failed
    ∷ (commits_rollback 1
    ++ (does 1 2 2 0 1 Aborted ∷ does 2 2 4 0 1 Canceled ∷ accepts (fold_to 1) ∷ reads 3 0 0 0 ∷ shows 1 1 2 Failed ∷ refuses 6 (rollback 2) ∷ accepts (fold_to 2) ∷ adds 3 3 5 ∷ [])))))
    ∷ []

pub finishing : List (List Piece)
finishing = failed ∷ asked ∷ invalid ∷ []

pub finishing_hold : hold finishing ≡ true
unfolding hold holds ended agrees same_list step outcome decide differ differ_row well_formed all_from all_at_most entry_ok head_ok pairs_ok values_ok plan_of rows_of overlay present after afters hops base_row finishing failed asked invalid
finishing_hold = refl

-- ---- the live list: 1 and 3 are live and 2 is not, whatever is applied; then 1, and then none
living : List Piece
living =
    says
    (two
    ++ (adds 3 4 1
    ∷ (takes 1
    ++ (does 1 1 1 0 2 InProgress ∷ does 1 1 1 1 2 Failed ∷ commits_change 3))))
    ∷ lists (3 ∷ 1 ∷ [])
    ∷ says (accepts (rollback 3) ∷ commits_rollback 3) ∷ lists (1 ∷ [])
    ∷ says (accepts (rollback 1) ∷ commits_rollback 1) ∷ lists [] ∷ []

pub listing : List (List Piece)
listing = living ∷ []

pub listing_hold : hold listing ≡ true
unfolding hold holds ended agrees same_list step outcome decide differ differ_row well_formed all_from all_at_most entry_ok head_ok pairs_ok values_ok plan_of rows_of overlay present after afters hops base_row listing living
listing_hold = refl

-- ---- room for later appends
-- entries 2 to n after the first, then the rest
filled : ℕ → List Line → List Line
filled zero ls = ls
filled (suc zero) ls = ls
filled (suc (suc n)) ls = filled (suc n) (adds (suc (suc n)) 3 7 ∷ ls)

room : List Piece
room =
    says
    (adds 1 3 7
    ∷ (opened
    ++ (takes 1
    ++ filled 128 (refuses 4 (append (record { path = 3; value = 7 } ∷ [])) ∷ accepts (fold_to 1) ∷ adds 129 3 8 ∷ refuses 4 (append (record { path = 3; value = 7 } ∷ [])) ∷ []))))
    ∷ []

pub roomy : List (List Piece)
roomy = room ∷ []

pub roomy_hold : hold roomy ≡ true
unfolding hold holds ended agrees same_list step outcome decide differ differ_row well_formed all_from all_at_most entry_ok head_ok pairs_ok values_ok plan_of rows_of overlay present after afters hops base_row filled roomy room
roomy_hold = refl

-- ---- the table
pub sessions_hold : (hold numbered && (hold left && (hold resting && (hold settling && (hold waiting && (hold finishing && (hold listing && hold roomy))))))) ≡ true
sessions_hold = rw (numbered_hold, left_hold, resting_hold, settling_hold, waiting_hold, finishing_hold, listing_hold, roomy_hold) refl

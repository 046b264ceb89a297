-- Order 7 on sessions, by computing: a group for each sentence of the order, for order 10's point on owners and for what the stores
-- come to (Laid). Every line holds the answers for all 32 paths after a session. Assumes nothing.
use Rattle.std.specs.Prelude.{ℕ, zero, suc, List, [], ◌∷◌, Bool, true, false, ◌&&◌, cond, ◌≡◌, refl, eqb, get_or}
use Rattle.rules.specs.declared.Lay.{Lay}
use Rattle.rules.specs.declared.Lay.TheVariants.{Nothing, Values, Kept}
use Rattle.machine.specs.State.{State, fresh, entry_of}
use Rattle.machine.specs.Stores.{after, afters}
use Rattle.machine.specs.Rows.{overlay, rows_of}
use Rattle.machine.specs.Differ.{differ, differ_row}
use Rattle.machine.specs.Laid.{over, owned_over}
use Rattle.machine.specs.WellFormed.{all_from, all_at_most, pairs_ok, entry_ok, head_ok, well_formed}
use Rattle.machine.specs.LiveList.{hops}
use Rattle.machine.specs.Folding.{base_row}
use Rattle.machine.specs.Reads.{of_owner, read}
use Rattle.machine.specs.Calls.{Pair, Call, append, rollback, start, connect, master, sync, work, fold_to, values_ok, present, plan_of, decide}
use Rattle.machine.specs.Step.{outcome, step, state_from}

-- ---- a session, the newest call first, and who then owns what: every path that is not named has no owner
pub record Owned : Type 0 where
  pub path : ℕ
  pub number : ℕ

pub data Row : Type 0 where
  of : List Call → List Owned → Row

unfoldable pub named : List Owned → ℕ → ℕ
named [] p = 0
named (o ∷ os) p = cond (eqb o.path p) o.number (named os p)

abbrev pub answers : State → (path answer number : ℕ) → Bool
answers s p a k = let r = read s (of_owner p) in eqb r.answer a && eqb r.value k

-- the first n paths
unfoldable pub all_answer : State → List Owned → ℕ → Bool
all_answer s os zero = true
all_answer s os (suc p) = answers s p 0 (named os p) && all_answer s os p

unfoldable pub owned : List Row → Bool
owned [] = true
owned (of cs os ∷ rs) = all_answer (state_from (fresh false) cs) os 32 && owned rs

-- ---- sessions, the newest first
abbrev line : List Call
line = sync 1 ∷ sync 1 ∷ master 1 ∷ connect 1 ∷ start ∷ []

abbrev pair : (path value : ℕ) → Pair
pair p v = record { path = p; value = v }

abbrev sets : (path value : ℕ) → Call
sets p v = append (pair p v ∷ [])

-- a job begun and ended
abbrev through : (job number : ℕ) → List Call → List Call
through j i cs = work 1 j i 0 0 ∷ work 1 j i 0 0 ∷ cs

-- a change appended and committed; one of path 3
abbrev commits : (number : ℕ) → List Call → List Call
commits i cs = through 1 i cs

abbrev third : (number value : ℕ) → List Call → List Call
third i v cs = commits i (sets 3 v ∷ cs)

-- its rollback asked for and committed
abbrev undoes : (number : ℕ) → List Call → List Call
undoes i cs = through 3 i (rollback i ∷ cs)

-- applied; its rollback too
abbrev applies : (number : ℕ) → List Call → List Call
applies i cs = through 2 i cs

abbrev returns : (number : ℕ) → List Call → List Call
returns i cs = through 4 i cs

abbrev by : (path number : ℕ) → Owned
by p k = record { path = p; number = k }

-- 1 and 2 of path 3
abbrev one : List Call
one = third 1 7 line

abbrev two : List Call
two = third 2 9 one

-- 1 of paths 3 and 4, 2 of 4 and 5, and 3 of 3 and 5
abbrev first : List Call
first = commits 1 (append (pair 3 7 ∷ pair 4 8 ∷ []) ∷ line)

abbrev second : List Call
second = commits 2 (append (pair 4 9 ∷ pair 5 1 ∷ []) ∷ first)

abbrev three : List Call
three = commits 3 (append (pair 3 2 ∷ pair 5 3 ∷ []) ∷ second)

-- 1 to 4, each of a path, and 5 of the four
abbrev four : List Call
four = commits 4 (sets 31 4 ∷ commits 3 (sets 5 3 ∷ commits 2 (sets 3 2 ∷ commits 1 (sets 0 1 ∷ line))))

abbrev five : List Call
five = commits 5 (append (pair 0 5 ∷ pair 3 6 ∷ pair 5 7 ∷ pair 31 8 ∷ []) ∷ four)

-- ---- kept for each path, 0 if none: one pair and four, the first path and the last
pub each_path : List Row
each_path =
    of [] [] ∷ of line [] ∷ of one (by 3 1 ∷ [])
    ∷ of (commits 1 (sets 0 7 ∷ line)) (by 0 1 ∷ []) ∷ of (commits 1 (sets 31 7 ∷ line)) (by 31 1 ∷ [])
    ∷ of (commits 1 (append (pair 0 1 ∷ pair 3 2 ∷ pair 5 3 ∷ pair 31 65535 ∷ []) ∷ line)) (by 0 1 ∷ by 3 1 ∷ by 5 1 ∷ by 31 1 ∷ [])
    ∷ of four (by 0 1 ∷ by 3 2 ∷ by 5 3 ∷ by 31 4 ∷ []) ∷ []

pub each_path_hold : owned each_path ≡ true
unfolding owned all_answer named read state_from step outcome decide differ differ_row plan_of afters after overlay rows_of all_from all_at_most pairs_ok entry_ok head_ok well_formed values_ok present each_path
each_path_hold = refl

-- ---- the number of the newest live change that set it, though it set what was there; whatever is applied
pub newest : List Row
newest =
    of two (by 3 2 ∷ []) ∷ of (third 2 7 one) (by 3 2 ∷ []) ∷ of (third 3 7 two) (by 3 3 ∷ [])
    ∷ of first (by 3 1 ∷ by 4 1 ∷ []) ∷ of second (by 3 1 ∷ by 4 2 ∷ by 5 2 ∷ []) ∷ of three (by 3 3 ∷ by 4 2 ∷ by 5 3 ∷ [])
    ∷ of five (by 0 5 ∷ by 3 5 ∷ by 5 5 ∷ by 31 5 ∷ [])
    ∷ of (applies 1 two) (by 3 2 ∷ []) ∷ of (applies 2 (applies 1 two)) (by 3 2 ∷ []) ∷ []

pub newest_hold : owned newest ≡ true
unfolding owned all_answer named read state_from step outcome decide differ differ_row plan_of afters after overlay rows_of all_from all_at_most pairs_ok entry_ok head_ok well_formed values_ok present newest
newest_hold = refl

-- ---- a change remembers the earlier numbers of its paths, each in its place, and its rollback brings them back: one after another,
-- of several paths and of those that it shares with others; a later change remembers what the rollback brought
pub brought_back : List Row
brought_back =
    of (undoes 1 one) [] ∷ of (undoes 2 two) (by 3 1 ∷ []) ∷ of (undoes 1 (undoes 2 two)) []
    ∷ of (undoes 3 three) (by 3 1 ∷ by 4 2 ∷ by 5 2 ∷ []) ∷ of (undoes 2 (undoes 3 three)) (by 3 1 ∷ by 4 1 ∷ [])
    ∷ of (undoes 1 (undoes 2 (undoes 3 three))) []
    ∷ of (undoes 5 five) (by 0 1 ∷ by 3 2 ∷ by 5 3 ∷ by 31 4 ∷ []) ∷ of (undoes 4 (undoes 5 five)) (by 0 1 ∷ by 3 2 ∷ by 5 3 ∷ [])
    ∷ of (third 3 4 (undoes 2 two)) (by 3 3 ∷ []) ∷ of (undoes 3 (third 3 4 (undoes 2 two))) (by 3 1 ∷ [])
    ∷ of (returns 2 (undoes 2 (applies 2 (applies 1 two)))) (by 3 1 ∷ []) ∷ []

pub brought_back_hold : owned brought_back ≡ true
unfolding owned all_answer named read state_from step outcome decide differ differ_row plan_of afters after overlay rows_of all_from all_at_most pairs_ok entry_ok head_ok well_formed values_ok present brought_back
brought_back_hold = refl

-- ---- what it remembers is what is there when its commit begins: both were appended before 1 is committed, and 1 is undone before
-- 2 begins; a begin that is made again remembers the same
pub remembered : List Row
remembered =
    of (undoes 2 (commits 2 (commits 1 (sets 3 9 ∷ sets 3 7 ∷ line)))) (by 3 1 ∷ []) ∷ of (undoes 2 (commits 2 (undoes 1 (sets 3 9 ∷ one)))) []
    ∷ of (undoes 2 (commits 2 (work 1 1 2 0 1 ∷ sets 3 9 ∷ one))) (by 3 1 ∷ [])
    ∷ of (undoes 2 (work 1 1 2 0 0 ∷ work 1 1 2 0 1 ∷ work 1 1 2 0 0 ∷ sets 3 9 ∷ one)) (by 3 1 ∷ []) ∷ []

pub remembered_hold : owned remembered ≡ true
unfolding owned all_answer named read state_from step outcome decide differ differ_row plan_of afters after overlay rows_of all_from all_at_most pairs_ok entry_ok head_ok well_formed values_ok present remembered
remembered_hold = refl

-- ---- a path set to absent by a delete has that change's number: over a value, where none was, beside a path that is set, and
-- brought back
pub deleted : List Row
deleted =
    of (third 2 0 one) (by 3 2 ∷ []) ∷ of (third 1 0 line) (by 3 1 ∷ []) ∷ of (commits 2 (append (pair 3 0 ∷ pair 4 8 ∷ []) ∷ one)) (by 3 2 ∷ by 4 2 ∷ [])
    ∷ of (third 3 9 (third 2 0 one)) (by 3 3 ∷ []) ∷ of (undoes 3 (third 3 9 (third 2 0 one))) (by 3 2 ∷ [])
    ∷ of (undoes 2 (third 2 0 one)) (by 3 1 ∷ []) ∷ of (undoes 1 (third 1 0 line)) [] ∷ []

pub deleted_hold : owned deleted ≡ true
unfolding owned all_answer named read state_from step outcome decide differ differ_row plan_of afters after overlay rows_of all_from all_at_most pairs_ok entry_ok head_ok well_formed values_ok present deleted
deleted_hold = refl

-- ---- live from the Complete event of its commit to that of its rollback's: not when it is appended, begun, or its begin cut; with
-- the first store, though the status is yet to be stored. A rollback that is asked for or begun has brought nothing back
pub live : List Row
live =
    of (sets 3 7 ∷ line) [] ∷ of (work 1 1 1 0 1 ∷ sets 3 7 ∷ line) [] ∷ of (work 1 1 1 0 0 ∷ sets 3 7 ∷ line) []
    ∷ of (work 1 1 1 0 1 ∷ work 1 1 1 0 0 ∷ sets 3 7 ∷ line) (by 3 1 ∷ [])
    ∷ of (sets 3 9 ∷ one) (by 3 1 ∷ []) ∷ of (work 1 1 2 0 0 ∷ sets 3 9 ∷ one) (by 3 1 ∷ [])
    ∷ of (work 1 1 2 0 1 ∷ work 1 1 2 0 0 ∷ sets 3 9 ∷ one) (by 3 2 ∷ [])
    ∷ of (rollback 2 ∷ two) (by 3 2 ∷ []) ∷ of (work 1 3 2 0 1 ∷ rollback 2 ∷ two) (by 3 2 ∷ []) ∷ of (work 1 3 2 0 0 ∷ rollback 2 ∷ two) (by 3 2 ∷ [])
    ∷ of (work 1 3 2 0 1 ∷ work 1 3 2 0 0 ∷ rollback 2 ∷ two) (by 3 1 ∷ []) ∷ []

pub live_hold : owned live ≡ true
unfolding owned all_answer named read state_from step outcome decide differ differ_row plan_of afters after overlay rows_of all_from all_at_most pairs_ok entry_ok head_ok well_formed values_ok present live
live_hold = refl

-- ---- a change that was rejected owns nothing, its rejection cut or not, and nobody remembers it
-- 2 is rejected; its rejection is cut, and then closed
abbrev rejects : List Call
rejects = work 1 1 2 1 0 ∷ work 1 1 2 0 0 ∷ sets 3 9 ∷ one

abbrev rejects_cut : List Call
rejects_cut = work 1 1 2 1 1 ∷ work 1 1 2 0 0 ∷ sets 3 9 ∷ one

pub rejected : List Row
rejected =
    of (work 1 1 1 1 0 ∷ work 1 1 1 0 0 ∷ sets 3 7 ∷ line) []
    ∷ of rejects (by 3 1 ∷ []) ∷ of rejects_cut (by 3 1 ∷ []) ∷ of (work 1 1 2 0 0 ∷ rejects_cut) (by 3 1 ∷ [])
    ∷ of (third 3 4 rejects) (by 3 3 ∷ []) ∷ of (undoes 3 (third 3 4 rejects)) (by 3 1 ∷ []) ∷ of (undoes 1 rejects) [] ∷ []

pub rejected_hold : owned rejected ≡ true
unfolding owned all_answer named read state_from step outcome decide differ differ_row plan_of afters after overlay rows_of all_from all_at_most pairs_ok entry_ok head_ok well_formed values_ok present rejected
rejected_hold = refl

-- ---- a path above 31 is 2
pub outside : Bool
outside =
    (answers (fresh false) 31 0 0 && (answers (fresh false) 32 2 0 && answers (fresh false) 65535 2 0))
    && (let s = state_from (fresh false) (commits 1 (sets 31 7 ∷ line)) in answers s 31 0 1 && (answers s 32 2 0 && (answers s 63 2 0 && answers s 65535 2 0)))

pub outside_hold : outside ≡ true
unfolding outside read state_from step outcome decide differ differ_row plan_of afters after overlay rows_of all_from all_at_most pairs_ok entry_ok head_ok well_formed values_ok present
outside_hold = refl

-- ---- an owner at or below the last fold is answered as 0, and one above it as it is; so is one that a rollback brings back
-- 1 of path 3, applied, and folded away; 1 of path 3 and 2 of path 4; 3 of both, and then 1 and 2 applied
abbrev front : List Call
front = fold_to 1 ∷ applies 1 one

abbrev apart : List Call
apart = commits 2 (sets 4 9 ∷ one)

abbrev taken : List Call
taken = applies 2 (applies 1 (commits 3 (append (pair 3 1 ∷ pair 4 2 ∷ []) ∷ apart)))

pub folded : List Row
folded =
    of front [] ∷ of (third 2 9 front) (by 3 2 ∷ []) ∷ of (undoes 2 (third 2 9 front)) [] ∷ of (undoes 2 (fold_to 1 ∷ applies 1 two)) []
    ∷ of (undoes 3 (third 3 4 (third 2 9 front))) (by 3 2 ∷ [])
    ∷ of (fold_to 1 ∷ applies 1 apart) (by 4 2 ∷ []) ∷ of (fold_to 2 ∷ applies 2 (applies 1 apart)) []
    ∷ of taken (by 3 3 ∷ by 4 3 ∷ []) ∷ of (fold_to 1 ∷ taken) (by 3 3 ∷ by 4 3 ∷ []) ∷ of (fold_to 2 ∷ taken) (by 3 3 ∷ by 4 3 ∷ [])
    ∷ of (undoes 3 (fold_to 1 ∷ taken)) (by 4 2 ∷ []) ∷ of (undoes 3 (fold_to 2 ∷ taken)) [] ∷ of (fold_to 1 ∷ undoes 3 taken) (by 4 2 ∷ []) ∷ []

pub folded_hold : owned folded ≡ true
unfolding owned all_answer named read state_from step outcome decide differ differ_row plan_of afters after overlay rows_of all_from all_at_most pairs_ok entry_ok head_ok well_formed values_ok present hops base_row folded
folded_hold = refl

-- ---- what the stores of owners come to: a job of node 1 after a session, and of which kind it is; path 0 has an owner, so that one
-- in unused places would show
pub data Stored : Type 0 where
  does : List Call → (job number : ℕ) → Lay → Stored

-- the first n paths
unfoldable pub same_owners : List ℕ → List ℕ → ℕ → Bool
same_owners a b zero = true
same_owners a b (suc p) = eqb (get_or a p 0) (get_or b p 0) && same_owners a b p

unfoldable pub stores : List Stored → Bool
stores [] = true
stores (does cs j i v ∷ rest) =
    let s = state_from (fresh false) cs in
    same_owners (step s (work 1 j i 0 0)).next.committed.owners (owned_over v (entry_of s.log i) i s.committed.owners) 32 && stores rest

-- 2 of path 3 is begun over 1 of path 0 and 3
abbrev begun : List Call
begun = work 1 1 2 0 0 ∷ sets 3 9 ∷ commits 1 (append (pair 0 6 ∷ pair 3 7 ∷ []) ∷ line)

pub stored : List Stored
stored =
    does (sets 3 7 ∷ line) 1 1 Nothing ∷ does begun 1 2 Values ∷ does (rollback 2 ∷ work 1 1 2 0 0 ∷ begun) 3 2 Nothing
    ∷ does (work 1 3 2 0 0 ∷ rollback 2 ∷ work 1 1 2 0 0 ∷ begun) 3 2 Kept ∷ does (work 1 3 5 0 0 ∷ rollback 5 ∷ five) 3 5 Kept ∷ []

pub stored_hold : stores stored ≡ true
unfolding stores same_owners over state_from step outcome decide differ differ_row plan_of afters after overlay rows_of all_from all_at_most pairs_ok entry_ok head_ok well_formed values_ok present stored
stored_hold = refl

-- ---- what an entry remembers, which no answer shows: nothing when it is appended, and from its begin on the owners that its paths
-- have then, 0 in places of no pair
pub data Recalled : Type 0 where
  of_entry : List Call → (number : ℕ) → List ℕ → Recalled

unfoldable pub recalling : List Recalled → Bool
recalling [] = true
recalling (of_entry cs i os ∷ rest) = same_owners (entry_of (state_from (fresh false) cs).log i).owners os 4 && recalling rest

pub recalled : List Recalled
recalled =
    of_entry (sets 3 9 ∷ one) 2 [] ∷ of_entry (work 1 1 2 0 0 ∷ sets 3 9 ∷ one) 2 (1 ∷ []) ∷ of_entry begun 2 (1 ∷ [])
    ∷ of_entry five 5 (1 ∷ 2 ∷ 3 ∷ 4 ∷ []) ∷ of_entry (undoes 5 five) 5 (1 ∷ 2 ∷ 3 ∷ 4 ∷ []) ∷ []

pub recalled_hold : recalling recalled ≡ true
unfolding recalling same_owners state_from step outcome decide differ differ_row plan_of afters after overlay rows_of all_from all_at_most pairs_ok entry_ok head_ok well_formed values_ok present recalled
recalled_hold = refl

-- Order 6 on lists, by computing: a group for each sentence of the order. Every line holds an import's answer and position, the
-- events of its calls, and of the state what the line names; of long lists the answer and position alone. Assumes nothing.
use Rattle.std.specs.Prelude.{ℕ, zero, suc, ◌+◌, List, [], ◌∷◌, ◌++◌, Bool, true, false, ◌&&◌, ◌≡◌, refl, eqb, replicate}
use Rattle.kinds.specs.declared.Event.{Event}
use Rattle.kinds.specs.declared.Status.TheVariants.{InProgress, Complete}
use Rattle.kinds.specs.Numbers.{num}
use Rattle.kinds.specs.Events.{event, no_event, numbered}
use Rattle.machine.specs.Stores.{after, afters}
use Rattle.machine.specs.Rows.{overlay, rows_of}
use Rattle.machine.specs.WellFormed.{all_from, all_at_most, pairs_ok, entry_ok, head_ok, well_formed}
use Rattle.machine.specs.LiveList.{hops}
use Rattle.machine.specs.Folding.{base_row}
use Rattle.machine.specs.Reads.{entry_numbers, state_numbers}
use Rattle.machine.specs.Calls.{Pair, values_ok, present, plan_of, decide}
use Rattle.machine.specs.Step.{outcome, step, run}
use Rattle.machine.specs.Sessions.{Line, reads, marks, heads, nets, nodes, same_event, begins, agrees}
use Rattle.machine.specs.Import.{Entry, adds, undoes, neither, judged_from, judged, number_at, calls_up_to, Import, import}

-- ---- an import: its list, what it is told, the events of its calls, the newest first, and what the state then shows
pub data Row : Type 0 where
  of : List Entry → (answer position : ℕ) → List Event → List Line → Row

unfoldable pub same_events : List Event → List Event → Bool
same_events [] [] = true
same_events [] (e ∷ es) = false
same_events (d ∷ ds) [] = false
same_events (d ∷ ds) (e ∷ es) = same_event d e && same_events ds es

abbrev pub same : Import → (answer position : ℕ) → List Event → List Line → Bool
same x a q es ls = (eqb x.answer a && eqb x.position q) && (same_events (run false x.calls).events es && agrees (run false x.calls).state ls)

unfoldable pub taken : List Row → Bool
taken [] = true
taken (of l a q es ls ∷ rs) = same (import l) a q es ls && taken rs

-- ---- lists and events, shorter
abbrev pub pair : (path value : ℕ) → Pair
pair p v = record { path = p; value = v }

-- a change of one path, of path 3; one that no log takes
abbrev pub sets : (path value : ℕ) → Entry
sets p v = adds (pair p v ∷ [])

abbrev pub change : ℕ → Entry
change v = sets 3 v

abbrev pub bad : Entry
bad = adds []

-- start, connect and mastership give none; an append shows its number, a rollback request none; a commit job begins and ends
abbrev pub opens : List Event
opens = no_event ∷ no_event ∷ no_event ∷ []

abbrev pub commits : (number : ℕ) → List Event → List Event
commits i es = event 1 1 (num i) Complete ∷ event 1 1 (num i) InProgress ∷ numbered i ∷ es

abbrev pub returns : (number : ℕ) → List Event → List Event
returns i es = event 2 1 (num i) Complete ∷ event 2 1 (num i) InProgress ∷ no_event ∷ es

-- Committed's index, change, target, revision and ordinal; nothing is applied
abbrev pub stand : (index change target revision ordinal : ℕ) → Line
stand i n g r o = heads (i ∷ n ∷ g ∷ r ∷ o ∷ 0 ∷ 0 ∷ 0 ∷ 0 ∷ [])

-- a change of path 3 committed and not applied, and then undone: its ordinals, where it returns to, its value and the one before
abbrev pub stays : (number ordinal index value before : ℕ) → Line
stays i o x v w = marks i (1 ∷ 3 ∷ 1 ∷ o ∷ 0 ∷ 0 ∷ 0 ∷ x ∷ 1 ∷ 3 ∷ 0 ∷ 0 ∷ 0 ∷ v ∷ 0 ∷ 0 ∷ 0 ∷ w ∷ 0 ∷ 0 ∷ 0 ∷ [])

abbrev pub undone : (number ordinal rollback index value before : ℕ) → Line
undone i o u x v w = marks i (2 ∷ 3 ∷ 1 ∷ o ∷ 3 ∷ 1 ∷ u ∷ x ∷ 1 ∷ 3 ∷ 0 ∷ 0 ∷ 0 ∷ v ∷ 0 ∷ 0 ∷ 0 ∷ w ∷ 0 ∷ 0 ∷ 0 ∷ [])

-- refused, it leaves a fresh controller
abbrev refuses : List Entry → (answer position : ℕ) → Row
refuses l a q = of l a q [] (heads (0 ∷ 0 ∷ 0 ∷ 0 ∷ 0 ∷ 0 ∷ 0 ∷ 0 ∷ 0 ∷ []) ∷ nets (1 ∷ 0 ∷ 0 ∷ 0 ∷ 0 ∷ 0 ∷ 0 ∷ 0 ∷ []) ∷ [])

-- node 1 is connected and master; the configuration stays Pending
abbrev mastered : Line
mastered = nets (1 ∷ 0 ∷ 1 ∷ 1 ∷ 1 ∷ 1 ∷ 1 ∷ 0 ∷ [])

-- ---- start, connect and mastership for node 1, of an empty list too
pub opening : List Row
opening = of [] 0 0 opens (stand 0 0 0 0 0 ∷ mastered ∷ nodes 1 (1 ∷ 1 ∷ []) ∷ nodes 2 (0 ∷ 0 ∷ []) ∷ []) ∷ []

pub opening_hold : taken opening ≡ true
unfolding taken same_events import judged judged_from number_at calls_up_to run step outcome decide plan_of afters after overlay rows_of all_from all_at_most pairs_ok entry_ok head_ok well_formed values_ok present hops base_row agrees begins entry_numbers state_numbers opening
opening_hold = refl

-- ---- changes become transactions in order, renumbered; all commits finished, nothing applied
pub renumbered : List Row
renumbered =
    of (change 7 ∷ []) 0 0 (commits 1 opens) (reads 3 7 0 0 ∷ stays 1 1 0 7 0 ∷ stand 1 1 1 1 1 ∷ [])
    ∷ of (change 7 ∷ change 9 ∷ []) 0 0 (commits 2 (commits 1 opens)) (reads 3 9 0 0 ∷ stays 1 1 0 7 0 ∷ stays 2 2 1 9 7 ∷ stand 2 2 2 2 2 ∷ [])
    ∷ of (change 7 ∷ undoes 1 ∷ change 9 ∷ []) 0 0 (commits 2 (returns 1 (commits 1 opens)))
    (reads 3 9 0 0 ∷ undone 1 1 2 0 7 0 ∷ stays 2 3 0 9 0 ∷ stand 2 2 2 2 3 ∷ mastered ∷ [])
    ∷ []

pub renumbered_hold : taken renumbered ≡ true
unfolding taken same_events import judged judged_from number_at calls_up_to run step outcome decide plan_of afters after overlay rows_of all_from all_at_most pairs_ok entry_ok head_ok well_formed values_ok present hops base_row agrees begins entry_numbers state_numbers renumbered
renumbered_hold = refl

-- ---- each rollback entry undoes the change that it names, by its place in the list
pub undoing : List Row
undoing =
    of (change 7 ∷ change 9 ∷ undoes 2 ∷ []) 0 0 (returns 2 (commits 2 (commits 1 opens)))
    (reads 3 7 0 0 ∷ stays 1 1 0 7 0 ∷ undone 2 2 3 1 9 7 ∷ stand 2 2 1 1 3 ∷ [])
    ∷ of (change 7 ∷ change 9 ∷ undoes 2 ∷ undoes 1 ∷ []) 0 0 (returns 1 (returns 2 (commits 2 (commits 1 opens))))
    (reads 3 0 0 0 ∷ undone 1 1 4 0 7 0 ∷ undone 2 2 3 1 9 7 ∷ stand 1 2 0 0 4 ∷ [])
    ∷ of (change 7 ∷ undoes 1 ∷ change 9 ∷ undoes 3 ∷ []) 0 0 (returns 2 (commits 2 (returns 1 (commits 1 opens))))
    (reads 3 0 0 0 ∷ undone 1 1 2 0 7 0 ∷ undone 2 3 4 0 9 0 ∷ stand 2 2 0 0 4 ∷ [])
    ∷ of (change 7 ∷ change 8 ∷ undoes 2 ∷ change 9 ∷ undoes 4 ∷ undoes 1 ∷ []) 0 0 (returns 1 (returns 3 (commits 3 (returns 2 (commits 2 (commits 1 opens))))))
    (reads 3 0 0 0 ∷ undone 1 1 6 0 7 0 ∷ undone 2 2 3 1 8 7 ∷ undone 3 4 5 1 9 7 ∷ stand 1 3 0 0 6 ∷ mastered ∷ [])
    ∷ []

pub undoing_hold : taken undoing ≡ true
unfolding taken same_events import judged judged_from number_at calls_up_to run step outcome decide plan_of afters after overlay rows_of all_from all_at_most pairs_ok entry_ok head_ok well_formed values_ok present hops base_row agrees begins entry_numbers state_numbers undoing
undoing_hold = refl

-- ---- unlike 002 a change overlays: paths that it does not name stay; a delete sets its path to absent, and its rollback brings it back
pub overlaid : List Row
overlaid =
    of (sets 3 7 ∷ sets 4 8 ∷ []) 0 0 (commits 2 (commits 1 opens)) (reads 3 7 0 0 ∷ reads 4 8 0 0 ∷ [])
    ∷ of (adds (pair 3 7 ∷ pair 4 8 ∷ []) ∷ sets 4 9 ∷ []) 0 0 (commits 2 (commits 1 opens)) (reads 3 7 0 0 ∷ reads 4 9 0 0 ∷ [])
    ∷ of (adds (pair 3 7 ∷ pair 4 8 ∷ []) ∷ sets 4 9 ∷ undoes 2 ∷ []) 0 0 (returns 2 (commits 2 (commits 1 opens))) (reads 3 7 0 0 ∷ reads 4 8 0 0 ∷ [])
    ∷ of (sets 3 7 ∷ sets 3 0 ∷ []) 0 0 (commits 2 (commits 1 opens)) (reads 3 0 0 0 ∷ stand 2 2 2 2 2 ∷ [])
    ∷ of (sets 3 7 ∷ sets 3 0 ∷ undoes 2 ∷ []) 0 0 (returns 2 (commits 2 (commits 1 opens))) (reads 3 7 0 0 ∷ [])
    ∷ of (adds (pair 0 1 ∷ pair 3 2 ∷ pair 4 3 ∷ pair 31 65535 ∷ []) ∷ []) 0 0 (commits 1 opens) (reads 0 1 0 0 ∷ reads 3 2 0 0 ∷ reads 4 3 0 0 ∷ reads 31 65535 0 0 ∷ [])
    ∷ []

pub overlaid_hold : taken overlaid ≡ true
unfolding taken same_events import judged judged_from number_at calls_up_to run step outcome decide plan_of afters after overlay rows_of all_from all_at_most pairs_ok entry_ok head_ok well_formed values_ok present hops base_row agrees begins entry_numbers state_numbers overlaid
overlaid_hold = refl

-- ---- 16: a rollback that names an older change, one that is undone, a rollback or nothing; an entry of neither kind
pub naming : List Row
naming =
    refuses (change 7 ∷ change 9 ∷ undoes 1 ∷ []) 16 3 ∷ refuses (change 7 ∷ undoes 1 ∷ undoes 1 ∷ []) 16 3
    ∷ refuses (change 7 ∷ undoes 1 ∷ undoes 2 ∷ []) 16 3 ∷ refuses (change 7 ∷ change 9 ∷ undoes 2 ∷ undoes 3 ∷ []) 16 4 ∷ refuses (change 7 ∷ change 9 ∷ undoes 2 ∷ undoes 2 ∷ []) 16 4
    ∷ refuses (change 7 ∷ undoes 1 ∷ change 9 ∷ undoes 2 ∷ []) 16 4 ∷ refuses (undoes 1 ∷ []) 16 1 ∷ refuses (undoes 0 ∷ []) 16 1 ∷ refuses (change 7 ∷ undoes 0 ∷ []) 16 2
    ∷ refuses (change 7 ∷ undoes 2 ∷ []) 16 2 ∷ refuses (change 7 ∷ undoes 3 ∷ change 9 ∷ []) 16 2 ∷ refuses (neither ∷ []) 16 1 ∷ []

pub naming_hold : taken naming ≡ true
unfolding taken same_events import judged judged_from number_at calls_up_to run step outcome decide plan_of afters after overlay rows_of all_from all_at_most pairs_ok entry_ok head_ok well_formed values_ok present hops base_row agrees begins entry_numbers state_numbers naming
naming_hold = refl

-- ---- a refusal answers the position of the first bad entry, at the first place, in the middle and at the last; and writes nothing
pub positions : List Row
positions =
    refuses (bad ∷ change 7 ∷ change 9 ∷ []) 3 1 ∷ refuses (change 7 ∷ bad ∷ change 9 ∷ []) 3 2 ∷ refuses (change 7 ∷ change 9 ∷ bad ∷ []) 3 3
    ∷ refuses (neither ∷ change 7 ∷ change 9 ∷ []) 16 1 ∷ refuses (change 7 ∷ neither ∷ change 9 ∷ []) 16 2 ∷ refuses (change 7 ∷ change 9 ∷ neither ∷ []) 16 3
    ∷ refuses (undoes 9 ∷ change 7 ∷ change 9 ∷ []) 16 1 ∷ refuses (change 7 ∷ undoes 9 ∷ change 9 ∷ []) 16 2
    ∷ refuses (change 7 ∷ undoes 1 ∷ bad ∷ []) 3 3 ∷ refuses (change 7 ∷ undoes 1 ∷ neither ∷ []) 16 3
    ∷ refuses (change 7 ∷ bad ∷ neither ∷ []) 3 2 ∷ refuses (change 7 ∷ neither ∷ bad ∷ []) 16 2 ∷ refuses (change 7 ∷ undoes 2 ∷ bad ∷ []) 16 2 ∷ refuses (bad ∷ bad ∷ []) 3 1
    ∷ refuses (adds (pair 3 7 ∷ pair 3 9 ∷ []) ∷ []) 3 1 ∷ refuses (sets 32 7 ∷ []) 3 1 ∷ refuses (adds (replicate 5 (pair 3 7)) ∷ []) 3 1 ∷ []

pub positions_hold : taken positions ≡ true
unfolding taken same_events import judged judged_from number_at calls_up_to run step outcome decide plan_of afters after overlay rows_of all_from all_at_most pairs_ok entry_ok head_ok well_formed values_ok present hops base_row agrees begins entry_numbers state_numbers positions
positions_hold = refl

-- ---- long lists: up to 256 entries, of which 128 changes; 2 comes before any entry is looked at, and 3 before 4
abbrev pub answers : List Entry → (answer position : ℕ) → Bool
answers l a q = let v = judged l in eqb v.answer a && eqb v.position q

-- the changes at the n places behind place k undone, the last first
unfoldable pub undoes_behind : (k n : ℕ) → List Entry
undoes_behind k zero = []
undoes_behind k (suc n) = undoes (k + suc n) ∷ undoes_behind k n

abbrev full : List Entry
full = replicate 128 (change 7)

-- one change less, and a rollback in its place
abbrev less : List Entry
less = replicate 127 (change 7) ++ (undoes 127 ∷ [])

pub lengths : Bool
lengths =
    (answers (full ++ undoes_behind 0 128) 0 0 && (answers (full ++ (undoes_behind 0 128 ++ (neither ∷ []))) 2 0 && answers (replicate 257 bad) 2 0))
    && ((answers (replicate 256 bad) 3 1 && answers full 0 0) && (answers (full ++ (change 9 ∷ [])) 4 129 && answers (full ++ (undoes 128 ∷ change 9 ∷ [])) 4 130))
    && ((answers (full ++ (bad ∷ [])) 3 129 && answers (full ++ (undoes 127 ∷ [])) 16 129) && answers (full ++ (undoes_behind 1 127 ++ (undoes 2 ∷ []))) 16 256)
    && (answers (less ++ (change 9 ∷ [])) 0 0 && answers (less ++ (change 9 ∷ change 9 ∷ [])) 4 130)

pub lengths_hold : lengths ≡ true
unfolding judged judged_from pairs_ok values_ok undoes_behind lengths
lengths_hold = refl

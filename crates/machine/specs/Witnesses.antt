-- A witness for every sentence of the paper, beside P1 to P12 (Sessions): each rule taken whole, and cut and then closed, each
-- refusal met, each order of refusals met by a call for which two of them hold, with every number that a store writes. A group
-- for each part of the paper, computed: the one that fails tells which sentence a definition breaks. Assumes nothing.
use Rattle.std.specs.Prelude.{ℕ, List, [], ◌∷◌, ◌++◌, map, Bool, true, false, ◌&&◌, ◌≡◌, refl}
use Rattle.kinds.specs.declared.Event.{Event}
use Rattle.machine.specs.Stores.{after, afters}
use Rattle.machine.specs.Rows.{overlay, rows_of}
use Rattle.machine.specs.Differ.{differ, differ_row}
use Rattle.machine.specs.WellFormed.{all_from, all_at_most, pairs_ok, entry_ok, head_ok, well_formed}
use Rattle.machine.specs.Reads.{of_table, of_entry, of_state, of_node, entry_numbers, state_numbers, read}
use Rattle.machine.specs.Calls.{Pair, Call, append, rollback, start, stop, connect, disconnect, master, sync, work, values_ok, present, plan_of, decide}
use Rattle.machine.specs.Step.{Past, outcome, step, run}
use Rattle.machine.specs.Sessions.{Line, tells, reads, marks, heads, nets, nodes, asks, begins, agrees, agree}

-- ---- lines, shorter: statuses by their numbers
abbrev pub no : ℕ → Call → Line
no a c = tells c a 0 0 0 0

abbrev pub yes : Call → Line
yes c = no 0 c

-- node 1 does a job, and an event has this status
abbrev pub job1 : (number outcome cut status : ℕ) → Line
job1 i r c x = tells (work 1 1 i r c) 0 1 1 i x

abbrev pub job2 : (number outcome cut status : ℕ) → Line
job2 i r c x = tells (work 1 2 i r c) 0 1 2 i x

abbrev pub job3 : (number outcome cut status : ℕ) → Line
job3 i r c x = tells (work 1 3 i r c) 0 2 1 i x

abbrev pub job4 : (number outcome cut status : ℕ) → Line
job4 i r c x = tells (work 1 4 i r c) 0 2 2 i x

-- a rule of one store, which has no event and ignores the cut; and no rule
abbrev pub quiet : (job number : ℕ) → Line
quiet j i = yes (work 1 j i 0 1)

abbrev pub wait : (job number : ℕ) → Line
wait j i = no 11 (work 1 j i 0 0)

abbrev pub pair : ℕ → ℕ → Pair
pair p v = record { path = p; value = v }

abbrev pub adding : (number : ℕ) → List Pair → Line
adding n ps = tells (append ps) 0 0 0 n 0

-- node 1 is master; and its line is open
abbrev pub led : List Line
led = yes start ∷ yes (connect 1) ∷ yes (master 1) ∷ []

abbrev pub lined : List Line
lined = led ++ (yes (sync 1) ∷ yes (sync 1) ∷ [])

-- jobs done whole
abbrev pub commit : ℕ → List Line
commit i = job1 i 0 0 2 ∷ job1 i 0 0 3 ∷ []

abbrev pub apply : ℕ → List Line
apply i = job2 i 0 0 2 ∷ job2 i 0 0 3 ∷ []

abbrev pub uncommit : ℕ → List Line
uncommit i = job3 i 0 0 2 ∷ job3 i 0 0 3 ∷ []

abbrev pub unapply : ℕ → List Line
unapply i = job4 i 0 0 2 ∷ job4 i 0 0 3 ∷ []

-- ---- append
-- of one pair and of four; unused places are 0
entered : List Line
entered =
    adding 1 (pair 3 7 ∷ []) ∷ marks 1 (1 ∷ 1 ∷ 1 ∷ 0 ∷ 0 ∷ 0 ∷ 0 ∷ 0 ∷ 1 ∷ 3 ∷ 0 ∷ 0 ∷ 0 ∷ 7 ∷ 0 ∷ 0 ∷ 0 ∷ 0 ∷ 0 ∷ 0 ∷ 0 ∷ [])
    ∷ adding 2 (pair 0 65535 ∷ pair 4 0 ∷ pair 5 9 ∷ pair 31 10 ∷ [])
    ∷ marks 2 (1 ∷ 1 ∷ 1 ∷ 0 ∷ 0 ∷ 0 ∷ 0 ∷ 0 ∷ 4 ∷ 0 ∷ 4 ∷ 5 ∷ 31 ∷ 65535 ∷ 0 ∷ 9 ∷ 10 ∷ 0 ∷ 0 ∷ 0 ∷ 0 ∷ [])
    ∷ marks 1 (1 ∷ 1 ∷ 1 ∷ 0 ∷ 0 ∷ 0 ∷ 0 ∷ 0 ∷ 1 ∷ 3 ∷ []) ∷ heads (0 ∷ 0 ∷ 0 ∷ 0 ∷ 0 ∷ 0 ∷ 0 ∷ 0 ∷ 0 ∷ []) ∷ []

-- what is no change: no pair, five, a path past 31, paths that do not rise, a value past 65,535; each where the others are right
invalid : List Line
invalid =
    no 3 (append []) ∷ no 3 (append (pair 1 1 ∷ pair 2 1 ∷ pair 3 1 ∷ pair 4 1 ∷ pair 5 1 ∷ []))
    ∷ no 3 (append (pair 32 1 ∷ [])) ∷ no 3 (append (pair 1 1 ∷ pair 32 1 ∷ []))
    ∷ no 3 (append (pair 1 1 ∷ pair 2 1 ∷ pair 32 1 ∷ [])) ∷ no 3 (append (pair 1 1 ∷ pair 2 1 ∷ pair 3 1 ∷ pair 32 1 ∷ []))
    ∷ no 3 (append (pair 1 1 ∷ pair 1 1 ∷ [])) ∷ no 3 (append (pair 1 1 ∷ pair 2 1 ∷ pair 2 1 ∷ [])) ∷ no 3 (append (pair 1 1 ∷ pair 2 1 ∷ pair 3 1 ∷ pair 3 1 ∷ []))
    ∷ no 3 (append (pair 2 1 ∷ pair 1 1 ∷ [])) ∷ no 3 (append (pair 1 1 ∷ pair 3 1 ∷ pair 2 1 ∷ [])) ∷ no 3 (append (pair 1 1 ∷ pair 2 1 ∷ pair 4 1 ∷ pair 3 1 ∷ []))
    ∷ no 3 (append (pair 1 65536 ∷ [])) ∷ no 3 (append (pair 1 1 ∷ pair 2 65536 ∷ [])) ∷ adding 1 (pair 1 1 ∷ pair 2 1 ∷ pair 3 1 ∷ pair 4 1 ∷ []) ∷ []

pub appending : List (List Line)
appending = entered ∷ invalid ∷ []

pub appending_hold : agree appending ≡ true
unfolding agree agrees begins step outcome decide differ differ_row entry_numbers state_numbers well_formed all_from all_at_most entry_ok head_ok pairs_ok values_ok plan_of rows_of overlay present after afters appending entered invalid
appending_hold = refl

-- ---- start, stop, connect, disconnect: 2, 7, 8, and what each leaves
switched : List Line
switched =
    nets (1 ∷ 0 ∷ 0 ∷ 0 ∷ 0 ∷ 0 ∷ 0 ∷ []) ∷ nodes 1 (0 ∷ 0 ∷ []) ∷ nodes 8 (0 ∷ 0 ∷ []) ∷ no 7 stop ∷ no 2 (connect 0) ∷ no 8 (connect 1) ∷ no 7 (disconnect 1)
    ∷ yes start ∷ nets (1 ∷ 0 ∷ 0 ∷ 0 ∷ 0 ∷ 1 ∷ 1 ∷ []) ∷ no 7 start
    ∷ no 2 (connect 0) ∷ no 2 (connect 9) ∷ no 2 (disconnect 0) ∷ no 2 (disconnect 9)
    ∷ yes (connect 1) ∷ nodes 1 (1 ∷ 1 ∷ []) ∷ nodes 2 (0 ∷ 0 ∷ []) ∷ yes (connect 8) ∷ nodes 8 (1 ∷ 1 ∷ []) ∷ no 7 (connect 1)
    ∷ yes (disconnect 1) ∷ nodes 1 (1 ∷ 0 ∷ []) ∷ nodes 8 (1 ∷ 1 ∷ []) ∷ no 7 (disconnect 1) ∷ yes (connect 1) ∷ nodes 1 (2 ∷ 1 ∷ [])
    ∷ yes stop ∷ nets (1 ∷ 0 ∷ 0 ∷ 0 ∷ 0 ∷ 1 ∷ 0 ∷ []) ∷ nodes 1 (2 ∷ 0 ∷ []) ∷ nodes 8 (1 ∷ 0 ∷ []) ∷ no 7 (disconnect 8) ∷ no 8 (connect 8)
    ∷ yes start ∷ nets (1 ∷ 0 ∷ 0 ∷ 0 ∷ 0 ∷ 2 ∷ 1 ∷ []) ∷ []

-- stop empties a target that forgets, and nothing else; a synchronise brings the applied values back
emptied : List Line
emptied =
    adding 1 (pair 3 7 ∷ []) ∷ adding 2 (pair 4 9 ∷ [])
    ∷ (lined
    ++ (commit 1
    ++ (apply 1
    ++ (commit 2
    ++ (reads 3 7 7 7 ∷ yes stop ∷ reads 3 7 7 0 ∷ reads 4 9 0 0 ∷ yes start ∷ yes (connect 1) ∷ reads 3 7 7 0
    ∷ yes (master 1) ∷ yes (master 1) ∷ yes (sync 1) ∷ reads 3 7 7 0 ∷ nets (2 ∷ 1 ∷ 1 ∷ 2 ∷ 2 ∷ 2 ∷ 1 ∷ [])
    ∷ tells (sync 1) 0 0 0 1 0 ∷ reads 3 7 7 7 ∷ reads 4 9 0 0 ∷ nets (3 ∷ 2 ∷ 1 ∷ 2 ∷ 2 ∷ 2 ∷ 1 ∷ []) ∷ [])))))

pub switching : List (List Line)
switching = switched ∷ emptied ∷ []

pub switching_hold : agree switching ≡ true
unfolding agree agrees begins step outcome decide differ differ_row entry_numbers state_numbers well_formed all_from all_at_most entry_ok head_ok pairs_ok values_ok plan_of rows_of overlay present after afters switching switched emptied
switching_hold = refl

-- ---- mastership and synchronise: 2, 10, 11, 12
elected : List Line
elected =
    no 2 (master 0) ∷ no 2 (master 9) ∷ no 11 (master 1) ∷ yes start ∷ yes (connect 2) ∷ yes (disconnect 2) ∷ yes (connect 2) ∷ yes (connect 1)
    ∷ yes (master 2) ∷ nets (1 ∷ 0 ∷ 2 ∷ 1 ∷ 2 ∷ 1 ∷ 1 ∷ []) ∷ no 11 (master 2) ∷ no 11 (master 1) ∷ no 11 (master 3)
    ∷ yes (disconnect 2) ∷ no 11 (master 1) ∷ yes (master 2) ∷ nets (1 ∷ 0 ∷ 0 ∷ 1 ∷ 2 ∷ 1 ∷ 1 ∷ []) ∷ no 11 (master 2)
    ∷ yes (master 1) ∷ nets (1 ∷ 0 ∷ 1 ∷ 2 ∷ 1 ∷ 1 ∷ 1 ∷ [])
    ∷ yes (disconnect 1) ∷ yes (connect 1) ∷ yes (connect 2) ∷ no 11 (master 2) ∷ yes (master 1) ∷ nets (1 ∷ 0 ∷ 0 ∷ 2 ∷ 1 ∷ 1 ∷ 1 ∷ [])
    ∷ yes (connect 8) ∷ yes (master 8) ∷ nets (1 ∷ 0 ∷ 8 ∷ 3 ∷ 1 ∷ 1 ∷ 1 ∷ []) ∷ []

synchronised : List Line
synchronised =
    no 2 (sync 0) ∷ no 2 (sync 9) ∷ no 10 (sync 1) ∷ yes start ∷ yes (connect 1) ∷ yes (connect 2) ∷ yes (connect 3) ∷ yes (disconnect 1) ∷ yes (connect 1)
    ∷ yes (master 1) ∷ no 10 (sync 2) ∷ yes (sync 1) ∷ nets (2 ∷ 0 ∷ 1 ∷ 1 ∷ 2 ∷ 1 ∷ 1 ∷ []) ∷ yes (disconnect 1) ∷ no 12 (sync 1) ∷ no 10 (sync 2)
    ∷ yes (connect 1) ∷ no 12 (sync 1) ∷ yes (master 1) ∷ no 10 (sync 1) ∷ yes (master 1) ∷ yes (sync 1) ∷ nets (3 ∷ 2 ∷ 1 ∷ 2 ∷ 3 ∷ 1 ∷ 1 ∷ [])
    ∷ no 11 (sync 1) ∷ no 10 (sync 2) ∷ yes (disconnect 1) ∷ no 11 (sync 1) ∷ yes (master 1) ∷ yes (master 3) ∷ yes (disconnect 3) ∷ yes (sync 3)
    ∷ nets (2 ∷ 2 ∷ 3 ∷ 3 ∷ 1 ∷ 1 ∷ 1 ∷ []) ∷ no 12 (sync 3) ∷ yes stop ∷ no 12 (sync 3) ∷ []

pub leading : List (List Line)
leading = elected ∷ synchronised ∷ []

pub leading_hold : agree leading ≡ true
unfolding agree agrees begins step outcome decide differ differ_row entry_numbers state_numbers well_formed all_from all_at_most entry_ok head_ok pairs_ok values_ok plan_of rows_of overlay present after afters leading elected synchronised
leading_hold = refl

-- ---- the order of a job's refusals, and of a rollback request's: each line is met by two of them, or by one alone
ordered : List Line
ordered =
    no 2 (work 0 1 1 0 0) ∷ no 2 (work 9 1 1 0 0) ∷ no 2 (work 1 0 1 0 0) ∷ no 2 (work 1 5 1 0 0) ∷ no 2 (work 1 1 1 2 0) ∷ no 2 (work 1 1 1 0 3)
    ∷ no 5 (work 1 1 1 0 0) ∷ no 5 (work 1 1 0 0 0) ∷ no 5 (rollback 0) ∷ no 5 (rollback 1)
    ∷ adding 1 (pair 3 7 ∷ []) ∷ adding 2 (pair 3 9 ∷ []) ∷ no 5 (work 1 1 0 0 0) ∷ no 5 (work 1 1 3 0 0) ∷ no 10 (work 1 1 1 0 0) ∷ no 10 (work 1 1 2 0 0) ∷ no 10 (work 1 2 1 0 0)
    ∷ (led
    ++ (yes (connect 2) ∷ no 2 (work 0 1 1 0 0) ∷ no 2 (work 1 0 1 0 0) ∷ no 2 (work 1 5 1 0 0) ∷ no 2 (work 1 1 1 2 0) ∷ no 2 (work 1 1 1 0 3)
    ∷ no 10 (work 2 1 1 0 0) ∷ no 10 (work 2 1 2 0 0) ∷ no 5 (work 2 1 3 0 0) ∷ no 11 (work 1 1 2 0 0) ∷ no 6 (rollback 1)
    ∷ (commit 1
    ++ (job2 1 0 0 2 ∷ no 12 (work 1 2 1 0 0) ∷ no 12 (work 1 2 1 1 0) ∷ no 10 (work 2 2 1 0 0) ∷ no 11 (work 1 4 1 0 0)
    ∷ yes (rollback 1) ∷ no 6 (rollback 1) ∷ no 11 (work 1 4 1 0 0) ∷ no 5 (rollback 3) ∷ []))))

pub ordering : List (List Line)
ordering = ordered ∷ []

pub ordering_hold : agree ordering ≡ true
unfolding agree agrees begins step outcome decide differ differ_row entry_numbers state_numbers well_formed all_from all_at_most entry_ok head_ok pairs_ok values_ok plan_of rows_of overlay present after afters ordering ordered
ordering_hold = refl

-- ---- the four jobs on a change of four pairs, every rule with a "then" cut, and then closed: it is repeated with cut and another
-- outcome, and gives no second event
cut : List Line
cut =
    adding 1 (pair 3 7 ∷ pair 4 8 ∷ pair 5 9 ∷ pair 6 10 ∷ [])
    ∷ (lined
    ++ (job1 1 0 1 2 ∷ heads (0 ∷ 0 ∷ 1 ∷ 0 ∷ 0 ∷ 0 ∷ 0 ∷ 0 ∷ 0 ∷ []) ∷ marks 1 (1 ∷ 1 ∷ 1 ∷ 0 ∷ 0 ∷ [])
    ∷ quiet 1 1 ∷ heads (0 ∷ 0 ∷ 1 ∷ 0 ∷ 0 ∷ 0 ∷ 0 ∷ 0 ∷ 0 ∷ []) ∷ marks 1 (1 ∷ 2 ∷ 1 ∷ 0 ∷ 0 ∷ 0 ∷ 0 ∷ 0 ∷ 4 ∷ 3 ∷ 4 ∷ 5 ∷ 6 ∷ 7 ∷ 8 ∷ 9 ∷ 10 ∷ 0 ∷ 0 ∷ 0 ∷ 0 ∷ [])
    ∷ job1 1 0 1 3 ∷ heads (1 ∷ 1 ∷ 1 ∷ 1 ∷ 1 ∷ 0 ∷ 0 ∷ 0 ∷ 0 ∷ []) ∷ marks 1 (1 ∷ 2 ∷ 1 ∷ 0 ∷ 0 ∷ []) ∷ reads 3 7 0 0 ∷ reads 4 8 0 0 ∷ reads 5 9 0 0 ∷ reads 6 10 0 0 ∷ wait 2 1
    ∷ yes (work 1 1 1 1 1) ∷ heads (1 ∷ 1 ∷ 1 ∷ 1 ∷ 1 ∷ 0 ∷ []) ∷ marks 1 (1 ∷ 3 ∷ 1 ∷ 1 ∷ 0 ∷ 0 ∷ 0 ∷ 0 ∷ 4 ∷ 3 ∷ []) ∷ wait 1 1
    ∷ job2 1 0 1 2 ∷ heads (1 ∷ 1 ∷ 1 ∷ 1 ∷ 1 ∷ 0 ∷ 1 ∷ 0 ∷ 0 ∷ []) ∷ marks 1 (1 ∷ 3 ∷ 1 ∷ 1 ∷ 0 ∷ []) ∷ reads 3 7 0 0
    ∷ quiet 2 1 ∷ heads (1 ∷ 1 ∷ 1 ∷ 1 ∷ 1 ∷ 0 ∷ 1 ∷ 0 ∷ 0 ∷ []) ∷ marks 1 (1 ∷ 3 ∷ 2 ∷ 1 ∷ 0 ∷ 0 ∷ 0 ∷ 0 ∷ 4 ∷ [])
    ∷ yes (work 1 2 1 0 1) ∷ heads (1 ∷ 1 ∷ 1 ∷ 1 ∷ 1 ∷ 0 ∷ 1 ∷ 0 ∷ 0 ∷ []) ∷ marks 1 (1 ∷ 3 ∷ 2 ∷ 1 ∷ 0 ∷ []) ∷ reads 3 7 0 7 ∷ reads 4 8 0 8 ∷ reads 5 9 0 9 ∷ reads 6 10 0 10
    ∷ job2 1 0 2 3 ∷ heads (1 ∷ 1 ∷ 1 ∷ 1 ∷ 1 ∷ 1 ∷ 1 ∷ 1 ∷ 1 ∷ []) ∷ marks 1 (1 ∷ 3 ∷ 2 ∷ 1 ∷ 0 ∷ []) ∷ reads 3 7 7 7 ∷ reads 4 8 8 8 ∷ reads 5 9 9 9 ∷ reads 6 10 10 10
    ∷ yes (work 1 2 1 1 1) ∷ heads (1 ∷ 1 ∷ 1 ∷ 1 ∷ 1 ∷ 1 ∷ 1 ∷ 1 ∷ 1 ∷ []) ∷ marks 1 (1 ∷ 3 ∷ 3 ∷ 1 ∷ 0 ∷ []) ∷ wait 2 1 ∷ wait 3 1 ∷ wait 4 1
    ∷ yes (rollback 1) ∷ marks 1 (2 ∷ 3 ∷ 3 ∷ 1 ∷ 1 ∷ 1 ∷ 0 ∷ 0 ∷ 4 ∷ 3 ∷ 4 ∷ 5 ∷ 6 ∷ 7 ∷ 8 ∷ 9 ∷ 10 ∷ 0 ∷ 0 ∷ 0 ∷ 0 ∷ []) ∷ wait 4 1
    ∷ job3 1 1 1 2 ∷ heads (1 ∷ 1 ∷ 0 ∷ 1 ∷ 1 ∷ 1 ∷ 1 ∷ 1 ∷ 1 ∷ []) ∷ marks 1 (2 ∷ 3 ∷ 3 ∷ 1 ∷ 1 ∷ 1 ∷ 0 ∷ [])
    ∷ quiet 3 1 ∷ heads (1 ∷ 1 ∷ 0 ∷ 1 ∷ 1 ∷ 1 ∷ 1 ∷ 1 ∷ 1 ∷ []) ∷ marks 1 (2 ∷ 3 ∷ 3 ∷ 1 ∷ 2 ∷ 1 ∷ 0 ∷ 0 ∷ 4 ∷ [])
    ∷ job3 1 1 1 3 ∷ heads (1 ∷ 1 ∷ 0 ∷ 0 ∷ 2 ∷ 1 ∷ 1 ∷ 1 ∷ 1 ∷ []) ∷ marks 1 (2 ∷ 3 ∷ 3 ∷ 1 ∷ 2 ∷ 1 ∷ 0 ∷ []) ∷ reads 3 0 7 7 ∷ reads 4 0 8 8 ∷ reads 5 0 9 9 ∷ reads 6 0 10 10 ∷ wait 4 1
    ∷ quiet 3 1 ∷ heads (1 ∷ 1 ∷ 0 ∷ 0 ∷ 2 ∷ 1 ∷ []) ∷ marks 1 (2 ∷ 3 ∷ 3 ∷ 1 ∷ 3 ∷ 1 ∷ 2 ∷ 0 ∷ 4 ∷ []) ∷ wait 3 1
    ∷ job4 1 1 1 2 ∷ heads (1 ∷ 1 ∷ 0 ∷ 0 ∷ 2 ∷ 1 ∷ 0 ∷ 1 ∷ 1 ∷ []) ∷ marks 1 (2 ∷ 3 ∷ 3 ∷ 1 ∷ 3 ∷ 1 ∷ 2 ∷ []) ∷ reads 3 0 7 7
    ∷ quiet 4 1 ∷ heads (1 ∷ 1 ∷ 0 ∷ 0 ∷ 2 ∷ 1 ∷ 0 ∷ 1 ∷ 1 ∷ []) ∷ marks 1 (2 ∷ 3 ∷ 3 ∷ 1 ∷ 3 ∷ 2 ∷ 2 ∷ 0 ∷ 4 ∷ []) ∷ no 13 (work 1 4 1 1 0) ∷ no 13 (work 1 4 1 1 1)
    ∷ yes (work 1 4 1 0 1) ∷ heads (1 ∷ 1 ∷ 0 ∷ 0 ∷ 2 ∷ 1 ∷ 0 ∷ 1 ∷ 1 ∷ []) ∷ marks 1 (2 ∷ 3 ∷ 3 ∷ 1 ∷ 3 ∷ 2 ∷ 2 ∷ []) ∷ reads 3 0 7 0 ∷ reads 4 0 8 0 ∷ reads 5 0 9 0 ∷ reads 6 0 10 0
    ∷ job4 1 0 2 3 ∷ heads (1 ∷ 1 ∷ 0 ∷ 0 ∷ 2 ∷ 1 ∷ 0 ∷ 0 ∷ 2 ∷ []) ∷ marks 1 (2 ∷ 3 ∷ 3 ∷ 1 ∷ 3 ∷ 2 ∷ 2 ∷ []) ∷ reads 3 0 0 0 ∷ reads 4 0 0 0 ∷ reads 5 0 0 0 ∷ reads 6 0 0 0
    ∷ yes (work 1 4 1 1 1) ∷ heads (1 ∷ 1 ∷ 0 ∷ 0 ∷ 2 ∷ 1 ∷ 0 ∷ 0 ∷ 2 ∷ []) ∷ marks 1 (2 ∷ 3 ∷ 3 ∷ 1 ∷ 3 ∷ 3 ∷ 2 ∷ 0 ∷ 4 ∷ 3 ∷ 4 ∷ 5 ∷ 6 ∷ 7 ∷ 8 ∷ 9 ∷ 10 ∷ []) ∷ wait 4 1 ∷ []))

-- the same whole, a change of two pairs on top of one of four: r.index and r.values are what stood there, and come back
whole : List Line
whole =
    adding 1 (pair 3 7 ∷ pair 4 8 ∷ pair 5 9 ∷ pair 6 10 ∷ []) ∷ adding 2 (pair 3 11 ∷ pair 5 0 ∷ [])
    ∷ (lined
    ++ (commit 1
    ++ (heads (1 ∷ 1 ∷ 1 ∷ 1 ∷ 1 ∷ 0 ∷ 0 ∷ 0 ∷ 0 ∷ []) ∷ marks 1 (1 ∷ 3 ∷ 1 ∷ 1 ∷ 0 ∷ 0 ∷ 0 ∷ 0 ∷ 4 ∷ [])
    ∷ job1 2 0 0 2 ∷ heads (1 ∷ 1 ∷ 2 ∷ 1 ∷ 1 ∷ 0 ∷ []) ∷ marks 2 (1 ∷ 2 ∷ 1 ∷ 0 ∷ 0 ∷ 0 ∷ 0 ∷ 1 ∷ 2 ∷ 3 ∷ 5 ∷ 0 ∷ 0 ∷ 11 ∷ 0 ∷ 0 ∷ 0 ∷ 7 ∷ 9 ∷ 0 ∷ 0 ∷ [])
    ∷ job1 2 0 0 3 ∷ heads (2 ∷ 2 ∷ 2 ∷ 2 ∷ 2 ∷ 0 ∷ []) ∷ marks 2 (1 ∷ 3 ∷ 1 ∷ 2 ∷ 0 ∷ 0 ∷ 0 ∷ 1 ∷ 2 ∷ 3 ∷ 5 ∷ 0 ∷ 0 ∷ 11 ∷ 0 ∷ 0 ∷ 0 ∷ 7 ∷ 9 ∷ 0 ∷ 0 ∷ [])
    ∷ reads 3 11 0 0 ∷ reads 4 8 0 0 ∷ reads 5 0 0 0 ∷ reads 0 0 0 0 ∷ wait 2 2
    ∷ (apply 1
    ++ (heads (2 ∷ 2 ∷ 2 ∷ 2 ∷ 2 ∷ 1 ∷ 1 ∷ 1 ∷ 1 ∷ []) ∷ marks 1 (1 ∷ 3 ∷ 3 ∷ 1 ∷ 0 ∷ []) ∷ reads 3 11 7 7 ∷ wait 2 1
    ∷ (apply 2
    ++ (heads (2 ∷ 2 ∷ 2 ∷ 2 ∷ 2 ∷ 2 ∷ 2 ∷ 2 ∷ 2 ∷ []) ∷ marks 2 (1 ∷ 3 ∷ 3 ∷ 2 ∷ 0 ∷ 0 ∷ 0 ∷ 1 ∷ 2 ∷ []) ∷ reads 3 11 11 11 ∷ reads 5 0 0 0 ∷ reads 6 10 10 10
    ∷ yes (rollback 2) ∷ marks 2 (2 ∷ 3 ∷ 3 ∷ 2 ∷ 1 ∷ 1 ∷ 0 ∷ 1 ∷ 2 ∷ 3 ∷ 5 ∷ 0 ∷ 0 ∷ 11 ∷ 0 ∷ 0 ∷ 0 ∷ 7 ∷ 9 ∷ 0 ∷ 0 ∷ []) ∷ yes (rollback 1) ∷ wait 3 1
    ∷ job3 2 0 0 2 ∷ heads (2 ∷ 2 ∷ 1 ∷ 2 ∷ 2 ∷ 2 ∷ []) ∷ marks 2 (2 ∷ 3 ∷ 3 ∷ 2 ∷ 2 ∷ 1 ∷ 0 ∷ 1 ∷ []) ∷ wait 3 1
    ∷ job3 2 0 0 3 ∷ heads (2 ∷ 2 ∷ 1 ∷ 1 ∷ 3 ∷ 2 ∷ []) ∷ marks 2 (2 ∷ 3 ∷ 3 ∷ 2 ∷ 3 ∷ 1 ∷ 3 ∷ 1 ∷ 2 ∷ 3 ∷ 5 ∷ 0 ∷ 0 ∷ 11 ∷ 0 ∷ 0 ∷ 0 ∷ 7 ∷ 9 ∷ []) ∷ reads 3 7 11 11 ∷ reads 5 9 0 0
    ∷ job3 1 0 0 2 ∷ heads (2 ∷ 2 ∷ 0 ∷ 1 ∷ 3 ∷ []) ∷ job3 1 0 0 3 ∷ heads (1 ∷ 2 ∷ 0 ∷ 0 ∷ 4 ∷ []) ∷ wait 4 1
    ∷ job4 2 0 0 2 ∷ heads (1 ∷ 2 ∷ 0 ∷ 0 ∷ 4 ∷ 2 ∷ 1 ∷ 2 ∷ 2 ∷ []) ∷ marks 2 (2 ∷ 3 ∷ 3 ∷ 2 ∷ 3 ∷ 2 ∷ 3 ∷ 1 ∷ [])
    ∷ job4 2 0 0 3 ∷ heads (1 ∷ 2 ∷ 0 ∷ 0 ∷ 4 ∷ 2 ∷ 1 ∷ 1 ∷ 3 ∷ []) ∷ marks 2 (2 ∷ 3 ∷ 3 ∷ 2 ∷ 3 ∷ 3 ∷ 3 ∷ 1 ∷ 2 ∷ 3 ∷ 5 ∷ 0 ∷ 0 ∷ 11 ∷ 0 ∷ 0 ∷ 0 ∷ 7 ∷ 9 ∷ []) ∷ reads 3 0 7 7 ∷ reads 5 0 9 9
    ∷ (unapply 1
    ++ (heads (1 ∷ 2 ∷ 0 ∷ 0 ∷ 4 ∷ 1 ∷ 0 ∷ 0 ∷ 4 ∷ []) ∷ reads 3 0 0 0 ∷ adding 3 (pair 9 1 ∷ []) ∷ (commit 3 ++ (heads (3 ∷ 3 ∷ 3 ∷ 3 ∷ 5 ∷ []) ∷ [])))))))))))

pub jobs : List (List Line)
jobs = cut ∷ whole ∷ []

pub jobs_hold : agree jobs ≡ true
unfolding agree agrees begins step outcome decide differ differ_row entry_numbers state_numbers well_formed all_from all_at_most entry_ok head_ok pairs_ok values_ok plan_of rows_of overlay present after afters jobs cut whole
jobs_hold = refl

-- ---- what does not go through: each cut and closed, and whole
-- validation rejects
rejected : List Line
rejected =
    adding 1 (pair 3 7 ∷ []) ∷ adding 2 (pair 3 9 ∷ []) ∷ adding 3 (pair 3 5 ∷ [])
    ∷ (led
    ++ (job1 1 0 0 2 ∷ job1 1 1 1 6 ∷ heads (0 ∷ 0 ∷ 1 ∷ 0 ∷ 0 ∷ []) ∷ marks 1 (1 ∷ 6 ∷ 5 ∷ 0 ∷ 0 ∷ 0 ∷ 0 ∷ 0 ∷ 1 ∷ []) ∷ wait 1 2 ∷ wait 2 1
    ∷ quiet 1 1 ∷ heads (1 ∷ 1 ∷ 1 ∷ 0 ∷ 0 ∷ []) ∷ marks 1 (1 ∷ 6 ∷ 5 ∷ 0 ∷ []) ∷ reads 3 0 0 0 ∷ wait 1 1
    ∷ job1 2 0 0 2 ∷ job1 2 1 0 6 ∷ heads (2 ∷ 2 ∷ 2 ∷ 0 ∷ 0 ∷ []) ∷ marks 2 (1 ∷ 6 ∷ 5 ∷ 0 ∷ []) ∷ no 6 (rollback 2)
    ∷ (commit 3 ++ (heads (3 ∷ 3 ∷ 3 ∷ 3 ∷ 1 ∷ []) ∷ marks 3 (1 ∷ 3 ∷ 1 ∷ 1 ∷ 0 ∷ 0 ∷ 0 ∷ 0 ∷ 1 ∷ []) ∷ []))))

-- the target rejects a push; the change on it is aborted, its rollback canceled
dropped : List Line
dropped =
    adding 1 (pair 3 7 ∷ []) ∷ adding 2 (pair 4 9 ∷ [])
    ∷ (lined
    ++ (commit 1
    ++ (commit 2
    ++ (job2 1 0 0 2 ∷ job2 1 1 1 6 ∷ heads (2 ∷ 2 ∷ 2 ∷ 2 ∷ 2 ∷ 0 ∷ 1 ∷ 0 ∷ 0 ∷ []) ∷ marks 1 (1 ∷ 3 ∷ 6 ∷ 1 ∷ 0 ∷ []) ∷ wait 2 2
    ∷ quiet 2 1 ∷ heads (2 ∷ 2 ∷ 2 ∷ 2 ∷ 2 ∷ 1 ∷ 1 ∷ 0 ∷ 1 ∷ []) ∷ marks 1 (1 ∷ 3 ∷ 6 ∷ 1 ∷ 0 ∷ []) ∷ reads 3 7 0 0 ∷ wait 2 1
    ∷ job2 2 0 1 4 ∷ heads (2 ∷ 2 ∷ 2 ∷ 2 ∷ 2 ∷ 1 ∷ 1 ∷ 0 ∷ 1 ∷ []) ∷ marks 2 (1 ∷ 3 ∷ 4 ∷ 2 ∷ 0 ∷ 0 ∷ 0 ∷ 1 ∷ [])
    ∷ quiet 2 2 ∷ heads (2 ∷ 2 ∷ 2 ∷ 2 ∷ 2 ∷ 2 ∷ 2 ∷ 0 ∷ 2 ∷ []) ∷ marks 2 (1 ∷ 3 ∷ 4 ∷ 2 ∷ 0 ∷ []) ∷ reads 4 9 0 0 ∷ wait 2 2
    ∷ yes (rollback 2) ∷ yes (rollback 1)
    ∷ (uncommit 2
    ++ (uncommit 1
    ++ (job4 2 0 1 5 ∷ heads (1 ∷ 2 ∷ 0 ∷ 0 ∷ 4 ∷ 2 ∷ 2 ∷ 0 ∷ 2 ∷ []) ∷ marks 2 (2 ∷ 3 ∷ 4 ∷ 2 ∷ 3 ∷ 5 ∷ 3 ∷ 1 ∷ []) ∷ wait 4 1
    ∷ quiet 4 2 ∷ heads (1 ∷ 2 ∷ 0 ∷ 0 ∷ 4 ∷ 2 ∷ 1 ∷ 0 ∷ 3 ∷ []) ∷ marks 2 (2 ∷ 3 ∷ 4 ∷ 2 ∷ 3 ∷ 5 ∷ 3 ∷ 1 ∷ []) ∷ wait 4 2
    ∷ (unapply 1 ++ (heads (1 ∷ 2 ∷ 0 ∷ 0 ∷ 4 ∷ 1 ∷ 0 ∷ 0 ∷ 4 ∷ []) ∷ reads 3 0 0 0 ∷ [])))))))))

-- the same uncut
stopped : List Line
stopped =
    adding 1 (pair 3 7 ∷ []) ∷ adding 2 (pair 4 9 ∷ [])
    ∷ (lined
    ++ (commit 1
    ++ (commit 2
    ++ (job2 1 0 0 2 ∷ job2 1 1 0 6 ∷ heads (2 ∷ 2 ∷ 2 ∷ 2 ∷ 2 ∷ 1 ∷ 1 ∷ 0 ∷ 1 ∷ []) ∷ marks 1 (1 ∷ 3 ∷ 6 ∷ 1 ∷ 0 ∷ [])
    ∷ job2 2 0 0 4 ∷ heads (2 ∷ 2 ∷ 2 ∷ 2 ∷ 2 ∷ 2 ∷ 2 ∷ 0 ∷ 2 ∷ []) ∷ marks 2 (1 ∷ 3 ∷ 4 ∷ 2 ∷ 0 ∷ []) ∷ reads 4 9 0 0 ∷ yes (rollback 2)
    ∷ (uncommit 2 ++ (job4 2 0 0 5 ∷ heads (2 ∷ 2 ∷ 1 ∷ 1 ∷ 3 ∷ 2 ∷ 1 ∷ 0 ∷ 3 ∷ []) ∷ marks 2 (2 ∷ 3 ∷ 4 ∷ 2 ∷ 3 ∷ 5 ∷ 3 ∷ 1 ∷ []) ∷ []))))))

-- begun, then its rollback commits: Failed, with no line, and the rollback is pushed; the one on it has both reasons to abort
overtaken : List Line
overtaken =
    adding 1 (pair 3 7 ∷ []) ∷ adding 2 (pair 4 9 ∷ [])
    ∷ (lined
    ++ (commit 1
    ++ (commit 2
    ++ (job2 1 0 0 2 ∷ yes (rollback 2) ∷ yes (rollback 1) ∷ yes (disconnect 1) ∷ no 12 (work 1 2 1 0 0)
    ∷ (uncommit 2
    ++ (uncommit 1
    ++ (job2 1 0 1 6 ∷ heads (1 ∷ 2 ∷ 0 ∷ 0 ∷ 4 ∷ 0 ∷ 1 ∷ 0 ∷ 0 ∷ []) ∷ marks 1 (2 ∷ 3 ∷ 6 ∷ 1 ∷ 3 ∷ 1 ∷ 4 ∷ 0 ∷ []) ∷ quiet 2 1 ∷ heads (1 ∷ 2 ∷ 0 ∷ 0 ∷ 4 ∷ 1 ∷ 1 ∷ 0 ∷ 1 ∷ [])
    ∷ job2 2 0 0 4 ∷ job4 2 0 0 5 ∷ job4 1 0 0 2 ∷ no 12 (work 1 4 1 0 0) ∷ no 12 (work 1 4 1 1 0)
    ∷ yes (connect 1) ∷ yes (master 1) ∷ yes (master 1) ∷ yes (sync 1) ∷ yes (sync 1)
    ∷ job4 1 0 0 3 ∷ heads (1 ∷ 2 ∷ 0 ∷ 0 ∷ 4 ∷ 1 ∷ 0 ∷ 0 ∷ 4 ∷ []) ∷ [])))))))

pub failing : List (List Line)
failing = rejected ∷ dropped ∷ stopped ∷ overtaken ∷ []

pub failing_hold : agree failing ≡ true
unfolding agree agrees begins step outcome decide differ differ_row entry_numbers state_numbers well_formed all_from all_at_most entry_ok head_ok pairs_ok values_ok plan_of rows_of overlay present after afters failing rejected dropped stopped overtaken
failing_hold = refl

-- ---- the reads: 2, 5, and each kind
asked : List Line
asked =
    adding 1 (pair 3 7 ∷ []) ∷ asks (of_entry 2 22) 2 0 ∷ asks (of_entry 0 1) 5 0 ∷ asks (of_entry 2 1) 5 0 ∷ asks (of_entry 1 0) 2 0 ∷ asks (of_entry 1 22) 2 0
    ∷ asks (of_entry 1 1) 0 1 ∷ asks (of_entry 1 14) 0 7 ∷ asks (of_entry 1 21) 0 0
    ∷ asks (of_state 0) 2 0 ∷ asks (of_state 19) 2 0 ∷ asks (of_state 1) 0 1 ∷ asks (of_state 18) 0 0 ∷ asks (of_node 0 1) 2 0 ∷ asks (of_node 9 1) 2 0 ∷ asks (of_node 1 0) 2 0 ∷ asks (of_node 1 3) 2 0
    ∷ (lined
    ++ (yes (disconnect 1) ∷ yes (connect 1) ∷ asks (of_node 1 1) 0 2 ∷ asks (of_node 1 2) 0 1 ∷ asks (of_node 8 2) 0 0 ∷ asks (of_state 17) 0 1 ∷ asks (of_state 11) 0 3
    ∷ (commit 1
    ++ (asks (of_table 1 3) 0 7 ∷ asks (of_table 2 3) 0 0 ∷ asks (of_table 3 3) 0 0 ∷ asks (of_table 4 3) 0 0
    ∷ asks (of_table 0 3) 2 0 ∷ asks (of_table 5 3) 2 0 ∷ asks (of_table 1 32) 2 0 ∷ asks (of_table 1 31) 0 0 ∷ []))))

-- a table of its own for each
tabled : List Line
tabled =
    adding 1 (pair 3 7 ∷ []) ∷ adding 2 (pair 3 9 ∷ [])
    ∷ (lined ++ (commit 1 ++ (apply 1 ++ (commit 2 ++ (yes stop ∷ asks (of_table 1 3) 0 9 ∷ asks (of_table 2 3) 0 7 ∷ asks (of_table 3 3) 0 0 ∷ [])))))

pub reading : List (List Line)
reading = asked ∷ tabled ∷ []

pub reading_hold : agree reading ≡ true
unfolding agree agrees begins step outcome decide differ differ_row read entry_numbers state_numbers well_formed all_from all_at_most entry_ok head_ok pairs_ok values_ok plan_of rows_of overlay present after afters reading asked tabled
reading_hold = refl

-- ---- a run from fresh: the newest call first, and its events so too
abbrev ran : Past
ran = run false (work 1 1 1 0 0 ∷ master 1 ∷ connect 1 ∷ start ∷ append (pair 3 7 ∷ []) ∷ [])

abbrev phase_of : Event → ℕ
phase_of e = e.phase

abbrev number_of : Event → ℕ
number_of e = e.number.0

pub running : Bool
running =
    agrees ran.state (marks 1 (1 ∷ 2 ∷ 1 ∷ []) ∷ heads (0 ∷ 0 ∷ 1 ∷ []) ∷ nets (1 ∷ 0 ∷ 1 ∷ 1 ∷ 1 ∷ 1 ∷ 1 ∷ []) ∷ [])
    && (begins (map phase_of ran.events) (1 ∷ 0 ∷ 0 ∷ 0 ∷ 0 ∷ []) && begins (map number_of ran.events) (1 ∷ 0 ∷ 0 ∷ 0 ∷ 1 ∷ []))

pub running_hold : running ≡ true
unfolding running run agrees begins step outcome decide differ differ_row entry_numbers state_numbers well_formed all_from all_at_most entry_ok head_ok pairs_ok values_ok plan_of rows_of overlay present after afters
running_hold = refl

-- ---- r.values: the present value of each path in its place, and 0 in unused ones, though path 0 has a value
keeps : List Line
keeps =
    adding 1 (pair 0 5 ∷ pair 1 6 ∷ pair 2 7 ∷ pair 4 8 ∷ []) ∷ adding 2 (pair 3 1 ∷ []) ∷ adding 3 (pair 0 1 ∷ pair 1 2 ∷ pair 2 3 ∷ pair 4 4 ∷ [])
    ∷ (led
    ++ (commit 1
    ++ (job1 2 0 0 2 ∷ marks 2 (1 ∷ 2 ∷ 1 ∷ 0 ∷ 0 ∷ 0 ∷ 0 ∷ 1 ∷ 1 ∷ 3 ∷ 0 ∷ 0 ∷ 0 ∷ 1 ∷ 0 ∷ 0 ∷ 0 ∷ 0 ∷ 0 ∷ 0 ∷ 0 ∷ []) ∷ job1 2 0 0 3
    ∷ job1 3 0 0 2 ∷ marks 3 (1 ∷ 2 ∷ 1 ∷ 0 ∷ 0 ∷ 0 ∷ 0 ∷ 2 ∷ 4 ∷ 0 ∷ 1 ∷ 2 ∷ 4 ∷ 1 ∷ 2 ∷ 3 ∷ 4 ∷ 5 ∷ 6 ∷ 7 ∷ 8 ∷ []) ∷ job1 3 0 0 3
    ∷ reads 0 1 0 0 ∷ reads 1 2 0 0 ∷ reads 2 3 0 0 ∷ reads 4 4 0 0 ∷ reads 3 1 0 0 ∷ yes (rollback 3)
    ∷ (uncommit 3 ++ (reads 0 5 0 0 ∷ reads 1 6 0 0 ∷ reads 2 7 0 0 ∷ reads 4 8 0 0 ∷ reads 3 1 0 0 ∷ heads (3 ∷ 3 ∷ 2 ∷ 2 ∷ 4 ∷ []) ∷ [])))))

-- and the target's values, which are not the base's, stay while a synchronise has only begun
stay : List Line
stay =
    adding 1 (pair 3 7 ∷ [])
    ∷ (lined
    ++ (commit 1
    ++ (apply 1
    ++ (asks (of_table 3 3) 0 7 ∷ asks (of_table 4 3) 0 0 ∷ yes (disconnect 1) ∷ yes (connect 1) ∷ yes (master 1) ∷ yes (master 1) ∷ reads 3 7 7 7 ∷ yes (sync 1) ∷ reads 3 7 7 7 ∷ nets (2 ∷ 1 ∷ 1 ∷ 2 ∷ 2 ∷ []) ∷ yes (sync 1) ∷ reads 3 7 7 7 ∷ []))))

pub keeping : List (List Line)
keeping = keeps ∷ stay ∷ []

pub keeping_hold : agree keeping ≡ true
unfolding agree agrees begins step outcome decide differ differ_row read entry_numbers state_numbers well_formed all_from all_at_most entry_ok head_ok pairs_ok values_ok plan_of rows_of overlay present after afters keeping keeps stay
keeping_hold = refl

-- Order 13 on sessions, by computing: a group for each sentence of the order. Every line holds a call's answer and the number that
-- it shows, what it is noted as, its stores, and of the state what the line names. Assumes nothing.
use Rattle.std.specs.Prelude.{ℕ, List, [], ◌∷◌, ◌++◌, map, Bool, true, false, ◌&&◌, ◌≡◌, refl, eqb}
use Rattle.kinds.specs.declared.Event.{Event}
use Rattle.machine.specs.State.{State, fresh}
use Rattle.machine.specs.Stores.{Store, grow, entry, fold, change, committed_head, applied_head, value, target_values, configuration, mastership, connections, target, after, afters}
use Rattle.machine.specs.Rows.{overlay, rows_of}
use Rattle.machine.specs.Differ.{differ, differ_row}
use Rattle.machine.specs.WellFormed.{all_from, all_at_most, pairs_ok, entry_ok, head_ok, well_formed}
use Rattle.machine.specs.Reads.{entry_numbers, state_numbers}
use Rattle.machine.specs.Calls.{Pair, Call, append, start, stop, connect, disconnect, master, sync, work, values_ok, present, plan_of, decide}
use Rattle.machine.specs.Step.{outcome, step, state_from, run}
use Rattle.machine.specs.Notes.{Note, nothing, wrote, half, full, note}
use Rattle.machine.specs.Import.{adds, judged_from, judged, number_at, calls_up_to, import, imported}
use Rattle.machine.specs.Sessions.{Line, reads, nets, nodes, same_numbers, begins, agrees}

-- ---- a call after others made from a state: its answer and number, its note (0 nothing, 1 wrote), its row of stores (1 the target,
-- 2 all of its values, 3 the connections, 4 the configuration, 5 one value, with its path), and what the state then shows; and a run
-- from fresh of a kind, with the number that each of its events shows, the newest first
pub data Row : Type 0 where
  of : State → List Call → Call → (answer number noted : ℕ) → (row : List ℕ) → List Line → Row
  ran : (remembers : Bool) → List Call → (numbers : List ℕ) → Row

abbrev note_number : Note → ℕ
note_number nothing = 0
note_number wrote = 1
note_number (half k) = 2
note_number (full k) = 3

abbrev store_numbers : Store → List ℕ
store_numbers (grow t) = 0 ∷ []
store_numbers (entry i t) = 0 ∷ []
store_numbers (fold b) = 0 ∷ []
store_numbers (change n) = 0 ∷ []
store_numbers (committed_head h) = 0 ∷ []
store_numbers (applied_head h) = 0 ∷ []
store_numbers (value b p v) = 5 ∷ p ∷ v ∷ []
store_numbers (target_values vs) = 2 ∷ []
store_numbers (configuration g) = 4 ∷ []
store_numbers (mastership m) = 0 ∷ []
store_numbers (connections cs) = 3 ∷ []
store_numbers (target t) = 1 ∷ []

unfoldable pub row_numbers : List Store → List ℕ
row_numbers [] = []
row_numbers (e ∷ es) = store_numbers e ++ row_numbers es

abbrev number_of : Event → ℕ
number_of e = e.number.0

unfoldable pub told : List Row → Bool
told [] = true
told (of s cs c a k n es ls ∷ rs) =
    let t = state_from s cs in
    let xs = row_numbers (outcome t c).stores in
    ((same_numbers (step t c).reply a 0 0 k 0 && eqb (note_number (note t c)) n) && ((begins xs es && begins es xs) && agrees (step t c).next ls)) && told rs
told (ran m cs es ∷ rs) = let xs = map number_of (run m cs).events in (begins xs es && begins es xs) && told rs

-- ---- sessions, the newest first
abbrev pair : (path value : ℕ) → Pair
pair p v = record { path = p; value = v }

-- node 1 is master; and its line is open
abbrev led : List Call
led = master 1 ∷ connect 1 ∷ start ∷ []

abbrev through : (job number : ℕ) → List Call → List Call
through j i cs = work 1 j i 0 0 ∷ work 1 j i 0 0 ∷ cs

-- 1 sets paths 3, 4 and 31, and is applied
abbrev applied : List Call
applied = through 2 1 (through 1 1 (append (pair 3 7 ∷ pair 4 8 ∷ pair 31 9 ∷ []) ∷ sync 1 ∷ sync 1 ∷ led))

-- 2 sets paths 3 and 6, and its push is cut at its first store: the switch has them, and they are not applied
abbrev ahead : List Call
ahead = work 1 2 2 0 1 ∷ work 1 2 2 0 0 ∷ through 1 2 (append (pair 3 5 ∷ pair 6 2 ∷ []) ∷ applied)

-- node 1 leads anew, after a power cycle; and without one, its line lost
abbrev cycled : List Call → List Call
cycled cs = master 1 ∷ master 1 ∷ connect 1 ∷ start ∷ stop ∷ cs

abbrev lost : List Call → List Call
lost cs = master 1 ∷ connect 1 ∷ master 1 ∷ disconnect 1 ∷ cs

-- power is lost after a synchronise was begun: the next one writes, and the line is lost
abbrev between : List Call
between = disconnect 1 ∷ sync 1 ∷ cycled (sync 1 ∷ lost applied)

-- what stands at paths 3, 4, 6 and 31: committed, applied and the target's
abbrev held : List Line → List Line
held ls = reads 3 7 7 7 ∷ reads 4 8 8 8 ∷ reads 6 0 0 0 ∷ reads 31 9 9 9 ∷ ls

abbrev emptied : List Line → List Line
emptied ls = reads 3 7 7 0 ∷ reads 4 8 8 0 ∷ reads 6 0 0 0 ∷ reads 31 9 9 0 ∷ ls

abbrev behind : List Line
behind = reads 3 5 7 5 ∷ reads 4 8 8 8 ∷ reads 6 2 0 2 ∷ reads 31 9 9 9 ∷ []

abbrev level : List Line
level = reads 3 5 7 7 ∷ reads 4 8 8 8 ∷ reads 6 2 0 0 ∷ reads 31 9 9 9 ∷ []

-- ---- one that remembers keeps its values when it is stopped, and over the power cycle; one that forgets is emptied
abbrev halted : List Line
halted = nets (3 ∷ 1 ∷ 1 ∷ 1 ∷ 1 ∷ 1 ∷ 0 ∷ []) ∷ nodes 1 (1 ∷ 0 ∷ []) ∷ []

abbrev restarted : List Line
restarted = nets (3 ∷ 1 ∷ 1 ∷ 1 ∷ 1 ∷ 2 ∷ 1 ∷ []) ∷ nodes 1 (1 ∷ 0 ∷ []) ∷ []

pub cycling : List Row
cycling =
    of (fresh true) applied stop 0 0 0 (1 ∷ 3 ∷ []) (held halted) ∷ of (fresh false) applied stop 0 0 0 (1 ∷ 2 ∷ 3 ∷ []) (emptied halted)
    ∷ of (fresh true) (stop ∷ applied) start 0 0 0 (1 ∷ []) (held restarted) ∷ of (fresh false) (stop ∷ applied) start 0 0 0 (1 ∷ []) (emptied restarted)
    ∷ of (fresh true) ahead stop 0 0 0 (1 ∷ 3 ∷ []) behind ∷ of (fresh false) ahead stop 0 0 0 (1 ∷ 2 ∷ 3 ∷ []) (reads 3 5 7 0 ∷ reads 4 8 8 0 ∷ reads 6 2 0 0 ∷ reads 31 9 9 0 ∷ []) ∷ []

pub cycling_hold : told cycling ≡ true
unfolding told row_numbers state_from step outcome decide differ differ_row plan_of afters after overlay rows_of all_from all_at_most pairs_ok entry_ok head_ok well_formed values_ok present agrees begins entry_numbers state_numbers cycling
cycling_hold = refl

-- ---- the kind is fixed when fresh: the next power cycle is as the first
pub fixed : List Row
fixed =
    of (fresh true) (sync 1 ∷ sync 1 ∷ cycled applied) stop 0 0 0 (1 ∷ 3 ∷ []) (held []) ∷ of (fresh false) (sync 1 ∷ sync 1 ∷ cycled applied) stop 0 0 0 (1 ∷ 2 ∷ 3 ∷ []) (emptied []) ∷ []

pub fixed_hold : told fixed ≡ true
unfolding told row_numbers state_from step outcome decide differ differ_row plan_of afters after overlay rows_of all_from all_at_most pairs_ok entry_ok head_ok well_formed values_ok present agrees begins entry_numbers state_numbers fixed
fixed_hold = refl

-- ---- 0 where it only becomes InProgress, and no value is written, whatever differs
pub beginning : List Row
beginning =
    of (fresh false) (cycled applied) (sync 1) 0 0 0 (4 ∷ []) (emptied (nets (2 ∷ 1 ∷ 1 ∷ 2 ∷ 2 ∷ 2 ∷ 1 ∷ []) ∷ []))
    ∷ of (fresh true) (cycled ahead) (sync 1) 0 0 0 (4 ∷ []) behind ∷ of (fresh true) (lost ahead) (sync 1) 0 0 0 (4 ∷ []) behind ∷ of (fresh false) (lost ahead) (sync 1) 0 0 0 (4 ∷ []) behind ∷ []

pub beginning_hold : told beginning ≡ true
unfolding told row_numbers state_from step outcome decide differ differ_row plan_of afters after overlay rows_of all_from all_at_most pairs_ok entry_ok head_ok well_formed values_ok present agrees begins entry_numbers state_numbers beginning
beginning_hold = refl

-- ---- for both kinds it writes the paths that differ, rising, and no other, and answers how many: of one that was emptied all that
-- is applied; of one that remembers what changed meanwhile, and so where the power stayed. A run has the kind that it begins with
pub writing : List Row
writing =
    of (fresh false) (sync 1 ∷ cycled applied) (sync 1) 0 3 1 (4 ∷ 5 ∷ 3 ∷ 7 ∷ 5 ∷ 4 ∷ 8 ∷ 5 ∷ 31 ∷ 9 ∷ []) (held (nets (3 ∷ 2 ∷ 1 ∷ 2 ∷ 2 ∷ 2 ∷ 1 ∷ []) ∷ []))
    ∷ of (fresh false) (sync 1 ∷ cycled ahead) (sync 1) 0 3 1 (4 ∷ 5 ∷ 3 ∷ 7 ∷ 5 ∷ 4 ∷ 8 ∷ 5 ∷ 31 ∷ 9 ∷ []) level
    ∷ of (fresh true) (sync 1 ∷ cycled ahead) (sync 1) 0 2 1 (4 ∷ 5 ∷ 3 ∷ 7 ∷ 5 ∷ 6 ∷ 0 ∷ []) level ∷ of (fresh true) (sync 1 ∷ lost ahead) (sync 1) 0 2 1 (4 ∷ 5 ∷ 3 ∷ 7 ∷ 5 ∷ 6 ∷ 0 ∷ []) level
    ∷ of (fresh false) (sync 1 ∷ lost ahead) (sync 1) 0 2 1 (4 ∷ 5 ∷ 3 ∷ 7 ∷ 5 ∷ 6 ∷ 0 ∷ []) level
    ∷ ran true between (0 ∷ 0 ∷ 0 ∷ 0 ∷ 0 ∷ 0 ∷ 0 ∷ 0 ∷ 0 ∷ 0 ∷ 0 ∷ 0 ∷ 1 ∷ 1 ∷ 1 ∷ 1 ∷ 1 ∷ 0 ∷ 0 ∷ 0 ∷ 0 ∷ 0 ∷ [])
    ∷ ran false between (0 ∷ 3 ∷ 0 ∷ 0 ∷ 0 ∷ 0 ∷ 0 ∷ 0 ∷ 0 ∷ 0 ∷ 0 ∷ 0 ∷ 1 ∷ 1 ∷ 1 ∷ 1 ∷ 1 ∷ 0 ∷ 0 ∷ 0 ∷ 0 ∷ 0 ∷ []) ∷ []

pub writing_hold : told writing ≡ true
unfolding told row_numbers run state_from step outcome decide differ differ_row plan_of afters after overlay rows_of all_from all_at_most pairs_ok entry_ok head_ok well_formed values_ok present agrees begins entry_numbers state_numbers writing
writing_hold = refl

-- ---- where no path differs it writes none and answers 0: it wrote all the same, and the line is open
abbrev same : Bool → List Row
same m =
    of (fresh m) (sync 1 ∷ led) (sync 1) 0 0 1 (4 ∷ []) (nets (3 ∷ 1 ∷ 1 ∷ 1 ∷ 1 ∷ 1 ∷ 1 ∷ []) ∷ reads 3 0 0 0 ∷ [])
    ∷ of (fresh m) (sync 1 ∷ lost applied) (sync 1) 0 0 1 (4 ∷ []) (held (nets (3 ∷ 2 ∷ 1 ∷ 2 ∷ 2 ∷ 1 ∷ 1 ∷ []) ∷ [])) ∷ []

pub equal : List Row
equal =
    same true ++ (same false
    ++ (of (fresh true) (sync 1 ∷ cycled applied) (sync 1) 0 0 1 (4 ∷ []) (held (nets (3 ∷ 2 ∷ 1 ∷ 2 ∷ 2 ∷ 2 ∷ 1 ∷ []) ∷ []))
    ∷ of (fresh false) (sync 1 ∷ cycled (append (pair 3 7 ∷ []) ∷ sync 1 ∷ sync 1 ∷ led)) (sync 1) 0 0 1 (4 ∷ []) (reads 3 0 0 0 ∷ []) ∷ []))

pub equal_hold : told equal ≡ true
unfolding told row_numbers state_from step outcome decide differ differ_row plan_of afters after overlay rows_of all_from all_at_most pairs_ok entry_ok head_ok well_formed values_ok present agrees begins entry_numbers state_numbers equal
equal_hold = refl

-- ---- an imported switch forgets
abbrev list : State
list = imported (adds (pair 3 7 ∷ []) ∷ [])

pub importing : List Row
importing =
    of list (through 2 1 (sync 1 ∷ sync 1 ∷ [])) stop 0 0 0 (1 ∷ 2 ∷ 3 ∷ []) (reads 3 7 7 0 ∷ [])
    ∷ of list (sync 1 ∷ cycled (through 2 1 (sync 1 ∷ sync 1 ∷ []))) (sync 1) 0 1 1 (4 ∷ 5 ∷ 3 ∷ 7 ∷ []) (reads 3 7 7 7 ∷ []) ∷ []

pub importing_hold : told importing ≡ true
unfolding told row_numbers import judged judged_from number_at calls_up_to run state_from step outcome decide differ differ_row plan_of afters after overlay rows_of all_from all_at_most pairs_ok entry_ok head_ok well_formed values_ok present agrees begins entry_numbers state_numbers importing
importing_hold = refl

-- ---- refusals: none new, of either kind
abbrev refuses : Bool → (answer : ℕ) → List Call → Call → List Line → Row
refuses m a cs c ls = of (fresh m) cs c a 0 0 [] ls

abbrev refusals : Bool → List Row
refusals m =
    refuses m 7 [] stop [] ∷ refuses m 7 applied start (held []) ∷ refuses m 7 (stop ∷ applied) stop [] ∷ refuses m 8 (stop ∷ applied) (connect 1) [] ∷ refuses m 2 ahead (sync 0) behind
    ∷ refuses m 2 ahead (sync 9) behind ∷ refuses m 10 (sync 1 ∷ lost ahead) (sync 2) behind ∷ refuses m 11 ahead (sync 1) behind ∷ refuses m 12 (disconnect 1 ∷ sync 1 ∷ lost ahead) (sync 1) behind ∷ []

pub refusing : List Row
refusing = refusals true ++ refusals false

pub refusing_hold : told refusing ≡ true
unfolding told row_numbers state_from step outcome decide differ differ_row plan_of afters after overlay rows_of all_from all_at_most pairs_ok entry_ok head_ok well_formed values_ok present agrees begins entry_numbers state_numbers refusing
refusing_hold = refl

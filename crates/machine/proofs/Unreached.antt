-- Witnesses in states that are well-formed and that no session reaches, or none that is short: the tests of the rules one by
-- one, the orders of refusals that meet nowhere else, the last numbers, and what is well-formed. Computed, as the sessions
-- (Witnesses) are. Assumes nothing.
use Prim.Native.Nat.{ℕ}
use mathlib.Core.List.{List, [], ◌∷◌, ◌++◌}
use mathlib.Core.Bool.{Bool, true, false, ◌&&◌}
use mathlib.Core.Path.{◌≡◌, refl}
use lib.ListN.{replicate}
use Rattle.kinds.specs.declared.Transaction.{Transaction}
use Rattle.kinds.specs.declared.Head.{Head}
use Rattle.kinds.specs.declared.Status.{Status}
use Rattle.kinds.specs.declared.Status.TheVariants.{None, Pending, InProgress, Complete, Aborted, Canceled, Failed}
use Rattle.kinds.specs.declared.Connection.{Connection}
use Rattle.kinds.specs.declared.Progress.{Progress}
use Rattle.kinds.specs.declared.Progress.TheVariants as progress
use Rattle.kinds.specs.Numbers.{num, trm}
use Rattle.rules.specs.Sides.{untouched}
use Rattle.machine.specs.State.{State, Net, absent, four, never, unfolded}
use Rattle.machine.specs.Stores.{with_net, with_applied, after, afters}
use Rattle.machine.specs.Rows.{overlay, rows_of}
use Rattle.machine.specs.Differ.{differ, differ_row}
use Rattle.machine.specs.WellFormed.{all_from, all_at_most, pairs_ok, entry_ok, head_ok, well_formed}
use Rattle.machine.specs.Reads.{entry_numbers, state_numbers}
use Rattle.machine.specs.LiveList.{hops}
use Rattle.machine.specs.Folding.{base_row}
use Rattle.machine.specs.Calls.{rollback, start, stop, connect, master, sync, work, fold_to, values_ok, present, plan_of, decide}
use Rattle.machine.specs.Step.{outcome, step}
use Rattle.machine.specs.Built.{side, entry, log, head, none, state_of, logged}
use Rattle.machine.specs.Sessions.{Line, tells, reads, marks, heads, nets, nodes, begins, agrees}
use Rattle.machine.specs.Witnesses.{no, yes, job1, job2, job3, job4, quiet, wait}

-- ---- a state, and lines that hold of it
pub data Row : Type 0 where
  of : State → List Line → Row

unfoldable pub all : List Row → Bool
all [] = true
all (of s ls ∷ rs) = agrees s ls && all rs

-- ---- the nodes' side: the configuration with its term; master, term and conn; node 1; whether the target runs
abbrev wired : Progress → ℕ → (master term conn : ℕ) → Connection → Bool → Net
wired g u m t c x r =
    record {
      configuration = record { state = g; term = trm u };
      mastership = record { master = m; term = trm t; conn = c };
      connections = x ∷ replicate 7 never;
      target = record { id = 1; running = r; remembers = false };
      values = absent;
    }

abbrev on : ℕ → Connection
on k = record { id = k; connected = true }

abbrev gone : ℕ → Connection
gone k = record { id = k; connected = false }

-- node 1 is master, and its line is open; or not
abbrev lined : State → State
lined s = with_net s (wired progress.Complete 1 1 1 1 (on 1) true)

abbrev lineless : State → State
lineless s = with_net s (wired progress.Complete 1 1 1 1 (gone 1) true)

abbrev unmoved : Transaction
unmoved = entry 1 (side Pending Pending 0) untouched 0

abbrev taken : Transaction
taken = entry 1 (side Complete Complete 1) untouched 0

-- ---- at rest: 3 waits for it, with a head of index, target and revision, and what 1 and 2 are at
abbrev rests : (first second : Transaction) → Head → State
rests a b h = lined (state_of (log 0 (a ∷ b ∷ unmoved ∷ [])) 2 h none)

-- c.commit and r.commit
abbrev marked : Status → Status → Transaction
marked c r = entry 1 (side c Pending 0) (side r None 0) 0

abbrev plain : Transaction
plain = marked Pending None

abbrev goes : List Line
goes = job1 3 0 1 2 ∷ []

abbrev stays : List Line
stays = wait 1 3 ∷ []

pub rested : List Row
rested =
    of (rests plain plain (head 0 0 0 0)) goes ∷ of (rests plain plain (head 0 1 0 0)) stays ∷ of (rests plain plain (head 2 0 1 0)) stays
    ∷ of (rests plain (marked Complete None) (head 2 2 2 0)) goes ∷ of (rests plain (marked Failed None) (head 2 2 2 0)) goes
    ∷ of (rests plain (marked Aborted None) (head 2 2 2 0)) goes ∷ of (rests plain (marked Canceled None) (head 2 2 2 0)) goes
    ∷ of (rests plain (marked None Complete) (head 2 2 2 0)) stays ∷ of (rests plain (marked Pending Complete) (head 2 2 2 0)) stays
    ∷ of (rests plain (marked InProgress Complete) (head 2 2 2 0)) stays ∷ of (rests plain (marked Complete None) (head 2 1 2 0)) stays
    ∷ of (rests (marked InProgress None) plain (head 1 1 1 0)) stays ∷ of (rests (marked Complete None) plain (head 1 1 1 0)) goes
    ∷ of (rests plain (marked Complete Complete) (head 2 1 1 0)) goes ∷ of (rests plain (marked InProgress Failed) (head 2 1 1 0)) goes
    ∷ of (rests plain (marked InProgress Aborted) (head 2 1 1 0)) goes ∷ of (rests plain (marked InProgress Canceled) (head 2 0 0 0)) goes
    ∷ of (rests (marked Complete Complete) (marked Complete None) (head 2 1 1 0)) stays ∷ of (rests plain (marked Complete Pending) (head 2 1 1 0)) stays
    ∷ of (rests plain (marked Complete InProgress) (head 2 1 1 0)) stays ∷ of (rests plain (marked Complete Complete) (head 2 0 1 0)) stays
    ∷ of (rests (marked Complete Complete) plain (head 1 2 2 0)) stays ∷ of (rests (marked Complete Complete) plain (head 1 2 0 0)) stays
    ∷ of (with_net (state_of (log 1 (plain ∷ unmoved ∷ [])) 2 (head 2 2 2 0) none) (wired progress.Complete 1 1 1 1 (on 1) true)) stays
    ∷ of (with_net (state_of (log 1 (plain ∷ unmoved ∷ [])) 2 (head 1 1 1 0) none) (wired progress.Complete 1 1 1 1 (on 1) true)) goes
    ∷ of (with_net (state_of (log 1 (plain ∷ unmoved ∷ [])) 2 (head 1 0 0 0) none) (wired progress.Complete 1 1 1 1 (on 1) true)) goes ∷ []

pub rested_hold : all rested ≡ true
unfolding all agrees begins step outcome decide differ differ_row entry_numbers state_numbers well_formed all_from all_at_most entry_ok head_ok pairs_ok values_ok plan_of rows_of overlay present after afters rested
rested_hold = refl

-- ---- job 1: 1 with c.commit, or 2 where 1 is Pending; change, then index, target and revision
abbrev one : Status → (change index target revision : ℕ) → State
one x n i g r = lined (state_of (log 0 (entry 1 (side x Pending 5) untouched 0 ∷ unmoved ∷ [])) n (head i g r 0) none)

abbrev two : Status → (change index target revision : ℕ) → State
two x n i g r = lined (state_of (log 0 (marked Complete Complete ∷ entry 1 (side x Pending 5) untouched 0 ∷ [])) n (head i g r 0) none)

-- 1 on its way through commit at an ordinal
abbrev late : ℕ → State
late o = lined (state_of (log 0 (entry 1 (side InProgress Pending 5) untouched 0 ∷ [])) 0 (head 0 1 0 o) none)

pub committing : List Row
committing =
    of (one Pending 0 0 1 0) (quiet 1 1 ∷ marks 1 (1 ∷ 2 ∷ 1 ∷ 5 ∷ []) ∷ []) ∷ of (two Pending 0 0 2 0) (wait 1 2 ∷ []) ∷ of (one Pending 1 1 1 0) (wait 1 1 ∷ [])
    ∷ of (two Pending 0 1 2 0) (wait 1 2 ∷ []) ∷ of (one Pending 0 1 0 0) (wait 1 1 ∷ []) ∷ of (two Pending 1 0 2 0) (quiet 1 2 ∷ []) ∷ of (two Pending 1 1 2 0) (quiet 1 2 ∷ marks 2 (1 ∷ 2 ∷ 1 ∷ 5 ∷ 0 ∷ 0 ∷ 0 ∷ 0 ∷ []) ∷ [])
    ∷ of (two Pending 1 1 0 0) (job1 2 0 0 2 ∷ marks 2 (1 ∷ 2 ∷ 1 ∷ 5 ∷ 0 ∷ 0 ∷ 0 ∷ 0 ∷ []) ∷ heads (1 ∷ 1 ∷ 2 ∷ 0 ∷ 0 ∷ []) ∷ [])
    ∷ of (one InProgress 2 1 1 1) (wait 1 1 ∷ []) ∷ of (two InProgress 0 2 2 0) (wait 1 2 ∷ []) ∷ of (one InProgress 1 0 0 0) (quiet 1 1 ∷ marks 1 (1 ∷ 3 ∷ 1 ∷ 0 ∷ []) ∷ [])
    ∷ of (one InProgress 0 0 1 0) (job1 1 1 0 6 ∷ marks 1 (1 ∷ 6 ∷ 5 ∷ 5 ∷ []) ∷ [])
    ∷ of (one Failed 1 1 1 0) (wait 1 1 ∷ []) ∷ of (two Failed 0 2 2 0) (wait 1 2 ∷ []) ∷ of (one Failed 0 0 1 0) (quiet 1 1 ∷ heads (1 ∷ 1 ∷ 1 ∷ 0 ∷ 0 ∷ []) ∷ [])
    ∷ of (one None 0 0 1 0) (wait 1 1 ∷ []) ∷ of (one Complete 0 0 1 0) (wait 1 1 ∷ []) ∷ of (one Aborted 0 0 1 0) (wait 1 1 ∷ []) ∷ of (one Canceled 0 0 1 0) (wait 1 1 ∷ [])
    ∷ of (late 131069) (job1 1 0 0 3 ∷ heads (1 ∷ 1 ∷ 1 ∷ 1 ∷ 131070 ∷ []) ∷ marks 1 (1 ∷ 3 ∷ 1 ∷ 131070 ∷ []) ∷ [])
    ∷ of (late 131070) (no 9 (work 1 1 1 0 0) ∷ no 9 (work 1 1 1 0 1) ∷ no 10 (work 2 1 1 0 0) ∷ job1 1 1 0 6 ∷ []) ∷ []

pub committing_hold : all committing ≡ true
unfolding all agrees begins step outcome decide differ differ_row entry_numbers state_numbers well_formed all_from all_at_most entry_ok head_ok pairs_ok values_ok plan_of rows_of overlay present after afters committing
committing_hold = refl

-- ---- job 3 on 2, whose r.index is 1: r.commit; index, target, revision and ordinal
abbrev back : Status → (index target revision ordinal : ℕ) → State
back x i g r o =
    lined (state_of (log 0 (taken ∷ entry 2 (side Complete Complete 2) (side x Failed 5) 1 ∷ entry 1 (side Pending Pending 0) untouched 0 ∷ [])) 3 (head i g r o) none)

pub undoing : List Row
undoing =
    of (back Pending 2 1 3 2) (wait 3 2 ∷ []) ∷ of (back Pending 2 2 3 2) (wait 3 2 ∷ []) ∷ of (back Pending 2 0 2 2) (wait 3 2 ∷ []) ∷ of (back Pending 2 1 1 2) (wait 3 2 ∷ [])
    ∷ of (back Pending 1 1 2 2) (quiet 3 2 ∷ marks 2 (2 ∷ 3 ∷ 3 ∷ 2 ∷ 2 ∷ 6 ∷ 5 ∷ 1 ∷ []) ∷ heads (1 ∷ 3 ∷ 1 ∷ 2 ∷ 2 ∷ []) ∷ [])
    ∷ of (back Pending 2 2 2 2) (job3 2 0 0 2 ∷ heads (2 ∷ 3 ∷ 1 ∷ 2 ∷ 2 ∷ []) ∷ [])
    ∷ of (back InProgress 2 1 3 2) (wait 3 2 ∷ []) ∷ of (back InProgress 2 0 1 2) (quiet 3 2 ∷ marks 2 (2 ∷ 3 ∷ 3 ∷ 2 ∷ 3 ∷ 6 ∷ 2 ∷ 1 ∷ []) ∷ [])
    ∷ of (back InProgress 2 1 2 131069) (job3 2 0 0 3 ∷ heads (2 ∷ 3 ∷ 1 ∷ 1 ∷ 131070 ∷ []) ∷ marks 2 (2 ∷ 3 ∷ 3 ∷ 2 ∷ 3 ∷ 6 ∷ 131070 ∷ 1 ∷ []) ∷ [])
    ∷ of (back InProgress 2 1 2 131070) (no 9 (work 1 3 2 0 0) ∷ no 10 (work 2 3 2 0 0) ∷ []) ∷ of (back InProgress 2 1 1 131070) (quiet 3 2 ∷ []) ∷ of (back InProgress 2 1 3 131070) (wait 3 2 ∷ [])
    ∷ of (back None 2 1 2 2) (wait 3 2 ∷ []) ∷ of (back Complete 2 1 2 2) (wait 3 2 ∷ []) ∷ of (back Aborted 2 1 2 2) (wait 3 2 ∷ [])
    ∷ of (back Canceled 2 1 2 2) (wait 3 2 ∷ []) ∷ of (back Failed 2 1 2 2) (wait 3 2 ∷ []) ∷ []

pub undoing_hold : all undoing ≡ true
unfolding all agrees begins step outcome decide differ differ_row entry_numbers state_numbers well_formed all_from all_at_most entry_ok head_ok pairs_ok values_ok plan_of rows_of overlay present after afters undoing
undoing_hold = refl

-- ---- job 2 on 2, whose r.index is 1 and whose ordinal is o: c.commit, c.apply; r.commit; Applied
abbrev forth : Transaction → Status → Status → ℕ → Status → Head → State
forth e c a o r h = state_of (log 0 (e ∷ entry 1 (side c a o) (side r None 0) 1 ∷ [])) 2 (head 2 2 2 2) h

-- 1 carries the first ordinal, and is not Done applying
abbrev unsettled : Transaction
unsettled = entry 1 (side Complete InProgress 1) untouched 0

pub applying : List Row
applying =
    of (lined (forth taken Complete InProgress 0 None (head 0 0 0 0))) (wait 2 2 ∷ []) ∷ of (lined (forth taken Complete InProgress 2 None (head 1 2 1 3))) (wait 2 2 ∷ [])
    ∷ of (lined (forth taken Complete InProgress 2 None (head 1 2 1 0))) (wait 2 2 ∷ []) ∷ of (lineless (forth taken Complete InProgress 2 None (head 1 2 1 0))) (wait 2 2 ∷ [])
    ∷ of (lined (forth taken None Pending 2 None (head 1 1 1 1))) (wait 2 2 ∷ []) ∷ of (lined (forth taken Pending Pending 2 None (head 1 1 1 1))) (wait 2 2 ∷ [])
    ∷ of (lined (forth taken InProgress Pending 2 None (head 1 1 1 1))) (wait 2 2 ∷ []) ∷ of (lined (forth taken Aborted Pending 2 None (head 1 1 1 1))) (wait 2 2 ∷ [])
    ∷ of (lined (forth taken Canceled Pending 2 None (head 1 1 1 1))) (wait 2 2 ∷ []) ∷ of (lined (forth taken Failed Pending 2 None (head 1 1 1 1))) (wait 2 2 ∷ [])
    ∷ of (lined (forth taken Complete Pending 2 None (head 2 1 1 1))) (job2 2 0 0 2 ∷ heads (2 ∷ 2 ∷ 2 ∷ 2 ∷ 2 ∷ 2 ∷ 2 ∷ 1 ∷ 1 ∷ []) ∷ [])
    ∷ of (lined (forth taken Complete Pending 2 None (head 0 1 1 1))) (job2 2 0 0 2 ∷ []) ∷ of (lined (forth taken Complete Pending 2 None (head 1 1 2 1))) (wait 2 2 ∷ [])
    ∷ of (lined (forth taken Complete Pending 2 None (head 1 2 1 0))) (wait 2 2 ∷ []) ∷ of (lined (forth taken Complete Pending 2 Complete (head 1 1 1 0))) (wait 2 2 ∷ [])
    ∷ of (lined (forth taken Complete Pending 2 None (head 1 1 1 0))) (wait 2 2 ∷ []) ∷ of (lined (forth taken Complete Pending 2 Complete (head 1 2 1 1))) (quiet 2 2 ∷ [])
    ∷ of (lined (forth unsettled Complete Pending 2 Complete (head 1 1 1 1))) (wait 2 2 ∷ []) ∷ of (lined (forth unsettled Complete Pending 2 None (head 1 1 1 1))) (wait 2 2 ∷ [])
    ∷ of (lined (forth unsettled Complete Pending 2 None (head 1 2 1 1))) (quiet 2 2 ∷ [])
    ∷ of (lined (forth taken Complete Pending 2 Failed (head 1 1 1 1))) (job2 2 0 0 2 ∷ [])
    ∷ of (lined (forth taken Complete None 2 None (head 1 1 1 1))) (wait 2 2 ∷ []) ∷ of (lined (forth taken Complete Complete 2 None (head 1 1 1 1))) (wait 2 2 ∷ [])
    ∷ of (lined (forth taken Complete Canceled 2 None (head 1 1 1 1))) (wait 2 2 ∷ []) ∷ of (lined (forth taken Complete Aborted 2 None (head 1 1 1 0))) (wait 2 2 ∷ [])
    ∷ of (lined (forth taken Complete Failed 2 None (head 1 1 1 0))) (wait 2 2 ∷ []) ∷ of (lined (forth taken Complete Aborted 2 None (head 1 1 1 2))) (wait 2 2 ∷ [])
    ∷ of (lined (forth taken Complete Failed 2 None (head 1 1 1 2))) (wait 2 2 ∷ []) ∷ of (lined (forth taken Complete Pending 0 None (head 1 2 1 0))) (wait 2 2 ∷ []) ∷ []

pub applying_hold : all applying ≡ true
unfolding all agrees begins step outcome decide differ differ_row entry_numbers state_numbers well_formed all_from all_at_most entry_ok head_ok pairs_ok values_ok plan_of rows_of overlay present after afters applying
applying_hold = refl

-- ---- job 4 on 2, whose r.index is 1 and whose r.ordinal is 3: c.apply; r.commit, r.apply; Applied
abbrev home : Transaction → Status → Status → Status → Head → State
home e a c r h = state_of (log 0 (e ∷ entry 2 (side Complete a 5) (side c r 3) 1 ∷ [])) 2 (head 2 1 1 3) h

-- 1 carries the second ordinal, and is not Done applying
abbrev unsure : Transaction
unsure = entry 1 (side Complete InProgress 2) untouched 0

pub returning : List Row
returning =
    of (lined (home taken Complete Complete Pending (head 2 1 2 2))) (quiet 4 2 ∷ marks 2 (2 ∷ 3 ∷ 3 ∷ 5 ∷ 3 ∷ 2 ∷ 3 ∷ 1 ∷ []) ∷ []) ∷ of (lined (home taken Failed Complete Pending (head 2 1 2 2))) (quiet 4 2 ∷ [])
    ∷ of (lined (home taken None Complete Pending (head 2 1 2 2))) (wait 4 2 ∷ []) ∷ of (lined (home taken Pending Complete Pending (head 2 1 2 2))) (wait 4 2 ∷ [])
    ∷ of (lined (home taken InProgress Complete Pending (head 2 1 2 2))) (wait 4 2 ∷ []) ∷ of (lined (home taken Canceled Complete Pending (head 2 1 2 2))) (wait 4 2 ∷ [])
    ∷ of (lined (home taken Aborted Complete Pending (head 2 1 2 2))) (job4 2 0 0 5 ∷ heads (2 ∷ 2 ∷ 1 ∷ 1 ∷ 3 ∷ 2 ∷ 1 ∷ 2 ∷ 3 ∷ []) ∷ [])
    ∷ of (lined (home taken Complete Complete Pending (head 2 2 1 2))) (job4 2 0 0 2 ∷ []) ∷ of (lined (home taken Complete Complete Pending (head 1 2 2 2))) (job4 2 0 0 2 ∷ [])
    ∷ of (lined (home taken Complete None Pending (head 2 2 2 2))) (wait 4 2 ∷ []) ∷ of (lined (home taken Complete Pending Pending (head 2 2 2 2))) (wait 4 2 ∷ [])
    ∷ of (lined (home taken Complete InProgress Pending (head 2 2 2 2))) (wait 4 2 ∷ []) ∷ of (lined (home taken Complete Aborted Pending (head 2 2 2 2))) (wait 4 2 ∷ [])
    ∷ of (lined (home taken Complete Canceled Pending (head 2 2 2 2))) (wait 4 2 ∷ []) ∷ of (lined (home taken Complete Failed Pending (head 2 2 2 2))) (wait 4 2 ∷ [])
    ∷ of (lined (home taken Complete Complete Pending (head 2 1 2 1))) (wait 4 2 ∷ []) ∷ of (lined (home taken Complete Complete Pending (head 2 2 2 0))) (wait 4 2 ∷ [])
    ∷ of (lined (home taken Aborted Complete Pending (head 2 2 2 0))) (wait 4 2 ∷ []) ∷ of (lined (home unsure Complete Complete Pending (head 2 2 2 2))) (wait 4 2 ∷ [])
    ∷ of (lined (home unsure Complete Complete Pending (head 2 1 2 2))) (quiet 4 2 ∷ []) ∷ of (lined (home unsure Aborted Complete Pending (head 2 2 2 2))) (wait 4 2 ∷ [])
    ∷ of (lined (home taken Complete Complete InProgress (head 2 1 2 0))) (wait 4 2 ∷ []) ∷ of (lineless (home taken Complete Complete InProgress (head 2 1 2 0))) (wait 4 2 ∷ no 11 (work 1 4 2 1 0) ∷ [])
    ∷ of (lined (home taken Complete Complete InProgress (head 2 1 2 5))) (wait 4 2 ∷ []) ∷ of (lineless (home taken Complete Complete InProgress (head 2 1 2 2))) (no 12 (work 1 4 2 1 0) ∷ no 10 (work 2 4 2 1 0) ∷ [])
    ∷ of (lined (home taken Complete Complete InProgress (head 2 1 2 2))) (no 13 (work 1 4 2 1 0) ∷ no 10 (work 2 4 2 1 0) ∷ job4 2 0 0 3 ∷ [])
    ∷ of (lined (home taken Complete Complete Canceled (head 2 2 2 3))) (wait 4 2 ∷ []) ∷ of (lined (home taken Complete Complete None (head 2 2 2 2))) (wait 4 2 ∷ [])
    ∷ of (lined (home taken Complete Complete Complete (head 2 2 2 2))) (wait 4 2 ∷ []) ∷ of (lined (home taken Complete Complete Aborted (head 2 2 2 2))) (wait 4 2 ∷ [])
    ∷ of (lined (home taken Complete Complete Failed (head 2 2 2 2))) (wait 4 2 ∷ []) ∷ []

pub returning_hold : all returning ≡ true
unfolding all agrees begins step outcome decide differ differ_row entry_numbers state_numbers well_formed all_from all_at_most entry_ok head_ok pairs_ok values_ok plan_of rows_of overlay present after afters returning
returning_hold = refl

-- ---- settled: 2 is next, and 1 carries the applied ordinal, or its rollback does
abbrev settles : Transaction → Head → State
settles e h = lined (forth e Complete Pending 2 None h)

abbrev applied : Status → Transaction
applied x = entry 1 (side Complete x 1) untouched 0

abbrev unapplied : Status → Transaction
unapplied x = entry 2 (side Complete Complete 7) (side Complete x 1) 0

pub settled : List Row
settled =
    of (settles (applied Complete) (head 1 1 1 1)) (job2 2 0 0 2 ∷ []) ∷ of (settles (applied Aborted) (head 1 1 1 1)) (job2 2 0 0 2 ∷ [])
    ∷ of (settles (applied Canceled) (head 1 1 1 1)) (job2 2 0 0 2 ∷ []) ∷ of (settles (applied Failed) (head 1 1 1 1)) (job2 2 0 0 2 ∷ [])
    ∷ of (settles (applied None) (head 1 1 1 1)) (wait 2 2 ∷ []) ∷ of (settles (applied Pending) (head 1 1 1 1)) (wait 2 2 ∷ []) ∷ of (settles (applied InProgress) (head 1 1 1 1)) (wait 2 2 ∷ [])
    ∷ of (settles (unapplied Pending) (head 1 1 1 1)) (wait 2 2 ∷ []) ∷ of (settles (unapplied Complete) (head 1 1 1 1)) (job2 2 0 0 2 ∷ [])
    ∷ of (lined (state_of (log 0 (unmoved ∷ entry 1 (side Complete Pending 1) untouched 0 ∷ [])) 2 (head 2 2 2 1) none)) (job2 2 0 0 2 ∷ [])
    ∷ of (lined (state_of (log 0 (taken ∷ entry 1 (side Complete Pending 2) untouched 1 ∷ applied Pending ∷ [])) 2 (head 2 2 2 2) (head 1 1 1 1))) (wait 2 2 ∷ []) ∷ []

pub settled_hold : all settled ≡ true
unfolding all agrees begins step outcome decide differ differ_row entry_numbers state_numbers well_formed all_from all_at_most entry_ok head_ok pairs_ok values_ok plan_of rows_of overlay present after afters settled
settled_hold = refl

-- ---- the line: each of what it needs is missing alone; and to reach the target
abbrev pushing : Net → State
pushing w = with_net (forth taken Complete InProgress 2 None (head 1 2 1 1)) w

pub lines : List Row
lines =
    of (pushing (wired progress.Complete 1 1 1 1 (on 1) true)) (job2 2 0 0 3 ∷ []) ∷ of (pushing (wired progress.Complete 1 1 1 1 (gone 1) true)) (no 12 (work 1 2 2 0 0) ∷ no 12 (work 1 2 2 1 0) ∷ [])
    ∷ of (pushing (wired progress.Complete 1 1 1 2 (on 1) true)) (no 12 (work 1 2 2 0 0) ∷ []) ∷ of (pushing (wired progress.Complete 1 1 1 1 (on 1) false)) (no 12 (work 1 2 2 0 0) ∷ [])
    ∷ of (pushing (wired progress.Pending 1 1 1 1 (on 1) true)) (no 12 (work 1 2 2 0 0) ∷ []) ∷ of (pushing (wired progress.InProgress 1 1 1 1 (on 1) true)) (no 12 (work 1 2 2 0 0) ∷ [])
    ∷ of (pushing (wired progress.Complete 1 1 2 1 (on 1) true)) (no 12 (work 1 2 2 0 0) ∷ []) ∷ of (pushing (wired progress.Complete 1 2 1 1 (on 1) true)) (no 10 (work 1 2 2 0 0) ∷ no 12 (work 2 2 2 0 0) ∷ [])
    ∷ of (pushing (wired progress.InProgress 0 1 1 1 (on 1) true)) (yes (sync 1) ∷ nets (3 ∷ 1 ∷ 1 ∷ []) ∷ []) ∷ of (pushing (wired progress.InProgress 0 1 1 1 (gone 1) true)) (no 12 (sync 1) ∷ [])
    ∷ of (pushing (wired progress.InProgress 0 1 1 2 (on 1) true)) (no 12 (sync 1) ∷ []) ∷ of (pushing (wired progress.InProgress 0 1 1 1 (on 1) false)) (no 12 (sync 1) ∷ [])
    ∷ of (pushing (wired progress.InProgress 0 2 1 1 (on 1) true)) (no 10 (sync 1) ∷ no 12 (sync 2) ∷ []) ∷ of (pushing (wired progress.InProgress 2 1 1 1 (on 1) true)) (no 11 (sync 1) ∷ [])
    ∷ of (pushing (wired progress.Pending 0 1 1 1 (gone 1) true)) (yes (sync 1) ∷ nets (2 ∷ 0 ∷ 1 ∷ []) ∷ []) ∷ []

pub lines_hold : all lines ≡ true
unfolding all agrees begins step outcome decide differ differ_row entry_numbers state_numbers well_formed all_from all_at_most entry_ok head_ok pairs_ok values_ok plan_of rows_of overlay present after afters lines
lines_hold = refl

-- ---- the last ids and terms, 9; before it 7, 8 and 11; and 7 before 8
abbrev wires : Net → State
wires w = with_net (logged (log 0 [])) w

abbrev powered : ℕ → Bool → State
powered k r =
    with_net (logged (log 0 []))
    (record {
      configuration = record { state = progress.Pending; term = trm 0 };
      mastership = record { master = 0; term = trm 0; conn = 0 };
      connections = replicate 8 never;
      target = record { id = k; running = r; remembers = false };
      values = absent;
    })

pub lasting : List Row
lasting =
    of (powered 4294967294 false) (yes start ∷ nets (1 ∷ 0 ∷ 0 ∷ 0 ∷ 0 ∷ 4294967295 ∷ 1 ∷ []) ∷ no 7 start ∷ []) ∷ of (powered 4294967295 false) (no 9 start ∷ no 7 stop ∷ []) ∷ of (powered 4294967295 true) (no 7 start ∷ yes stop ∷ no 9 start ∷ [])
    ∷ of (wires (wired progress.Pending 0 0 0 0 (gone 4294967294) true)) (yes (connect 1) ∷ nodes 1 (4294967295 ∷ 1 ∷ []) ∷ no 7 (connect 1) ∷ [])
    ∷ of (wires (wired progress.Pending 0 0 0 0 (gone 4294967295) true)) (no 9 (connect 1) ∷ []) ∷ of (wires (wired progress.Pending 0 0 0 0 (gone 4294967295) false)) (no 8 (connect 1) ∷ [])
    ∷ of (wires (wired progress.Pending 0 0 0 0 (on 4294967295) true)) (no 7 (connect 1) ∷ []) ∷ of (wires (wired progress.Pending 0 0 0 0 (on 4294967295) false)) (no 7 (connect 1) ∷ []) ∷ of (wires (wired progress.Pending 0 0 0 0 (on 3) false)) (no 7 (connect 1) ∷ [])
    ∷ of (wires (wired progress.Pending 0 0 4294967294 0 (on 3) true)) (yes (master 1) ∷ nets (1 ∷ 0 ∷ 1 ∷ 4294967295 ∷ 3 ∷ []) ∷ []) ∷ of (wires (wired progress.Pending 0 0 4294967295 0 (on 3) true)) (no 9 (master 1) ∷ no 11 (master 2) ∷ [])
    ∷ of (wires (wired progress.Pending 0 2 4294967295 0 (on 3) true)) (no 11 (master 1) ∷ yes (master 2) ∷ nets (1 ∷ 0 ∷ 0 ∷ 4294967295 ∷ 0 ∷ []) ∷ []) ∷ of (wires (wired progress.Pending 0 0 4294967295 0 (gone 3) true)) (no 11 (master 1) ∷ [])
    ∷ of (wires (wired progress.Pending 0 1 4294967295 3 (on 3) true)) (no 11 (master 1) ∷ []) ∷ of (wires (wired progress.Pending 0 1 4294967295 4 (on 3) true)) (yes (master 1) ∷ nets (1 ∷ 0 ∷ 0 ∷ 4294967295 ∷ 4 ∷ []) ∷ [])
    ∷ of (with_net (logged (log 0 (entry 1 (side Complete Pending 1) (side None Aborted 5) 0 ∷ []))) (wired progress.Pending 0 0 0 0 never true)) (yes (rollback 1) ∷ marks 1 (2 ∷ 3 ∷ 1 ∷ 1 ∷ 1 ∷ 1 ∷ 5 ∷ 0 ∷ []) ∷ []) ∷ []

pub lasting_hold : all lasting ≡ true
unfolding all agrees begins step outcome decide differ differ_row entry_numbers state_numbers well_formed all_from all_at_most entry_ok head_ok pairs_ok values_ok plan_of rows_of overlay present after afters lasting
lasting_hold = refl

-- ---- well-formed, 7 to stop what is stopped; or not, 1 before it
abbrev formed : State → Row
formed s = of s (no 7 stop ∷ [])

abbrev malformed : State → Row
malformed s = of s (no 1 stop ∷ no 1 (connect 0) ∷ [])

-- pairs: how many, and their paths
abbrev paired : ℕ → List ℕ → State
paired n ps = logged (log 0 (record { phase = 1; count = n; paths = ps; values = four; change = untouched; rollback = untouched; index = num 0; kept = four; owners = four } ∷ []))

-- tables of these sizes, so many nodes, this master
abbrev sized : (committed applied target nodes master : ℕ) → State
sized c a v n m =
    record {
      log = unfolded [];
      change = num 0;
      committed = record { head = none; values = replicate c 0; owners = replicate 32 0 };
      applied = record { head = none; values = replicate a 0 };
      net = record {
        configuration = record { state = progress.Pending; term = trm 0 };
        mastership = record { master = m; term = trm 0; conn = 0 };
        connections = replicate n never;
        target = record { id = 0; running = false; remembers = false };
        values = replicate v 0;
      };
    }

pub forming : List Row
forming =
    malformed (paired 0 (1 ∷ 2 ∷ 3 ∷ 4 ∷ [])) ∷ malformed (paired 5 (1 ∷ 2 ∷ 3 ∷ 4 ∷ [])) ∷ formed (paired 4 (1 ∷ 2 ∷ 3 ∷ 31 ∷ [])) ∷ formed (paired 1 (31 ∷ 40 ∷ 3 ∷ 2 ∷ []))
    ∷ formed (paired 2 (1 ∷ 2 ∷ 40 ∷ 3 ∷ [])) ∷ formed (paired 3 (1 ∷ 2 ∷ 3 ∷ 40 ∷ [])) ∷ formed (paired 3 (1 ∷ 2 ∷ 3 ∷ 2 ∷ []))
    ∷ malformed (paired 1 (32 ∷ 0 ∷ 0 ∷ 0 ∷ [])) ∷ malformed (paired 2 (1 ∷ 32 ∷ 0 ∷ 0 ∷ [])) ∷ malformed (paired 3 (1 ∷ 2 ∷ 32 ∷ 0 ∷ [])) ∷ malformed (paired 4 (1 ∷ 2 ∷ 3 ∷ 32 ∷ []))
    ∷ malformed (paired 2 (1 ∷ 1 ∷ 0 ∷ 0 ∷ [])) ∷ malformed (paired 3 (1 ∷ 2 ∷ 2 ∷ 0 ∷ [])) ∷ malformed (paired 4 (1 ∷ 2 ∷ 3 ∷ 3 ∷ []))
    ∷ malformed (logged (log 0 (entry 0 untouched untouched 0 ∷ []))) ∷ malformed (logged (log 0 (entry 3 untouched untouched 0 ∷ []))) ∷ formed (logged (log 0 (entry 2 untouched untouched 0 ∷ [])))
    ∷ malformed (logged (log 0 (unmoved ∷ entry 1 untouched untouched 2 ∷ []))) ∷ formed (logged (log 0 (unmoved ∷ entry 1 untouched untouched 1 ∷ [])))
    ∷ malformed (logged (log 0 (unmoved ∷ entry 0 untouched untouched 0 ∷ []))) ∷ malformed (logged (log 0 (unmoved ∷ unmoved ∷ entry 3 untouched untouched 0 ∷ [])))
    ∷ malformed (state_of (log 0 (unmoved ∷ unmoved ∷ [])) 1 (head 0 0 2 0) none) ∷ formed (state_of (log 0 (unmoved ∷ unmoved ∷ [])) 2 (head 2 2 2 0) (head 2 2 2 0))
    ∷ formed (state_of (log 0 (unmoved ∷ unmoved ∷ [])) 1 none (head 2 2 2 0)) ∷ malformed (state_of (log 0 (unmoved ∷ unmoved ∷ [])) 3 none none)
    ∷ formed (sized 32 32 32 8 0) ∷ malformed (sized 31 32 32 8 0) ∷ malformed (sized 33 32 32 8 0) ∷ malformed (sized 32 31 32 8 0) ∷ malformed (sized 32 33 32 8 0)
    ∷ malformed (sized 32 32 31 8 0) ∷ malformed (sized 32 32 33 8 0) ∷ malformed (sized 32 32 32 7 0) ∷ malformed (sized 32 32 32 9 0)
    ∷ formed (sized 32 32 32 8 8) ∷ malformed (sized 32 32 32 8 9) ∷ []

pub forming_hold : all forming ≡ true
unfolding all agrees begins step outcome decide differ differ_row entry_numbers state_numbers well_formed all_from all_at_most entry_ok head_ok pairs_ok values_ok plan_of rows_of overlay present after afters forming
forming_hold = refl

-- ---- a fold: at rest where nothing is committed; 1 alone, at a c.commit, is finished only if it is Failed; and 2 carries the next
-- ordinal, at a c.apply, and may wait only if it is Pending
abbrev alone : Status → State
alone x = logged (log 0 (entry 1 (side x Pending 0) untouched 0 ∷ []))

abbrev nexts : Status → State
nexts x = logged (log 0 (entry 1 (side Failed Canceled 0) untouched 0 ∷ entry 1 (side Complete x 1) untouched 0 ∷ []))

abbrev may : List Line
may = yes (fold_to 1) ∷ []

abbrev may_not : List Line
may_not = no 17 (fold_to 1) ∷ []

pub folding : List Row
folding =
    of (state_of (log 0 (taken ∷ [])) 1 (head 0 1 0 1) (head 1 1 1 1)) may_not ∷ of (state_of (log 0 (taken ∷ [])) 1 (head 0 0 0 1) (head 1 1 1 1)) may
    ∷ of (alone Failed) may ∷ of (alone None) may_not ∷ of (alone Pending) may_not ∷ of (alone InProgress) may_not ∷ of (alone Complete) may_not ∷ of (alone Aborted) may_not ∷ of (alone Canceled) may_not
    ∷ of (nexts Pending) may ∷ of (nexts None) may_not ∷ of (nexts InProgress) may_not ∷ of (nexts Complete) may_not ∷ of (nexts Aborted) may_not ∷ of (nexts Canceled) may_not ∷ of (nexts Failed) may_not ∷ []

pub folding_hold : all folding ≡ true
unfolding all agrees begins step outcome decide differ differ_row entry_numbers state_numbers well_formed all_from all_at_most entry_ok head_ok pairs_ok values_ok plan_of rows_of overlay present after afters hops base_row folding
folding_hold = refl

-- ---- stores that no session shows: a canceled rollback is closed wherever the index is; a rule of one entry's store leaves the
-- head, uncut too; the first synchronise does not write, where the applied values are not the target's
abbrev unwritten : State
unwritten =
    with_net (with_applied (logged (log 0 [])) (record { head = none; values = replicate 32 5 })) (wired progress.Pending 0 1 1 1 (on 1) true)

pub storing : List Row
storing =
    of (lined (home taken Aborted Complete Canceled (head 1 2 2 2))) (quiet 4 2 ∷ heads (2 ∷ 2 ∷ 1 ∷ 1 ∷ 3 ∷ 2 ∷ 1 ∷ 2 ∷ 3 ∷ []) ∷ [])
    ∷ of (one Pending 0 0 1 0) (yes (work 1 1 1 0 0) ∷ heads (0 ∷ 0 ∷ 1 ∷ 0 ∷ 0 ∷ []) ∷ [])
    ∷ of (back Pending 1 1 2 2) (yes (work 1 3 2 0 0) ∷ heads (1 ∷ 3 ∷ 1 ∷ 2 ∷ 2 ∷ []) ∷ [])
    ∷ of unwritten (yes (sync 1) ∷ reads 3 0 5 0 ∷ tells (sync 1) 0 0 0 32 0 ∷ reads 3 0 5 5 ∷ reads 31 0 5 5 ∷ []) ∷ []

pub storing_hold : all storing ≡ true
unfolding all agrees begins step outcome decide differ differ_row entry_numbers state_numbers well_formed all_from all_at_most entry_ok head_ok pairs_ok values_ok plan_of rows_of overlay present after afters storing
storing_hold = refl

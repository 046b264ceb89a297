-- Order 2, stated: what is left of a transaction where no job is possible, and what a night of enough jobs comes to; a night
-- is its jobs; and what a history begins with (order 6). Proved in Nights and Imports. Assumes nothing.
use Rattle.std.specs.Prelude.{ℕ, ◌≤◌, ◌<◌, List, [], ◌∷◌, ◌++◌, Bool, true, false, not, ◌&&◌, cond, ◌≡◌, refl, eqb, length}
use Rattle.kinds.specs.declared.Status.TheVariants.{None, Pending}
use Rattle.machine.specs.State.{State, entry_of, last}
use Rattle.machine.specs.Stores.{after, afters}
use Rattle.machine.specs.Rows.{overlay, rows_of}
use Rattle.machine.specs.Differ.{differ, differ_row}
use Rattle.machine.specs.WellFormed.{all_from, all_at_most, pairs_ok, entry_ok, head_ok, well_formed}
use Rattle.machine.specs.LiveList as list
use Rattle.machine.specs.Calls.{Call, append, work, values_ok, present, plan_of, decide}
use Rattle.machine.specs.Step.{outcome, step, Past, run}
use Rattle.machine.specs.Night.{Night, night}
use Rattle.machine.specs.Import.{Entry, adds, judged_from, judged, number_at, calls_up_to, import}
use Rattle.machine.specs.Why.{holds}
use Rattle.history.specs.Ops.{mem}

-- the rollback of k, at the end: none was asked; both its stages are finished (reason 1 of order 4); or it waits, k being live
-- and not the newest
pub data Rollback (s : State) (live : List ℕ) (k : ℕ) : Type 0 where
  unasked : (entry_of s.log k).rollback.commit ≡ None → (entry_of s.log k).rollback.apply ≡ None → Rollback s live k
  finished : holds s 3 k 1 ≡ true → holds s 4 k 1 ≡ true → Rollback s live k
  under : (entry_of s.log k).rollback.commit ≡ Pending → (entry_of s.log k).rollback.apply ≡ Pending → mem k live ≡ true → k < s.committed.head.revision.0
      → Rollback s live k

-- entry k, at the end: its commit and its apply are finished
pub record Ended (s : State) (live : List ℕ) (k : ℕ) : Type 0 where
  pub commit : holds s 1 k 1 ≡ true
  pub apply : holds s 2 k 1 ≡ true
  pub rollback : Rollback s live k

-- ---- a night w of a node that the line is open for, of enough jobs: it stops with 0, no job of any node is possible, with any
-- outcome and cut, and each transaction kept has ended
pub record Slept (w : Night) : Type 0 where
  pub stopped : w.stopped ≡ 0
  pub none : (m j i r c : ℕ) → (step w.next (work m j i r c)).reply.answer ≡ 0 → ⊥
  pub ended : (k : ℕ) → w.next.log.folded.0 < k → k ≤ last w.next.log → Ended w.next (list.live w.next) k

-- ---- a night is the jobs that it does, made after the calls cs from fresh
pub record IsJobs (m : Bool) (w : Night) (cs : List Call) : Type 0 where
  pub jobs : w.jobs ≡ length w.calls
  pub next : w.next ≡ (run m (w.calls ++ cs)).state
  pub events : w.events ++ (run m cs).events ≡ (run m (w.calls ++ cs)).events

-- ---- what a history begins with: a fresh controller, whose switch remembers or not (order 13), or an import in its place (order
-- 6), whose switch forgets; and the calls that it stands for
pub data Start : Type 0 where
  freshly : (remembers : Bool) → Start
  imports : List Entry → Start

abbrev pub start_kind : Start → Bool
start_kind (freshly m) = m
start_kind (imports es) = false

abbrev pub start_calls : Start → List Call
start_calls (freshly m) = []
start_calls (imports es) = (import es).calls

-- ---- histories of calls and nights behind it: the state after them, and the events given, the newest first
pub data Act : Type 0 where
  call : Call → Act
  nightly : (node budget : ℕ) → List ℕ → Act

unfoldable pub acted : Start → List Act → Past
acted b [] = run (start_kind b) (start_calls b)
acted b (call c ∷ xs) = let o = step (acted b xs).state c in record { state = o.next; events = o.reply.event ∷ (acted b xs).events }
acted b (nightly n m os ∷ xs) = let o = night (acted b xs).state n m os in record { state = o.next; events = o.events ++ (acted b xs).events }

-- the calls that they come to
unfoldable pub calls_in : Start → List Act → List Call
calls_in b [] = start_calls b
calls_in b (call c ∷ xs) = c ∷ calls_in b xs
calls_in b (nightly n m os ∷ xs) = (night (acted b xs).state n m os).calls ++ calls_in b xs

-- by computing: an append behind an import of one change is of number 2, the first is committed, and the six calls of the import
-- and their events are there; behind a fresh start it is of number 1 and alone. The switch is of the kind that it began as
abbrev appends : List Act
appends = call (append (record { path = 3; value = 9 } ∷ [])) ∷ []

abbrev one : Start
one = imports (adds (record { path = 3; value = 7 } ∷ []) ∷ [])

abbrev shows : Start → (number revision calls : ℕ) → Bool → Type 0
shows b n r c m =
    let p = acted b appends in
    ((eqb (last p.state.log) n && eqb p.state.committed.head.revision.0 r)
    && ((eqb (length p.events) c && eqb (length (calls_in b appends)) c) && cond p.state.net.target.remembers m (not m))) ≡ true

pub starts_hold : shows one 2 1 7 false × shows (freshly false) 1 0 1 false × shows (freshly true) 1 0 1 true
unfolding acted calls_in import judged judged_from number_at calls_up_to run step outcome decide differ differ_row plan_of afters after overlay rows_of all_from all_at_most pairs_ok entry_ok head_ok well_formed values_ok present
starts_hold = (refl, refl, refl)

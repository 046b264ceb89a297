-- The changes given: the entry of every append that was accepted, in order, whatever was folded away since; and demand 3's
-- values said of them alone, by the calls and the events. Proved in ByGiven. Assumes nothing.
use Rattle.std.specs.Prelude.{ℕ, ◌<◌, List, [], ◌∷◌, ◌++◌, Bool, cond, ◌≡◌, eqb, length, get_or}
use Rattle.kinds.specs.declared.Transaction.{Transaction}
use Rattle.machine.specs.State.{unfolded}
use Rattle.machine.specs.Calls.{Call, append, rollback, start, stop, connect, disconnect, master, sync, work, fold_to, appended}
use Rattle.machine.specs.Step.{step, run}
use Rattle.history.specs.Demand3.{live, highest}

-- ---- what a call that was answered gave
abbrev pub given_by : Call → (answer : ℕ) → List Transaction
given_by (append ps) a = cond (eqb a 0) (appended ps ∷ []) []
given_by (rollback i) a = []
given_by start a = []
given_by stop a = []
given_by (connect n) a = []
given_by (disconnect n) a = []
given_by (master n) a = []
given_by (sync n) a = []
given_by (work n j i r c) a = []
given_by (fold_to b) a = []

unfoldable pub given : Bool → List Call → List Transaction
given m [] = []
given m (c ∷ cs) = given m cs ++ given_by c (step (run m cs).state c).reply.answer

pub record ByGiven (m : Bool) (cs : List Call) : Type 0 where
  -- the committed value of every path is that of the highest-numbered change ever given and setting it whose commit Complete
  -- event has been given and whose rollback commit Complete event has not, or absent
  pub committed : (p : ℕ) → p < 32 → get_or (run m cs).state.committed.values p 0 ≡ highest (unfolded (given m cs)) (live (run m cs).events 1) (length (given m cs)) p
  -- the same, with apply
  pub applied : (p : ℕ) → p < 32 → get_or (run m cs).state.applied.values p 0 ≡ highest (unfolded (given m cs)) (live (run m cs).events 2) (length (given m cs)) p

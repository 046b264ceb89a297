-- WHY A JOB WON'T MOVE, on bytes (order 4; of states: machine's Why and history's Explained). No proof in it; proved in
-- Explained. Assumes nothing.
use Rattle.std.specs.Prelude.{ℕ, ◌≤◌, ◌≡◌, List}
use Rattle.kinds.specs.declared.Reply.{Reply}
use Rattle.kinds.specs.declared.Event.{Event}
use Rattle.machine.specs.Calls.{work}
use Rattle.machine.specs.Why.{asks}
use Rattle.image.specs.View.{view}
use Rattle.controller.specs.declared.reasons.Why.{Why}
use Rattle.controller.specs.Claims.{Claims}
use Rattle.history.specs.Explained.{Given, Names}

-- any bytes and any numbers: `why` was asked of l and answered w
pub record Asked (l : List ℕ) (n j i : ℕ) (w : Why) : Type 0 where
  -- a reason is given exactly where the job answers 11, whatever its outcome and cut; the job's refusals 1, 2, 5, 18 and 10 are
  -- this call's too, and where the job answers anything else it is 15
  pub answer : (o c : ℕ) (r : Reply) (m : List ℕ) → o ≤ 1 → c ≤ 2 → Claims l (work n j i o c) r m → w.answer ≡ asks r.answer
  -- refused, it tells no reason
  pub refused : (w.answer ≡ 0 → ⊥) → (w.reason ≡ 0) × (w.named ≡ 0)

-- the image m, reached from fresh with the events es, newest first: the reason given for number i to job j
pub record Explained (es : List Event) (m : List ℕ) (j i : ℕ) (w : Why) : Type 0 where
  -- it is true of the state, and every one before it, of those that the job uses, is false
  pub given : Given (view m) j i w.reason
  -- and never the eighth
  pub fits : w.reason ≡ 8 → ⊥
  -- what it names is so
  pub names : Names (view m) es j i w.reason w.named

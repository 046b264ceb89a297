-- Calls made one after another, the newest first: on an image, as the contracts of the public calls claim; and by the
-- machine, from any state. Assumes nothing.
use Rattle.std.specs.Prelude.{ℕ, List, [], ◌∷◌}
use Rattle.kinds.specs.declared.Reply.{Reply}
use Rattle.machine.specs.State.{State}
use Rattle.machine.specs.Calls.{Call}
use Rattle.machine.specs.Step.{step, state_from}
use Rattle.controller.specs.Claims.{Claims}

-- the calls cs on the image l were replied with rs, and left m
pub data Calling (l : List ℕ) : List Call → List Reply → List ℕ → Type 0 where
  none : Calling l [] [] l
  next : {cs : List Call} {rs : List Reply} {k : List ℕ} → Calling l cs rs k → (c : Call) (r : Reply) (m : List ℕ) → Claims k c r m
      → Calling l (c ∷ cs) (r ∷ rs) m

-- the machine's replies to them
unfoldable pub replies_from : State → List Call → List Reply
replies_from s [] = []
replies_from s (c ∷ cs) = (step (state_from s cs) c).reply ∷ replies_from s cs

-- One call: refusal 1 first, then what is decided, and its stores made. And any calls from fresh of either kind. Assumes nothing.
use Rattle.std.specs.Prelude.{List, [], ◌∷◌, Bool}
use Rattle.kinds.specs.declared.Reply.{Reply}
use Rattle.kinds.specs.declared.Event.{Event}
use Rattle.machine.specs.State.{State, fresh}
use Rattle.machine.specs.Stores.{afters}
use Rattle.machine.specs.WellFormed.{well_formed}
use Rattle.machine.specs.Calls.{Call, Outcome, unless, decide}

unfoldable pub outcome : State → Call → Outcome
outcome s c = unless 1 (well_formed s) (decide s c)

pub record Stepped : Type 0 where
  pub reply : Reply
  pub next : State

unfoldable pub step : State → Call → Stepped
step s c = let o = outcome s c in record { reply = o.reply; next = afters s o.stores }

-- the state after calls made from fresh, its target remembering or not, and the events given, the newest call first
pub record Past : Type 0 where
  pub state : State
  pub events : List Event

unfoldable pub run : Bool → List Call → Past
run m [] = record { state = fresh m; events = [] }
run m (c ∷ cs) = let o = step (run m cs).state c in record { state = o.next; events = o.reply.event ∷ (run m cs).events }

-- the state after calls made from any state, and the events that they give, the newest first
unfoldable pub state_from : State → List Call → State
state_from s [] = s
state_from s (c ∷ cs) = (step (state_from s cs) c).next

unfoldable pub events_from : State → List Call → List Event
events_from s [] = []
events_from s (c ∷ cs) = (step (state_from s cs) c).reply.event ∷ events_from s cs

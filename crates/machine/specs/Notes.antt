-- What a call did to the switch where its events do not show it: an accepted push, cut at its first store or not, and a
-- synchronise that wrote (order 8). Assumes nothing.
use Rattle.std.specs.Prelude.{ℕ, Bool, true, false, cond, List, [], ◌∷◌, eqb}
use Rattle.kinds.specs.declared.Progress.{Progress}
use Rattle.kinds.specs.declared.Progress.TheVariants.{Pending, InProgress, Complete}
use Rattle.rules.specs.Plans.{is_push}
use Rattle.machine.specs.State.{State}
use Rattle.machine.specs.Calls.{Call, append, rollback, start, stop, connect, disconnect, master, sync, work, fold_to, plan_of}
use Rattle.machine.specs.Step.{step, run}

pub data Note : Type 0 where
  nothing wrote : Note
  half full : (number : ℕ) → Note  -- a push cut at its first store, and one not so cut

-- a plan is a push; the call is cut at its first store
abbrev pub push_note : Bool → Bool → ℕ → Note
push_note false first i = nothing
push_note true true i = half i
push_note true false i = full i

-- a synchronise that found the configuration InProgress wrote
abbrev pub sync_note : Progress → Note
sync_note Pending = nothing
sync_note InProgress = wrote
sync_note Complete = nothing

-- of a call that is accepted
abbrev pub note_of : State → Call → Note
note_of s (append ps) = nothing
note_of s (rollback i) = nothing
note_of s start = nothing
note_of s stop = nothing
note_of s (connect n) = nothing
note_of s (disconnect n) = nothing
note_of s (master n) = nothing
note_of s (sync n) = sync_note s.net.configuration.state
note_of s (work n j i r c) = push_note (is_push (plan_of s n j i (eqb r 0)).order) (eqb c 1) i
note_of s (fold_to b) = nothing

abbrev pub note : State → Call → Note
note s c = cond (eqb (step s c).reply.answer 0) (note_of s c) nothing

-- of calls made from fresh, the newest call first
unfoldable pub notes : Bool → List Call → List Note
notes m [] = []
notes m (c ∷ cs) = note (run m cs).state c ∷ notes m cs

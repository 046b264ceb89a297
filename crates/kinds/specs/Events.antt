-- Events and replies: what is shown with an answer (paper: The four jobs, Program and host). Assumes nothing.
use Rattle.std.specs.Prelude.{ℕ}
use Rattle.kinds.specs.declared.Event.{Event}
use Rattle.kinds.specs.declared.Reply.{Reply}
use Rattle.kinds.specs.declared.Number.{Number}
use Rattle.kinds.specs.declared.Status.{Status}
use Rattle.kinds.specs.declared.Status.TheVariants.{None}
use Rattle.kinds.specs.Numbers.{num}

-- zeros if none
abbrev pub no_event : Event
no_event = record { phase = 0; stage = 0; number = num 0; status = None }

-- phase 1 Change, 2 Rollback; stage 1 Commit, 2 Apply
abbrev pub event : ℕ → ℕ → Number → Status → Event
event p g i s = record { phase = p; stage = g; number = i; status = s }

-- an accepted append shows its number, a synchronise how many paths it wrote (order 13)
abbrev pub numbered : ℕ → Event
numbered n = event 0 0 (num n) None

-- an answer with no event: every refusal, and each call that is accepted with none
abbrev pub refusal : ℕ → Reply
refusal a = record { answer = a; event = no_event }

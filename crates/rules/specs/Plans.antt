-- A plan is what a rule of a job decides: the answer, the event, and which of its stores come, in which order
-- (paper: The four jobs). What a store lays over values is said here too; the cut is applied where a plan becomes rows
-- of stores (crate machine, Rows). Assumes nothing.
use Rattle.std.specs.Prelude.{ℕ, Bool, true, false}
use Rattle.kinds.specs.declared.Transaction.{Transaction}
use Rattle.kinds.specs.declared.Head.{Head}
use Rattle.kinds.specs.declared.Event.{Event}
use Rattle.kinds.specs.Events.{no_event}
use Rattle.rules.specs.declared.Plan.{Plan}
use Rattle.rules.specs.declared.Lay.{Lay}
use Rattle.rules.specs.declared.Lay.TheVariants.{Nothing}
use Rattle.rules.specs.declared.Order.{Order}
use Rattle.rules.specs.declared.Order.TheVariants.{Neither, EntryOnly, HeadOnly, EntryThenHead, HeadThenEntry, TargetThenHeadThenEntry}

-- a refusal stores nothing
abbrev pub refuse : ℕ → Transaction → Head → Plan
refuse a t h = record { answer = a; event = no_event; order = Neither; entry = t; head = h; change = false; lay = Nothing }

-- a rule of one store has no event
abbrev pub entry_only : Transaction → Head → Plan
entry_only t h = record { answer = 0; event = no_event; order = EntryOnly; entry = t; head = h; change = false; lay = Nothing }

-- `change`: whether Committed's change becomes the job's number together with the head
abbrev pub head_only : Transaction → Head → Bool → Plan
head_only t h c = record { answer = 0; event = no_event; order = HeadOnly; entry = t; head = h; change = c; lay = Nothing }

-- two stores joined by "then": the event comes with the first
abbrev pub head_then_entry : Event → Head → Bool → Lay → Transaction → Plan
head_then_entry e h c v t = record { answer = 0; event = e; order = HeadThenEntry; entry = t; head = h; change = c; lay = v }

abbrev pub entry_then_head : Event → Transaction → Head → Bool → Plan
entry_then_head e t h c = record { answer = 0; event = e; order = EntryThenHead; entry = t; head = h; change = c; lay = Nothing }

-- an accepted push: target, then applied with the event, then status (order 8)
abbrev pub three_stores : Event → Head → Lay → Transaction → Plan
three_stores e h v t = record { answer = 0; event = e; order = TargetThenHeadThenEntry; entry = t; head = h; change = false; lay = v }

abbrev pub is_push : Order → Bool
is_push Neither = false
is_push EntryOnly = false
is_push HeadOnly = false
is_push EntryThenHead = false
is_push HeadThenEntry = false
is_push TargetThenHeadThenEntry = true

-- `event_of` meets its contract. Assumes nothing.
use mathlib.Core.Path.{refl}
use Rattle.rules.specs.declared.Order.TheVariants.{Neither, EntryOnly, HeadOnly, EntryThenHead, HeadThenEntry, TargetThenHeadThenEntry}
use Rattle.controller.proofs.Performed.{event_is}
use Rattle.controller.proofs.perform.event_of.Goals as goal

pub returns-in-Neither : goal.returns-in-Neither
returns-in-Neither c = event_is _ Neither _ _ c.in-Neither.is refl

pub returns-in-EntryOnly : goal.returns-in-EntryOnly
returns-in-EntryOnly c = event_is _ EntryOnly _ _ c.in-EntryOnly.is refl

pub returns-in-HeadOnly : goal.returns-in-HeadOnly
returns-in-HeadOnly c = event_is _ HeadOnly _ _ c.in-HeadOnly.is refl

pub returns-in-EntryThenHead : goal.returns-in-EntryThenHead
returns-in-EntryThenHead c = event_is _ EntryThenHead _ _ c.in-EntryThenHead.is refl

pub returns-in-HeadThenEntry : goal.returns-in-HeadThenEntry
returns-in-HeadThenEntry c = event_is _ HeadThenEntry _ _ c.in-HeadThenEntry.is refl

pub returns-else-first : goal.returns-else-first
returns-else-first c = event_is _ TargetThenHeadThenEntry _ _ c.in-TargetThenHeadThenEntry.is c.if-first.false

-- `comes_by` meets its contract. Assumes nothing.
use Rattle.controller.proofs.Performed.{comes_are}
use Rattle.controller.proofs.perform.comes_by.Goals as goal

pub returns-in-Neither : goal.returns-in-Neither
returns-in-Neither c = comes_are _ _ _ _ _ c.in-Neither.is c.at.ensures

pub returns-in-EntryOnly : goal.returns-in-EntryOnly
returns-in-EntryOnly c = comes_are _ _ _ _ _ c.in-EntryOnly.is c.at-in-EntryOnly.ensures

pub returns-in-HeadOnly : goal.returns-in-HeadOnly
returns-in-HeadOnly c = comes_are _ _ _ _ _ c.in-HeadOnly.is c.at-in-HeadOnly.ensures

pub returns-in-EntryThenHead : goal.returns-in-EntryThenHead
returns-in-EntryThenHead c = comes_are _ _ _ _ _ c.in-EntryThenHead.is c.at-in-EntryThenHead.ensures

pub returns-in-HeadThenEntry : goal.returns-in-HeadThenEntry
returns-in-HeadThenEntry c = comes_are _ _ _ _ _ c.in-HeadThenEntry.is c.at-in-HeadThenEntry.ensures

pub returns-in-TargetThenHeadThenEntry : goal.returns-in-TargetThenHeadThenEntry
returns-in-TargetThenHeadThenEntry c = comes_are _ _ _ _ _ c.in-TargetThenHeadThenEntry.is c.at-in-TargetThenHeadThenEntry.ensures

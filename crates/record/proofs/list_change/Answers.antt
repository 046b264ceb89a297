-- `list_change` lists a number where its change is held. Assumes nothing.
use Rattle.record.proofs.Reported.{entry_here, held_put}
use Rattle.lines.proofs.Recorded.{put_none}
use mathlib.Core.Bool.{true, false}
use Rattle.record.proofs.list_change.Goals as goal

pub load_entry-requires : goal.load_entry-requires
load_entry-requires c = entry_here c.requires.0

pub returns-then-held : goal.returns-then-held
returns-then-held c = held_put c.requires.0 c.load_entry.result c.held.result c.load_entry.ensures c.held.ensures true c.if-held.true _ c.list_number.ensures

pub returns : goal.returns
returns c = held_put c.requires.0 c.load_entry.result c.held.result c.load_entry.ensures c.held.ensures false c.if-held.false _ (put_none _ _)

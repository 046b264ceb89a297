-- `write_change` writes what it loads, which is what the image shows. Assumes nothing.
use Rattle.record.proofs.Reported.{entry_here, class_here, this_low, change_put}
use Rattle.record.proofs.write_change.Goals as goal

pub load_entry-t-requires : goal.load_entry-t-requires
load_entry-t-requires c = entry_here c.requires.0

pub load_class-class-requires : goal.load_class-class-requires
load_class-class-requires c = class_here c.requires.0

pub write_entry-requires : goal.write_entry-requires
write_entry-requires c = (this_low c.requires.0 _ c.load_entry-t.ensures, c.requires.1)

pub returns : goal.returns
returns c = change_put c.requires.0 c.load_entry-t.result c.load_class-class.result c.from-took.result c.from-undone.result c.side_landed.result c.side_landed-2.result c.load_entry-t.ensures c.load_class-class.ensures c.side_landed.ensures c.from-took.ensures c.side_landed-2.ensures c.from-undone.ensures c.write_entry.ensures

-- `list` meets its contract. Assumes nothing.
use Prim.Native.Nat.{ℕ}
use lib.ListN.{length-replicate}
use Rattle.image.specs.Layout.{slots}
use Rattle.controller.proofs.Walked.{revision_chained, begins, table_size_holds, fits_table, fits_room, listed, not_listed}
use mathlib.Core.Path.{refl}
use Rattle.controller.proofs.walking.list.Goals as goal

pub links-requires : goal.links-requires
links-requires c = (revision_chained _ c.requires _ _ _ c.load_head-h.ensures c.get-v.ensures c.last_fold-b.ensures, length-replicate {A = ℕ} slots 0)

pub walk-n-requires : goal.walk-n-requires
walk-n-requires c = begins _ c.requires _ _ _ c.load_head-h.ensures c.get-v.ensures c.last_fold-b.ensures _ c.links.ensures

pub put_list-requires : goal.put_list-requires
put_list-requires c = (table_size_holds _ c.requires _ _ _ c.load_head-h.ensures c.get-v.ensures c.last_fold-b.ensures c.args.room.now _ _ _ c.links.ensures c.walk-n.ensures, (fits_table _ c.requires _ _ _ c.load_head-h.ensures c.get-v.ensures c.last_fold-b.ensures c.args.room.now _ _ _ c.links.ensures c.walk-n.ensures, fits_room _ c.requires _ _ _ c.load_head-h.ensures c.get-v.ensures c.last_fold-b.ensures c.args.room.now _ _ _ c.links.ensures c.walk-n.ensures c.if-n-room.true))

pub returns-then-n-room : goal.returns-then-n-room
returns-then-n-room c = listed _ c.requires _ _ _ c.load_head-h.ensures c.get-v.ensures c.last_fold-b.ensures c.args.room.now _ _ _ c.links.ensures c.walk-n.ensures _ _ c.if-n-room.true c.put_list.ensures refl

pub returns : goal.returns
returns c = not_listed _ c.requires _ _ _ c.load_head-h.ensures c.get-v.ensures c.last_fold-b.ensures c.args.room.now _ _ _ c.links.ensures c.walk-n.ensures _ c.if-n-room.false refl

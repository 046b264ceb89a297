-- `all_settled` meets its contract. Assumes nothing.
use Rattle.image.proofs.Scanned.{formed_size}
use Rattle.image.proofs.Carried.{scan_room, settled_kept}
use Rattle.image.proofs.settled.all_settled.Goals as goal

pub last_number-n-requires : goal.last_number-n-requires
last_number-n-requires c = formed_size _ c.requires

pub last_fold-b-requires : goal.last_fold-b-requires
last_fold-b-requires c = formed_size _ c.requires

pub entries_settled-requires : goal.entries_settled-requires
entries_settled-requires c = scan_room _ _ _ c.requires c.last_fold-b.ensures c.last_number-n.ensures

pub returns : goal.returns
returns c = settled_kept _ _ _ _ _ c.last_fold-b.ensures c.last_number-n.ensures c.entries_settled.ensures

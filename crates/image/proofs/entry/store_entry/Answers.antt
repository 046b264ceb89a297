-- `store_entry` meets its contract. Assumes nothing.
use Rattle.image.proofs.Chain.{stored}
use Rattle.image.proofs.entry.store_entry.Goals as goal

pub returns : goal.returns
returns c = stored _ _ _ _ _ _ _ _ _ c.place_of-at.ensures _ c.store_codes.ensures c.store_marks.ensures c.put_four.ensures c.put_four-2.ensures c.put_four-3.ensures c.put_four-4.ensures

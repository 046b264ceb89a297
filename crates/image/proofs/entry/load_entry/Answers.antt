-- `load_entry` meets its contract. Assumes nothing.
use native.Mathlib.Omega.{arith}
use Rattle.image.proofs.Chain.{loaded}
use Rattle.image.proofs.entry.load_entry.Goals as goal

pub get_four-owners-requires : goal.get_four-owners-requires
get_four-owners-requires c = omega (arith, c.place_of-at.ensures, c.requires.1)

pub returns : goal.returns
returns c = loaded _ _ _ c.place_of-at.ensures _ _ _ _ _ _ _ _ _ _ _ _ _ c.get-statuses.ensures c.change_in.ensures c.load_side-change.ensures c.rollback_in.ensures c.load_side-rollback.ensures c.get-phase.ensures c.get-count.ensures c.get.ensures c.of-index.ensures c.get_four-paths.ensures c.get_four-values.ensures c.get_four-kept.ensures c.get_four-owners.ensures

-- `load_class` meets its contract. Assumes nothing.
use Rattle.image.proofs.Classed.{in_table, class_loaded}
use Rattle.image.proofs.classes.load_class.Goals as goal

pub class_of-requires : goal.class_of-requires
class_of-requires c = in_table _ _ _ _ c.place_of-at.ensures c.get.ensures c.requires.1.1

pub returns : goal.returns
returns c = class_loaded _ _ _ _ c.place_of-at.ensures c.get.ensures _ c.class_of.ensures

-- `makowist_import` meets its contract. Assumes nothing.
use Rattle.northbound.proofs.Packed.{imports}
use Rattle.northbound.proofs.makowist_import.Goals as goal

pub returns : goal.returns
returns c = imports _ _ _ _ _ c.import.ensures c.pack_import.ensures

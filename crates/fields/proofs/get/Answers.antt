-- `get` meets its contract. Assumes nothing.
use Rattle.fields.proofs.Parts.{read_done}
use Rattle.fields.proofs.get.Goals as goal

pub returns : goal.returns
returns g c = read_done _ _ _ _ _ c.WIDTH.ensures c.of_bytes.ensures

-- `put` meets its contract. Assumes nothing.
use Rattle.fields.proofs.Parts.{put_done}
use Rattle.fields.proofs.put.Goals as goal

pub returns : goal.returns
returns g c = put_done _ _ _ _ _ _ c.WIDTH.ensures c.requires c.put_bytes.ensures

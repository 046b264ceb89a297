-- `store_target` meets its contract. Assumes nothing.
use Rattle.fields.specs.Field.{put_fields}
use Rattle.image.specs.Records.{put_target}
use Rattle.image.proofs.nodes.store_target.Goals as goal

pub returns : goal.returns
unfolding put_target put_fields
returns c = cc

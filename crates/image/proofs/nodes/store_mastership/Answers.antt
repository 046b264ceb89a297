-- `store_mastership` meets its contract. Assumes nothing.
use Rattle.fields.specs.Field.{put_fields}
use Rattle.image.specs.Records.{put_mastership}
use Rattle.image.proofs.nodes.store_mastership.Goals as goal

pub returns : goal.returns
unfolding put_mastership put_fields
returns c = cc

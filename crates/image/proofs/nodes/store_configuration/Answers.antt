-- `store_configuration` meets its contract. Assumes nothing.
use Rattle.fields.specs.Field.{put_fields}
use Rattle.image.specs.Records.{put_configuration}
use Rattle.image.proofs.nodes.store_configuration.Goals as goal

pub returns : goal.returns
unfolding put_configuration put_fields
returns c = cc

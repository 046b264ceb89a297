-- `store_node` meets its contract. Assumes nothing.
use Rattle.fields.specs.Field.{put_fields}
use Rattle.image.specs.Records.{put_node_at}
use Rattle.image.proofs.nodes.store_node.Goals as goal

pub returns : goal.returns
unfolding put_node_at put_fields
returns c = cc

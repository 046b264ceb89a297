-- `load_target` meets its contract. Assumes nothing.
use Rattle.fields.specs.Field.{fields_at}
use Rattle.image.specs.Records.{target_of}
use Rattle.image.proofs.nodes.load_target.Goals as goal

pub returns : goal.returns
unfolding target_of fields_at
returns c = cc

-- `load_mastership` meets its contract. Assumes nothing.
use Rattle.fields.specs.Field.{fields_at}
use Rattle.image.specs.Records.{mastership_of}
use Rattle.image.proofs.nodes.load_mastership.Goals as goal

pub returns : goal.returns
unfolding mastership_of fields_at
returns c = cc

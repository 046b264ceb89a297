-- `load_configuration` meets its contract. Assumes nothing.
use Rattle.fields.specs.Field.{fields_at}
use Rattle.image.specs.Records.{configuration_of}
use Rattle.image.proofs.nodes.load_configuration.Goals as goal

pub returns : goal.returns
unfolding configuration_of fields_at
returns c = cc

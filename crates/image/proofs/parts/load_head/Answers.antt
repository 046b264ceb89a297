-- `load_head` meets its contract. Assumes nothing.
use native.Mathlib.Nat.{add_assoc}
use Rattle.fields.specs.Field.{fields_at}
use Rattle.image.specs.Records.{head_at}
use Rattle.image.proofs.parts.load_head.Goals as goal

pub returns : goal.returns
unfolding head_at fields_at
returns c = simp add_assoc cc

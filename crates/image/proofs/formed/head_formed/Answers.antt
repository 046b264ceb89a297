-- `head_formed` meets its contract. Assumes nothing.
use native.Mathlib.Nat.{add_assoc}
use Rattle.fields.specs.Field.{fields_at}
use Rattle.image.specs.Records.{head_at}
use Rattle.machine.specs.WellFormed.{head_ok}
use Rattle.image.proofs.formed.head_formed.Goals as goal

pub returns : goal.returns
unfolding head_ok head_at fields_at
returns c = simp (c.get-i.ensures, c.get-t.ensures, c.get-v.ensures, c.get-o.ensures, add_assoc)

-- `store_marks` meets its contract. Assumes nothing.
use native.Mathlib.Nat.{add_assoc}
use Rattle.fields.specs.Field.{put_fields}
use Rattle.image.proofs.entry.store_marks.Goals as goal

pub returns : goal.returns
unfolding put_fields
returns c = simp add_assoc cc

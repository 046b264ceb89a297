-- `store_head` meets its contract. Assumes nothing.
use native.Mathlib.Nat.{add_assoc}
use Rattle.fields.specs.Field.{put_fields}
use Rattle.image.specs.Records.{put_head_at}
use Rattle.image.proofs.parts.store_head.Goals as goal

pub returns : goal.returns
unfolding put_head_at put_fields
returns c = simp add_assoc cc

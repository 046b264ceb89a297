-- `of_bytes` meets its contract. Assumes nothing.
use native.Mathlib.Omega.{arith}
use Rattle.fields.specs.Field.{field}
use Rattle.fields.proofs.U8Field.of_bytes.Goals as goal

pub returns : goal.returns
unfolding field
returns c = omega arith

-- `put_bytes` meets its contract. Each byte goes by numbers: what is written otherwise and is the same is proved. Assumes nothing.
use mathlib.Core.Path.{◌∙◌}
use native.Mathlib.Omega.{arith}
use Rattle.fields.proofs.Parts.{four_bytes}
use Rattle.fields.proofs.U32Field.put_bytes.Goals as goal

pub returns : goal.returns
returns c =
    c.copy_from_slice.ensures.after ∙ c.to_le_bytes.ensures
    ∙ four_bytes _ _ _ _ _ _ c.requires (omega arith) (omega arith) (omega arith) (omega arith)

-- `get_four` meets its contract. Assumes nothing.
use mathlib.Core.Path.{◌∙◌}
use native.Mathlib.Omega.{arith}
use Rattle.fields.proofs.Parts.{four_read}
use Rattle.fields.proofs.get_four.Goals as goal

pub returns : goal.returns
returns g c =
    g.met.T.Field.each _
    ∙ four_read _ _ _ _ c.WIDTH-width.ensures _ _ _ _ _ _ _ c.get.ensures c.get-2.ensures c.get-3.ensures c.get-4.ensures (omega arith) (omega arith) (omega arith)

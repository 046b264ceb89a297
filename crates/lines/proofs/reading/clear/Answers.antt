-- `clear` writes a part whole. Assumes nothing.
use native.Mathlib.Omega.{arith}
use Rattle.lines.proofs.Rooms.{cleared}
use Rattle.lines.proofs.reading.clear.Goals as goal

pub returns : goal.returns
returns c = cleared _ _ _ _ (omega (arith, c.told-room, c.requires)) (c.fill.ensures.after (λ y e. e))

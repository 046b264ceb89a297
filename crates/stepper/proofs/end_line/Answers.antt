-- `end_line`: the answer's line is put behind the answers that wait. Assumes nothing.
use Prim.Native.Nat.{◌≤◌}
use native.Mathlib.Omega.{arith}
use Rattle.stepper.proofs.Waiting.{ended}
use Rattle.lines.proofs.Readable.{within}
use borrow.Author.Rules.{rules}
use Rattle.stepper.proofs.end_line.Goals as goal

pub ask-a-requires : goal.ask-a-requires
ask-a-requires c = let h : c.finish-line.result.length ≤ 5140 = rw c.finish-line.ensures.0
    (within c.args.s.line c.args.room.now) in omega arith

pub returns : goal.returns
returns c = (
  ended _ _ _ c.finish-line.result _ _ _ _ _ _ _ _
      c.finish-line.ensures.0
      c.finish-line.ensures.1
      c.ask-a.ensures (search rules)
      c.write-n.ensures,
  c.finish-line.ensures.1,
)

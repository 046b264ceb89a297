-- `entries_formed` meets its contract. Assumes nothing.
use native.Mathlib.Omega.{arith}
use Rattle.image.proofs.UpTo.{two_runs, first_falls}
use Rattle.image.proofs.formed.entries_formed.Goals as goal

pub returns-then-run_formed : goal.returns-then-run_formed
returns-then-run_formed c = two_runs _ _ _ _ _ _ c.run_formed-2.ensures c.if-run_formed.true c.run_formed-then-run_formed.ensures (omega arith) (omega (arith, c.if-n-end.false))

pub returns : goal.returns
returns c = first_falls _ _ _ _ _ c.run_formed-2.ensures c.if-run_formed.false (omega arith) (omega (arith, c.if-n-end.false))

-- `judge` meets its contract. Assumes nothing.
use mathlib.Core.Path.{refl}
use native.Mathlib.Omega.{arith}
use Rattle.controller.proofs.Importing.{judging_none, judging_more, judging_stop, judging_all}
use Rattle.controller.proofs.imports.judge.Goals as goal

pub loop-k-init : goal.loop-k-init
loop-k-init c = judging_none _ _ refl

pub returns-then-v-gt0 : goal.returns-then-v-gt0
returns-then-v-gt0 c = judging_stop _ _ _ _ _ c.loop-k.invariant c.loop-k-test.true _ refl _ refl _ c.judge_entry-v.ensures c.requires c.if-v-gt0.true _ _ refl c.refuses.ensures

pub loop-k-preserved : goal.loop-k-preserved
loop-k-preserved c = judging_more _ _ _ _ _ c.loop-k.invariant c.loop-k-test.true _ refl _ refl _ c.judge_entry-v.ensures (omega (arith, c.if-v-gt0.false)) _ _ refl refl

pub returns : goal.returns
returns c = judging_all _ _ _ _ _ c.loop-k.invariant c.requires c.loop-k-test.false _ c.refuses-2.ensures

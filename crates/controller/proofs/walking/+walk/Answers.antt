-- `walk` meets its contract: the measure is the number, which falls at each call. Assumes nothing.
use native.Mathlib.Omega.{arith}
use Rattle.controller.proofs.Walked.{walks_none, falls_here, passing_more, walks_few, walks_more}
use Rattle.controller.proofs.walking.+walk.Goals as goal

pub returns-then-v-b : goal.returns-then-v-b
returns-then-v-b t c = walks_none _ _ _ _ _ c.if-v-b.true

pub walk-requires : goal.walk-requires
walk-requires t c = (omega (arith, falls_here _ _ _ _ _ c.requires c.if-v-b.false, c.decreases), passing_more _ _ _ _ _ c.requires c.if-v-b.false)

pub overflow_add-result : goal.overflow_add-result
overflow_add-result t c = let h = walks_few _ _ _ _ _ c.requires c.if-v-b.false _ _ c.walk.ensures in omega arith

pub returns : goal.returns
returns t c = walks_more _ _ _ _ _ c.requires c.if-v-b.false _ _ c.walk.ensures

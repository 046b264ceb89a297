-- `counts_of` meets its contract. Assumes nothing.
use Prim.Native.Nat.{◌-◌}
use native.Mathlib.Omega.{arith}
use Rattle.controller.proofs.Tallied.{counting_none, counting_more, counting_done, counted_low, class_here, class_place}
use Rattle.controller.proofs.tallies.counts_of.Goals as goal

pub loop-i-init : goal.loop-i-init
loop-i-init c = counting_none _ c.requires _ c.last_fold-b.ensures

pub load_class-requires : goal.load_class-requires
load_class-requires c = class_here _ c.requires _ _ c.loop-i.invariant _ _ c.last_fold-b.ensures c.last_number-n.ensures c.loop-i-test.true

pub overflow_sub-k : goal.overflow_sub-k
overflow_sub-k c = omega (arith, (class_place _ _ _ c.load_class.ensures).0)

pub bounds-a-k : goal.bounds-a-k
bounds-a-k c = omega (arith, (class_place _ _ _ c.load_class.ensures).1)

pub overflow_add-a : goal.overflow_add-a
overflow_add-a c = omega (arith, counted_low _ c.requires _ _ c.loop-i.invariant (c.load_class.result - 1) _ c.last_number-n.ensures c.loop-i-test.true)

pub bounds-a-k-in-loop-i : goal.bounds-a-k-in-loop-i
bounds-a-k-in-loop-i c = omega (arith, (class_place _ _ _ c.load_class.ensures).1)

pub loop-i-preserved : goal.loop-i-preserved
loop-i-preserved c = counting_more _ c.requires _ _ c.loop-i.invariant _ _ c.last_number-n.ensures c.loop-i-test.true c.load_class.ensures

pub returns : goal.returns
returns c = counting_done _ c.requires _ _ c.loop-i.invariant _ c.last_number-n.ensures c.loop-i-test.false

-- `add` meets its contract. Assumes nothing.
use mathlib.Core.Path.{refl}
use native.Mathlib.Omega.{arith}
use Rattle.controller.proofs.Tallied.{at_most, rooms, adds}
use Rattle.controller.proofs.tallies.add.Goals as goal

pub overflow_add-a : goal.overflow_add-a
overflow_add-a c = omega (arith, (rooms _ _ _ _ c.get_four-t.ensures refl refl _ c.requires).first, c.from.ensures, at_most c.args.counts 0, c.requires.all)

pub overflow_add-b : goal.overflow_add-b
overflow_add-b c = omega (arith, (rooms _ _ _ _ c.get_four-t.ensures refl refl _ c.requires).second, c.from-2.ensures, at_most c.args.counts 1, c.requires.all)

pub overflow_add-c : goal.overflow_add-c
overflow_add-c c = omega (arith, (rooms _ _ _ _ c.get_four-t.ensures refl refl _ c.requires).third, c.from-3.ensures, at_most c.args.counts 2, c.requires.all)

pub overflow_add-d : goal.overflow_add-d
overflow_add-d c = omega (arith, (rooms _ _ _ _ c.get_four-t.ensures refl refl _ c.requires).fourth, c.from-4.ensures, at_most c.args.counts 3, c.requires.all)

pub overflow_add-e : goal.overflow_add-e
overflow_add-e c = omega (arith, (rooms _ _ _ _ c.get_four-t.ensures c.get.ensures refl _ c.requires).fifth, c.from-5.ensures, at_most c.args.counts 4, c.requires.all)

pub overflow_add-f : goal.overflow_add-f
overflow_add-f c = omega (arith, (rooms _ _ _ _ c.get_four-t.ensures c.get.ensures c.get-2.ensures _ c.requires).sixth, c.from-6.ensures, at_most c.args.counts 5, c.requires.all)

pub returns : goal.returns
returns c = adds _ _ _ _ c.get_four-t.ensures c.get.ensures c.get-2.ensures _ _ _ _ _ _ _ _ _ _ c.requires c.from.ensures c.from-2.ensures c.from-3.ensures c.from-4.ensures c.from-5.ensures c.from-6.ensures c.put_four.ensures c.put.ensures c.put-2.ensures

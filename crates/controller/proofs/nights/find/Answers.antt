-- `find` meets its contract. Assumes nothing.
use native.Mathlib.Omega.{arith}
use Rattle.controller.proofs.Turned.{scan_from, in_table, scan_end, here, plan_is, here_done}
use Rattle.controller.proofs.nights.find.Goals as goal

pub loop-i-init : goal.loop-i-init
loop-i-init c = scan_from _ _ _ c.requires.0 _ _ c.last_fold-b.ensures c.last_number-n.ensures _ c.requires.1

pub bounds-outcomes-k : goal.bounds-outcomes-k
bounds-outcomes-k c = omega (arith, in_table _ _ _ c.requires.0 _ _ c.last_fold-b.ensures c.last_number-n.ensures _ c.loop-i.invariant.0 c.loop-i-test.true)

pub bounds-outcomes-k-in-loop-i : goal.bounds-outcomes-k-in-loop-i
bounds-outcomes-k-in-loop-i c = omega (arith, in_table _ _ _ c.requires.0 _ _ c.last_fold-b.ensures c.last_number-n.ensures _ c.loop-i.invariant.0 c.loop-i-test.true)

pub returns-then-job-gt0 : goal.returns-then-job-gt0
returns-then-job-gt0 c = here_done _ _ _ c.requires.0 _ _ c.last_fold-b.ensures c.last_number-n.ensures _ _ c.loop-i.invariant c.loop-i-test.true _ _ (here _ _ _ c.requires.0 _ _ c.last_fold-b.ensures c.last_number-n.ensures _ _ c.loop-i.invariant c.loop-i-test.true _ _ _ _ _ c.load_entry-t.ensures c.of-at.ensures c.load_scene-x.ensures c.settled_at-quiet.ensures c.try_jobs-f.ensures) c.if-job-gt0.true (plan_is _ _ _ c.requires.0 _ _ c.last_fold-b.ensures c.last_number-n.ensures _ _ c.loop-i.invariant c.loop-i-test.true _ _ _ _ _ _ c.load_entry-t.ensures c.of-at.ensures c.load_scene-x.ensures c.settled_at-quiet.ensures c.plan_at-plan.ensures)

pub loop-i-preserved : goal.loop-i-preserved
loop-i-preserved c = (here _ _ _ c.requires.0 _ _ c.last_fold-b.ensures c.last_number-n.ensures _ _ c.loop-i.invariant c.loop-i-test.true _ _ _ _ _ c.load_entry-t.ensures c.of-at.ensures c.load_scene-x.ensures c.settled_at-quiet.ensures c.try_jobs-f.ensures).more (omega (arith, c.if-job-gt0.false))

pub returns : goal.returns
returns c = scan_end _ _ _ c.requires.0 _ _ c.last_fold-b.ensures c.last_number-n.ensures _ _ _ c.loop-i.invariant c.loop-i-test.false

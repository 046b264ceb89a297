-- `lowest_going` meets its contract. Assumes nothing.
use mathlib.Core.Path.{refl}
use borrow.Author.Rules.{rules}
use native.Mathlib.Omega.{arith}
use Rattle.controller.proofs.Explained.{goes_here, goes_on, goes_none}
use Rattle.controller.proofs.reasons.lowest_going.Goals as goal

pub loop-i-init : goal.loop-i-init
loop-i-init c = (search rules, (search rules, refl))

pub returns-then-commit_goes : goal.returns-then-commit_goes
returns-then-commit_goes c = goes_here _ _ _ _ _ c.loop-i.invariant c.loop-i-test.true _ _ c.load_entry-t.ensures c.commit_goes.ensures c.if-commit_goes.true

pub loop-i-preserved : goal.loop-i-preserved
loop-i-preserved c = (omega (arith, c.loop-i.invariant.0), (omega (arith, c.loop-i-test.true), goes_on _ _ _ _ _ c.loop-i.invariant c.loop-i-test.true _ _ c.load_entry-t.ensures c.commit_goes.ensures c.if-commit_goes.false))

pub returns : goal.returns
returns c = goes_none _ _ _ _ _ c.loop-i.invariant c.loop-i-test.false

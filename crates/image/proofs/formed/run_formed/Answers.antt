-- `run_formed` meets its contract: the entries before i are formed, and `at` is the place of the next. Assumes nothing.
use mathlib.Core.Path.{sym, ◌∙◌}
use borrow.Author.Rules.{rules}
use native.Mathlib.Omega.{arith}
use Rattle.image.proofs.UpTo.{kept_none, kept_more, kept_not, kept_done}
use Rattle.image.proofs.formed.run_formed.Goals as goal

pub loop-i-init : goal.loop-i-init
loop-i-init c = (omega (arith, c.place_of-at.ensures), (search rules, (search rules, kept_none _ _)))

pub entry_formed-requires : goal.entry_formed-requires
entry_formed-requires c = (omega (arith, c.loop-i.invariant.0, c.loop-i.invariant.1.0, c.loop-i-test.true, c.requires.1.0), (omega (arith, c.loop-i-test.true, c.requires.1.1.0), c.requires.1.1.1))

pub returns-then-not-entry_formed : goal.returns-then-not-entry_formed
returns-then-not-entry_formed c = sym (kept_not _ _ _ _ (omega (arith, c.loop-i.invariant.1.0)) (omega (arith, c.loop-i-test.true)) (sym c.entry_formed.ensures ∙ c.if-not-entry_formed.true))

pub overflow_add-at : goal.overflow_add-at
overflow_add-at c = omega (arith, c.loop-i.invariant.0, c.loop-i.invariant.1.0, c.loop-i-test.true, c.requires.1.0)

pub loop-i-preserved : goal.loop-i-preserved
loop-i-preserved c = (omega (arith, c.loop-i.invariant.0, c.loop-i.invariant.1.0), (omega (arith, c.loop-i.invariant.1.0), (search rules, kept_more _ _ _ c.loop-i.invariant.1.0 c.loop-i.invariant.1.1.1 (sym c.entry_formed.ensures ∙ c.if-not-entry_formed.false))))

pub returns : goal.returns
returns c = kept_done _ _ _ _ c.loop-i.invariant.1.1.0 c.loop-i-test.false c.loop-i.invariant.1.1.1

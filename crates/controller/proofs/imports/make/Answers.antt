-- `make` meets its contract. Assumes nothing.
use Rattle.controller.proofs.Importing.{made_none, made_enters, made_more, made_all}
use mathlib.Core.Path.{refl}
use Rattle.controller.proofs.imports.make.Goals as goal

pub loop-k-init : goal.loop-k-init
loop-k-init c = made_none _ c.requires.1 _ c.begin.ensures

pub enter-requires : goal.enter-requires
enter-requires c = made_enters _ c.requires.1 _ _ c.loop-k.invariant c.loop-k-test.true _ refl

pub loop-k-preserved : goal.loop-k-preserved
loop-k-preserved c = made_more _ c.requires.1 _ _ c.loop-k.invariant c.loop-k-test.true _ refl _ c.enter.ensures

pub returns : goal.returns
returns c = made_all _ c.requires.1 _ _ c.loop-k.invariant c.loop-k-test.false

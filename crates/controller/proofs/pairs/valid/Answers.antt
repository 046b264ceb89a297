-- `valid` meets its contract. Assumes nothing.
use mathlib.Core.Path.{refl}
use Rattle.controller.proofs.LentPairs.{too_many, valid_bytes_holds}
use Rattle.controller.proofs.pairs.valid.Goals as goal

pub returns-then-len-gt16 : goal.returns-then-len-gt16
returns-then-len-gt16 c = too_many _ c.if-len-gt16.true

pub returns : goal.returns
returns c = valid_bytes_holds _ _ _ _ _ _ _ refl c.two_at.ensures c.two_at-2.ensures c.two_at-3.ensures c.two_at-4.ensures c.pairs_ok-ok.ensures

-- `links` meets its contract: the number falls at each turn. Assumes nothing.
use Prim.Native.Nat.{◌+◌, ◌-◌}
use mathlib.Core.Path.{◌≡◌}
use native.Mathlib.Omega.{arith}
use Rattle.controller.proofs.Walked.{linking_none, link_here, linking_more, linking_done}
use Rattle.controller.proofs.walking.links.Goals as goal

pub loop-i-init : goal.loop-i-init
loop-i-init c = linking_none _ _ _ c.requires.0 _ c.requires.1

pub bounds-chain-k : goal.bounds-chain-k
bounds-chain-k c = let h = link_here _ _ _ c.requires.0 _ _ c.loop-i.invariant c.loop-i-test.true in omega arith

pub loop-i-preserved : goal.loop-i-preserved
loop-i-preserved c = let z : c.loop-i.i - 1 + 1 ≡ c.loop-i.i = omega (arith, c.loop-i-test.true) in rw z (linking_more _ _ _ c.requires.0 _ _ c.loop-i.invariant c.loop-i-test.true _ (rw z at c.hop.ensures.0))

pub returns : goal.returns
returns c = linking_done _ _ _ c.requires.0 _ _ c.loop-i.invariant c.loop-i-test.false

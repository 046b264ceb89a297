-- `lay_listed` meets its contract: the place in the list falls. Assumes nothing.
use native.Mathlib.Omega.{arith}
use Rattle.controller.proofs.Folded.{laying_none, laying_here, laying_more, laying_done}
use Rattle.controller.proofs.folding.lay_listed.Goals as goal

pub loop-k-init : goal.loop-k-init
loop-k-init c = laying_none _ _ _ _ _ _ c.requires

pub load_entry-t-requires : goal.load_entry-t-requires
load_entry-t-requires c = laying_here _ _ _ _ _ _ c.requires _ _ c.loop-k.invariant c.loop-k-test.true

pub loop-k-preserved : goal.loop-k-preserved
loop-k-preserved c = laying_more _ _ _ _ _ _ c.requires _ _ c.loop-k.invariant c.loop-k-test.true _ _ c.load_entry-t.ensures c.lay.ensures

pub returns : goal.returns
returns c = laying_done _ _ _ _ _ _ c.requires _ _ c.loop-k.invariant (omega (arith, c.loop-k-test.false))

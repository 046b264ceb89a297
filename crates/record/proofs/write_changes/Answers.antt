-- `write_changes` goes from the last fold to the highest number. Assumes nothing.
use Rattle.record.proofs.Reported.{size, kept_next, at_start, through, no_changes, changes_more, changes_room}
use Rattle.record.specs.Told.{changes_text}
use Rattle.image.specs.View.{view}
use native.Mathlib.Omega.{arith}
use Rattle.record.proofs.write_changes.Goals as goal

pub last_number-k-end-requires : goal.last_number-k-end-requires
last_number-k-end-requires c = size _ _ c.requires.0

pub last_fold-k-requires : goal.last_fold-k-requires
last_fold-k-requires c = size _ _ c.requires.0

pub loop-k-init : goal.loop-k-init
loop-k-init c = at_start _ _ c.requires.0 (changes_text (view _)) (no_changes _ _ c.requires.0) c.last_fold-k.ensures c.last_number-k-end.ensures _ _

pub write_change-at-requires : goal.write_change-at-requires
write_change-at-requires c = (kept_next _ _ c.requires.0 c.loop-k.k c.loop-k.invariant.0 (omega (arith, c.loop-k-test.true, c.last_number-k-end.ensures)), changes_room _ _ c.requires.0 c.loop-k.invariant.0 (omega (arith, c.loop-k-test.true, c.last_number-k-end.ensures)) c.loop-k.invariant.1.1 c.requires.1)

pub loop-k-preserved : goal.loop-k-preserved
loop-k-preserved c = (omega (arith, c.loop-k.invariant.0), (omega (arith, c.loop-k-test.true), changes_more _ _ c.requires.0 c.loop-k.k c.loop-k.invariant.0 c.loop-k.invariant.1.1 c.write_change-at.ensures))

pub returns : goal.returns
returns c = through _ _ c.requires.0 (changes_text (view _)) c.loop-k.invariant.1.0 c.loop-k-test.false c.last_number-k-end.ensures c.loop-k.invariant.1.1

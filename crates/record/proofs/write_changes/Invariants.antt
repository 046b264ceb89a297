-- `write_changes` goes from the last fold to the highest number. Assumes nothing.
use Rattle.record.specs.Told.{changes_text}
use Rattle.lines.specs.Replies.{Put}
use Rattle.image.specs.View.{view}
use Rattle.image.specs.Records.{folded_of}
use Prim.Native.Nat.{◌-◌, ◌≤◌}
use Rattle.record.proofs.write_changes.Given as goal

abbrev pub invariant-loop-k : goal.invariant-loop-k
invariant-loop-k l = (folded_of l.s ≤ l.k) × ((l.k ≤ l.k-end) × Put l.initial.out 0 (changes_text (view l.s) (l.k - folded_of l.s)) l.at l.out)

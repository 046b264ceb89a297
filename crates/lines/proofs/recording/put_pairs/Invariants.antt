-- `put_pairs` lists the pairs one after another: after k turns the first k of them stand there. Assumes nothing.
use Rattle.lines.specs.Record.{listed, pair_text}
use Rattle.lines.specs.Replies.{Put}
use lib.ListN.{get_or, length}
use mathlib.Core.Bool.{true}
use Rattle.lines.proofs.recording.put_pairs.Given as goal

abbrev pub invariant-loop-path : goal.invariant-loop-path
invariant-loop-path l =
    Put l.initial.out l.at (listed (λ j. true) (λ j. pair_text (get_or l.fn.t.paths j 0) (get_or l.fn.t.values j 0)) (length l.yielded)) l.end l.out

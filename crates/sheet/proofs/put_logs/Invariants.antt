-- `put_logs` goes from log to log: up to a place the lines and totals of those before it. Assumes nothing.
use mathlib.Core.Path.{◌≡◌}
use Rattle.image.specs.Layout.{image_length}
use Rattle.std.specs.Iterator.Adapters.{zip_first, zip_second}
use Rattle.std.specs.Slice.Iter.{chunks_rest, chunks_size}
use Rattle.sheet.proofs.Reported.{Going}
use Rattle.sheet.proofs.put_logs.Given as goal

abbrev pub invariant-loop-log : goal.invariant-loop-log
invariant-loop-log l =
    Going l.input l.initial.out (chunks_rest (zip_first l.log-iterator)) (zip_second l.log-iterator).start l.used l.totals l.out
    × (chunks_size (zip_first l.log-iterator) ≡ image_length) × ((zip_second l.log-iterator).end ≡ 66)

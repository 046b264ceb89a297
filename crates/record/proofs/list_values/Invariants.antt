-- `list_values` lists the base path by path: after p turns those below p stand there. Assumes nothing.
use Rattle.lines.specs.Record.{listed, pair_text}
use Rattle.lines.specs.Replies.{Put}
use Rattle.image.specs.View.{table_of}
use Rattle.machine.specs.Stores.{of_base}
use lib.ListN.{get_or}
use lib.Dec.{eqb}
use mathlib.Core.Bool.{not}
use Rattle.record.proofs.list_values.Given as goal

abbrev pub invariant-loop-p : goal.invariant-loop-p
invariant-loop-p l = Put l.initial.out l.start
    (listed (λ j. not (eqb (get_or (table_of l.s of_base) j 0) 0)) (λ j. pair_text j (get_or (table_of l.s of_base) j 0)) l.p) l.at l.out

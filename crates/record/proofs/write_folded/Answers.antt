-- `write_folded` puts the line's key and number, its list and its end. Assumes nothing.
use Rattle.record.proofs.Reported.{begin_low, folded_line_holds}
use Rattle.lines.proofs.Recorded.{values_short}
use Rattle.lines.proofs.Putting.{put_length}
use Rattle.image.specs.View.{table_of}
use Rattle.machine.specs.Stores.{of_base}
use native.Mathlib.Omega.{arith}
use Rattle.record.proofs.write_folded.Goals as goal

pub last_fold-requires : goal.last_fold-requires
last_fold-requires c = c.requires.0

pub begin_folded-start-requires : goal.begin_folded-start-requires
begin_folded-start-requires c = omega (arith, c.requires.1)

pub list_values-end-requires : goal.list_values-end-requires
list_values-end-requires c = (c.requires.0, omega (arith, put_length c.begin_folded-start.ensures, begin_low c.last_fold.result c.begin_folded-start.ensures, c.requires.1))

pub end_list-requires : goal.end_list-requires
end_list-requires c = omega (arith, put_length c.begin_folded-start.ensures, put_length c.list_values-end.ensures, begin_low c.last_fold.result c.begin_folded-start.ensures, c.list_values-end.ensures.ends, values_short (table_of c.args.s.now of_base), c.requires.1)

pub returns : goal.returns
returns c = folded_line_holds c.args.s.now _ c.last_fold.result c.last_fold.ensures c.begin_folded-start.ensures c.list_values-end.ensures c.end_list.ensures

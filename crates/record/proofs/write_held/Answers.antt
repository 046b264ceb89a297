-- `write_held` puts the line's key, its list and its end. Assumes nothing.
use Rattle.record.proofs.Reported.{held_low, held_line_holds}
use Rattle.lines.proofs.Putting.{put_length}
use native.Mathlib.Omega.{arith}
use Rattle.record.proofs.write_held.Goals as goal

pub begin_held-start-requires : goal.begin_held-start-requires
begin_held-start-requires c = omega (arith, c.requires.1)

pub list_changes-end-requires : goal.list_changes-end-requires
list_changes-end-requires c = (c.requires.0, omega (arith, put_length c.begin_held-start.ensures, c.begin_held-start.ensures.ends, c.requires.1))

pub end_list-requires : goal.end_list-requires
end_list-requires c = omega (arith, put_length c.begin_held-start.ensures, put_length c.list_changes-end.ensures, c.begin_held-start.ensures.ends, held_low _ _ c.requires.0 c.list_changes-end.ensures, c.requires.1)

pub returns : goal.returns
returns c = held_line_holds _ _ c.requires.0 c.begin_held-start.ensures c.list_changes-end.ensures c.end_list.ensures

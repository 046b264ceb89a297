-- `report` writes the record of a well-formed image, and says of any other that it is none. Assumes nothing.
use Rattle.record.proofs.Reported.{applied_of, size, changes_low, folded_low, held_line_low, whole, reports, reports_none}
use Rattle.lines.proofs.Putting.{put_length}
use native.Mathlib.Omega.{arith}
use mathlib.Core.Path.{refl}
use Rattle.record.proofs.report.Goals as goal

pub load_head-head-requires : goal.load_head-head-requires
load_head-head-requires c = omega (arith, size _ _ (applied_of _ _ _ c.well_formed-2.ensures c.if-well_formed.true refl))

pub write_changes-b-requires : goal.write_changes-b-requires
write_changes-b-requires c = (applied_of _ _ _ c.well_formed-2.ensures c.if-well_formed.true c.load_head-head.ensures, c.requires)

pub write_folded-c-requires : goal.write_folded-c-requires
write_folded-c-requires c = (size _ _ (applied_of _ _ _ c.well_formed-2.ensures c.if-well_formed.true c.load_head-head.ensures), omega (arith, put_length c.write_changes-b.ensures, changes_low _ _ (applied_of _ _ _ c.well_formed-2.ensures c.if-well_formed.true c.load_head-head.ensures) c.write_changes-b.ensures, c.requires))

pub write_held-requires : goal.write_held-requires
write_held-requires c = (applied_of _ _ _ c.well_formed-2.ensures c.if-well_formed.true c.load_head-head.ensures, omega (arith, put_length c.write_changes-b.ensures, put_length c.write_folded-c.ensures, changes_low _ _ (applied_of _ _ _ c.well_formed-2.ensures c.if-well_formed.true c.load_head-head.ensures) c.write_changes-b.ensures, folded_low _ _ c.write_folded-c.ensures, c.requires))

pub returns-then-well_formed : goal.returns-then-well_formed
returns-then-well_formed c = reports _ c.well_formed-2.ensures c.if-well_formed.true (whole _ _ (applied_of _ _ _ c.well_formed-2.ensures c.if-well_formed.true c.load_head-head.ensures) c.write_changes-b.ensures c.write_folded-c.ensures c.write_held.ensures) (omega (arith, changes_low _ _ (applied_of _ _ _ c.well_formed-2.ensures c.if-well_formed.true c.load_head-head.ensures) c.write_changes-b.ensures, folded_low _ _ c.write_folded-c.ensures, held_line_low _ _ (applied_of _ _ _ c.well_formed-2.ensures c.if-well_formed.true c.load_head-head.ensures) c.write_held.ensures, c.requires))

pub write_unformed-requires : goal.write_unformed-requires
write_unformed-requires c = omega (arith, c.requires)

pub returns : goal.returns
returns c = reports_none _ c.well_formed-2.ensures c.if-well_formed.false c.write_unformed.ensures (omega (arith, c.requires))

-- `report` writes the text of the sheet. Assumes nothing.
use Rattle.sheet.specs.Reports.{report_room}
use Rattle.sheet.proofs.Reported.{reported}
use Rattle.lines.proofs.Putting.{unwritten_in}
use Rattle.sheet.proofs.report.Goals as goal

pub returns-then-out-lt-TEXT : goal.returns-then-out-lt-TEXT
returns-then-out-lt-TEXT c = unwritten_in report_room _ _ c.if-out-lt-TEXT.true

pub returns : goal.returns
returns c = reported c.args.input.now
    _ c.put_logs-used.result _ _ _ _ c.if-out-lt-TEXT.false
    c.put_logs-used.ensures c.put_totals.ensures

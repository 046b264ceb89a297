-- `put_totals` puts the line of the six numbers. Assumes nothing.
use Rattle.sheet.proofs.Reported.{totals_put, totals_same}
use Rattle.sheet.proofs.put_totals.Goals as goal

pub returns : goal.returns
returns c = totals_put c.args.totals.now
    _ c.args.used
    _ _ _ (totals_same c.args.totals.now
    c.get.ensures
    c.get-2.ensures
    c.get-3.ensures c.get-4.ensures
    c.get-5.ensures c.get-6.ensures)
    c.requires
    c.write_totals-n.ensures

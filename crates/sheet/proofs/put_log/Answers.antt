-- `put_log` puts the line of what is tallied. Assumes nothing.
use Rattle.sheet.proofs.Tallied.{log_put}
use Rattle.sheet.proofs.put_log.Goals as goal

pub returns : goal.returns
returns c = log_put _ c.args.place _ _ c.args.used
    _ c.tally-t.result _ _ c.tally-t.ensures.0 c.tally-t.ensures.1
    c.requires c.write_line-n.ensures

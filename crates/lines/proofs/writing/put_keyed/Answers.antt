-- `put_keyed` meets its contract. Assumes nothing.
use Rattle.lines.proofs.Putting.{put_then}
use Rattle.lines.proofs.writing.put_keyed.Goals as goal

pub returns : goal.returns
returns c = put_then c.put_text-end.ensures c.put_decimal.ensures

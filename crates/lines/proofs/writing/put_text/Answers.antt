-- `put_text` writes a part whole. Assumes nothing.
use Rattle.lines.proofs.Putting.{bytes_put}
use Rattle.lines.proofs.writing.put_text.Goals as goal

pub returns : goal.returns
returns c = bytes_put _ _ _ _ c.requires c.copy_from_slice.ensures.after

-- `begin_folded` puts the key and the number, then the next key. Assumes nothing.
use Rattle.lines.proofs.Recorded.{keyed_fits, keyed_ends, begin_put}
use Rattle.lines.proofs.Putting.{put_length}
use Rattle.lines.specs.Text.{text}
use native.Mathlib.Omega.{arith}
use Rattle.lines.proofs.recording.begin_folded.Goals as goal

pub put_keyed-a-requires : goal.put_keyed-a-requires
put_keyed-a-requires c = keyed_fits (text "folded=") _ _ _ (omega (arith, c.requires))

pub put_text-requires : goal.put_text-requires
put_text-requires c = omega (arith, put_length (rw c.from.ensures at c.put_keyed-a.ensures), keyed_ends (text "folded=") c.args.folded (rw c.from.ensures at c.put_keyed-a.ensures), c.requires)

pub returns : goal.returns
returns c = begin_put c.args.folded (rw c.from.ensures at c.put_keyed-a.ensures) c.put_text.ensures

-- `put_marks` puts each key and its number. Assumes nothing.
use Rattle.lines.proofs.Recorded.{keyed_fits, keyed_ends, marks_put}
use Rattle.lines.proofs.Putting.{put_length}
use Rattle.lines.specs.Text.{text}
use native.Mathlib.Omega.{arith}
use Rattle.lines.proofs.recording.put_marks.Goals as goal

pub put_keyed-a-requires : goal.put_keyed-a-requires
put_keyed-a-requires c = keyed_fits (text " class=") _ _ _ (omega (arith, c.requires))

pub put_keyed-b-requires : goal.put_keyed-b-requires
put_keyed-b-requires c = keyed_fits (text " took=") _ _ _ (omega (arith, put_length (rw c.from.ensures at c.put_keyed-a.ensures), keyed_ends (text " class=") c.args.class (rw c.from.ensures at c.put_keyed-a.ensures), c.requires))

pub put_keyed-c-requires : goal.put_keyed-c-requires
put_keyed-c-requires c = keyed_fits (text " undone=") _ _ _ (omega (arith, put_length (rw c.from.ensures at c.put_keyed-a.ensures), put_length (rw c.from-2.ensures at c.put_keyed-b.ensures), keyed_ends (text " class=") c.args.class (rw c.from.ensures at c.put_keyed-a.ensures), keyed_ends (text " took=") c.args.took (rw c.from-2.ensures at c.put_keyed-b.ensures), c.requires))

pub put_text-requires : goal.put_text-requires
put_text-requires c = omega (arith, put_length (rw c.from.ensures at c.put_keyed-a.ensures), put_length (rw c.from-2.ensures at c.put_keyed-b.ensures), put_length (rw c.from-3.ensures at c.put_keyed-c.ensures), keyed_ends (text " class=") c.args.class (rw c.from.ensures at c.put_keyed-a.ensures), keyed_ends (text " took=") c.args.took (rw c.from-2.ensures at c.put_keyed-b.ensures), keyed_ends (text " undone=") c.args.undone (rw c.from-3.ensures at c.put_keyed-c.ensures), c.requires)

pub returns : goal.returns
returns c = marks_put c.args.class c.args.took c.args.undone (rw c.from.ensures at c.put_keyed-a.ensures) (rw c.from-2.ensures at c.put_keyed-b.ensures) (rw c.from-3.ensures at c.put_keyed-c.ensures) c.put_text.ensures

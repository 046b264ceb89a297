-- `write_entry` puts the parts of the line one after another. Assumes nothing.
use Rattle.lines.proofs.Recorded.{keyed_fits, keyed_ends, entry_put, pairs_short}
use Rattle.lines.proofs.Putting.{put_length}
use Rattle.lines.specs.Text.{text}
use native.Mathlib.Omega.{arith}
use Rattle.lines.proofs.recording.write_entry.Goals as goal

pub put_keyed-a-requires : goal.put_keyed-a-requires
put_keyed-a-requires c = keyed_fits (text "number=") _ _ _ (omega (arith, c.requires.1))

pub put_text-b-requires : goal.put_text-b-requires
put_text-b-requires c = omega (arith, put_length (rw c.from.ensures at c.put_keyed-a.ensures), keyed_ends (text "number=") c.args.number (rw c.from.ensures at c.put_keyed-a.ensures), c.requires.1)

pub put_pairs-c-requires : goal.put_pairs-c-requires
put_pairs-c-requires c = (c.requires.0, omega (arith, put_length (rw c.from.ensures at c.put_keyed-a.ensures), put_length c.put_text-b.ensures, c.put_text-b.ensures.ends, keyed_ends (text "number=") c.args.number (rw c.from.ensures at c.put_keyed-a.ensures), c.requires.1))

pub put_marks-requires : goal.put_marks-requires
put_marks-requires c = omega (arith, put_length (rw c.from.ensures at c.put_keyed-a.ensures), put_length c.put_text-b.ensures, put_length c.put_pairs-c.ensures, c.put_text-b.ensures.ends, c.put_pairs-c.ensures.ends, keyed_ends (text "number=") c.args.number (rw c.from.ensures at c.put_keyed-a.ensures), pairs_short c.args.t c.requires.0, c.requires.1)

pub returns : goal.returns
returns c = entry_put c.args.number c.args.t c.args.class c.args.took c.args.undone (rw c.from.ensures at c.put_keyed-a.ensures) c.put_text-b.ensures c.put_pairs-c.ensures c.put_marks.ensures

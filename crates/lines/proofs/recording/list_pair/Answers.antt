-- `list_pair` puts a comma where one belongs, then the path and the value. Assumes nothing.
use Rattle.lines.proofs.Recorded.{comma_short, keyed_fits}
use Rattle.lines.proofs.Putting.{put_then, put_length, decimal_short}
use Rattle.lines.specs.Text.{text}
use native.Mathlib.Omega.{arith}
use Rattle.lines.proofs.recording.list_pair.Goals as goal

pub put_decimal-colon-requires : goal.put_decimal-colon-requires
put_decimal-colon-requires c = omega (arith, put_length c.put_comma-next.ensures, c.put_comma-next.ensures.ends, comma_short c.args.start c.args.at, decimal_short c.from.result, c.requires)

pub put_keyed-requires : goal.put_keyed-requires
put_keyed-requires c = keyed_fits (text ":") _ _ _ (omega (arith, put_length c.put_comma-next.ensures, put_length c.put_decimal-colon.ensures, c.put_comma-next.ensures.ends, c.put_decimal-colon.ensures.ends, comma_short c.args.start c.args.at, decimal_short c.from.result, c.requires))

pub returns : goal.returns
returns c = put_then c.put_comma-next.ensures (put_then (rw c.from.ensures at c.put_decimal-colon.ensures) (rw c.from-2.ensures at c.put_keyed.ensures))

-- `list_number` puts a comma where one belongs, then the number. Assumes nothing.
use Rattle.lines.proofs.Recorded.{comma_short}
use Rattle.lines.proofs.Putting.{put_length, decimal_short}
use native.Mathlib.Omega.{arith}
use Rattle.lines.proofs.recording.list_number.Goals as goal

pub put_decimal-requires : goal.put_decimal-requires
put_decimal-requires c = omega (arith, put_length c.put_comma-next.ensures, c.put_comma-next.ensures.ends, comma_short c.args.start c.args.at, decimal_short c.from.result, c.requires)

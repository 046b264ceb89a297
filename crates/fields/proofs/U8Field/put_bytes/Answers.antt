-- `put_bytes` meets its contract. Assumes nothing.
use mathlib.Core.Path.{◌≡◌, ap}
use Prim.Native.Nat.{◌%◌}
use native.Mathlib.Omega.{arith}
use lib.ListN.{set}
use Rattle.fields.specs.Field.{put_field}
use Rattle.fields.proofs.U8Field.put_bytes.Goals as goal

pub returns : goal.returns
unfolding put_field
returns c = let e : c.args.self ≡ c.args.self % 256 = omega (arith, c.ranges.self) in ap (set c.args.bytes.now 0) e

-- `make_fresh` meets its contract. `grind` says that what is filled is the whole, also where it is cut from 0 on. Assumes nothing.
use mathlib.Core.Path.{◌∙◌}
use mathlib.Core.List.{append-nil}
use native.Mathlib.Omega.{arith}
use lib.ListN.{drop_of_length-le}
use Rattle.image.specs.Fresh.{zeros}
use Rattle.image.proofs.Freshened.{freshened, flag_byte}
use Rattle.image.proofs.fresh.make_fresh.Goals as goal

pub returns : goal.returns
unfolding zeros
returns c = freshened _ _ _ _ _ _ c.requires (grind (arith, append-nil, drop_of_length-le, c.fill.ensures.after (λ y h. h))) c.put.ensures (c.from.ensures ∙ flag_byte c.args.remembers) c.put-2.ensures

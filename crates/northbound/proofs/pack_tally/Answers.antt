-- `pack_tally` meets its contract. Assumes nothing.
use mathlib.Core.Path.{refl}
use Rattle.northbound.proofs.Packed.{adds_up_tally}
use borrow.Author.Rules.{rules}
use Rattle.northbound.proofs.pack_tally.Goals as goal

pub returns : goal.returns
returns c = adds_up_tally c.args.r _ _ _ _ _ _ _ _ _ (search rules) c.wide-answer.ensures.0 c.wide-a.ensures.0 c.wide-b.ensures.0 c.wide-c.ensures.0 c.wide-d.ensures.0 c.wide-e.ensures.0 c.wide-f.ensures.0 c.wide-drift.ensures.0 c.wide-answer.ensures.1 c.wide-a.ensures.1 c.wide-b.ensures.1 c.wide-c.ensures.1 c.wide-d.ensures.1 c.wide-e.ensures.1 c.wide-f.ensures.1 refl

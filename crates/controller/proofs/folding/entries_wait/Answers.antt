-- `entries_wait` meets its contract. Assumes nothing.
use Prim.Native.Nat.{◌+◌, ◌-◌}
use mathlib.Core.Path.{refl, ◌∙◌}
use borrow.Author.Rules.{rules}
use Rattle.std.proofs.lemmas.Iterator.{YieldsList-from_range}
use Rattle.std.proofs.lemmas.Iterator.Search.{all_from_yields_List}
use Rattle.std.proofs.Common.{tests}
use Rattle.controller.specs.Claims.{waits_at}
use Rattle.controller.proofs.InRange.{range_kept}
use Rattle.controller.proofs.folding.entries_wait.Goals as goal

pub returns : goal.returns
returns c =
    all_from_yields_List (λ i. waits_at c.args.s.now c.args.a.0 c.args.g (i + 1)) _ _ _ c.all.ensures.ran (YieldsList-from_range c.args.b c.args.n (c.args.n - c.args.b) refl refl) (λ x b q k. search (rules, tests))
    ∙ range_kept (waits_at c.args.s.now c.args.a.0 c.args.g) _ _ c.requires.0

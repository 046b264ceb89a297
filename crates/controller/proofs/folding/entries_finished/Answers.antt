-- `entries_finished` meets its contract. Assumes nothing.
use Prim.Native.Nat.{◌+◌, ◌-◌}
use mathlib.Core.Path.{refl, ◌∙◌}
use borrow.Author.Rules.{rules}
use Rattle.std.proofs.lemmas.Iterator.{YieldsList-from_range}
use Rattle.std.proofs.lemmas.Iterator.Search.{all_from_yields_List}
use Rattle.std.proofs.Common.{tests}
use Rattle.controller.specs.Claims.{finished_at}
use Rattle.controller.proofs.InRange.{range_kept}
use Rattle.controller.proofs.folding.entries_finished.Goals as goal

pub returns : goal.returns
unfolding finished_at
returns c =
    all_from_yields_List (λ i. finished_at c.args.s.now (i + 1)) _ _ _ c.all.ensures.ran (YieldsList-from_range c.args.b c.args.n (c.args.n - c.args.b) refl refl) (λ x b q k. search (rules, tests))
    ∙ range_kept (finished_at c.args.s.now) _ _ c.requires.0

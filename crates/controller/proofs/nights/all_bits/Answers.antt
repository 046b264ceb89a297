-- `all_bits` meets its contract. Assumes nothing.
use mathlib.Core.Path.{◌∙◌}
use borrow.Author.Rules.{rules}
use lib.Dec.{leb}
use Rattle.std.proofs.lemmas.Iterator.{YieldsList-from_slice}
use Rattle.std.proofs.lemmas.Iterator.Search.{all_from_yields_List}
use Rattle.std.proofs.Common.{tests}
use Rattle.controller.proofs.Turned.{bits_all}
use Rattle.controller.proofs.nights.all_bits.Goals as goal

pub returns : goal.returns
returns c = all_from_yields_List (λ x. leb x 1) _ _ _ c.all.ensures.ran (YieldsList-from_slice c.args.outcomes.now cc) (λ x b q k. search (rules, tests)) ∙ bits_all _

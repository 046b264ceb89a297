-- `put_four` meets its contract. The places go by numbers: one that is written otherwise and is the same is proved. Assumes nothing.
use mathlib.Core.Path.{ap, ◌∙◌}
use mathlib.Core.List.{List, map}
use native.Mathlib.Omega.{arith}
use borrow.Author.Rules.{rules}
use Rattle.fields.specs.Field.{quad}
use Rattle.fields.proofs.Parts.{four_of, four_put}
use Rattle.fields.proofs.put_four.Goals as goal

pub returns : goal.returns
returns g c =
    four_put _ _ _ _ c.WIDTH-width.ensures (g.T.Field.numbers c.args.x) _ _ _ _ _ _ _ _ _ _ _
    (ap quad (g.met.T.Field.each c.args.x)
    ∙ ap (λ (xs : List g.row.T.Denot). quad (map g.T.Field.number xs)) (four_of c.args.x c.index-x-0.result c.index-x-1.result c.index-x-2.result c.index-x-3.result (search rules)))
    c.put.ensures c.put-2.ensures c.put-3.ensures c.put-4.ensures (omega arith) (omega arith) (omega arith)

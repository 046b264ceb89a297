-- `spend` meets its contract. Assumes nothing.
use Rattle.controller.proofs.Turned.{night_2, night_10, night_made, night_awake}
use Rattle.controller.proofs.nights.spend.Goals as goal

pub through-requires : goal.through-requires
through-requires c = night_awake c.args.outcomes.now c.args.node c.args.budget _ c.args_ok.ensures c.if-args_ok.true _ c.requires _ c.load_mastership-m.ensures c.if-m-at.true

pub returns-then-m-at : goal.returns-then-m-at
returns-then-m-at c = night_made _ _ _ _ _ _ c.requires _ c.args_ok.ensures c.if-args_ok.true _ c.load_mastership-m.ensures c.if-m-at.true _ _ c.through.ensures

pub returns-then-args_ok : goal.returns-then-args_ok
returns-then-args_ok c = night_10 _ _ _ _ _ _ c.requires _ c.args_ok.ensures c.if-args_ok.true _ c.load_mastership-m.ensures c.if-m-at.false c.refuses.ensures

pub returns : goal.returns
returns c = night_2 _ _ _ _ _ _ c.requires _ c.args_ok.ensures c.if-args_ok.false c.refuses-2.ensures

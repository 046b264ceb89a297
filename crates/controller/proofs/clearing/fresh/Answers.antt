-- `fresh` meets its contract. Assumes nothing.
use Rattle.controller.proofs.Freshened.{freshened, no_kind, not_freshened}
use Rattle.controller.proofs.clearing.fresh.Goals as goal

pub returns-then-remembers-le1 : goal.returns-then-remembers-le1
returns-then-remembers-le1 c = freshened c.args.s.now c.args.remembers _ _ c.if-s-eq-IMAGE_LENGTH.true c.if-remembers-le1.true c.make_fresh.ensures c.of.ensures

pub returns-then-s-eq-IMAGE_LENGTH : goal.returns-then-s-eq-IMAGE_LENGTH
returns-then-s-eq-IMAGE_LENGTH c = no_kind c.args.s.now c.args.remembers _ c.if-s-eq-IMAGE_LENGTH.true c.if-remembers-le1.false c.of-then-s-eq-IMAGE_LENGTH.ensures

pub returns : goal.returns
returns c = not_freshened c.args.s.now c.args.remembers _ c.if-s-eq-IMAGE_LENGTH.false c.of-2.ensures

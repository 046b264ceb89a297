-- `flight_or` meets its contract. Assumes nothing.
use Rattle.controller.proofs.Explained.{flight_rest, flight_named}
use Rattle.image.specs.View.{view}
use mathlib.Core.Path.{refl}
use Rattle.controller.proofs.reasons.flight_or.Goals as goal

pub returns-then-rest : goal.returns-then-rest
returns-then-rest c = flight_rest (view c.args.s.now) c.args.other _ _ c.rest.ensures c.if-rest.true refl

pub returns : goal.returns
returns c = flight_named (view c.args.s.now) c.args.other _ _ _ c.rest.ensures c.if-rest.false c.in_flight-k.ensures c.gives.ensures

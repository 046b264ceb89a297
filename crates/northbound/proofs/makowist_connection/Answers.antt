-- `makowist_connection` meets its contract. Assumes nothing.
use Rattle.machine.specs.Reads.{of_node}
use Rattle.northbound.proofs.Packed.{shows}
use Rattle.northbound.proofs.Wider.{shows_one, shows_far, wide_node_read, far_side}
use Rattle.northbound.proofs.makowist_connection.Goals as goal

pub returns-then-field-gt65535 : goal.returns-then-field-gt65535
returns-then-field-gt65535 c = shows_far _ _ _ (far_side _ _ _ c.if-field-gt65535.true) c.refused.ensures

pub returns : goal.returns
returns c = shows _ _ _ _ (shows_one _ (λ x. of_node x c.args.field) _ _ _ _ c.narrow-n.ensures
    (wide_node_read _ _ _) c.connection.ensures) c.pack_read.ensures

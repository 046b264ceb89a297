-- `makowist_value` meets its contract. Assumes nothing.
use Rattle.machine.specs.Reads.{of_table}
use Rattle.northbound.proofs.Packed.{shows}
use Rattle.northbound.proofs.Wider.{shows_one, shows_far, wide_table, far_path}
use Rattle.northbound.proofs.makowist_value.Goals as goal

pub returns-then-path-gt65535 : goal.returns-then-path-gt65535
returns-then-path-gt65535 c = shows_far _ _ _ (far_path _ _ _ c.if-path-gt65535.true) c.refused.ensures

pub returns : goal.returns
returns c = shows _ _ _ _ (shows_one _ (λ x. of_table x c.args.path) _ _ _ _ c.narrow-b.ensures
    (wide_table _ _ _) c.value.ensures) c.pack_read.ensures

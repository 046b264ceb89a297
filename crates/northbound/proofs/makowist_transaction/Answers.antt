-- `makowist_transaction` meets its contract. Assumes nothing.
use Rattle.machine.specs.Reads.{of_entry}
use Rattle.northbound.proofs.Packed.{shows}
use Rattle.northbound.proofs.Wider.{shows_one, shows_far, wide_entry, far_mark}
use Rattle.northbound.proofs.makowist_transaction.Goals as goal

pub returns-then-field-gt65535 : goal.returns-then-field-gt65535
returns-then-field-gt65535 c = shows_far _ _ _ (far_mark _ _ _ c.if-field-gt65535.true) c.refused.ensures

pub returns : goal.returns
returns c = shows _ _ _ _ (shows_one _ (λ x. of_entry x c.args.field) _ _ _ _ c.narrow-i.ensures
    (wide_entry _ _ _) c.transaction.ensures) c.pack_read.ensures

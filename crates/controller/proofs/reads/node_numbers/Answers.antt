-- `node_numbers` meets its contract. Assumes nothing.
use Rattle.controller.proofs.Shows.{flag_from}
use Rattle.controller.proofs.reads.node_numbers.Goals as goal

pub returns : goal.returns
returns c = cc (c.from.ensures, flag_from c.args.x.connected)

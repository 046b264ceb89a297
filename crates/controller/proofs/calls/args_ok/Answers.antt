-- `args_ok` meets its contract. Assumes nothing.

use Rattle.controller.proofs.calls.args_ok.Goals as goal

pub returns : goal.returns
returns c = simp c.is_node-node_ok.ensures

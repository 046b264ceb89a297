-- `args_ok` meets its contract. Assumes nothing.
use Rattle.controller.proofs.Turned.{args_table, args_not}
use Rattle.controller.proofs.nights.args_ok.Goals as goal

pub returns-then-node_ok-budget : goal.returns-then-node_ok-budget
returns-then-node_ok-budget c = args_table c.args.outcomes.now c.args.node c.args.budget _ _ c.is_node-node_ok.ensures c.if-node_ok-budget.true c.table_ok.ensures

pub returns : goal.returns
returns c = args_not c.args.outcomes.now c.args.node c.args.budget _ c.is_node-node_ok.ensures c.if-node_ok-budget.false

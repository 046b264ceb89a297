-- `line` meets its contract. Assumes nothing.
use Rattle.controller.proofs.Decided.{line_shown}
use Rattle.controller.proofs.deciding.line.Goals as goal

pub returns : goal.returns
returns c = line_shown _ _ _ _ _ _ _ c.load_connection-x.ensures c.load_mastership-m.ensures c.load_target-t.ensures c.load_configuration-g.ensures c.line_open.ensures

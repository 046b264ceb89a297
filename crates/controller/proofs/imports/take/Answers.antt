-- `take` meets its contract. Assumes nothing.
use Rattle.controller.proofs.Importing.{import_2, import_refused, import_taken}
use Rattle.controller.proofs.imports.take.Goals as goal

pub returns-then-v-eq0 : goal.returns-then-v-eq0
returns-then-v-eq0 c = import_taken c.args.s.now c.args.list.now c.requires c.if-n.true _ c.judge-v.ensures c.if-v-eq0.true _ c.make.ensures

pub returns-then-n : goal.returns-then-n
returns-then-n c = import_refused c.args.s.now c.args.list.now c.requires c.if-n.true _ c.judge-v.ensures c.if-v-eq0.false

pub returns : goal.returns
returns c = import_2 c.args.s.now c.args.list.now c.requires c.if-n.false _ c.refuses.ensures

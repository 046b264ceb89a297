-- `entered` meets its contract. Assumes nothing.
use mathlib.Core.Path.{refl}
use native.Mathlib.Omega.{arith}
use Rattle.controller.proofs.LentPairs.{few_bytes, path_room, entry_made}
use Rattle.controller.proofs.pairs.entered.Goals as goal

pub overflow_cast-count : goal.overflow_cast-count
overflow_cast-count c = omega (arith, few_bytes _ c.requires)

pub path_at-requires : goal.path_at-requires
path_at-requires c = (omega arith, path_room _ c.requires 0 (omega arith))

pub path_at-requires-2 : goal.path_at-requires-2
path_at-requires-2 c = (omega arith, path_room _ c.requires 1 (omega arith))

pub path_at-requires-3 : goal.path_at-requires-3
path_at-requires-3 c = (omega arith, path_room _ c.requires 2 (omega arith))

pub path_at-requires-4 : goal.path_at-requires-4
path_at-requires-4 c = (omega arith, path_room _ c.requires 3 (omega arith))

pub returns : goal.returns
returns c = entry_made _ _ _ _ _ _ _ _ _ _ _ _ _ c.requires refl c.path_at.ensures c.path_at-2.ensures c.path_at-3.ensures c.path_at-4.ensures c.two_at.ensures c.two_at-2.ensures c.two_at-3.ensures c.two_at-4.ensures c.of.ensures c.of-2.ensures c.of-index.ensures

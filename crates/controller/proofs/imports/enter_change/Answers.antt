-- `enter_change` meets its contract. Assumes nothing.
use Rattle.controller.proofs.Importing.{change_few, change_bytes, change_read}
use Rattle.controller.proofs.Entered.{change_row_holds}
use mathlib.Core.Path.{refl}
use native.Mathlib.Omega.{arith}
use Prim.Native.Nat.{◌+◌}
use Rattle.machine.specs.Import.{two, pairs_at}
use Rattle.controller.proofs.imports.enter_change.Goals as goal

pub entered-t-requires : goal.entered-t-requires
entered-t-requires c = change_bytes c.args.list.now c.args.at c.requires.placed c.requires.valid _ c.two_at-count.ensures _ _ refl refl (λ i. omega (arith, c.shared_slice_known-1.given i))

pub returns : goal.returns
returns c = change_row_holds c.args.s.now c.requires.formed (pairs_at c.args.list.now (c.args.at + 4) (two c.args.list.now (c.args.at + 2))) _ _ (change_read c.args.list.now c.args.at c.requires.placed c.requires.valid _ c.two_at-count.ensures _ _ refl refl _ c.entered-t.ensures) c.commits-u.ensures _ c.last_number-n.ensures _ c.of-i.ensures _ _ _ _ c.grow.ensures c.store_change.ensures c.rests.ensures c.lay_committed.ensures

pub slice_bounds-entered-end : goal.slice_bounds-entered-end
slice_bounds-entered-end c = omega (arith, change_few _ _ c.requires.placed c.requires.valid _ c.two_at-count.ensures, c.requires.placed.0)

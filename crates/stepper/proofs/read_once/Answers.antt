-- `read_once` feeds what a read brings; the answers of a block have room. Assumes nothing.
use mathlib.Core.Path.{◌≡◌, ap}
use borrow.Author.Rules.{rules}
use Rattle.stepper.specs.declared.Session.{Session}
use Rattle.stepper.proofs.Fed.{feeds_room, read_fed}
use Rattle.stepper.proofs.read_once.Goals as goal

pub shared_ref_as_front-write_all : goal.shared_ref_as_front-write_all
shared_ref_as_front-write_all g c =
    let h : c.written.result.used ≡ 0 = ap (λ (x : Session). x.used) c.written.ensures in
    let fed = feeds_room c.feed-session.ensures in search rules

pub returns : goal.returns
returns g c =
    read_fed _ _ _ c.args.s c.written.result _ _ _ _ _ c.written.ensures c.feed-session.ensures

-- `write_end`: the last line and the closing line have room. Assumes nothing.
use mathlib.Core.Path.{◌≡◌, ap}
use Prim.Native.Nat.{◌+◌, ◌≤◌}
use borrow.Author.Rules.{rules}
use Rattle.stepper.specs.declared.Session.{Session}
use Rattle.stepper.proofs.Fed.{ends_input_room}
use Rattle.stepper.proofs.write_end.Goals as goal

pub end_input-used-requires : goal.end_input-used-requires
end_input-used-requires g c = let h : c.written.result.used ≡ 0 = ap (λ (x : Session). x.used) c.written.ensures in search rules

pub shared_ref_as_front-write_all : goal.shared_ref_as_front-write_all
shared_ref_as_front-write_all g c = let h : c.written.result.used ≡ 0 = ap (λ (x : Session). x.used)
    c.written.ensures in
    let fits : c.end_input-used.result ≤ c.written.result.used + 192 =
    ends_input_room _ _ _ c.written.result _ _ _ _
    c.end_input-used.ensures in search rules

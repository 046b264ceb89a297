-- `end_input`: the last line, then the closing line, for which there is room. Assumes nothing.
use Prim.Native.Nat.{◌+◌, ◌≤◌}
use Rattle.stepper.proofs.Fed.{ends_last_room}
use borrow.Author.Rules.{rules}
use Rattle.stepper.proofs.end_input.Goals as goal

pub close-requires : goal.close-requires
close-requires c = let h : c.end_last-used.result ≤ c.before.args.s.used + 96 =
    ends_last_room _ _ _
    c.before.args.s _ _ _ _
    c.end_last-used.ensures in search rules

-- `entries_settled` meets its contract. Assumes nothing.
use Prim.Native.Nat.{ℕ, ◌+◌, ◌-◌}
use mathlib.Core.Path.{◌≡◌, refl}
use mathlib.Core.Bool.{true, false}
use Rattle.std.proofs.Common.{rules, tests}
use Rattle.std.proofs.lemmas.Iterator.{cases_from_all, YieldsList-from_range}
use Rattle.image.specs.Settled.{entry_settled_at}
use Rattle.image.proofs.UpTo.{kept_scanned}
use Rattle.image.proofs.settled.entries_settled.Goals as goal

pub returns : goal.returns
returns c =
    kept_scanned (entry_settled_at c.args.s.now c.args.o.0) c.args.b c.args.n _ c.requires.0
    (cases_from_all _ _ _
    (λ (x : ℕ). entry_settled_at c.args.s.now c.args.o.0 (x + 1) ≡ true)
    (λ (x : ℕ). entry_settled_at c.args.s.now c.args.o.0 (x + 1) ≡ false)
    c.all.ensures.ran (YieldsList-from_range c.args.b c.args.n (c.args.n - c.args.b) refl refl)
    (λ x q k. search (rules, tests)) (λ x q k. search (rules, tests)))

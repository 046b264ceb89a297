-- The place of a log, narrowed, is answered as the place itself (order 11). Assumes nothing.
use Prim.Native.Nat.{ℕ}
use mathlib.Core.Path.{◌≡◌, sym, ap, ◌∙◌}
use mathlib.Core.Bool.{Bool, ◌&&◌, cond}
use mathlib.Core.List.{List}
use native.Mathlib.Omega.{arith}
use Rattle.controller.specs.declared.tallies.Tally.{Tally}
use Rattle.controller.specs.Tallies.{lent_ok, line_of, added_in, refuses, tally_of, totals_after, Tallies}
use Rattle.northbound.specs.Wide.{narrowed, outside}
use Rattle.northbound.proofs.Wider.{either, past}

lent_wide : (k : ℕ) (m : List ℕ) → lent_ok (narrowed outside k) m ≡ lent_ok k m
unfolding lent_ok
lent_wide k m = either (λ x. lent_ok x m) outside k (λ h. sym (rw (past 1 64 k (omega arith))))

module _ (l : List ℕ) (k x : ℕ) (m : List ℕ) (r : Tally) (m' : List ℕ) (e : x ≡ narrowed outside k) (q : Tallies l x m r m') where
  lent_same : lent_ok x m ≡ lent_ok k m
  lent_same = ap (λ (y : ℕ). lent_ok y m) e ∙ lent_wide k m

  pub tally_wide : Tallies l k m r m'
  unfolding tally_of totals_after
  tally_wide = (
    q.0 ∙ ap (λ (b : Bool). cond b (line_of l) (refuses 2)) lent_same,
    q.1 ∙ ap (λ (b : Bool). cond b (added_in l m) m) lent_same,
  )

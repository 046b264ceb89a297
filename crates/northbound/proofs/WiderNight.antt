-- A night of numbers narrowed is that of the numbers themselves. Assumes nothing.
use Prim.Native.Nat.{ℕ}
use mathlib.Core.Path.{◌≡◌, sym, ap, ap₂, subst, ◌∙◌}
use mathlib.Core.Bool.{Bool, false, ◌&&◌}
use mathlib.Core.List.{List}
use native.Mathlib.Omega.{arith}
use borrow.Author.Tests.{lt-leb}
use lib.Dec.{leb}
use Rattle.machine.specs.State.{is_node}
use Rattle.machine.specs.WellFormed.{well_formed}
use Rattle.machine.specs.Night as machine
use Rattle.machine.specs.Night.{table_ok, night_not, night}
use Rattle.image.specs.View.{view}
use Rattle.image.specs.Formed.{formed}
use Rattle.controller.specs.declared.nights.Night.{Night}
use Rattle.controller.specs.Nights.{night_in, Leaves, Nights}
use Rattle.northbound.specs.Wide.{narrowed, outside}
use Rattle.northbound.proofs.Wider.{either, and_none, past}

-- ---- refused alike
module _ (l os : List ℕ) where
  abbrev from2 : Bool → machine.Night → machine.Night
  from2 b y = night_not (view l) 1 (formed l) (night_not (view l) 1 (well_formed (view l)) (night_not (view l) 2 b y))

  refuse_2 : (b : Bool) (y : machine.Night) → b ≡ false → from2 false y ≡ from2 b y
  refuse_2 b y e = sym (ap (λ q. from2 q y) e)

  both_2 : (a b : Bool) (x y : machine.Night) → a ≡ false → b ≡ false → from2 a x ≡ from2 b y
  both_2 a b x y d e = ap (λ q. from2 q x) d ∙ refuse_2 b y e

  module _ (n b : ℕ) where
    wide_node : night_in l (narrowed outside n) b os ≡ night_in l n b os
    unfolding night_in night
    wide_node = either (λ x. night_in l x b os) outside n
        (λ h. refuse_2 ((is_node n && leb b 4096) && table_ok os) _ (ap (λ q. (q && leb b 4096) && table_ok os) (past 1 8 n (omega arith))))

    wide_budget : night_in l n (narrowed outside b) os ≡ night_in l n b os
    unfolding night_in night
    wide_budget = either (λ x. night_in l n x os) outside b
        (λ h. both_2 ((is_node n && false) && table_ok os) ((is_node n && leb b 4096) && table_ok os) _ _ (ap (λ q. q && table_ok os) (and_none (is_node n)))
        (ap (λ q. (is_node n && q) && table_ok os) (lt-leb b 4096 (omega arith)) ∙ ap (λ q. q && table_ok os) (and_none (is_node n))))

-- so a night of the two narrowed is that of the two
pub night_wide : (l : List ℕ) (n b n' b' : ℕ) (os m : List ℕ) (r : Night) (l' m' : List ℕ) → n' ≡ narrowed outside n → b' ≡ narrowed outside b
    → Nights l n' b' os m r l' m' → Nights l n b os m r l' m'
night_wide l n b n' b' os m r l' m' en eb =
    let e : night_in l n' b' os ≡ night_in l n b os = ap₂ (λ x y. night_in l x y os) en eb ∙ wide_node l os n (narrowed outside b) ∙ wide_budget l os n b in
    subst (λ (w : machine.Night). Leaves w l m r l' m') e

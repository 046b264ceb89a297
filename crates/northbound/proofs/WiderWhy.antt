-- `why` asked with numbers narrowed answers as with the numbers themselves. Assumes nothing.
use Prim.Native.Nat.{ℕ}
use mathlib.Core.Path.{◌≡◌, refl, sym, ap, ◌∙◌}
use mathlib.Core.Bool.{Bool, true, false, ◌&&◌}
use mathlib.Core.List.{List}
use native.Mathlib.Omega.{arith}
use lib.Dec.{leb}
use Rattle.machine.specs.State.{in_log, is_node}
use Rattle.machine.specs.WellFormed.{well_formed}
use Rattle.machine.specs.Why as machine
use Rattle.machine.specs.Why.{why_not, why}
use Rattle.image.specs.View.{view}
use Rattle.image.specs.Formed.{formed}
use Rattle.controller.specs.declared.reasons.Why.{Why}
use Rattle.controller.specs.Reasons.{given, why_of}
use Rattle.northbound.specs.Wide.{narrowed, outside, none}
use Rattle.northbound.proofs.Wider.{either, and_none, past, past_last}

-- ---- refused alike
abbrev from2 : (f g b : Bool) → machine.Why → Why
from2 f g b y = given (why_not 1 f (why_not 1 g (why_not 2 b y)))

refuse_2 : (f g b : Bool) (y : machine.Why) → b ≡ false → from2 f g false y ≡ from2 f g b y
refuse_2 f g b y e = sym (ap (λ q. from2 f g q y) e)

both_2 : (f g a b : Bool) (x y : machine.Why) → a ≡ false → b ≡ false → from2 f g a x ≡ from2 f g b y
both_2 f g a b x y d e = ap (λ q. from2 f g q x) d ∙ refuse_2 f g b y e

refuse_5 : (f g w b : Bool) (y : machine.Why) → (f ≡ true → b ≡ false) → from2 f g w (why_not 5 false y) ≡ from2 f g w (why_not 5 b y)
refuse_5 true g w b y h = ap (λ q. from2 true g w (why_not 5 q y)) (sym (h refl))
refuse_5 false g w b y h = refl

module _ (l : List ℕ) (n j i : ℕ) where
  abbrev job_ok : Bool
  job_ok = leb 1 j && leb j 4

  wide_node : why_of l (narrowed outside n) j i ≡ why_of l n j i
  unfolding why_of why
  wide_node = either (λ x. why_of l x j i) outside n
      (λ h. refuse_2 (formed l) (well_formed (view l)) (is_node n && job_ok) _ (ap (λ q. q && job_ok) (past 1 8 n (omega arith))))

  wide_job : why_of l n (narrowed outside j) i ≡ why_of l n j i
  unfolding why_of why
  wide_job = either (λ x. why_of l n x i) outside j
      (λ h. both_2 (formed l) (well_formed (view l)) (is_node n && false) (is_node n && job_ok) _ _ (and_none (is_node n))
      (ap (λ q. is_node n && q) (past 1 4 j (omega arith)) ∙ and_none (is_node n)))

  wide_number : why_of l n j (narrowed none i) ≡ why_of l n j i
  unfolding why_of why
  wide_number = either (λ x. why_of l n j x) none i
      (λ h. refuse_5 (formed l) (well_formed (view l)) (is_node n && job_ok) (in_log (view l) i) _ (past_last l i h))

-- so the reason asked for with the three narrowed is that of the three
pub why_wide : (l : List ℕ) (n j i n' j' i' : ℕ) (r : Why) → n' ≡ narrowed outside n → j' ≡ narrowed outside j → i' ≡ narrowed none i
    → r ≡ why_of l n' j' i' → r ≡ why_of l n j i
why_wide l n j i n' j' i' r en ej ei e =
    e ∙ ap (λ x. why_of l x j' i') en ∙ ap (λ x. why_of l (narrowed outside n) x i') ej ∙ ap (λ x. why_of l (narrowed outside n) (narrowed outside j) x) ei
    ∙ wide_node l n (narrowed outside j) (narrowed none i) ∙ wide_job l n j (narrowed none i) ∙ wide_number l n j i

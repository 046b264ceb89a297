-- The class of a transaction (order 11), computed: a group for each sentence, and the statuses at which one rule gives way to the
-- next. Assumes nothing.
use Prim.Native.Nat.{ℕ, ◌+◌}
use mathlib.Core.List.{List, [], ◌∷◌, ◌++◌}
use mathlib.Core.Bool.{Bool, true, ◌&&◌, cond}
use mathlib.Core.Path.{◌≡◌, refl}
use lib.Dec.{eqb}
use Rattle.kinds.specs.declared.Status.{Status}
use Rattle.kinds.specs.declared.Status.TheVariants.{None, Pending, InProgress, Complete, Aborted, Canceled, Failed}
use Rattle.machine.specs.Built.{side, entry}
use Rattle.machine.specs.Class.{class_by, class_of}

-- ---- c.commit, c.apply, r.commit and r.apply, and the class
pub data Row : Type 0 where
  of : Status → Status → Status → Status → ℕ → Row

unfoldable pub judge : List Row → Bool
judge [] = true
judge (of a b c d k ∷ rs) = eqb (class_of (entry 1 (side a b 1) (side c d 2) 0)) k && judge rs

-- 6: r.apply Complete or Canceled, whatever stands before it; no other r.apply
pub undone : List Row
undone =
    of Complete Complete Complete Complete 6 ∷ of Complete Complete Complete Canceled 6
    ∷ of None None None Complete 6 ∷ of None None None Canceled 6
    ∷ of Complete Complete None Complete 6 ∷ of Complete Complete None Canceled 6
    ∷ of Failed Canceled None Complete 6 ∷ of Failed Canceled None Canceled 6
    ∷ of Complete Aborted None Complete 6 ∷ of Complete Failed None Canceled 6
    ∷ of Failed Failed Failed Complete 6 ∷ of Failed Failed Failed Canceled 6
    ∷ of Complete Complete Complete Pending 5 ∷ of Complete Complete Complete InProgress 5 ∷ of Complete Complete Complete Aborted 5
    ∷ of Complete Complete Complete Failed 5 ∷ []

-- 5: r.commit not None, whatever the change's; r.apply is neither of those two
pub undoing : List Row
undoing =
    of Complete Complete Pending None 5 ∷ of Complete Complete InProgress None 5 ∷ of Complete Complete Complete None 5
    ∷ of Complete Complete Aborted None 5 ∷ of Complete Complete Canceled None 5 ∷ of Complete Complete Failed None 5
    ∷ of Complete Pending Pending Pending 5 ∷ of Complete InProgress Pending Pending 5
    ∷ of None None Pending None 5 ∷ of Failed Canceled Pending None 5 ∷ of Complete Aborted Pending Pending 5
    ∷ of Complete Failed Failed Failed 5 ∷ of Failed Complete Pending Aborted 5 ∷ []

-- 4: c.apply Complete, whatever c.commit is; an r.apply alone, which is neither of the two, undoes nothing
pub taken : List Row
taken =
    of Complete Complete None None 4 ∷ of None Complete None None 4 ∷ of Pending Complete None None 4 ∷ of Aborted Complete None None 4
    ∷ of Failed Complete None None 4 ∷ of Complete Complete None Pending 4 ∷ of Complete Complete None InProgress 4
    ∷ of Complete Complete None Aborted 4 ∷ of Complete Complete None Failed 4 ∷ []

-- 3: c.commit Failed, whatever c.apply is but Complete
pub invalid : List Row
invalid =
    of Failed None None None 3 ∷ of Failed Pending None None 3 ∷ of Failed InProgress None None 3 ∷ of Failed Aborted None None 3
    ∷ of Failed Canceled None None 3 ∷ of Failed Failed None None 3 ∷ of Failed Canceled None Failed 3 ∷ []

-- 2: c.apply Aborted or Failed, and c.commit is not Failed
pub stopped : List Row
stopped =
    of Complete Aborted None None 2 ∷ of Complete Failed None None 2 ∷ of None Aborted None None 2 ∷ of None Failed None None 2
    ∷ of Canceled Aborted None None 2 ∷ of Aborted Failed None None 2 ∷ of Complete Failed None Pending 2 ∷ []

-- 1: the rest
pub still_open : List Row
still_open =
    of None None None None 1 ∷ of Pending None None None 1 ∷ of InProgress None None None 1 ∷ of Complete None None None 1
    ∷ of Complete Pending None None 1 ∷ of Complete InProgress None None 1 ∷ of Complete Canceled None None 1
    ∷ of Aborted None None None 1 ∷ of Canceled Canceled None None 1 ∷ of Complete InProgress None InProgress 1
    ∷ of Pending Pending None Failed 1 ∷ []

pub classes : List Row
classes = undone ++ (undoing ++ (taken ++ (invalid ++ (stopped ++ still_open))))

pub classes_hold : judge classes ≡ true
unfolding judge class_by undone undoing taken invalid stopped still_open classes
classes_hold = refl

-- ---- and of all 2,401, how many are in each class: a rule that gives way somewhere else moves two of these
pub statuses : List Status
statuses = None ∷ Pending ∷ InProgress ∷ Complete ∷ Aborted ∷ Canceled ∷ Failed ∷ []

unfoldable pub sum : (Status → ℕ) → List Status → ℕ
sum f [] = 0
sum f (s ∷ ss) = f s + sum f ss

pub in_class : ℕ → ℕ
in_class k =
    sum (λ a. sum (λ b. sum (λ c. sum (λ d. cond (eqb (class_by a b c d) k) 1 0) statuses) statuses) statuses) statuses

pub sizes_hold : (in_class 1 ≡ 120) × (in_class 2 ≡ 60) × (in_class 3 ≡ 30) × (in_class 4 ≡ 35) × (in_class 5 ≡ 1470) × (in_class 6 ≡ 686)
unfolding class_by statuses sum in_class
sizes_hold = (refl, refl, refl, refl, refl, refl)

-- A change and a rollback have one place in a rising list of ops. Assumes nothing.
use Prim.Native.Nat.{ℕ, suc, ◌≤◌}
use native.Mathlib.Omega.{arith}
use mathlib.Core.List.{List, [], ◌∷◌}
use mathlib.Core.Bool.{Bool, true, false, not, cond}
use mathlib.Core.Path.{◌≡◌, refl, sym, ap, ◌∙◌, subst}
use lib.Dec.{eqb, leb}
use lib.ListN.{length}
use borrow.Author.Tests.{eqb-true, eqb-false, eq-eqb, leb-true}
use Rattle.machine.proofs.Cases.{and_right}
use Rattle.history.specs.Ops.{Op, push, pop, none, pushed, popped, Rising, pushed_low, top_standing, op_at, op_at_in, first, rest_rises, or_late, clash}

pub more_pushed : (x : Op) (xs : List Op) (k : ℕ) → pushed k xs ≡ true → pushed k (x ∷ xs) ≡ true
unfolding pushed
more_pushed (push j) xs k e = or_late (eqb j k) (pushed k xs) e
more_pushed (pop j) xs k e = e
more_pushed none xs k e = e

pub more_popped : (x : Op) (xs : List Op) (k : ℕ) → popped k xs ≡ true → popped k (x ∷ xs) ≡ true
unfolding popped
more_popped (push j) xs k e = e
more_popped (pop j) xs k e = or_late (eqb j k) (popped k xs) e
more_popped none xs k e = e

-- the op at a place is among them
pub op_at_pushed : (xs : List Op) (o k : ℕ) → op_at xs o ≡ push k → pushed k xs ≡ true
unfolding op_at pushed
op_at_pushed [] o k e = let z : ◌≡◌ {A = ℕ} 0 1 = cc in absurd (omega arith)
op_at_pushed (x ∷ xs) o k e = go (eqb o (suc (length xs))) e (op_at_pushed xs o k)
  where
    go : (b : Bool) → cond b x (op_at xs o) ≡ push k → (op_at xs o ≡ push k → pushed k xs ≡ true) → pushed k (x ∷ xs) ≡ true
    go true f r = subst (λ y. pushed k (y ∷ xs) ≡ true) (sym f) (rw (eq-eqb k k refl) refl)
    go false f r = more_pushed x xs k (r f)

pub op_at_popped : (xs : List Op) (o k : ℕ) → op_at xs o ≡ pop k → popped k xs ≡ true
unfolding op_at popped
op_at_popped [] o k e = let z : ◌≡◌ {A = ℕ} 0 1 = cc in absurd (omega arith)
op_at_popped (x ∷ xs) o k e = go (eqb o (suc (length xs))) e (op_at_popped xs o k)
  where
    go : (b : Bool) → cond b x (op_at xs o) ≡ pop k → (op_at xs o ≡ pop k → popped k xs ≡ true) → popped k (x ∷ xs) ≡ true
    go true f r = subst (λ y. popped k (y ∷ xs) ≡ true) (sym f) (rw (eq-eqb k k refl) refl)
    go false f r = more_popped x xs k (r f)

-- what is newest was not there before
fresh_push : (x : Op) (xs : List Op) (k : ℕ) → Rising (x ∷ xs) → x ≡ push k → pushed k xs ≡ true → ⊥
unfolding Rising
fresh_push x xs k h e p = let r : Rising (push k ∷ xs) = subst (λ y. Rising (y ∷ xs)) e h in omega (arith, r.0, pushed_low xs r.1 k p)

fresh_pop : (x : Op) (xs : List Op) (k : ℕ) → Rising (x ∷ xs) → x ≡ pop k → popped k xs ≡ true → ⊥
unfolding Rising
fresh_pop x xs k h e p =
    let r : Rising (pop k ∷ xs) = subst (λ y. Rising (y ∷ xs)) e h in
    clash (sym (and_right (pushed k xs) (not (popped k xs)) (top_standing xs r.1 k r.0)) ∙ ap not p)

first_pushed : (xs : List Op) (a k : ℕ) → pushed k (first xs a) ≡ true → pushed k xs ≡ true
unfolding first
first_pushed [] a k e = e
first_pushed (x ∷ xs) a k e = go (leb (suc (length xs)) a) e (first_pushed xs a k)
  where
    go : (b : Bool) → pushed k (cond b (x ∷ xs) (first xs a)) ≡ true → (pushed k (first xs a) ≡ true → pushed k xs ≡ true) → pushed k (x ∷ xs) ≡ true
    go true f r = f
    go false f r = more_pushed x xs k (r f)

-- a change among the first a has its place there
pub push_place : (xs : List Op) → Rising xs → (o a k : ℕ) → op_at xs o ≡ push k → pushed k (first xs a) ≡ true → o ≤ a
unfolding op_at first
push_place [] h o a k e p = let z : ◌≡◌ {A = ℕ} 0 1 = cc in absurd (omega arith)
push_place (x ∷ xs) h o a k e p = go (eqb o (suc (length xs))) refl e (leb (suc (length xs)) a) refl p (push_place xs (rest_rises x xs h) o a k)
  where
    go : (b : Bool) → eqb o (suc (length xs)) ≡ b → cond b x (op_at xs o) ≡ push k → (d : Bool) → leb (suc (length xs)) a ≡ d → pushed k (cond d (x ∷ xs) (first xs a)) ≡ true
        → (op_at xs o ≡ push k → pushed k (first xs a) ≡ true → o ≤ a)
        → o ≤ a
    go true q f true d g r = omega (arith, eqb-true o (suc (length xs)) q, leb-true (suc (length xs)) a d)
    go true q f false d g r = absurd (fresh_push x xs k h f (first_pushed xs a k g))
    go false q f true d g r = omega (arith, op_at_in xs o (push k) refl f, leb-true (suc (length xs)) a d)
    go false q f false d g r = r f g

pub push_once : (xs : List Op) → Rising xs → (o p k : ℕ) → op_at xs o ≡ push k → op_at xs p ≡ push k → o ≡ p
unfolding op_at
push_once [] h o p k e f = let z : ◌≡◌ {A = ℕ} 0 1 = cc in absurd (omega arith)
push_once (x ∷ xs) h o p k e f = go (eqb o (suc (length xs))) refl e (eqb p (suc (length xs))) refl f (push_once xs (rest_rises x xs h) o p k)
  where
    go : (b : Bool) → eqb o (suc (length xs)) ≡ b → cond b x (op_at xs o) ≡ push k → (d : Bool) → eqb p (suc (length xs)) ≡ d → cond d x (op_at xs p) ≡ push k
        → (op_at xs o ≡ push k → op_at xs p ≡ push k → o ≡ p)
        → o ≡ p
    go true q e true d f r = eqb-true o (suc (length xs)) q ∙ sym (eqb-true p (suc (length xs)) d)
    go true q e false d f r = absurd (fresh_push x xs k h e (op_at_pushed xs p k f))
    go false q e true d f r = absurd (fresh_push x xs k h f (op_at_pushed xs o k e))
    go false q e false d f r = r e f

pub pop_once : (xs : List Op) → Rising xs → (o p k : ℕ) → op_at xs o ≡ pop k → op_at xs p ≡ pop k → o ≡ p
unfolding op_at
pop_once [] h o p k e f = let z : ◌≡◌ {A = ℕ} 0 1 = cc in absurd (omega arith)
pop_once (x ∷ xs) h o p k e f = go (eqb o (suc (length xs))) refl e (eqb p (suc (length xs))) refl f (pop_once xs (rest_rises x xs h) o p k)
  where
    go : (b : Bool) → eqb o (suc (length xs)) ≡ b → cond b x (op_at xs o) ≡ pop k → (d : Bool) → eqb p (suc (length xs)) ≡ d → cond d x (op_at xs p) ≡ pop k
        → (op_at xs o ≡ pop k → op_at xs p ≡ pop k → o ≡ p)
        → o ≡ p
    go true q e true d f r = eqb-true o (suc (length xs)) q ∙ sym (eqb-true p (suc (length xs)) d)
    go true q e false d f r = absurd (fresh_pop x xs k h e (op_at_popped xs p k f))
    go false q e true d f r = absurd (fresh_pop x xs k h f (op_at_popped xs o k e))
    go false q e false d f r = r e f

-- there is an op at every place
pub some_op : {A : Type 0} (xs : List Op) → Rising xs → (o : ℕ) → 1 ≤ o → o ≤ length xs → ((k : ℕ) → op_at xs o ≡ push k → A) → ((k : ℕ) → op_at xs o ≡ pop k → A) → A
unfolding op_at Rising
some_op [] h o p q f g = absurd (omega arith)
some_op {A} (x ∷ xs) h o p q f g = go (eqb o (suc (length xs))) refl x h f g (λ b. some_op xs (rest_rises x xs h) o p b)
  where
    go : (b : Bool) → eqb o (suc (length xs)) ≡ b → (x : Op) → Rising (x ∷ xs) → ((k : ℕ) → cond b x (op_at xs o) ≡ push k → A) → ((k : ℕ) → cond b x (op_at xs o) ≡ pop k → A)
        → (o ≤ length xs → ((k : ℕ) → op_at xs o ≡ push k → A) → ((k : ℕ) → op_at xs o ≡ pop k → A) → A)
        → A
    go true e (push k) h f g r = f k refl
    go true e (pop k) h f g r = g k refl
    go true e none h f g r = absurd h
    go false e x h f g r = r (omega (arith, eqb-false o (suc (length xs)) e)) f g

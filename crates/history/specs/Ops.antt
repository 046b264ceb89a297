-- The changes and rollbacks of a history, newest first: those that completed at a stage, as pushes and pops of a stack.
-- Assumes nothing.
use Rattle.std.specs.Prelude.{ℕ, zero, suc, ◌≤◌, ◌<◌, List, [], ◌∷◌, Bool, true, false, not, ◌&&◌, ◌||◌, cond, ◌≡◌, refl, eqb, leb, length}
use Rattle.std.proofs.Common.{arith, sym, ap, ◌∙◌, subst, eqb-true, eq-eqb, ne_eqb, leb-true, leb-false, le-leb}
use Rattle.std.proofs.lemmas.Bool.{eqb-false, lt-leb}
use Rattle.kinds.specs.declared.Event.{Event}
use Rattle.kinds.specs.declared.Status.{Status}
use Rattle.kinds.specs.Statuses.{code_of}
use Rattle.machine.proofs.Cases.{and_left, or_cases}
use Rattle.history.specs.Demand3.{told}

pub clash : {A : Type 0} → true ≡ false → A
clash e = let z : ◌≡◌ {A = ℕ} 0 1 = cc in absurd (omega arith)

pub crash : {A : Type 0} → false ≡ true → A
crash e = clash (sym e)

pub or_late : (a b : Bool) → b ≡ true → (a || b) ≡ true
or_late true b e = refl
or_late false b e = e

or_map : (a b c : Bool) → (b ≡ true → c ≡ true) → (a || b) ≡ true → (a || c) ≡ true
or_map true b c f e = refl
or_map false b c f e = f e

-- change k, or the rollback of change k
pub data Op : Type 0 where
  push pop : ℕ → Op
  none : Op

-- ---- those of a history with a status and a stage
abbrev pub ops_if : (asked change rollback : Bool) → ℕ → List Op → List Op
ops_if true true b k o = push k ∷ o
ops_if true false true k o = pop k ∷ o
ops_if true false false k o = o
ops_if false a b k o = o

unfoldable pub ops_of : Status → ℕ → List Event → List Op
ops_of x g [] = []
ops_of x g (e ∷ es) =
    ops_if (eqb (code_of e.status) (code_of x) && eqb e.stage g) (eqb e.phase 1) (eqb e.phase 2) e.number.0 (ops_of x g es)

unfoldable pub pushed : ℕ → List Op → Bool
pushed k [] = false
pushed k (push j ∷ o) = eqb j k || pushed k o
pushed k (pop j ∷ o) = pushed k o
pushed k (none ∷ o) = pushed k o

unfoldable pub popped : ℕ → List Op → Bool
popped k [] = false
popped k (push j ∷ o) = popped k o
popped k (pop j ∷ o) = eqb j k || popped k o
popped k (none ∷ o) = popped k o

pub told_change : (x : Status) (es : List Event) (g k : ℕ) → told x es 1 g k ≡ pushed k (ops_of x g es)
unfolding told ops_of pushed
told_change x [] g k = refl
told_change x (e ∷ es) g k =
    go (eqb (code_of e.status) (code_of x)) (eqb e.stage g) (eqb e.phase 1) (eqb e.phase 2) (told_change x es g k)
  where
    go : (s t a b : Bool) → told x es 1 g k ≡ pushed k (ops_of x g es)
        → ((s && (a && (t && eqb e.number.0 k))) || told x es 1 g k) ≡ pushed k (ops_if (s && t) a b e.number.0 (ops_of x g es))
    go false t a b r = r
    go true false true b r = r
    go true false false b r = r
    go true true true b r = ap (λ y. eqb e.number.0 k || y) r
    go true true false true r = r
    go true true false false r = r

pub told_rollback : (x : Status) (es : List Event) (g k : ℕ) → told x es 2 g k ≡ popped k (ops_of x g es)
unfolding told ops_of popped
told_rollback x [] g k = refl
told_rollback x (e ∷ es) g k =
    go (eqb (code_of e.status) (code_of x)) (eqb e.stage g) (eqb e.phase 1) refl (eqb e.phase 2) refl (told_rollback x es g k)
  where
    go : (s t a : Bool) → eqb e.phase 1 ≡ a → (b : Bool) → eqb e.phase 2 ≡ b → told x es 2 g k ≡ popped k (ops_of x g es)
        → ((s && (b && (t && eqb e.number.0 k))) || told x es 2 g k) ≡ popped k (ops_if (s && t) a b e.number.0 (ops_of x g es))
    go false t a p b q r = r
    go true false a p true q r = r
    go true false a p false q r = r
    go true true true p true q r = absurd (omega (arith, eqb-true e.phase 1 p, eqb-true e.phase 2 q))
    go true true true p false q r = r
    go true true false p true q r = ap (λ y. eqb e.number.0 k || y) r
    go true true false p false q r = r

-- ---- the stack
abbrev pub tail : List ℕ → List ℕ
tail [] = []
tail (x ∷ xs) = xs

abbrev pub top : List ℕ → ℕ
top [] = 0
top (k ∷ ks) = k

unfoldable pub stack : List Op → List ℕ
stack [] = []
stack (push k ∷ o) = k ∷ stack o
stack (pop k ∷ o) = tail (stack o)
stack (none ∷ o) = stack o

-- the newest change
unfoldable pub newest : List Op → ℕ
newest [] = 0
newest (push k ∷ o) = k
newest (pop k ∷ o) = newest o
newest (none ∷ o) = newest o

-- changes rise, and a rollback is of the change on top
unfoldable pub Rising : List Op → Type 0
Rising [] = Unit {0}
Rising (push k ∷ o) = (newest o < k) × Rising o
Rising (pop k ∷ o) = (stack o ≡ k ∷ tail (stack o)) × Rising o
Rising (none ∷ o) = ⊥

unfoldable pub Falls : List ℕ → Type 0
Falls [] = Unit {0}
Falls (k ∷ ks) = (top ks < k) × Falls ks

tail_falls : (ks : List ℕ) → Falls ks → Falls (tail ks)
unfolding Falls
tail_falls [] f = tt
tail_falls (k ∷ ks) f = f.1

tail_low : (ks : List ℕ) → Falls ks → top (tail ks) ≤ top ks
unfolding Falls
tail_low [] f = omega arith
tail_low (k ∷ ks) f = omega (arith, f.0)

-- a stack falls, from no higher than the newest change
low_falls : (o : List Op) → Rising o → (top (stack o) ≤ newest o) × Falls (stack o)
unfolding Rising stack newest Falls
low_falls [] h = (omega arith, tt)
low_falls (push k ∷ o) h = (omega arith, (omega (arith, (low_falls o h.1).0, h.0), (low_falls o h.1).1))
low_falls (pop k ∷ o) h = let r = low_falls o h.1 in (omega (arith, r.0, tail_low (stack o) r.1), tail_falls (stack o) r.1)
low_falls (none ∷ o) h = absurd h

pub stack_low : (o : List Op) → Rising o → top (stack o) ≤ newest o
stack_low o h = (low_falls o h).0

pub stack_falls : (o : List Op) → Rising o → Falls (stack o)
stack_falls o h = (low_falls o h).1

-- ---- which numbers are in it
unfoldable pub mem : ℕ → List ℕ → Bool
mem k [] = false
mem k (x ∷ xs) = eqb x k || mem k xs

pub mem_low : (ks : List ℕ) → Falls ks → (k : ℕ) → mem k ks ≡ true → k ≤ top ks
unfolding mem Falls
mem_low [] f k e = clash (sym e)
mem_low (x ∷ xs) f k e =
    or_cases (eqb x k) (mem k xs) e (λ p. omega (arith, eqb-true x k p)) (λ q. omega (arith, mem_low xs f.1 k q, f.0))

pub mem_first : (k : ℕ) (ks : List ℕ) → mem k (k ∷ ks) ≡ true
unfolding mem
mem_first k ks = simp (eq-eqb k k refl)

pub mem_above : (ks : List ℕ) → Falls ks → (k : ℕ) → top ks < k → mem k ks ≡ false
mem_above ks f k h = go (mem k ks) refl
  where
    go : (b : Bool) → mem k ks ≡ b → b ≡ false
    go true e = absurd (omega (arith, mem_low ks f k e))
    go false e = refl

pub pushed_low : (o : List Op) → Rising o → (k : ℕ) → pushed k o ≡ true → k ≤ newest o
unfolding Rising pushed newest
pushed_low [] h k e = clash (sym e)
pushed_low (push j ∷ o) h k e =
    or_cases (eqb j k) (pushed k o) e (λ p. omega (arith, eqb-true j k p)) (λ q. omega (arith, pushed_low o h.1 k q, h.0))
pushed_low (pop j ∷ o) h k e = pushed_low o h.1 k e
pushed_low (none ∷ o) h k e = absurd h

pub popped_low : (o : List Op) → Rising o → (k : ℕ) → popped k o ≡ true → k ≤ newest o
unfolding Rising popped newest
popped_low [] h k e = clash (sym e)
popped_low (push j ∷ o) h k e = omega (arith, popped_low o h.1 k e, h.0)
popped_low (pop j ∷ o) h k e =
    or_cases (eqb j k) (popped k o) e (λ p. omega (arith, eqb-true j k p, stack_low o h.1, ap top h.0)) (λ q. popped_low o h.1 k q)
popped_low (none ∷ o) h k e = absurd h

pub popped_above : (o : List Op) → Rising o → (k : ℕ) → newest o < k → popped k o ≡ false
popped_above o h k b = go (popped k o) refl
  where
    go : (t : Bool) → popped k o ≡ t → t ≡ false
    go true e = absurd (omega (arith, popped_low o h k e))
    go false e = refl

pub pushed_above : (o : List Op) → Rising o → (k : ℕ) → newest o < k → pushed k o ≡ false
pushed_above o h k b = go (pushed k o) refl
  where
    go : (t : Bool) → pushed k o ≡ t → t ≡ false
    go true e = absurd (omega (arith, pushed_low o h k e))
    go false e = refl

-- on the stack: pushed and not popped
pub standing : (o : List Op) → Rising o → (k : ℕ) → mem k (stack o) ≡ (pushed k o && not (popped k o))
unfolding Rising stack mem pushed popped Falls
standing [] h k = refl
standing (push j ∷ o) h k = go (eqb j k) refl (standing o h.1 k)
  where
    go : (b : Bool) → eqb j k ≡ b → mem k (stack o) ≡ (pushed k o && not (popped k o)) → (b || mem k (stack o)) ≡ ((b || pushed k o) && not (popped k o))
    go true e r = rw (popped_above o h.1 k (omega (arith, eqb-true j k e, h.0))) refl
    go false e r = r
standing (pop j ∷ o) h k = go (eqb j k) refl (standing o h.1 k)
  where
    under : Falls (j ∷ tail (stack o))
    under = subst Falls h.0 (stack_falls o h.1)

    split : mem k (stack o) ≡ (eqb j k || mem k (tail (stack o)))
    split = ap (mem k) h.0

    drop : (d p : Bool) → (d && not (true || p)) ≡ false
    drop true p = refl
    drop false p = refl

    go : (b : Bool) → eqb j k ≡ b → mem k (stack o) ≡ (pushed k o && not (popped k o)) → mem k (tail (stack o)) ≡ (pushed k o && not (b || popped k o))
    go true e r = mem_above (tail (stack o)) (tail_falls (j ∷ tail (stack o)) under) k (omega (arith, eqb-true j k e, falls_head under)) ∙ sym (drop (pushed k o) (popped k o))
      where
        falls_head : Falls (j ∷ tail (stack o)) → top (tail (stack o)) < j
        falls_head f = f.0
    go false e r = sym (split ∙ ap (λ b. b || mem k (tail (stack o))) e) ∙ r
standing (none ∷ o) h k = absurd h

-- what is on top was pushed, and not popped
pub top_standing : (o : List Op) → Rising o → (k : ℕ) → stack o ≡ k ∷ tail (stack o) → (pushed k o && not (popped k o)) ≡ true
unfolding mem
top_standing o h k w = sym (standing o h k) ∙ ap (mem k) w ∙ mem_first k (tail (stack o))

top_pushed : (o : List Op) → Rising o → (k : ℕ) → stack o ≡ k ∷ tail (stack o) → pushed k o ≡ true
top_pushed o h k w = and_left (pushed k o) _ (top_standing o h k w)

-- what was popped was pushed
pub popped_pushed : (o : List Op) → Rising o → (k : ℕ) → popped k o ≡ true → pushed k o ≡ true
unfolding Rising popped pushed
popped_pushed [] h k e = clash (sym e)
popped_pushed (push j ∷ o) h k e = or_late (eqb j k) (pushed k o) (popped_pushed o h.1 k e)
popped_pushed (pop j ∷ o) h k e =
    or_cases (eqb j k) (popped k o) e (λ x. subst (λ n. pushed n o ≡ true) (eqb-true j k x) (top_pushed o h.1 j h.0)) (popped_pushed o h.1 k)
popped_pushed (none ∷ o) h k e = absurd h

pub on_top_holds : (ks : List ℕ) (k : ℕ) → top ks ≡ k → 1 ≤ k → ks ≡ k ∷ tail ks
on_top_holds [] k e b = absurd (omega arith)
on_top_holds (x ∷ xs) k e b = ap (λ y. y ∷ xs) e

-- ---- the op with ordinal o, counted from 1, and the first a of them
unfoldable pub op_at : List Op → ℕ → Op
op_at [] o = none
op_at (x ∷ xs) o = cond (eqb o (suc (length xs))) x (op_at xs o)

unfoldable pub first : List Op → ℕ → List Op
first [] a = []
first (x ∷ xs) a = cond (leb (suc (length xs)) a) (x ∷ xs) (first xs a)

abbrev pub is_none : Op → Bool
is_none (push k) = false
is_none (pop k) = false
is_none none = true

pub op_at_out : (xs : List Op) (o : ℕ) → length xs < o → op_at xs o ≡ none
unfolding op_at
op_at_out [] o h = refl
op_at_out (x ∷ xs) o h = simp (ne_eqb o (suc (length xs)) (λ e. omega arith)) (op_at_out xs o (omega arith))

not_out : {A : Type 0} (xs : List Op) (o : ℕ) (x : Op) → is_none x ≡ false → op_at xs o ≡ x → length xs < o → A
not_out xs o x n e h = clash (ap is_none (sym (op_at_out xs o h) ∙ e) ∙ n)

pub op_at_in : (xs : List Op) (o : ℕ) (x : Op) → is_none x ≡ false → op_at xs o ≡ x → o ≤ length xs
op_at_in xs o x n e = go (leb o (length xs)) refl
  where
    go : (b : Bool) → leb o (length xs) ≡ b → o ≤ length xs
    go true p = leb-true o (length xs) p
    go false p = not_out xs o x n e (leb-false o (length xs) p)

op_at_zero : (xs : List Op) → op_at xs 0 ≡ none
unfolding op_at
op_at_zero [] = refl
op_at_zero (x ∷ xs) = simp (ne_eqb 0 (suc (length xs)) (λ e. omega arith)) (op_at_zero xs)

pub op_at_some : (xs : List Op) (o : ℕ) (x : Op) → is_none x ≡ false → op_at xs o ≡ x → 1 ≤ o
op_at_some xs zero x n e = clash (ap is_none (sym (op_at_zero xs) ∙ e) ∙ n)
op_at_some xs (suc o) x n e = omega arith

pub op_at_last : (x : Op) (xs : List Op) (o : ℕ) → o ≡ suc (length xs) → op_at (x ∷ xs) o ≡ x
unfolding op_at
op_at_last x xs o e = simp (eq-eqb o (suc (length xs)) e)

-- one op more leaves the others theirs
pub op_at_more : (ops : List Op) (x : Op) (o : ℕ) (y : Op) → is_none y ≡ false → op_at ops o ≡ y → op_at (x ∷ ops) o ≡ y
unfolding op_at
op_at_more ops x o y n e = go (eqb o (suc (length ops))) refl
  where
    go : (b : Bool) → eqb o (suc (length ops)) ≡ b → cond b x (op_at ops o) ≡ y
    go true p = not_out ops o y n e (omega (arith, eqb-true o (suc (length ops)) p))
    go false p = e

first_all : (xs : List Op) (a : ℕ) → length xs ≤ a → first xs a ≡ xs
unfolding first
first_all [] a h = refl
first_all (x ∷ xs) a h = simp (le-leb (suc (length xs)) a h)

pub first_more : (xs : List Op) (x : Op) (a : ℕ) → a ≤ length xs → first (x ∷ xs) a ≡ first xs a
unfolding first
first_more xs x a h = simp (lt-leb (suc (length xs)) a (omega arith))

pub first_next : (xs : List Op) (a : ℕ) (x : Op) → is_none x ≡ false → op_at xs (suc a) ≡ x → first xs (suc a) ≡ x ∷ first xs a
unfolding first op_at
first_next [] a x n e = clash (ap is_none e ∙ n)
first_next (y ∷ ys) a x n e = go (first_next ys a x n) (eqb (suc a) (suc (length ys))) refl e (leb (suc (length ys)) (suc a)) refl
  where
    go : (op_at ys (suc a) ≡ x → first ys (suc a) ≡ x ∷ first ys a) → (b : Bool) → eqb (suc a) (suc (length ys)) ≡ b → cond b y (op_at ys (suc a)) ≡ x
        → (c : Bool)
        → leb (suc (length ys)) (suc a) ≡ c
        → cond c (y ∷ ys) (first ys (suc a)) ≡ x ∷ cond (leb (suc (length ys)) a) (y ∷ ys) (first ys a)
    go r true p e true q =
        simp (lt-leb (suc (length ys)) a (omega (arith, eqb-true (suc a) (suc (length ys)) p)), first_all ys a (omega (arith, eqb-true (suc a) (suc (length ys)) p)), e)
    go r true p e false q = absurd (omega (arith, eqb-true (suc a) (suc (length ys)) p, leb-false (suc (length ys)) (suc a) q))
    go r false p e true q = not_out ys (suc a) x n e (omega (arith, leb-true (suc (length ys)) (suc a) q, eqb-false (suc a) (suc (length ys)) p))
    go r false p e false q = simp (lt-leb (suc (length ys)) a (omega (arith, leb-false (suc (length ys)) (suc a) q))) (r e)

pub rest_rises : (x : Op) (xs : List Op) → Rising (x ∷ xs) → Rising xs
unfolding Rising
rest_rises (push k) xs h = h.1
rest_rises (pop k) xs h = h.1
rest_rises none xs h = absurd h

pub first_rises : (xs : List Op) (a : ℕ) → Rising xs → Rising (first xs a)
unfolding first
first_rises [] a h = h
first_rises (x ∷ xs) a h = go (leb (suc (length xs)) a) (first_rises xs a (rest_rises x xs h))
  where
    go : (b : Bool) → Rising (first xs a) → Rising (cond b (x ∷ xs) (first xs a))
    go true r = h
    go false r = r

head_low : (x : Op) (xs : List Op) → Rising (x ∷ xs) → newest xs ≤ newest (x ∷ xs)
unfolding Rising newest
head_low (push k) xs h = omega (arith, h.0)
head_low (pop k) xs h = omega arith
head_low none xs h = absurd h

pub first_low : (xs : List Op) (a : ℕ) → Rising xs → newest (first xs a) ≤ newest xs
unfolding first
first_low [] a h = omega arith
first_low (x ∷ xs) a h = go (leb (suc (length xs)) a) (first_low xs a (rest_rises x xs h))
  where
    go : (b : Bool) → newest (first xs a) ≤ newest xs → newest (cond b (x ∷ xs) (first xs a)) ≤ newest (x ∷ xs)
    go true r = omega arith
    go false r = omega (arith, head_low x xs h)

-- ---- a selection in order
pub data Sub : List Op → List Op → Type 0 where
  done : Sub [] []
  keep : {x : Op} {xs ys : List Op} → Sub xs ys → Sub (x ∷ xs) (x ∷ ys)
  skip : {x : Op} {xs ys : List Op} → Sub xs ys → Sub xs (x ∷ ys)

pub sub_pushed : {xs ys : List Op} (k : ℕ) → Sub xs ys → pushed k xs ≡ true → pushed k ys ≡ true
unfolding pushed
sub_pushed k done e = e
sub_pushed k (keep {x = push j} {xs = xs} {ys = ys} r) e = or_map (eqb j k) (pushed k xs) (pushed k ys) (sub_pushed k r) e
sub_pushed k (keep {x = pop j} r) e = sub_pushed k r e
sub_pushed k (keep {x = none} r) e = sub_pushed k r e
sub_pushed k (skip {x = push j} {ys = ys} r) e = or_late (eqb j k) (pushed k ys) (sub_pushed k r e)
sub_pushed k (skip {x = pop j} r) e = sub_pushed k r e
sub_pushed k (skip {x = none} r) e = sub_pushed k r e

pub sub_popped : {xs ys : List Op} (k : ℕ) → Sub xs ys → popped k xs ≡ true → popped k ys ≡ true
unfolding popped
sub_popped k done e = e
sub_popped k (keep {x = pop j} {xs = xs} {ys = ys} r) e = or_map (eqb j k) (popped k xs) (popped k ys) (sub_popped k r) e
sub_popped k (keep {x = push j} r) e = sub_popped k r e
sub_popped k (keep {x = none} r) e = sub_popped k r e
sub_popped k (skip {x = pop j} {ys = ys} r) e = or_late (eqb j k) (popped k ys) (sub_popped k r e)
sub_popped k (skip {x = push j} r) e = sub_popped k r e
sub_popped k (skip {x = none} r) e = sub_popped k r e

-- a selection of the first ones is one of all
pub first_sub : (zs xs : List Op) (a : ℕ) → Sub zs (first xs a) → Sub zs xs
unfolding first
first_sub zs [] a s = s
first_sub zs (x ∷ xs) a s = go (leb (suc (length xs)) a) s (first_sub zs xs a)
  where
    go : (b : Bool) → Sub zs (cond b (x ∷ xs) (first xs a)) → (Sub zs (first xs a) → Sub zs xs) → Sub zs (x ∷ xs)
    go true s f = s
    go false s f = skip (f s)

-- ---- what the selection holds: pushed and not popped, newest first
abbrev pub without_if : Bool → ℕ → List ℕ → List ℕ
without_if true x xs = xs
without_if false x xs = x ∷ xs

unfoldable pub without : ℕ → List ℕ → List ℕ
without k [] = []
without k (x ∷ xs) = without_if (eqb x k) x (without k xs)

unfoldable pub held : List Op → List ℕ
held [] = []
held (push k ∷ o) = k ∷ held o
held (pop k ∷ o) = without k (held o)
held (none ∷ o) = held o

pub without_none : (k : ℕ) (ks : List ℕ) → Falls ks → top ks < k → without k ks ≡ ks
unfolding without Falls
without_none k [] f h = refl
without_none k (x ∷ xs) f h = simp (ne_eqb x k (λ e. omega arith), without_none k xs f.1 (omega (arith, f.0)))

mem_without : (j k : ℕ) (ks : List ℕ) → mem k (without j ks) ≡ (mem k ks && not (eqb j k))
unfolding without mem
mem_without j k [] = refl
mem_without j k (x ∷ xs) = go (eqb x j) refl (eqb x k) refl (eqb j k) refl (mem_without j k xs)
  where
    go : (a : Bool) → eqb x j ≡ a → (b : Bool) → eqb x k ≡ b → (c : Bool) → eqb j k ≡ c → mem k (without j xs) ≡ (mem k xs && not c)
        → mem k (without_if a x (without j xs)) ≡ ((b || mem k xs) && not c)
    go true p true q true u r = r ∙ out (mem k xs)
      where
        out : (m : Bool) → (m && false) ≡ false
        out true = refl
        out false = refl
    go true p true q false u r = absurd (eqb-false j k u (sym (eqb-true x j p) ∙ eqb-true x k q))
    go true p false q c u r = r
    go false p true q true u r = absurd (eqb-false x j p (eqb-true x k q ∙ sym (eqb-true j k u)))
    go false p true q false u r = rw q refl
    go false p false q c u r = rw q r

-- held: pushed and not popped
pub holding : {xs ys : List Op} (k : ℕ) → Sub xs ys → Rising ys → mem k (held xs) ≡ (pushed k xs && not (popped k xs))
unfolding mem held pushed popped Rising
holding k done h = refl
holding k (skip {x = push j} r) h = holding k r h.1
holding k (skip {x = pop j} r) h = holding k r h.1
holding k (skip {x = none} r) h = absurd h
holding k (keep {x = push j} {xs = xs} {ys = ys} r) h = go (eqb j k) refl (popped k xs) refl (holding k r h.1)
  where
    go : (b : Bool) → eqb j k ≡ b → (p : Bool) → popped k xs ≡ p → mem k (held xs) ≡ (pushed k xs && not p) → (b || mem k (held xs)) ≡ ((b || pushed k xs) && not p)
    go true e true f i = absurd (omega (arith, eqb-true j k e, h.0, popped_low ys h.1 k (sub_popped k r f)))
    go true e false f i = refl
    go false e p f i = i
holding k (keep {x = pop j} {xs = xs} r) h = mem_without j k (held xs) ∙ go (pushed k xs) (popped k xs) (eqb j k) (holding k r h.1)
  where
    go : (d u b : Bool) → mem k (held xs) ≡ (d && not u) → (mem k (held xs) && not b) ≡ (d && not (b || u))
    go true true true e = rw e refl
    go true true false e = rw e refl
    go true false true e = rw e refl
    go true false false e = rw e refl
    go false u b e = rw e refl
holding k (keep {x = none} r) h = absurd h

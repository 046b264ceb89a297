-- The five guarantees hold of every history (Guarantees says what they are). Assumes nothing.
use Prim.Native.Nat.{ℕ, zero, suc, ◌≤◌, ◌<◌}
use native.Mathlib.Omega.{arith}
use mathlib.Core.List.{List, [], ◌∷◌, ◌++◌}
use mathlib.Core.Bool.{Bool, true, false, not, ◌&&◌, ◌||◌, cond}
use mathlib.Core.Path.{◌≡◌, refl, sym, ap, ◌∙◌, subst}
use lib.Dec.{eqb, ltb, leb}
use lib.ListN.{length}
use borrow.Author.Tests.{eqb-true, eq-eqb, ne_eqb, ltb-true, leb-false}
use Rattle.kinds.specs.declared.Transaction.{Transaction}
use Rattle.kinds.specs.declared.Event.{Event}
use Rattle.kinds.specs.declared.Status.{Status}
use Rattle.kinds.specs.declared.Status.TheVariants.{None, Pending, InProgress, Complete, Aborted, Canceled, Failed}
use Rattle.kinds.specs.Numbers.{num}
use Rattle.kinds.specs.Events.{no_event, event}
use Rattle.kinds.specs.Statuses.{code_of, is_failed}
use Rattle.machine.specs.State.{State, entry_of}
use Rattle.machine.specs.Calls.{Pair, Call}
use Rattle.machine.specs.Step.{step, run}
use Rattle.machine.proofs.Cases.{and_left, and_right, or_cases}
use Rattle.machine.proofs.ByCall.{Calls}
use Rattle.history.specs.Demand3.{tells, told, completed, live}
use Rattle.history.specs.Ops.{Op, push, pop, none, ops_if, ops_of, pushed, popped, told_change, told_rollback, top, tail, stack, newest, Rising, stack_falls, mem, mem_low, pushed_low, popped_pushed, standing, top_standing, op_at, first, first_rises, Sub, sub_pushed, sub_popped, first_sub, held, clash, crash, or_late, rest_rises}
use Rattle.history.specs.Invariant.{complete, is_started, change_touched, Paired}
use Rattle.history.specs.Frames.{by_eq}
use Rattle.history.proofs.Places.{more_pushed, more_popped, op_at_pushed}
use Rattle.history.proofs.Applies as applies
use Rattle.history.proofs.Jobs as jobs
use Rattle.history.proofs.Reached.{Reached, reached, by_history, live_committed, live_applied}
use Rattle.history.specs.Whole.{whole}
use Rattle.history.specs.Marks.{is_canceled}
use Rattle.history.proofs.Marked.{Marked, marked}
use Rattle.history.specs.Guarantees.{Always, behind, Then}

-- ---- the op that an event adds
number : (x : Status) (e : Event) (p g k : ℕ) → tells x e p g k ≡ true
    → (((eqb (code_of e.status) (code_of x)) ≡ true) × (eqb e.phase p ≡ true) × (eqb e.stage g ≡ true) × (e.number.0 ≡ k))
number x e p g k t =
    let a = eqb (code_of e.status) (code_of x) in
    let b = eqb e.phase p in
    let c = eqb e.stage g in
    let u : (b && (c && eqb e.number.0 k)) ≡ true = and_right a _ t in
    let v : (c && eqb e.number.0 k) ≡ true = and_right b _ u in
    (and_left a _ t, and_left b _ u, and_left c _ v, eqb-true _ _ (and_right c _ v))

adds_push : (x : Status) (e : Event) (es : List Event) (g k : ℕ) → tells x e 1 g k ≡ true → ops_of x g (e ∷ es) ≡ push k ∷ ops_of x g es
unfolding ops_of
adds_push x e es g k t = let n = number x e 1 g k t in rw (n.0, n.2, n.1) (ap (λ j. push j ∷ ops_of x g es) n.3)

adds_pop : (x : Status) (e : Event) (es : List Event) (g k : ℕ) → tells x e 2 g k ≡ true → ops_of x g (e ∷ es) ≡ pop k ∷ ops_of x g es
unfolding ops_of
adds_pop x e es g k t =
    let n = number x e 2 g k t in
    let y : eqb e.phase 1 ≡ false = ne_eqb e.phase 1 (λ z. omega (arith, eqb-true e.phase 2 n.1)) in
    rw (n.0, n.2, y, n.1) (ap (λ j. pop j ∷ ops_of x g es) n.3)

-- ---- at every moment
always : (s : State) (es : List Event) → Reached s es → Always es
always s es r =
    let ops = ops_of Complete 1 es in
    let acts = ops_of Complete 2 es in
    let c = r.inv.committed in
    let b : Sub acts ops = first_sub acts ops s.applied.head.ordinal.0 r.inv.applied.sub in
    record {
      committed_first = λ k e. told_change Complete es 1 k ∙ sub_pushed k b (sym (told_change Complete es 2 k) ∙ e);
      rolled_back_first = λ k e. told_rollback Complete es 1 k ∙ sub_popped k b (sym (told_rollback Complete es 2 k) ∙ e);
      change_first = λ k e. told_change Complete es 1 k ∙ popped_pushed ops c.rising k (sym (told_rollback Complete es 1 k) ∙ e);
      in_order = b;
    }

-- ---- an apply that completes is of the next op, in progress
record Tells (s : State) (e : Event) : Type 0 where
  change : (k : ℕ) → tells Complete e 1 2 k ≡ true → ((entry_of s.log k).change.apply ≡ InProgress) × ((entry_of s.log k).change.ordinal.0 ≡ suc s.applied.head.ordinal.0)
  rollback : (k : ℕ) → tells Complete e 2 2 k ≡ true → ((entry_of s.log k).rollback.apply ≡ InProgress) × ((entry_of s.log k).rollback.ordinal.0 ≡ suc s.applied.head.ordinal.0)

quiet : (s : State) (e : Event) → ((k : ℕ) → tells Complete e 1 2 k ≡ false) → ((k : ℕ) → tells Complete e 2 2 k ≡ false) → Tells s e
quiet s e f g = record { change = λ k x. clash (sym x ∙ f k); rollback = λ k x. clash (sym x ∙ g k) }

-- a push cut at its first store gives no event
unless_cut : (s : State) (first : Bool) (e : Event) → Tells s e → Tells s (cond first no_event e)
unless_cut s true e t = quiet s _ (λ k. refl) (λ k. refl)
unless_cut s false e t = t

each_tells : (s : State) {R : List Pair → Type 0} → Calls s (λ x r next. Tells s r.event) R
each_tells s =
    record {
      refused = λ a n. quiet s _ (λ k. refl) (λ k. refl);
      append = λ ps e b. quiet s _ (λ k. refl) (λ k. refl);
      rollback = λ i p q e. quiet s _ (λ k. refl) (λ k. refl);
      start = λ e. quiet s _ (λ k. refl) (λ k. refl);
      stop = quiet s _ (λ k. refl) (λ k. refl);
      connect = λ n p e. quiet s _ (λ k. refl) (λ k. refl);
      disconnect = λ n. quiet s _ (λ k. refl) (λ k. refl);
      elect = λ n b t e. quiet s _ (λ k. refl) (λ k. refl);
      resign = quiet s _ (λ k. refl) (λ k. refl);
      syncing = quiet s _ (λ k. refl) (λ k. refl);
      synced = quiet s _ (λ k. refl) (λ k. refl);
      job1 = λ i p q cut second. record {
        wait = quiet s _ (λ k. refl) (λ k. refl);
        full = λ a b d. quiet s _ (λ k. refl) (λ k. refl);
        begin = λ a b d. quiet s _ (λ k. refl) (λ k. refl);
        aim = λ a b d. quiet s _ (λ k. refl) (λ k. refl);
        land = λ a b d o e. quiet s _ (λ k. refl) (λ k. refl);
        reject = λ a b. quiet s _ (λ k. refl) (λ k. refl);
        finish = λ a b. quiet s _ (λ k. refl) (λ k. refl);
        close = λ a b. quiet s _ (λ k. refl) (λ k. refl);
      };
      job2 = λ n i p q cut second. record {
        wait = quiet s _ (λ k. refl) (λ k. refl);
        no_line = quiet s _ (λ k. refl) (λ k. refl);
        begin = λ a b d. quiet s _ (λ k. refl) (λ k. refl);
        aim = λ a b d e. quiet s _ (λ k. refl) (λ k. refl);
        abort = λ a b d e. quiet s _ (λ k. refl) (λ k. refl);
        close_aborted = λ a b. quiet s _ (λ k. refl) (λ k. refl);
        close_failed = λ a b. quiet s _ (λ k. refl) (λ k. refl);
        finish = λ a b d. quiet s _ (λ k. refl) (λ k. refl);
        fail = λ a b. quiet s _ (λ k. refl) (λ k. refl);
        push = λ m e l. unless_cut s cut (event 1 2 (num i) Complete) (record {
          change = λ k x. let z : i ≡ k = eqb-true i k x in (rw (← z) e, rw (← z) m.1);
          rollback = λ k x. crash x;
        });
      };
      job3 = λ i p q cut second. record {
        wait = quiet s _ (λ k. refl) (λ k. refl);
        full = λ a b d. quiet s _ (λ k. refl) (λ k. refl);
        begin = λ a b d. quiet s _ (λ k. refl) (λ k. refl);
        aim = λ a b d. quiet s _ (λ k. refl) (λ k. refl);
        land = λ a b d o e. quiet s _ (λ k. refl) (λ k. refl);
        finish = λ a b d. quiet s _ (λ k. refl) (λ k. refl);
      };
      job4 = λ n i p q cut second. record {
        wait = quiet s _ (λ k. refl) (λ k. refl);
        no_line = quiet s _ (λ k. refl) (λ k. refl);
        rejected = quiet s _ (λ k. refl) (λ k. refl);
        begin = λ a b d e. quiet s _ (λ k. refl) (λ k. refl);
        aim = λ a b d e. quiet s _ (λ k. refl) (λ k. refl);
        cancel = λ a b d e. quiet s _ (λ k. refl) (λ k. refl);
        close = λ a b. quiet s _ (λ k. refl) (λ k. refl);
        finish = λ a b d. quiet s _ (λ k. refl) (λ k. refl);
        push = λ m e l. unless_cut s cut (event 2 2 (num i) Complete) (record {
          change = λ k x. crash x;
          rollback = λ k x. let z : i ≡ k = eqb-true i k x in (rw (← z) e, rw (← z) m.1);
        });
      };
    }

step_tells : (m : Bool) (cs : List Call) (c : Call) → Tells (whole m cs) (step (run m cs).state c).reply.event
step_tells m cs c = by_history m cs (λ x r next. Tells (whole m cs) r.event) (λ a. quiet (whole m cs) _ (λ k. refl) (λ k. refl)) c (each_tells (whole m cs))

-- ---- lists
push_pushed : (x : Op) (xs : List Op) (k : ℕ) → x ≡ push k → pushed k (x ∷ xs) ≡ true
unfolding pushed
push_pushed x xs k e = rw e (ap (λ b. b || pushed k xs) (eq-eqb k k refl))

-- an op with an ordinal passed is among those passed
pub pushed_first : (xs : List Op) (a o k : ℕ) → op_at xs o ≡ push k → o ≤ a → pushed k (first xs a) ≡ true
unfolding op_at first
pushed_first [] a o k e b = let z : ◌≡◌ {A = ℕ} 0 1 = cc in absurd (omega arith)
pushed_first (x ∷ xs) a o k e b = go (leb (suc (length xs)) a) refl (eqb o (suc (length xs))) refl e (λ f. pushed_first xs a o k f b)
  where
    go : (c : Bool) → leb (suc (length xs)) a ≡ c → (d : Bool) → eqb o (suc (length xs)) ≡ d → cond d x (op_at xs o) ≡ push k → (op_at xs o ≡ push k → pushed k (first xs a) ≡ true)
        → pushed k (cond c (x ∷ xs) (first xs a)) ≡ true
    go true p true q f r = push_pushed x xs k f
    go true p false q f r = more_pushed x xs k (op_at_pushed xs o k f)
    go false p true q f r = absurd (omega (arith, leb-false (suc (length xs)) a p, eqb-true o (suc (length xs)) q))
    go false p false q f r = r f

first_popped : (xs : List Op) (a k : ℕ) → popped k (first xs a) ≡ true → popped k xs ≡ true
unfolding first
first_popped [] a k e = e
first_popped (x ∷ xs) a k e = go (leb (suc (length xs)) a) e (first_popped xs a k)
  where
    go : (b : Bool) → popped k (cond b (x ∷ xs) (first xs a)) ≡ true → (popped k (first xs a) ≡ true → popped k xs ≡ true) → popped k (x ∷ xs) ≡ true
    go true e r = e
    go false e r = more_popped x xs k (r e)

-- ---- behind, of ops
unfoldable behind_ops : List Op → ℕ → ℕ → Bool
behind_ops [] i j = false
behind_ops (push n ∷ o) i j = behind_ops o i j
behind_ops (pop n ∷ o) i j = (eqb n i && (ltb i j && pushed j o)) || behind_ops o i j
behind_ops (none ∷ o) i j = behind_ops o i j

behind_more : (a b c : Bool) (n : ℕ) (o : List Op) (i j : ℕ) → behind_ops o i j ≡ true → behind_ops (ops_if a b c n o) i j ≡ true
unfolding behind_ops
behind_more true true c n o i j e = e
behind_more true false true n o i j e = or_late (eqb n i && (ltb i j && pushed j o)) (behind_ops o i j) e
behind_more true false false n o i j e = e
behind_more false b c n o i j e = e

behind_ops_holds : (es : List Event) (i j : ℕ) → behind es i j ≡ true → behind_ops (ops_of Complete 1 es) i j ≡ true
unfolding behind behind_ops ops_of
behind_ops_holds [] i j e = e
behind_ops_holds (e ∷ es) i j f =
    or_cases (tells Complete e 2 1 i && (ltb i j && completed es 1 1 j)) (behind es i j) f
    (λ x. here x)
    (λ x. behind_more (eqb (code_of e.status) 3 && eqb e.stage 1) (eqb e.phase 1) (eqb e.phase 2) e.number.0 (ops_of Complete 1 es) i j (behind_ops_holds es i j x))
  where
    here : (tells Complete e 2 1 i && (ltb i j && completed es 1 1 j)) ≡ true → behind_ops (ops_of Complete 1 (e ∷ es)) i j ≡ true
    here x =
        let o = ops_of Complete 1 es in
        let t : tells Complete e 2 1 i ≡ true = and_left (tells Complete e 2 1 i) _ x in
        let y : (ltb i j && completed es 1 1 j) ≡ true = and_right (tells Complete e 2 1 i) _ x in
        let z : (ltb i j && pushed j o) ≡ true = rw (told_change Complete es 1 j) at y in
        let u : (eqb i i && (ltb i j && pushed j o)) ≡ true = rw (eq-eqb i i refl) z in
        ap (λ v. behind_ops v i j) (adds_pop Complete e es 1 i t) ∙ ap (λ b. b || behind_ops o i j) u

-- what is behind a rollback was rolled back before it
behind_popped : (o : List Op) → Rising o → (i j : ℕ) → behind_ops o i j ≡ true → popped j o ≡ true
unfolding behind_ops Rising
behind_popped [] h i j e = crash e
behind_popped (push n ∷ o) h i j e = more_popped (push n) o j (behind_popped o h.1 i j e)
behind_popped (pop n ∷ o) h i j e =
    or_cases (eqb n i && (ltb i j && pushed j o)) (behind_ops o i j) e (λ x. more_popped (pop n) o j (here x)) (λ x. more_popped (pop n) o j (behind_popped o h.1 i j x))
  where
    here : (eqb n i && (ltb i j && pushed j o)) ≡ true → popped j o ≡ true
    here x =
        let y : (ltb i j && pushed j o) ≡ true = and_right (eqb n i) _ x in
        let a : n ≡ i = eqb-true n i (and_left (eqb n i) _ x) in
        let b : i < j = ltb-true i j (and_left (ltb i j) _ y) in
        off (mem j (stack o)) refl (popped j o) refl (standing o h.1 j) (and_right (ltb i j) _ y) (λ m. omega (arith, mem_low (stack o) (stack_falls o h.1) j m, ap top h.0))
      where
        off : (m : Bool) → mem j (stack o) ≡ m → (p : Bool) → popped j o ≡ p → m ≡ (pushed j o && not p) → pushed j o ≡ true → (mem j (stack o) ≡ true → ⊥) → p ≡ true
        off m e true f s u v = refl
        off true e false f s u v = absurd (v e)
        off false e false f s u v = s ∙ ap (λ b. b && true) u
behind_popped (none ∷ o) h i j e = absurd h

-- a rollback already passed is not the one on top
behind_before : (x : Op) (xs : List Op) (a i j : ℕ) → Rising (x ∷ xs) → behind_ops (x ∷ xs) i j ≡ true → popped i (first xs a) ≡ true → behind_ops xs i j ≡ true
unfolding behind_ops Rising
behind_before (push n) xs a i j h f e = f
behind_before (pop n) xs a i j h f e =
    or_cases (eqb n i && (ltb i j && pushed j xs)) (behind_ops xs i j) f
    (λ x. crash (sym (twice (pushed i xs) (popped i xs) (top_standing xs h.1 i (subst (λ m. stack xs ≡ m ∷ tail (stack xs)) (eqb-true n i (and_left (eqb n i) _ x)) h.0))) ∙ first_popped xs a i e))
    (λ x. x)
  where
    twice : (d p : Bool) → (d && not p) ≡ true → p ≡ false
    twice true true e = sym e
    twice true false e = refl
    twice false p e = crash e
behind_before none xs a i j h f e = absurd h

passed_behind : (xs : List Op) (a : ℕ) → Rising xs → (i j : ℕ) → popped i (first xs a) ≡ true → behind_ops xs i j ≡ true → popped j (first xs a) ≡ true
unfolding first
passed_behind [] a h i j e f = behind_popped [] h i j f
passed_behind (x ∷ xs) a h i j e f = go (leb (suc (length xs)) a) e (passed_behind xs a (rest_rises x xs h) i j) (behind_before x xs a i j h f)
  where
    go : (b : Bool) → popped i (cond b (x ∷ xs) (first xs a)) ≡ true → (popped i (first xs a) ≡ true → behind_ops xs i j ≡ true → popped j (first xs a) ≡ true)
        → (popped i (first xs a) ≡ true → behind_ops xs i j ≡ true)
        → popped j (cond b (x ∷ xs) (first xs a)) ≡ true
    go true e r w = behind_popped (x ∷ xs) h i j f
    go false e r w = r e (w e)

-- ---- when an event is given
pub failed_is : (c : Status) → is_failed c ≡ true → c ≡ Failed
failed_is None e = crash e
failed_is Pending e = crash e
failed_is InProgress e = crash e
failed_is Complete e = crash e
failed_is Aborted e = crash e
failed_is Canceled e = crash e
failed_is Failed e = refl

pub canceled_is : (c : Status) → is_canceled c ≡ true → c ≡ Canceled
canceled_is None e = crash e
canceled_is Pending e = crash e
canceled_is InProgress e = crash e
canceled_is Complete e = crash e
canceled_is Aborted e = crash e
canceled_is Canceled e = refl
canceled_is Failed e = crash e

-- a change tried and not taken has an ordinal
pub failed_some : (c : Status) (o : ℕ) → Paired c Failed o → 1 ≤ o
failed_some None o p = clash (ap is_failed p.0)
failed_some Pending o p = clash (ap is_failed p.0)
failed_some InProgress o p = clash (ap is_failed p.0)
failed_some Complete o p = p
failed_some Aborted o p = absurd p
failed_some Canceled o p = absurd p
failed_some Failed o p = clash (ap is_failed p.0)

module _ (s : State) (es : List Event) (r : Reached s es) (marks : Marked s.log s.applied.head es) where
  abbrev ops : List Op
  ops = ops_of Complete 1 es

  abbrev acts : List Op
  acts = ops_of Complete 2 es

  abbrev at : ℕ
  at = s.applied.head.ordinal.0

  abbrev en : ℕ → Transaction
  en k = entry_of s.log k

  rises : Rising (first ops at)
  rises = first_rises ops at r.inv.committed.rising

  -- ---- the apply of change k completes
  module _ (k : ℕ) (e : (en k).change.apply ≡ InProgress) (o : (en k).change.ordinal.0 ≡ suc at) where
    above : newest (first ops at) < k
    above = applies.push_above (jobs.side r.inv) k o

    none_bad : r.bad ≡ []
    none_bad = applies.started_clear (jobs.side r.inv) k (ap is_started e) o

    in_order_holds : (j : ℕ) → completed es 1 2 j ≡ true → j < k
    in_order_holds j x = omega (arith, above, pushed_low (first ops at) rises j (sub_pushed j r.inv.applied.sub (sym (told_change Complete es 2 j) ∙ x)))

    -- a rejected change was passed, and is not on the stack
    passed : (i : ℕ) → (en i).change.apply ≡ Failed → popped i (first ops at) ≡ true
    passed i f = off (popped i (first ops at)) refl (standing (first ops at) rises i)
      where
        one : 1 ≤ (en i).change.ordinal.0
        one = failed_some (en i).change.commit (en i).change.ordinal.0 (subst (λ x. Paired (en i).change.commit x (en i).change.ordinal.0) f (r.inv.sides i).change)

        low : (en i).change.ordinal.0 ≤ suc at
        low = (r.inv.applied.entries i).change.low (ap change_touched f)

        other : (en i).change.ordinal.0 ≡ suc at → ⊥
        other x =
            let w : i ≡ k = applies.same_change (jobs.side r.inv) k o i x in
            clash (ap is_failed (sym f ∙ ap (λ j. (en j).change.apply) w ∙ e))

        carried : (n : ℕ) → (en i).change.ordinal.0 ≡ n → 1 ≤ n → op_at ops n ≡ push i
        carried zero x b = absurd (omega arith)
        carried (suc n) x b = (r.inv.numbered i).change n x

        was : pushed i (first ops at) ≡ true
        was = pushed_first ops at (en i).change.ordinal.0 i (carried (en i).change.ordinal.0 refl one) (let z : (en i).change.ordinal.0 ≤ at = by_eq (en i).change.ordinal.0 (suc at) (λ x. absurd (other x)) (λ x. omega (arith, low)) in z)

        untaken : mem i (stack (first ops at)) ≡ false
        untaken =
            ap (mem i) (r.inv.applied.split ∙ ap (λ b. b ++ held acts) none_bad) ∙ live_applied s es r i ∙ ap (λ b. b && not (completed es 2 2 i))
            (told_change Complete es 2 i ∙ (r.inv.applied.entries i).change.taken ∙ ap (λ c. complete c at (en i).change.ordinal.0) f)

        off : (p : Bool) → popped i (first ops at) ≡ p → mem i (stack (first ops at)) ≡ (pushed i (first ops at) && not p) → p ≡ true
        off true x y = refl
        off false x y = clash (sym (ap (λ b. b && true) was) ∙ sym y ∙ untaken)

    pub rejected : (i : ℕ) → told Failed es 1 2 i ≡ true → completed es 2 2 i ≡ true
    rejected i x =
        let f : (en i).change.apply ≡ Failed = failed_is (en i).change.apply (sym (marks i).failed ∙ x) in
        or_cases (told Complete es 2 2 i) (is_canceled (en i).rollback.apply) ((marks i).gone (passed i f)) (λ y. y)
        (λ y. clash (ap is_failed (sym f ∙ (r.inv.applied.entries i).spared (canceled_is (en i).rollback.apply y))))

    behind_it_holds : (i j : ℕ) → told Failed es 1 2 i ≡ true → behind es i j ≡ true → (completed es 2 2 j || told Canceled es 2 2 j) ≡ true
    behind_it_holds i j x y =
        let f : (en i).change.apply ≡ Failed = failed_is (en i).change.apply (sym (marks i).failed ∙ x) in
        ap (λ b. completed es 2 2 j || b) (marks j).canceled ∙ (marks j).gone (passed_behind ops at r.inv.committed.rising i j (passed i f) (behind_ops_holds es i j y))

  -- the apply of the rollback of k completes
  in_reverse : (k : ℕ) → (en k).rollback.ordinal.0 ≡ suc at → (j : ℕ) → live es 2 j ≡ true → j ≤ k
  in_reverse k o j x =
      let w = applies.pop_split (jobs.side r.inv) k o in
      let m : mem j (held acts) ≡ true = live_applied s es r j ∙ x in
      omega (
        arith,
        ap top w,
        mem_low (held acts) (applies.held_falls (jobs.side r.inv)) j m,
        applies.held_top (jobs.side r.inv),
      )

  thens : (e : Event) → Tells s e → (next : State) → Reached next (e ∷ es) → Then es e
  unfolding Rising
  thens e t next n =
      record {
        commits = λ k x j y.
            let h : Rising (push k ∷ ops) = subst Rising (adds_push Complete e es 1 k x) n.inv.committed.rising in
            omega (arith, h.0, pushed_low ops r.inv.committed.rising j (sym (told_change Complete es 1 j) ∙ y));
        applies = λ k x j y. let z = t.change k x in in_order_holds k z.0 z.1 j y;
        rollbacks = λ k x j y.
            let h : Rising (pop k ∷ ops) = subst Rising (adds_pop Complete e es 1 k x) n.inv.committed.rising in
            omega (arith, ap top h.0, mem_low (stack ops) (stack_falls ops r.inv.committed.rising) j (live_committed s es r j ∙ y));
        returns = λ k x j y. in_reverse k (t.rollback k x).1 j y;
        rejected = λ k x i y. let z = t.change k x in rejected k z.0 z.1 i y;
        behind_it = λ k x i j y w. let z = t.change k x in behind_it_holds k z.0 z.1 i j y w;
      }

-- ---- the theorems
pub always_in_order : (m : Bool) (cs : List Call) → Always (run m cs).events
always_in_order m cs = always (whole m cs) (run m cs).events (reached m cs)

pub each_event : (m : Bool) (cs : List Call) (c : Call) → Then (run m cs).events (step (run m cs).state c).reply.event
unfolding run
each_event m cs c = thens (whole m cs) (run m cs).events (reached m cs) (marked m cs) _ (step_tells m cs c) (whole m (c ∷ cs)) (reached m (c ∷ cs))

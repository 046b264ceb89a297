-- Order 4, who carries the ordinal that reason 7 names. The applied one, if not settled: a kept one that is not Done applying.
-- The one after: that of a commit before the last, so its status is stored; not taken, so not finished; and of no number that
-- is folded away, since those are passed. Assumes nothing.
use Prim.Native.Nat.{ℕ, zero, suc, ◌+◌, ◌-◌, ◌≤◌, ◌<◌}
use native.Mathlib.Omega.{arith}
use mathlib.Core.List.{List, [], ◌∷◌}
use mathlib.Core.Bool.{Bool, true, false, not, ◌&&◌, ◌||◌}
use mathlib.Core.Path.{◌≡◌, refl, sym, ap, ◌∙◌, subst}
use lib.Dec.{eqb, leb}
use lib.ListN.{length, get_or}
use borrow.Author.Tests.{eqb-true, leb-true, leb-false}
use Rattle.kinds.specs.declared.Transaction.{Transaction}
use Rattle.kinds.specs.declared.Side.{Side}
use Rattle.kinds.specs.declared.Status.{Status}
use Rattle.kinds.specs.declared.Status.TheVariants.{None, Pending, InProgress, Complete, Aborted, Canceled, Failed}
use Rattle.kinds.specs.Statuses.{done}
use Rattle.rules.specs.ApplyRollback.{was_tried}
use Rattle.machine.specs.State.{State, blank, place_of, entry_of, last}
use Rattle.machine.specs.WellFormed.{all_from, all_at_most}
use Rattle.machine.specs.Settled.{side_settled, entry_settled, settled}
use Rattle.machine.specs.Calls.{Call}
use Rattle.machine.specs.Step.{run}
use Rattle.machine.specs.Why.{closes, holds}
use Rattle.machine.proofs.Cases.{and_right}
use Rattle.machine.proofs.Waits.{one_after}
use Rattle.history.specs.Ops.{Op, push, pop, pushed, pushed_low, popped, popped_low, stack, on_top_holds, Rising, op_at, first, first_rises, top_standing, sub_pushed, sub_popped, clash, crash}
use Rattle.history.specs.Invariant.{Invariant, complete, is_ended, change_touched, rollback_touched}
use Rattle.history.specs.Frames.{by_bool, some_change, some_rollback, paired}
use Rattle.history.specs.Whole.{shown, Front, Passed}
use Rattle.history.specs.Explained.{by_change, by_rollback, Carried}
use Rattle.history.proofs.Applies as applies
use Rattle.history.proofs.Jobs as jobs
use Rattle.history.proofs.Follow.{entry_seen, last_seen}
use Rattle.history.proofs.Fronts.{ways}
use Rattle.history.proofs.Reached.{folded}
use Rattle.history.specs.Stages.{Stages}
use Rattle.history.proofs.Staged.{differ, staged}
use Rattle.history.proofs.Places.{op_at_pushed, op_at_popped, push_once, pop_once, some_op}
use Rattle.history.proofs.Reasons.{holds_seen}

-- ---- not settled, in any state: what is not Done applying carries the applied ordinal
some_false : {R : Type 0} (p : ℕ → Transaction → Bool) (k : ℕ) (l : List Transaction) → all_from p k l ≡ false → ((j : ℕ) → j < length l → p (k + j) (get_or l j blank) ≡ false → R) → R
unfolding all_from all_at_most
some_false p k [] e f = clash e
some_false {R} p k (t ∷ ts) e f = go (p k t) refl e (some_false p (k + 1) ts)
  where
    go : (b : Bool) → p k t ≡ b → (b && all_from p (k + 1) ts) ≡ false
        → (all_from p (k + 1) ts ≡ false → ((j : ℕ) → j < length ts → p (k + 1 + j) (get_or ts j blank) ≡ false → R) → R)
        → R
    go true x y r = r y (λ j q z. f (suc j) (omega arith) (let h : k + suc j ≡ k + 1 + j = omega arith in rw h z))
    go false x y r = f 0 (omega arith) (let h : k + 0 ≡ k = omega arith in rw h x)

not_done : (o : ℕ) (x : Side) → side_settled o x ≡ false → (x.ordinal.0 ≡ o) × (done x.apply ≡ false)
not_done o x = go (eqb x.ordinal.0 o) refl
  where
    go : (b : Bool) → eqb x.ordinal.0 o ≡ b → (not b || done x.apply) ≡ false → (x.ordinal.0 ≡ o) × (done x.apply ≡ false)
    go true e f = (eqb-true _ _ e, f)
    go false e f = clash f

pub applied_carried : (s : State) → settled s ≡ false → Carried s s.applied.head.ordinal.0
applied_carried s e = some_false (entry_settled a) (suc s.log.folded.0) s.log.entries (neither (eqb a 0) _ e) at
  where
    a : ℕ
    a = s.applied.head.ordinal.0

    neither : (x y : Bool) → (x || y) ≡ false → y ≡ false
    neither true y e = clash e
    neither false y e = e

    by : (x : ℕ) → s.log.folded.0 < x → x ≤ last s.log → entry_settled a x (entry_of s.log x) ≡ false → Carried s a
    by x p q = go (side_settled a (entry_of s.log x).change) refl
      where
        go : (b : Bool) → side_settled a (entry_of s.log x).change ≡ b → (b && side_settled a (entry_of s.log x).rollback) ≡ false → Carried s a
        go true y z =
            let h = not_done a (entry_of s.log x).rollback z in
            record { number = x; kept = (p, q); carries = by_rollback h.0 (ap (λ d. d && not (closes s 4 x)) h.1) }
        go false y z =
            let h = not_done a (entry_of s.log x).change y in
            record { number = x; kept = (p, q); carries = by_change h.0 (ap (λ d. d && not (closes s 2 x)) h.1) }

    at : (j : ℕ) → j < length s.log.entries → entry_settled a (suc s.log.folded.0 + j) (get_or s.log.entries j blank) ≡ false → Carried s a
    at j q f =
        let z : suc s.log.folded.0 + j - s.log.folded.0 ≡ suc j = omega arith in
        by (suc s.log.folded.0 + j) (omega arith) (omega arith) (subst (λ n. entry_settled a 0 (place_of s.log.entries n) ≡ false) (sym z) f)

-- ---- settled: the ordinal after the applied one, of a commit before the last
complete_cases : {R : Type 0} (c : Status) (x y : ℕ) → complete c x y ≡ true → (c ≡ Complete → R) → (c ≡ InProgress → x ≡ y → R) → R
complete_cases None x y e f g = crash e
complete_cases Pending x y e f g = crash e
complete_cases InProgress x y e f g = g refl (eqb-true x y e)
complete_cases Complete x y e f g = f refl
complete_cases Aborted x y e f g = crash e
complete_cases Canceled x y e f g = crash e
complete_cases Failed x y e f g = crash e

module _ {w : State} {ops acts : List Op} {bad : List ℕ} (inv : Invariant w ops acts bad) where
  abbrev a : ℕ
  a = w.applied.head.ordinal.0

  abbrev en : ℕ → Transaction
  en k = entry_of w.log k

  abbrev rising : Rising ops
  rising = inv.committed.rising

  -- ---- the next op, not the last, has its status stored, and carries its ordinal
  module _ (x : ℕ) (q : suc a < length ops) where
    change_stored : op_at ops (suc a) ≡ push x → ((en x).change.commit ≡ Complete) × ((en x).change.ordinal.0 ≡ suc a)
    change_stored e =
        let co = inv.committed.entries x in
        complete_cases (en x).change.commit w.change.0 x (sym co.done ∙ op_at_pushed ops _ x e)
        (λ g. (g, place _ refl (paired (en x).change.commit Complete (en x).change.apply (en x).change.ordinal.0 g (inv.sides x).change)))
        (λ g h. absurd (omega (arith, once _ (co.closing g (omega arith)).last, inv.committed.count)))
      where
        once : (o : ℕ) → op_at ops o ≡ push x → o ≡ suc a
        once o g = push_once ops rising o (suc a) x g e

        place : (o : ℕ) → (en x).change.ordinal.0 ≡ o → 1 ≤ o → o ≡ suc a
        place zero g h = absurd (omega arith)
        place (suc o) g h = once (suc o) ((inv.numbered x).change o g)

    rollback_stored : op_at ops (suc a) ≡ pop x → ((en x).rollback.commit ≡ Complete) × ((en x).rollback.ordinal.0 ≡ suc a)
    rollback_stored e =
        let co = inv.committed.entries x in
        complete_cases (en x).rollback.commit w.committed.head.revision.0 (en x).index.0 (sym co.undone ∙ gone)
        (λ g. (g, place _ refl (paired (en x).rollback.commit Complete (en x).rollback.apply (en x).rollback.ordinal.0 g (inv.sides x).rollback)))
        (λ g h. absurd (omega (arith, once _ (co.returned g (not_top g)).last, inv.committed.count)))
      where
        gone : popped x ops ≡ true
        gone = op_at_popped ops _ x e

        once : (o : ℕ) → op_at ops o ≡ pop x → o ≡ suc a
        once o g = pop_once ops rising o (suc a) x g e

        place : (o : ℕ) → (en x).rollback.ordinal.0 ≡ o → 1 ≤ o → o ≡ suc a
        place zero g h = absurd (omega arith)
        place (suc o) g h = once (suc o) ((inv.numbered x).rollback o g)

        -- what was popped is not the revision
        not_top : (en x).rollback.commit ≡ InProgress → x ≡ w.committed.head.revision.0 → ⊥
        not_top g h =
            let p : 1 ≤ x = some_rollback w.log x (λ z. differ InProgress None refl (sym g ∙ z)) in
            clash (sym (and_right (pushed x ops) (not (popped x ops)) (top_standing ops rising x (on_top_holds (stack ops) x (sym (h ∙ inv.committed.tip)) p))) ∙ ap not gone)

  -- ---- the next op was not taken
  module _ (x : ℕ) where
    rises : Rising (first ops a)
    rises = first_rises ops a rising

    not_taken : (en x).change.ordinal.0 ≡ suc a → (en x).change.apply ≡ Complete → ⊥
    not_taken o e =
        let z : pushed x acts ≡ true = (inv.applied.entries x).change.taken ∙ ap (λ c. complete c a (en x).change.ordinal.0) e in
        omega (arith, pushed_low (first ops a) rises x (sub_pushed x inv.applied.sub z), applies.push_above (jobs.side inv) x o)

    not_returned : (en x).rollback.ordinal.0 ≡ suc a → (en x).rollback.apply ≡ Complete → ⊥
    not_returned o e =
        let z : popped x acts ≡ true = (inv.applied.entries x).rollback.returned ∙ ap (λ c. complete c a (en x).rollback.ordinal.0) e in
        clash (sym (and_right (pushed x (first ops a)) (not (popped x (first ops a))) (top_standing (first ops a) rises x (applies.pop_under (jobs.side inv) x o)))
        ∙ ap not (sub_popped x inv.applied.sub z))

    -- so its job is not finished: where its apply is Done, the closing store is left
    change_unfinished : Stages w → (en x).change.commit ≡ Complete → (en x).change.ordinal.0 ≡ suc a → holds w 2 x 1 ≡ false
    change_unfinished st m o = go (en x).change.apply refl
      where
        go : (c : Status) → (en x).change.apply ≡ c → holds w 2 x 1 ≡ false
        go None e = rw e refl
        go Pending e = rw e refl
        go InProgress e = rw e refl
        go Complete e = absurd (not_taken o e)
        go Aborted e = rw (e, m, one_after a (en x).change.ordinal.0 o) refl
        go Canceled e = differ Complete Failed refl (sym m ∙ (st.entries x).canceled e)
        go Failed e = rw (e, m, one_after a (en x).change.ordinal.0 o) refl

    rollback_unfinished : Stages w → (en x).rollback.commit ≡ Complete → (en x).rollback.ordinal.0 ≡ suc a → holds w 4 x 1 ≡ false
    rollback_unfinished st m o = go (en x).rollback.apply refl
      where
        go : (c : Status) → (en x).rollback.apply ≡ c → holds w 4 x 1 ≡ false
        go None e = rw e refl
        go Pending e = rw e refl
        go InProgress e = rw e refl
        go Complete e = absurd (not_returned o e)
        go Aborted e = clash (sym (ap is_ended e) ∙ (st.entries x).sound)
        go Canceled e = rw (e, m, one_after a (en x).rollback.ordinal.0 o) refl
        go Failed e = clash (sym (ap is_ended e) ∙ (st.entries x).sound)

  -- ---- and it is kept: what is folded away was passed
  module _ (b : ℕ) (vs : List ℕ) (f : Front w.log b vs) (over : Passed w b) (x : ℕ) where
    change_kept : (en x).change.commit ≡ Complete → (en x).change.ordinal.0 ≡ suc a → b < x
    change_kept m o = by_bool (leb x b) (λ y. absurd (folded (leb-true x b y))) (λ y. leb-false x b y)
      where
        folded : x ≤ b → ⊥
        folded q =
            ways inv x (f.finished x p q) (λ g h u. differ Failed Complete refl (sym g ∙ m)) (λ g h i u. not_taken x o h) (λ g h i d. tried (en x).change.apply refl d) (λ g h i d. passed (ap change_touched d))
          where
            p : 1 ≤ x
            p = some_change w.log x (λ z. differ Complete None refl (sym m ∙ z))

            passed : change_touched (en x).change.apply ≡ true → ⊥
            passed e = omega (arith, (over.entries x p q).change e)

            tried : (c : Status) → (en x).change.apply ≡ c → was_tried (en x).change.apply ≡ true → ⊥
            tried None e g = crash (sym (ap was_tried e) ∙ g)
            tried Pending e g = crash (sym (ap was_tried e) ∙ g)
            tried InProgress e g = crash (sym (ap was_tried e) ∙ g)
            tried Complete e g = not_taken x o e
            tried Aborted e g = passed (ap change_touched e)
            tried Canceled e g = crash (sym (ap was_tried e) ∙ g)
            tried Failed e g = passed (ap change_touched e)

    rollback_kept : (en x).rollback.commit ≡ Complete → (en x).rollback.ordinal.0 ≡ suc a → b < x
    rollback_kept m o = by_bool (leb x b) (λ y. absurd (folded (leb-true x b y))) (λ y. leb-false x b y)
      where
        asked : (en x).rollback.commit ≡ None → ⊥
        asked z = differ Complete None refl (sym m ∙ z)

        folded : x ≤ b → ⊥
        folded q =
            let p : 1 ≤ x = some_rollback w.log x asked in
            ways inv x (f.finished x p q) (λ g h u. asked u.commit) (λ g h i u. asked u.commit) (λ g h i d. not_returned x o i)
            (λ g h i d. omega (arith, (over.entries x p q).rollback (ap rollback_touched i)))

  -- ---- so one that is kept carries it
  after_carried : Stages w → (b : ℕ) (vs : List ℕ) (f : Front w.log b vs) → Passed w b → suc a < length ops → Carried (shown w b vs) (suc a)
  after_carried st b vs f over q = some_op ops rising (suc a) (omega arith) (omega arith) change rollback
    where
      change : (x : ℕ) → op_at ops (suc a) ≡ push x → Carried (shown w b vs) (suc a)
      change x e =
          let h = change_stored x q e in
          let k : b < x = change_kept b vs f over x h.0 h.1 in
          let l : x ≤ last w.log = omega (arith, pushed_low ops rising x (op_at_pushed ops _ x e), inv.committed.newest, inv.committed.high) in
          record {
            number = x;
            kept = (k, omega (arith, last_seen w b vs f));
            carries = by_change (ap (λ t. t.change.ordinal.0) (entry_seen w b vs f x k) ∙ h.1) (holds_seen inv st b vs f x k 2 1 ∙ change_unfinished x st h.0 h.1);
          }

      rollback : (x : ℕ) → op_at ops (suc a) ≡ pop x → Carried (shown w b vs) (suc a)
      rollback x e =
          let h = rollback_stored x q e in
          let k : b < x = rollback_kept b vs f over x h.0 h.1 in
          let l : x ≤ last w.log = omega (arith, popped_low ops rising x (op_at_popped ops _ x e), inv.committed.newest, inv.committed.high) in
          record {
            number = x;
            kept = (k, omega (arith, last_seen w b vs f));
            carries = by_rollback (ap (λ t. t.rollback.ordinal.0) (entry_seen w b vs f x k) ∙ h.1) (holds_seen inv st b vs f x k 4 1 ∙ rollback_unfinished x st h.0 h.1);
          }

-- ---- the theorem
pub next_carried : (m : Bool) (cs : List Call) → (let s = (run m cs).state in suc s.applied.head.ordinal.0 < s.committed.head.ordinal.0 → Carried s (suc s.applied.head.ordinal.0))
next_carried m cs =
    let x = folded m cs in
    subst (λ s. suc s.applied.head.ordinal.0 < s.committed.head.ordinal.0 → Carried s (suc s.applied.head.ordinal.0)) (sym x.shows)
    (λ q. after_carried x.reached.inv (staged m cs) x.fold x.base x.front x.passed (omega (arith, x.reached.inv.committed.count)))

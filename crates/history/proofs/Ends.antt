-- Order 2, where no job is possible: in a reached state where every job answers 11, all is finished but rollbacks of
-- changes that are not the newest live one. The reasons of order 4 say what each job waits for. Assumes nothing.
use Prim.Native.Nat.{ℕ, zero, suc, ◌+◌, ◌≤◌, ◌<◌}
use native.Mathlib.Omega.{arith}
use mathlib.Core.List.{List}
use mathlib.Core.Bool.{true, false, not, ◌||◌, cond}
use mathlib.Core.Path.{◌≡◌, refl, sym, ap, ◌∙◌}
use lib.Dec.{eqb, ltb}
use lib.ListN.{length}
use borrow.Author.Tests.{eqb-true, eq-eqb, ne_eqb, ltb-true, ltb-false}
use Rattle.kinds.specs.declared.Transaction.{Transaction}
use Rattle.kinds.specs.declared.Side.{Side}
use Rattle.kinds.specs.declared.Status.{Status}
use Rattle.kinds.specs.declared.Status.TheVariants.{None, Pending, InProgress, Complete, Aborted, Canceled, Failed}
use Rattle.kinds.specs.Statuses.{done, is_complete}
use Rattle.machine.specs.State.{State, entry_of, last, line_open_for}
use Rattle.machine.specs.Settled.{side_settled, entry_settled, settled}
use Rattle.machine.specs.WellFormed.{all_entries}
use Rattle.machine.specs.Rest.{rest_of}
use Rattle.machine.specs.Calls.{present_of, plan_of}
use Rattle.machine.specs.Calls as calls
use Rattle.machine.proofs.Cases.{and_right}
use Rattle.machine.proofs.Entries.{true_entries, and_both}
use Rattle.machine.specs.Why.{holds}
use Rattle.machine.proofs.Waits.{Waits1, Waits2, Waits3, Waits4, waits1, waits2, waits3, waits4}
use Rattle.history.specs.Ops.{Op, push, pop, pushed, stack, op_at, op_at_in, pushed_low, popped_pushed, first, first_rises, top_standing, sub_pushed, sub_popped, or_late, clash, crash}
use Rattle.history.specs.Invariant.{Invariant, Paired, complete, is_ended}
use Rattle.history.specs.Frames.{by_eq, by_bool, some_change, some_rollback, paired}
use Rattle.history.proofs.Commits.{asked}
use Rattle.history.proofs.Applies as applies
use Rattle.history.proofs.Jobs as jobs
use Rattle.history.specs.Finished.{Rollback, unasked, finished, under, Ended}
use Rattle.history.specs.Stages.{Mode, rests, flies, closes, returns, closes_back, Stages}
use Rattle.history.proofs.Staged.{differ}
use Rattle.history.proofs.Places.{op_at_pushed, op_at_popped, push_place, push_once, pop_once, some_op}
use Rattle.history.proofs.Reasons.{Says, committed_low, closing_is, returned_is, live_asked, eighth_1, eighth_2, eighth_3, eighth_4}

module _ {s : State} {ops acts : List Op} {bad : List ℕ} (inv : Invariant s ops acts bad) (st : Stages s) (n : ℕ)
    (says : (k : ℕ) → 1 ≤ k → k ≤ last s.log → Says (entry_of s.log k))
    (idle : (j i : ℕ) → 1 ≤ j → j ≤ 4 → 1 ≤ i → i ≤ last s.log → (plan_of s n j i false).answer ≡ 11) where
  abbrev en : ℕ → Transaction
  en k = entry_of s.log k

  abbrev c : ℕ
  c = s.change.0

  abbrev v : ℕ
  v = s.committed.head.revision.0

  abbrev a : ℕ
  a = s.applied.head.ordinal.0

  module _ (k : ℕ) (p : 1 ≤ k) (q : k ≤ last s.log) where
    idle_1 : (calls.job1 s k false).answer ≡ 11
    unfolding plan_of
    idle_1 = idle 1 k (omega arith) (omega arith) p q

    idle_2 : (calls.job2 s n k false).answer ≡ 11
    unfolding plan_of
    idle_2 = idle 2 k (omega arith) (omega arith) p q

    idle_3 : (calls.job3 s k).answer ≡ 11
    unfolding plan_of
    idle_3 = idle 3 k (omega arith) (omega arith) p q

    idle_4 : (calls.job4 s n k false).answer ≡ 11
    unfolding plan_of
    idle_4 = idle 4 k (omega arith) (omega arith) p q

    w1 : Waits1 (en k) s.committed.head k s.change (rest_of s) (present_of s (en k)) false idle_1
    w1 = waits1 (en k) s.committed.head k s.change (rest_of s) (present_of s (en k)) false idle_1

    w3 : Waits3 (en k) s.committed.head k (rest_of s) idle_3
    w3 = waits3 (en k) s.committed.head k (rest_of s) idle_3

    w2 : (m : (en k).change.commit ≡ Complete) → Waits2 (en k) s.applied.head k (settled s) (line_open_for s.net n) false m idle_2
    w2 m = waits2 (en k) s.applied.head k (settled s) (line_open_for s.net n) false m idle_2

    w4 : (m : (en k).rollback.commit ≡ Complete) → Waits4 (en k) s.applied.head k (settled s) (line_open_for s.net n) false m idle_4
    w4 m = waits4 (en k) s.applied.head k (settled s) (line_open_for s.net n) false m idle_4

    -- one of the reasons that the job uses
    reasons_1 : {R : Type 0} → (holds s 1 k 1 ≡ true → R) → (holds s 1 k 3 ≡ true → R) → (holds s 1 k 4 ≡ true → R) → R
    reasons_1 f g h =
        by_bool (holds s 1 k 1) f (λ x. by_bool (holds s 1 k 3) g (λ y. by_bool (holds s 1 k 4) h (λ z. absurd (eighth_1 inv st k (says k p q) false idle_1 x y z))))

    reasons_2 : {R : Type 0} → (holds s 2 k 1 ≡ true → R) → (holds s 2 k 6 ≡ true → R) → (holds s 2 k 7 ≡ true → R) → R
    reasons_2 f g h =
        by_bool (holds s 2 k 1) f (λ x. by_bool (holds s 2 k 6) g (λ y. by_bool (holds s 2 k 7) h (λ z. absurd (eighth_2 inv st k (says k p q) n false idle_2 x y z))))

    reasons_3 : {R : Type 0} → (holds s 3 k 1 ≡ true → R) → (holds s 3 k 2 ≡ true → R) → (holds s 3 k 4 ≡ true → R) → (holds s 3 k 5 ≡ true → R) → R
    reasons_3 f g h i =
        by_bool (holds s 3 k 1) f
        (λ x. by_bool (holds s 3 k 2) g (λ y. by_bool (holds s 3 k 4) h (λ z. by_bool (holds s 3 k 5) i (λ u. absurd (eighth_3 inv st k idle_3 x y z u)))))

    reasons_4 : {R : Type 0} → (holds s 4 k 1 ≡ true → R) → (holds s 4 k 6 ≡ true → R) → (holds s 4 k 7 ≡ true → R) → R
    reasons_4 f g h =
        by_bool (holds s 4 k 1) f (λ x. by_bool (holds s 4 k 6) g (λ y. by_bool (holds s 4 k 7) h (λ z. absurd (eighth_4 inv st k (says k p q) n false idle_4 x y z))))

  -- ---- the commit side is at rest, and every change is through
  at_rest : rest_of s ≡ true
  at_rest = by_mode st.mode
    where
      by_mode : Mode s.log c s.committed.head → rest_of s ≡ true
      by_mode (rests e) = e
      by_mode (flies e b) = absurd (go (en (suc c)).change.commit refl)
        where
          w : Waits1 (en (suc c)) s.committed.head (suc c) s.change (rest_of s) (present_of s (en (suc c))) false (idle_1 (suc c) (omega arith) b)
          w = w1 (suc c) (omega arith) b

          go : (x : Status) → (en (suc c)).change.commit ≡ x → ⊥
          go None p = (says (suc c) (omega arith) b).0 p
          go Pending p = (w.pending p refl).0 e
          go InProgress p = (w.begun p).0 refl
          go Complete p = omega (arith, committed_low inv st (suc c) p)
          go Aborted p = paired (en (suc c)).change.commit Aborted _ _ p (inv.sides (suc c)).change
          go Canceled p = paired (en (suc c)).change.commit Canceled _ _ p (inv.sides (suc c)).change
          go Failed p = w.failed p refl
      by_mode (closes k e b) =
          absurd (((w1 k (some_change s.log k (λ z. differ InProgress None refl (sym e ∙ z))) (omega (arith, inv.committed.high))).begun e).1 (closing_is inv st k e b))
      by_mode (returns e f g) = absurd (go (en v).rollback.commit refl)
        where
          w : Waits3 (en v) s.committed.head v (rest_of s) (idle_3 v (some_rollback s.log v f) (omega (arith, inv.committed.low, inv.committed.mid, inv.committed.high)))
          w = w3 v (some_rollback s.log v f) (omega (arith, inv.committed.low, inv.committed.mid, inv.committed.high))

          go : (x : Status) → (en v).rollback.commit ≡ x → ⊥
          go None p = f p
          go Pending p = (w.pending p refl).0 e
          go InProgress p = (w.begun p).0 refl
          go Complete p = clash (sym (ap done p) ∙ g)
          go Aborted p = clash (sym (ap done p) ∙ g)
          go Canceled p = clash (sym (ap done p) ∙ g)
          go Failed p = clash (sym (ap done p) ∙ g)
      by_mode (closes_back k e f) =
          absurd (((w3 k (some_rollback s.log k (λ z. differ InProgress None refl (sym e ∙ z))) (omega (arith, asked inv.committed k e, inv.committed.high))).begun e).1 (returned_is inv st k e f))

  through : last s.log ≤ c
  through = by_bool (ltb c (last s.log)) (λ e. absurd (go (ltb-true c _ e) (en (suc c)).change.commit refl)) (λ e. ltb-false c _ e)
    where
      go : c < last s.log → (x : Status) → (en (suc c)).change.commit ≡ x → ⊥
      go b None p = (says (suc c) (omega arith) b).0 p
      go b Pending p = ((w1 (suc c) (omega arith) b).pending p refl).1 at_rest
      go b InProgress p = ((w1 (suc c) (omega arith) b).begun p).0 refl
      go b Complete p = omega (arith, committed_low inv st (suc c) p)
      go b Aborted p = paired (en (suc c)).change.commit Aborted _ _ p (inv.sides (suc c)).change
      go b Canceled p = paired (en (suc c)).change.commit Canceled _ _ p (inv.sides (suc c)).change
      go b Failed p = (w1 (suc c) (omega arith) b).failed p refl

  -- ---- the apply side is settled, and every commit is passed
  module _ (k : ℕ) (p : 1 ≤ k) (q : k ≤ last s.log) where
    side_done : (x : Side) → (x.ordinal.0 ≡ a → done x.apply ≡ true) → side_settled a x ≡ true
    side_done x f =
        by_eq x.ordinal.0 a (λ e. or_late (not (eqb x.ordinal.0 a)) _ (f e)) (λ e. ap (λ b. not b || done x.apply) (ne_eqb x.ordinal.0 a e))

    -- an ordinal is carried only by what is committed
    carries : (x y : Status) (o : ℕ) → Paired x y o → 1 ≤ o → x ≡ Complete
    carries None y o e b = absurd (omega (arith, e.1))
    carries Pending y o e b = absurd (omega (arith, e.1))
    carries InProgress y o e b = absurd (omega (arith, e.1))
    carries Complete y o e b = refl
    carries Aborted y o e b = absurd e
    carries Canceled y o e b = absurd e
    carries Failed y o e b = absurd (omega (arith, e.1))

    change_done : 1 ≤ a → (en k).change.ordinal.0 ≡ a → done (en k).change.apply ≡ true
    change_done b o = go (en k).change.apply refl
      where
        m : (en k).change.commit ≡ Complete
        m = carries (en k).change.commit _ (en k).change.ordinal.0 (inv.sides k).change (omega arith)

        go : (x : Status) → (en k).change.apply ≡ x → done x ≡ true
        go None e = absurd ((says k p q).1 e)
        go Pending e = absurd (omega (arith, (st.entries k).change.waits m e))
        go InProgress e = absurd (((w2 k p q m).begun e).1 (omega arith) (sym o))
        go Complete e = refl
        go Aborted e = refl
        go Canceled e = refl
        go Failed e = refl

    rollback_done : 1 ≤ a → (en k).rollback.ordinal.0 ≡ a → done (en k).rollback.apply ≡ true
    rollback_done b o = go (en k).rollback.apply refl
      where
        m : (en k).rollback.commit ≡ Complete
        m = carries (en k).rollback.commit _ (en k).rollback.ordinal.0 (inv.sides k).rollback (omega arith)

        go : (x : Status) → (en k).rollback.apply ≡ x → done x ≡ true
        go None e = absurd (((st.entries k).asked (λ z. differ Complete None refl (sym m ∙ z))).1 e)
        go Pending e = absurd (omega (arith, (st.entries k).rollback.waits m e))
        go InProgress e = absurd (((w4 k p q m).begun e).1 (omega arith) (sym o))
        go Complete e = refl
        go Aborted e = refl
        go Canceled e = refl
        go Failed e = refl

  all_settled : settled s ≡ true
  all_settled =
      by_eq a 0 (λ e. ap (λ b. b || all_entries (entry_settled a) s.log) (eq-eqb a 0 e))
      (λ e. or_late (eqb a 0) _ (true_entries (entry_settled a) s.log (λ k p q. each k (omega arith) q (λ z. e z))))
    where
      each : (k : ℕ) → 1 ≤ k → k ≤ last s.log → (a ≡ 0 → ⊥) → entry_settled a k (en k) ≡ true
      each k p q e =
          and_both (side_settled a (en k).change) _ (side_done k p q (en k).change (change_done k p q (omega arith))) (side_done k p q (en k).rollback (rollback_done k p q (omega arith)))

  -- a stage's reason 7 names the ordinal after the applied one
  not_next : (o : ℕ) → o ≤ suc a → ltb (cond (settled s) (a + 1) a) o ≡ true → ⊥
  not_next o b e = omega (arith, ltb-true (a + 1) o (rw all_settled at e))

  -- the op after the applied ordinal would be possible
  module _ (k : ℕ) (p : 1 ≤ k) (q : k ≤ last s.log) where
    no_push : op_at ops (suc a) ≡ push k → ⊥
    no_push e = reasons_2 k p q ends (λ z. crash (sym (ap (λ x. not (is_complete x)) m) ∙ z)) (λ z. not_next (en k).change.ordinal.0 (omega (arith, o)) z)
      where
        m : (en k).change.commit ≡ Complete
        m = go (en k).change.commit refl (sym (inv.committed.entries k).done ∙ op_at_pushed ops (suc a) k e)
          where
            go : (x : Status) → (en k).change.commit ≡ x → complete (en k).change.commit c k ≡ true → (en k).change.commit ≡ Complete
            go None z f = crash (sym (ap (λ x. complete x c k) z) ∙ f)
            go Pending z f = crash (sym (ap (λ x. complete x c k) z) ∙ f)
            go InProgress z f = absurd (((w1 k p q).begun z).1 (eqb-true c k (sym (ap (λ x. complete x c k) z) ∙ f)))
            go Complete z f = z
            go Aborted z f = crash (sym (ap (λ x. complete x c k) z) ∙ f)
            go Canceled z f = crash (sym (ap (λ x. complete x c k) z) ∙ f)
            go Failed z f = crash (sym (ap (λ x. complete x c k) z) ∙ f)

        o : (en k).change.ordinal.0 ≡ suc a
        o = go (en k).change.ordinal.0 refl (paired (en k).change.commit Complete (en k).change.apply (en k).change.ordinal.0 m (inv.sides k).change)
          where
            go : (x : ℕ) → (en k).change.ordinal.0 ≡ x → 1 ≤ x → x ≡ suc a
            go zero z b = absurd (omega arith)
            go (suc x) z b = push_once ops inv.committed.rising (suc x) (suc a) k ((inv.numbered k).change x z) e

        ends : holds s 2 k 1 ≡ true → ⊥
        ends h = go (en k).change.apply refl
          where
            go : (x : Status) → (en k).change.apply ≡ x → ⊥
            go None z = crash (rw z at h)
            go Pending z = crash (rw z at h)
            go InProgress z = crash (rw z at h)
            go Complete z =
                omega (
                  arith,
                  push_place ops inv.committed.rising (suc a) a k e
                      (sub_pushed k inv.applied.sub ((inv.applied.entries k).change.taken ∙ ap (λ x. complete x a (en k).change.ordinal.0) z)),
                )
            go Aborted z = (w2 k p q m).aborted z o
            go Canceled z = differ Complete Failed refl (sym m ∙ (st.entries k).canceled z)
            go Failed z = (w2 k p q m).failed z o

    no_pop : op_at ops (suc a) ≡ pop k → ⊥
    no_pop e = reasons_4 k p q ends (λ z. crash (sym (ap (λ x. not (is_complete x)) m) ∙ z)) (λ z. not_next (en k).rollback.ordinal.0 (omega (arith, o)) z)
      where
        m : (en k).rollback.commit ≡ Complete
        m = go (en k).rollback.commit refl (sym (inv.committed.entries k).undone ∙ op_at_popped ops (suc a) k e)
          where
            go : (x : Status) → (en k).rollback.commit ≡ x → complete (en k).rollback.commit v (en k).index.0 ≡ true → (en k).rollback.commit ≡ Complete
            go None z f = crash (sym (ap (λ x. complete x v (en k).index.0) z) ∙ f)
            go Pending z f = crash (sym (ap (λ x. complete x v (en k).index.0) z) ∙ f)
            go InProgress z f = absurd (((w3 k p q).begun z).1 (eqb-true v (en k).index.0 (sym (ap (λ x. complete x v (en k).index.0) z) ∙ f)))
            go Complete z f = z
            go Aborted z f = crash (sym (ap (λ x. complete x v (en k).index.0) z) ∙ f)
            go Canceled z f = crash (sym (ap (λ x. complete x v (en k).index.0) z) ∙ f)
            go Failed z f = crash (sym (ap (λ x. complete x v (en k).index.0) z) ∙ f)

        o : (en k).rollback.ordinal.0 ≡ suc a
        o = go (en k).rollback.ordinal.0 refl (paired (en k).rollback.commit Complete (en k).rollback.apply (en k).rollback.ordinal.0 m (inv.sides k).rollback)
          where
            go : (x : ℕ) → (en k).rollback.ordinal.0 ≡ x → 1 ≤ x → x ≡ suc a
            go zero z b = absurd (omega arith)
            go (suc x) z b = pop_once ops inv.committed.rising (suc x) (suc a) k ((inv.numbered k).rollback x z) e

        ends : holds s 4 k 1 ≡ true → ⊥
        ends h = go (en k).rollback.apply refl
          where
            go : (x : Status) → (en k).rollback.apply ≡ x → ⊥
            go None z = crash (rw z at h)
            go Pending z = crash (rw z at h)
            go InProgress z = crash (rw z at h)
            go Complete z =
                clash
                (sym (and_right (pushed k (first ops a)) _
                (top_standing (first ops a) (first_rises ops a inv.committed.rising) k (applies.pop_under (jobs.side inv) k o)))
                ∙ ap not (sub_popped k inv.applied.sub ((inv.applied.entries k).rollback.returned ∙ ap (λ x. complete x a (en k).rollback.ordinal.0) z)))
            go Aborted z = clash (sym (ap is_ended z) ∙ (st.entries k).sound)
            go Canceled z = (w4 k p q m).canceled z o
            go Failed z = clash (sym (ap is_ended z) ∙ (st.entries k).sound)

  -- an op is of an entry of the log
  push_in : (k : ℕ) → pushed k ops ≡ true → (1 ≤ k) × (k ≤ last s.log)
  push_in k e =
      let x = inv.committed in (
        some_change s.log k (λ z. crash (sym (ap (λ y. complete y c k) z) ∙ sym (x.entries k).done ∙ e)),
        omega (arith, pushed_low ops x.rising k e, x.newest, x.high),
      )

  applied_all : length ops ≤ a
  applied_all =
      by_bool (ltb a (length ops))
      (λ b. some_op ops inv.committed.rising (suc a) (omega arith) (ltb-true a _ b)
      (λ k e. let x = push_in k (op_at_pushed ops (suc a) k e) in absurd (no_push k x.0 x.1 e))
      (λ k e. let x = push_in k (popped_pushed ops inv.committed.rising k (op_at_popped ops (suc a) k e)) in absurd (no_pop k x.0 x.1 e)))
      (λ b. ltb-false a _ b)

  -- ---- every entry
  module _ (k : ℕ) (p : 1 ≤ k) (q : k ≤ last s.log) where
    change_low : (en k).change.ordinal.0 ≤ suc a
    change_low = go (en k).change.ordinal.0 refl
      where
        go : (o : ℕ) → (en k).change.ordinal.0 ≡ o → o ≤ suc a
        go zero e = omega arith
        go (suc o) e = omega (arith, op_at_in ops (suc o) (push k) refl ((inv.numbered k).change o e), applied_all)

    rollback_low : (en k).rollback.ordinal.0 ≤ suc a
    rollback_low = go (en k).rollback.ordinal.0 refl
      where
        go : (o : ℕ) → (en k).rollback.ordinal.0 ≡ o → o ≤ suc a
        go zero e = omega arith
        go (suc o) e = omega (arith, op_at_in ops (suc o) (pop k) refl ((inv.numbered k).rollback o e), applied_all)

    committed_1 : holds s 1 k 1 ≡ true
    committed_1 = reasons_1 k p q (λ e. e) (λ e. absurd (omega (arith, ltb-true (c + 1) k e, through))) (λ e. crash (sym (ap not at_rest) ∙ e))

    applied_1 : holds s 2 k 1 ≡ true
    applied_1 = go (en k).change.commit refl
      where
        go : (x : Status) → (en k).change.commit ≡ x → holds s 2 k 1 ≡ true
        go None e = absurd ((says k p q).0 e)
        go Pending e = absurd (omega (arith, (st.entries k).waits e, through))
        go InProgress e = absurd (((w1 k p q).begun e).1 (closing_is inv st k e (omega (arith, through))))
        go Complete e = reasons_2 k p q (λ h. h) (λ h. crash (sym (ap (λ x. not (is_complete x)) e) ∙ h)) (λ h. absurd (not_next (en k).change.ordinal.0 change_low h))
        go Aborted e = absurd (paired (en k).change.commit Aborted _ _ e (inv.sides k).change)
        go Canceled e = absurd (paired (en k).change.commit Canceled _ _ e (inv.sides k).change)
        go Failed e = rw (paired (en k).change.commit Failed (en k).change.apply (en k).change.ordinal.0 e (inv.sides k).change).0

    rollback_ends : Rollback s (stack ops) k
    rollback_ends = go (en k).rollback.commit refl
      where
        pair : (x : Status) → (en k).rollback.commit ≡ x → Paired x (en k).rollback.apply (en k).rollback.ordinal.0
        pair x e = paired (en k).rollback.commit x (en k).rollback.apply (en k).rollback.ordinal.0 e (inv.sides k).rollback

        go : (x : Status) → (en k).rollback.commit ≡ x → Rollback s (stack ops) k
        go None e = unasked e (pair None e).0
        go Pending e =
            under e (pair Pending e).0 (live_asked inv st k e)
            (reasons_3 k p q (λ h. crash (rw e at h)) (λ h. crash (rw e at h)) (λ h. crash (sym (ap not at_rest) ∙ h)) (λ h. ltb-true k v h))
        go InProgress e = absurd (by_eq k v (λ z. ((w3 k p q).begun e).0 (sym z)) (λ z. ((w3 k p q).begun e).1 (returned_is inv st k e z)))
        go Complete e =
            finished (rw e)
            (reasons_4 k p q (λ h. h) (λ h. crash (sym (ap (λ x. not (is_complete x)) e) ∙ h)) (λ h. absurd (not_next (en k).rollback.ordinal.0 rollback_low h)))
        go Aborted e = absurd (pair Aborted e)
        go Canceled e = absurd (pair Canceled e)
        go Failed e = finished (rw e) (rw ((pair Failed e).0, e))

    -- all is finished but rollbacks under a later live change
    pub ended : Ended s (stack ops) k
    ended = record { commit = committed_1; apply = applied_1; rollback = rollback_ends }

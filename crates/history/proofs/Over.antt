-- What is folded away had nothing left to do: where a fold is accepted, no job on any number that it folds away would be,
-- whatever the nodes, the line and the outcome; nor would the whole accept one ever after. So 18 hides no work. Assumes nothing.
use Prim.Native.Nat.{ℕ, ◌≤◌, ◌<◌}
use native.Mathlib.Omega.{arith}
use mathlib.Core.List.{List}
use mathlib.Core.Bool.{Bool, true, false, ◌&&◌, cond}
use mathlib.Core.Path.{◌≡◌, refl, sym, ap, ◌∙◌, subst}
use lib.Dec.{eqb, leb}
use borrow.Author.Tests.{leb-true, ltb-true}
use Rattle.kinds.specs.declared.Transaction.{Transaction}
use Rattle.kinds.specs.declared.Status.{Status}
use Rattle.kinds.specs.declared.Status.TheVariants.{None, Pending, InProgress, Complete, Aborted, Canceled, Failed}
use Rattle.rules.specs.declared.Plan.{Plan}
use Rattle.rules.specs.ApplyRollback.{was_tried}
use Rattle.machine.specs.State.{State, Net, entry_of, last, is_kept, line_open_for}
use Rattle.machine.specs.Stores.{with_net}
use Rattle.machine.specs.WellFormed.{well_formed}
use Rattle.machine.specs.Settled.{settled}
use Rattle.machine.specs.Rest.{rest_of}
use Rattle.machine.specs.Folding.{finished, may_fold}
use Rattle.machine.specs.Calls.{Call, Outcome, fold_to, unless, job1, job2, job3, job4, plan_of, present_of, decide}
use Rattle.machine.specs.Step.{outcome, step, run}
use Rattle.machine.proofs.Cases.{and_left, and_right, commit_change_holds, commit_rollback_holds, apply_change_holds, apply_rollback_holds}
use Rattle.history.specs.Ops.{Op, crash}
use Rattle.history.specs.Invariant.{change_touched, rollback_touched, Invariant}
use Rattle.history.specs.Whole.{whole, shown, EntryPassed, Passed}
use Rattle.history.proofs.Follow.{last_seen, plan_seen}
use Rattle.history.proofs.Fronts.{ways, rest_seen, settled_seen, ended, fold_passed}
use Rattle.history.proofs.Reached.{Folded, folded}

-- asked for, and not Done
abbrev going : Status → Bool
going None = false
going Pending = true
going InProgress = true
going Complete = false
going Aborted = false
going Canceled = false
going Failed = false

not_going : {A : Type 0} (c x : Status) → going c ≡ false → going x ≡ true → c ≡ x → A
not_going c x e f g = crash (sym e ∙ ap going g ∙ f)

tried_over : (c : Status) → was_tried c ≡ true → going c ≡ false
tried_over None e = crash e
tried_over Pending e = crash e
tried_over InProgress e = crash e
tried_over Complete e = refl
tried_over Aborted e = refl
tried_over Canceled e = refl
tried_over Failed e = refl

-- ---- entry i of the whole, finished and passed
module _ (w : State) {ops acts : List Op} {bad : List ℕ} (inv : Invariant w ops acts bad) (i : ℕ) (e : finished (entry_of w.log i) ≡ true) (low : i ≤ w.change.0)
    (p : EntryPassed w.applied.head.ordinal.0 (entry_of w.log i)) where
  abbrev t : Transaction
  t = entry_of w.log i

  commit_idle : going t.change.commit ≡ false
  commit_idle = ways inv i e (λ a b u. ap going a) (λ a b p u. ap going a) (λ a b c d. ap going a) (λ a b c d. ap going a)

  apply_idle : going t.change.apply ≡ false
  apply_idle = ways inv i e (λ a b u. ap going b) (λ a b p u. ap going b) (λ a b c d. tried_over t.change.apply d) (λ a b c d. ap going d)

  rollback_idle : going t.rollback.commit ≡ false
  rollback_idle = ways inv i e (λ a b u. ap going u.commit) (λ a b p u. ap going u.commit) (λ a b c d. ap going b) (λ a b c d. ap going b)

  return_idle : going t.rollback.apply ≡ false
  return_idle = ways inv i e (λ a b u. ap going u.apply) (λ a b p u. ap going u.apply) (λ a b c d. ap going c) (λ a b c d. ap going c)

  abbrev Refused : Plan → Type 0
  Refused p = (p.answer ≡ 0 → ⊥) × (p.answer ≡ 9 → ⊥)

  none_goes : (net : Net) (n : ℕ) (a b d ok : Bool)
      → Refused (cond a (job1 (with_net w net) i ok) (cond b (job2 (with_net w net) n i ok) (cond d (job3 (with_net w net) i) (job4 (with_net w net) n i ok))))
  none_goes net n true b d ok =
      commit_change_holds t w.committed.head i Refused w.change (rest_of w) (present_of w t) ok
      (record {
        wait = ((λ z. omega arith), (λ z. omega arith));
        full = λ x y z. not_going t.change.commit InProgress commit_idle refl x;
        begin = λ x y z. not_going t.change.commit Pending commit_idle refl x;
        aim = λ x y z. not_going t.change.commit Pending commit_idle refl x;
        land = λ x y z o u. not_going t.change.commit InProgress commit_idle refl x;
        reject = λ x y. not_going t.change.commit InProgress commit_idle refl x;
        finish = λ x y. not_going t.change.commit InProgress commit_idle refl x;
        close = λ x y. absurd (omega arith);
      })
  none_goes net n false true d ok =
      apply_change_holds t w.applied.head i Refused (settled w) (line_open_for net n) ok
      (record {
        wait = ((λ z. omega arith), (λ z. omega arith));
        no_line = ((λ z. omega arith), (λ z. omega arith));
        begin = λ m x y. not_going t.change.apply Pending apply_idle refl x;
        aim = λ m x y z. not_going t.change.apply Pending apply_idle refl x;
        abort = λ m x y z. not_going t.change.apply Pending apply_idle refl x;
        close_aborted = λ m x. absurd (omega (arith, m.1, p.change (ap change_touched x)));
        close_failed = λ m x. absurd (omega (arith, m.1, p.change (ap change_touched x)));
        finish = λ m x y. not_going t.change.apply InProgress apply_idle refl x;
        fail = λ m x. not_going t.change.apply InProgress apply_idle refl x;
        push = λ m x y. not_going t.change.apply InProgress apply_idle refl x;
      })
  none_goes net n false false true ok =
      commit_rollback_holds t w.committed.head i Refused (rest_of w)
      (record {
        wait = ((λ z. omega arith), (λ z. omega arith));
        full = λ x y z. not_going t.rollback.commit InProgress rollback_idle refl x;
        begin = λ x y z. not_going t.rollback.commit Pending rollback_idle refl x;
        aim = λ x y z. not_going t.rollback.commit Pending rollback_idle refl x;
        land = λ x y z o u. not_going t.rollback.commit InProgress rollback_idle refl x;
        finish = λ x y z. not_going t.rollback.commit InProgress rollback_idle refl x;
      })
  none_goes net n false false false ok =
      apply_rollback_holds t w.applied.head i Refused (settled w) (line_open_for net n) ok
      (record {
        wait = ((λ z. omega arith), (λ z. omega arith));
        no_line = ((λ z. omega arith), (λ z. omega arith));
        rejected = ((λ z. omega arith), (λ z. omega arith));
        begin = λ m x y z. not_going t.rollback.apply Pending return_idle refl x;
        aim = λ m x y z. not_going t.rollback.apply Pending return_idle refl x;
        cancel = λ m x y z. not_going t.rollback.apply Pending return_idle refl x;
        close = λ m x. absurd (omega (arith, m.1, p.rollback (ap rollback_touched x)));
        finish = λ m x y. not_going t.rollback.apply InProgress return_idle refl x;
        push = λ m x y. not_going t.rollback.apply InProgress return_idle refl x;
      })

pub plan_idle : (w : State) {ops acts : List Op} {bad : List ℕ} (inv : Invariant w ops acts bad) (b : ℕ) → Passed w b → (i : ℕ) → 1 ≤ i → i ≤ b → finished (entry_of w.log i) ≡ true
    → (net : Net) (n j : ℕ) (ok : Bool)
    → ((plan_of (with_net w net) n j i ok).answer ≡ 0 → ⊥) × ((plan_of (with_net w net) n j i ok).answer ≡ 9 → ⊥)
unfolding plan_of
plan_idle w inv b d i p q e net n j ok = none_goes w inv i e (omega (arith, d.change)) (d.entries i p q) net n (eqb j 1) (eqb j 2) (eqb j 3) ok

-- ---- for ever: no job on a number folded away would be accepted by the whole, by any node over any line
pub never_more : (m : Bool) (cs : List Call) (net : Net) (n j i : ℕ) (ok : Bool) → 1 ≤ i → i ≤ (run m cs).state.log.folded.0 → (plan_of (with_net (whole m cs) net) n j i ok).answer ≡ 0 → ⊥
never_more m cs net n j i ok p q =
    let x = folded m cs in
    let b : i ≤ x.fold = subst (λ s. i ≤ s.log.folded.0) x.shows q in
    (plan_idle (whole m cs) x.reached.inv x.fold x.passed i p b (x.front.finished i p b) net n j ok).0

-- ---- where a fold is accepted
unless_held : (a : ℕ) (t : Bool) (o : Outcome) → (a ≡ 0 → ⊥) → (unless a t o).reply.answer ≡ 0 → (t ≡ true) × (o.reply.answer ≡ 0)
unless_held a true o n e = (refl, e)
unless_held a false o n e = absurd (n e)

fold_accepted : (s : State) (b : ℕ) → (step s (fold_to b)).reply.answer ≡ 0 → (b ≤ last s.log) × (may_fold s b ≡ true) × (s.log.folded.0 < b)
unfolding step outcome decide
fold_accepted s b e =
    let x = unless_held 1 (well_formed s) _ (λ z. omega arith) e in
    let y = unless_held 5 (is_kept s b && leb b (last s.log)) _ (λ z. omega arith) x.1 in
    let z = unless_held 17 (may_fold s b) _ (λ z. omega arith) y.1 in
    (leb-true b _ (and_right (is_kept s b) _ y.0), z.0, ltb-true _ b (and_left (is_kept s b) _ y.0))

-- no job on what it folds away would be accepted, by any node over any line
pub nothing_left : (m : Bool) (cs : List Call) (b : ℕ) → (step (run m cs).state (fold_to b)).reply.answer ≡ 0 → (net : Net) (n j i : ℕ) (ok : Bool) → (run m cs).state.log.folded.0 < i → i ≤ b
    → (plan_of (with_net (run m cs).state net) n j i ok).answer ≡ 0
    → ⊥
nothing_left m cs b z net n j i ok p q =
    let x = folded m cs in
    subst (λ s. (step s (fold_to b)).reply.answer ≡ 0 → s.log.folded.0 < i → (plan_of (with_net s net) n j i ok).answer ≡ 0 → ⊥) (sym x.shows) (seen x) z p
  where
    seen : (x : Folded m cs) → (step (shown (whole m cs) x.fold x.base) (fold_to b)).reply.answer ≡ 0 → x.fold < i → (plan_of (with_net (shown (whole m cs) x.fold x.base) net) n j i ok).answer ≡ 0 → ⊥
    seen x e r =
        let w = whole m cs in
        let f = x.front in
        let inv = x.reached.inv in
        let s = shown w x.fold x.base in
        let m = fold_accepted s b e in
        let l : last s.log ≡ last w.log = last_seen w x.fold x.base f in
        subst (λ y. y.answer ≡ 0 → ⊥) (sym (plan_seen (with_net w net) x.fold x.base f (rest_seen inv x.fold x.base f) (settled_seen inv x.fold x.base f) n j i ok r))
        (plan_idle w inv b (fold_passed inv x.fold x.base f b m.2 (omega (arith, m.0, l)) m.1 x.passed) i (omega arith) q
        (ended inv x.fold x.base f b m.2 (omega (arith, m.0, l)) m.1 i (omega arith) q) net n j ok).0

-- In a state reached from fresh no call is refused with 1, and no job with 9: an ordinal is at most twice the highest
-- number given.
-- Assumes nothing.
use Prim.Native.Nat.{ℕ, zero, suc, ◌+◌, ◌≤◌}
use native.Mathlib.Omega.{arith}
use mathlib.Core.List.{List, [], ◌∷◌}
use mathlib.Core.Bool.{Bool, true, false, cond}
use mathlib.Core.Path.{◌≡◌, refl, sym, ap, ◌∙◌, subst}
use lib.Dec.{eqb, leb}
use lib.ListN.{length}
use borrow.Author.Tests.{leb-true, ltb-true}
use Rattle.kinds.specs.declared.Event.{Event}
use Rattle.kinds.specs.declared.Status.TheVariants.{Complete}
use Rattle.rules.specs.declared.Plan.{Plan}
use Rattle.machine.specs.State.{State, entry_of, last, in_log, is_kept, is_master, line_open_for}
use Rattle.machine.specs.WellFormed.{well_formed}
use Rattle.machine.specs.Settled.{settled}
use Rattle.machine.specs.Calls.{Call, Outcome, work, unless, job1, job2, job3, job4, plan_of, present_of, work_ok, decide}
use Rattle.machine.specs.Rest.{rest_of}
use Rattle.machine.specs.Step.{outcome, step, run}
use Rattle.machine.proofs.Cases.{and_left, and_right, commit_change_holds, commit_rollback_holds, apply_change_holds, apply_rollback_holds}
use Rattle.machine.proofs.Kept.{formed, reached_well_formed, refusal_one}
use Rattle.history.specs.Ops.{Op, push, pop, none, ops_of, stack, newest, Rising, on_top_holds, op_at_in, clash}
use Rattle.machine.proofs.Entries.{entry_cases}
use Rattle.history.specs.Whole.{whole, shown}
use Rattle.history.proofs.Follow.{entry_seen, last_seen, plan_seen}
use Rattle.history.proofs.Fronts.{rest_seen, settled_seen}
use Rattle.history.proofs.Reached.{Reached, Folded, folded}

-- ---- at most two for each change: its commit, and its rollback's, which takes it off the stack
few : (o : List Op) → Rising o → length o + length (stack o) ≤ newest o + newest o
unfolding Rising stack newest
few [] h = omega arith
few (push k ∷ o) h = omega (arith, few o h.1, h.0)
few (pop k ∷ o) h = omega (arith, few o h.1, ap length h.0)
few (none ∷ o) h = absurd h

pub record AtMostTwice (s : State) : Type 0 where
  pub committed : s.committed.head.ordinal.0 ≤ last s.log + last s.log
  pub applied : s.applied.head.ordinal.0 ≤ s.committed.head.ordinal.0
  pub changes : (k : ℕ) → (entry_of s.log k).change.ordinal.0 ≤ s.committed.head.ordinal.0
  pub rollbacks : (k : ℕ) → (entry_of s.log k).rollback.ordinal.0 ≤ s.committed.head.ordinal.0

module _ (s : State) (es : List Event) (r : Reached s es) where
  abbrev ops : List Op
  ops = ops_of Complete 1 es

  bound : s.committed.head.ordinal.0 + length (stack ops) ≤ s.change.0 + s.change.0
  bound = let c = r.inv.committed in omega (arith, few ops c.rising, c.count, c.newest)

  at_most_twice : AtMostTwice s
  at_most_twice =
      let c = r.inv.committed in
      record {
        committed = omega (arith, bound, c.high);
        applied = omega (arith, r.inv.applied.reach, c.count);
        changes = λ k. in_change k (entry_of s.log k).change.ordinal.0 refl;
        rollbacks = λ k. in_rollback k (entry_of s.log k).rollback.ordinal.0 refl;
      }
    where
      in_change : (k o : ℕ) → (entry_of s.log k).change.ordinal.0 ≡ o → o ≤ s.committed.head.ordinal.0
      in_change k zero e = omega arith
      in_change k (suc o) e = omega (arith, op_at_in ops (suc o) (push k) refl ((r.inv.numbered k).change o e), r.inv.committed.count)

      in_rollback : (k o : ℕ) → (entry_of s.log k).rollback.ordinal.0 ≡ o → o ≤ s.committed.head.ordinal.0
      in_rollback k zero e = omega arith
      in_rollback k (suc o) e = omega (arith, op_at_in ops (suc o) (pop k) refl ((r.inv.numbered k).rollback o e), r.inv.committed.count)

  -- there is room for one more commit while a change or a rollback is to be committed
  abbrev Not9 : Plan → Type 0
  Not9 p = p.answer ≡ 9 → ⊥

  module _ (size : last s.log ≤ 65535) (i : ℕ) (p : 1 ≤ i) (q : i ≤ last s.log) where
    room_change : i ≡ suc s.change.0 → 131070 ≤ s.committed.head.ordinal.0 → ⊥
    room_change n b = omega (arith, bound)

    room_rollback : s.committed.head.revision.0 ≡ i → 131070 ≤ s.committed.head.ordinal.0 → ⊥
    room_rollback n b =
        let c = r.inv.committed in
        omega (arith, bound, c.high, ap length (on_top_holds (stack ops) i (sym c.tip ∙ n) p))

    not_nine : (n : ℕ) (a b d ok : Bool) → Not9 (cond a (job1 s i ok) (cond b (job2 s n i ok) (cond d (job3 s i) (job4 s n i ok))))
    not_nine n true b d ok =
        commit_change_holds (entry_of s.log i) s.committed.head i Not9 s.change (rest_of s) (present_of s (entry_of s.log i)) ok
        (record {
          wait = λ e. omega arith;
          full = λ x y z e. room_change y z;
          begin = λ x y z e. omega arith;
          aim = λ x y z e. omega arith;
          land = λ x y z o w e. omega arith;
          reject = λ x y e. omega arith;
          finish = λ x y e. omega arith;
          close = λ x y e. omega arith;
        })
    not_nine n false true d ok =
        apply_change_holds (entry_of s.log i) s.applied.head i Not9 (settled s) (line_open_for s.net n) ok
        (record {
          wait = λ e. omega arith;
          no_line = λ e. omega arith;
          begin = λ x y z e. omega arith;
          aim = λ x y z w e. omega arith;
          abort = λ x y z w e. omega arith;
          close_aborted = λ x y e. omega arith;
          close_failed = λ x y e. omega arith;
          finish = λ x y z e. omega arith;
          fail = λ x y e. omega arith;
          push = λ x y z e. omega arith;
        })
    not_nine n false false true ok =
        commit_rollback_holds (entry_of s.log i) s.committed.head i Not9 (rest_of s)
        (record {
          wait = λ e. omega arith;
          full = λ x y z e. room_rollback y z;
          begin = λ x y z e. omega arith;
          aim = λ x y z e. omega arith;
          land = λ x y z o w e. omega arith;
          finish = λ x y z e. omega arith;
        })
    not_nine n false false false ok =
        apply_rollback_holds (entry_of s.log i) s.applied.head i Not9 (settled s) (line_open_for s.net n) ok
        (record {
          wait = λ e. omega arith;
          no_line = λ e. omega arith;
          rejected = λ e. omega arith;
          begin = λ x y z w e. omega arith;
          aim = λ x y z w e. omega arith;
          cancel = λ x y z w e. omega arith;
          close = λ x y e. omega arith;
          finish = λ x y z e. omega arith;
          push = λ x y z e. omega arith;
        })

plan_not_nine : (s : State) (es : List Event) (r : Reached s es) → last s.log ≤ 65535 → (i : ℕ) → 1 ≤ i → i ≤ last s.log → (n j : ℕ) (ok : Bool)
    → (plan_of s n j i ok).answer ≡ 9 → ⊥
unfolding plan_of
plan_not_nine s es r size i p q n j ok = not_nine s es r size i p q n (eqb j 1) (eqb j 2) (eqb j 3) ok

unless_not : (a x : ℕ) (b : Bool) (o : Outcome) → (a ≡ x → ⊥) → (b ≡ true → o.reply.answer ≡ x → ⊥) → (unless a b o).reply.answer ≡ x → ⊥
unless_not a x true o n f = f refl
unless_not a x false o n f = n

-- ---- the theorems
-- no job is refused with 9
pub never_nine : (m : Bool) (cs : List Call) (n j i r c : ℕ) → (step (run m cs).state (work n j i r c)).reply.answer ≡ 9 → ⊥
unfolding step outcome decide
never_nine m cs n j i r c =
    let x = folded m cs in
    subst (λ s. well_formed s ≡ true → (step s (work n j i r c)).reply.answer ≡ 9 → ⊥) (sym x.shows) (seen x) (reached_well_formed m cs)
  where
    seen : (x : Folded m cs) → well_formed (shown (whole m cs) x.fold x.base) ≡ true → (step (shown (whole m cs) x.fold x.base) (work n j i r c)).reply.answer ≡ 9 → ⊥
    seen x e =
        let w = whole m cs in
        let s = shown (whole m cs) x.fold x.base in
        let inv = x.reached.inv in
        unless_not 1 9 (well_formed s) _ (λ e. omega arith)
        (λ _. unless_not 2 9 (work_ok n j r c) _ (λ e. omega arith)
        (λ _. unless_not 5 9 (in_log s i) _ (λ e. omega arith)
        (λ y. unless_not 18 9 (is_kept s i) _ (λ e. omega arith)
        (λ z. unless_not 10 9 (is_master w.net n) _ (λ e. omega arith)
        (λ _. subst (λ p. p.answer ≡ 9 → ⊥) (sym (plan_seen w x.fold x.base x.front (rest_seen inv x.fold x.base x.front) (settled_seen inv x.fold x.base x.front) n j i (eqb r 0) (ltb-true _ i z)))
        (plan_not_nine w (run m cs).events x.reached
        (omega (arith, (formed s e).log.last, last_seen w x.fold x.base x.front))
        i (leb-true 1 i (and_left (leb 1 i) _ y)) (omega (arith, leb-true i _ (and_right (leb 1 i) _ y), last_seen w x.fold x.base x.front)) n j (eqb r 0)))))))

-- no call is refused with 1
pub never_one : (m : Bool) (cs : List Call) (c : Call) → (step (run m cs).state c).reply.answer ≡ 1 → ⊥
never_one m cs c e = clash (sym (reached_well_formed m cs) ∙ refusal_one (run m cs).state c e)

-- an ordinal is at most twice the highest number given
pub ordinals_at_most_twice : (m : Bool) (cs : List Call) → AtMostTwice (run m cs).state
ordinals_at_most_twice m cs = let x = folded m cs in subst AtMostTwice (sym x.shows) (seen x (at_most_twice (whole m cs) (run m cs).events x.reached))
  where
    seen : (x : Folded m cs) → AtMostTwice (whole m cs) → AtMostTwice (shown (whole m cs) x.fold x.base)
    seen x a =
        let w = whole m cs in
        let l = (shown (whole m cs) x.fold x.base).log in
        record {
          committed = omega (arith, a.committed, last_seen w x.fold x.base x.front);
          applied = a.applied;
          changes = λ k. entry_cases (λ t. t.change.ordinal.0 ≤ w.committed.head.ordinal.0) l k (omega arith)
              (λ p q. subst (λ t. t.change.ordinal.0 ≤ w.committed.head.ordinal.0) (sym (entry_seen w x.fold x.base x.front k p)) (a.changes k));
          rollbacks = λ k. entry_cases (λ t. t.rollback.ordinal.0 ≤ w.committed.head.ordinal.0) l k (omega arith)
              (λ p q. subst (λ t. t.rollback.ordinal.0 ≤ w.committed.head.ordinal.0) (sym (entry_seen w x.fold x.base x.front k p)) (a.rollbacks k));
        }

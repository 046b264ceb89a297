-- A refusal stores nothing. Assumes nothing.
use Prim.Native.Nat.{ℕ}
use mathlib.Core.Path.{◌≡◌, refl, ap}
use mathlib.Core.Bool.{Bool, true, false, ◌&&◌, cond}
use mathlib.Core.List.{List, []}
use lib.Dec.{eqb, ltb, leb}
use lib.ListN.{length}
use Rattle.kinds.specs.declared.Transaction.{Transaction}
use Rattle.kinds.specs.declared.Head.{Head}
use Rattle.kinds.specs.declared.Number.{Number}
use Rattle.kinds.specs.declared.Ordinal.{Ordinal}
use Rattle.kinds.specs.Numbers.{num, next_ordinal}
use Rattle.rules.specs.declared.Plan.{Plan}
use Rattle.rules.specs.declared.Present.{Present}
use Rattle.rules.specs.declared.Order.{Order}
use Rattle.rules.specs.declared.Order.TheVariants.{Neither}
use Rattle.rules.specs.declared.CommitChangeRule.{CommitChangeRule}
use Rattle.rules.specs.declared.CommitRollbackRule.{CommitRollbackRule}
use Rattle.rules.specs.declared.ApplyChangeRule.{ApplyChangeRule}
use Rattle.rules.specs.declared.ApplyRollbackRule.{ApplyRollbackRule}
use Rattle.rules.specs.declared.CommitChangeRule.TheVariants as change
use Rattle.rules.specs.declared.CommitRollbackRule.TheVariants as rollback
use Rattle.rules.specs.declared.ApplyChangeRule.TheVariants as apply
use Rattle.rules.specs.declared.ApplyRollbackRule.TheVariants as return
use Rattle.rules.specs.CommitChange as job1
use Rattle.rules.specs.CommitRollback as job3
use Rattle.rules.specs.ApplyChange as job2
use Rattle.rules.specs.ApplyRollback as job4
use Rattle.rules.specs.Outside as outside
use Rattle.machine.specs.State.{State, entry_of, last, in_log, is_kept, is_node, node_of, is_master, reaches_target, line_open_for}
use Rattle.machine.specs.Settled.{settled}
use Rattle.machine.specs.Rest.{rest_of}
use Rattle.machine.specs.Folding.{may_fold}
use Rattle.machine.specs.Rows.{rows_by, rows_of}
use Rattle.machine.specs.Calls as calls
use Rattle.machine.specs.Calls.{Call, Outcome, append, start, stop, connect, disconnect, master, sync, work, fold_to, unless, valid_change, present_of, plan_of, commits, planned, work_ok, decide}
use Rattle.image.specs.Layout.{slots, highest}
use Rattle.image.specs.View.{view}
use Rattle.image.specs.Formed.{formed}
use Rattle.controller.specs.Claims.{outcome_of}

-- an outcome that is refused has no stores
abbrev pub Quiet : Outcome → Type 0
Quiet o = (o.reply.answer ≡ 0 → ⊥) → o.stores ≡ []

unless_quiet : (a : ℕ) (b : Bool) (o : Outcome) → Quiet o → Quiet (unless a b o)
unless_quiet a true o h = h
unless_quiet a false o h = λ x. refl

-- ---- the jobs, whatever rule holds
abbrev QuietPlan : Plan → Type 0
QuietPlan p = (p.answer ≡ 0 → ⊥) → p.order ≡ Neither

module _ (t : Transaction) (h : Head) (i : Number) where
  commit_change_holds : (o : Ordinal) (vs : Present) (r : CommitChangeRule) → QuietPlan (job1.plans r t h i o vs)
  commit_change_holds o vs change.Begin x = absurd (x refl)
  commit_change_holds o vs change.Aim x = absurd (x refl)
  commit_change_holds o vs change.Land x = absurd (x refl)
  commit_change_holds o vs change.Full x = refl
  commit_change_holds o vs change.Reject x = absurd (x refl)
  commit_change_holds o vs change.Finish x = absurd (x refl)
  commit_change_holds o vs change.Close x = absurd (x refl)
  commit_change_holds o vs change.Wait x = refl

  commit_rollback_holds : (o : Ordinal) (r : CommitRollbackRule) → QuietPlan (job3.plans r t h i o)
  commit_rollback_holds o rollback.Begin x = absurd (x refl)
  commit_rollback_holds o rollback.Aim x = absurd (x refl)
  commit_rollback_holds o rollback.Land x = absurd (x refl)
  commit_rollback_holds o rollback.Full x = refl
  commit_rollback_holds o rollback.Finish x = absurd (x refl)
  commit_rollback_holds o rollback.Wait x = refl

  apply_change_holds : (r : ApplyChangeRule) → QuietPlan (job2.plans r t h i)
  apply_change_holds apply.Begin x = absurd (x refl)
  apply_change_holds apply.Aim x = absurd (x refl)
  apply_change_holds apply.Abort x = absurd (x refl)
  apply_change_holds apply.Close x = absurd (x refl)
  apply_change_holds apply.Finish x = absurd (x refl)
  apply_change_holds apply.Fail x = absurd (x refl)
  apply_change_holds apply.Push x = absurd (x refl)
  apply_change_holds apply.NoLine x = refl
  apply_change_holds apply.Wait x = refl

  apply_rollback_holds : (r : ApplyRollbackRule) → QuietPlan (job4.plans r t h i)
  apply_rollback_holds return.Begin x = absurd (x refl)
  apply_rollback_holds return.Aim x = absurd (x refl)
  apply_rollback_holds return.Cancel x = absurd (x refl)
  apply_rollback_holds return.Close x = absurd (x refl)
  apply_rollback_holds return.Finish x = absurd (x refl)
  apply_rollback_holds return.Push x = absurd (x refl)
  apply_rollback_holds return.NoLine x = refl
  apply_rollback_holds return.Rejected x = refl
  apply_rollback_holds return.Wait x = refl

module _ (s : State) where
  plan_quiet : (n j i : ℕ) (ok : Bool) → QuietPlan (plan_of s n j i ok)
  unfolding plan_of
  plan_quiet n j i ok = go (eqb j 1) (eqb j 2) (eqb j 3)
    where
      go : (a b c : Bool) → QuietPlan (cond a (calls.job1 s i ok) (cond b (calls.job2 s n i ok) (cond c (calls.job3 s i) (calls.job4 s n i ok))))
      go true b c =
          commit_change_holds (entry_of s.log i) s.committed.head (num i) (next_ordinal s.committed.head.ordinal) (present_of s (entry_of s.log i))
          (job1.rule (entry_of s.log i).change.commit (job1.tests s.committed.head s.change (rest_of s) (num i) ok))
      go false true c =
          apply_change_holds (entry_of s.log i) s.applied.head (num i)
          (job2.rule (entry_of s.log i).change.apply (job2.tests (entry_of s.log i) s.applied.head (settled s) (num i) (line_open_for s.net n) ok))
      go false false true =
          commit_rollback_holds (entry_of s.log i) s.committed.head (num i) (next_ordinal s.committed.head.ordinal)
          (job3.rule (entry_of s.log i).rollback.commit (job3.tests s.committed.head (entry_of s.log i).index (rest_of s) (num i)))
      go false false false =
          apply_rollback_holds (entry_of s.log i) s.applied.head (num i)
          (job4.rule (entry_of s.log i).rollback.apply (job4.tests (entry_of s.log i) s.applied.head (settled s) (line_open_for s.net n) ok))

  planned_quiet : (j : ℕ) (p : Plan) (i c : ℕ) → QuietPlan p → Quiet (planned j p i c)
  unfolding rows_of
  planned_quiet j p i c h x = ap (λ (o : Order). rows_by o (commits j) p i (eqb c 1) (eqb c 2)) (h x)

  -- ---- every call
  decide_quiet : (c : Call) → Quiet (decide s c)
  unfolding decide
  decide_quiet (append ps) = unless_quiet 3 (valid_change ps) _ (unless_quiet 4 (ltb (length s.log.entries) slots) _ (unless_quiet 9 (ltb (last s.log) highest) _ (λ x. absurd (x refl))))
  decide_quiet (calls.rollback i) = unless_quiet 5 (in_log s i) _ (unless_quiet 18 (is_kept s i) _ (unless_quiet 6 (outside.may_roll_back (entry_of s.log i)) _ (λ x. absurd (x refl))))
  decide_quiet start = let a = (outside.start s.net.target).answer in unless_quiet a (eqb a 0) _ (λ x. absurd (x refl))
  decide_quiet stop = let a = (outside.stop s.net.target).answer in unless_quiet a (eqb a 0) _ (λ x. absurd (x refl))
  decide_quiet (connect n) =
      let a = (outside.connect (node_of s.net.connections n) s.net.target.running).answer in unless_quiet 2 (is_node n) _ (unless_quiet a (eqb a 0) _ (λ x. absurd (x refl)))
  decide_quiet (disconnect n) =
      let a = (outside.disconnect (node_of s.net.connections n)).answer in unless_quiet 2 (is_node n) _ (unless_quiet a (eqb a 0) _ (λ x. absurd (x refl)))
  decide_quiet (master n) =
      let a = (outside.master s.net.mastership n (node_of s.net.connections n)).answer in unless_quiet 2 (is_node n) _ (unless_quiet a (eqb a 0) _ (λ x. absurd (x refl)))
  decide_quiet (sync n) =
      let a = (outside.synchronise s.net.configuration s.net.mastership.term (is_master s.net n) (reaches_target s.net n)).answer in
      unless_quiet 2 (is_node n) _ (unless_quiet a (eqb a 0) _ (λ x. absurd (x refl)))
  decide_quiet (work n j i r c) =
      unless_quiet 2 (work_ok n j r c) _
      (unless_quiet 5 (in_log s i) _ (unless_quiet 18 (is_kept s i) _ (unless_quiet 10 (is_master s.net n) _ (planned_quiet j (plan_of s n j i (eqb r 0)) i c (plan_quiet n j i (eqb r 0))))))
  decide_quiet (fold_to b) = unless_quiet 5 (is_kept s b && leb b (last s.log)) _ (unless_quiet 17 (may_fold s b) _ (λ x. absurd (x refl)))

-- refusal 1 too
pub refusal_stores_nothing : (l : List ℕ) (c : Call) → Quiet (outcome_of l c)
unfolding outcome_of
refusal_stores_nothing l c = unless_quiet 1 (formed l) (decide (view l) c) (decide_quiet (view l) c)

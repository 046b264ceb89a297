-- The invariant is kept by each rule of the four jobs, cut or not, and by each call from outside. Assumes nothing.
use Prim.Native.Nat.{ℕ, zero, suc, ◌+◌, ◌≤◌, ◌<◌}
use native.Mathlib.Omega.{arith}
use mathlib.Core.List.{List, [], ◌∷◌, ◌++◌}
use mathlib.Core.Bool.{Bool, true, false, not, ◌&&◌, ◌||◌}
use mathlib.Core.Path.{◌≡◌, refl, sym, ap, ◌∙◌, subst}
use lib.Dec.{eqb}
use lib.ListN.{length}
use borrow.Author.Tests.{eqb-true, eq-eqb}
use Rattle.kinds.specs.declared.Transaction.{Transaction}
use Rattle.kinds.specs.declared.Side.{Side}
use Rattle.kinds.specs.declared.Head.{Head}
use Rattle.kinds.specs.declared.Number.{Number}
use Rattle.kinds.specs.declared.Ordinal.{Ordinal}
use Rattle.kinds.specs.declared.Status.{Status}
use Rattle.kinds.specs.declared.Status.TheVariants.{None, Pending, InProgress, Complete, Aborted, Canceled, Failed}
use Rattle.kinds.specs.Numbers.{num}
use Rattle.kinds.specs.Statuses.{done, is_complete}
use Rattle.kinds.specs.Records.{with_change, with_rollback}
use Rattle.rules.specs.Heads.{aimed, landed, passed, closed}
use Rattle.rules.specs.Sides.{begun, committed, invalid, apply_at}
use Rattle.rules.specs.CommitChange.{beginning}
use Rattle.rules.specs.ApplyRollback.{was_tried, is_aborted}
use Rattle.rules.specs.Outside.{may_roll_back, rolled_back}
use Rattle.machine.specs.State.{State, Part, Ledger, in_each, Net, Log, blank, entry_of, put_entry, grown, last}
use Rattle.machine.specs.Stores.{with_log, with_net}
use Rattle.machine.specs.WellFormed.{all_entries}
use Rattle.machine.specs.Settled.{side_settled, entry_settled, settled}
use Rattle.machine.specs.Calls.{Pair, appended, present_of}
use Rattle.machine.specs.Rest.{rest_of}
use Rattle.machine.specs.Laid.{over}
use Rattle.machine.proofs.Next.{putting}
use Rattle.machine.proofs.Cases.{and_left, and_right, or_cases}
use Rattle.machine.proofs.Entries.{put_all, add_all, entry_cases, entries_true, and_both}
use Rattle.history.specs.Values.{present_restores}
use Rattle.history.specs.Ops.{Op, push, pop, popped_low, tail, newest, op_at_some, op_at_more, clash, crash}
use Rattle.history.specs.Invariant.{is_going, complete, Sides, Numbered, commit_view, Committed, is_ended, is_started, change_touched, rollback_touched, apply_view, ChangeEntry, RollbackEntry, ApplyEntry, Still, Quiet, Applied, Invariant, is_none, orderly}
use Rattle.history.specs.Frames.{Same, not_going, complete_no, paired, going_complete}
use Rattle.history.proofs.Commits as commits
use Rattle.history.proofs.Applies as applies

-- ---- settled
side_still : (a : ℕ) (x : Side) → side_settled a x ≡ true → x.apply ≡ InProgress → x.ordinal.0 ≡ a → ⊥
side_still a x d e f = clash (sym (rw (eq-eqb x.ordinal.0 a f) at d) ∙ ap done e)

entry_still : (a k : ℕ) (t : Transaction) → entry_settled a k t ≡ true → Still a (apply_view t)
entry_still a k t e =
    record {
      change = side_still a t.change (and_left (side_settled a t.change) _ e);
      rollback = side_still a t.rollback (and_right (side_settled a t.change) _ e);
    }

blank_still : (a : ℕ) → Still a (apply_view blank)
blank_still a = record { change = not_going None refl; rollback = not_going None refl }

all_still : (l : Log) (a : ℕ) → all_entries (entry_settled a) l ≡ true → Quiet l a
all_still l a e k = entry_cases (λ t. Still a (apply_view t)) l k (blank_still a) (λ p q. entry_still a k (entry_of l k) (entries_true (entry_settled a) l e k p q))

-- ---- orderly
-- where the change is committed
orderly_more : (c r a : Status) → orderly c r a ≡ true → orderly Complete r a ≡ true
orderly_more c r a e =
    let p = is_complete c || is_none r in
    let q = not (is_ended r) in
    and_both q (not (is_ended a)) (and_right p q (and_left (p && q) _ e)) (and_right (p && q) _ e)

-- at another status of its apply
orderly_apply : (c r a x : Status) → is_ended x ≡ false → orderly c r a ≡ true → orderly c r x ≡ true
orderly_apply c r a x f e = let p = (is_complete c || is_none r) && not (is_ended r) in and_both p (not (is_ended x)) (and_left p _ e) (ap not f)

module _ {s : State} {ops acts : List Op} {bad : List ℕ} (inv : Invariant s ops acts bad) where
  -- the apply side of it
  abbrev pub side : applies.ApplySide s.log s.applied ops acts bad
  side = record { rising = inv.committed.rising; linked = inv.committed.linked; numbered = inv.numbered; applied = inv.applied }

  abbrev lg : Log
  lg = s.log

  abbrev en : ℕ → Transaction
  en i = entry_of s.log i

  abbrev at : ℕ
  at = s.applied.head.ordinal.0

  pub settled_quiet : settled s ≡ true → Quiet lg at
  settled_quiet e =
      or_cases (eqb at 0) (all_entries (entry_settled at) lg) e (λ x. none_yet (eqb-true at 0 x)) (all_still lg at)
    where
      none_yet : at ≡ 0 → Quiet lg at
      none_yet z k =
          record {
            change = λ x y. omega (arith, paired (en k).change.commit Complete (en k).change.apply (en k).change.ordinal.0 (going_complete (en k).change.commit _ _ (inv.sides k).change x) (inv.sides k).change);
            rollback = λ x y. omega (arith, paired (en k).rollback.commit Complete (en k).rollback.apply (en k).rollback.ordinal.0 (going_complete (en k).rollback.commit _ _ (inv.sides k).rollback x) (inv.sides k).rollback);
          }

  -- ---- one entry stored
  puts : (i : ℕ) (t : Transaction) → Sides t → Numbered ops i t.change.ordinal.0 t.rollback.ordinal.0 → Committed (put_entry lg i t) s.change.0 s.committed ops
      → Applied (put_entry lg i t) s.applied ops acts bad
      → Invariant (putting s i t) ops acts bad
  puts i t a b c d =
      record {
        sides = put_all (λ k u. Sides u) lg i t inv.sides a;
        numbered = put_all (λ k u. Numbered ops k u.change.ordinal.0 u.rollback.ordinal.0) lg i t inv.numbered b;
        committed = c;
        applied = d;
      }

  -- the apply side of an entry that jobs 1 and 3 and the calls from outside store: t's change and rollback, and what was
  -- in progress or ended of them stays so
  on_applied : (i : ℕ) (t : Transaction) (n : ℕ) → newest ops ≤ n → (i ≤ n → Same (en i) t)
      → (change_touched (en i).change.apply ≡ true → t.change.apply ≡ (en i).change.apply)
      → (change_touched t.change.apply ≡ true → ((en i).change.apply ≡ t.change.apply) × ((en i).change.ordinal.0 ≡ t.change.ordinal.0))
      → (rollback_touched t.rollback.apply ≡ true → ((en i).rollback.apply ≡ t.rollback.apply) × ((en i).rollback.ordinal.0 ≡ t.rollback.ordinal.0))
      → ApplyEntry at s.applied.head.target.0 acts i (apply_view t)
      → Applied (put_entry lg i t) s.applied ops acts bad
  on_applied i t n b q f g h e =
      let k = inv.applied.calm i in
      applies.put_applied side i t n b q
      (λ x. f (applies.ended_touched (en i).change.apply x))
      (λ x. record {
        change = λ y z. let w = g (ap change_touched y) in x.change (w.0 ∙ y) (w.1 ∙ z);
        rollback = λ y z. let w = h (ap rollback_touched y) in x.rollback (w.0 ∙ y) (w.1 ∙ z);
      })
      (λ m. record {
        change = λ y z. let w = g y in m (k.change (ap change_touched w.0 ∙ y) (w.1 ∙ z));
        rollback = λ y z. let w = h y in m (k.rollback (ap rollback_touched w.0 ∙ y) (w.1 ∙ z));
      })
      e

  -- a change or a rollback whose apply has not begun
  idle_change : (i : ℕ) (c d : Status) (o : ℕ) → (en i).change.apply ≡ c → is_complete c ≡ false → is_going c ≡ false → is_complete d ≡ false → is_going d ≡ false → change_touched d ≡ false → is_started d ≡ false
      → ChangeEntry at s.applied.head.target.0 acts i d o
  idle_change i c d o e x y z u v w =
      record {
        low = λ k. clash (sym k ∙ v);
        aim = λ k. clash (sym k ∙ w);
        taken = (inv.applied.entries i).change.taken ∙ ap (λ k. complete k at (en i).change.ordinal.0) e
            ∙ complete_no c at (en i).change.ordinal.0 x (λ k. not_going c y k)
            ∙ sym (complete_no d at o z (λ k. not_going d u k));
      }

  idle_rollback : (i : ℕ) (c d : Status) (o n : ℕ) → (en i).rollback.apply ≡ c → is_complete c ≡ false → is_going c ≡ false → is_complete d ≡ false → is_going d ≡ false → rollback_touched d ≡ false
      → RollbackEntry at s.applied.head.target.0 acts i d o n
  idle_rollback i c d o n e x y z u v =
      record {
        low = λ k. clash (sym k ∙ v);
        aim = λ k. not_going d u k;
        returned = (inv.applied.entries i).rollback.returned ∙ ap (λ k. complete k at (en i).rollback.ordinal.0) e
            ∙ complete_no c at (en i).rollback.ordinal.0 x (λ k. not_going c y k)
            ∙ sym (complete_no d at o z (λ k. not_going d u k));
      }

  -- ---- job 1
  -- a number past Committed's change has no rollback in progress
  no_return : (i : ℕ) → s.change.0 < i → (en i).rollback.apply ≡ InProgress → ⊥
  no_return i b x =
      let c : (en i).rollback.commit ≡ Complete = going_complete (en i).rollback.commit _ _ (inv.sides i).rollback x in
      omega (arith, inv.committed.newest, popped_low ops inv.committed.rising i ((inv.committed.entries i).undone ∙ ap (λ y. complete y s.committed.head.revision.0 (en i).index.0) c))

  pub begin_change : (i : ℕ) → (en i).change.commit ≡ Pending → i ≡ suc s.change.0 → s.committed.head.target.0 ≡ i
      → Invariant (putting s i (beginning (en i) s.committed.head.revision (present_of s (en i)))) ops acts bad
  begin_change i e n g =
      let o = inv.sides i in
      let x = inv.applied.entries i in
      puts i _
      (record { change = paired (en i).change.commit Pending _ _ e o.change; rollback = o.rollback; unasked = o.unasked; orderly = sym (ap (λ c. orderly c (en i).rollback.commit (en i).rollback.apply) e) ∙ o.orderly })
      (inv.numbered i)
      (commits.begin_change inv.committed i _ n g e refl refl refl (λ p. present_restores s.committed.values (en i) (en i).values p) (λ p. present_restores s.committed.owners (en i) (in_each i) p))
      (on_applied i _ s.change.0 inv.committed.newest (λ b. absurd (omega arith)) (λ y. refl) (λ y. (refl, refl)) (λ y. (refl, refl))
      (record {
        change = x.change;
        rollback = record { low = x.rollback.low; aim = λ y z. absurd (no_return i (omega arith) y); returned = x.rollback.returned };
        tried = x.tried;
        spared = x.spared;
      }))

  pub finish_change : (i : ℕ) → (en i).change.commit ≡ InProgress → s.change.0 ≡ i
      → Invariant (putting s i (with_change (en i) (committed (en i).change s.committed.head.ordinal))) ops acts bad
  finish_change i e n =
      let o = inv.sides i in
      let x = inv.applied.entries i in
      let p : ((en i).change.apply ≡ Pending) × ((en i).change.ordinal.0 ≡ 0) = paired (en i).change.commit InProgress _ _ e o.change in
      let f = (inv.committed.entries i).closing e (omega arith) in
      puts i _
      (record { change = op_at_some ops _ (push i) refl f.last; rollback = o.rollback; unasked = o.unasked; orderly = orderly_more (en i).change.commit (en i).rollback.commit (en i).rollback.apply o.orderly })
      (record { change = λ y z. rw (← z) f.last; rollback = (inv.numbered i).rollback })
      (commits.finish_change inv.committed i s.committed.head.ordinal e n)
      (on_applied i _ (newest ops) (omega arith) (λ b. record { count = refl; paths = refl; values = refl; kept = refl; owners = refl; index = refl }) (λ y. refl)
      (λ y. crash (sym (ap change_touched p.0) ∙ y)) (λ y. (refl, refl))
      (record {
        change = subst (λ c. ChangeEntry at s.applied.head.target.0 acts i c s.committed.head.ordinal.0) (sym p.0) (idle_change i Pending Pending _ p.0 refl refl refl refl refl refl);
        rollback = x.rollback;
        tried = x.tried;
        spared = x.spared;
      }))

  pub fail_change : (i : ℕ) → (en i).change.commit ≡ InProgress → i ≡ suc s.change.0
      → Invariant (putting s i (with_change (en i) (invalid (en i).change))) ops acts bad
  fail_change i e n =
      let o = inv.sides i in
      let x = inv.applied.entries i in
      let p : ((en i).change.apply ≡ Pending) × ((en i).change.ordinal.0 ≡ 0) = paired (en i).change.commit InProgress _ _ e o.change in
      puts i _
      (record { change = (refl, p.1); rollback = o.rollback; unasked = o.unasked; orderly = sym (ap (λ c. orderly c (en i).rollback.commit (en i).rollback.apply) e) ∙ o.orderly })
      (inv.numbered i)
      (commits.fail_change inv.committed i n e)
      (on_applied i _ (newest ops) (omega arith) (λ b. record { count = refl; paths = refl; values = refl; kept = refl; owners = refl; index = refl })
      (λ y. crash (sym (ap change_touched p.0) ∙ y)) (λ y. crash y) (λ y. (refl, refl))
      (record {
        change = idle_change i Pending Canceled _ p.0 refl refl refl refl refl refl;
        rollback = x.rollback;
        tried = λ y. crash (sym (ap was_tried p.0) ∙ x.tried y);
        spared = λ y. crash (sym (ap is_aborted p.0) ∙ ap is_aborted (x.spared y));
      }))

  -- the head of Committed moves, no commit completes
  heads : (c : ℕ) (part : Ledger) → Committed lg c part ops → (n : Number) → n.0 ≡ c → Invariant (record { log = lg; change = n; committed = part; applied = s.applied; net = s.net }) ops acts bad
  heads c part k n e = record { sides = inv.sides; numbered = inv.numbered; committed = rw e k; applied = inv.applied }

  pub aim_change : (i : ℕ) → i ≡ suc s.change.0 → rest_of s ≡ true
      → Invariant (record { log = lg; change = s.change; committed = record { head = aimed s.committed.head (num i); values = s.committed.values; owners = s.committed.owners }; applied = s.applied; net = s.net }) ops acts bad
  aim_change i n r = heads s.change.0 _ (commits.aim_change inv.committed i n r) s.change refl

  pub pass_change : (i : ℕ) → i ≡ suc s.change.0 → i ≤ last lg → (en i).change.commit ≡ Failed
      → Invariant (record { log = lg; change = num i; committed = record { head = passed s.committed.head (num i); values = s.committed.values; owners = s.committed.owners }; applied = s.applied; net = s.net }) ops acts bad
  pass_change i n b e = heads i _ (commits.pass_change inv.committed i n b e) (num i) refl

  -- a commit completes
  more : (x : Op) → ((k : ℕ) → x ≡ push k → newest ops < k) → (c : Number) (part : Ledger) → Committed lg c.0 part (x ∷ ops)
      → Invariant (record { log = lg; change = c; committed = part; applied = s.applied; net = s.net }) (x ∷ ops) acts bad
  more x b c part k =
      record {
        sides = inv.sides;
        numbered = λ j. record {
          change = λ o y. op_at_more ops x (suc o) (push j) refl ((inv.numbered j).change o y);
          rollback = λ o y. op_at_more ops x (suc o) (pop j) refl ((inv.numbered j).rollback o y);
        };
        committed = k;
        applied = applies.extend side x b;
      }

  pub land_change : (i : ℕ) (o : Ordinal) → (en i).change.commit ≡ InProgress → i ≡ suc s.change.0 → i ≤ last lg → o.0 ≡ suc s.committed.head.ordinal.0
      → Invariant
      (record {
        log = lg;
        change = num i;
        committed = record { head = landed s.committed.head (num i) (num i) o; values = over (en i).paths (en i).values (en i).count s.committed.values; owners = over (en i).paths (in_each i) (en i).count s.committed.owners };
        applied = s.applied;
        net = s.net;
      })
      (push i ∷ ops) acts bad
  land_change i o e n b q =
      more (push i) (λ k x. let z : i ≡ k = cc in omega (arith, inv.committed.newest)) (num i) _ (commits.land_change inv.committed i o n b e q)

  -- ---- job 3
  pub aim_rollback : (i : ℕ) → 1 ≤ i → s.committed.head.revision.0 ≡ i → rest_of s ≡ true
      → Invariant (record { log = lg; change = s.change; committed = record { head = aimed s.committed.head (en i).index; values = s.committed.values; owners = s.committed.owners }; applied = s.applied; net = s.net }) ops acts bad
  aim_rollback i p n r =
      heads s.change.0 _ (commits.aim_rollback inv.committed (en i).index (omega (arith, commits.tip_back inv.committed i (sym n) p)) r) s.change refl

  pub begin_rollback : (i : ℕ) → 1 ≤ i → (en i).rollback.commit ≡ Pending → s.committed.head.revision.0 ≡ i → s.committed.head.target.0 ≡ (en i).index.0
      → Invariant (putting s i (with_rollback (en i) (begun (en i).rollback))) ops acts bad
  begin_rollback i p e n g =
      let o = inv.sides i in
      let x = inv.applied.entries i in
      let y : (en i).phase ≡ 1 → Pending ≡ None = λ z. sym e ∙ o.unasked z in
      puts i _
      (record { change = o.change; rollback = paired (en i).rollback.commit Pending _ _ e o.rollback; unasked = λ z. let w : Pending ≡ None = y z in cc; orderly = sym (ap (λ r. orderly (en i).change.commit r (en i).rollback.apply) e) ∙ o.orderly })
      (inv.numbered i)
      (commits.begin_rollback inv.committed i p n g e)
      (on_applied i _ (newest ops) (omega arith) (λ b. record { count = refl; paths = refl; values = refl; kept = refl; owners = refl; index = refl }) (λ y. refl) (λ y. (refl, refl)) (λ y. (refl, refl))
      (record { change = x.change; rollback = x.rollback; tried = x.tried; spared = x.spared }))

  pub land_rollback : (i : ℕ) (o : Ordinal) → 1 ≤ i → (en i).rollback.commit ≡ InProgress → s.committed.head.revision.0 ≡ i → o.0 ≡ suc s.committed.head.ordinal.0
      → Invariant
      (record {
        log = lg;
        change = s.change;
        committed = record { head = landed s.committed.head (num i) (en i).index o; values = over (en i).paths (en i).kept (en i).count s.committed.values; owners = over (en i).paths (en i).owners (en i).count s.committed.owners };
        applied = s.applied;
        net = s.net;
      })
      (pop i ∷ ops) acts bad
  land_rollback i o p e n q =
      more (pop i) (λ k x. let z : ◌≡◌ {A = ℕ} 0 1 = cc in absurd (omega arith)) s.change _ (commits.land_rollback inv.committed i o p n e q)

  pub finish_rollback : (i : ℕ) → (en i).rollback.commit ≡ InProgress → (s.committed.head.revision.0 ≡ i → ⊥) → s.committed.head.revision.0 ≡ (en i).index.0
      → Invariant (putting s i (with_rollback (en i) (committed (en i).rollback s.committed.head.ordinal))) ops acts bad
  finish_rollback i e d n =
      let o = inv.sides i in
      let x = inv.applied.entries i in
      let p : ((en i).rollback.apply ≡ Pending) × ((en i).rollback.ordinal.0 ≡ 0) = paired (en i).rollback.commit InProgress _ _ e o.rollback in
      let f = (inv.committed.entries i).returned e (λ y. d (sym y)) in
      let y : (en i).phase ≡ 1 → InProgress ≡ None = λ z. sym e ∙ o.unasked z in
      puts i _
      (record { change = o.change; rollback = op_at_some ops _ (pop i) refl f.last; unasked = λ z. not_going None refl (sym (y z)); orderly = sym (ap (λ r. orderly (en i).change.commit r (en i).rollback.apply) e) ∙ o.orderly })
      (record { change = (inv.numbered i).change; rollback = λ y z. rw (← z) f.last })
      (commits.finish_rollback inv.committed i s.committed.head.ordinal e n)
      (on_applied i _ (newest ops) (omega arith) (λ b. record { count = refl; paths = refl; values = refl; kept = refl; owners = refl; index = refl }) (λ y. refl) (λ y. (refl, refl))
      (λ y. crash (sym (ap rollback_touched p.0) ∙ y))
      (record {
        change = x.change;
        rollback = subst (λ c. RollbackEntry at s.applied.head.target.0 acts i c s.committed.head.ordinal.0 (en i).index.0) (sym p.0)
            (idle_rollback i Pending Pending _ _ p.0 refl refl refl refl refl);
        tried = x.tried;
        spared = x.spared;
      }))

  -- ---- the rollback request
  pub ask : (i : ℕ) → may_roll_back (en i) ≡ true → Invariant (putting s i (rolled_back (en i))) ops acts bad
  ask i e =
      let o = inv.sides i in
      let x = inv.applied.entries i in
      let u : (en i).rollback.commit ≡ None = o.unasked (eqb-true (en i).phase 1 (and_left (eqb (en i).phase 1) _ e)) in
      let p : ((en i).rollback.apply ≡ None) × ((en i).rollback.ordinal.0 ≡ 0) = paired (en i).rollback.commit None _ _ u o.rollback in
      puts i _
      (record { change = o.change; rollback = (refl, p.1); unasked = λ z. absurd (omega arith); orderly = rw (and_right (eqb (en i).phase 1) _ e) refl })
      (inv.numbered i)
      (commits.ask_committed inv.committed i u)
      (on_applied i _ (newest ops) (omega arith) (λ b. record { count = refl; paths = refl; values = refl; kept = refl; owners = refl; index = refl }) (λ y. refl) (λ y. (refl, refl)) (λ y. crash y)
      (record {
        change = x.change;
        rollback = idle_rollback i None Pending _ _ p.0 refl refl refl refl refl;
        tried = λ y. crash y;
        spared = λ y. let z : ◌≡◌ {A = ℕ} 0 1 = cc in absurd (omega arith);
      }))

  -- ---- append
  pub append : (ps : List Pair) → Invariant (with_log s (grown lg (appended ps))) ops acts bad
  append ps =
      let b : newest ops ≤ last lg = omega (arith, inv.committed.newest, inv.committed.high) in
      record {
        sides = add_all (λ k u. Sides u) lg (appended ps) inv.sides (record { change = (refl, refl); rollback = (refl, refl); unasked = λ x. refl; orderly = refl });
        numbered = add_all (λ k u. Numbered ops k u.change.ordinal.0 u.rollback.ordinal.0) lg (appended ps) inv.numbered
            (record { change = λ o x. absurd (omega arith); rollback = λ o x. absurd (omega arith) });
        committed = commits.append_committed inv.committed (appended ps) refl refl;
        applied = applies.append_applied side (appended ps) b refl refl;
      }

  -- ---- jobs 2 and 4: the commit side does not see what they store
  unseen : (i : ℕ) (t : Transaction) → commit_view t ≡ commit_view (en i) → Same (en i) t → Committed (put_entry lg i t) s.change.0 s.committed ops
  unseen i t e q =
      commits.put_committed inv.committed i t (newest ops) (omega arith) (λ b. q)
      (rw e (inv.committed.entries i))

  set_change : (i : ℕ) (x : Status) → (en i).change.commit ≡ Complete
      → Applied (put_entry lg i (with_change (en i) (apply_at (en i).change x))) s.applied ops acts bad
      → Invariant (putting s i (with_change (en i) (apply_at (en i).change x))) ops acts bad
  set_change i x e k =
      let o = inv.sides i in
      puts i _
      (record {
        change = paired Complete (en i).change.commit x (en i).change.ordinal.0 (sym e) (paired (en i).change.commit Complete (en i).change.apply (en i).change.ordinal.0 e o.change);
        rollback = o.rollback;
        unasked = o.unasked;
        orderly = o.orderly;
      })
      (inv.numbered i)
      (unseen i _ refl (record { count = refl; paths = refl; values = refl; kept = refl; owners = refl; index = refl })) k

  set_rollback : (i : ℕ) (x : Status) → is_ended x ≡ false → (en i).rollback.commit ≡ Complete
      → Applied (put_entry lg i (with_rollback (en i) (apply_at (en i).rollback x))) s.applied ops acts bad
      → Invariant (putting s i (with_rollback (en i) (apply_at (en i).rollback x))) ops acts bad
  set_rollback i x f e k =
      let o = inv.sides i in
      puts i _
      (record {
        change = o.change;
        rollback = paired Complete (en i).rollback.commit x (en i).rollback.ordinal.0 (sym e) (paired (en i).rollback.commit Complete (en i).rollback.apply (en i).rollback.ordinal.0 e o.rollback);
        unasked = o.unasked;
        orderly = orderly_apply (en i).change.commit (en i).rollback.commit (en i).rollback.apply x f o.orderly;
      })
      (inv.numbered i)
      (unseen i _ refl (record { count = refl; paths = refl; values = refl; kept = refl; owners = refl; index = refl })) k

  -- the head of Applied moves, whatever is on the nodes' side
  lands : (part : Part) (w : Net) (does : List Op) (ills : List ℕ) → Applied lg part ops does ills
      → Invariant (record { log = lg; change = s.change; committed = s.committed; applied = part; net = w }) ops does ills
  lands part w does ills k = record { sides = inv.sides; numbered = inv.numbered; committed = inv.committed; applied = k }

  abbrev Headed : Head → (List ℕ → List ℕ) → Net → List Op → List ℕ → Type 0
  Headed h f w does ills =
      Invariant (record { log = lg; change = s.change; committed = s.committed; applied = record { head = h; values = f s.applied.values }; net = w }) ops does ills

  -- ---- job 2: i is committed, and its ordinal the next
  module _ (i : ℕ) (m : ((en i).change.commit ≡ Complete) × ((en i).change.ordinal.0 ≡ suc at)) where
    pub begin_apply : (en i).change.apply ≡ Pending → s.applied.head.target.0 ≡ i → Invariant (putting s i (with_change (en i) (apply_at (en i).change InProgress))) ops acts bad
    begin_apply e g = set_change i InProgress m.0 (applies.begin_change side i e m.1 g)

    pub aim_apply : settled s ≡ true → s.applied.head.revision.0 ≡ (en i).index.0 → Headed (aimed s.applied.head (num i)) (λ vs. vs) s.net acts bad
    aim_apply q v =
        lands _ s.net acts bad
        (applies.aim_change side i m.1 v (settled_quiet q))

    pub abort_apply : (en i).change.apply ≡ Pending → settled s ≡ true → Invariant (putting s i (with_change (en i) (apply_at (en i).change Aborted))) ops acts bad
    abort_apply e q = set_change i Aborted m.0 (applies.abort_change side i e m.1 (settled_quiet q))

    pub fail_apply : (en i).change.apply ≡ InProgress → Invariant (putting s i (with_change (en i) (apply_at (en i).change Failed))) ops acts bad
    fail_apply e = set_change i Failed m.0 (applies.fail_change side i e m.1)

    pub close_aborted_holds : (en i).change.apply ≡ Aborted → Headed (closed s.applied.head (num i) (num i) (en i).change.ordinal) (λ vs. vs) s.net acts (i ∷ bad)
    close_aborted_holds e =
        lands _ s.net acts (i ∷ bad)
        (applies.close_change side i (ap is_ended e) (λ x. clash (ap was_tried (sym x ∙ e))) m.1)

    pub close_failed_holds : (en i).change.apply ≡ Failed → Headed (closed s.applied.head (num i) (num i) (en i).change.ordinal) (λ vs. vs) s.net acts (i ∷ bad)
    close_failed_holds e =
        lands _ s.net acts (i ∷ bad)
        (applies.close_change side i (ap is_ended e)
        (λ x. applies.started_clear side i (ap is_started e) m.1) m.1)

    pub push_apply : (w : Net) → (en i).change.apply ≡ InProgress
        → Headed (landed s.applied.head (num i) (num i) (en i).change.ordinal) (over (en i).paths (en i).values (en i).count) w (push i ∷ acts) bad
    push_apply w e = lands _ w (push i ∷ acts) bad (applies.push_change side i e m.1)

  pub finish_apply : (i : ℕ) → (en i).change.commit ≡ Complete → (en i).change.apply ≡ InProgress → at ≡ (en i).change.ordinal.0
      → Invariant (putting s i (with_change (en i) (apply_at (en i).change Complete))) ops acts bad
  finish_apply i m e o = set_change i Complete m (applies.finish_change side i e o)

  -- ---- job 4: the rollback of i is committed, and its ordinal the next
  module _ (i : ℕ) (m : ((en i).rollback.commit ≡ Complete) × ((en i).rollback.ordinal.0 ≡ suc at)) where
    pub begin_return : (en i).rollback.apply ≡ Pending → was_tried (en i).change.apply ≡ true → s.applied.head.target.0 ≡ (en i).index.0
        → Invariant (putting s i (with_rollback (en i) (apply_at (en i).rollback InProgress))) ops acts bad
    begin_return e t g = set_rollback i InProgress refl m.0 (applies.begin_rollback side i e m.1 t g)

    pub aim_return : settled s ≡ true → Headed (aimed s.applied.head (en i).index) (λ vs. vs) s.net acts bad
    aim_return q =
        lands _ s.net acts bad
        (applies.aim_rollback side i m.1 (settled_quiet q))

    pub cancel_return : (en i).rollback.apply ≡ Pending → (en i).change.apply ≡ Aborted → settled s ≡ true
        → Invariant (putting s i (with_rollback (en i) (apply_at (en i).rollback Canceled))) ops acts bad
    cancel_return e t q = set_rollback i Canceled refl m.0 (applies.cancel_rollback side i e m.1 t (settled_quiet q))

    pub close_return : (en i).rollback.apply ≡ Canceled → Headed (closed s.applied.head (num i) (en i).index (en i).rollback.ordinal) (λ vs. vs) s.net acts (tail bad)
    close_return e =
        lands _ s.net acts (tail bad)
        (applies.close_rollback bad side i e m.1)

    pub push_return : (w : Net) → (en i).rollback.apply ≡ InProgress
        → Headed (landed s.applied.head (num i) (en i).index (en i).rollback.ordinal) (over (en i).paths (en i).kept (en i).count) w (pop i ∷ acts) (tail bad)
    push_return w e = lands _ w (pop i ∷ acts) (tail bad) (applies.push_rollback bad side i e m.1)

  pub finish_return : (i : ℕ) → (en i).rollback.commit ≡ Complete → (en i).rollback.apply ≡ InProgress → at ≡ (en i).rollback.ordinal.0
      → Invariant (putting s i (with_rollback (en i) (apply_at (en i).rollback Complete))) ops acts bad
  finish_return i m e o = set_rollback i Complete refl m (applies.finish_rollback side i e o)

  -- ---- the nodes' side
  pub wires : (w : Net) → Invariant (with_net s w) ops acts bad
  wires w = record { sides = inv.sides; numbered = inv.numbered; committed = inv.committed; applied = inv.applied }

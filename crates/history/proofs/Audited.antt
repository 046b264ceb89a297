-- What the log shows holds in every reached state (Audit says what is shown). Assumes nothing.
use Prim.Native.Nat.{ℕ, suc, ◌+◌, ◌≤◌, ◌<◌}
use native.Mathlib.Omega.{arith}
use mathlib.Core.List.{List}
use mathlib.Core.Bool.{Bool, true, false, not, ◌&&◌, ◌||◌, cond}
use mathlib.Core.Path.{◌≡◌, refl, sym, ap, ap₂, ◌∙◌, subst}
use lib.Dec.{eqb, ltb, leb}
use borrow.Author.Tests.{eqb-true, le-leb, leb-false, ltb-true}
use Rattle.kinds.specs.declared.Transaction.{Transaction}
use Rattle.kinds.specs.declared.Event.{Event}
use Rattle.kinds.specs.declared.Status.{Status}
use Rattle.kinds.specs.declared.Status.TheVariants.{None, Pending, InProgress, Complete, Aborted, Canceled, Failed}
use Rattle.kinds.specs.Numbers.{num, follows, is_full}
use Rattle.kinds.specs.Statuses.{is_complete, is_failed}
use Rattle.rules.specs.declared.CommitChangeRule.TheVariants as change
use Rattle.rules.specs.declared.CommitRollbackRule.TheVariants as rollback
use Rattle.rules.specs.declared.ApplyChangeRule.{ApplyChangeRule}
use Rattle.rules.specs.declared.ApplyChangeRule.TheVariants as apply
use Rattle.rules.specs.declared.ApplyRollbackRule.{ApplyRollbackRule}
use Rattle.rules.specs.declared.ApplyRollbackRule.TheVariants as return
use Rattle.rules.specs.declared.ApplyChangeTests.{ApplyChangeTests}
use Rattle.rules.specs.declared.ApplyRollbackTests.{ApplyRollbackTests}
use Rattle.rules.specs.CommitChange as job1
use Rattle.rules.specs.CommitRollback as job3
use Rattle.rules.specs.ApplyChange as job2
use Rattle.rules.specs.ApplyRollback as job4
use Rattle.rules.specs.ApplyRollback.{is_aborted}
use Rattle.machine.specs.State.{State, Log, entry_of, last, line_open_for}
use Rattle.machine.specs.Settled.{settled}
use Rattle.machine.specs.Calls.{Call}
use Rattle.machine.specs.Rest.{rest_of}
use Rattle.machine.specs.Step.{run}
use Rattle.machine.specs.Why.{is}
use Rattle.machine.specs.Class.{class_by, class_of}
use Rattle.machine.specs.Taken as taken
use Rattle.history.specs.Demand3.{completed, live, kept}
use Rattle.history.specs.Ops.{ops_of, told_change, told_rollback, first, crash}
use Rattle.history.specs.Invariant.{is_going, complete, Paired, Sides}
use Rattle.history.specs.Frames.{paired, going_complete}
use Rattle.history.proofs.Commits.{tip_back, some_back}
use Rattle.machine.proofs.Entries.{entry_folded}
use Rattle.history.specs.Whole.{whole, shown_log, shown, Front}
use Rattle.history.proofs.Follow.{entry_seen}
use Rattle.history.proofs.Reached.{Reached, folded}
use Rattle.history.proofs.ByNumber.{list_same}
use Rattle.history.specs.Marks.{is_canceled, never_begun, Mark}
use Rattle.history.proofs.Marked.{Marked, marked}
use Rattle.history.specs.Audit.{closes1, closes2, closes3, closes4, closing2, closing4, Shown, Audited, Classed, landed, took, undid, holds}

landed_complete : (c : Status) (a o : ℕ) → complete c a o ≡ landed c a o
landed_complete None a o = refl
landed_complete Pending a o = refl
landed_complete InProgress a o = refl
landed_complete Complete a o = refl
landed_complete Aborted a o = refl
landed_complete Canceled a o = refl
landed_complete Failed a o = refl

-- what the reads answer (machine's Taken) is the same
landed_same : (c : Status) (a o : ℕ) → taken.landed c a o ≡ landed c a o
landed_same None a o = refl
landed_same Pending a o = refl
landed_same InProgress a o = refl
landed_same Complete a o = refl
landed_same Aborted a o = refl
landed_same Canceled a o = refl
landed_same Failed a o = refl

pub took_same : (l : Log) (a k : ℕ) → taken.took l a k ≡ took l a k
took_same l a k = landed_same (entry_of l k).change.apply a (entry_of l k).change.ordinal.0

pub undid_same : (l : Log) (a k : ℕ) → taken.undid l a k ≡ undid l a k
undid_same l a k = landed_same (entry_of l k).rollback.apply a (entry_of l k).rollback.ordinal.0

pub holds_same : (s : State) (k : ℕ) → taken.holds s k ≡ holds s k
holds_same s k = ap₂ (λ x y. x && not y) (took_same s.log s.applied.head.ordinal.0 k) (undid_same s.log s.applied.head.ordinal.0 k)

no_close2 : (b : Bool) (x y : ApplyChangeRule) → closes2 x ≡ false → closes2 y ≡ false → closes2 (cond b x y) ≡ false
no_close2 true x y e f = e
no_close2 false x y e f = f

no_close4 : (b : Bool) (x y : ApplyRollbackRule) → closes4 x ≡ false → closes4 y ≡ false → closes4 (cond b x y) ≡ false
no_close4 true x y e f = e
no_close4 false x y e f = f

-- job 1: what is complete by its head closes
close1 : (c : Status) (n k : ℕ) (a r y f : Bool)
    → complete c n k ≡ (is_complete c || closes1 (job1.rule c (record { ready = follows n k; aimed = a; rest = r; accepted = y; full = f; landed = eqb n k })))
close1 None n k a r y f = refl
close1 Pending n k a r y f = sym (go (follows n k) a r)
  where
    go : (x a r : Bool) → closes1 (cond x (cond a change.Begin (cond r change.Aim change.Wait)) change.Wait) ≡ false
    go true true r = refl
    go true false true = refl
    go true false false = refl
    go false a r = refl
close1 InProgress n k a r y f = go (follows n k) refl (eqb n k) refl y f
  where
    go : (x : Bool) → follows n k ≡ x → (z : Bool) → eqb n k ≡ z → (y f : Bool)
        → z ≡ closes1 (cond x (cond y (cond f change.Full change.Land) change.Reject) (cond z change.Finish change.Wait))
    go true p true q y f = absurd (omega (arith, eqb-true (n + 1) k p, eqb-true n k q))
    go true p false q true true = refl
    go true p false q true false = refl
    go true p false q false f = refl
    go false p true q y f = refl
    go false p false q y f = refl
close1 Complete n k a r y f = refl
close1 Aborted n k a r y f = refl
close1 Canceled n k a r y f = refl
close1 Failed n k a r y f = sym (go (follows n k))
  where
    go : (x : Bool) → closes1 (cond x change.Close change.Wait) ≡ false
    go true = refl
    go false = refl

-- job 3: v is the revision and n is r.index
close3 : (c : Status) (v n k : ℕ) (a r f : Bool) → (c ≡ InProgress → v ≡ k → v ≡ n → ⊥)
    → complete c v n ≡ (is_complete c || closes3 (job3.rule c (record { ready = eqb v k; aimed = a; rest = r; accepted = true; full = f; landed = eqb v n })))
close3 None v n k a r f h = refl
close3 Pending v n k a r f h = sym (go (eqb v k) a r)
  where
    go : (x a r : Bool) → closes3 (cond x (cond a rollback.Begin (cond r rollback.Aim rollback.Wait)) rollback.Wait) ≡ false
    go true true r = refl
    go true false true = refl
    go true false false = refl
    go false a r = refl
close3 InProgress v n k a r f h = go (eqb v k) refl (eqb v n) refl f
  where
    go : (x : Bool) → eqb v k ≡ x → (z : Bool) → eqb v n ≡ z → (f : Bool)
        → z ≡ closes3 (cond x (cond f rollback.Full rollback.Land) (cond z rollback.Finish rollback.Wait))
    go true p true q f = absurd (h refl (eqb-true v k p) (eqb-true v n q))
    go true p false q true = refl
    go true p false q false = refl
    go false p true q f = refl
    go false p false q f = refl
close3 Complete v n k a r f h = refl
close3 Aborted v n k a r f h = refl
close3 Canceled v n k a r f h = refl
close3 Failed v n k a r f h = refl

-- job 2: o is the change's ordinal and a the applied one
close2 : (c : Status) (a o : ℕ) (m : Bool) (t : ApplyChangeTests) → t.committed ≡ m → t.landed ≡ (leb 1 o && eqb a o) → (c ≡ InProgress → (m ≡ true) × (1 ≤ o))
    → complete c a o ≡ (is_complete c || closes2 (job2.rule c t))
close2 None a o m t e f h = sym (no_close2 t.committed apply.Wait apply.Wait refl refl)
close2 Pending a o m t e f h =
    sym
    (no_close2 t.committed _ apply.Wait
    (no_close2 t.next _ apply.Wait
    (no_close2 t.aimed apply.Begin _ refl
    (no_close2 t.settled _ apply.Wait (no_close2 t.passed apply.Abort _ refl (no_close2 t.level apply.Aim apply.Wait refl refl)) refl))
    refl)
    refl)
close2 InProgress a o m t e f h =
    let x = h refl in
    sym (rw (e ∙ x.0, f, le-leb 1 o x.1) (go (eqb a o)))
  where
    go : (b : Bool)
        → closes2
        (cond b apply.Finish
        (cond t.next (cond t.undone apply.Fail (cond t.line (cond t.accepted apply.Push apply.Fail) apply.NoLine)) apply.Wait))
        ≡ b
    go true = refl
    go false =
        no_close2 t.next _ apply.Wait
        (no_close2 t.undone apply.Fail _ refl (no_close2 t.line _ apply.NoLine (no_close2 t.accepted apply.Push apply.Fail refl refl) refl)) refl
close2 Complete a o m t e f h = refl
close2 Aborted a o m t e f h = sym (no_close2 t.committed _ apply.Wait (no_close2 t.next apply.Close apply.Wait refl refl) refl)
close2 Canceled a o m t e f h = sym (no_close2 t.committed apply.Wait apply.Wait refl refl)
close2 Failed a o m t e f h = sym (no_close2 t.committed _ apply.Wait (no_close2 t.next apply.Close apply.Wait refl refl) refl)

close4 : (c : Status) (a o : ℕ) (m : Bool) (t : ApplyRollbackTests) → t.committed ≡ m → t.landed ≡ (leb 1 o && eqb a o) → (c ≡ InProgress → (m ≡ true) × (1 ≤ o))
    → complete c a o ≡ (is_complete c || closes4 (job4.rule c t))
close4 None a o m t e f h = sym (no_close4 t.committed return.Wait return.Wait refl refl)
close4 Pending a o m t e f h =
    sym
    (no_close4 t.committed _ return.Wait
    (no_close4 t.next _ return.Wait
    (no_close4 t.tried _ _ (no_close4 t.aimed return.Begin _ refl (no_close4 t.settled return.Aim return.Wait refl refl))
    (no_close4 t.aborted _ return.Wait (no_close4 t.settled return.Cancel return.Wait refl refl) refl))
    refl)
    refl)
close4 InProgress a o m t e f h =
    let x = h refl in
    sym (rw (e ∙ x.0, f, le-leb 1 o x.1) (go (eqb a o)))
  where
    go : (b : Bool)
        → closes4
        (cond b return.Finish (cond t.next (cond t.line (cond t.accepted return.Push return.Rejected) return.NoLine) return.Wait))
        ≡ b
    go true = refl
    go false = no_close4 t.next _ return.Wait (no_close4 t.line _ return.NoLine (no_close4 t.accepted return.Push return.Rejected refl refl) refl) refl
close4 Complete a o m t e f h = refl
close4 Aborted a o m t e f h = sym (no_close4 t.committed return.Wait return.Wait refl refl)
close4 Canceled a o m t e f h = sym (no_close4 t.committed _ return.Wait (no_close4 t.next return.Close return.Wait refl refl) refl)
close4 Failed a o m t e f h = sym (no_close4 t.committed return.Wait return.Wait refl refl)

-- a status that is no push made
none_landed : (c : Status) (a o : ℕ) → is_complete c ≡ false → is_going c ≡ false → complete c a o ≡ false
none_landed c a o e f = rw (e, f) refl

-- ---- a class, by what its rule looks at
by_class : (P : ℕ → Type 0) (p q r u v : Bool) → (p ≡ true → P 6) → (p ≡ false → q ≡ false → P 5) → (q ≡ true → r ≡ true → P 4)
    → (q ≡ true → r ≡ false → u ≡ true → P 3) → (q ≡ true → r ≡ false → v ≡ true → P 2) → (q ≡ true → r ≡ false → P 1)
    → P (cond p 6 (cond (not q) 5 (cond r 4 (cond u 3 (cond v 2 1)))))
by_class P true q r u v a b c d e f = a refl
by_class P false false r u v a b c d e f = b refl refl
by_class P false true true u v a b c d e f = c refl refl
by_class P false true false true v a b c d e f = d refl refl refl
by_class P false true false false true a b c d e f = e refl refl refl
by_class P false true false false false a b c d e f = f refl refl

is_complete_holds : (x : Status) → is x Complete ≡ is_complete x
is_complete_holds None = refl
is_complete_holds Pending = refl
is_complete_holds InProgress = refl
is_complete_holds Complete = refl
is_complete_holds Aborted = refl
is_complete_holds Canceled = refl
is_complete_holds Failed = refl

-- what is stopped, invalid, or not asked to be undone has no push made
none_stopped : (x : Status) (a o : ℕ) → (is x Aborted || is x Failed) ≡ true → complete x a o ≡ false
none_stopped None a o e = crash e
none_stopped Pending a o e = crash e
none_stopped InProgress a o e = crash e
none_stopped Complete a o e = crash e
none_stopped Aborted a o e = refl
none_stopped Canceled a o e = crash e
none_stopped Failed a o e = refl

none_invalid : (c x : Status) (a o : ℕ) → Paired c x o → is c Failed ≡ true → complete x a o ≡ false
none_invalid None x a o p e = crash e
none_invalid Pending x a o p e = crash e
none_invalid InProgress x a o p e = crash e
none_invalid Complete x a o p e = crash e
none_invalid Aborted x a o p e = crash e
none_invalid Canceled x a o p e = crash e
none_invalid Failed x a o p e = ap (λ y. complete y a o) p.0

none_asked : (c x : Status) (a o : ℕ) → Paired c x o → is c None ≡ true → complete x a o ≡ false
none_asked None x a o p e = ap (λ y. complete y a o) p.0
none_asked Pending x a o p e = crash e
none_asked InProgress x a o p e = crash e
none_asked Complete x a o p e = crash e
none_asked Aborted x a o p e = crash e
none_asked Canceled x a o p e = crash e
none_asked Failed x a o p e = crash e

-- a rollback that ended was pushed, or was spared with its change
none_left : (x y : Status) (a o u : ℕ) → (y ≡ Canceled → x ≡ Aborted) → (is y Complete || is y Canceled) ≡ true → (complete x a o && not (complete y a u)) ≡ false
none_left x None a o u h e = crash e
none_left x Pending a o u h e = crash e
none_left x InProgress a o u h e = crash e
none_left x Complete a o u h e = and_none (complete x a o)
  where
    and_none : (b : Bool) → (b && false) ≡ false
    and_none true = refl
    and_none false = refl
none_left x Aborted a o u h e = crash e
none_left x Canceled a o u h e = ap (λ z. complete z a o && true) (h refl)
none_left x Failed a o u h e = crash e

-- ---- the whole s, its first b folded away
module _ (s : State) (es : List Event) (r : Reached s es) (marks : Marked s.log s.applied.head es) (b : ℕ) (vs : List ℕ) (f : Front s.log b vs) where
  -- what is known of entry k
  record Known (k : ℕ) (t : Transaction) : Type 0 where
    did1 : completed es 1 1 k ≡ complete t.change.commit s.change.0 k
    did2 : completed es 1 2 k ≡ complete t.change.apply s.applied.head.ordinal.0 t.change.ordinal.0
    undid1 : completed es 2 1 k ≡ complete t.rollback.commit s.committed.head.revision.0 t.index.0
    undid2 : completed es 2 2 k ≡ complete t.rollback.apply s.applied.head.ordinal.0 t.rollback.ordinal.0
    sides : Sides t
    mark : Mark s.applied.head.ordinal.0 s.applied.head.target.0 (first (ops_of Complete 1 es) s.applied.head.ordinal.0) es k t
    back : t.rollback.commit ≡ InProgress → s.committed.head.revision.0 ≡ k → t.index.0 < k
    spared : t.rollback.apply ≡ Canceled → t.change.apply ≡ Aborted

  known : (k : ℕ) → Known k (entry_of s.log k)
  known k =
      record {
        did1 = told_change Complete es 1 k ∙ (r.inv.committed.entries k).done;
        did2 = told_change Complete es 2 k ∙ (r.inv.applied.entries k).change.taken;
        undid1 = told_rollback Complete es 1 k ∙ (r.inv.committed.entries k).undone;
        undid2 = told_rollback Complete es 2 k ∙ (r.inv.applied.entries k).rollback.returned;
        sides = r.inv.sides k;
        mark = marks k;
        back = λ e x. tip_back r.inv.committed k (sym x) (omega (arith, some_back s.log k (ap is_going e)));
        spared = (r.inv.applied.entries k).spared;
      }

  abbrev kn : State
  kn = shown s b vs

  abbrev en : ℕ → Transaction
  en k = entry_of (shown_log s.log b vs) k

  seen : (k : ℕ) → b < k → Known k (en k)
  seen k p = subst (Known k) (sym (entry_seen s b vs f k p)) (known k)

  -- an apply in progress was committed, and has an ordinal
  going : (c x : Status) (o : ℕ) → Paired c x o → x ≡ InProgress → (is_complete c ≡ true) × (1 ≤ o)
  going c x o p e = let w : c ≡ Complete = going_complete c x o p e in (ap is_complete w, paired c Complete x o w p)

  stopped : (c : Status) → (is_aborted c || is_canceled c) ≡ true → (is_complete c ≡ false) × (is_going c ≡ false) × (never_begun c ≡ true)
  stopped None e = crash e
  stopped Pending e = crash e
  stopped InProgress e = crash e
  stopped Complete e = crash e
  stopped Aborted e = (refl, refl, refl)
  stopped Canceled e = (refl, refl, refl)
  stopped Failed e = crash e

  canceled : (c : Status) → is_canceled c ≡ true → (is_complete c ≡ false) × (is_going c ≡ false) × (never_begun c ≡ true)
  canceled None e = crash e
  canceled Pending e = crash e
  canceled InProgress e = crash e
  canceled Complete e = crash e
  canceled Aborted e = crash e
  canceled Canceled e = (refl, refl, refl)
  canceled Failed e = crash e

  failed : (c : Status) → is_failed c ≡ true → (is_complete c ≡ false) × (is_going c ≡ false)
  failed None e = crash e
  failed Pending e = crash e
  failed InProgress e = crash e
  failed Complete e = crash e
  failed Aborted e = crash e
  failed Canceled e = crash e
  failed Failed e = (refl, refl)

  shows : (k : ℕ) → b < k → Shown kn es k
  shows k p =
      let x = seen k p in
      let m = x.mark in
      record {
        committed = λ ok. x.did1 ∙ close1 (en k).change.commit s.change.0 k (eqb s.committed.head.target.0 k) (rest_of kn) ok (is_full s.committed.head.ordinal.0);
        applied = λ n ok. x.did2 ∙ close2 (en k).change.apply s.applied.head.ordinal.0 (en k).change.ordinal.0 (is_complete (en k).change.commit) (job2.tests (en k) s.applied.head (settled kn) (num k) (line_open_for s.net n) ok) refl refl (going (en k).change.commit (en k).change.apply (en k).change.ordinal.0 x.sides.change);
        rolled_back = x.undid1 ∙ close3 (en k).rollback.commit s.committed.head.revision.0 (en k).index.0 k (eqb s.committed.head.target.0 (en k).index.0) (rest_of kn) (is_full s.committed.head.ordinal.0)
            (λ e y z. omega (arith, x.back e y));
        returned = λ n ok. x.undid2 ∙ close4 (en k).rollback.apply s.applied.head.ordinal.0 (en k).rollback.ordinal.0 (is_complete (en k).rollback.commit) (job4.tests (en k) s.applied.head (settled kn) (line_open_for s.net n) ok) refl refl (going (en k).rollback.commit (en k).rollback.apply (en k).rollback.ordinal.0 x.sides.rollback);
        invalid = m.rejected;
        failed = m.failed;
        aborted = m.aborted;
        canceled = m.canceled;
        never_began = λ e. let y = stopped (en k).change.apply e in (m.never y.2, x.did2 ∙ none_landed (en k).change.apply s.applied.head.ordinal.0 (en k).change.ordinal.0 y.0 y.1);
        never_returned = λ e. let y = canceled (en k).rollback.apply e in (m.never_back y.2, x.undid2 ∙ none_landed (en k).rollback.apply s.applied.head.ordinal.0 (en k).rollback.ordinal.0 y.0 y.1);
        never_committed = λ e. let y = failed (en k).change.commit e in x.did1 ∙ none_landed (en k).change.commit s.change.0 k y.0 y.1;
        never_taken = λ e. let y = failed (en k).change.apply e in x.did2 ∙ none_landed (en k).change.apply s.applied.head.ordinal.0 (en k).change.ordinal.0 y.0 y.1;
      }

  -- ---- what a class tells, class by class
  module _ (k : ℕ) (p : b < k) where
    abbrev a : ℕ
    a = s.applied.head.ordinal.0

    abbrev Tells : ℕ → Type 0
    Tells c = Classed kn es k c

    -- not asked to be undone
    stays : is (en k).rollback.commit None ≡ true → completed es 2 2 k ≡ false
    stays q = let x = seen k p in x.undid2 ∙ none_asked (en k).rollback.commit (en k).rollback.apply a (en k).rollback.ordinal.0 x.sides.rollback q

    open_1 : is (en k).rollback.commit None ≡ true → is (en k).change.apply Complete ≡ false → Tells 1
    open_1 q r =
        record {
          known = (omega arith, omega arith);
          still_open = λ e n ok. (shows k p).applied n ok ∙ ap (λ z. z || closing2 kn k n ok) (sym (is_complete_holds (en k).change.apply) ∙ r);
          never = λ e f. absurd (omega arith);
          taken = λ e. absurd (omega arith);
          stays = λ e. stays q;
          undoing = λ e. absurd (omega arith);
          undone = λ e. absurd (omega arith);
        }

    never_2 : (c : ℕ) → 2 ≤ c → c ≤ 3 → is (en k).rollback.commit None ≡ true → completed es 1 2 k ≡ false → Tells c
    never_2 c l h q r =
        record {
          known = (omega arith, omega arith);
          still_open = λ e. absurd (omega arith);
          never = λ e f. r;
          taken = λ e. absurd (omega arith);
          stays = λ e. stays q;
          undoing = λ e. absurd (omega arith);
          undone = λ e. absurd (omega arith);
        }

    taken_4 : is (en k).rollback.commit None ≡ true → is (en k).change.apply Complete ≡ true → Tells 4
    taken_4 q r =
        record {
          known = (omega arith, omega arith);
          still_open = λ e. absurd (omega arith);
          never = λ e f. absurd (omega arith);
          taken = λ e. (shows k p).applied 0 true ∙ ap (λ z. z || closing2 kn k 0 true) (sym (is_complete_holds (en k).change.apply) ∙ r);
          stays = λ e. stays q;
          undoing = λ e. absurd (omega arith);
          undone = λ e. absurd (omega arith);
        }

    undoing_5 : (is (en k).rollback.apply Complete || is (en k).rollback.apply Canceled) ≡ false → Tells 5
    undoing_5 q =
        record {
          known = (omega arith, omega arith);
          still_open = λ e. absurd (omega arith);
          never = λ e f. absurd (omega arith);
          taken = λ e. absurd (omega arith);
          stays = λ e. absurd (omega arith);
          undoing = λ e n ok. (shows k p).returned n ok
              ∙ ap (λ z. z || closing4 kn k n ok) (sym (is_complete_holds (en k).rollback.apply) ∙ first_false (is (en k).rollback.apply Complete) (is (en k).rollback.apply Canceled) q);
          undone = λ e. absurd (omega arith);
        }
      where
        first_false : (x y : Bool) → (x || y) ≡ false → x ≡ false
        first_false true y e = e
        first_false false y e = refl

    undone_6 : (is (en k).rollback.apply Complete || is (en k).rollback.apply Canceled) ≡ true → Tells 6
    undone_6 q =
        let x = seen k p in
        record {
          known = (omega arith, omega arith);
          still_open = λ e. absurd (omega arith);
          never = λ e f. absurd (omega arith);
          taken = λ e. absurd (omega arith);
          stays = λ e. absurd (omega arith);
          undoing = λ e. absurd (omega arith);
          undone = λ e. ap₂ (λ y z. y && not z) x.did2 x.undid2
              ∙ none_left (en k).change.apply (en k).rollback.apply a (en k).change.ordinal.0 (en k).rollback.ordinal.0 x.spared q;
        }

    classes : Tells (class_of (en k))
    unfolding class_by
    classes =
        let x = seen k p in
        by_class Tells (is (en k).rollback.apply Complete || is (en k).rollback.apply Canceled) (is (en k).rollback.commit None)
        (is (en k).change.apply Complete) (is (en k).change.commit Failed) (is (en k).change.apply Aborted || is (en k).change.apply Failed)
        undone_6 (λ e q. undoing_5 e) taken_4
        (λ q r u. never_2 3 (omega arith) (omega arith) q
        (x.did2 ∙ none_invalid (en k).change.commit (en k).change.apply a (en k).change.ordinal.0 x.sides.change u))
        (λ q r v. never_2 2 (omega arith) (omega arith) q (x.did2 ∙ none_stopped (en k).change.apply a (en k).change.ordinal.0 v))
        open_1

  took_is : (k : ℕ) → b < k → took kn.log s.applied.head.ordinal.0 k ≡ completed es 1 2 k
  took_is k p = sym ((seen k p).did2 ∙ landed_complete (en k).change.apply s.applied.head.ordinal.0 (en k).change.ordinal.0)

  undid_is : (k : ℕ) → b < k → undid kn.log s.applied.head.ordinal.0 k ≡ completed es 2 2 k
  undid_is k p = sym ((seen k p).undid2 ∙ landed_complete (en k).rollback.apply s.applied.head.ordinal.0 (en k).rollback.ordinal.0)

  audits : Audited kn es
  audits =
      record {
        took = took_is;
        undid = undid_is;
        set = list_same (holds kn) (kept kn (live es 2)) (last kn.log) (λ k u v. go k (ltb b k) refl);
      }
    where
      go : (k : ℕ) (x : Bool) → ltb b k ≡ x → holds kn k ≡ (ltb b k && live es 2 k)
      go k true e = rw e (ap₂ (λ x y. x && not y) (took_is k (ltb-true b k e)) (undid_is k (ltb-true b k e)))
      go k false e =
          rw e (ap (λ t. landed t.change.apply s.applied.head.ordinal.0 t.change.ordinal.0 && not (landed t.rollback.apply s.applied.head.ordinal.0 t.rollback.ordinal.0))
          (entry_folded kn.log k (omega (arith, leb-false (suc b) k e))))

-- ---- the theorems
pub log_shows : (m : Bool) (cs : List Call) (k : ℕ) → (run m cs).state.log.folded.0 < k → Shown (run m cs).state (run m cs).events k
log_shows m cs k =
    let x = folded m cs in
    subst (λ s. s.log.folded.0 < k → Shown s (run m cs).events k) (sym x.shows) (shows (whole m cs) (run m cs).events x.reached (marked m cs) x.fold x.base x.front k)

pub audited : (m : Bool) (cs : List Call) → Audited (run m cs).state (run m cs).events
audited m cs =
    let x = folded m cs in
    subst (λ s. Audited s (run m cs).events) (sym x.shows) (audits (whole m cs) (run m cs).events x.reached (marked m cs) x.fold x.base x.front)

pub classed : (m : Bool) (cs : List Call) (k : ℕ) → (run m cs).state.log.folded.0 < k
    → Classed (run m cs).state (run m cs).events k (class_of (entry_of (run m cs).state.log k))
classed m cs k =
    let x = folded m cs in
    subst (λ s. s.log.folded.0 < k → Classed s (run m cs).events k (class_of (entry_of s.log k))) (sym x.shows)
    (classes (whole m cs) (run m cs).events x.reached (marked m cs) x.fold x.base x.front k)

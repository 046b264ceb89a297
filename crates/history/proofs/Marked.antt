-- Every call keeps the marks (Marks), refused and cut ones too; so they hold after any calls from fresh. Assumes nothing.
use Prim.Native.Nat.{ℕ, suc, ◌≤◌, ◌<◌}
use native.Mathlib.Omega.{arith}
use mathlib.Core.List.{List, [], ◌∷◌, ◌++◌}
use mathlib.Core.Bool.{Bool, true, false, ◌||◌, or-true}
use mathlib.Core.Path.{◌≡◌, refl, sym, ap, ◌∙◌, subst}
use lib.Dec.{eqb}
use lib.ListN.{length, get_or}
use borrow.Author.Tests.{eqb-true, eq-eqb}
use Rattle.kinds.specs.declared.Transaction.{Transaction}
use Rattle.kinds.specs.declared.Event.{Event}
use Rattle.kinds.specs.declared.Reply.{Reply}
use Rattle.kinds.specs.declared.Head.{Head}
use Rattle.kinds.specs.declared.Ordinal.{Ordinal}
use Rattle.kinds.specs.declared.Status.TheVariants.{None, Pending, InProgress, Complete, Aborted, Canceled, Failed}
use Rattle.kinds.specs.Numbers.{num, ord}
use Rattle.kinds.specs.Records.{with_change, with_rollback}
use Rattle.kinds.specs.Events.{no_event, event}
use Rattle.rules.specs.Heads.{aimed, landed, closed}
use Rattle.rules.specs.Sides.{apply_at, begun, committed, invalid}
use Rattle.rules.specs.CommitChange.{beginning}
use Rattle.rules.specs.Outside.{may_roll_back, rolled_back}
use Rattle.rules.specs.ApplyRollback.{was_tried, is_aborted}
use Rattle.rules.specs.declared.CommitChangeRule.TheVariants as change
use Rattle.rules.specs.declared.CommitRollbackRule.TheVariants as rollback
use Rattle.rules.specs.declared.ApplyChangeRule.TheVariants as apply
use Rattle.rules.specs.declared.ApplyRollbackRule.TheVariants as return
use Rattle.rules.specs.CommitChange as job1
use Rattle.rules.specs.CommitRollback as job3
use Rattle.rules.specs.ApplyChange as job2
use Rattle.rules.specs.ApplyRollback as job4
use Rattle.kinds.specs.Statuses.{is_failed, is_pending}
use Rattle.machine.specs.State.{State, Log, blank, entry_of, put_entry, grown, last}
use Rattle.machine.specs.Calls.{Call, Pair, appended, present_of}
use Rattle.machine.specs.Rest.{rest_of}
use Rattle.machine.specs.Settled.{settled}
use Rattle.machine.specs.Step.{run}
use Rattle.machine.proofs.Next.{putting}
use Rattle.machine.proofs.Cases.{and_left}
use Rattle.machine.proofs.Entries.{put_all, add_all, entry_past, none_all, entry_put, last_put}
use Rattle.machine.proofs.ByCall.{Does, Calls}
use Rattle.machine.specs.Notes.{Note}
use Rattle.history.specs.Demand3.{tells, told}
use Rattle.history.specs.Ops.{Op, push, pop, ops_of, popped, tail, first, first_more, clash, crash}
use Rattle.history.specs.Invariant.{Invariant}
use Rattle.history.specs.Frames.{by_eq, paired}
use Rattle.history.proofs.Applies as applies
use Rattle.history.proofs.Jobs as jobs
use Rattle.history.specs.Whole.{whole}
use Rattle.history.proofs.Reached.{reached, by_history}
use Rattle.history.specs.Marks.{is_canceled, never_begun, Mark, other_stage, other_number, put_marks, alike}

abbrev pub Marked : Log → Head → List Event → Type 0
Marked l h es = (k : ℕ) → Mark h.ordinal.0 h.target.0 (first (ops_of Complete 1 es) h.ordinal.0) es k (entry_of l k)

not_told : (b : Bool) → (b ≡ true → ⊥) → b ≡ false
not_told true f = absurd (f refl)
not_told false f = refl

module _ (s : State) (es : List Event) (bad : List ℕ) (inv : Invariant s (ops_of Complete 1 es) (ops_of Complete 2 es) bad) (marks : Marked s.log s.applied.head es) where
  abbrev ops : List Op
  ops = ops_of Complete 1 es

  abbrev at : ℕ
  at = s.applied.head.ordinal.0

  abbrev tg : ℕ
  tg = s.applied.head.target.0

  abbrev en : ℕ → Transaction
  en i = entry_of s.log i

  -- ---- events of the commit stage, and none
  carry : (e : Event) → eqb e.stage 2 ≡ false → ((k : ℕ) → tells Failed e 1 1 k ≡ false) → first (ops_of Complete 1 (e ∷ es)) at ≡ first ops at → Marked s.log s.applied.head (e ∷ es)
  carry e d f w k = rw w (other_stage at tg (first ops at) es e d f k (en k) (marks k))

  -- an entry stored with no event
  put : (i : ℕ) (t : Transaction) → Mark at tg (first ops at) es i t → Marked (put_entry s.log i t) s.applied.head es
  put i t m = put_all (λ k u. Mark at tg (first ops at) es k u) s.log i t marks m

  -- and with one of its number, which completes no commit
  put_told : (e : Event) (i : ℕ) (t : Transaction) → s.log.folded.0 < i → i ≤ last s.log → e.number.0 ≡ i → ops_of Complete 1 (e ∷ es) ≡ ops → Mark at tg (first ops at) (e ∷ es) i t
      → Marked (put_entry s.log i t) s.applied.head (e ∷ es)
  put_told e i t p q n w m = rw w (put_marks at tg (first ops at) es e s.log i t p q n marks m)

  -- ---- entries of jobs 1 and 3
  pub begin1 : (i : ℕ) → (en i).change.commit ≡ Pending → Marked (put_entry s.log i (beginning (en i) s.committed.head.revision (present_of s (en i)))) s.applied.head es
  begin1 i e = put i _ (alike at tg (first ops at) es i (en i) _ (sym (ap is_failed e)) refl refl (λ x y. refl) (marks i))

  pub finish1 : (i : ℕ) (o : Ordinal) → (en i).change.commit ≡ InProgress → Marked (put_entry s.log i (with_change (en i) (committed (en i).change o))) s.applied.head es
  finish1 i o e =
      let p : ((en i).change.apply ≡ Pending) × ((en i).change.ordinal.0 ≡ 0) = paired (en i).change.commit InProgress _ _ e (inv.sides i).change in
      put i _ (alike at tg (first ops at) es i (en i) _ (sym (ap is_failed e)) refl refl (λ x y. absurd (omega (arith, ((marks i).aimed x y).0))) (marks i))

  pub reject1 : (i : ℕ) → s.log.folded.0 < i → i ≤ last s.log → (en i).change.commit ≡ InProgress
      → Marked (put_entry s.log i (with_change (en i) (invalid (en i).change))) s.applied.head (event 1 1 (num i) Failed ∷ es)
  unfolding told ops_of
  reject1 i b q e =
      let m = marks i in
      let p : ((en i).change.apply ≡ Pending) × ((en i).change.ordinal.0 ≡ 0) = paired (en i).change.commit InProgress _ _ e (inv.sides i).change in
      put_told (event 1 1 (num i) Failed) i _ b q refl refl (record {
        rejected = ap (λ x. x || told Failed es 1 1 i) (eq-eqb i i refl);
        failed = m.failed ∙ ap is_failed p.0;
        aborted = m.aborted ∙ ap is_aborted p.0;
        canceled = m.canceled;
        never = λ x. not_told (told InProgress es 1 2 i) (λ y. omega (arith, (m.aimed (ap is_pending p.0) y).0));
        aimed = λ x. crash x;
        never_back = m.never_back;
        tried = λ x y. crash (sym (ap was_tried p.0) ∙ m.tried x y);
        gone = m.gone;
      })

  pub begin3 : (i : ℕ) → Marked (put_entry s.log i (with_rollback (en i) (begun (en i).rollback))) s.applied.head es
  begin3 i = put i _ (alike at tg (first ops at) es i (en i) _ refl refl refl (λ x y. refl) (marks i))

  pub finish3 : (i : ℕ) (o : Ordinal) → Marked (put_entry s.log i (with_rollback (en i) (committed (en i).rollback o))) s.applied.head es
  finish3 i o = put i _ (alike at tg (first ops at) es i (en i) _ refl refl refl (λ x y. refl) (marks i))

  pub ask : (i : ℕ) → may_roll_back (en i) ≡ true → Marked (put_entry s.log i (rolled_back (en i))) s.applied.head es
  ask i e =
      let m = marks i in
      let u : (en i).rollback.commit ≡ None = (inv.sides i).unasked (eqb-true (en i).phase 1 (and_left (eqb (en i).phase 1) _ e)) in
      let p : ((en i).rollback.apply ≡ None) × ((en i).rollback.ordinal.0 ≡ 0) = paired (en i).rollback.commit None _ _ u (inv.sides i).rollback in
      put i _ (record {
        rejected = m.rejected;
        failed = m.failed;
        aborted = m.aborted;
        canceled = m.canceled ∙ ap is_canceled p.0;
        never = m.never;
        aimed = m.aimed;
        never_back = λ x. crash x;
        tried = λ x y. clash (sym y ∙ m.never_back (ap never_begun p.0));
        gone = λ x. sym (ap (λ b. told Complete es 2 2 i || is_canceled b) p.0) ∙ m.gone x;
      })

  pub append : (ps : List Pair) → Marked (grown s.log (appended ps)) s.applied.head es
  append ps =
      let n = suc (last s.log) in
      let o : entry_of s.log n ≡ blank = entry_past s.log in
      let m : Mark at tg (first ops at) es n blank = subst (Mark at tg (first ops at) es n) o (marks n) in
      add_all (λ k u. Mark at tg (first ops at) es k u) s.log (appended ps) marks (record {
        rejected = m.rejected;
        failed = m.failed;
        aborted = m.aborted;
        canceled = m.canceled;
        never = λ x. crash x;
        aimed = λ x y. clash (sym y ∙ m.never refl);
        never_back = λ x. m.never_back refl;
        tried = λ x y. crash x;
        gone = m.gone;
      })

  -- ---- job 2: change i is next
  module _ (i : ℕ) (p : s.log.folded.0 < i) (q : i ≤ last s.log) (o : (en i).change.ordinal.0 ≡ suc at) where
    same_change : (k : ℕ) → (en k).change.ordinal.0 ≡ suc at → k ≡ i
    same_change = applies.same_change (jobs.side inv) i o

    pub begin2 : (en i).change.apply ≡ Pending → Marked (put_entry s.log i (with_change (en i) (apply_at (en i).change InProgress))) s.applied.head es
    begin2 e =
        let m = marks i in
        put i _ (record {
          rejected = m.rejected;
          failed = m.failed ∙ ap is_failed e;
          aborted = m.aborted ∙ ap is_aborted e;
          canceled = m.canceled;
          never = λ x. crash x;
          aimed = λ x. crash x;
          never_back = m.never_back;
          tried = λ x y. crash (sym (ap was_tried e) ∙ m.tried x y);
          gone = m.gone;
        })

    pub aim2 : (h : Head) → h.ordinal ≡ s.applied.head.ordinal → h.target.0 ≡ i → (en i).change.apply ≡ Pending → Marked s.log h (event 1 2 (num i) InProgress ∷ es)
    unfolding told ops_of
    aim2 h w g e k = rw w (by_eq k i (λ x. rw x here) there)
      where
        here : Mark at h.target.0 (first ops at) (event 1 2 (num i) InProgress ∷ es) i (en i)
        here =
            let m = marks i in
            record {
              rejected = m.rejected;
              failed = m.failed;
              aborted = m.aborted;
              canceled = m.canceled;
              never = λ x. crash (sym (ap never_begun e) ∙ x);
              aimed = λ x y. (o, g);
              never_back = m.never_back;
              tried = m.tried;
              gone = m.gone;
            }

        there : (k ≡ i → ⊥) → Mark at h.target.0 (first ops at) (event 1 2 (num i) InProgress ∷ es) k (en k)
        there n =
            let m = other_number at tg (first ops at) es (event 1 2 (num i) InProgress) k (en k) n (marks k) in
            record {
              rejected = m.rejected;
              failed = m.failed;
              aborted = m.aborted;
              canceled = m.canceled;
              never = m.never;
              aimed = λ x y. absurd (n (same_change k (m.aimed x y).0));
              never_back = m.never_back;
              tried = m.tried;
              gone = m.gone;
            }

    pub abort2 : (en i).change.apply ≡ Pending → (tg ≡ i → ⊥)
        → Marked (put_entry s.log i (with_change (en i) (apply_at (en i).change Aborted))) s.applied.head (event 1 2 (num i) Aborted ∷ es)
    unfolding told ops_of
    abort2 e g =
        let m = marks i in
        put_told (event 1 2 (num i) Aborted) i _ p q refl refl (record {
          rejected = m.rejected;
          failed = m.failed ∙ ap is_failed e;
          aborted = ap (λ x. x || told Aborted es 1 2 i) (eq-eqb i i refl);
          canceled = m.canceled;
          never = λ x. not_told (told InProgress es 1 2 i) (λ y. g (m.aimed (ap is_pending e) y).1);
          aimed = λ x. crash x;
          never_back = m.never_back;
          tried = λ x y. crash (sym (ap was_tried e) ∙ m.tried x y);
          gone = m.gone;
        })

    pub fail2 : (en i).change.apply ≡ InProgress
        → Marked (put_entry s.log i (with_change (en i) (apply_at (en i).change Failed))) s.applied.head (event 1 2 (num i) Failed ∷ es)
    unfolding told ops_of
    fail2 e =
        let m = marks i in
        put_told (event 1 2 (num i) Failed) i _ p q refl refl (record {
          rejected = m.rejected;
          failed = ap (λ x. x || told Failed es 1 2 i) (eq-eqb i i refl);
          aborted = m.aborted ∙ ap is_aborted e;
          canceled = m.canceled;
          never = λ x. crash x;
          aimed = λ x. crash x;
          never_back = m.never_back;
          tried = λ x y. refl;
          gone = m.gone;
        })

    -- the switch passes it
    pub pass2 : (h : Head) → h.ordinal.0 ≡ suc at → is_pending (en i).change.apply ≡ false → Marked s.log h es
    unfolding popped
    pass2 h w e k =
        let m = marks k in
        record {
          rejected = m.rejected;
          failed = m.failed;
          aborted = m.aborted;
          canceled = m.canceled;
          never = m.never;
          aimed = λ x y. let z : k ≡ i = same_change k (m.aimed x y).0 in clash (sym (rw z at x) ∙ e);
          never_back = m.never_back;
          tried = m.tried;
          gone = λ x. m.gone (sym (ap (popped k) (ap (first ops) w ∙ next)) ∙ x);
        }
      where
        next : first ops (suc at) ≡ push i ∷ first ops at
        next = applies.push_next (jobs.side inv) i o

  pub finish2 : (i : ℕ) → (en i).change.apply ≡ InProgress → Marked (put_entry s.log i (with_change (en i) (apply_at (en i).change Complete))) s.applied.head es
  finish2 i e =
      let m = marks i in
      put i _ (record {
        rejected = m.rejected;
        failed = m.failed ∙ ap is_failed e;
        aborted = m.aborted ∙ ap is_aborted e;
        canceled = m.canceled;
        never = λ x. crash x;
        aimed = λ x. crash x;
        never_back = m.never_back;
        tried = λ x y. refl;
        gone = m.gone;
      })

  -- ---- job 4: the rollback of i is next
  module _ (i : ℕ) (p : s.log.folded.0 < i) (q : i ≤ last s.log) (o : (en i).rollback.ordinal.0 ≡ suc at) where
    no_change : {A : Type 0} (k : ℕ) → (en k).change.ordinal.0 ≡ suc at → A
    no_change = applies.no_change (jobs.side inv) i o

    next4 : first ops (suc at) ≡ pop i ∷ first ops at
    next4 = applies.pop_next (jobs.side inv) i o

    pub begin4 : (en i).rollback.apply ≡ Pending → Marked (put_entry s.log i (with_rollback (en i) (apply_at (en i).rollback InProgress))) s.applied.head es
    begin4 e =
        let m = marks i in
        put i _ (record {
          rejected = m.rejected;
          failed = m.failed;
          aborted = m.aborted;
          canceled = m.canceled ∙ ap is_canceled e;
          never = m.never;
          aimed = m.aimed;
          never_back = λ x. crash x;
          tried = λ x. crash x;
          gone = λ x. sym (ap (λ b. told Complete es 2 2 i || is_canceled b) e) ∙ m.gone x;
        })

    pub aim4 : (h : Head) → h.ordinal ≡ s.applied.head.ordinal → (en i).rollback.apply ≡ Pending → was_tried (en i).change.apply ≡ true → Marked s.log h (event 2 2 (num i) InProgress ∷ es)
    unfolding told ops_of
    aim4 h w e t k = rw w (by_eq k i (λ x. rw x here) there)
      where
        here : Mark at h.target.0 (first ops at) (event 2 2 (num i) InProgress ∷ es) i (en i)
        here =
            let m = marks i in
            record {
              rejected = m.rejected;
              failed = m.failed;
              aborted = m.aborted;
              canceled = m.canceled;
              never = m.never;
              aimed = λ x y. no_change i (m.aimed x y).0;
              never_back = λ x. crash (sym (ap never_begun e) ∙ x);
              tried = λ x y. t;
              gone = m.gone;
            }

        there : (k ≡ i → ⊥) → Mark at h.target.0 (first ops at) (event 2 2 (num i) InProgress ∷ es) k (en k)
        there n =
            let m = other_number at tg (first ops at) es (event 2 2 (num i) InProgress) k (en k) n (marks k) in
            record {
              rejected = m.rejected;
              failed = m.failed;
              aborted = m.aborted;
              canceled = m.canceled;
              never = m.never;
              aimed = λ x y. no_change k (m.aimed x y).0;
              never_back = m.never_back;
              tried = m.tried;
              gone = m.gone;
            }

    pub cancel4 : (en i).rollback.apply ≡ Pending → (en i).change.apply ≡ Aborted
        → Marked (put_entry s.log i (with_rollback (en i) (apply_at (en i).rollback Canceled))) s.applied.head (event 2 2 (num i) Canceled ∷ es)
    unfolding told ops_of
    cancel4 e a =
        let m = marks i in
        put_told (event 2 2 (num i) Canceled) i _ p q refl refl (record {
          rejected = m.rejected;
          failed = m.failed;
          aborted = m.aborted;
          canceled = ap (λ x. x || told Canceled es 2 2 i) (eq-eqb i i refl);
          never = m.never;
          aimed = m.aimed;
          never_back = λ x. not_told (told InProgress es 2 2 i) (λ y. crash (sym (ap was_tried a) ∙ m.tried (ap is_pending e) y));
          tried = λ x. crash x;
          gone = λ x. or-true (told Complete es 2 2 i);
        })

    pub close4 : (h : Head) → h.ordinal.0 ≡ suc at → (en i).rollback.apply ≡ Canceled → Marked s.log h es
    unfolding popped
    close4 h w e k =
        let m = marks k in
        record {
          rejected = m.rejected;
          failed = m.failed;
          aborted = m.aborted;
          canceled = m.canceled;
          never = m.never;
          aimed = λ x y. no_change k (m.aimed x y).0;
          never_back = m.never_back;
          tried = m.tried;
          gone = λ x. went (eqb i k) refl (sym (ap (popped k) (ap (first ops) w ∙ next4)) ∙ x);
        }
      where
        went : (b : Bool) → eqb i k ≡ b → (b || popped k (first ops at)) ≡ true → (told Complete es 2 2 k || is_canceled (en k).rollback.apply) ≡ true
        went true y z = ap (λ j. told Complete es 2 2 k || is_canceled (en j).rollback.apply) (sym (eqb-true i k y)) ∙ ap (λ b. told Complete es 2 2 k || is_canceled b) e ∙ or-true (told Complete es 2 2 k)
        went false y z = (marks k).gone z

    pub push4 : (h : Head) → h.ordinal.0 ≡ suc at → Marked s.log h (event 2 2 (num i) Complete ∷ es)
    unfolding popped told ops_of
    push4 h w k =
        let m = marks k in
        record {
          rejected = m.rejected;
          failed = m.failed;
          aborted = m.aborted;
          canceled = m.canceled;
          never = m.never;
          aimed = λ x y. no_change k (m.aimed x y).0;
          never_back = m.never_back;
          tried = m.tried;
          gone = λ x. went (eqb i k) (sym (ap (popped k) (ap (first ops) w ∙ next4)) ∙ x);
        }
      where
        went : (b : Bool) → (b || popped k (first ops at)) ≡ true → ((b || told Complete es 2 2 k) || is_canceled (en k).rollback.apply) ≡ true
        went true z = refl
        went false z = (marks k).gone z

  pub finish4 : (i : ℕ) → (en i).rollback.apply ≡ InProgress → Marked (put_entry s.log i (with_rollback (en i) (apply_at (en i).rollback Complete))) s.applied.head es
  finish4 i e =
      let m = marks i in
      put i _ (record {
        rejected = m.rejected;
        failed = m.failed;
        aborted = m.aborted;
        canceled = m.canceled ∙ ap is_canceled e;
        never = m.never;
        aimed = m.aimed;
        never_back = λ x. crash x;
        tried = λ x. crash x;
        gone = λ x. sym (ap (λ b. told Complete es 2 2 i || is_canceled b) e) ∙ m.gone x;
      })

-- a change's apply that completes tells none of these
took : (l : Log) (h : Head) (es : List Event) (i : ℕ) → Marked l h es → Marked l h (event 1 2 (num i) Complete ∷ es)
unfolding told ops_of
took l h es i marks k =
    let m = marks k in
    record {
      rejected = m.rejected;
      failed = m.failed;
      aborted = m.aborted;
      canceled = m.canceled;
      never = m.never;
      aimed = m.aimed;
      never_back = m.never_back;
      tried = m.tried;
      gone = m.gone;
    }

module _ (s : State) (es : List Event) (bad : List ℕ) (inv : Invariant s (ops_of Complete 1 es) (ops_of Complete 2 es) bad) (marks : Marked s.log s.applied.head es) where
  abbrev Keeps : Note → Reply → State → Type 0
  Keeps x r next = Marked next.log next.applied.head (r.event ∷ es)

  abbrev acts : List Op
  acts = ops_of Complete 2 es

  -- nothing of a status moves
  rests : (e : Event) → eqb e.stage 2 ≡ false → ((k : ℕ) → tells Failed e 1 1 k ≡ false) → ops_of Complete 1 (e ∷ es) ≡ ops_of Complete 1 es → Marked s.log s.applied.head (e ∷ es)
  rests e d f w = carry s es bad inv marks e d f (ap (λ x. first x s.applied.head.ordinal.0) w)

  idle : Marked s.log s.applied.head (no_event ∷ es)
  unfolding ops_of
  idle = rests no_event refl (λ k. refl) refl

  -- what is shown of the events without an event more
  hush : {en : ℕ → Transaction} (h : Head) → ((k : ℕ) → Mark h.ordinal.0 h.target.0 (first (ops_of Complete 1 es) h.ordinal.0) es k (en k))
      → (k : ℕ) → Mark h.ordinal.0 h.target.0 (first (ops_of Complete 1 (no_event ∷ es)) h.ordinal.0) (no_event ∷ es) k (en k)
  unfolding ops_of
  hush {en} h m k = other_stage h.ordinal.0 h.target.0 (first (ops_of Complete 1 es) h.ordinal.0) es no_event refl (λ k. refl) k (en k) (m k)

  module _ (i : ℕ) (p : s.log.folded.0 < i) (q : i ≤ last s.log) where
    abbrev this : Transaction
    this = entry_of s.log i

    -- ---- jobs 1 and 3
    aims1 : (cut second : Bool) → this.change.commit ≡ Pending → i ≡ suc s.change.0 → rest_of s ≡ true
        → Does s Keeps true i cut second (job1.plans change.Aim this s.committed.head (num i) (ord 0) (present_of s this))
    unfolding ops_of
    aims1 true second e n r = rests (event 1 1 (num i) InProgress) refl (λ k. refl) refl
    aims1 false second e n r =
        begin1 _ (event 1 1 (num i) InProgress ∷ es) bad (jobs.aim_change inv i n r) (rests (event 1 1 (num i) InProgress) refl (λ k. refl) refl) i e

    -- a commit completes: the switch has passed none more
    completes : (e : Event) (x : Op) → eqb e.stage 2 ≡ false → ((k : ℕ) → tells Failed e 1 1 k ≡ false) → ops_of Complete 1 (e ∷ es) ≡ x ∷ ops_of Complete 1 es → Marked s.log s.applied.head (e ∷ es)
    completes e x d f w =
        carry s es bad inv marks e d f (ap (λ y. first y s.applied.head.ordinal.0) w ∙ first_more (ops_of Complete 1 es) x s.applied.head.ordinal.0 inv.applied.reach)

    lands1 : (cut second : Bool) → this.change.commit ≡ InProgress → i ≡ suc s.change.0 → (o : Ordinal) → o.0 ≡ suc s.committed.head.ordinal.0
        → Does s Keeps true i cut second (job1.plans change.Land this s.committed.head (num i) o (present_of s this))
    unfolding ops_of
    lands1 true second e n o x = completes (event 1 1 (num i) Complete) (push i) refl (λ k. refl) refl
    lands1 false second e n o x =
        finish1 _ (event 1 1 (num i) Complete ∷ es) bad (jobs.land_change inv i o e n q x)
        (completes (event 1 1 (num i) Complete) (push i) refl (λ k. refl) refl) i o e

    rejects1 : (cut second : Bool) → this.change.commit ≡ InProgress
        → Does s Keeps true i cut second (job1.plans change.Reject this s.committed.head (num i) (ord 0) (present_of s this))
    rejects1 true second e = reject1 s es bad inv marks i p q e
    rejects1 false second e = reject1 s es bad inv marks i p q e

    aims3 : (cut second : Bool) → s.committed.head.revision.0 ≡ i → rest_of s ≡ true → Does s Keeps true i cut second (job3.plans rollback.Aim this s.committed.head (num i) (ord 0))
    unfolding ops_of
    aims3 true second n r = rests (event 2 1 (num i) InProgress) refl (λ k. refl) refl
    aims3 false second n r =
        begin3 _ (event 2 1 (num i) InProgress ∷ es) bad (jobs.aim_rollback inv i (omega arith) n r) (rests (event 2 1 (num i) InProgress) refl (λ k. refl) refl) i

    lands3 : (cut second : Bool) → this.rollback.commit ≡ InProgress → s.committed.head.revision.0 ≡ i → (o : Ordinal) → o.0 ≡ suc s.committed.head.ordinal.0
        → Does s Keeps true i cut second (job3.plans rollback.Land this s.committed.head (num i) o)
    unfolding ops_of
    lands3 true second e n o x = completes (event 2 1 (num i) Complete) (pop i) refl (λ k. refl) refl
    lands3 false second e n o x =
        finish3 _ (event 2 1 (num i) Complete ∷ es) bad (jobs.land_rollback inv i o (omega arith) e n x)
        (completes (event 2 1 (num i) Complete) (pop i) refl (λ k. refl) refl) i o

    -- ---- jobs 2 and 4
    abbrev NextChange : Type 0
    NextChange = (this.change.commit ≡ Complete) × (this.change.ordinal.0 ≡ suc s.applied.head.ordinal.0)

    abbrev NextRollback : Type 0
    NextRollback = (this.rollback.commit ≡ Complete) × (this.rollback.ordinal.0 ≡ suc s.applied.head.ordinal.0)

    aims2 : (cut second : Bool) → NextChange → this.change.apply ≡ Pending → settled s ≡ true → s.applied.head.revision.0 ≡ this.index.0
        → Does s Keeps false i cut second (job2.plans apply.Aim this s.applied.head (num i))
    unfolding ops_of
    aims2 true second m e x v = aim2 s es bad inv marks i p q m.1 (aimed s.applied.head (num i)) refl refl e
    aims2 false second m e x v =
        begin2 _ (event 1 2 (num i) InProgress ∷ es) bad (jobs.aim_apply inv i m x v) (aim2 s es bad inv marks i p q m.1 (aimed s.applied.head (num i)) refl refl e) i p q m.1 e

    stored : (u : Transaction) → entry_of (put_entry s.log i u) i ≡ u
    stored u = entry_put s.log i u p q

    aborts2 : (cut second : Bool) → NextChange → this.change.apply ≡ Pending → settled s ≡ true → (s.applied.head.target.0 ≡ i → ⊥)
        → Does s Keeps false i cut second (job2.plans apply.Abort this s.applied.head (num i))
    unfolding ops_of
    aborts2 true second m e x g = abort2 s es bad inv marks i p q m.1 e g
    aborts2 false second m e x g =
        let w = stored (with_change this (apply_at this.change Aborted)) in
        pass2 (putting s i (with_change this (apply_at this.change Aborted))) (event 1 2 (num i) Aborted ∷ es) bad (jobs.abort_apply inv i m e x)
        (abort2 s es bad inv marks i p q m.1 e g) i p (rw last_put q) (rw w m.1) (closed s.applied.head (num i) (num i) this.change.ordinal) m.1 (rw w refl)

    fails2 : (cut second : Bool) → NextChange → this.change.apply ≡ InProgress → Does s Keeps false i cut second (job2.plans apply.Fail this s.applied.head (num i))
    unfolding ops_of
    fails2 true second m e = fail2 s es bad inv marks i p q m.1 e
    fails2 false second m e =
        let w = stored (with_change this (apply_at this.change Failed)) in
        pass2 (putting s i (with_change this (apply_at this.change Failed))) (event 1 2 (num i) Failed ∷ es) bad (jobs.fail_apply inv i m e)
        (fail2 s es bad inv marks i p q m.1 e) i p (rw last_put q) (rw w m.1) (closed s.applied.head (num i) (num i) this.change.ordinal) m.1 (rw w refl)

    pushes2 : (cut second : Bool) → NextChange → this.change.apply ≡ InProgress
        → Does s Keeps false i cut second (job2.plans apply.Push this s.applied.head (num i))
    unfolding ops_of
    pushes2 true second m e = idle
    pushes2 false true m e = took s.log (landed s.applied.head (num i) (num i) this.change.ordinal) es i (pass2 s es bad inv marks i p q m.1 (landed s.applied.head (num i) (num i) this.change.ordinal) m.1 (ap is_pending e))
    pushes2 false false m e =
        finish2 _ (event 1 2 (num i) Complete ∷ es) bad (jobs.push_apply inv i m s.net e)
        (took s.log (landed s.applied.head (num i) (num i) this.change.ordinal) es i (pass2 s es bad inv marks i p q m.1 (landed s.applied.head (num i) (num i) this.change.ordinal) m.1 (ap is_pending e))) i e

    aims4 : (cut second : Bool) → NextRollback → this.rollback.apply ≡ Pending → was_tried this.change.apply ≡ true → settled s ≡ true
        → Does s Keeps false i cut second (job4.plans return.Aim this s.applied.head (num i))
    unfolding ops_of
    aims4 true second m e x v = aim4 s es bad inv marks i p q m.1 (aimed s.applied.head this.index) refl e x
    aims4 false second m e x v =
        begin4 _ (event 2 2 (num i) InProgress ∷ es) bad (jobs.aim_return inv i m v) (aim4 s es bad inv marks i p q m.1 (aimed s.applied.head this.index) refl e x) i p q m.1 e

    cancels4 : (cut second : Bool) → NextRollback → this.rollback.apply ≡ Pending → this.change.apply ≡ Aborted → settled s ≡ true
        → Does s Keeps false i cut second (job4.plans return.Cancel this s.applied.head (num i))
    unfolding ops_of
    cancels4 true second m e a x = cancel4 s es bad inv marks i p q m.1 e a
    cancels4 false second m e a x =
        let w = stored (with_rollback this (apply_at this.rollback Canceled)) in
        close4 (putting s i (with_rollback this (apply_at this.rollback Canceled))) (event 2 2 (num i) Canceled ∷ es) bad (jobs.cancel_return inv i m e a x)
        (cancel4 s es bad inv marks i p q m.1 e a) i p (rw last_put q) (rw w m.1) (closed s.applied.head (num i) this.index this.rollback.ordinal) m.1 (rw w refl)

    pushes4 : (cut second : Bool) → NextRollback → this.rollback.apply ≡ InProgress
        → Does s Keeps false i cut second (job4.plans return.Push this s.applied.head (num i))
    unfolding ops_of
    pushes4 true second m e = idle
    pushes4 false true m e = push4 s es bad inv marks i p q m.1 (landed s.applied.head (num i) this.index this.rollback.ordinal) m.1
    pushes4 false false m e =
        finish4 _ (event 2 2 (num i) Complete ∷ es) (tail bad) (jobs.push_return inv i m s.net e) (push4 s es bad inv marks i p q m.1 (landed s.applied.head (num i) this.index this.rollback.ordinal) m.1) i e

  calls : {R : List Pair → Type 0} → Calls s Keeps R
  unfolding ops_of
  calls =
      record {
        refused = λ a n. idle;
        append = λ ps e b k. other_stage s.applied.head.ordinal.0 s.applied.head.target.0 _ es _ refl (λ j. refl) k _ (append s es bad inv marks ps k);
        rollback = λ i p q e. hush s.applied.head (ask s es bad inv marks i e);
        start = λ e. idle;
        stop = idle;
        connect = λ n p e. idle;
        disconnect = λ n. idle;
        elect = λ n b t e. idle;
        resign = idle;
        syncing = idle;
        synced = rests _ refl (λ k. refl) refl;
        job1 = λ i p q cut second. record {
          wait = idle;
          full = λ a b d. idle;
          begin = λ e n g. hush s.applied.head (begin1 s es bad inv marks i e);
          aim = aims1 i p q cut second;
          land = λ e n b o x. lands1 i p q cut second e n o x;
          reject = λ e n. rejects1 i p q cut second e;
          finish = λ e n. hush s.applied.head (finish1 s es bad inv marks i _ e);
          close = λ e n. idle;
        };
        job2 = λ n i p q cut second. record {
          wait = idle;
          no_line = idle;
          begin = λ m e g. hush s.applied.head (begin2 s es bad inv marks i p q m.1 e);
          aim = aims2 i p q cut second;
          abort = aborts2 i p q cut second;
          close_aborted = λ m e. hush (closed s.applied.head (num i) (num i) (entry_of s.log i).change.ordinal) (pass2 s es bad inv marks i p q m.1 (closed s.applied.head (num i) (num i) (entry_of s.log i).change.ordinal) m.1 (ap is_pending e));
          close_failed = λ m e. hush (closed s.applied.head (num i) (num i) (entry_of s.log i).change.ordinal) (pass2 s es bad inv marks i p q m.1 (closed s.applied.head (num i) (num i) (entry_of s.log i).change.ordinal) m.1 (ap is_pending e));
          finish = λ m e o. hush s.applied.head (finish2 s es bad inv marks i e);
          fail = fails2 i p q cut second;
          push = λ m e l. pushes2 i p q cut second m e;
        };
        job3 = λ i p q cut second. record {
          wait = idle;
          full = λ a b d. idle;
          begin = λ e n g. hush s.applied.head (begin3 s es bad inv marks i);
          aim = λ e n r. aims3 i p q cut second n r;
          land = λ e n b o x. lands3 i p q cut second e n o x;
          finish = λ e d n. hush s.applied.head (finish3 s es bad inv marks i _);
        };
        job4 = λ n i p q cut second. record {
          wait = idle;
          no_line = idle;
          rejected = idle;
          begin = λ m e t g. hush s.applied.head (begin4 s es bad inv marks i p q m.1 e);
          aim = aims4 i p q cut second;
          cancel = cancels4 i p q cut second;
          close = λ m e. hush (closed s.applied.head (num i) (entry_of s.log i).index (entry_of s.log i).rollback.ordinal) (close4 s es bad inv marks i p q m.1 (closed s.applied.head (num i) (entry_of s.log i).index (entry_of s.log i).rollback.ordinal) m.1 e);
          finish = λ m e o. hush s.applied.head (finish4 s es bad inv marks i e);
          push = λ m e l. pushes4 i p q cut second m e;
        };
      }

-- after any calls from fresh
pub marked : (m : Bool) (cs : List Call) → Marked (whole m cs).log (whole m cs).applied.head (run m cs).events
unfolding run whole ops_of told first popped
marked m [] =
    none_all (λ k u. Mark 0 0 [] [] k u) (λ k. record {
      rejected = refl;
      failed = refl;
      aborted = refl;
      canceled = refl;
      never = λ x. refl;
      aimed = λ x. crash x;
      never_back = λ x. refl;
      tried = λ x. crash x;
      gone = λ x. crash x;
    })
marked m (c ∷ cs) =
    let r = reached m cs in
    by_history m cs (Keeps (whole m cs) (run m cs).events r.bad r.inv (marked m cs)) (λ a. idle (whole m cs) (run m cs).events r.bad r.inv (marked m cs)) c
    (calls (whole m cs) (run m cs).events r.bad r.inv (marked m cs))

-- Every call keeps the invariant of the whole, refused and cut ones too; so it holds after any calls from fresh, and with it
-- demand 3 but for the line (Switched), of the state, whose front may be folded away. Assumes nothing.
use Prim.Native.Nat.{ℕ, suc, ◌-◌, ◌≤◌, ◌<◌}
use native.Mathlib.Omega.{arith}
use mathlib.Core.List.{List, [], ◌∷◌, ◌++◌}
use mathlib.Core.Bool.{Bool, true, false, not, ◌&&◌, ◌||◌}
use mathlib.Core.Path.{◌≡◌, refl, sym, ap, ◌∙◌, subst}
use lib.Dec.{eqb, ltb, leb}
use lib.ListN.{length, get_or, drop, get_or-replicate}
use Rattle.kinds.specs.declared.Transaction.{Transaction}
use Rattle.kinds.specs.declared.Event.{Event}
use Rattle.kinds.specs.declared.Reply.{Reply}
use Rattle.kinds.specs.declared.Ordinal.{Ordinal}
use Rattle.kinds.specs.declared.Status.TheVariants.{None, Pending, InProgress, Complete, Aborted, Canceled, Failed}
use Rattle.kinds.specs.Numbers.{num, ord}
use Rattle.kinds.specs.Statuses as statuses
use Rattle.kinds.specs.Records.{with_change, with_rollback}
use Rattle.kinds.specs.Events.{no_event, event, refusal}
use Rattle.rules.specs.Heads.{aimed}
use Rattle.rules.specs.Sides.{begun, committed, invalid, apply_at}
use Rattle.rules.specs.ApplyRollback.{was_tried}
use Rattle.rules.specs.declared.CommitChangeRule.TheVariants as change
use Rattle.rules.specs.declared.CommitRollbackRule.TheVariants as rollback
use Rattle.rules.specs.declared.ApplyChangeRule.TheVariants as apply
use Rattle.rules.specs.declared.ApplyRollbackRule.TheVariants as return
use Rattle.rules.specs.CommitChange as job1
use Rattle.rules.specs.CommitRollback as job3
use Rattle.rules.specs.ApplyChange as job2
use Rattle.rules.specs.ApplyRollback as job4
use Rattle.rules.specs.declared.Present.{Present}
use Rattle.machine.specs.State.{Log, State, absent, fresh, fresh_part, fresh_ledger, unfolded, entry_of, put_entry, last, is_kept, line_open_for}
use Rattle.machine.specs.Stores.{Store, fold, with_log, afters}
use Rattle.machine.specs.WellFormed.{well_formed}
use Rattle.machine.specs.LiveList as list
use Rattle.machine.specs.Folding.{stays, may_fold, base_row}
use Rattle.machine.specs.Settled.{settled}
use Rattle.machine.specs.Calls.{Pair, Call, append, rollback, start, stop, connect, disconnect, master, sync, work, fold_to, accepted, unless, present_of, decide}
use Rattle.machine.specs.Rest.{rest_of}
use Rattle.machine.specs.Step.{outcome, step, run}
use Rattle.machine.specs.Notes.{Note, nothing, note}
use Rattle.machine.proofs.Entries.{none_all, last_put, entry_put}
use Rattle.machine.proofs.ByCall.{Does, Calls}
use Rattle.history.specs.Demand3.{live, highest, newest_first, hopped}
use Rattle.history.specs.Ops.{Op, push, ops_of, pushed, popped, told_change, told_rollback, top, tail, stack, newest, Rising, Falls, stack_low, stack_falls, mem, standing, first, first_rises, done, held, holding, clash, crash}
use Rattle.history.specs.Invariant.{val, own, Linked, Sides, Numbered, CommitEntry, commit_view, Committed, ApplyEntry, apply_view, Calm, Quiet, Fell, Applied, Invariant, is_ended}
use Rattle.history.specs.Frames.{stack_linked, not_going}
use Rattle.history.proofs.Commits.{tip_back}
use Rattle.history.proofs.Applies.{held_falls, held_low}
use Rattle.history.proofs.Jobs as jobs
use Rattle.history.proofs.ByNumber.{highest_same, val_highest, above, hopped_above, up}
use Rattle.history.specs.Whole.{unless_fold, folded_by, folds, whole, shown_log, shown, Front, Passed}
use Rattle.history.proofs.Follow.{entry_seen, last_seen, Followed, follow}
use Rattle.history.proofs.Fronts.{live_commit, live_apply, rest_seen, settled_seen, live_above, live_seen, fold_front, fold_passed}

-- the whole s after the events es; bad are the changes passed, not taken and not rolled back, newest first
pub record Reached (s : State) (es : List Event) : Type 0 where
  pub bad : List ℕ
  pub inv : Invariant s (ops_of Complete 1 es) (ops_of Complete 2 es) bad

module _ (s : State) (es : List Event) (bad : List ℕ) (inv : Invariant s (ops_of Complete 1 es) (ops_of Complete 2 es) bad) where
  abbrev Keeps : Note → Reply → State → Type 0
  Keeps x r next = Reached next (r.event ∷ es)

  abbrev ops : List Op
  ops = ops_of Complete 1 es

  abbrev acts : List Op
  acts = ops_of Complete 2 es

  abbrev en : ℕ → Transaction
  en i = entry_of s.log i

  abbrev vs : ℕ → Present
  vs i = present_of s (entry_of s.log i)

  -- no event that completes
  still : (next : State) → Invariant next ops acts bad → Reached next (no_event ∷ es)
  unfolding ops_of
  still next k = record { bad = bad; inv = k }

  module _ (i : ℕ) (p : s.log.folded.0 < i) (q : i ≤ last s.log) where
    -- ---- two stores, the second cut or not
    aim1 : (cut second : Bool) → (en i).change.commit ≡ Pending → i ≡ suc s.change.0 → rest_of s ≡ true
        → Does s Keeps true i cut second (job1.plans change.Aim (en i) s.committed.head (num i) (ord 0) (vs i))
    unfolding ops_of
    aim1 true second e n r = record { bad = bad; inv = jobs.aim_change inv i n r }
    aim1 false second e n r = record { bad = bad; inv = jobs.begin_change (jobs.aim_change inv i n r) i e n refl }

    land1 : (cut second : Bool) → (en i).change.commit ≡ InProgress → i ≡ suc s.change.0 → (o : Ordinal) → o.0 ≡ suc s.committed.head.ordinal.0
        → Does s Keeps true i cut second (job1.plans change.Land (en i) s.committed.head (num i) o (vs i))
    unfolding ops_of
    land1 true second e n o x = record { bad = bad; inv = jobs.land_change inv i o e n q x }
    land1 false second e n o x = record { bad = bad; inv = jobs.finish_change (jobs.land_change inv i o e n q x) i e refl }

    reject1 : (cut second : Bool) → (en i).change.commit ≡ InProgress → i ≡ suc s.change.0
        → Does s Keeps true i cut second (job1.plans change.Reject (en i) s.committed.head (num i) (ord 0) (vs i))
    unfolding ops_of
    reject1 true second e n = record { bad = bad; inv = jobs.fail_change inv i e n }
    reject1 false second e n =
        let t = with_change (en i) (invalid (en i).change) in
        record {
          bad = bad;
          inv = jobs.pass_change (jobs.fail_change inv i e n) i n (rw last_put q) (ap (λ u. u.change.commit) (entry_put s.log i t p q));
        }

    aim3 : (cut second : Bool) → (en i).rollback.commit ≡ Pending → s.committed.head.revision.0 ≡ i → rest_of s ≡ true
        → Does s Keeps true i cut second (job3.plans rollback.Aim (en i) s.committed.head (num i) (ord 0))
    unfolding ops_of
    aim3 true second e n r = record { bad = bad; inv = jobs.aim_rollback inv i (omega arith) n r }
    aim3 false second e n r = record { bad = bad; inv = jobs.begin_rollback (jobs.aim_rollback inv i (omega arith) n r) i (omega arith) e n refl }

    land3 : (cut second : Bool) → (en i).rollback.commit ≡ InProgress → s.committed.head.revision.0 ≡ i → (o : Ordinal) → o.0 ≡ suc s.committed.head.ordinal.0
        → Does s Keeps true i cut second (job3.plans rollback.Land (en i) s.committed.head (num i) o)
    unfolding ops_of
    land3 true second e n o x = record { bad = bad; inv = jobs.land_rollback inv i o (omega arith) e n x }
    land3 false second e n o x =
        record { bad = bad; inv = jobs.finish_rollback (jobs.land_rollback inv i o (omega arith) e n x) i e (λ y. omega (arith, tip_back inv.committed i (sym n) (omega arith))) refl }

    abbrev NextChange : Type 0
    NextChange = ((en i).change.commit ≡ Complete) × ((en i).change.ordinal.0 ≡ suc s.applied.head.ordinal.0)

    abbrev NextRollback : Type 0
    NextRollback = ((en i).rollback.commit ≡ Complete) × ((en i).rollback.ordinal.0 ≡ suc s.applied.head.ordinal.0)

    aim2 : (cut second : Bool) → NextChange → (en i).change.apply ≡ Pending → settled s ≡ true → s.applied.head.revision.0 ≡ (en i).index.0
        → Does s Keeps false i cut second (job2.plans apply.Aim (en i) s.applied.head (num i))
    unfolding ops_of
    aim2 true second m e x v = record { bad = bad; inv = jobs.aim_apply inv i m x v }
    aim2 false second m e x v = record { bad = bad; inv = jobs.begin_apply (jobs.aim_apply inv i m x v) i m e refl }

    -- the entry after its store
    stored : (t : Transaction) → entry_of (put_entry s.log i t) i ≡ t
    stored t = entry_put s.log i t p q

    abort2 : (cut second : Bool) → NextChange → (en i).change.apply ≡ Pending → settled s ≡ true
        → Does s Keeps false i cut second (job2.plans apply.Abort (en i) s.applied.head (num i))
    unfolding ops_of
    abort2 true second m e x = record { bad = bad; inv = jobs.abort_apply inv i m e x }
    abort2 false second m e x =
        let t = with_change (en i) (apply_at (en i).change Aborted) in
        let w : entry_of (put_entry s.log i t) i ≡ t = stored t in
        record {
          bad = i ∷ bad;
          inv = rw w at (jobs.close_aborted_holds (jobs.abort_apply inv i m e x) i (rw w m) (rw w refl));
        }

    fail2 : (cut second : Bool) → NextChange → (en i).change.apply ≡ InProgress → Does s Keeps false i cut second (job2.plans apply.Fail (en i) s.applied.head (num i))
    unfolding ops_of
    fail2 true second m e = record { bad = bad; inv = jobs.fail_apply inv i m e }
    fail2 false second m e =
        let t = with_change (en i) (apply_at (en i).change Failed) in
        let w : entry_of (put_entry s.log i t) i ≡ t = stored t in
        record {
          bad = i ∷ bad;
          inv = rw w at (jobs.close_failed_holds (jobs.fail_apply inv i m e) i (rw w m) (rw w refl));
        }

    -- a push: three stores
    push2 : (first second : Bool) → NextChange → (en i).change.apply ≡ InProgress
        → Does s Keeps false i first second (job2.plans apply.Push (en i) s.applied.head (num i))
    unfolding ops_of
    push2 true second m e = still _ (jobs.wires inv _)
    push2 false true m e = record { bad = bad; inv = jobs.push_apply inv i m _ e }
    push2 false false m e = record { bad = bad; inv = jobs.finish_apply (jobs.push_apply inv i m _ e) i m.0 e refl }

    aim4 : (cut second : Bool) → NextRollback → (en i).rollback.apply ≡ Pending → was_tried (en i).change.apply ≡ true → settled s ≡ true
        → Does s Keeps false i cut second (job4.plans return.Aim (en i) s.applied.head (num i))
    unfolding ops_of
    aim4 true second m e t x = record { bad = bad; inv = jobs.aim_return inv i m x }
    aim4 false second m e t x = record { bad = bad; inv = jobs.begin_return (jobs.aim_return inv i m x) i m e t refl }

    cancel4 : (cut second : Bool) → NextRollback → (en i).rollback.apply ≡ Pending → (en i).change.apply ≡ Aborted → settled s ≡ true
        → Does s Keeps false i cut second (job4.plans return.Cancel (en i) s.applied.head (num i))
    unfolding ops_of
    cancel4 true second m e a x = record { bad = bad; inv = jobs.cancel_return inv i m e a x }
    cancel4 false second m e a x =
        let t = with_rollback (en i) (apply_at (en i).rollback Canceled) in
        let w : entry_of (put_entry s.log i t) i ≡ t = stored t in
        record {
          bad = tail bad;
          inv = rw w at (jobs.close_return (jobs.cancel_return inv i m e a x) i (rw w m) (rw w refl));
        }

    push4 : (first second : Bool) → NextRollback → (en i).rollback.apply ≡ InProgress
        → Does s Keeps false i first second (job4.plans return.Push (en i) s.applied.head (num i))
    unfolding ops_of
    push4 true second m e = still _ (jobs.wires inv _)
    push4 false true m e = record { bad = tail bad; inv = jobs.push_return inv i m _ e }
    push4 false false m e = record { bad = tail bad; inv = jobs.finish_return (jobs.push_return inv i m _ e) i m.0 e refl }

  pub calls : {R : List Pair → Type 0} → Calls s Keeps R
  unfolding ops_of
  calls =
      record {
        refused = λ a n. still s inv;
        append = λ ps e b. record { bad = bad; inv = jobs.append inv ps };
        rollback = λ i p q e. still _ (jobs.ask inv i e);
        start = λ e. still _ (jobs.wires inv _);
        stop = still _ (jobs.wires inv _);
        connect = λ n p e. still _ (jobs.wires inv _);
        disconnect = λ n. still _ (jobs.wires inv _);
        elect = λ n b t e. still _ (jobs.wires inv _);
        resign = still _ (jobs.wires inv _);
        syncing = still _ (jobs.wires inv _);
        synced = record { bad = bad; inv = jobs.wires inv _ };
        job1 = λ i p q cut second. record {
          wait = still s inv;
          full = λ a b d. still s inv;
          begin = λ e n g. still _ (jobs.begin_change inv i e n g);
          aim = aim1 i p q cut second;
          land = λ e n b o x. land1 i p q cut second e n o x;
          reject = reject1 i p q cut second;
          finish = λ e n. still _ (jobs.finish_change inv i e n);
          close = λ e n. still _ (jobs.pass_change inv i n q e);
        };
        job2 = λ n i p q cut second. record {
          wait = still s inv;
          no_line = still s inv;
          begin = λ m e g. still _ (jobs.begin_apply inv i m e g);
          aim = aim2 i p q cut second;
          abort = λ m e x g. abort2 i p q cut second m e x;
          close_aborted = λ m e. record { bad = i ∷ bad; inv = jobs.close_aborted_holds inv i m e };
          close_failed = λ m e. record { bad = i ∷ bad; inv = jobs.close_failed_holds inv i m e };
          finish = λ m e o. still _ (jobs.finish_apply inv i m e o);
          fail = fail2 i p q cut second;
          push = λ m e l. push2 i p q cut second m e;
        };
        job3 = λ i p q cut second. record {
          wait = still s inv;
          full = λ a b d. still s inv;
          begin = λ e n g. still _ (jobs.begin_rollback inv i (omega arith) e n g);
          aim = aim3 i p q cut second;
          land = λ e n b o x. land3 i p q cut second e n o x;
          finish = λ e d n. still _ (jobs.finish_rollback inv i e d n);
        };
        job4 = λ n i p q cut second. record {
          wait = still s inv;
          no_line = still s inv;
          rejected = still s inv;
          begin = λ m e t g. still _ (jobs.begin_return inv i m e t g);
          aim = aim4 i p q cut second;
          cancel = cancel4 i p q cut second;
          close = λ m e. record { bad = tail bad; inv = jobs.close_return inv i m e };
          finish = λ m e o. still _ (jobs.finish_return inv i m e o);
          push = λ m e l. push4 i p q cut second m e;
        };
      }

-- ---- fresh
fresh_committed : Committed (unfolded []) 0 fresh_ledger []
unfolding Rising Linked stack newest val own pushed popped
fresh_committed =
    record {
      entries = none_all (λ k u. CommitEntry fresh_ledger.head 0 fresh_ledger.values fresh_ledger.owners [] k (commit_view u)) (λ k. record {
        begun = not_going None refl;
        flight = not_going None refl;
        closing = not_going None refl;
        failed = λ x. clash (ap is_ended (sym x));
        failing = λ x. clash (ap is_ended (sym x));
        returning = not_going None refl;
        returned = not_going None refl;
        done = refl;
        undone = refl;
      });
      rising = tt;
      linked = tt;
      count = refl;
      newest = omega arith;
      tip = refl;
      holds = λ p b. get_or-replicate 32 p 0 0 b;
      room = refl;
      owns = λ p b. get_or-replicate 32 p 0 0 b;
      own_room = refl;
      low = omega arith;
      mid = omega arith;
      high = omega arith;
      behind = λ x y. absurd (omega arith);
    }

fresh_applied : Applied (unfolded []) fresh_part [] [] []
unfolding first stack held Fell val pushed popped
fresh_applied =
    record {
      entries = none_all (λ k u. ApplyEntry 0 0 [] k (apply_view u)) (λ k. record {
        change = record { low = λ x. crash x; aim = λ x. crash x; taken = refl };
        rollback = record { low = λ x. crash x; aim = not_going None refl; returned = refl };
        tried = λ x. crash x;
        spared = λ x. clash (ap statuses.done (sym x));
      });
      calm = none_all (λ k u. Calm (Quiet (unfolded []) 0) 0 (apply_view u)) (λ k. record { change = λ x. crash x; rollback = λ x. crash x });
      reach = omega arith;
      sub = done;
      split = refl;
      fell = tt;
      tip = refl;
      holds = λ p b. get_or-replicate 32 p 0 0 b;
      room = refl;
      aimed = λ x. absurd (x refl);
      clear = λ k x y. refl;
    }

fresh_reached : (m : Bool) → Reached (fresh m) []
unfolding ops_of
fresh_reached m =
    record {
      bad = [];
      inv = record {
        sides = none_all (λ k u. Sides u) (λ k. record { change = (refl, refl); rollback = (refl, refl); unasked = λ x. refl; orderly = refl });
        numbered = none_all (λ k u. Numbered [] k u.change.ordinal.0 u.rollback.ordinal.0) (λ k. record { change = λ o x. absurd (omega arith); rollback = λ o x. absurd (omega arith) });
        committed = fresh_committed;
        applied = fresh_applied;
      };
    }

-- ---- nothing is lost by a fold: the state is the whole with its front folded away
pub record Folded (m : Bool) (cs : List Call) : Type 0 where
  pub fold : ℕ
  pub base : List ℕ
  pub shows : (run m cs).state ≡ shown (whole m cs) fold base
  pub front : Front (whole m cs).log fold base
  pub passed : Passed (whole m cs) fold
  pub reached : Reached (whole m cs) (run m cs).events

-- one call more, whatever it is
follows : (m : Bool) (cs : List Call) → Folded m cs → (P : Note → Reply → State → Type 0) → ((a : ℕ) → P nothing (refusal a) (whole m cs)) → (c : Call) → Calls (whole m cs) P (λ ps. c ≡ append ps)
    → Followed P (note (run m cs).state c) (step (run m cs).state c).reply (step (run m cs).state c).next (whole m (c ∷ cs))
unfolding whole
follows m cs x P same c k =
    let i = x.reached.inv in
    subst (λ s. Followed P (note s c) (step s c).reply (step s c).next (afters (whole m cs) (unless_fold c (outcome s c).stores))) (sym x.shows)
    (follow (whole m cs) x.fold x.base x.front x.passed (rest_seen i x.fold x.base x.front) (settled_seen i x.fold x.base x.front) P same c k
    (fold_front i x.fold x.base x.front) (λ c p q m. fold_passed i x.fold x.base x.front c p q m x.passed))

fresh_front : Front (unfolded []) 0 absent
unfolding highest
fresh_front = record { whole = refl; absent = refl; within = omega arith; finished = λ k p q. absurd (omega arith); base = λ p q. refl; room = refl }

pub folded : (m : Bool) (cs : List Call) → Folded m cs
unfolding run whole
folded m [] = record { fold = 0; base = absent; shows = refl; front = fresh_front; passed = record { change = omega arith; entries = λ k p q. absurd (omega arith) }; reached = fresh_reached m }
folded m (c ∷ cs) =
    let x = folded m cs in
    let y = follows m cs x (Keeps (whole m cs) (run m cs).events x.reached.bad x.reached.inv) (λ a. still (whole m cs) (run m cs).events x.reached.bad x.reached.inv (whole m cs) x.reached.inv) c
    (calls (whole m cs) (run m cs).events x.reached.bad x.reached.inv) in
    record { fold = y.fold; base = y.base; shows = y.shows; front = y.front; passed = y.passed; reached = y.holds }

pub reached : (m : Bool) (cs : List Call) → Reached (whole m cs) (run m cs).events
reached m cs = (folded m cs).reached

-- what every way to accept a call keeps of the whole, every call keeps
pub by_history : (m : Bool) (cs : List Call) (P : Note → Reply → State → Type 0) → ((a : ℕ) → P nothing (refusal a) (whole m cs)) → (c : Call) → Calls (whole m cs) P (λ ps. c ≡ append ps)
    → P (note (run m cs).state c) (step (run m cs).state c).reply (whole m (c ∷ cs))
by_history m cs P same c k = (follows m cs (folded m cs) P same c k).holds

-- ---- demand 3
-- live at a stage, by its ops
live_ops : (es : List Event) (g k : ℕ) → live es g k ≡ (pushed k (ops_of Complete g es) && not (popped k (ops_of Complete g es)))
live_ops es g k = rw (told_change Complete es g k, told_rollback Complete es g k)

module _ (s : State) (es : List Event) (r : Reached s es) where
  abbrev co : Committed s.log s.change.0 s.committed (ops_of Complete 1 es)
  co = r.inv.committed

  -- on the stack of commits: the changes live at the commit; held by the switch: those live at the apply
  pub live_committed : (k : ℕ) → mem k (stack (ops_of Complete 1 es)) ≡ live es 1 k
  live_committed k = standing (ops_of Complete 1 es) co.rising k ∙ sym (live_ops es 1 k)

  pub live_applied : (k : ℕ) → mem k (held (ops_of Complete 2 es)) ≡ live es 2 k
  live_applied k = holding k r.inv.applied.sub (first_rises (ops_of Complete 1 es) s.applied.head.ordinal.0 co.rising) ∙ sym (live_ops es 2 k)

  stack_in : top (stack (ops_of Complete 1 es)) ≤ last s.log
  stack_in = omega (arith, stack_low (ops_of Complete 1 es) co.rising, co.newest, co.high)

  held_in : top (held (ops_of Complete 2 es)) ≤ last s.log
  held_in = omega (arith, held_low (jobs.side r.inv), co.newest, co.high)

  held_down : Falls (held (ops_of Complete 2 es))
  held_down = held_falls (jobs.side r.inv)

  -- with the first b folded away; demand 3 of the whole is that with b 0
  module _ (b : ℕ) (vs : List ℕ) (f : Front s.log b vs) where
    none : (p : ℕ) → p < 32 → get_or s.log.base p 0 ≡ 0
    none p q = ap (λ us. get_or us p 0) f.absent ∙ get_or-replicate 32 p 0 0 q

    -- the base is what those live at a stage set
    pub base_committed : (p : ℕ) → p < 32 → get_or vs p 0 ≡ highest s.log (live es 1) b p
    base_committed p q =
        f.base p q
        ∙ highest_same s.log (λ k. stays (entry_of s.log k)) (live es 1) b p (λ k u v. sym (live_ops es 1 k ∙ live_commit r.inv k (f.finished k u v)))

    pub base_applied : (p : ℕ) → p < 32 → get_or vs p 0 ≡ highest s.log (live es 2) b p
    base_applied p q =
        f.base p q
        ∙ highest_same s.log (λ k. stays (entry_of s.log k)) (live es 2) b p (λ k u v. sym (live_ops es 2 k ∙ live_apply r.inv k (f.finished k u v)))

    -- what the whole holds, what is shown holds
    read_on : (g : ℕ → Bool) (p : ℕ) → get_or vs p 0 ≡ highest s.log g b p
        → highest s.log g (last s.log) p ≡ highest (shown_log s.log b vs) (λ k. ltb b k && g k) (last (shown_log s.log b vs)) p
    read_on g p e =
        sym (up (shown_log s.log b vs) s.log (entry_seen s b vs f) g p e (last s.log) f.within)
        ∙ ap (λ n. highest (shown_log s.log b vs) (λ k. ltb b k && g k) n p) (sym (last_seen s b vs f))

    -- ---- demand 3 of what is shown, but for the line
    pub committed_values_holds : (p : ℕ) → p < 32
        → get_or s.committed.values p 0 ≡ highest (shown_log s.log b vs) (λ k. ltb b k && live es 1 k) (last (shown_log s.log b vs)) p
    committed_values_holds p q =
        co.holds p q ∙ val_highest s.log (live es 1) (last s.log) (stack (ops_of Complete 1 es)) (stack_falls _ co.rising) stack_in live_committed p (none p q)
        ∙ read_on (live es 1) p (base_committed p q)

    pub applied_values_holds : (p : ℕ) → p < 32
        → get_or s.applied.values p 0 ≡ highest (shown_log s.log b vs) (λ k. ltb b k && live es 2 k) (last (shown_log s.log b vs)) p
    applied_values_holds p q =
        r.inv.applied.holds p q ∙ val_highest s.log (live es 2) (last s.log) (held (ops_of Complete 2 es)) held_down held_in live_applied p (none p q)
        ∙ read_on (live es 2) p (base_applied p q)

    pub live_list : list.live (shown s b vs) ≡ newest_first (λ k. ltb b k && live es 1 k) (last (shown_log s.log b vs))
    live_list = live_seen r.inv b vs f (live es 1) live_committed ∙ ap (newest_first (λ k. ltb b k && live es 1 k)) (sym (last_seen s b vs f))

    pub live_hops : hopped (shown_log s.log b vs) (length (list.live (shown s b vs))) s.committed.head.revision.0 ≤ b
    live_hops =
        subst (λ ks. hopped (shown_log s.log b vs) (length ks) s.committed.head.revision.0 ≤ b) (sym (live_above r.inv b vs f))
        (subst (λ v. hopped (shown_log s.log b vs) (length (above b (stack (ops_of Complete 1 es)))) v ≤ b) (sym co.tip)
        (hopped_above (shown_log s.log b vs) s.log (entry_seen s b vs f) (stack (ops_of Complete 1 es)) (stack_linked s.log _ co.rising co.linked)))

-- ---- the whole is what is shown of it with nothing folded away
pub log_shown : (l : Log) → l.folded.0 ≡ 0 → l.base ≡ absent → l ≡ shown_log l 0 absent
log_shown l z a =
    ap (λ n. record { folded = num n; base = l.base; entries = l.entries }) z
    ∙ ap (λ vs. record { folded = num 0; base = vs; entries = l.entries }) a
    ∙ ap (λ n. record { folded = num 0; base = absent; entries = drop n l.entries }) (let e : 0 ≡ 0 - l.folded.0 = omega arith in e)

pub front_zero : {l : Log} {b : ℕ} {vs : List ℕ} → Front l b vs → Front l 0 absent
unfolding highest
front_zero f =
    record { whole = f.whole; absent = f.absent; within = omega arith; finished = λ k p q. absurd (omega arith); base = λ p q. ap (λ us. get_or us p 0) (sym f.absent); room = refl }

-- the base values are what the changes folded away gave, by the whole history: those live at commit, and those live at apply
pub base_is_committed : (m : Bool) (cs : List Call) (p : ℕ) → p < 32
    → get_or (run m cs).state.log.base p 0 ≡ highest (whole m cs).log (live (run m cs).events 1) (run m cs).state.log.folded.0 p
base_is_committed m cs p q =
    let x = folded m cs in
    subst (λ s. get_or s.log.base p 0 ≡ highest (whole m cs).log (live (run m cs).events 1) s.log.folded.0 p) (sym x.shows)
    (base_committed (whole m cs) (run m cs).events x.reached x.fold x.base x.front p q)

pub base_is_applied : (m : Bool) (cs : List Call) (p : ℕ) → p < 32
    → get_or (run m cs).state.log.base p 0 ≡ highest (whole m cs).log (live (run m cs).events 2) (run m cs).state.log.folded.0 p
base_is_applied m cs p q =
    let x = folded m cs in
    subst (λ s. get_or s.log.base p 0 ≡ highest (whole m cs).log (live (run m cs).events 2) s.log.folded.0 p) (sym x.shows)
    (base_applied (whole m cs) (run m cs).events x.reached x.fold x.base x.front p q)

-- a refused fold makes no store
none_folded : (w k m : Bool) (es : List Store) → eqb (unless 1 w (unless 5 k (unless 17 m (accepted es)))).reply.answer 0 ≡ false
    → (unless 1 w (unless 5 k (unless 17 m (accepted es)))).stores ≡ []
none_folded true true true es e = clash e
none_folded true true false es e = refl
none_folded true false m es e = refl
none_folded false k m es e = refl

all_made : (s : State) (c : Call) → folded_by c (outcome s c).reply.answer ≡ false → unless_fold c (outcome s c).stores ≡ (outcome s c).stores
unfolding outcome decide
all_made s (append ps) e = refl
all_made s (rollback i) e = refl
all_made s start e = refl
all_made s stop e = refl
all_made s (connect n) e = refl
all_made s (disconnect n) e = refl
all_made s (master n) e = refl
all_made s (sync n) e = refl
all_made s (work n j i r c) e = refl
all_made s (fold_to b) e = sym (none_folded (well_formed s) (is_kept s b && leb b (last s.log)) (may_fold s b) (base_row s.log b (list.live s) ++ (fold (num b) ∷ [])) e)

-- where no fold was accepted, the state is the whole: the history is what it was before there were folds
pub unfolded_whole : (m : Bool) (cs : List Call) → folds m cs ≡ false → (run m cs).state ≡ whole m cs
unfolding run whole folds step
unfolded_whole m [] e = refl
unfolded_whole m (c ∷ cs) e =
    go (folded_by c (outcome (run m cs).state c).reply.answer) refl e (unfolded_whole m cs)
  where
    go : (b : Bool) → folded_by c (outcome (run m cs).state c).reply.answer ≡ b → (b || folds m cs) ≡ false → (folds m cs ≡ false → (run m cs).state ≡ whole m cs)
        → afters (run m cs).state (outcome (run m cs).state c).stores ≡ afters (whole m cs) (unless_fold c (outcome (run m cs).state c).stores)
    go true x y r = clash y
    go false x y r = ap (λ s. afters s (outcome (run m cs).state c).stores) (r y) ∙ ap (afters (whole m cs)) (sym (all_made (run m cs).state c x))

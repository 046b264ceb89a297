-- Every call keeps the stages (Stages), refused and cut ones too; so they hold after any calls from fresh. Assumes nothing.
use Prim.Native.Nat.{ℕ, suc, ◌≤◌, ◌<◌}
use native.Mathlib.Omega.{arith}
use mathlib.Core.List.{List, [], ◌∷◌, ◌++◌}
use mathlib.Core.Bool.{Bool, true, false, ◌&&◌, cond}
use mathlib.Core.Path.{◌≡◌, refl, sym, ap, ◌∙◌, subst}
use lib.Dec.{eqb, leb}
use borrow.Author.Tests.{eq-eqb, le-leb, lt-ltb, eqb-true}
use Rattle.kinds.specs.declared.Transaction.{Transaction}
use Rattle.kinds.specs.declared.Event.{Event}
use Rattle.kinds.specs.declared.Reply.{Reply}
use Rattle.kinds.specs.declared.Head.{Head}
use Rattle.kinds.specs.declared.Number.{Number}
use Rattle.kinds.specs.declared.Ordinal.{Ordinal}
use Rattle.kinds.specs.declared.Status.{Status}
use Rattle.kinds.specs.declared.Status.TheVariants.{None, Pending, InProgress, Complete, Aborted, Canceled, Failed}
use Rattle.kinds.specs.Numbers.{num, ord}
use Rattle.kinds.specs.Statuses.{code_of, done}
use Rattle.kinds.specs.Records.{with_change, with_rollback}
use Rattle.rules.specs.AtRest.{at_rest}
use Rattle.rules.specs.Sides.{apply_at, begun, committed, invalid}
use Rattle.rules.specs.CommitChange.{beginning}
use Rattle.rules.specs.Outside.{may_roll_back, rolled_back}
use Rattle.rules.specs.declared.CommitChangeRule.TheVariants as change
use Rattle.rules.specs.declared.CommitRollbackRule.TheVariants as rollback
use Rattle.rules.specs.declared.ApplyChangeRule.TheVariants as apply
use Rattle.rules.specs.declared.ApplyRollbackRule.TheVariants as return
use Rattle.rules.specs.CommitChange as job1
use Rattle.rules.specs.CommitRollback as job3
use Rattle.rules.specs.ApplyChange as job2
use Rattle.rules.specs.ApplyRollback as job4
use Rattle.rules.specs.declared.Present.{Present}
use Rattle.machine.specs.State.{Log, State, entry_of, put_entry, grown, last, line_open_for}
use Rattle.machine.specs.Rest.{mark_of, rest_of}
use Rattle.machine.specs.Calls.{Call, Pair, appended, present_of}
use Rattle.machine.specs.Settled.{settled}
use Rattle.machine.specs.Step.{run}
use Rattle.machine.specs.Notes.{Note}
use Rattle.machine.proofs.Next.{putting}
use Rattle.machine.specs.Stores.{with_log}
use Rattle.machine.proofs.Cases.{and_left, and_right, complete_is}
use Rattle.machine.proofs.Entries.{put_all, add_all, none_all, entry_put, last_put, last_add}
use Rattle.machine.proofs.ByCall.{Does, Calls}
use Rattle.history.specs.Ops.{Op, push, pop, ops_of, op_at, or_late, clash, crash}
use Rattle.history.specs.Invariant.{Invariant, Quiet, is_ended, change_touched, rollback_touched}
use Rattle.history.specs.Frames.{by_eq}
use Rattle.history.proofs.Commits.{tip_back, asked}
use Rattle.history.proofs.Applies as applies
use Rattle.history.proofs.Jobs as jobs
use Rattle.history.proofs.Reached.{reached, by_history}
use Rattle.history.specs.Whole.{whole}
use Rattle.history.specs.Stages.{EntryStage, Mode, rests, flies, closes, returns, closes_back, Entries, Stages}

-- ---- statuses
pub differ : {A : Type 0} (x y : Status) → eqb (code_of x) (code_of y) ≡ false → x ≡ y → A
differ x y f e = clash (sym (eq-eqb (code_of x) (code_of x) refl) ∙ ap (λ z. eqb (code_of x) (code_of z)) e ∙ f)

-- a status that an apply has once it is begun or ended
abbrev is_begun : Status → Bool
is_begun None = false
is_begun Pending = false
is_begun InProgress = true
is_begun Complete = true
is_begun Aborted = true
is_begun Canceled = true
is_begun Failed = true

-- ---- at rest
done_mark : (l : Log) (k : ℕ) (x : Status) → done x ≡ true → done (mark_of l k x) ≡ true
done_mark l k x e = go (leb k l.folded.0)
  where
    go : (b : Bool) → done (cond b Complete x) ≡ true
    go true = refl
    go false = e

mark_same : (l m : Log) (k : ℕ) (x y : Status) → m.folded.0 ≡ l.folded.0 → done y ≡ done x → done (mark_of m k y) ≡ done (mark_of l k x)
mark_same l m k x y e f = ap (λ b. done (cond (leb k b) Complete y)) e ∙ go (leb k l.folded.0)
  where
    go : (b : Bool) → done (cond b Complete y) ≡ done (cond b Complete x)
    go true = refl
    go false = f

rest_same : (h : Head) (c d r q : Status) → done d ≡ done c → done q ≡ done r → at_rest h d q ≡ at_rest h c r
rest_same h c d r q e f = rw (e, f) refl

module _ (l : Log) (c : ℕ) (h : Head) where
  rest_change : 1 ≤ h.index.0 → h.target.0 ≡ h.index.0 → done (entry_of l h.index.0).change.commit ≡ true → Mode l c h
  rest_change p e d =
      rests
      (or_late (eqb h.index.0 0 && eqb h.target.0 0) _ (rw (le-leb 1 h.index.0 p, eq-eqb h.target.0 h.index.0 e, done_mark l h.index.0 (entry_of l h.index.0).change.commit d)))

  rest_rollback : h.target.0 ≡ h.revision.0 → h.revision.0 < h.index.0 → done (entry_of l h.index.0).rollback.commit ≡ true → Mode l c h
  rest_rollback e p d =
      rests
      (or_late (eqb h.index.0 0 && eqb h.target.0 0) _
      (or_late (leb 1 h.index.0 && (eqb h.target.0 h.index.0 && done (mark_of l h.index.0 (entry_of l h.index.0).change.commit))) _
      (rw (le-leb 1 h.index.0 (omega arith), eq-eqb h.target.0 h.revision.0 e, lt-ltb h.revision.0 h.index.0 p, done_mark l h.index.0 (entry_of l h.index.0).rollback.commit d))))

-- ---- the mode where commit statuses stay
record Alike (t u : Transaction) : Type 0 where
  change : u.change.commit ≡ t.change.commit
  rollback : (t.rollback.commit ≡ None → ⊥) → u.rollback.commit ≡ t.rollback.commit
  still : done u.rollback.commit ≡ done t.rollback.commit
  index : u.index.0 ≡ t.index.0

module _ (l m : Log) (same : m.folded.0 ≡ l.folded.0) (c : ℕ) (h : Head) (n : ℕ) (w : (k : ℕ) → k ≤ n → Alike (entry_of l k) (entry_of m k)) where
  mode_same : last l ≤ last m → h.index.0 ≤ n → h.revision.0 ≤ n → c ≤ n → ((k : ℕ) → (entry_of l k).rollback.commit ≡ InProgress → k ≤ n) → Mode l c h → Mode m c h
  mode_same b x y z u (rests e) =
      let k = h.index.0 in
      rests
      (rest_same h (mark_of l k (entry_of l k).change.commit) (mark_of m k (entry_of m k).change.commit) (mark_of l k (entry_of l k).rollback.commit) (mark_of m k (entry_of m k).rollback.commit)
      (mark_same l m k (entry_of l k).change.commit (entry_of m k).change.commit same (ap done (w k x).change))
      (mark_same l m k (entry_of l k).rollback.commit (entry_of m k).rollback.commit same (w k x).still) ∙ e)
  mode_same b x y z u (flies e p) = flies e (omega arith)
  mode_same b x y z u (closes k e p) = closes k ((w k (omega arith)).change ∙ e) p
  mode_same b x y z u (returns e p q) =
      returns (e ∙ sym (w h.revision.0 y).index) (λ v. p (sym ((w h.revision.0 y).rollback p) ∙ v)) ((w h.revision.0 y).still ∙ q)
  mode_same b x y z u (closes_back k e p) = closes_back k ((w k (u k e)).rollback (λ v. differ InProgress None refl (sym e ∙ v)) ∙ e) p

module _ {s : State} {ops acts : List Op} {bad : List ℕ} (inv : Invariant s ops acts bad) (st : Stages s) where
  abbrev en : ℕ → Transaction
  en i = entry_of s.log i

  abbrev c : ℕ
  c = s.change.0

  abbrev v : ℕ
  v = s.committed.head.revision.0

  abbrev b : ℕ
  b = s.committed.head.ordinal.0

  abbrev a : ℕ
  a = s.applied.head.ordinal.0

  reach : a ≤ b
  reach = omega (arith, inv.applied.reach, inv.committed.count)

  -- ---- entries stored
  put : (i : ℕ) (t : Transaction) → EntryStage c v b a i t → Entries (put_entry s.log i t) c v b a
  put i t e = put_all (λ k u. EntryStage c v b a k u) s.log i t st.entries e

  -- only a committed change has a rollback
  unasked : {A : Type 0} (i : ℕ) (x : Status) → eqb (code_of x) (code_of Complete) ≡ false → (en i).change.commit ≡ x → ((en i).rollback.commit ≡ None → ⊥) → A
  unasked i x f e p = differ x Complete f (sym e ∙ ((st.entries i).asked p).0)

  begin1 : (i : ℕ) → (en i).change.commit ≡ Pending → i ≡ suc c → (r : Number) (vs : Present) → Entries (put_entry s.log i (beginning (en i) r vs)) c v b a
  begin1 i e n r vs =
      let w = st.entries i in
      put i _ (record {
        some = λ p. ((λ x. differ InProgress None refl x), (w.some p).1);
        waits = λ x. differ InProgress Pending refl x;
        closing = λ x y. absurd (omega arith);
        returned = λ x y. unasked i Pending refl e (λ z. differ InProgress None refl (sym x ∙ z));
        canceled = λ x. differ Pending Failed refl (sym e ∙ w.canceled x);
        sound = w.sound;
        asked = λ x. unasked i Pending refl e x;
        plain = w.plain;
        change = record { waits = λ x. differ InProgress Complete refl x; goes = w.change.goes };
        rollback = w.rollback;
      })

  finish1 : (i : ℕ) (o : Ordinal) → (en i).change.commit ≡ InProgress → a < o.0 → Entries (put_entry s.log i (with_change (en i) (committed (en i).change o))) c v b a
  finish1 i o e q =
      let w = st.entries i in
      put i _ (record {
        some = λ p. ((λ x. differ Complete None refl x), (w.some p).1);
        waits = λ x. differ Complete Pending refl x;
        closing = λ x. differ Complete InProgress refl x;
        returned = w.returned;
        canceled = λ x. differ InProgress Failed refl (sym e ∙ w.canceled x);
        sound = w.sound;
        asked = λ x. (refl, (w.asked x).1);
        plain = w.plain;
        change = record { waits = λ x y. q; goes = λ x. omega arith };
        rollback = w.rollback;
      })

  reject1 : (i : ℕ) → (en i).change.commit ≡ InProgress → Entries (put_entry s.log i (with_change (en i) (invalid (en i).change))) c v b a
  reject1 i e =
      let w = st.entries i in
      put i _ (record {
        some = λ p. ((λ x. differ Failed None refl x), (λ x. differ Canceled None refl x));
        waits = λ x. differ Failed Pending refl x;
        closing = λ x. differ Failed InProgress refl x;
        returned = w.returned;
        canceled = λ x. refl;
        sound = w.sound;
        asked = λ x. unasked i InProgress refl e x;
        plain = w.plain;
        change = record { waits = λ x. differ Failed Complete refl x; goes = λ x. differ Canceled InProgress refl x };
        rollback = w.rollback;
      })

  begin3 : (i : ℕ) → (en i).rollback.commit ≡ Pending → v ≡ i → Entries (put_entry s.log i (with_rollback (en i) (begun (en i).rollback))) c v b a
  begin3 i e n =
      let w = st.entries i in
      put i _ (record {
        some = w.some;
        waits = w.waits;
        closing = w.closing;
        returned = λ x y. absurd (y (sym n));
        canceled = w.canceled;
        sound = w.sound;
        asked = λ x. w.asked (λ z. differ Pending None refl (sym e ∙ z));
        plain = λ x. differ InProgress None refl x;
        change = w.change;
        rollback = record { waits = λ x. differ InProgress Complete refl x; goes = w.rollback.goes };
      })

  finish3 : (i : ℕ) (o : Ordinal) → (en i).rollback.commit ≡ InProgress → a < o.0 → Entries (put_entry s.log i (with_rollback (en i) (committed (en i).rollback o))) c v b a
  finish3 i o e q =
      let w = st.entries i in
      put i _ (record {
        some = w.some;
        waits = w.waits;
        closing = w.closing;
        returned = λ x. differ Complete InProgress refl x;
        canceled = w.canceled;
        sound = w.sound;
        asked = λ x. w.asked (λ z. differ InProgress None refl (sym e ∙ z));
        plain = λ x. differ Complete None refl x;
        change = w.change;
        rollback = record { waits = λ x y. q; goes = λ x. omega arith };
      })

  ask : (i : ℕ) → may_roll_back (en i) ≡ true → (en i).change.commit ≡ Complete → Entries (put_entry s.log i (rolled_back (en i))) c v b a
  ask i f e =
      let w = st.entries i in
      put i _ (record {
        some = λ p. w.some (omega (arith, eqb-true (en i).phase 1 (and_left (eqb (en i).phase 1) _ f)));
        waits = w.waits;
        closing = w.closing;
        returned = λ x. differ Pending InProgress refl x;
        canceled = w.canceled;
        sound = refl;
        asked = λ x. (e, (λ y. differ Pending None refl y));
        plain = λ x. differ Pending None refl x;
        change = w.change;
        rollback = record { waits = λ x. differ Pending Complete refl x; goes = λ x. differ Pending InProgress refl x };
      })

  -- an apply begins, or ends
  set_change : (i : ℕ) (x : Status) → is_begun x ≡ true → eqb (code_of x) (code_of Canceled) ≡ false → a ≤ (en i).change.ordinal.0
      → Entries (put_entry s.log i (with_change (en i) (apply_at (en i).change x))) c v b a
  set_change i x f g q =
      let w = st.entries i in
      put i _ (record {
        some = λ p. ((w.some p).0, (λ y. crash (ap is_begun (sym y) ∙ f)));
        waits = w.waits;
        closing = w.closing;
        returned = w.returned;
        canceled = λ y. differ x Canceled g y;
        sound = w.sound;
        asked = w.asked;
        plain = w.plain;
        change = record { waits = λ y z. crash (ap is_begun (sym z) ∙ f); goes = λ y. q };
        rollback = w.rollback;
      })

  set_rollback : (i : ℕ) (x : Status) → is_begun x ≡ true → is_ended x ≡ false → a ≤ (en i).rollback.ordinal.0
      → Entries (put_entry s.log i (with_rollback (en i) (apply_at (en i).rollback x))) c v b a
  set_rollback i x f g q =
      let w = st.entries i in
      put i _ (record {
        some = w.some;
        waits = w.waits;
        closing = w.closing;
        returned = w.returned;
        canceled = w.canceled;
        sound = g;
        asked = λ y. ((w.asked y).0, (λ z. crash (ap is_begun (sym z) ∙ f)));
        plain = w.plain;
        change = w.change;
        rollback = record { waits = λ y z. crash (ap is_begun (sym z) ∙ f); goes = λ y. q };
      })

  -- ---- heads
  -- a commit lands
  land : (d r o : ℕ) → ((k : ℕ) → (en k).change.commit ≡ Pending → d < k) → o ≡ suc b → Entries s.log d r o a
  land d r o f e k =
      let w = st.entries k in
      record {
        some = w.some;
        waits = f k;
        closing = λ x y. omega (arith, reach);
        returned = λ x y. omega (arith, reach);
        canceled = w.canceled;
        sound = w.sound;
        asked = w.asked;
        plain = w.plain;
        change = w.change;
        rollback = w.rollback;
      }

  -- the change after c is no longer Pending
  beyond : (i : ℕ) (x : Status) → eqb (code_of x) (code_of Pending) ≡ false → (en i).change.commit ≡ x → i ≡ suc c → (k : ℕ) → (en k).change.commit ≡ Pending → i < k
  beyond i x f e n k p =
      by_eq k i (λ z. differ x Pending f (sym e ∙ subst (λ j. (en j).change.commit ≡ Pending) z p)) (λ z. omega (arith, (st.entries k).waits p))

  pass : (i : ℕ) → (en i).change.commit ≡ Failed → i ≡ suc c → Entries s.log i v b a
  pass i e n k =
      let w = st.entries k in
      record {
        some = w.some;
        waits = beyond i Failed refl e n k;
        closing = λ x y. by_eq k i (λ z. differ Failed InProgress refl (sym e ∙ subst (λ j. (en j).change.commit ≡ InProgress) z x)) (λ z. w.closing x (omega arith));
        returned = w.returned;
        canceled = w.canceled;
        sound = w.sound;
        asked = w.asked;
        plain = w.plain;
        change = w.change;
        rollback = w.rollback;
      }

  -- the next op is passed, all before it settled
  passes : Quiet s.log a → ((k : ℕ) → (en k).change.commit ≡ InProgress → op_at ops (suc a) ≡ push k → ⊥)
      → ((k : ℕ) → (en k).rollback.commit ≡ InProgress → op_at ops (suc a) ≡ pop k → ⊥)
      → ((k : ℕ) → (en k).change.apply ≡ Pending → (en k).change.ordinal.0 ≡ suc a → ⊥)
      → ((k : ℕ) → (en k).rollback.apply ≡ Pending → (en k).rollback.ordinal.0 ≡ suc a → ⊥)
      → (o : ℕ)
      → o ≡ suc a
      → Entries s.log c v b o
  passes q f g x y o e k =
      let w = st.entries k in
      let z = inv.committed.entries k in
      record {
        some = w.some;
        waits = w.waits;
        closing = λ p n. by_eq (suc a) b (λ u. absurd (f k p (ap (op_at ops) u ∙ (z.closing p n).last))) (λ u. omega (arith, w.closing p n));
        returned = λ p n. by_eq (suc a) b (λ u. absurd (g k p (ap (op_at ops) u ∙ (z.returned p n).last))) (λ u. omega (arith, w.returned p n));
        canceled = w.canceled;
        sound = w.sound;
        asked = w.asked;
        plain = w.plain;
        change = record {
          waits = λ p n. by_eq (en k).change.ordinal.0 (suc a) (λ u. absurd (x k n u)) (λ u. omega (arith, w.change.waits p n));
          goes = λ p. by_eq (en k).change.ordinal.0 a (λ u. absurd ((q k).change p u)) (λ u. omega (arith, w.change.goes p));
        };
        rollback = record {
          waits = λ p n. by_eq (en k).rollback.ordinal.0 (suc a) (λ u. absurd (y k n u)) (λ u. omega (arith, w.rollback.waits p n));
          goes = λ p. by_eq (en k).rollback.ordinal.0 a (λ u. absurd ((q k).rollback p u)) (λ u. omega (arith, w.rollback.goes p));
        };
      }

  pass2 : (i : ℕ) → (en i).change.commit ≡ Complete → (o : ℕ) → o ≡ suc a → (en i).change.ordinal.0 ≡ suc a → change_touched (en i).change.apply ≡ true → Entries s.log c v b o
  pass2 i m o e n f =
      let side = jobs.side inv in
      passes ((inv.applied.calm i).change f n)
      (λ k x y. differ InProgress Complete refl (sym x ∙ ap (λ j. (en j).change.commit) (applies.push_is k i (sym y ∙ applies.next_push side i n)) ∙ m))
      (λ k x y. applies.push_pop i k (sym (applies.next_push side i n) ∙ y))
      (λ k x y. crash (ap change_touched (sym x ∙ ap (λ j. (en j).change.apply) (applies.same_change side i n k y)) ∙ f))
      (λ k x y. applies.no_rollback side i n k y) o e

  pass4 : (i : ℕ) → (en i).rollback.commit ≡ Complete → (o : ℕ) → o ≡ suc a → (en i).rollback.ordinal.0 ≡ suc a → rollback_touched (en i).rollback.apply ≡ true → Entries s.log c v b o
  pass4 i m o e n f =
      let side = jobs.side inv in
      passes ((inv.applied.calm i).rollback f n)
      (λ k x y. applies.push_pop k i (sym y ∙ applies.next_pop side i n))
      (λ k x y. differ InProgress Complete refl (sym x ∙ ap (λ j. (en j).rollback.commit) (applies.pop_is k i (sym y ∙ applies.next_pop side i n)) ∙ m))
      (λ k x y. applies.no_change side i n k y)
      (λ k x y. crash (ap rollback_touched (sym x ∙ ap (λ j. (en j).rollback.apply) (applies.same_rollback side i n k y)) ∙ f)) o e

  -- ---- the mode, where an entry is stored with the commit statuses that it has, or a rollback is asked
  mode_put : (i : ℕ) (t : Transaction) → Alike (en i) t → Mode (put_entry s.log i t) c s.committed.head
  mode_put i t w =
      let co = inv.committed in
      mode_same s.log (put_entry s.log i t) refl c s.committed.head (last s.log)
      (λ k p. put_all (λ k u. Alike (en k) u) s.log i t (λ k. record { change = refl; rollback = λ x. refl; still = refl; index = refl }) w k)
      (omega (arith, last_put s.log i t)) (omega (arith, co.mid, co.high)) (omega (arith, co.low, co.mid, co.high)) co.high
      (λ k x. omega (arith, asked co k x, co.high)) st.mode

  mode_add : (t : Transaction) → Mode (grown s.log t) c s.committed.head
  mode_add t =
      let co = inv.committed in
      mode_same s.log (grown s.log t) refl c s.committed.head (last s.log)
      (add_all (λ k u. k ≤ last s.log → Alike (en k) u) s.log t (λ k p. record { change = refl; rollback = λ x. refl; still = refl; index = refl }) (λ p. absurd (omega arith)))
      (omega (arith, last_add s.log t)) (omega (arith, co.mid, co.high)) (omega (arith, co.low, co.mid, co.high)) co.high
      (λ k x. omega (arith, asked co k x, co.high)) st.mode

module _ (s : State) (es : List Event) (bad : List ℕ) (inv : Invariant s (ops_of Complete 1 es) (ops_of Complete 2 es) bad) (st : Stages s) where
  abbrev Keeps : Note → Reply → State → Type 0
  Keeps x r next = Stages next

  abbrev vs : ℕ → Present
  vs i = present_of s (entry_of s.log i)

  abbrev at : ℕ
  at = s.applied.head.ordinal.0

  abbrev tx : ℕ → Transaction
  tx i = entry_of s.log i

  module _ (i : ℕ) (p : s.log.folded.0 < i) (q : i ≤ last s.log) where
    above : 1 ≤ i
    above = omega arith

    stored : (t : Transaction) → entry_of (put_entry s.log i t) i ≡ t
    stored t = entry_put s.log i t p q

    kept : (t : Transaction) → i ≤ last (put_entry s.log i t)
    kept t = rw last_put q

    -- ---- job 1
    begin_1 : (tx i).change.commit ≡ Pending → i ≡ suc s.change.0 → s.committed.head.target.0 ≡ i → Stages (putting s i (beginning (tx i) s.committed.head.revision (vs i)))
    begin_1 e n g = record { entries = begin1 inv st i e n _ _; mode = flies (g ∙ n) (subst (λ k. k ≤ last (put_entry s.log i (beginning (tx i) s.committed.head.revision (vs i)))) n (kept _)) }

    aim_1 : (cut second : Bool) → (tx i).change.commit ≡ Pending → i ≡ suc s.change.0 → rest_of s ≡ true
        → Does s Keeps true i cut second (job1.plans change.Aim (tx i) s.committed.head (num i) (ord 0) (vs i))
    aim_1 true second e n r = record { entries = st.entries; mode = flies n (subst (λ k. k ≤ last s.log) n q) }
    aim_1 false second e n r =
        record {
          entries = begin1 inv st i e n _ _;
          mode = flies n (subst (λ k. k ≤ last (put_entry s.log i (beginning (tx i) s.committed.head.revision (vs i)))) n (kept _));
        }

    landed_1 : (tx i).change.commit ≡ InProgress → i ≡ suc s.change.0 → (o : Ordinal) → o.0 ≡ suc s.committed.head.ordinal.0
        → Does s Keeps true i true true (job1.plans change.Land (tx i) s.committed.head (num i) o (vs i))
    landed_1 e n o x = record { entries = land inv st i i o.0 (beyond inv st i InProgress refl e n) x; mode = closes i e (omega arith) }

    land_1 : (cut second : Bool) → (tx i).change.commit ≡ InProgress → i ≡ suc s.change.0 → (o : Ordinal) → o.0 ≡ suc s.committed.head.ordinal.0
        → Does s Keeps true i cut second (job1.plans change.Land (tx i) s.committed.head (num i) o (vs i))
    land_1 true second e n o x = landed_1 e n o x
    land_1 false second e n o x =
        let t = with_change (tx i) (committed (tx i).change o) in
        record {
          entries = finish1 (jobs.land_change inv i o e n q x) (landed_1 e n o x) i o e (omega (arith, reach inv st));
          mode = rest_change _ _ _ above ((inv.committed.entries i).flight e n).target (ap (λ u. done u.change.commit) (stored t));
        }

    rejected_1 : (tx i).change.commit ≡ InProgress → i ≡ suc s.change.0 → Stages (putting s i (with_change (tx i) (invalid (tx i).change)))
    rejected_1 e n =
        record {
          entries = reject1 inv st i e;
          mode = flies (((inv.committed.entries i).flight e n).target ∙ n) (subst (λ k. k ≤ last (put_entry s.log i (with_change (tx i) (invalid (tx i).change)))) n (kept _));
        }

    reject_1 : (cut second : Bool) → (tx i).change.commit ≡ InProgress → i ≡ suc s.change.0
        → Does s Keeps true i cut second (job1.plans change.Reject (tx i) s.committed.head (num i) (ord 0) (vs i))
    reject_1 true second e n = rejected_1 e n
    reject_1 false second e n =
        let t = with_change (tx i) (invalid (tx i).change) in
        record {
          entries = pass (jobs.fail_change inv i e n) (rejected_1 e n) i (ap (λ u. u.change.commit) (stored t)) n;
          mode = rest_change _ _ _ above ((inv.committed.entries i).flight e n).target (ap (λ u. done u.change.commit) (stored t));
        }

    finish_1 : (tx i).change.commit ≡ InProgress → s.change.0 ≡ i → Stages (putting s i (with_change (tx i) (committed (tx i).change s.committed.head.ordinal)))
    finish_1 e n =
        let f = (inv.committed.entries i).closing e (omega arith) in
        let t = with_change (tx i) (committed (tx i).change s.committed.head.ordinal) in
        record {
          entries = finish1 inv st i s.committed.head.ordinal e ((st.entries i).closing e (omega arith));
          mode = rest_change (put_entry s.log i t) s.change.0 s.committed.head (omega (arith, f.index)) (f.target ∙ sym f.index) (rw f.index (ap (λ u. done u.change.commit) (stored t)));
        }

    close_1 : (tx i).change.commit ≡ Failed → i ≡ suc s.change.0 → Does s Keeps true i true true (job1.plans change.Close (tx i) s.committed.head (num i) (ord 0) (vs i))
    close_1 e n = record { entries = pass inv st i e n; mode = rest_change s.log i _ above ((inv.committed.entries i).failing e n) (ap done e) }

    -- ---- job 3
    begin_3 : (tx i).rollback.commit ≡ Pending → s.committed.head.revision.0 ≡ i → s.committed.head.target.0 ≡ (tx i).index.0 → Stages (putting s i (with_rollback (tx i) (begun (tx i).rollback)))
    begin_3 e n g =
        let t = with_rollback (tx i) (begun (tx i).rollback) in
        record {
          entries = begin3 inv st i e n;
          mode = returns (g ∙ rw n (ap (λ u. u.index.0) (sym (stored t))))
              (λ x. differ InProgress None refl (ap (λ u. u.rollback.commit) (sym (stored t)) ∙ ap (λ k. (entry_of (put_entry s.log i t) k).rollback.commit) (sym n) ∙ x))
              (rw n (ap (λ u. done u.rollback.commit) (stored t)));
        }

    aim_3 : (cut second : Bool) → (tx i).rollback.commit ≡ Pending → s.committed.head.revision.0 ≡ i → rest_of s ≡ true
        → Does s Keeps true i cut second (job3.plans rollback.Aim (tx i) s.committed.head (num i) (ord 0))
    aim_3 true second e n r =
        record {
          entries = st.entries;
          mode = returns (ap (λ k. (tx k).index.0) (sym n)) (λ x. differ Pending None refl (sym e ∙ ap (λ k. (tx k).rollback.commit) (sym n) ∙ x)) (ap (λ k. done (tx k).rollback.commit) n ∙ ap done e);
        }
    aim_3 false second e n r =
        let t = with_rollback (tx i) (begun (tx i).rollback) in
        record {
          entries = begin3 inv st i e n;
          mode = returns (rw n (ap (λ u. u.index.0) (sym (stored t))))
              (λ x. differ InProgress None refl (ap (λ u. u.rollback.commit) (sym (stored t)) ∙ ap (λ k. (entry_of (put_entry s.log i t) k).rollback.commit) (sym n) ∙ x))
              (rw n (ap (λ u. done u.rollback.commit) (stored t)));
        }

    landed_3 : (tx i).rollback.commit ≡ InProgress → s.committed.head.revision.0 ≡ i → (o : Ordinal) → o.0 ≡ suc s.committed.head.ordinal.0
        → Does s Keeps true i true true (job3.plans rollback.Land (tx i) s.committed.head (num i) o)
    landed_3 e n o x =
        record { entries = land inv st _ _ o.0 (λ k. (st.entries k).waits) x; mode = closes_back i e (λ y. omega (arith, tip_back inv.committed i (sym n) above)) }

    land_3 : (cut second : Bool) → (tx i).rollback.commit ≡ InProgress → s.committed.head.revision.0 ≡ i → (o : Ordinal) → o.0 ≡ suc s.committed.head.ordinal.0
        → Does s Keeps true i cut second (job3.plans rollback.Land (tx i) s.committed.head (num i) o)
    land_3 true second e n o x = landed_3 e n o x
    land_3 false second e n o x =
        let t = with_rollback (tx i) (committed (tx i).rollback o) in
        record {
          entries = finish3 (jobs.land_rollback inv i o above e n x) (landed_3 e n o x) i o e (omega (arith, reach inv st));
          mode = rest_rollback _ _ _ ((inv.committed.entries i).returning e (sym n)) (tip_back inv.committed i (sym n) above) (ap (λ u. done u.rollback.commit) (stored t));
        }

    finish_3 : (tx i).rollback.commit ≡ InProgress → (s.committed.head.revision.0 ≡ i → ⊥) → Stages (putting s i (with_rollback (tx i) (committed (tx i).rollback s.committed.head.ordinal)))
    finish_3 e d =
        let f = (inv.committed.entries i).returned e (λ z. d (sym z)) in
        let t = with_rollback (tx i) (committed (tx i).rollback s.committed.head.ordinal) in
        record {
          entries = finish3 inv st i s.committed.head.ordinal e ((st.entries i).returned e (λ z. d (sym z)));
          mode = rest_rollback (put_entry s.log i t) s.change.0 s.committed.head f.target (omega (arith, f.index, f.below)) (rw f.index (ap (λ u. done u.rollback.commit) (stored t)));
        }

    -- ---- jobs 2 and 4: the commit side stays
    apply_2 : (x : Status) → is_begun x ≡ true → eqb (code_of x) (code_of Canceled) ≡ false → at ≤ (tx i).change.ordinal.0 → Stages (putting s i (with_change (tx i) (apply_at (tx i).change x)))
    apply_2 x f g b = record { entries = set_change inv st i x f g b; mode = mode_put inv st i _ (record { change = refl; rollback = λ y. refl; still = refl; index = refl }) }

    apply_4 : (x : Status) → is_begun x ≡ true → is_ended x ≡ false → at ≤ (tx i).rollback.ordinal.0 → Stages (putting s i (with_rollback (tx i) (apply_at (tx i).rollback x)))
    apply_4 x f g b = record { entries = set_rollback inv st i x f g b; mode = mode_put inv st i _ (record { change = refl; rollback = λ y. refl; still = refl; index = refl }) }

    abbrev NextChange : Type 0
    NextChange = ((tx i).change.commit ≡ Complete) × ((tx i).change.ordinal.0 ≡ suc at)

    abbrev NextRollback : Type 0
    NextRollback = ((tx i).rollback.commit ≡ Complete) × ((tx i).rollback.ordinal.0 ≡ suc at)

    aim_2 : (cut second : Bool) → NextChange → Does s Keeps false i cut second (job2.plans apply.Aim (tx i) s.applied.head (num i))
    aim_2 true second m = record { entries = st.entries; mode = st.mode }
    aim_2 false second m = record { entries = set_change inv st i InProgress refl refl (omega (arith, m.1)); mode = mode_put inv st i _ (record { change = refl; rollback = λ y. refl; still = refl; index = refl }) }

    abort_2 : (cut second : Bool) → NextChange → (tx i).change.apply ≡ Pending → settled s ≡ true
        → Does s Keeps false i cut second (job2.plans apply.Abort (tx i) s.applied.head (num i))
    abort_2 true second m e x = apply_2 Aborted refl refl (omega (arith, m.1))
    abort_2 false second m e x =
        let t = with_change (tx i) (apply_at (tx i).change Aborted) in
        let w : entry_of (put_entry s.log i t) i ≡ t = stored t in
        let k = apply_2 Aborted refl refl (omega (arith, m.1)) in
        record { entries = pass2 (jobs.abort_apply inv i m e x) k i (rw w m.0) _ m.1 (rw w m.1) (rw w refl); mode = k.mode }

    fail_2 : (cut second : Bool) → NextChange → (tx i).change.apply ≡ InProgress → Does s Keeps false i cut second (job2.plans apply.Fail (tx i) s.applied.head (num i))
    fail_2 true second m e = apply_2 Failed refl refl (omega (arith, m.1))
    fail_2 false second m e =
        let t = with_change (tx i) (apply_at (tx i).change Failed) in
        let w : entry_of (put_entry s.log i t) i ≡ t = stored t in
        let k = apply_2 Failed refl refl (omega (arith, m.1)) in
        record { entries = pass2 (jobs.fail_apply inv i m e) k i (rw w m.0) _ m.1 (rw w m.1) (rw w refl); mode = k.mode }

    pushed_2 : NextChange → (tx i).change.apply ≡ InProgress → Does s Keeps false i false true (job2.plans apply.Push (tx i) s.applied.head (num i))
    pushed_2 m e = record { entries = pass2 inv st i m.0 _ m.1 m.1 (ap change_touched e); mode = st.mode }

    push_2 : (first second : Bool) → NextChange → (tx i).change.apply ≡ InProgress
        → Does s Keeps false i first second (job2.plans apply.Push (tx i) s.applied.head (num i))
    push_2 true second m e = record { entries = st.entries; mode = st.mode }
    push_2 false true m e = pushed_2 m e
    push_2 false false m e =
        let j = jobs.push_apply inv i m _ e in
        let k = pushed_2 m e in
        record { entries = set_change j k i Complete refl refl (omega arith); mode = mode_put j k i _ (record { change = refl; rollback = λ y. refl; still = refl; index = refl }) }

    aim_4 : (cut second : Bool) → NextRollback → Does s Keeps false i cut second (job4.plans return.Aim (tx i) s.applied.head (num i))
    aim_4 true second m = record { entries = st.entries; mode = st.mode }
    aim_4 false second m = record { entries = set_rollback inv st i InProgress refl refl (omega (arith, m.1)); mode = mode_put inv st i _ (record { change = refl; rollback = λ y. refl; still = refl; index = refl }) }

    cancel_4 : (cut second : Bool) → NextRollback → (tx i).rollback.apply ≡ Pending → (tx i).change.apply ≡ Aborted → settled s ≡ true
        → Does s Keeps false i cut second (job4.plans return.Cancel (tx i) s.applied.head (num i))
    cancel_4 true second m e d x = apply_4 Canceled refl refl (omega (arith, m.1))
    cancel_4 false second m e d x =
        let t = with_rollback (tx i) (apply_at (tx i).rollback Canceled) in
        let w : entry_of (put_entry s.log i t) i ≡ t = stored t in
        let k = apply_4 Canceled refl refl (omega (arith, m.1)) in
        record { entries = pass4 (jobs.cancel_return inv i m e d x) k i (rw w m.0) _ m.1 (rw w m.1) (rw w refl); mode = k.mode }

    pushed_4 : NextRollback → (tx i).rollback.apply ≡ InProgress → Does s Keeps false i false true (job4.plans return.Push (tx i) s.applied.head (num i))
    pushed_4 m e = record { entries = pass4 inv st i m.0 _ m.1 m.1 (ap rollback_touched e); mode = st.mode }

    push_4 : (first second : Bool) → NextRollback → (tx i).rollback.apply ≡ InProgress
        → Does s Keeps false i first second (job4.plans return.Push (tx i) s.applied.head (num i))
    push_4 true second m e = record { entries = st.entries; mode = st.mode }
    push_4 false true m e = pushed_4 m e
    push_4 false false m e =
        let j = jobs.push_return inv i m _ e in
        let k = pushed_4 m e in
        record { entries = set_rollback j k i Complete refl refl (omega arith); mode = mode_put j k i _ (record { change = refl; rollback = λ y. refl; still = refl; index = refl }) }

  ask_stages : (i : ℕ) → may_roll_back (tx i) ≡ true → Stages (putting s i (rolled_back (tx i)))
  ask_stages i e =
      let u : (tx i).rollback.commit ≡ None = (inv.sides i).unasked (eqb-true (tx i).phase 1 (and_left (eqb (tx i).phase 1) _ e)) in
      record {
        entries = ask inv st i e (complete_is _ (and_right (eqb (tx i).phase 1) _ e));
        mode = mode_put inv st i _ (record { change = refl; rollback = λ x. absurd (x u); still = sym (ap done u); index = refl });
      }

  append_stages : (ps : List Pair) → Stages (with_log s (grown s.log (appended ps)))
  append_stages ps =
      record {
        entries = add_all (λ k u. EntryStage s.change.0 s.committed.head.revision.0 s.committed.head.ordinal.0 at k u) s.log (appended ps) st.entries (record {
          some = λ x. ((λ y. differ Pending None refl y), (λ y. differ Pending None refl y));
          waits = λ x. omega (arith, inv.committed.high);
          closing = λ x. differ Pending InProgress refl x;
          returned = λ x. differ None InProgress refl x;
          canceled = λ x. differ Pending Canceled refl x;
          sound = refl;
          asked = λ x. absurd (x refl);
          plain = λ x. omega arith;
          change = record { waits = λ x. differ Pending Complete refl x; goes = λ x. differ Pending InProgress refl x };
          rollback = record { waits = λ x. differ None Complete refl x; goes = λ x. differ None InProgress refl x };
        });
        mode = mode_add inv st (appended ps);
      }

  calls : {R : List Pair → Type 0} → Calls s Keeps R
  calls =
      record {
        refused = λ a n. st;
        append = λ ps e b. append_stages ps;
        rollback = λ i p q e. ask_stages i e;
        start = λ e. record { entries = st.entries; mode = st.mode };
        stop = record { entries = st.entries; mode = st.mode };
        connect = λ n p e. record { entries = st.entries; mode = st.mode };
        disconnect = λ n. record { entries = st.entries; mode = st.mode };
        elect = λ n b t e. record { entries = st.entries; mode = st.mode };
        resign = record { entries = st.entries; mode = st.mode };
        syncing = record { entries = st.entries; mode = st.mode };
        synced = record { entries = st.entries; mode = st.mode };
        job1 = λ i p q cut second. record {
          wait = st;
          full = λ a b d. st;
          begin = begin_1 i p q;
          aim = aim_1 i p q cut second;
          land = λ e n b o x. land_1 i p q cut second e n o x;
          reject = reject_1 i p q cut second;
          finish = finish_1 i p q;
          close = close_1 i p q;
        };
        job2 = λ n i p q cut second. record {
          wait = st;
          no_line = st;
          begin = λ m e g. apply_2 i p q InProgress refl refl (omega (arith, m.1));
          aim = λ m e x r. aim_2 i p q cut second m;
          abort = λ m e x g. abort_2 i p q cut second m e x;
          close_aborted = λ m e. record { entries = pass2 inv st i m.0 _ m.1 m.1 (ap change_touched e); mode = st.mode };
          close_failed = λ m e. record { entries = pass2 inv st i m.0 _ m.1 m.1 (ap change_touched e); mode = st.mode };
          finish = λ m e o. apply_2 i p q Complete refl refl (omega arith);
          fail = fail_2 i p q cut second;
          push = λ m e l. push_2 i p q cut second m e;
        };
        job3 = λ i p q cut second. record {
          wait = st;
          full = λ a b d. st;
          begin = begin_3 i p q;
          aim = aim_3 i p q cut second;
          land = λ e n b o x. land_3 i p q cut second e n o x;
          finish = λ e d n. finish_3 i p q e d;
        };
        job4 = λ n i p q cut second. record {
          wait = st;
          no_line = st;
          rejected = st;
          begin = λ m e t g. apply_4 i p q InProgress refl refl (omega (arith, m.1));
          aim = λ m e t x. aim_4 i p q cut second m;
          cancel = cancel_4 i p q cut second;
          close = λ m e. record { entries = pass4 inv st i m.0 _ m.1 m.1 (ap rollback_touched e); mode = st.mode };
          finish = λ m e o. apply_4 i p q Complete refl refl (omega arith);
          push = λ m e l. push_4 i p q cut second m e;
        };
      }

-- after any calls from fresh
pub staged : (m : Bool) (cs : List Call) → Stages (whole m cs)
unfolding run whole
staged m [] =
    record {
      entries = none_all (λ k u. EntryStage 0 0 0 0 k u) (λ k. record {
        some = λ x. absurd (omega arith);
        waits = λ x. differ None Pending refl x;
        closing = λ x. differ None InProgress refl x;
        returned = λ x. differ None InProgress refl x;
        canceled = λ x. differ None Canceled refl x;
        sound = refl;
        asked = λ x. absurd (x refl);
        plain = λ x. omega arith;
        change = record { waits = λ x. differ None Complete refl x; goes = λ x. differ None InProgress refl x };
        rollback = record { waits = λ x. differ None Complete refl x; goes = λ x. differ None InProgress refl x };
      });
      mode = rests refl;
    }
staged m (c ∷ cs) =
    let r = reached m cs in
    by_history m cs (Keeps (whole m cs) (run m cs).events r.bad r.inv (staged m cs)) (λ a. staged m cs) c
    (calls (whole m cs) (run m cs).events r.bad r.inv (staged m cs))

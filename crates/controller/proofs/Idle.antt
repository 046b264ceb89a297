-- An entry of which nothing is left: each of its jobs answers 11, and so it does after any further jobs. In any state, reached
-- or not. Assumes nothing.
use Prim.Native.Nat.{ℕ, ◌+◌, ◌≤◌}
use native.Mathlib.Omega.{arith}
use mathlib.Core.Path.{◌≡◌, refl, ap, sym, ◌∙◌, subst}
use mathlib.Core.Bool.{Bool, true, false, ◌&&◌, cond, true≢false}
use lib.Dec.{eqb, leb}
use borrow.Author.Tests.{eqb-true, eqb-false, ne_eqb, le-leb, leb-true}
use Rattle.kinds.specs.declared.Transaction.{Transaction}
use Rattle.kinds.specs.declared.Status.{Status}
use Rattle.kinds.specs.declared.Status.TheVariants.{None, Pending, InProgress, Complete, Aborted, Canceled, Failed}
use Rattle.kinds.specs.Numbers.{num, follows, next_ordinal}
use Rattle.kinds.specs.Statuses.{is_complete}
use Rattle.rules.specs.declared.Plan.{Plan}
use Rattle.rules.specs.declared.Present.{Present}
use Rattle.rules.specs.declared.Order.{Order}
use Rattle.rules.specs.declared.Order.TheVariants.{Neither, EntryOnly, HeadOnly, EntryThenHead, HeadThenEntry, TargetThenHeadThenEntry}
use Rattle.rules.specs.declared.ApplyChangeRule.TheVariants as apply
use Rattle.rules.specs.declared.ApplyRollbackRule.TheVariants as return
use Rattle.rules.specs.CommitChange as job1
use Rattle.rules.specs.CommitRollback as job3
use Rattle.rules.specs.ApplyChange as job2
use Rattle.rules.specs.ApplyRollback as job4
use Rattle.machine.specs.State.{State, Log, entry_of, put_entry, line_open_for}
use Rattle.machine.specs.Settled.{settled}
use Rattle.machine.specs.Rest.{rest_of}
use Rattle.machine.specs.Calls.{work, plan_of, present_of, commits}
use Rattle.machine.specs.Step.{step}
use Rattle.machine.proofs.Next.{performed, performed_by}
use Rattle.machine.proofs.Entries.{and_both, put_all}
use Rattle.machine.proofs.Onward.{Onward, onward}
use Rattle.machine.proofs.Worked.{Worked, worked}
use Rattle.image.proofs.UpTo.{and_left, and_right}
use Rattle.controller.specs.Nights.{stands, idle, idle_in}

-- ---- what it says
pub record Idle (c a i : ℕ) (t : Transaction) : Type 0 where
  pub commit : stands t.change.commit ≡ true
  pub apply : stands t.change.apply ≡ true
  pub undo : stands t.rollback.commit ≡ true
  pub back : stands t.rollback.apply ≡ true
  pub number : i ≤ c
  pub change : t.change.ordinal.0 ≤ a
  pub rollback : t.rollback.ordinal.0 ≤ a

module _ (c a i : ℕ) (t : Transaction) where
  abbrev changed : Bool
  changed = stands t.change.commit && stands t.change.apply

  abbrev undone : Bool
  undone = stands t.rollback.commit && stands t.rollback.apply

  abbrev passed : Bool
  passed = leb t.change.ordinal.0 a && leb t.rollback.ordinal.0 a

  pub told_idle : idle c a i t ≡ true → Idle c a i t
  unfolding idle
  told_idle e =
      let f : (changed && undone) ≡ true = and_left (changed && undone) (leb i c && passed) e in
      let g : (leb i c && passed) ≡ true = and_right (changed && undone) (leb i c && passed) e in
      let x : changed ≡ true = and_left changed undone f in
      let y : undone ≡ true = and_right changed undone f in
      let z : passed ≡ true = and_right (leb i c) passed g in
      record {
        commit = and_left (stands t.change.commit) _ x;
        apply = and_right (stands t.change.commit) _ x;
        undo = and_left (stands t.rollback.commit) _ y;
        back = and_right (stands t.rollback.commit) _ y;
        number = leb-true i c (and_left (leb i c) passed g);
        change = leb-true _ a (and_left (leb t.change.ordinal.0 a) _ z);
        rollback = leb-true _ a (and_right (leb t.change.ordinal.0 a) _ z);
      }

  pub idle_tells : Idle c a i t → idle c a i t ≡ true
  unfolding idle
  idle_tells x =
      and_both (changed && undone) _ (and_both changed undone (and_both _ _ x.commit x.apply) (and_both _ _ x.undo x.back))
      (and_both (leb i c) passed (le-leb i c x.number) (and_both _ _ (le-leb _ a x.change) (le-leb _ a x.rollback)))

-- ---- every job answers 11
not_next : (a b : ℕ) → b ≤ a → follows a b ≡ false
not_next a b p = ne_eqb (a + 1) b (λ z. omega arith)

module _ (s : State) (n i : ℕ) (x : Idle s.change.0 s.applied.head.ordinal.0 i (entry_of s.log i)) where
  abbrev t : Transaction
  t = entry_of s.log i

  waits_1 : (ok : Bool) (vs : Present)
      → (job1.commit_change t s.committed.head s.change (rest_of s) (num i) ok vs).answer ≡ 11
  waits_1 ok vs = go t.change.commit x.commit
    where
      go : (u : Status) → stands u ≡ true
          → (job1.plans (job1.rule u (job1.tests s.committed.head s.change (rest_of s) (num i) ok)) t s.committed.head (num i) (next_ordinal s.committed.head.ordinal) vs).answer ≡ 11
      go None e = refl
      go Pending e = absurd (true≢false (sym e))
      go InProgress e = absurd (true≢false (sym e))
      go Complete e = refl
      go Aborted e = refl
      go Canceled e = refl
      go Failed e = rw (not_next s.change.0 i x.number)

  waits_2 : (q o ok : Bool) → (job2.apply_change t s.applied.head q (num i) o ok).answer ≡ 11
  waits_2 q o ok = go (is_complete t.change.commit) t.change.apply x.apply
    where
      go : (b : Bool) (u : Status) → stands u ≡ true
          → (job2.plans (cond b (job2.rule_by u (job2.tests t s.applied.head q (num i) o ok)) apply.Wait) t s.applied.head (num i)).answer ≡ 11
      go false u e = refl
      go true None e = refl
      go true Pending e = absurd (true≢false (sym e))
      go true InProgress e = absurd (true≢false (sym e))
      go true Complete e = refl
      go true Aborted e = rw (not_next s.applied.head.ordinal.0 t.change.ordinal.0 x.change)
      go true Canceled e = refl
      go true Failed e = rw (not_next s.applied.head.ordinal.0 t.change.ordinal.0 x.change)

  waits_3 : (job3.commit_rollback t s.committed.head (rest_of s) (num i)).answer ≡ 11
  waits_3 = go t.rollback.commit x.undo
    where
      go : (u : Status) → stands u ≡ true
          → (job3.plans (job3.rule u (job3.tests s.committed.head t.index (rest_of s) (num i))) t s.committed.head (num i) (next_ordinal s.committed.head.ordinal)).answer ≡ 11
      go None e = refl
      go Pending e = absurd (true≢false (sym e))
      go InProgress e = absurd (true≢false (sym e))
      go Complete e = refl
      go Aborted e = refl
      go Canceled e = refl
      go Failed e = refl

  waits_4 : (q o ok : Bool) → (job4.apply_rollback t s.applied.head q (num i) o ok).answer ≡ 11
  waits_4 q o ok = go (is_complete t.rollback.commit) t.rollback.apply x.back
    where
      go : (b : Bool) (u : Status) → stands u ≡ true
          → (job4.plans (cond b (job4.rule_by u (job4.tests t s.applied.head q o ok)) return.Wait) t s.applied.head (num i)).answer ≡ 11
      go false u e = refl
      go true None e = refl
      go true Pending e = absurd (true≢false (sym e))
      go true InProgress e = absurd (true≢false (sym e))
      go true Complete e = refl
      go true Aborted e = refl
      go true Canceled e = rw (not_next s.applied.head.ordinal.0 t.rollback.ordinal.0 x.rollback)
      go true Failed e = refl

  pub idle_waits : (j : ℕ) (ok : Bool) → (plan_of s n j i ok).answer ≡ 11
  unfolding plan_of
  idle_waits j ok = go (eqb j 1) (eqb j 2) (eqb j 3)
    where
      go : (a b d : Bool)
          → (cond a (job1.commit_change t s.committed.head s.change (rest_of s) (num i) ok (present_of s t))
          (cond b (job2.apply_change t s.applied.head (settled s) (num i) (line_open_for s.net n) ok)
          (cond d (job3.commit_rollback t s.committed.head (rest_of s) (num i)) (job4.apply_rollback t s.applied.head (settled s) (num i) (line_open_for s.net n) ok)))).answer ≡ 11
      go true b d = waits_1 ok (present_of s t)
      go false true d = waits_2 (settled s) (line_open_for s.net n) ok
      go false false true = waits_3
      go false false false = waits_4 (settled s) (line_open_for s.net n) ok

-- ---- and stays so
-- a plan's stores touch no other entry, and fold nothing
put_other : (l : Log) (i : ℕ) (t : Transaction) (k : ℕ) → (k ≡ i → ⊥) → entry_of (put_entry l i t) k ≡ entry_of l k
put_other l i t k = put_all (λ (m : ℕ) (u : Transaction). (m ≡ i → ⊥) → u ≡ entry_of l m) l i t (λ m z. refl) (λ z. absurd (z refl)) k

pub record Beside (s next : State) (i : ℕ) : Type 0 where
  pub entry : (k : ℕ) → (k ≡ i → ⊥) → entry_of next.log k ≡ entry_of s.log k
  pub folded : next.log.folded ≡ s.log.folded

beside : (o : Order) (b : Bool) (s : State) (p : Plan) (i : ℕ) (first second : Bool) → Beside s (performed_by o b s p i first second) i
beside Neither b s p i first second = record { entry = λ k z. refl; folded = refl }
beside EntryOnly b s p i first second = record { entry = put_other s.log i p.entry; folded = refl }
beside HeadOnly true s p i first second = record { entry = λ k z. refl; folded = refl }
beside HeadOnly false s p i first second = record { entry = λ k z. refl; folded = refl }
beside EntryThenHead b s p i true second = record { entry = put_other s.log i p.entry; folded = refl }
beside EntryThenHead true s p i false second = record { entry = put_other s.log i p.entry; folded = refl }
beside EntryThenHead false s p i false second = record { entry = put_other s.log i p.entry; folded = refl }
beside HeadThenEntry true s p i true second = record { entry = λ k z. refl; folded = refl }
beside HeadThenEntry false s p i true second = record { entry = λ k z. refl; folded = refl }
beside HeadThenEntry true s p i false second = record { entry = put_other s.log i p.entry; folded = refl }
beside HeadThenEntry false s p i false second = record { entry = put_other s.log i p.entry; folded = refl }
beside TargetThenHeadThenEntry b s p i true second = record { entry = λ k z. refl; folded = refl }
beside TargetThenHeadThenEntry true s p i false true = record { entry = λ k z. refl; folded = refl }
beside TargetThenHeadThenEntry false s p i false true = record { entry = λ k z. refl; folded = refl }
beside TargetThenHeadThenEntry true s p i false false = record { entry = put_other s.log i p.entry; folded = refl }
beside TargetThenHeadThenEntry false s p i false false = record { entry = put_other s.log i p.entry; folded = refl }

module _ (s : State) (n j i r c : ℕ) (e : (step s (work n j i r c)).reply.answer ≡ 0) where
  made : Worked s n j i r c
  made = worked s n j i r c e

  abbrev p : Plan
  p = plan_of s n j i (eqb r 0)

  abbrev then : State
  then = performed (commits j) s p i (eqb c 1) (eqb c 2)

  on : Onward s then
  on = onward s i n j (eqb r 0) (eqb c 1) (eqb c 2)

  by : Beside s then i
  by = beside p.order (commits j) s p i (eqb c 1) (eqb c 2)

  pub folds_nothing : (step s (work n j i r c)).next.log.folded ≡ s.log.folded
  folds_nothing = ap (λ (u : State). u.log.folded) made.next ∙ by.folded

  stays : (k : ℕ) → Idle s.change.0 s.applied.head.ordinal.0 k (entry_of s.log k) → (b : Bool) → eqb k i ≡ b
      → Idle then.change.0 then.applied.head.ordinal.0 k (entry_of then.log k)
  stays k x true f =
      let z : k ≡ i = eqb-true k i f in
      let y : (plan_of s n j k (eqb r 0)).answer ≡ 0 = ap (λ (m : ℕ). (plan_of s n j m (eqb r 0)).answer) z ∙ made.plan in
      absurd (omega (arith, y, idle_waits s n k x j (eqb r 0)))
  stays k x false f =
      let q : entry_of then.log k ≡ entry_of s.log k = by.entry k (eqb-false k i f) in
      subst (λ (u : Transaction). Idle then.change.0 then.applied.head.ordinal.0 k u) (sym q)
      (record {
        commit = x.commit;
        apply = x.apply;
        undo = x.undo;
        back = x.back;
        number = omega (arith, x.number, on.change);
        change = omega (arith, x.change, on.ordinal);
        rollback = omega (arith, x.rollback, on.ordinal);
      })

  -- no further job makes it move
  pub idle_stays : (k : ℕ) → idle_in s k ≡ true → idle_in (step s (work n j i r c)).next k ≡ true
  idle_stays k x =
      ap (λ (u : State). idle_in u k) made.next
      ∙ idle_tells then.change.0 then.applied.head.ordinal.0 k (entry_of then.log k)
      (stays k (told_idle s.change.0 s.applied.head.ordinal.0 k (entry_of s.log k) x) (eqb k i) refl)

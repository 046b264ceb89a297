-- What the answer 11 tells of a job: no rule's tests hold. The mirror of Cases, read from the answer. And 11 does not
-- depend on the outcome, so a reason is given exactly when the job answers 11 (order 4). Assumes nothing.
use Prim.Native.Nat.{ℕ, suc, ◌+◌, ◌≤◌, ◌<◌}
use native.Mathlib.Omega.{arith}
use mathlib.Core.Bool.{Bool, true, false, ◌&&◌, ◌||◌, cond}
use mathlib.Core.Path.{◌≡◌, refl, sym, ap, ◌∙◌}
use lib.Dec.{eqb, ltb, leb}
use borrow.Author.Tests.{eqb-true, eqb-false, eq-eqb, le-leb, ltb-false}
use Rattle.kinds.specs.declared.Transaction.{Transaction}
use Rattle.kinds.specs.declared.Head.{Head}
use Rattle.kinds.specs.declared.Number.{Number}
use Rattle.kinds.specs.declared.Status.{Status}
use Rattle.kinds.specs.declared.Status.TheVariants.{None, Pending, InProgress, Complete, Aborted, Canceled, Failed}
use Rattle.kinds.specs.Numbers.{num, follows, is_full, next_ordinal}
use Rattle.kinds.specs.Statuses.{is_complete}
use Rattle.rules.specs.declared.Plan.{Plan}
use Rattle.rules.specs.declared.Present.{Present}
use Rattle.rules.specs.declared.CommitTests.{CommitTests}
use Rattle.rules.specs.declared.ApplyChangeTests.{ApplyChangeTests}
use Rattle.rules.specs.declared.ApplyChangeRule.TheVariants.{Finish, Fail, Push, NoLine, Wait}
use Rattle.rules.specs.declared.ApplyChangeRule.TheVariants as apply
use Rattle.rules.specs.declared.ApplyRollbackTests.{ApplyRollbackTests}
use Rattle.rules.specs.declared.ApplyRollbackRule.TheVariants as return
use Rattle.rules.specs.CommitChange as job1
use Rattle.rules.specs.CommitRollback as job3
use Rattle.rules.specs.ApplyChange as job2
use Rattle.rules.specs.ApplyRollback as job4
use Rattle.machine.specs.State.{State, entry_of, in_log, is_kept, is_node, is_master, line_open_for}
use Rattle.machine.specs.WellFormed.{well_formed}
use Rattle.machine.specs.Settled.{settled}
use Rattle.machine.specs.Calls as calls
use Rattle.machine.specs.Rest.{rest_of}
use Rattle.machine.specs.Calls.{work, unless, planned, present_of, plan_of, decide}
use Rattle.machine.specs.Step.{outcome, step}
use Rattle.machine.proofs.Cases.{commit_change_holds, commit_rollback_holds, apply_change_holds, apply_rollback_holds}
use Rattle.machine.specs.Why.{reason, named, why_not, why, asks}

-- b follows a
pub one_after : (a b : ℕ) → b ≡ suc a → follows a b ≡ true
one_after a b e = eq-eqb (a + 1) b (omega arith)

module _ (t : Transaction) (h : Head) (i : ℕ) where
  -- ---- job 1
  module _ (c : Number) (rest : Bool) (present : Present) (y : Bool) (e : (job1.commit_change t h c rest (num i) y present).answer ≡ 11) where
    pub record Waits1 : Type 0 where
      pub pending : t.change.commit ≡ Pending → i ≡ suc c.0 → (h.target.0 ≡ i → ⊥) × (rest ≡ true → ⊥)
      pub begun : t.change.commit ≡ InProgress → (i ≡ suc c.0 → ⊥) × (c.0 ≡ i → ⊥)
      pub failed : t.change.commit ≡ Failed → i ≡ suc c.0 → ⊥

    pub waits1 : Waits1
    waits1 = record { pending = λ p q. (aimed p q, rests p q (eqb h.target.0 i) refl); begun = λ p. ((λ q. lands p q y refl (is_full h.ordinal.0) refl), finishes p (follows c.0 i) refl); failed = closes }
      where
        aimed : t.change.commit ≡ Pending → i ≡ suc c.0 → h.target.0 ≡ i → ⊥
        aimed p q g = let z : ◌≡◌ {A = ℕ} 0 11 = rw (p, one_after c.0 i q, eq-eqb h.target.0 i g) at e in omega arith

        rests : t.change.commit ≡ Pending → i ≡ suc c.0 → (b : Bool) → eqb h.target.0 i ≡ b → rest ≡ true → ⊥
        rests p q true g r = aimed p q (eqb-true _ _ g)
        rests p q false g r = let z : ◌≡◌ {A = ℕ} 0 11 = rw (p, one_after c.0 i q, g, r) at e in omega arith

        lands : t.change.commit ≡ InProgress → i ≡ suc c.0 → (a : Bool) → y ≡ a → (f : Bool) → is_full h.ordinal.0 ≡ f → ⊥
        lands p q true a true f = let z : ◌≡◌ {A = ℕ} 9 11 = rw (p, one_after c.0 i q, a, f) at e in omega arith
        lands p q true a false f = let z : ◌≡◌ {A = ℕ} 0 11 = rw (p, one_after c.0 i q, a, f) at e in omega arith
        lands p q false a f g = let z : ◌≡◌ {A = ℕ} 0 11 = rw (p, one_after c.0 i q, a) at e in omega arith

        finishes : t.change.commit ≡ InProgress → (b : Bool) → follows c.0 i ≡ b → c.0 ≡ i → ⊥
        finishes p true q g = omega (arith, eqb-true (c.0 + 1) i q)
        finishes p false q g = let z : ◌≡◌ {A = ℕ} 0 11 = rw (p, q, eq-eqb c.0 i g) at e in omega arith

        closes : t.change.commit ≡ Failed → i ≡ suc c.0 → ⊥
        closes p q = let z : ◌≡◌ {A = ℕ} 0 11 = rw (p, one_after c.0 i q) at e in omega arith

  -- ---- job 3
  module _ (rest : Bool) (e : (job3.commit_rollback t h rest (num i)).answer ≡ 11) where
    pub record Waits3 : Type 0 where
      pub pending : t.rollback.commit ≡ Pending → h.revision.0 ≡ i → (h.target.0 ≡ t.index.0 → ⊥) × (rest ≡ true → ⊥)
      pub begun : t.rollback.commit ≡ InProgress → (h.revision.0 ≡ i → ⊥) × (h.revision.0 ≡ t.index.0 → ⊥)

    pub waits3 : Waits3
    waits3 = record { pending = λ p q. (aimed p q, rests p q (eqb h.target.0 t.index.0) refl); begun = λ p. ((λ q. lands p q (is_full h.ordinal.0) refl), finishes p (eqb h.revision.0 i) refl) }
      where
        aimed : t.rollback.commit ≡ Pending → h.revision.0 ≡ i → h.target.0 ≡ t.index.0 → ⊥
        aimed p q g = let z : ◌≡◌ {A = ℕ} 0 11 = rw (p, eq-eqb h.revision.0 i q, eq-eqb h.target.0 t.index.0 g) at e in omega arith

        rests : t.rollback.commit ≡ Pending → h.revision.0 ≡ i → (b : Bool) → eqb h.target.0 t.index.0 ≡ b → rest ≡ true → ⊥
        rests p q true g r = aimed p q (eqb-true _ _ g)
        rests p q false g r = let z : ◌≡◌ {A = ℕ} 0 11 = rw (p, eq-eqb h.revision.0 i q, g, r) at e in omega arith

        lands : t.rollback.commit ≡ InProgress → h.revision.0 ≡ i → (f : Bool) → is_full h.ordinal.0 ≡ f → ⊥
        lands p q true f = let z : ◌≡◌ {A = ℕ} 9 11 = rw (p, eq-eqb h.revision.0 i q, f) at e in omega arith
        lands p q false f = let z : ◌≡◌ {A = ℕ} 0 11 = rw (p, eq-eqb h.revision.0 i q, f) at e in omega arith

        finishes : t.rollback.commit ≡ InProgress → (b : Bool) → eqb h.revision.0 i ≡ b → h.revision.0 ≡ t.index.0 → ⊥
        finishes p true q g = lands p (eqb-true _ _ q) (is_full h.ordinal.0) refl
        finishes p false q g = let z : ◌≡◌ {A = ℕ} 0 11 = rw (p, q, eq-eqb h.revision.0 t.index.0 g) at e in omega arith

  module _ (settled line y : Bool) where
    -- ---- job 2, of a change that is committed
    module _ (m : t.change.commit ≡ Complete) (e : (job2.apply_change t h settled (num i) line y).answer ≡ 11) where
      pub record Waits2 : Type 0 where
        pub pending : t.change.apply ≡ Pending → t.change.ordinal.0 ≡ suc h.ordinal.0 → settled ≡ true → t.index.0 < h.revision.0
        pub begun : t.change.apply ≡ InProgress → (t.change.ordinal.0 ≡ suc h.ordinal.0 → ⊥) × (1 ≤ t.change.ordinal.0 → h.ordinal.0 ≡ t.change.ordinal.0 → ⊥)
        pub aborted : t.change.apply ≡ Aborted → t.change.ordinal.0 ≡ suc h.ordinal.0 → ⊥
        pub failed : t.change.apply ≡ Failed → t.change.ordinal.0 ≡ suc h.ordinal.0 → ⊥

      pub waits2 : Waits2
      waits2 = record { pending = λ p q s. begins p q s (eqb h.target.0 i) refl (is_complete t.rollback.commit) refl (ltb h.revision.0 t.index.0) refl (eqb h.revision.0 t.index.0) refl; begun = λ p. (goes p, finishes p); aborted = close_aborted; failed = close_failed }
        where
          begins : t.change.apply ≡ Pending → t.change.ordinal.0 ≡ suc h.ordinal.0 → settled ≡ true → (b : Bool) → eqb h.target.0 i ≡ b
              → (u : Bool)
              → is_complete t.rollback.commit ≡ u
              → (l : Bool)
              → ltb h.revision.0 t.index.0 ≡ l
              → (v : Bool)
              → eqb h.revision.0 t.index.0 ≡ v
              → t.index.0 < h.revision.0
          begins p q s true b u x l z v w = let z : ◌≡◌ {A = ℕ} 0 11 = rw (m, p, one_after h.ordinal.0 t.change.ordinal.0 q, b) at e in absurd (omega arith)
          begins p q s false b true x l z v w = let z : ◌≡◌ {A = ℕ} 0 11 = rw (m, p, one_after h.ordinal.0 t.change.ordinal.0 q, b, s, x) at e in absurd (omega arith)
          begins p q s false b false x true z v w = let z : ◌≡◌ {A = ℕ} 0 11 = rw (m, p, one_after h.ordinal.0 t.change.ordinal.0 q, b, s, x, z) at e in absurd (omega arith)
          begins p q s false b false x false z true w = let z : ◌≡◌ {A = ℕ} 0 11 = rw (m, p, one_after h.ordinal.0 t.change.ordinal.0 q, b, s, x, z, w) at e in absurd (omega arith)
          begins p q s false b false x false z false w = omega (arith, ltb-false h.revision.0 t.index.0 z, eqb-false h.revision.0 t.index.0 w)

          finishes : t.change.apply ≡ InProgress → 1 ≤ t.change.ordinal.0 → h.ordinal.0 ≡ t.change.ordinal.0 → ⊥
          finishes p q g = let z : ◌≡◌ {A = ℕ} 0 11 = rw (m, p, le-leb 1 t.change.ordinal.0 q, eq-eqb h.ordinal.0 t.change.ordinal.0 g) at e in omega arith

          goes : t.change.apply ≡ InProgress → t.change.ordinal.0 ≡ suc h.ordinal.0 → ⊥
          goes p q = go (job2.reached h.ordinal t.change.ordinal) refl (is_complete t.rollback.commit) refl line refl y refl
            where
              go : (d : Bool) → job2.reached h.ordinal t.change.ordinal ≡ d → (u : Bool) → is_complete t.rollback.commit ≡ u → (l : Bool) → line ≡ l → (a : Bool) → y ≡ a → ⊥
              go true d u x l z a w = let z : ◌≡◌ {A = ℕ} 0 11 = rw (m, p, d) at e in omega arith
              go false d true x l z a w = let z : ◌≡◌ {A = ℕ} 0 11 = rw (m, p, d, one_after h.ordinal.0 t.change.ordinal.0 q, x) at e in omega arith
              go false d false x false z a w = let z : ◌≡◌ {A = ℕ} 12 11 = rw (m, p, d, one_after h.ordinal.0 t.change.ordinal.0 q, x, z) at e in omega arith
              go false d false x true z true w = let z : ◌≡◌ {A = ℕ} 0 11 = rw (m, p, d, one_after h.ordinal.0 t.change.ordinal.0 q, x, z, w) at e in omega arith
              go false d false x true z false w = let z : ◌≡◌ {A = ℕ} 0 11 = rw (m, p, d, one_after h.ordinal.0 t.change.ordinal.0 q, x, z, w) at e in omega arith

          close_aborted : t.change.apply ≡ Aborted → t.change.ordinal.0 ≡ suc h.ordinal.0 → ⊥
          close_aborted p q = let z : ◌≡◌ {A = ℕ} 0 11 = rw (m, p, one_after h.ordinal.0 t.change.ordinal.0 q) at e in omega arith

          close_failed : t.change.apply ≡ Failed → t.change.ordinal.0 ≡ suc h.ordinal.0 → ⊥
          close_failed p q = let z : ◌≡◌ {A = ℕ} 0 11 = rw (m, p, one_after h.ordinal.0 t.change.ordinal.0 q) at e in omega arith

    -- ---- job 4, of a rollback that is committed
    module _ (m : t.rollback.commit ≡ Complete) (e : (job4.apply_rollback t h settled (num i) line y).answer ≡ 11) where
      pub record Waits4 : Type 0 where
        pub tried : t.rollback.apply ≡ Pending → t.rollback.ordinal.0 ≡ suc h.ordinal.0 → job4.was_tried t.change.apply ≡ true → settled ≡ true → ⊥
        pub aborted : t.rollback.apply ≡ Pending → t.rollback.ordinal.0 ≡ suc h.ordinal.0 → t.change.apply ≡ Aborted → settled ≡ true → ⊥
        pub begun : t.rollback.apply ≡ InProgress → (t.rollback.ordinal.0 ≡ suc h.ordinal.0 → ⊥) × (1 ≤ t.rollback.ordinal.0 → h.ordinal.0 ≡ t.rollback.ordinal.0 → ⊥)
        pub canceled : t.rollback.apply ≡ Canceled → t.rollback.ordinal.0 ≡ suc h.ordinal.0 → ⊥

      pub waits4 : Waits4
      waits4 = record { tried = λ p q w s. begins p q w s (eqb h.target.0 t.index.0) refl; aborted = cancels; begun = λ p. (goes p, finishes p); canceled = closes }
        where
          begins : t.rollback.apply ≡ Pending → t.rollback.ordinal.0 ≡ suc h.ordinal.0 → job4.was_tried t.change.apply ≡ true → settled ≡ true
              → (b : Bool)
              → eqb h.target.0 t.index.0 ≡ b
              → ⊥
          begins p q w s true b = let z : ◌≡◌ {A = ℕ} 0 11 = rw (m, p, one_after h.ordinal.0 t.rollback.ordinal.0 q, w, b) at e in omega arith
          begins p q w s false b = let z : ◌≡◌ {A = ℕ} 0 11 = rw (m, p, one_after h.ordinal.0 t.rollback.ordinal.0 q, w, b, s) at e in omega arith

          cancels : t.rollback.apply ≡ Pending → t.rollback.ordinal.0 ≡ suc h.ordinal.0 → t.change.apply ≡ Aborted → settled ≡ true → ⊥
          cancels p q w s = let z : ◌≡◌ {A = ℕ} 0 11 = rw (m, p, one_after h.ordinal.0 t.rollback.ordinal.0 q, w, s) at e in omega arith

          finishes : t.rollback.apply ≡ InProgress → 1 ≤ t.rollback.ordinal.0 → h.ordinal.0 ≡ t.rollback.ordinal.0 → ⊥
          finishes p q g = let z : ◌≡◌ {A = ℕ} 0 11 = rw (m, p, le-leb 1 t.rollback.ordinal.0 q, eq-eqb h.ordinal.0 t.rollback.ordinal.0 g) at e in omega arith

          goes : t.rollback.apply ≡ InProgress → t.rollback.ordinal.0 ≡ suc h.ordinal.0 → ⊥
          goes p q = go (job2.reached h.ordinal t.rollback.ordinal) refl line refl y refl
            where
              go : (d : Bool) → job2.reached h.ordinal t.rollback.ordinal ≡ d → (l : Bool) → line ≡ l → (a : Bool) → y ≡ a → ⊥
              go true d l z a w = let z : ◌≡◌ {A = ℕ} 0 11 = rw (m, p, d) at e in omega arith
              go false d false z a w = let z : ◌≡◌ {A = ℕ} 12 11 = rw (m, p, d, one_after h.ordinal.0 t.rollback.ordinal.0 q, z) at e in omega arith
              go false d true z true w = let z : ◌≡◌ {A = ℕ} 0 11 = rw (m, p, d, one_after h.ordinal.0 t.rollback.ordinal.0 q, z, w) at e in omega arith
              go false d true z false w = let z : ◌≡◌ {A = ℕ} 13 11 = rw (m, p, d, one_after h.ordinal.0 t.rollback.ordinal.0 q, z, w) at e in omega arith

          closes : t.rollback.apply ≡ Canceled → t.rollback.ordinal.0 ≡ suc h.ordinal.0 → ⊥
          closes p q = let z : ◌≡◌ {A = ℕ} 0 11 = rw (m, p, one_after h.ordinal.0 t.rollback.ordinal.0 q) at e in omega arith

-- ---- 11 whatever the outcome
module _ (s : State) (n i : ℕ) where
  abbrev eleven : Plan → Bool
  eleven p = eqb p.answer 11

  same1 : (y : Bool) → eleven (calls.job1 s i y) ≡ eleven (calls.job1 s i false)
  same1 y = go (entry_of s.log i).change.commit (follows s.change.0 i) y (is_full s.committed.head.ordinal.0)
    where
      go : (x : Status) (n y f : Bool)
          → (let t = entry_of s.log i in
          let h = s.committed.head in
          let a : CommitTests = job1.tests h s.change (rest_of s) (num i) y in
          let at : Bool → CommitTests = λ y. record { ready = n; aimed = a.aimed; rest = a.rest; accepted = y; full = f; landed = a.landed } in
          let answers : Bool → Bool = λ y. eleven (job1.plans (job1.rule x (at y)) t h (num i) (next_ordinal h.ordinal) (present_of s t)) in
          answers y ≡ answers false)
      go None n y f = refl
      go Pending n y f = refl
      go InProgress true true true = refl
      go InProgress true true false = refl
      go InProgress true false f = refl
      go InProgress false y f = refl
      go Complete n y f = refl
      go Aborted n y f = refl
      go Canceled n y f = refl
      go Failed n y f = refl

  same2 : (y : Bool) → eleven (calls.job2 s n i y) ≡ eleven (calls.job2 s n i false)
  same2 y = all (is_complete (entry_of s.log i).change.commit) (entry_of s.log i).change.apply
    where
      t : Transaction
      t = entry_of s.log i

      a : Bool → ApplyChangeTests
      a y = job2.tests t s.applied.head (settled s) (num i) (line_open_for s.net n) y

      begun : (d n u l y : Bool)
          → eleven (job2.plans (cond d Finish (cond n (cond u Fail (cond l (cond y Push Fail) NoLine)) Wait)) t s.applied.head (num i))
          ≡ eleven (job2.plans (cond d Finish (cond n (cond u Fail (cond l Fail NoLine)) Wait)) t s.applied.head (num i))
      begun true n u l y = refl
      begun false false u l y = refl
      begun false true true l y = refl
      begun false true false false y = refl
      begun false true false true true = refl
      begun false true false true false = refl

      all : (m : Bool) (x : Status)
          → eleven (job2.plans (cond m (job2.rule_by x (a y)) Wait) t s.applied.head (num i)) ≡ eleven (job2.plans (cond m (job2.rule_by x (a false)) Wait) t s.applied.head (num i))
      all false x = refl
      all true InProgress = begun (a y).landed (a y).next (a y).undone (a y).line y
      all true None = refl
      all true Pending = refl
      all true Complete = refl
      all true Aborted = refl
      all true Canceled = refl
      all true Failed = refl

  same4 : (y : Bool) → eleven (calls.job4 s n i y) ≡ eleven (calls.job4 s n i false)
  same4 y = all (is_complete (entry_of s.log i).rollback.commit) (entry_of s.log i).rollback.apply
    where
      t : Transaction
      t = entry_of s.log i

      a : Bool → ApplyRollbackTests
      a y = job4.tests t s.applied.head (settled s) (line_open_for s.net n) y

      begun : (d n l y : Bool)
          → eleven (job4.plans (cond d return.Finish (cond n (cond l (cond y return.Push return.Rejected) return.NoLine) return.Wait)) t s.applied.head (num i))
          ≡ eleven (job4.plans (cond d return.Finish (cond n (cond l return.Rejected return.NoLine) return.Wait)) t s.applied.head (num i))
      begun true n l y = refl
      begun false false l y = refl
      begun false true false y = refl
      begun false true true true = refl
      begun false true true false = refl

      all : (m : Bool) (x : Status)
          → eleven (job4.plans (cond m (job4.rule_by x (a y)) return.Wait) t s.applied.head (num i)) ≡ eleven (job4.plans (cond m (job4.rule_by x (a false)) return.Wait) t s.applied.head (num i))
      all false x = refl
      all true InProgress = begun (a y).landed (a y).next (a y).line y
      all true None = refl
      all true Pending = refl
      all true Complete = refl
      all true Aborted = refl
      all true Canceled = refl
      all true Failed = refl

  pub eleven_same : (j : ℕ) (y : Bool) → eqb (plan_of s n j i y).answer 11 ≡ eqb (plan_of s n j i false).answer 11
  unfolding plan_of
  eleven_same j y = go (eqb j 1) (eqb j 2) (eqb j 3)
    where
      go : (a b d : Bool)
          → eleven (cond a (calls.job1 s i y) (cond b (calls.job2 s n i y) (cond d (calls.job3 s i) (calls.job4 s n i y))))
          ≡ eleven (cond a (calls.job1 s i false) (cond b (calls.job2 s n i false) (cond d (calls.job3 s i) (calls.job4 s n i false))))
      go true b d = same1 y
      go false true d = same2 y
      go false false true = refl
      go false false false = same4 y

  -- ---- a plan's answers
  abbrev Asks : Plan → Type 0
  Asks p = asks p.answer ≡ cond (eleven p) 0 15

  plan_asks : (j : ℕ) (y : Bool) → Asks (plan_of s n j i y)
  unfolding plan_of
  plan_asks j y = go (eqb j 1) (eqb j 2) (eqb j 3)
    where
      go : (a b d : Bool) → Asks (cond a (calls.job1 s i y) (cond b (calls.job2 s n i y) (cond d (calls.job3 s i) (calls.job4 s n i y))))
      go true b d =
          commit_change_holds (entry_of s.log i) s.committed.head i Asks s.change (rest_of s) (present_of s (entry_of s.log i)) y
          (record { wait = refl; full = λ a b c. refl; begin = λ a b c. refl; aim = λ a b c. refl; land = λ a b c d e. refl; reject = λ a b. refl; finish = λ a b. refl; close = λ a b. refl })
      go false true d =
          apply_change_holds (entry_of s.log i) s.applied.head i Asks (settled s) (line_open_for s.net n) y
          (record { wait = refl; no_line = refl; begin = λ a b c. refl; aim = λ a b c d. refl; abort = λ a b c d. refl; close_aborted = λ a b. refl; close_failed = λ a b. refl; finish = λ a b c. refl; fail = λ a b. refl; push = λ a b c. refl })
      go false false true =
          commit_rollback_holds (entry_of s.log i) s.committed.head i Asks (rest_of s)
          (record { wait = refl; full = λ a b c. refl; begin = λ a b c. refl; aim = λ a b c. refl; land = λ a b c d e. refl; finish = λ a b c. refl })
      go false false false =
          apply_rollback_holds (entry_of s.log i) s.applied.head i Asks (settled s) (line_open_for s.net n) y
          (record { wait = refl; no_line = refl; rejected = refl; begin = λ a b c d. refl; aim = λ a b c d. refl; cancel = λ a b c d. refl; close = λ a b. refl; finish = λ a b c. refl; push = λ a b c. refl })

  -- a reason is given exactly when the job answers 11, with any outcome and cut; 1, 2, 5, 18 and 10 are as the job's; else 15
  pub why_answers : (j r c : ℕ) → leb r 1 ≡ true → leb c 2 ≡ true → (why s n j i).answer ≡ asks (step s (work n j i r c)).reply.answer
  unfolding why step outcome decide
  why_answers j r c er ec =
      go (well_formed s) (is_node n && (leb 1 j && leb j 4)) (leb r 1 && leb c 2) (rw (er, ec)) (in_log s i) (is_kept s i) (is_master s.net n)
      (plan_asks j (eqb r 0) ∙ ap (λ b. cond b 0 15) (eleven_same j (eqb r 0)))
    where
      go : (w v x : Bool) → x ≡ true → (l k m : Bool) → asks (plan_of s n j i (eqb r 0)).answer ≡ cond (eqb (plan_of s n j i false).answer 11) 0 15
          → (why_not 1 w (why_not 2 v (why_not 5 l (why_not 18 k (why_not 10 m (why_not 15 (eqb (plan_of s n j i false).answer 11) (record { answer = 0; reason = reason s j i; named = named s j i (reason s j i) }))))))
          ).answer
          ≡ asks (unless 1 w (unless 2 (v && x) (unless 5 l (unless 18 k (unless 10 m (planned j (plan_of s n j i (eqb r 0)) i c)))))).reply.answer
      go false v x ex l k m e = refl
      go true false x ex l k m e = refl
      go true true false ex l k m e = let z : ◌≡◌ {A = ℕ} 0 1 = cc in absurd (omega arith)
      go true true true ex false k m e = refl
      go true true true ex true false m e = refl
      go true true true ex true true false e = refl
      go true true true ex true true true e = given (eqb (plan_of s n j i false).answer 11) e
        where
          given : (b : Bool) → asks (plan_of s n j i (eqb r 0)).answer ≡ cond b 0 15
              → (why_not 15 b (record { answer = 0; reason = reason s j i; named = named s j i (reason s j i) })).answer ≡ asks (plan_of s n j i (eqb r 0)).answer
          given true e = sym e
          given false e = sym e

-- ---- the line open: no job is refused with 12, nor with 13 where the push is accepted
module _ (t : Transaction) (h : Head) (i : ℕ) (settled : Bool) where
  abbrev goes_or_waits : Plan → Bool
  goes_or_waits p = eqb p.answer 0 || eqb p.answer 11

  pub open_2 : (y : Bool) → goes_or_waits (job2.apply_change t h settled (num i) true y) ≡ true
  open_2 y = all (is_complete t.change.commit) t.change.apply
    where
      a : ApplyChangeTests
      a = job2.tests t h settled (num i) true y

      pending : (n g s p v : Bool)
          → goes_or_waits (job2.plans (cond n (cond g apply.Begin (cond s (cond p apply.Abort (cond v apply.Aim apply.Wait)) apply.Wait)) apply.Wait) t h (num i)) ≡ true
      pending false g s p v = refl
      pending true true s p v = refl
      pending true false false p v = refl
      pending true false true true v = refl
      pending true false true false true = refl
      pending true false true false false = refl

      begun : (d n u y : Bool) → goes_or_waits (job2.plans (cond d Finish (cond n (cond u Fail (cond y Push Fail)) Wait)) t h (num i)) ≡ true
      begun true n u y = refl
      begun false false u y = refl
      begun false true true y = refl
      begun false true false true = refl
      begun false true false false = refl

      close : (n : Bool) → goes_or_waits (job2.plans (cond n apply.Close apply.Wait) t h (num i)) ≡ true
      close true = refl
      close false = refl

      all : (m : Bool) (x : Status) → goes_or_waits (job2.plans (cond m (job2.rule_by x a) Wait) t h (num i)) ≡ true
      all false x = refl
      all true None = refl
      all true Pending = pending a.next a.aimed a.settled a.passed a.level
      all true InProgress = begun a.landed a.next a.undone y
      all true Complete = refl
      all true Aborted = close a.next
      all true Canceled = refl
      all true Failed = close a.next

  pub open_4 : goes_or_waits (job4.apply_rollback t h settled (num i) true true) ≡ true
  open_4 = all (is_complete t.rollback.commit) t.rollback.apply
    where
      a : ApplyRollbackTests
      a = job4.tests t h settled true true

      pending : (n w g s b : Bool)
          → goes_or_waits
          (job4.plans (cond n (cond w (cond g return.Begin (cond s return.Aim return.Wait)) (cond b (cond s return.Cancel return.Wait) return.Wait)) return.Wait) t h (num i))
          ≡ true
      pending false w g s b = refl
      pending true true true s b = refl
      pending true true false true b = refl
      pending true true false false b = refl
      pending true false g true true = refl
      pending true false g false true = refl
      pending true false g s false = refl

      begun : (d n : Bool) → goes_or_waits (job4.plans (cond d return.Finish (cond n return.Push return.Wait)) t h (num i)) ≡ true
      begun true n = refl
      begun false true = refl
      begun false false = refl

      close : (n : Bool) → goes_or_waits (job4.plans (cond n return.Close return.Wait) t h (num i)) ≡ true
      close true = refl
      close false = refl

      all : (m : Bool) (x : Status) → goes_or_waits (job4.plans (cond m (job4.rule_by x a) return.Wait) t h (num i)) ≡ true
      all false x = refl
      all true None = refl
      all true Pending = pending a.next a.tried a.aimed a.settled a.aborted
      all true InProgress = begun a.landed a.next
      all true Complete = refl
      all true Aborted = refl
      all true Canceled = close a.next
      all true Failed = refl

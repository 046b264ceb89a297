-- Each job's plan by the rule that holds, with what the rule's tests tell: a property of a job's plan is one record with
-- a field a rule. Assumes nothing.
use Prim.Native.Nat.{ℕ, suc, ◌+◌, ◌≤◌, ◌<◌}
use native.Mathlib.Omega.{arith}
use mathlib.Core.Bool.{Bool, true, false, ◌&&◌, ◌||◌, cond}
use mathlib.Core.Path.{◌≡◌, refl}
use lib.Dec.{eqb, ltb, leb}
use borrow.Author.Tests.{eqb-true, eqb-false, leb-true, leb-false}
use Rattle.kinds.specs.declared.Transaction.{Transaction}
use Rattle.kinds.specs.declared.Head.{Head}
use Rattle.kinds.specs.declared.Number.{Number}
use Rattle.kinds.specs.declared.Ordinal.{Ordinal}
use Rattle.kinds.specs.declared.Status.{Status}
use Rattle.kinds.specs.declared.Status.TheVariants.{None, Pending, InProgress, Complete, Aborted, Canceled, Failed}
use Rattle.kinds.specs.Numbers.{num, ord, follows, is_full, ordinal_unless, next_ordinal}
use Rattle.kinds.specs.Statuses.{is_complete}
use Rattle.rules.specs.declared.Plan.{Plan}
use Rattle.rules.specs.declared.Present.{Present}
use Rattle.rules.specs.declared.CommitChangeRule.TheVariants as change
use Rattle.rules.specs.declared.CommitRollbackRule.TheVariants as rollback
use Rattle.rules.specs.declared.ApplyChangeRule.TheVariants as apply
use Rattle.rules.specs.declared.ApplyRollbackRule.TheVariants as return
use Rattle.rules.specs.Plans.{refuse}
use Rattle.rules.specs.CommitChange as job1
use Rattle.rules.specs.CommitRollback as job3
use Rattle.rules.specs.ApplyChange as job2
use Rattle.rules.specs.ApplyRollback as job4

-- a test that holds
pub and_left : (a b : Bool) → (a && b) ≡ true → a ≡ true
and_left true b e = refl
and_left false b e = e

pub and_right : (a b : Bool) → (a && b) ≡ true → b ≡ true
and_right true b e = e
and_right false b e = cc

pub or_cases : {R : Type 0} (a b : Bool) → (a || b) ≡ true → (a ≡ true → R) → (b ≡ true → R) → R
or_cases true b e f g = f e
or_cases false b e f g = g e

pub complete_is : (c : Status) → is_complete c ≡ true → c ≡ Complete
complete_is None e = cc
complete_is Pending e = cc
complete_is InProgress e = cc
complete_is Complete e = refl
complete_is Aborted e = cc
complete_is Canceled e = cc
complete_is Failed e = cc

aborted_is : (c : Status) → job4.is_aborted c ≡ true → c ≡ Aborted
aborted_is None e = cc
aborted_is Pending e = cc
aborted_is InProgress e = cc
aborted_is Complete e = cc
aborted_is Aborted e = refl
aborted_is Canceled e = cc
aborted_is Failed e = cc

after_one : (a b : ℕ) → follows a b ≡ true → b ≡ suc a
after_one a b e = omega (arith, eqb-true (a + 1) b e)

one_more : (o : Ordinal) → is_full o.0 ≡ false → (next_ordinal o).0 ≡ suc o.0
one_more o e = go (is_full o.0) e
  where
    go : (b : Bool) → b ≡ false → (ordinal_unless b o.0).0 ≡ suc o.0
    go true e = cc
    go false e = omega arith

module _ (t : Transaction) (h : Head) (i : ℕ) (P : Plan → Type 0) where
  -- ---- job 1: c is Committed's change
  module _ (c : Number) (rest : Bool) (present : Present) where
    pub record CommitChange : Type 0 where
      pub wait : P (refuse 11 t h)
      pub full : t.change.commit ≡ InProgress → i ≡ suc c.0 → 131070 ≤ h.ordinal.0 → P (refuse 9 t h)
      pub begin : t.change.commit ≡ Pending → i ≡ suc c.0 → h.target.0 ≡ i → P (job1.plans change.Begin t h (num i) (ord 0) present)
      pub aim : t.change.commit ≡ Pending → i ≡ suc c.0 → rest ≡ true → P (job1.plans change.Aim t h (num i) (ord 0) present)
      pub land : t.change.commit ≡ InProgress → i ≡ suc c.0 → h.ordinal.0 < 131070 → (o : Ordinal) → o.0 ≡ suc h.ordinal.0
          → P (job1.plans change.Land t h (num i) o present)
      pub reject : t.change.commit ≡ InProgress → i ≡ suc c.0 → P (job1.plans change.Reject t h (num i) (ord 0) present)
      pub finish : t.change.commit ≡ InProgress → c.0 ≡ i → P (job1.plans change.Finish t h (num i) (ord 0) present)
      pub close : t.change.commit ≡ Failed → i ≡ suc c.0 → P (job1.plans change.Close t h (num i) (ord 0) present)

    pub commit_change_holds : (accepted : Bool) → CommitChange → P (job1.commit_change t h c rest (num i) accepted present)
    commit_change_holds accepted k =
        go t.change.commit refl (follows c.0 i) refl (eqb h.target.0 i) rest refl accepted (is_full h.ordinal.0) refl (eqb c.0 i) refl refl
      where
        go : (x : Status) → t.change.commit ≡ x → (n : Bool) → follows c.0 i ≡ n → (a r : Bool) → rest ≡ r → (y f : Bool)
            → is_full h.ordinal.0 ≡ f
            → (z : Bool)
            → eqb c.0 i ≡ z
            → eqb h.target.0 i ≡ a
            → P (job1.plans (job1.rule x (record { ready = n; aimed = a; rest = r; accepted = y; full = f; landed = z })) t h (num i) (next_ordinal h.ordinal) present)
        go None e n en a r er y f ef z ez ea = k.wait
        go Pending e true en true r er y f ef z ez ea = k.begin e (after_one _ _ en) (eqb-true _ _ ea)
        go Pending e true en false true er y f ef z ez ea = k.aim e (after_one _ _ en) er
        go Pending e true en false false er y f ef z ez ea = k.wait
        go Pending e false en a r er y f ef z ez ea = k.wait
        go InProgress e true en a r er true true ef z ez ea = k.full e (after_one _ _ en) (leb-true _ _ ef)
        go InProgress e true en a r er true false ef z ez ea = k.land e (after_one _ _ en) (leb-false _ _ ef) (next_ordinal h.ordinal) (one_more h.ordinal ef)
        go InProgress e true en a r er false f ef z ez ea = k.reject e (after_one _ _ en)
        go InProgress e false en a r er y f ef true ez ea = k.finish e (eqb-true _ _ ez)
        go InProgress e false en a r er y f ef false ez ea = k.wait
        go Complete e n en a r er y f ef z ez ea = k.wait
        go Aborted e n en a r er y f ef z ez ea = k.wait
        go Canceled e n en a r er y f ef z ez ea = k.wait
        go Failed e true en a r er y f ef z ez ea = k.close e (after_one _ _ en)
        go Failed e false en a r er y f ef z ez ea = k.wait

  -- ---- job 3
  module _ (rest : Bool) where
    pub record CommitRollback : Type 0 where
      pub wait : P (refuse 11 t h)
      pub full : t.rollback.commit ≡ InProgress → h.revision.0 ≡ i → 131070 ≤ h.ordinal.0 → P (refuse 9 t h)
      pub begin : t.rollback.commit ≡ Pending → h.revision.0 ≡ i → h.target.0 ≡ t.index.0 → P (job3.plans rollback.Begin t h (num i) (ord 0))
      pub aim : t.rollback.commit ≡ Pending → h.revision.0 ≡ i → rest ≡ true → P (job3.plans rollback.Aim t h (num i) (ord 0))
      pub land : t.rollback.commit ≡ InProgress → h.revision.0 ≡ i → h.ordinal.0 < 131070 → (o : Ordinal) → o.0 ≡ suc h.ordinal.0
          → P (job3.plans rollback.Land t h (num i) o)
      pub finish : t.rollback.commit ≡ InProgress → (h.revision.0 ≡ i → ⊥) → h.revision.0 ≡ t.index.0 → P (job3.plans rollback.Finish t h (num i) (ord 0))

    pub commit_rollback_holds : CommitRollback → P (job3.commit_rollback t h rest (num i))
    commit_rollback_holds k =
        go t.rollback.commit refl (eqb h.revision.0 i) refl (eqb h.target.0 t.index.0) refl rest refl (is_full h.ordinal.0) refl
        (eqb h.revision.0 t.index.0) refl
      where
        go : (x : Status) → t.rollback.commit ≡ x → (n : Bool) → eqb h.revision.0 i ≡ n → (a : Bool) → eqb h.target.0 t.index.0 ≡ a
            → (r : Bool)
            → rest ≡ r
            → (f : Bool)
            → is_full h.ordinal.0 ≡ f
            → (z : Bool)
            → eqb h.revision.0 t.index.0 ≡ z
            → P (job3.plans (job3.rule x (record { ready = n; aimed = a; rest = r; accepted = true; full = f; landed = z })) t h (num i) (next_ordinal h.ordinal))
        go None e n en a ea r er f ef z ez = k.wait
        go Pending e true en true ea r er f ef z ez = k.begin e (eqb-true _ _ en) (eqb-true _ _ ea)
        go Pending e true en false ea true er f ef z ez = k.aim e (eqb-true _ _ en) er
        go Pending e true en false ea false er f ef z ez = k.wait
        go Pending e false en a ea r er f ef z ez = k.wait
        go InProgress e true en a ea r er true ef z ez = k.full e (eqb-true _ _ en) (leb-true _ _ ef)
        go InProgress e true en a ea r er false ef z ez = k.land e (eqb-true _ _ en) (leb-false _ _ ef) (next_ordinal h.ordinal) (one_more h.ordinal ef)
        go InProgress e false en a ea r er f ef true ez = k.finish e (eqb-false _ _ en) (eqb-true _ _ ez)
        go InProgress e false en a ea r er f ef false ez = k.wait
        go Complete e n en a ea r er f ef z ez = k.wait
        go Aborted e n en a ea r er f ef z ez = k.wait
        go Canceled e n en a ea r er f ef z ez = k.wait
        go Failed e n en a ea r er f ef z ez = k.wait

  module _ (settled line : Bool) where
    -- ---- job 2
    -- the change is committed, and its ordinal is the next
    abbrev pub NextChange : Type 0
    NextChange = (t.change.commit ≡ Complete) × (t.change.ordinal.0 ≡ suc h.ordinal.0)

    pub record ApplyChange : Type 0 where
      pub wait : P (refuse 11 t h)
      pub no_line : P (refuse 12 t h)
      pub begin : NextChange → t.change.apply ≡ Pending → h.target.0 ≡ i → P (job2.plans apply.Begin t h (num i))
      pub aim : NextChange → t.change.apply ≡ Pending → settled ≡ true → h.revision.0 ≡ t.index.0 → P (job2.plans apply.Aim t h (num i))
      pub abort : NextChange → t.change.apply ≡ Pending → settled ≡ true → (h.target.0 ≡ i → ⊥) → P (job2.plans apply.Abort t h (num i))
      pub close_aborted : NextChange → t.change.apply ≡ Aborted → P (job2.plans apply.Close t h (num i))
      pub close_failed : NextChange → t.change.apply ≡ Failed → P (job2.plans apply.Close t h (num i))
      pub finish : t.change.commit ≡ Complete → t.change.apply ≡ InProgress → h.ordinal.0 ≡ t.change.ordinal.0 → P (job2.plans apply.Finish t h (num i))
      pub fail : NextChange → t.change.apply ≡ InProgress → P (job2.plans apply.Fail t h (num i))
      pub push : NextChange → t.change.apply ≡ InProgress → line ≡ true → P (job2.plans apply.Push t h (num i))

    pub apply_change_holds : (accepted : Bool) → ApplyChange → P (job2.apply_change t h settled (num i) line accepted)
    apply_change_holds accepted k = all (is_complete t.change.commit) refl
      where
        go : t.change.commit ≡ Complete → (x : Status) → t.change.apply ≡ x → (n : Bool) → follows h.ordinal.0 t.change.ordinal.0 ≡ n → (a : Bool)
            → eqb h.target.0 i ≡ a
            → (s : Bool)
            → settled ≡ s
            → (u p v : Bool)
            → eqb h.revision.0 t.index.0 ≡ v
            → (d : Bool)
            → job2.reached h.ordinal t.change.ordinal ≡ d
            → (l : Bool)
            → line ≡ l
            → (y : Bool)
            → P (job2.plans (job2.rule_by x (record { committed = is_complete t.change.commit; next = n; aimed = a; settled = s; undone = u; passed = p; level = v; landed = d; line = l; accepted = y })) t h (num i))
        go m None e n en a ea s es u p v ev d ed l el y = k.wait
        go m Pending e true en true ea s es u p v ev d ed l el y = k.begin (m, after_one _ _ en) e (eqb-true _ _ ea)
        go m Pending e true en false ea true es u true v ev d ed l el y = k.abort (m, after_one _ _ en) e es (eqb-false _ _ ea)
        go m Pending e true en false ea true es u false true ev d ed l el y = k.aim (m, after_one _ _ en) e es (eqb-true _ _ ev)
        go m Pending e true en false ea true es u false false ev d ed l el y = k.wait
        go m Pending e true en false ea false es u p v ev d ed l el y = k.wait
        go m Pending e false en a ea s es u p v ev d ed l el y = k.wait
        go m InProgress e n en a ea s es u p v ev true ed l el y = k.finish m e (eqb-true _ _ (and_right (leb 1 t.change.ordinal.0) _ ed))
        go m InProgress e true en a ea s es true p v ev false ed l el y = k.fail (m, after_one _ _ en) e
        go m InProgress e true en a ea s es false p v ev false ed true el true = k.push (m, after_one _ _ en) e el
        go m InProgress e true en a ea s es false p v ev false ed true el false = k.fail (m, after_one _ _ en) e
        go m InProgress e true en a ea s es false p v ev false ed false el y = k.no_line
        go m InProgress e false en a ea s es u p v ev false ed l el y = k.wait
        go m Complete e n en a ea s es u p v ev d ed l el y = k.wait
        go m Aborted e true en a ea s es u p v ev d ed l el y = k.close_aborted (m, after_one _ _ en) e
        go m Aborted e false en a ea s es u p v ev d ed l el y = k.wait
        go m Canceled e n en a ea s es u p v ev d ed l el y = k.wait
        go m Failed e true en a ea s es u p v ev d ed l el y = k.close_failed (m, after_one _ _ en) e
        go m Failed e false en a ea s es u p v ev d ed l el y = k.wait

        all : (m : Bool) → is_complete t.change.commit ≡ m
            → P (job2.plans (cond m (job2.rule_by t.change.apply (job2.tests t h settled (num i) line accepted)) apply.Wait) t h (num i))
        all true m =
            go (complete_is _ m) t.change.apply refl _ refl _ refl settled refl (is_complete t.rollback.commit)
            (is_complete t.rollback.commit || ltb h.revision.0 t.index.0) _ refl _ refl line refl accepted
        all false m = k.wait

    -- ---- job 4
    -- the rollback is committed, and its ordinal is the next
    abbrev pub NextRollback : Type 0
    NextRollback = (t.rollback.commit ≡ Complete) × (t.rollback.ordinal.0 ≡ suc h.ordinal.0)

    pub record ApplyRollback : Type 0 where
      pub wait : P (refuse 11 t h)
      pub no_line : P (refuse 12 t h)
      pub rejected : P (refuse 13 t h)
      pub begin : NextRollback → t.rollback.apply ≡ Pending → job4.was_tried t.change.apply ≡ true → h.target.0 ≡ t.index.0 → P (job4.plans return.Begin t h (num i))
      pub aim : NextRollback → t.rollback.apply ≡ Pending → job4.was_tried t.change.apply ≡ true → settled ≡ true → P (job4.plans return.Aim t h (num i))
      pub cancel : NextRollback → t.rollback.apply ≡ Pending → t.change.apply ≡ Aborted → settled ≡ true → P (job4.plans return.Cancel t h (num i))
      pub close : NextRollback → t.rollback.apply ≡ Canceled → P (job4.plans return.Close t h (num i))
      pub finish : t.rollback.commit ≡ Complete → t.rollback.apply ≡ InProgress → h.ordinal.0 ≡ t.rollback.ordinal.0 → P (job4.plans return.Finish t h (num i))
      pub push : NextRollback → t.rollback.apply ≡ InProgress → line ≡ true → P (job4.plans return.Push t h (num i))

    pub apply_rollback_holds : (accepted : Bool) → ApplyRollback → P (job4.apply_rollback t h settled (num i) line accepted)
    apply_rollback_holds accepted k = all (is_complete t.rollback.commit) refl
      where
        go : t.rollback.commit ≡ Complete → (x : Status) → t.rollback.apply ≡ x → (n : Bool) → follows h.ordinal.0 t.rollback.ordinal.0 ≡ n
            → (w : Bool)
            → job4.was_tried t.change.apply ≡ w
            → (b : Bool)
            → job4.is_aborted t.change.apply ≡ b
            → (a : Bool)
            → eqb h.target.0 t.index.0 ≡ a
            → (s : Bool)
            → settled ≡ s
            → (d : Bool)
            → job2.reached h.ordinal t.rollback.ordinal ≡ d
            → (l : Bool)
            → line ≡ l
            → (y : Bool)
            → P (job4.plans (job4.rule_by x (record { committed = is_complete t.rollback.commit; next = n; tried = w; aborted = b; aimed = a; settled = s; landed = d; line = l; accepted = y })) t h (num i))
        go m None e n en w ew b eb a ea s es d ed l el y = k.wait
        go m Pending e true en true ew b eb true ea s es d ed l el y = k.begin (m, after_one _ _ en) e ew (eqb-true _ _ ea)
        go m Pending e true en true ew b eb false ea true es d ed l el y = k.aim (m, after_one _ _ en) e ew es
        go m Pending e true en true ew b eb false ea false es d ed l el y = k.wait
        go m Pending e true en false ew true eb a ea true es d ed l el y = k.cancel (m, after_one _ _ en) e (aborted_is _ eb) es
        go m Pending e true en false ew true eb a ea false es d ed l el y = k.wait
        go m Pending e true en false ew false eb a ea s es d ed l el y = k.wait
        go m Pending e false en w ew b eb a ea s es d ed l el y = k.wait
        go m InProgress e n en w ew b eb a ea s es true ed l el y = k.finish m e (eqb-true _ _ (and_right (leb 1 t.rollback.ordinal.0) _ ed))
        go m InProgress e true en w ew b eb a ea s es false ed true el true = k.push (m, after_one _ _ en) e el
        go m InProgress e true en w ew b eb a ea s es false ed true el false = k.rejected
        go m InProgress e true en w ew b eb a ea s es false ed false el y = k.no_line
        go m InProgress e false en w ew b eb a ea s es false ed l el y = k.wait
        go m Complete e n en w ew b eb a ea s es d ed l el y = k.wait
        go m Aborted e n en w ew b eb a ea s es d ed l el y = k.wait
        go m Canceled e true en w ew b eb a ea s es d ed l el y = k.close (m, after_one _ _ en) e
        go m Canceled e false en w ew b eb a ea s es d ed l el y = k.wait
        go m Failed e n en w ew b eb a ea s es d ed l el y = k.wait

        all : (m : Bool) → is_complete t.rollback.commit ≡ m
            → P (job4.plans (cond m (job4.rule_by t.rollback.apply (job4.tests t h settled line accepted)) return.Wait) t h (num i))
        all true m = go (complete_is _ m) t.rollback.apply refl _ refl _ refl _ refl _ refl settled refl _ refl line refl accepted
        all false m = k.wait

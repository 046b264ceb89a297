-- No job takes Committed's change or Applied's ordinal back. Assumes nothing.
use Prim.Native.Nat.{ℕ, ◌≤◌}
use native.Mathlib.Omega.{arith}
use mathlib.Core.Bool.{Bool, true, false, cond}
use mathlib.Core.Path.{◌≡◌, refl}
use lib.Dec.{eqb}
use borrow.Author.Tests.{eqb-true}
use Rattle.rules.specs.declared.Plan.{Plan}
use Rattle.rules.specs.declared.Order.{Order}
use Rattle.rules.specs.declared.Order.TheVariants.{Neither, EntryOnly, HeadOnly, EntryThenHead, HeadThenEntry, TargetThenHeadThenEntry}
use Rattle.machine.specs.State.{State, entry_of, line_open_for}
use Rattle.machine.specs.Settled.{settled}
use Rattle.machine.specs.Rest.{rest_of}
use Rattle.machine.specs.Calls.{job1, job2, job3, job4, plan_of, present_of, commits, side_if}
use Rattle.machine.proofs.Next.{change_if, performed_by, performed}
use Rattle.machine.proofs.Cases.{commit_change_holds, commit_rollback_holds, apply_change_holds, apply_rollback_holds}

pub record Onward (s next : State) : Type 0 where
  pub change : s.change.0 ≤ next.change.0
  pub ordinal : s.applied.head.ordinal.0 ≤ next.applied.head.ordinal.0

module _ (s : State) (i : ℕ) where
  -- the head that a plan of a side stores is no lower
  abbrev HeadOn : Bool → Plan → Type 0
  HeadOn true p = s.change.0 ≤ (change_if p.change i s.change).0
  HeadOn false p = s.applied.head.ordinal.0 ≤ p.head.ordinal.0

  performed_on : (o : Order) (b : Bool) (p : Plan) → HeadOn b p → (first second : Bool) → Onward s (performed_by o b s p i first second)
  performed_on Neither b p h first second = record { change = omega arith; ordinal = omega arith }
  performed_on EntryOnly b p h first second = record { change = omega arith; ordinal = omega arith }
  performed_on HeadOnly true p h first second = record { change = h; ordinal = omega arith }
  performed_on HeadOnly false p h first second = record { change = omega arith; ordinal = h }
  performed_on EntryThenHead b p h true second = record { change = omega arith; ordinal = omega arith }
  performed_on EntryThenHead true p h false second = record { change = h; ordinal = omega arith }
  performed_on EntryThenHead false p h false second = record { change = omega arith; ordinal = h }
  performed_on HeadThenEntry true p h true second = record { change = h; ordinal = omega arith }
  performed_on HeadThenEntry false p h true second = record { change = omega arith; ordinal = h }
  performed_on HeadThenEntry true p h false second = record { change = h; ordinal = omega arith }
  performed_on HeadThenEntry false p h false second = record { change = omega arith; ordinal = h }
  performed_on TargetThenHeadThenEntry b p h true second = record { change = omega arith; ordinal = omega arith }
  performed_on TargetThenHeadThenEntry true p h false true = record { change = h; ordinal = omega arith }
  performed_on TargetThenHeadThenEntry false p h false true = record { change = omega arith; ordinal = h }
  performed_on TargetThenHeadThenEntry true p h false false = record { change = h; ordinal = omega arith }
  performed_on TargetThenHeadThenEntry false p h false false = record { change = omega arith; ordinal = h }

  on_1 : (y : Bool) → HeadOn true (job1 s i y)
  on_1 y =
      commit_change_holds (entry_of s.log i) s.committed.head i (HeadOn true) s.change (rest_of s) (present_of s (entry_of s.log i)) y
      (record {
        wait = omega arith;
        full = λ e n b. omega arith;
        begin = λ e n g. omega arith;
        aim = λ e n r. omega arith;
        land = λ e n b o x. omega arith;
        reject = λ e n. omega arith;
        finish = λ e n. omega arith;
        close = λ e n. omega arith;
      })

  on_3 : HeadOn true (job3 s i)
  on_3 =
      commit_rollback_holds (entry_of s.log i) s.committed.head i (HeadOn true) (rest_of s)
      (record {
        wait = omega arith;
        full = λ e n b. omega arith;
        begin = λ e n g. omega arith;
        aim = λ e n r. omega arith;
        land = λ e n b o x. omega arith;
        finish = λ e d n. omega arith;
      })

  on_2 : (n : ℕ) (y : Bool) → HeadOn false (job2 s n i y)
  on_2 n y =
      apply_change_holds (entry_of s.log i) s.applied.head i (HeadOn false) (settled s) (line_open_for s.net n) y
      (record {
        wait = omega arith;
        no_line = omega arith;
        begin = λ m e g. omega arith;
        aim = λ m e x v. omega arith;
        abort = λ m e x g. omega (arith, m.1);
        close_aborted = λ m e. omega (arith, m.1);
        close_failed = λ m e. omega (arith, m.1);
        finish = λ m e x. omega arith;
        fail = λ m e. omega (arith, m.1);
        push = λ m e x. omega (arith, m.1);
      })

  on_4 : (n : ℕ) (y : Bool) → HeadOn false (job4 s n i y)
  on_4 n y =
      apply_rollback_holds (entry_of s.log i) s.applied.head i (HeadOn false) (settled s) (line_open_for s.net n) y
      (record {
        wait = omega arith;
        no_line = omega arith;
        rejected = omega arith;
        begin = λ m e w g. omega arith;
        aim = λ m e w x. omega arith;
        cancel = λ m e d x. omega (arith, m.1);
        close = λ m e. omega (arith, m.1);
        finish = λ m e x. omega arith;
        push = λ m e x. omega (arith, m.1);
      })

  pub onward : (n j : ℕ) (y first second : Bool) → Onward s (performed (commits j) s (plan_of s n j i y) i first second)
  unfolding plan_of
  onward n j y first second = performed_on (plan_of s n j i y).order (commits j) (plan_of s n j i y) (go (eqb j 1) (eqb j 2) refl (eqb j 3) refl) first second
    where
      go : (x b : Bool) → eqb j 2 ≡ b → (d : Bool) → eqb j 3 ≡ d
          → HeadOn (side_if x d) (cond x (job1 s i y) (cond b (job2 s n i y) (cond d (job3 s i) (job4 s n i y))))
      go true b eb d ed = on_1 y
      go false true eb true ed = absurd (omega (arith, eqb-true j 2 eb, eqb-true j 3 ed))
      go false true eb false ed = on_2 n y
      go false false eb true ed = on_3
      go false false eb false ed = on_4 n y

-- An accepted job: what its refusals passed tell, and the state after it. A job leaves the master, the line and the log's
-- length.
-- Assumes nothing.
use Prim.Native.Nat.{ℕ, ◌≤◌, ◌<◌}
use native.Mathlib.Omega.{arith}
use mathlib.Core.Bool.{Bool, true, false, ◌&&◌}
use mathlib.Core.Path.{◌≡◌, refl, sym, ap, ◌∙◌, subst}
use lib.Dec.{eqb, leb}
use borrow.Author.Tests.{eqb-true, leb-true, ltb-true}
use Rattle.rules.specs.declared.Plan.{Plan}
use Rattle.rules.specs.declared.Order.{Order}
use Rattle.rules.specs.declared.Order.TheVariants.{Neither, EntryOnly, HeadOnly, EntryThenHead, HeadThenEntry, TargetThenHeadThenEntry}
use Rattle.machine.specs.State.{State, last, in_log, is_kept, is_node, is_master, line_open_for}
use Rattle.machine.specs.Stores.{afters}
use Rattle.machine.specs.Rows.{rows_of, event_of}
use Rattle.machine.specs.WellFormed.{well_formed}
use Rattle.machine.specs.Calls.{work, unless, plan_of, planned, commits, work_ok, decide}
use Rattle.machine.specs.Step.{outcome, step}
use Rattle.machine.proofs.Next.{performed, performed_by, rows_performed}
use Rattle.machine.proofs.Cases.{and_left, and_right}
use Rattle.machine.proofs.Entries.{last_put}

pub record Worked (s : State) (n j i r c : ℕ) : Type 0 where
  pub number : (s.log.folded.0 < i) × (i ≤ last s.log)
  pub job : (1 ≤ j) × (j ≤ 4)
  pub master : s.net.mastership.master ≡ n
  pub plan : (plan_of s n j i (eqb r 0)).answer ≡ 0
  pub stores : (outcome s (work n j i r c)).stores ≡ rows_of (commits j) (plan_of s n j i (eqb r 0)) i (eqb c 1) (eqb c 2)
  pub next : (step s (work n j i r c)).next ≡ performed (commits j) s (plan_of s n j i (eqb r 0)) i (eqb c 1) (eqb c 2)

pub worked : (s : State) (n j i r c : ℕ) → (step s (work n j i r c)).reply.answer ≡ 0 → Worked s n j i r c
unfolding step outcome decide
worked s n j i r c e =
    let p = plan_of s n j i (eqb r 0) in
    let k = go (well_formed s) (work_ok n j r c) (in_log s i) (is_kept s i) (is_master s.net n) e in
    let v : (leb 1 j && leb j 4) ≡ true = and_right (is_node n) _ (and_left (is_node n && (leb 1 j && leb j 4)) _ k.0) in
    record {
      number = (ltb-true _ i k.2, leb-true i _ (and_right (leb 1 i) _ k.1));
      job = (leb-true 1 j (and_left (leb 1 j) _ v), leb-true j 4 (and_right (leb 1 j) _ v));
      master = eqb-true _ n k.3;
      plan = k.4;
      stores = k.5;
      next = ap (afters s) k.5 ∙ rows_performed (commits j) s p i (eqb c 1) (eqb c 2);
    }
  where
    go : (w v l z m : Bool)
        → (let p = plan_of s n j i (eqb r 0) in
        let o = unless 1 w (unless 2 v (unless 5 l (unless 18 z (unless 10 m (planned j p i c))))) in
        o.reply.answer ≡ 0
        → (v ≡ true) × (l ≡ true) × (z ≡ true) × (m ≡ true) × (p.answer ≡ 0) × (o.stores ≡ (planned j p i c).stores))
    go false v l z m e = absurd (omega arith)
    go true false l z m e = absurd (omega arith)
    go true true false z m e = absurd (omega arith)
    go true true true false m e = absurd (omega arith)
    go true true true true false e = absurd (omega arith)
    go true true true true true e = (refl, refl, refl, refl, e, refl)

-- what a plan leaves
pub record Leaves (s next : State) : Type 0 where
  pub master : (n : ℕ) → is_master next.net n ≡ is_master s.net n
  pub line : (n : ℕ) → line_open_for next.net n ≡ line_open_for s.net n
  pub size : last next.log ≡ last s.log

pub performed_leaves : (b : Bool) (s : State) (p : Plan) (i : ℕ) (first second : Bool) → Leaves s (performed b s p i first second)
performed_leaves b s p i first second = go p.order b first second
  where
    go : (o : Order) (b first second : Bool) → Leaves s (performed_by o b s p i first second)
    go Neither b first second = record { master = λ n. refl; line = λ n. refl; size = refl }
    go EntryOnly b first second = record { master = λ n. refl; line = λ n. refl; size = last_put s.log i p.entry }
    go HeadOnly true first second = record { master = λ n. refl; line = λ n. refl; size = refl }
    go HeadOnly false first second = record { master = λ n. refl; line = λ n. refl; size = refl }
    go EntryThenHead b true second = record { master = λ n. refl; line = λ n. refl; size = last_put s.log i p.entry }
    go EntryThenHead true false second = record { master = λ n. refl; line = λ n. refl; size = last_put s.log i p.entry }
    go EntryThenHead false false second = record { master = λ n. refl; line = λ n. refl; size = last_put s.log i p.entry }
    go HeadThenEntry true true second = record { master = λ n. refl; line = λ n. refl; size = refl }
    go HeadThenEntry false true second = record { master = λ n. refl; line = λ n. refl; size = refl }
    go HeadThenEntry true false second = record { master = λ n. refl; line = λ n. refl; size = last_put s.log i p.entry }
    go HeadThenEntry false false second = record { master = λ n. refl; line = λ n. refl; size = last_put s.log i p.entry }
    go TargetThenHeadThenEntry b true second = record { master = λ n. refl; line = λ n. refl; size = refl }
    go TargetThenHeadThenEntry true false true = record { master = λ n. refl; line = λ n. refl; size = refl }
    go TargetThenHeadThenEntry false false true = record { master = λ n. refl; line = λ n. refl; size = refl }
    go TargetThenHeadThenEntry true false false = record { master = λ n. refl; line = λ n. refl; size = last_put s.log i p.entry }
    go TargetThenHeadThenEntry false false false = record { master = λ n. refl; line = λ n. refl; size = last_put s.log i p.entry }

pub worked_leaves : (s : State) (n j i r c : ℕ) → Worked s n j i r c → Leaves s (step s (work n j i r c)).next
worked_leaves s n j i r c w = subst (Leaves s) (sym w.next) (performed_leaves (commits j) s (plan_of s n j i (eqb r 0)) i (eqb c 1) (eqb c 2))

-- ---- a job that passes the refusals before its rules
module _ (s : State) (n j i r c : ℕ) where
  abbrev plan : Plan
  plan = plan_of s n j i (eqb r 0)

  pub work_step : well_formed s ≡ true → work_ok n j r c ≡ true → in_log s i ≡ true → is_kept s i ≡ true → is_master s.net n ≡ true
      → step s (work n j i r c)
      ≡ record { reply = record { answer = plan.answer; event = event_of plan (eqb c 1) }; next = performed (commits j) s plan i (eqb c 1) (eqb c 2) }
  unfolding step outcome decide
  work_step w a l k m = simp (w, a, l, k, m, rows_performed (commits j) s plan i (eqb c 1) (eqb c 2))

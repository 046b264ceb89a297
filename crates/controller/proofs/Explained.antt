-- Why a job does not move, as the code finds it: what it tells is the machine's first reason that fits. Assumes nothing.
use Prim.Native.Nat.{ℕ, zero, suc, ◌+◌, ◌-◌, ◌≤◌, ◌<◌}
use mathlib.Core.Path.{◌≡◌, refl, ap, ap₂, sym, ◌∙◌}
use mathlib.Core.Bool.{Bool, true, false, not, ◌&&◌, ◌||◌, cond}
use mathlib.Core.List.{List, [], ◌∷◌, ◌++◌}
use native.Mathlib.Omega.{arith}
use borrow.Author.Tests.{eq-eqb, ne_eqb, lt-ltb, le-ltb}
use lib.Dec.{eqb, leb, ltb}
use Rattle.kinds.specs.declared.Transaction.{Transaction}
use Rattle.kinds.specs.declared.Head.{Head}
use Rattle.kinds.specs.declared.Number.{Number}
use Rattle.kinds.specs.declared.Ordinal.{Ordinal}
use Rattle.kinds.specs.declared.Side.{Side}
use Rattle.kinds.specs.declared.Mastership.{Mastership}
use Rattle.kinds.specs.declared.Status.{Status}
use Rattle.kinds.specs.declared.Status.TheVariants.{None, Pending, InProgress, Complete, Aborted, Canceled, Failed}
use Rattle.kinds.specs.Numbers.{num, follows}
use Rattle.kinds.specs.Statuses.{code_of, done, is_complete}
use Rattle.rules.specs.declared.Plan.{Plan}
use Rattle.rules.specs.declared.ApplyChangeRule.TheVariants as of-change
use Rattle.rules.specs.declared.ApplyRollbackRule.TheVariants as of-rollback
use Rattle.rules.specs.ApplyChange as change
use Rattle.rules.specs.ApplyChange.{apply_change}
use Rattle.rules.specs.ApplyRollback as rollback
use Rattle.rules.specs.ApplyRollback.{apply_rollback}
use Rattle.machine.specs.State.{State, entry_of, is_node, is_master, line_open_for}
use Rattle.machine.specs.Rest.{rest_of}
use Rattle.machine.specs.Settled.{settled}
use Rattle.machine.specs.Calls.{job1, job2, job3, job4, plan_of}
use Rattle.machine.specs.Why.{is, holds, first_of, named, lowest, in_flight, commit_goes, why}
use Rattle.image.specs.Layout.{committed_at, applied_at}
use Rattle.image.specs.Records.{entry_at, last_of, folded_of, change_of, head_at, mastership_of}
use Rattle.image.specs.View.{up_to, up_from, view}
use Rattle.image.specs.Formed.{formed}
use Rattle.image.proofs.UpTo.{up_to_same}
use Rattle.image.proofs.Scanned.{formed_state}
use Rattle.controller.specs.declared.reasons.Why.{Why}
use Rattle.controller.specs.Claims.{Entry}
use Rattle.controller.specs.Reasons.{given, why_of, gives, refuses, told, explained, commit_finished, apply_finished, unsettled_by, unapplied, quiet_unless, change_over, change_quiet, rollback_over, rollback_quiet, change_waits, rollback_waits, flight_or, on_top}
use Rattle.controller.proofs.Decided.{formed_view, entry_of_holds, plan_1, plan_2, plan_3, plan_4}
use Rattle.controller.proofs.Answered.{in_log_holds, is_kept_holds}

-- ---- the reasons of each job, one after another
module _ (s : State) (i : ℕ) where
  told_1 : told s 1 i
      ≡ cond (commit_finished (entry_of s.log i).change.commit s.change.0 i) (gives 1 0)
      (cond (ltb (s.change.0 + 1) i) (gives 3 (s.change.0 + 1)) (flight_or s (gives 8 0)))
  unfolding first_of
  told_1 = go (holds s 1 i 1) (holds s 1 i 3) (rest_of s)
    where
      go : (a b d : Bool) → gives (cond a 1 (cond b 3 (cond (not d) 4 8))) (named s 1 i (cond a 1 (cond b 3 (cond (not d) 4 8))))
          ≡ cond a (gives 1 0) (cond b (gives 3 (s.change.0 + 1)) (cond d (gives 8 0) (gives 4 (in_flight s))))
      go true b d = refl
      go false true d = refl
      go false false true = refl
      go false false false = refl

  told_2 : told s 2 i ≡ change_waits (entry_of s.log i) s.applied.head.ordinal.0 (settled s)
  unfolding first_of
  told_2 = go (holds s 2 i 1) (is_complete (entry_of s.log i).change.commit) (holds s 2 i 7)
    where
      go : (a b d : Bool) → gives (cond a 1 (cond (not b) 6 (cond d 7 8))) (named s 2 i (cond a 1 (cond (not b) 6 (cond d 7 8))))
          ≡ cond a (gives 1 0) (cond b (cond d (gives 7 (unsettled_by (settled s) s.applied.head.ordinal.0)) (gives 8 0)) (gives 6 0))
      go true b d = refl
      go false false d = refl
      go false true true = refl
      go false true false = refl

  told_3 : told s 3 i
      ≡ cond (done (entry_of s.log i).rollback.commit) (gives 1 0)
      (cond (is (entry_of s.log i).rollback.commit None) (gives 2 0) (flight_or s (on_top s.committed.head.revision.0 i)))
  unfolding first_of
  told_3 = go (done (entry_of s.log i).rollback.commit) (holds s 3 i 2) (rest_of s) (holds s 3 i 5)
    where
      go : (a b d e : Bool) → gives (cond (a && true) 1 (cond b 2 (cond (not d) 4 (cond e 5 8)))) (named s 3 i (cond (a && true) 1 (cond b 2 (cond (not d) 4 (cond e 5 8)))))
          ≡ cond a (gives 1 0) (cond b (gives 2 0) (cond d (cond e (gives 5 s.committed.head.revision.0) (gives 8 0)) (gives 4 (in_flight s))))
      go true b d e = refl
      go false true d e = refl
      go false false false e = refl
      go false false true true = refl
      go false false true false = refl

  told_4 : told s 4 i ≡ rollback_waits (entry_of s.log i) s.applied.head.ordinal.0 (settled s)
  unfolding first_of
  told_4 = go (holds s 4 i 1) (holds s 4 i 2) (is_complete (entry_of s.log i).rollback.commit) (holds s 4 i 7)
    where
      go : (a b d e : Bool) → gives (cond a 1 (cond b 2 (cond (not d) 6 (cond e 7 8)))) (named s 4 i (cond a 1 (cond b 2 (cond (not d) 6 (cond e 7 8)))))
          ≡ cond a (gives 1 0) (cond b (gives 2 0) (cond d (cond e (gives 7 (unsettled_by (settled s) s.applied.head.ordinal.0)) (gives 8 0)) (gives 6 0)))
      go true b d e = refl
      go false true d e = refl
      go false false false e = refl
      go false false true true = refl
      go false false true false = refl

-- ---- of the records alone
pub top_some : (v i : ℕ) (r : Why) → i < v → r ≡ gives 5 v → r ≡ on_top v i
top_some v i r h p = rw (lt-ltb i v h) p

pub top_none : (v i : ℕ) (r : Why) → v ≤ i → r ≡ gives 8 0 → r ≡ on_top v i
top_none v i r h p = rw (le-ltb i v h) p

module _ (x : Side) (a : Ordinal) (q d : Bool) (ed : d ≡ is_complete x.commit) (r : Why) where
  pub uncommitted : d ≡ false → r ≡ gives 6 0 → r ≡ unapplied x a.0 q
  uncommitted t p = rw (← ed, t) p

  module _ (t : d ≡ true) (b k o : ℕ) (eb : b ≡ a.0) (ek : k ≡ unsettled_by q b) (eo : o ≡ x.ordinal.0) where
    by_ordinal : unapplied x a.0 q ≡ cond (ltb k o) (gives 7 k) (gives 8 0)
    by_ordinal =
        rw (← ed, t)
        (ap₂ (λ (m n : ℕ). cond (ltb m n) (gives 7 m) (gives 8 0)) (sym (ek ∙ ap (unsettled_by q) eb)) (sym eo))

    pub before_it : k < o → r ≡ gives 7 k → r ≡ unapplied x a.0 q
    before_it h p = p ∙ sym (by_ordinal ∙ rw (lt-ltb k o h))

    pub none_fits : o ≤ k → r ≡ gives 8 0 → r ≡ unapplied x a.0 q
    none_fits h p = p ∙ sym (by_ordinal ∙ rw (le-ltb k o h))

module _ (t : Transaction) (a : ℕ) (k : ℕ) (x : Bool) where
  pub change_over_holds : k ≡ code_of t.change.apply → x ≡ apply_finished t.change (eqb k 4 || eqb k 6) a → x ≡ change_over t a
  change_over_holds ek ex = ex ∙ ap (λ (m : ℕ). apply_finished t.change (eqb m 4 || eqb m 6) a) ek

  pub rollback_over_holds : k ≡ code_of t.rollback.apply → x ≡ apply_finished t.rollback (eqb k 5) a → x ≡ rollback_over t a
  rollback_over_holds ek ex = ex ∙ ap (λ (m : ℕ). apply_finished t.rollback (eqb m 5) a) ek

module _ (t : Transaction) (a : ℕ) (q : Bool) (r : Why) (x : Bool) where
  module _ (ex : x ≡ change_over t a) where
    pub change_over_1 : x ≡ true → r ≡ gives 1 0 → r ≡ change_waits t a q
    change_over_1 h p = p ∙ sym (rw (← ex, h))

    pub change_left : x ≡ false → r ≡ unapplied t.change a q → r ≡ change_waits t a q
    change_left h p = p ∙ sym (rw (← ex, h))

  module _ (ex : x ≡ rollback_over t a) where
    pub rollback_over_1 : x ≡ true → r ≡ gives 1 0 → r ≡ rollback_waits t a q
    rollback_over_1 h p = p ∙ sym (rw (← ex, h))

    module _ (h : x ≡ false) (m : ℕ) (em : m ≡ code_of t.rollback.commit) where
      pub rollback_none : m ≡ 0 → r ≡ gives 2 0 → r ≡ rollback_waits t a q
      rollback_none z p = p ∙ sym (rw (← ex, h, ← em, z))

      pub rollback_left : (m ≡ 0 → ⊥) → r ≡ unapplied t.rollback a q → r ≡ rollback_waits t a q
      rollback_left z p = p ∙ sym (rw (← ex, h, ← em, ne_eqb m 0 z))

-- ---- settled, asked where something depends on it
module _ (x : Side) (o d : Bool) (s : State) (r : Bool) (ed : d ≡ is_complete x.commit) where
  pub quiet_asked : (d && not o) ≡ true → r ≡ settled s → r ≡ quiet_unless o x s
  quiet_asked h p = p ∙ sym (rw (← ed, h))

  pub quiet_unasked : (d && not o) ≡ false → true ≡ quiet_unless o x s
  quiet_unasked h = sym (rw (← ed, h))

module _ (t : Transaction) (h : Head) (s : State) (i : Number) (line ok : Bool) where
  change_same : apply_change t h (change_quiet t h.ordinal.0 s) i line ok ≡ apply_change t h (settled s) i line ok
  change_same = go t.change.apply (is_complete t.change.commit) (follows h.ordinal.0 t.change.ordinal.0)
    where
      go : (a : Status) (b f : Bool) →
          change.plans (cond b (change.rule_by a (change.tests t h (cond (b && not (done a && not ((is a Aborted || is a Failed) && (b && f)))) (settled s) true) i line ok)) of-change.Wait) t h i
          ≡ change.plans (cond b (change.rule_by a (change.tests t h (settled s) i line ok)) of-change.Wait) t h i
      go a false f = refl
      go Pending true f = refl
      go None true f = refl
      go InProgress true f = refl
      go Complete true f = refl
      go Aborted true f = refl
      go Canceled true f = refl
      go Failed true f = refl

  rollback_same : apply_rollback t h (rollback_quiet t h.ordinal.0 s) i line ok ≡ apply_rollback t h (settled s) i line ok
  rollback_same = go t.rollback.apply (is_complete t.rollback.commit) (follows h.ordinal.0 t.rollback.ordinal.0)
    where
      go : (a : Status) (b f : Bool) →
          rollback.plans (cond b (rollback.rule_by a (rollback.tests t h (cond (b && not (done a && not (is a Canceled && (b && f)))) (settled s) true) line ok)) of-rollback.Wait) t h i
          ≡ rollback.plans (cond b (rollback.rule_by a (rollback.tests t h (settled s) line ok)) of-rollback.Wait) t h i
      go a false f = refl
      go Pending true f = refl
      go None true f = refl
      go InProgress true f = refl
      go Complete true f = refl
      go Aborted true f = refl
      go Canceled true f = refl
      go Failed true f = refl

module _ (t : Transaction) (a : ℕ) (s : State) where
  change_quiet_told : change_waits t a (change_quiet t a s) ≡ change_waits t a (settled s)
  change_quiet_told = go (change_over t a) (is_complete t.change.commit)
    where
      go : (o b : Bool) →
          cond o (gives 1 0) (cond b (cond (ltb (unsettled_by (cond (b && not o) (settled s) true) a) t.change.ordinal.0) (gives 7 (unsettled_by (cond (b && not o) (settled s) true) a)) (gives 8 0)) (gives 6 0))
          ≡ cond o (gives 1 0) (cond b (cond (ltb (unsettled_by (settled s) a) t.change.ordinal.0) (gives 7 (unsettled_by (settled s) a)) (gives 8 0)) (gives 6 0))
      go true b = refl
      go false true = refl
      go false false = refl

  rollback_quiet_told : rollback_waits t a (rollback_quiet t a s) ≡ rollback_waits t a (settled s)
  rollback_quiet_told = go (rollback_over t a) (is t.rollback.commit None) (is_complete t.rollback.commit)
    where
      go : (o n b : Bool) →
          cond o (gives 1 0) (cond n (gives 2 0) (cond b (cond (ltb (unsettled_by (cond (b && not o) (settled s) true) a) t.rollback.ordinal.0) (gives 7 (unsettled_by (cond (b && not o) (settled s) true) a)) (gives 8 0)) (gives 6 0)))
          ≡ cond o (gives 1 0) (cond n (gives 2 0) (cond b (cond (ltb (unsettled_by (settled s) a) t.rollback.ordinal.0) (gives 7 (unsettled_by (settled s) a)) (gives 8 0)) (gives 6 0)))
      go true n b = refl
      go false true b = refl
      go false false true = refl
      go false false false = refl

-- ---- the lowest in progress
-- the first of them, and the others
module _ {A : Type 0} where
  up_first : (f : ℕ → A) (n : ℕ) → up_to f (suc n) ≡ f 1 ∷ up_to (λ j. f (suc j)) n
  unfolding up_to
  up_first f zero = refl
  up_first f (suc n) = ap (λ (x : List A). x ++ (f (suc (suc n)) ∷ [])) (up_first f n)

  from_first : (f : ℕ → A) (i n : ℕ) → i < n → up_from f i n ≡ f (i + 1) ∷ up_from f (i + 1) n
  from_first f i n h =
      let e : n - i ≡ suc (n - (i + 1)) = omega arith in
      ap (up_to (λ j. f (i + j))) e ∙ up_first (λ j. f (i + j)) (n - (i + 1))
      ∙ ap (λ (x : List A). f (i + 1) ∷ x)
      (up_to_same (λ j. f ((i + 1) + j)) (λ j. f (i + suc j)) (n - (i + 1)) (λ m p q. let z : i + suc m ≡ (i + 1) + m = omega arith in ap f z))

module _ (l : List ℕ) (b n d i : ℕ) where
  -- what is looked for is among those after i
  abbrev pub Among : Type 0
  Among = (b ≤ i) × ((i ≤ n) × (lowest commit_goes (b + 1) (up_from (entry_at l) b n) d ≡ lowest commit_goes (i + 1) (up_from (entry_at l) i n) d))

  module _ (a : Among) (h : i < n) (t : Transaction) (x : Bool) (et : t ≡ entry_at l (i + 1)) (ex : x ≡ commit_goes t) where
    first : lowest commit_goes (i + 1) (up_from (entry_at l) i n) d ≡ cond x (i + 1) (lowest commit_goes (i + 1 + 1) (up_from (entry_at l) (i + 1) n) d)
    unfolding lowest
    first =
        ap (λ (ts : List Transaction). lowest commit_goes (i + 1) ts d) (from_first (entry_at l) i n h)
        ∙ ap (λ (y : Bool). cond y (i + 1) (lowest commit_goes (i + 1 + 1) (up_from (entry_at l) (i + 1) n) d)) (ap commit_goes (sym et) ∙ sym ex)

    pub goes_here : x ≡ true → (i + 1) ≡ lowest commit_goes (b + 1) (up_from (entry_at l) b n) d
    goes_here g = sym (a.1.1 ∙ first ∙ rw g)

    pub goes_on : x ≡ false → lowest commit_goes (b + 1) (up_from (entry_at l) b n) d ≡ lowest commit_goes (i + 1 + 1) (up_from (entry_at l) (i + 1) n) d
    goes_on g = a.1.1 ∙ first ∙ rw g

  pub goes_none : Among → n ≤ i → d ≡ lowest commit_goes (b + 1) (up_from (entry_at l) b n) d
  unfolding lowest up_to
  goes_none a h = let e : n - i ≡ 0 = omega arith in sym (a.1.1 ∙ ap (λ (k : ℕ). lowest commit_goes (i + 1) (up_to (λ j. entry_at l (i + j)) k) d) e)

-- ---- the commit in flight
module _ (l : List ℕ) (c : Number) (h : Head) (k g : ℕ) (ec : c ≡ num (change_of l)) (ek : k ≡ c.0) (eh : h ≡ head_at l committed_at) (eg : g ≡ h.target.0) where
  flight : (y : Bool) → ltb k g ≡ y → in_flight (view l) ≡ cond y g (lowest commit_goes (folded_of l + 1) (up_from (entry_at l) (folded_of l) (last_of l)) h.revision.0)
  unfolding view
  flight y e = rw (← e, eg, ek, ec, eh)

  pub flies_target : k < g → g ≡ in_flight (view l)
  flies_target q = sym (flight true (lt-ltb k g q))

  pub flies_lowest : (b n v r : ℕ) → g ≤ k → b ≡ folded_of l → n ≡ last_of l → v ≡ h.revision.0
      → r ≡ lowest commit_goes (b + 1) (up_from (entry_at l) b n) v → r ≡ in_flight (view l)
  flies_lowest b n v r q eb en ev er = er ∙ rw (eb, en, ev) (sym (flight false (le-ltb k g q)))

-- at rest, or not
pub flight_rest : (s : State) (w r : Why) (x : Bool) → x ≡ rest_of s → x ≡ true → r ≡ w → r ≡ flight_or s w
flight_rest s w r x e t p = rw (← e, t) p

pub flight_named : (s : State) (w r : Why) (x : Bool) (k : ℕ) → x ≡ rest_of s → x ≡ false → k ≡ in_flight s → r ≡ gives 4 k → r ≡ flight_or s w
flight_named s w r x k e t q p = rw (← e, t) (p ∙ ap (gives 4) q)

-- ---- the commit side, told
module _ (l : List ℕ) (i : ℕ) (w : Entry l i) (t : Transaction) (et : t ≡ entry_at l i) (r : Why) where
  shown : entry_of (view l).log i ≡ t
  shown = entry_of_holds l i w.kept w.last ∙ sym et

  module _ (c : Number) (ec : c ≡ num (change_of l)) (x : Bool) (ex : x ≡ commit_finished t.change.commit c.0 i) where
    change_told : told (view l) 1 i ≡ cond x (gives 1 0) (cond (ltb (c.0 + 1) i) (gives 3 (c.0 + 1)) (flight_or (view l) (gives 8 0)))
    unfolding view
    change_told =
        told_1 (view l) i
        ∙ ap₂ (λ (y : Transaction) (z : Number). cond (commit_finished y.change.commit z.0 i) (gives 1 0) (cond (ltb (z.0 + 1) i) (gives 3 (z.0 + 1)) (flight_or (view l) (gives 8 0)))) shown (sym ec)
        ∙ ap (λ (y : Bool). cond y (gives 1 0) (cond (ltb (c.0 + 1) i) (gives 3 (c.0 + 1)) (flight_or (view l) (gives 8 0)))) (sym ex)

    pub change_finished : x ≡ true → r ≡ gives 1 0 → r ≡ told (view l) 1 i
    change_finished h p = p ∙ sym (change_told ∙ rw h)

    module _ (h : x ≡ false) (k : ℕ) (ek : k ≡ c.0 + 1) where
      pub change_earlier : k < i → r ≡ gives 3 k → r ≡ told (view l) 1 i
      change_earlier q p = p ∙ sym (change_told ∙ rw (h, ← ek, lt-ltb k i q))

      pub change_flight : (o : Why) → i ≤ k → o ≡ gives 8 0 → r ≡ flight_or (view l) o → r ≡ told (view l) 1 i
      change_flight o q eo p = p ∙ ap (flight_or (view l)) eo ∙ sym (change_told ∙ rw (h, ← ek, le-ltb k i q))

  rollback_told : told (view l) 3 i
      ≡ cond (done t.rollback.commit) (gives 1 0) (cond (is t.rollback.commit None) (gives 2 0) (flight_or (view l) (on_top (head_at l committed_at).revision.0 i)))
  unfolding view
  rollback_told =
      told_3 (view l) i
      ∙ ap (λ (y : Transaction). cond (done y.rollback.commit) (gives 1 0) (cond (is y.rollback.commit None) (gives 2 0) (flight_or (view l) (on_top (head_at l committed_at).revision.0 i)))) shown

  module _ (x : Bool) (ex : x ≡ done t.rollback.commit) where
    pub rollback_finished : x ≡ true → r ≡ gives 1 0 → r ≡ told (view l) 3 i
    rollback_finished h p = p ∙ sym (rollback_told ∙ rw (← ex, h))

    module _ (h : x ≡ false) (k : ℕ) (ek : k ≡ code_of t.rollback.commit) where
      pub rollback_unasked : k ≡ 0 → r ≡ gives 2 0 → r ≡ told (view l) 3 i
      rollback_unasked z p = p ∙ sym (rollback_told ∙ rw (← ex, h, ← ek, z))

      pub rollback_flight : (hd : Head) (v : ℕ) (o : Why) → (k ≡ 0 → ⊥) → hd ≡ head_at l committed_at → v ≡ hd.revision.0 → o ≡ on_top v i
          → r ≡ flight_or (view l) o → r ≡ told (view l) 3 i
      rollback_flight hd v o z eh ev eo p =
          p ∙ ap (flight_or (view l)) (eo ∙ ap (λ (y : ℕ). on_top y i) (ev ∙ ap (λ (y : Head). y.revision.0) eh))
          ∙ sym (rollback_told ∙ rw (← ex, h, ← ek, ne_eqb k 0 z))

-- ---- each job: a reason where its plan answers 11, else 15
module _ (s : State) (p q : Plan) (j i : ℕ) (r : Why) (e : p ≡ q) where
  pub answers_11 : p.answer ≡ 11 → r ≡ told s j i → r ≡ explained s q j i
  answers_11 h er = er ∙ sym (ap (λ (x : Plan). explained s x j i) (sym e) ∙ rw (eq-eqb p.answer 11 h))

  pub answers_15 : (p.answer ≡ 11 → ⊥) → r ≡ refuses 15 → r ≡ explained s q j i
  answers_15 h er = er ∙ sym (ap (λ (x : Plan). explained s x j i) (sym e) ∙ rw (ne_eqb p.answer 11 h))

-- of a well-formed image the applied ordinal has one after it
pub ordinal_in_holds : (l : List ℕ) (h : Head) → formed l ≡ true → h ≡ head_at l applied_at → h.ordinal.0 ≤ 131070
unfolding view
ordinal_in_holds l h w e = rw e (formed_view l w).applied.ordinal

module _ (l : List ℕ) (i : ℕ) (w : Entry l i) (t : Transaction) (et : t ≡ entry_at l i) (h : Head) (eh : h ≡ head_at l applied_at) (q : Bool) where
  abbrev entry : Transaction
  entry = entry_of (view l).log i

  abbrev head : Head
  head = head_at l applied_at

  here : t ≡ entry
  here = et ∙ sym (entry_of_holds l i w.kept w.last)

  module _ (eq : q ≡ change_quiet t h.ordinal.0 (view l)) (r : Why) (n : ℕ) (o : Bool) (eo : o ≡ line_open_for (view l).net n) (k : Number) (ek : k ≡ num i) (p : Plan) (ep : p ≡ apply_change t h q k o false) where
    asked_2 : q ≡ change_quiet entry head.ordinal.0 (view l)
    asked_2 = eq ∙ ap₂ (λ (x : Transaction) (y : Head). change_quiet x y.ordinal.0 (view l)) here eh

    plan2 : p ≡ job2 (view l) n i false
    unfolding view
    plan2 =
        ep ∙ ap₂ (λ (x : Transaction) (y : Head). apply_change x y q k o false) here eh
        ∙ ap₂ (λ (x : Bool) (y : Number). apply_change entry head x y o false) asked_2 ek
        ∙ ap (λ (x : Bool). apply_change entry head (change_quiet entry head.ordinal.0 (view l)) (num i) x false) eo
        ∙ change_same entry head (view l) (num i) (line_open_for (view l).net n) false

    pub change_11 : p.answer ≡ 11 → r ≡ change_waits t h.ordinal.0 q → r ≡ explained (view l) (job2 (view l) n i false) 2 i
    unfolding view
    change_11 a er =
        answers_11 (view l) p (job2 (view l) n i false) 2 i r plan2 a
        (er ∙ ap₂ (λ (x : Transaction) (y : Head). change_waits x y.ordinal.0 q) here eh
        ∙ ap (change_waits entry head.ordinal.0) asked_2 ∙ change_quiet_told entry head.ordinal.0 (view l) ∙ sym (told_2 (view l) i))

    pub change_15 : (p.answer ≡ 11 → ⊥) → r ≡ refuses 15 → r ≡ explained (view l) (job2 (view l) n i false) 2 i
    change_15 a er = answers_15 (view l) p (job2 (view l) n i false) 2 i r plan2 a er

  module _ (eq : q ≡ rollback_quiet t h.ordinal.0 (view l)) (r : Why) (n : ℕ) (o : Bool) (eo : o ≡ line_open_for (view l).net n) (k : Number) (ek : k ≡ num i) (p : Plan) (ep : p ≡ apply_rollback t h q k o false) where
    asked_4 : q ≡ rollback_quiet entry head.ordinal.0 (view l)
    asked_4 = eq ∙ ap₂ (λ (x : Transaction) (y : Head). rollback_quiet x y.ordinal.0 (view l)) here eh

    plan4 : p ≡ job4 (view l) n i false
    unfolding view
    plan4 =
        ep ∙ ap₂ (λ (x : Transaction) (y : Head). apply_rollback x y q k o false) here eh
        ∙ ap₂ (λ (x : Bool) (y : Number). apply_rollback entry head x y o false) asked_4 ek
        ∙ ap (λ (x : Bool). apply_rollback entry head (rollback_quiet entry head.ordinal.0 (view l)) (num i) x false) eo
        ∙ rollback_same entry head (view l) (num i) (line_open_for (view l).net n) false

    pub rollback_11 : p.answer ≡ 11 → r ≡ rollback_waits t h.ordinal.0 q → r ≡ explained (view l) (job4 (view l) n i false) 4 i
    unfolding view
    rollback_11 a er =
        answers_11 (view l) p (job4 (view l) n i false) 4 i r plan4 a
        (er ∙ ap₂ (λ (x : Transaction) (y : Head). rollback_waits x y.ordinal.0 q) here eh
        ∙ ap (rollback_waits entry head.ordinal.0) asked_4 ∙ rollback_quiet_told entry head.ordinal.0 (view l) ∙ sym (told_4 (view l) i))

    pub rollback_15 : (p.answer ≡ 11 → ⊥) → r ≡ refuses 15 → r ≡ explained (view l) (job4 (view l) n i false) 4 i
    rollback_15 a er = answers_15 (view l) p (job4 (view l) n i false) 4 i r plan4 a er

-- ---- by the job
module _ (s : State) (n j i : ℕ) (r : Why) where
  pub of_1 : j ≡ 1 → r ≡ explained s (job1 s i false) 1 i → r ≡ explained s (plan_of s n j i false) j i
  of_1 e q = q ∙ ap₂ (λ (p : Plan) (m : ℕ). explained s p m i) (plan_1 s n j i false (job1 s i false) e refl) (sym e)

  pub of_2 : (j ≡ 1 → ⊥) → j ≡ 2 → r ≡ explained s (job2 s n i false) 2 i → r ≡ explained s (plan_of s n j i false) j i
  of_2 a e q = q ∙ ap₂ (λ (p : Plan) (m : ℕ). explained s p m i) (plan_2 s n j i false (job2 s n i false) a e refl) (sym e)

  pub of_3 : (j ≡ 1 → ⊥) → (j ≡ 2 → ⊥) → j ≡ 3 → r ≡ explained s (job3 s i) 3 i → r ≡ explained s (plan_of s n j i false) j i
  of_3 a b e q = q ∙ ap₂ (λ (p : Plan) (m : ℕ). explained s p m i) (plan_3 s n j i false (job3 s i) a b e refl) (sym e)

  pub of_4 : (j ≡ 1 → ⊥) → (j ≡ 2 → ⊥) → (j ≡ 3 → ⊥) → (1 ≤ j) × (j ≤ 4) → r ≡ explained s (job4 s n i false) 4 i → r ≡ explained s (plan_of s n j i false) j i
  of_4 a b d m q = let e : 4 ≡ j = omega (arith, m.0, m.1) in q ∙ ap₂ (λ (p : Plan) (m : ℕ). explained s p m i) (plan_4 s n j i false (job4 s n i false) a b d refl) e

-- ---- the refusals
module _ (l : List ℕ) (w : formed l ≡ true) (a j i : ℕ) (fit : Bool) (ef : fit ≡ (is_node a && (leb 1 j && leb j 4))) (r : Why) where
  pub why_2 : fit ≡ false → r ≡ refuses 2 → r ≡ given (why (view l) a j i)
  unfolding why
  why_2 t p = p ∙ rw (formed_state l w, ← ef, t)

  module _ (t : fit ≡ true) (n : ℕ) (x : Bool) (en : n ≡ last_of l) (ex : x ≡ (leb 1 i && leb i n)) where
    pub why_5 : x ≡ false → r ≡ refuses 5 → r ≡ given (why (view l) a j i)
    unfolding why
    why_5 h p = p ∙ rw (formed_state l w, ← ef, t, in_log_holds l w i n x en ex false h)

    module _ (h : x ≡ true) (b : ℕ) (eb : b ≡ folded_of l) where
      pub why_18 : i ≤ b → r ≡ refuses 18 → r ≡ given (why (view l) a j i)
      unfolding why
      why_18 q p = p ∙ rw (formed_state l w, ← ef, t, in_log_holds l w i n x en ex true h, is_kept_holds l w i n x en ex h b eb false (le-ltb b i q))

      module _ (q : b < i) (m : Mastership) (em : m ≡ mastership_of l) where
        master_is : (y : Bool) → eqb m.master a ≡ y → is_master (view l).net a ≡ y
        unfolding view
        master_is y e = ap (λ (z : Mastership). eqb z.master a) (sym em) ∙ e

        pub why_10 : (m.master ≡ a → ⊥) → r ≡ refuses 10 → r ≡ given (why (view l) a j i)
        unfolding why
        why_10 e p =
            p
            ∙ rw (formed_state l w, ← ef, t, in_log_holds l w i n x en ex true h, is_kept_holds l w i n x en ex h b eb true (lt-ltb b i q), master_is false (ne_eqb m.master a e))

        pub why_job : m.master ≡ a → r ≡ explained (view l) (plan_of (view l) a j i false) j i → r ≡ given (why (view l) a j i)
        unfolding why
        why_job e p =
            p
            ∙ rw (formed_state l w, ← ef, t, in_log_holds l w i n x en ex true h, is_kept_holds l w i n x en ex h b eb true (lt-ltb b i q), master_is true (eq-eqb m.master a e))

-- ---- refusal 1, and what follows it
module _ (l : List ℕ) (a j i : ℕ) (b : Bool) (r : Why) (e : b ≡ formed l) where
  pub why_1 : b ≡ false → r ≡ refuses 1 → r ≡ why_of l a j i
  unfolding why_of
  why_1 t p = p ∙ rw (← e, t)

  pub why_then : b ≡ true → r ≡ given (why (view l) a j i) → r ≡ why_of l a j i
  unfolding why_of
  why_then t p = p ∙ rw (← e, t)

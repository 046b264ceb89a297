-- Order 4: the reason given is true of the state and every one before it, of those that the job uses, is false; in a reached
-- state it is never the eighth. That one is given exactly when the job answers 11 is `why_answers` (crate machine, Waits).
-- Assumes nothing.
use Prim.Native.Nat.{ℕ, zero, suc, ◌+◌, ◌≤◌, ◌<◌}
use native.Mathlib.Omega.{arith}
use mathlib.Core.List.{List, [], ◌∷◌}
use mathlib.Core.Bool.{Bool, true, false, not, ◌&&◌, ◌||◌, cond}
use mathlib.Core.Path.{◌≡◌, refl, sym, ap, ◌∙◌, subst}
use lib.Dec.{eqb, ltb, leb}
use borrow.Author.Tests.{eqb-true, eq-eqb, ltb-false, ltb-true, leb-true}
use Rattle.kinds.specs.declared.Transaction.{Transaction}
use Rattle.kinds.specs.declared.Status.{Status}
use Rattle.kinds.specs.declared.Status.TheVariants.{None, Pending, InProgress, Complete, Aborted, Canceled, Failed}
use Rattle.kinds.specs.Statuses.{done, is_complete}
use Rattle.rules.specs.ApplyRollback.{was_tried}
use Rattle.machine.specs.State.{State, entry_of, last, in_log, is_kept, is_node, is_master, line_open_for}
use Rattle.machine.specs.WellFormed.{well_formed}
use Rattle.machine.specs.Settled.{settled}
use Rattle.machine.specs.Rest.{rest_of}
use Rattle.machine.specs.Calls.{Call, present_of, plan_of}
use Rattle.machine.specs.Calls as calls
use Rattle.machine.specs.Step.{run}
use Rattle.machine.proofs.Cases.{and_left, and_right, or_cases, complete_is}
use Rattle.machine.proofs.Kept.{formed, reached_well_formed}
use Rattle.machine.specs.Why.{holds, tried, first_of, reason, named, unsettled, why_not, why}
use Rattle.machine.proofs.Waits.{Waits1, Waits2, Waits3, Waits4, waits1, waits2, waits3, waits4}
use Rattle.history.specs.Ops.{Op, pushed, pushed_low, popped, top, stack, stack_falls, mem, mem_low, standing, top_standing, first, first_rises, or_late, clash, crash}
use Rattle.history.specs.Invariant.{Invariant, complete, change_touched, rollback_touched}
use Rattle.history.specs.Frames.{by_eq, paired}
use Rattle.history.proofs.Applies as applies
use Rattle.history.proofs.Jobs as jobs
use Rattle.history.specs.Whole.{shown, Front}
use Rattle.history.specs.Explained.{Given}
use Rattle.history.proofs.Follow.{entry_seen, plan_seen}
use Rattle.history.proofs.Fronts.{rest_seen, settled_seen}
use Rattle.history.proofs.Reached.{folded}
use Rattle.history.specs.Stages.{Stages}
use Rattle.history.proofs.Staged.{differ, staged}
use Rattle.history.proofs.Places.{op_at_pushed, op_at_popped, push_place}

-- ---- the first of a rising list that holds
unfoldable Rises : ℕ → List ℕ → Type 0
Rises b [] = Unit {0}
Rises b (r ∷ rs) = (b < r) × Rises r rs

rises_above : (b : ℕ) (rs : List ℕ) → Rises b rs → (q : ℕ) → mem q rs ≡ true → b < q
unfolding Rises mem
rises_above b [] h q e = crash e
rises_above b (r ∷ rs) h q e = or_cases (eqb r q) (mem q rs) e (λ x. omega (arith, h.0, eqb-true r q x)) (λ x. omega (arith, h.0, rises_above r rs h.1 q x))

first_before : (f : ℕ → Bool) (b : ℕ) (rs : List ℕ) → Rises b rs → (q : ℕ) → mem q rs ≡ true → q < first_of f rs → f q ≡ false
unfolding first_of Rises mem
first_before f b [] h q e p = crash e
first_before f b (r ∷ rs) h q e p = go (f r) refl p (first_before f r rs h.1 q)
  where
    go : (x : Bool) → f r ≡ x → q < cond x r (first_of f rs) → (mem q rs ≡ true → q < first_of f rs → f q ≡ false) → f q ≡ false
    go true x p k = or_cases (eqb r q) (mem q rs) e (λ y. absurd (omega (arith, eqb-true r q y))) (λ y. absurd (omega (arith, rises_above r rs h.1 q y)))
    go false x p k = or_cases (eqb r q) (mem q rs) e (λ y. ap f (sym (eqb-true r q y)) ∙ x) (λ y. k y p)

first_holds : (f : ℕ → Bool) (rs : List ℕ) → (first_of f rs ≡ 8 → ⊥) → (mem (first_of f rs) rs ≡ true) × (f (first_of f rs) ≡ true)
unfolding first_of mem
first_holds f [] n = absurd (n refl)
first_holds f (r ∷ rs) n = go (f r) refl n (first_holds f rs)
  where
    go : (x : Bool) → f r ≡ x → (cond x r (first_of f rs) ≡ 8 → ⊥) → ((first_of f rs ≡ 8 → ⊥) → (mem (first_of f rs) rs ≡ true) × (f (first_of f rs) ≡ true))
        → (mem (cond x r (first_of f rs)) (r ∷ rs) ≡ true) × (f (cond x r (first_of f rs)) ≡ true)
    go true x n k = (ap (λ b. b || mem r rs) (eq-eqb r r refl), x)
    go false x n k = let y = k n in (or_late (eqb r (first_of f rs)) _ y.0, y.1)

unfoldable rising : ℕ → List ℕ → Bool
rising b [] = true
rising b (r ∷ rs) = ltb b r && rising r rs

rising_so : (b : ℕ) (rs : List ℕ) → rising b rs ≡ true → Rises b rs
unfolding Rises rising
rising_so b [] e = tt
rising_so b (r ∷ rs) e = (ltb-true b r (and_left (ltb b r) (rising r rs) e), rising_so r rs (and_right (ltb b r) (rising r rs) e))

either : (x : Bool) (rs qs : List ℕ) → Rises 0 rs → Rises 0 qs → Rises 0 (cond x rs qs)
either true rs qs h k = h
either false rs qs h k = k

-- whatever lists they are, as long as each rises
rises_tried : (j : ℕ) → Rises 0 (tried j)
unfolding rising
rises_tried j =
    either (eqb j 1) _ _ (rising_so 0 _ refl)
    (either (eqb j 2) _ _ (rising_so 0 _ refl) (either (eqb j 3) _ _ (rising_so 0 _ refl) (rising_so 0 _ refl)))

-- a reason that is not the eighth; and where it is the eighth, none of those that the job uses fits
pub given : (s : State) (j i : ℕ) → (reason s j i ≡ 8 → ⊥) → Given s j i (reason s j i)
given s j i n =
    let x = first_holds (holds s j i) (tried j) n in
    record { used = x.0; fits = x.1; before = first_before (holds s j i) 0 (tried j) (rises_tried j) }

pub none_fits : (s : State) (j i : ℕ) → reason s j i ≡ 8 → (q : ℕ) → mem q (tried j) ≡ true → q < 8 → holds s j i q ≡ false
none_fits s j i e q m p = first_before (holds s j i) 0 (tried j) (rises_tried j) q m (omega (arith, e))

-- ---- in a reached state, an answer 11 has one of the reasons that the job uses
not-false : (b : Bool) → not b ≡ false → b ≡ true
not-false true e = refl
not-false false e = sym e

-- an entry of the log
abbrev pub Says : Transaction → Type 0
Says t = (t.change.commit ≡ None → ⊥) × (t.change.apply ≡ None → ⊥)

module _ {s : State} {ops acts : List Op} {bad : List ℕ} (inv : Invariant s ops acts bad) (st : Stages s) (i : ℕ) where
  abbrev t : Transaction
  t = entry_of s.log i

  abbrev c : ℕ
  c = s.change.0

  abbrev v : ℕ
  v = s.committed.head.revision.0

  abbrev a : ℕ
  a = s.applied.head.ordinal.0

  -- what is committed was passed
  pub committed_low : t.change.commit ≡ Complete → i ≤ c
  committed_low e =
      let x = inv.committed in
      omega (arith, x.newest, pushed_low ops x.rising i ((x.entries i).done ∙ ap (λ z. complete z c i) e))

  -- a commit whose status is yet to be stored: its closing rule holds
  pub closing_is : t.change.commit ≡ InProgress → i ≤ c → c ≡ i
  closing_is e p =
      let x = inv.committed.entries i in
      eqb-true c i (sym (ap (λ z. complete z c i) e) ∙ sym x.done ∙ op_at_pushed ops _ i (x.closing e p).last)

  pub returned_is : t.rollback.commit ≡ InProgress → (i ≡ v → ⊥) → v ≡ t.index.0
  returned_is e p =
      let x = inv.committed.entries i in
      eqb-true v t.index.0 (sym (ap (λ z. complete z v t.index.0) e) ∙ sym x.undone ∙ op_at_popped ops _ i (x.returned e p).last)

  -- a change with a rollback asked and not begun is live, so no newer than the revision
  pub live_asked : t.rollback.commit ≡ Pending → mem i (stack ops) ≡ true
  live_asked e =
      let x = inv.committed.entries i in
      let m : t.change.commit ≡ Complete = ((st.entries i).asked (λ z. differ Pending None refl (sym e ∙ z))).0 in
      let d : pushed i ops ≡ true = x.done ∙ ap (λ z. complete z c i) m in
      let u : popped i ops ≡ false = x.undone ∙ ap (λ z. complete z v t.index.0) e in
      standing ops inv.committed.rising i ∙ ap (λ z. z && not (popped i ops)) d ∙ ap not u

  pub asked_low : t.rollback.commit ≡ Pending → i ≤ v
  asked_low e = omega (arith, mem_low (stack ops) (stack_falls ops inv.committed.rising) i (live_asked e), inv.committed.tip)

  pub eighth_1 : Says t → (y : Bool) → (calls.job1 s i y).answer ≡ 11 → holds s 1 i 1 ≡ false → holds s 1 i 3 ≡ false → holds s 1 i 4 ≡ false → ⊥
  eighth_1 ph y e h1 h3 h4 = go t.change.commit refl
    where
      w : Waits1 t s.committed.head i s.change (rest_of s) (present_of s t) y e
      w = waits1 t s.committed.head i s.change (rest_of s) (present_of s t) y e

      go : (x : Status) → t.change.commit ≡ x → ⊥
      go None p = ph.0 p
      go Pending p = (w.pending p (omega (arith, (st.entries i).waits p, ltb-false (c + 1) i h3))).1 (not-false _ h4)
      go InProgress p = by_eq i (suc c) (w.begun p).0 (λ n. (w.begun p).1 (closing_is p (omega (arith, (inv.committed.entries i).begun p))))
      go Complete p = clash (rw p at h1)
      go Aborted p = clash (rw p at h1)
      go Canceled p = clash (rw p at h1)
      go Failed p = w.failed p (omega (arith, eqb-true (c + 1) i (not-false _ (rw p at h1))))

  pub eighth_3 : (calls.job3 s i).answer ≡ 11 → holds s 3 i 1 ≡ false → holds s 3 i 2 ≡ false → holds s 3 i 4 ≡ false → holds s 3 i 5 ≡ false → ⊥
  eighth_3 e h1 h2 h4 h5 = go t.rollback.commit refl
    where
      w : Waits3 t s.committed.head i (rest_of s) e
      w = waits3 t s.committed.head i (rest_of s) e

      go : (x : Status) → t.rollback.commit ≡ x → ⊥
      go None p = clash (rw p at h2)
      go Pending p = (w.pending p (omega (arith, asked_low p, ltb-false i v h5))).1 (not-false _ h4)
      go InProgress p = by_eq i v (λ n. (w.begun p).0 (sym n)) (λ n. (w.begun p).1 (returned_is p n))
      go Complete p = clash (rw p at h1)
      go Aborted p = clash (rw p at h1)
      go Canceled p = clash (rw p at h1)
      go Failed p = clash (rw p at h1)

  -- what is unsettled is not below o: settled, and o at most the next
  next_only : (o : ℕ) → ltb (unsettled s) o ≡ false → a < o → (settled s ≡ true) × (o ≡ suc a)
  next_only o h p = go (settled s) refl h
    where
      go : (b : Bool) → settled s ≡ b → ltb (cond b (a + 1) a) o ≡ false → (settled s ≡ true) × (o ≡ suc a)
      go true e h = (e, omega (arith, ltb-false (a + 1) o h))
      go false e h = absurd (omega (arith, ltb-false a o h))

  -- a change that is next returns to no less than the applied revision
  under_next : t.change.ordinal.0 ≡ suc a → s.applied.head.revision.0 ≤ t.index.0
  under_next n =
      let side = jobs.side inv in
      omega (arith, (applies.push_link side i n).back, ap top inv.applied.split, applies.held_top side, inv.applied.tip)

  pub eighth_2 : Says t → (n : ℕ) (y : Bool) → (calls.job2 s n i y).answer ≡ 11 → holds s 2 i 1 ≡ false → holds s 2 i 6 ≡ false → holds s 2 i 7 ≡ false → ⊥
  eighth_2 ph n y e h1 h6 h7 = go t.change.apply refl
    where
      m : t.change.commit ≡ Complete
      m = complete_is _ (not-false _ h6)

      w : Waits2 t s.applied.head i (settled s) (line_open_for s.net n) y m e
      w = waits2 t s.applied.head i (settled s) (line_open_for s.net n) y m e

      some : 1 ≤ t.change.ordinal.0
      some = paired t.change.commit Complete t.change.apply t.change.ordinal.0 m (inv.sides i).change

      go : (x : Status) → t.change.apply ≡ x → ⊥
      go None p = ph.1 p
      go Pending p =
          let k = next_only t.change.ordinal.0 h7 ((st.entries i).change.waits m p) in
          omega (arith, w.pending p k.1 k.0, under_next k.1)
      go InProgress p =
          by_eq t.change.ordinal.0 (suc a) (w.begun p).0
          (λ z. (w.begun p).1 some (omega (arith, (st.entries i).change.goes p, (inv.applied.entries i).change.low (ap change_touched p))))
      go Complete p = clash (rw p at h1)
      go Aborted p = w.aborted p (omega (arith, eqb-true (a + 1) t.change.ordinal.0 (and_right (is_complete t.change.commit) _ (not-false _ (rw p at h1)))))
      go Canceled p = clash (rw p at h1)
      go Failed p = w.failed p (omega (arith, eqb-true (a + 1) t.change.ordinal.0 (and_right (is_complete t.change.commit) _ (not-false _ (rw p at h1)))))

  -- the change of a rollback that is next was passed
  change_passed : t.rollback.ordinal.0 ≡ suc a → 1 ≤ t.change.ordinal.0 → t.change.ordinal.0 ≤ a
  change_passed n q = go t.change.ordinal.0 refl q
    where
      go : (o : ℕ) → t.change.ordinal.0 ≡ o → 1 ≤ o → o ≤ a
      go zero e q = absurd (omega arith)
      go (suc o) e q =
          let side = jobs.side inv in
          push_place ops inv.committed.rising (suc o) a i ((inv.numbered i).change o e)
          (and_left (pushed i (first ops a)) _ (top_standing (first ops a) (first_rises ops a inv.committed.rising) i (applies.pop_under side i n)))

  pub eighth_4 : Says t → (n : ℕ) (y : Bool) → (calls.job4 s n i y).answer ≡ 11 → holds s 4 i 1 ≡ false → holds s 4 i 6 ≡ false → holds s 4 i 7 ≡ false → ⊥
  eighth_4 ph n y e h1 h6 h7 = go t.rollback.apply refl
    where
      m : t.rollback.commit ≡ Complete
      m = complete_is _ (not-false _ h6)

      w : Waits4 t s.applied.head i (settled s) (line_open_for s.net n) y m e
      w = waits4 t s.applied.head i (settled s) (line_open_for s.net n) y m e

      some : 1 ≤ t.rollback.ordinal.0
      some = paired t.rollback.commit Complete t.rollback.apply t.rollback.ordinal.0 m (inv.sides i).rollback

      ask : (t.change.commit ≡ Complete) × (t.rollback.apply ≡ None → ⊥)
      ask = (st.entries i).asked (λ z. differ Complete None refl (sym m ∙ z))

      from : 1 ≤ t.change.ordinal.0
      from = paired t.change.commit Complete t.change.apply t.change.ordinal.0 ask.0 (inv.sides i).change

      tries : t.rollback.apply ≡ Pending → settled s ≡ true → t.rollback.ordinal.0 ≡ suc a → (x : Status) → t.change.apply ≡ x → ⊥
      tries p q o None x = ph.1 x
      tries p q o Pending x = omega (arith, (st.entries i).change.waits ask.0 x, change_passed o from)
      tries p q o InProgress x = (jobs.settled_quiet inv q i).change x (omega (arith, (st.entries i).change.goes x, change_passed o from))
      tries p q o Complete x = w.tried p o (ap was_tried x) q
      tries p q o Aborted x = w.aborted p o x q
      tries p q o Canceled x = differ Complete Failed refl (sym ask.0 ∙ (st.entries i).canceled x)
      tries p q o Failed x = w.tried p o (ap was_tried x) q

      go : (x : Status) → t.rollback.apply ≡ x → ⊥
      go None p = ask.1 p
      go Pending p = let k = next_only t.rollback.ordinal.0 h7 ((st.entries i).rollback.waits m p) in tries p k.0 k.1 t.change.apply refl
      go InProgress p =
          by_eq t.rollback.ordinal.0 (suc a) (w.begun p).0
          (λ z. (w.begun p).1 some (omega (arith, (st.entries i).rollback.goes p, (inv.applied.entries i).rollback.low (ap rollback_touched p))))
      go Complete p = clash (rw p at h1)
      go Aborted p = clash (rw p at h1)
      go Canceled p = w.canceled p (omega (arith, eqb-true (a + 1) t.rollback.ordinal.0 (and_right (is_complete t.rollback.commit) _ (not-false _ (rw p at h1)))))
      go Failed p = clash (rw p at h1)

  -- ---- all four
  pub never_eighth : Says t → (n j : ℕ) → 1 ≤ j → j ≤ 4 → (y : Bool) → (plan_of s n j i y).answer ≡ 11 → reason s j i ≡ 8 → ⊥
  unfolding plan_of mem
  never_eighth ph n zero p q y e f = omega arith
  never_eighth ph n (suc zero) p q y e f = eighth_1 ph y e (none_fits s 1 i f 1 refl (omega arith)) (none_fits s 1 i f 3 refl (omega arith)) (none_fits s 1 i f 4 refl (omega arith))
  never_eighth ph n (suc (suc zero)) p q y e f = eighth_2 ph n y e (none_fits s 2 i f 1 refl (omega arith)) (none_fits s 2 i f 6 refl (omega arith)) (none_fits s 2 i f 7 refl (omega arith))
  never_eighth ph n (suc (suc (suc zero))) p q y e f =
      eighth_3 e (none_fits s 3 i f 1 refl (omega arith)) (none_fits s 3 i f 2 refl (omega arith)) (none_fits s 3 i f 4 refl (omega arith)) (none_fits s 3 i f 5 refl (omega arith))
  never_eighth ph n (suc (suc (suc (suc zero)))) p q y e f = eighth_4 ph n y e (none_fits s 4 i f 1 refl (omega arith)) (none_fits s 4 i f 6 refl (omega arith)) (none_fits s 4 i f 7 refl (omega arith))
  never_eighth ph n (suc (suc (suc (suc (suc j))))) p q y e f = absurd (omega arith)

-- ---- the theorems
-- where a reason is given: what the refusals before it tell
pub record Asked (s : State) (n j i : ℕ) : Type 0 where
  pub job : (1 ≤ j) × (j ≤ 4)
  pub number : (s.log.folded.0 < i) × (i ≤ last s.log)
  pub waits : (plan_of s n j i false).answer ≡ 11
  pub gives : (why s n j i).reason ≡ reason s j i
  pub names : (why s n j i).named ≡ named s j i (reason s j i)

pub asked : (s : State) (n j i : ℕ) → (why s n j i).answer ≡ 0 → Asked s n j i
unfolding why
asked s n j i e =
    let v = is_node n && (leb 1 j && leb j 4) in
    let k = go (well_formed s) v (in_log s i) (is_kept s i) (is_master s.net n) (eqb (plan_of s n j i false).answer 11) e in
    let jk : (leb 1 j && leb j 4) ≡ true = and_right (is_node n) _ k.0 in
    record {
      job = (leb-true 1 j (and_left (leb 1 j) _ jk), leb-true j 4 (and_right (leb 1 j) _ jk));
      number = (ltb-true _ i k.2, leb-true i _ (and_right (leb 1 i) _ k.1));
      waits = eqb-true (plan_of s n j i false).answer 11 k.3;
      gives = k.4;
      names = k.5;
    }
  where
    go : (w v l z m x : Bool)
        → (let r = reason s j i in
        let o = why_not 1 w (why_not 2 v (why_not 5 l (why_not 18 z (why_not 10 m (why_not 15 x (record { answer = 0; reason = r; named = named s j i r })))))) in
        o.answer ≡ 0 → (v ≡ true) × (l ≡ true) × (z ≡ true) × (x ≡ true) × (o.reason ≡ r) × (o.named ≡ named s j i r))
    go false v l z m x e = absurd (omega arith)
    go true false l z m x e = absurd (omega arith)
    go true true false z m x e = absurd (omega arith)
    go true true true false m x e = absurd (omega arith)
    go true true true true false x e = absurd (omega arith)
    go true true true true true false e = absurd (omega arith)
    go true true true true true true e = (refl, refl, refl, refl, refl, refl)

-- ---- with the first b folded away
first_same : (f g : ℕ → Bool) → ((r : ℕ) → f r ≡ g r) → (rs : List ℕ) → first_of f rs ≡ first_of g rs
unfolding first_of
first_same f g h [] = refl
first_same f g h (r ∷ rs) = ap (λ b. cond b r (first_of f rs)) (h r) ∙ ap (λ k. cond (g r) r k) (first_same f g h rs)

module _ {w : State} {ops acts : List Op} {bad : List ℕ} (inv : Invariant w ops acts bad) (st : Stages w) (b : ℕ) (vs : List ℕ) (f : Front w.log b vs) where
  module _ (i : ℕ) (q : b < i) where
    pub holds_seen : (j r : ℕ) → holds (shown w b vs) j i r ≡ holds w j i r
    holds_seen j r = rw (entry_seen w b vs f i q, rest_seen inv b vs f, settled_seen inv b vs f) refl

    pub reason_seen : (j : ℕ) → reason (shown w b vs) j i ≡ reason w j i
    reason_seen j = first_same (holds (shown w b vs) j i) (holds w j i) (holds_seen j) (tried j)

    pub idle_seen : (n j : ℕ) (y : Bool) → (plan_of (shown w b vs) n j i y).answer ≡ 11 → (plan_of w n j i y).answer ≡ 11
    idle_seen n j y e = sym (ap (λ p. p.answer) (plan_seen w b vs f (rest_seen inv b vs f) (settled_seen inv b vs f) n j i y q)) ∙ e

  -- an entry kept says something, in a state that is well-formed
  pub says_seen : well_formed (shown w b vs) ≡ true → (k : ℕ) → b < k → k ≤ last (shown w b vs).log → Says (entry_of w.log k)
  says_seen o k p q = (st.entries k).some (subst (λ t. 1 ≤ t.phase) (entry_seen w b vs f k p) ((formed (shown w b vs) o).entries k p q).phase.0)

  none_eighth : well_formed (shown w b vs) ≡ true → (n j i : ℕ) → (why (shown w b vs) n j i).answer ≡ 0 → (why (shown w b vs) n j i).reason ≡ 8 → ⊥
  none_eighth o n j i e g =
      let k = asked (shown w b vs) n j i e in
      never_eighth inv st i (says_seen o i k.number.0 k.number.1) n j k.job.0 k.job.1 false (idle_seen i k.number.0 n j false k.waits)
      (sym (reason_seen i k.number.0 j) ∙ sym k.gives ∙ g)

module _ (m : Bool) (cs : List Call) (n j i : ℕ) (e : (why (run m cs).state n j i).answer ≡ 0) where
  -- the eighth is never given in a reached state
  pub no_eighth : (why (run m cs).state n j i).reason ≡ 8 → ⊥
  no_eighth =
      let x = folded m cs in
      subst (λ s. well_formed s ≡ true → (why s n j i).answer ≡ 0 → (why s n j i).reason ≡ 8 → ⊥) (sym x.shows)
      (λ o. none_eighth x.reached.inv (staged m cs) x.fold x.base x.front o n j i) (reached_well_formed m cs) e

  -- the reason given is true of the state, and every one before it, of those that the job uses, is false
  pub reason_given : Given (run m cs).state j i (why (run m cs).state n j i).reason
  reason_given =
      let s = (run m cs).state in
      let k = asked s n j i e in
      subst (Given s j i) (sym k.gives) (given s j i (λ f. no_eighth (k.gives ∙ f)))

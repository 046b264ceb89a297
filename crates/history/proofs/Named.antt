-- Order 4, what the reasons name: the number in flight is of a commit that is in flight, and another than the one asked
-- for; the number on top is of the newest live change; the ordinal was given out, is below the job's own, and one that is kept
-- carries it (Carried). Assumes nothing.
use Prim.Native.Nat.{ℕ, zero, suc, ◌+◌, ◌-◌, ◌≤◌, ◌<◌}
use native.Mathlib.Omega.{arith}
use mathlib.Core.List.{List, [], ◌∷◌}
use mathlib.Core.Bool.{Bool, true, false, not, ◌||◌, cond}
use mathlib.Core.Path.{◌≡◌, refl, sym, ap, ◌∙◌, subst}
use lib.Dec.{eqb, ltb, leb}
use lib.ListN.{length, get_or}
use borrow.Author.Tests.{eqb-false, lt-ltb, lt-leb, ltb-true, leb-true, leb-false}
use Rattle.kinds.specs.declared.Transaction.{Transaction}
use Rattle.kinds.specs.declared.Status.{Status}
use Rattle.kinds.specs.declared.Status.TheVariants.{None, Pending, InProgress, Complete, Aborted, Canceled, Failed}
use Rattle.kinds.specs.Statuses.{done, code_of}
use Rattle.machine.specs.State.{State, blank, place_of, entry_of, last}
use Rattle.machine.specs.WellFormed.{all_entries, well_formed}
use Rattle.machine.specs.Rest.{rest_of}
use Rattle.machine.specs.Calls.{Call, plan_of, present_of}
use Rattle.machine.specs.Settled.{entry_settled, settled}
use Rattle.machine.specs.Step.{run}
use Rattle.machine.proofs.Kept.{formed, reached_well_formed}
use Rattle.machine.specs.Calls as calls
use Rattle.machine.proofs.Cases.{or_cases}
use Rattle.machine.specs.Why.{is, ordinal, unsettled, holds, tried, first_of, commit_goes, lowest, lowest_in, in_flight, named, why}
use Rattle.machine.proofs.Waits.{Waits1, Waits3, waits1, waits3}
use Rattle.history.specs.Ops.{Op, ops_of, stack, stack_falls, mem, mem_low, mem_first, on_top_holds, clash, crash}
use Rattle.history.specs.Invariant.{Invariant, Committed}
use Rattle.history.specs.Frames.{by_eq, by_bool, some_change, some_rollback, paired}
use Rattle.history.proofs.Commits.{tip_back, asked}
use Rattle.history.specs.Stages.{Mode, rests, flies, closes, returns, closes_back, Stages}
use Rattle.history.proofs.Staged.{differ, staged}
use Rattle.history.specs.Demand3.{live}
use Rattle.history.specs.Whole.{whole, shown, Front, Passed}
use Rattle.history.specs.Explained.{Given, otherwise, Flies, flying, going, returning, InFlight, OnTop, Carried, EarlierOrdinal, Names}
use Rattle.history.proofs.Follow.{entry_seen, last_seen}
use Rattle.history.proofs.Fronts.{ways, rest_seen}
use Rattle.history.proofs.Reached.{Folded, folded, live_committed}
use Rattle.history.proofs.Ordinals.{AtMostTwice, ordinals_at_most_twice}
use Rattle.history.proofs.Carried.{applied_carried, next_carried}
use Rattle.history.proofs.Reasons.{Says, Asked, committed_low, closing_is, returned_is, holds_seen, idle_seen, says_seen, no_eighth, reason_given}
use Rattle.history.proofs.Reasons as reasons

-- ---- the lowest entry that a test holds of
lowest_cases : {R : Type 0} (p : Transaction → Bool) (k : ℕ) (l : List Transaction) (d : ℕ)
    → ((j : ℕ) → p (get_or l j blank) ≡ true → lowest p k l d ≡ k + j → R)
    → (lowest p k l d ≡ d → ((j : ℕ) → j < length l → p (get_or l j blank) ≡ false) → R)
    → R
unfolding lowest
lowest_cases p k [] d f g = g refl (λ j b. absurd (omega arith))
lowest_cases {R} p k (t ∷ ts) d f g = go (p t) refl f g (lowest_cases p (k + 1) ts d)
  where
    go : (b : Bool) → p t ≡ b → ((j : ℕ) → p (get_or (t ∷ ts) j blank) ≡ true → cond b k (lowest p (k + 1) ts d) ≡ k + j → R)
        → (cond b k (lowest p (k + 1) ts d) ≡ d → ((j : ℕ) → j < length (t ∷ ts) → p (get_or (t ∷ ts) j blank) ≡ false) → R)
        → (((j : ℕ) → p (get_or ts j blank) ≡ true → lowest p (k + 1) ts d ≡ k + 1 + j → R) → (lowest p (k + 1) ts d ≡ d → ((j : ℕ) → j < length ts → p (get_or ts j blank) ≡ false) → R) → R)
        → R
    go true e f g r = f 0 e (omega arith)
    go false e f g r = r (λ j x y. f (suc j) x (omega (arith, y))) (λ x y. g x (all e y))
      where
        all : p t ≡ false → ((j : ℕ) → j < length ts → p (get_or ts j blank) ≡ false) → (j : ℕ) → j < length (t ∷ ts) → p (get_or (t ∷ ts) j blank) ≡ false
        all e y zero b = e
        all e y (suc j) b = y j (omega arith)

going_change : (t : Transaction) → t.change.commit ≡ InProgress → commit_goes t ≡ true
going_change t e = rw e

going_rollback : (t : Transaction) → t.rollback.commit ≡ InProgress → commit_goes t ≡ true
going_rollback t e = go (is t.change.commit InProgress)
  where
    go : (b : Bool) → (b || is t.rollback.commit InProgress) ≡ true
    go true = refl
    go false = rw e

in_progress : (x : Status) → is x InProgress ≡ true → x ≡ InProgress
in_progress None e = crash e
in_progress Pending e = crash e
in_progress InProgress e = refl
in_progress Complete e = crash e
in_progress Aborted e = crash e
in_progress Canceled e = crash e
in_progress Failed e = crash e

-- one of the two
goes_cases : {R : Type 0} (t : Transaction) → commit_goes t ≡ true → (t.change.commit ≡ InProgress → R) → (t.rollback.commit ≡ InProgress → R) → R
goes_cases t e f g = or_cases (is t.change.commit InProgress) _ e (λ x. f (in_progress _ x)) (λ x. g (in_progress _ x))

module _ {w : State} {ops acts : List Op} {bad : List ℕ} (inv : Invariant w ops acts bad) (st : Stages w) (b : ℕ) (vs : List ℕ) (f : Front w.log b vs) (done-up : Passed w b) where
  abbrev c : ℕ
  c = w.change.0

  abbrev v : ℕ
  v = w.committed.head.revision.0

  abbrev en : ℕ → Transaction
  en k = entry_of w.log k

  abbrev s : State
  s = shown w b vs

  -- ---- what is in flight is kept
  over : {A : Type 0} (k : ℕ) → 1 ≤ k → k ≤ b → (x : Status) → eqb (code_of x) (code_of Failed) ≡ false → eqb (code_of x) (code_of Complete) ≡ false → (en k).change.commit ≡ x → A
  over k p q x y z e =
      ways inv k (f.finished k p q) (λ g h u. differ x Failed y (sym e ∙ g)) (λ g h i u. differ x Complete z (sym e ∙ g)) (λ g h i u. differ x Complete z (sym e ∙ g)) (λ g h i u. differ x Complete z (sym e ∙ g))

  over_back : {A : Type 0} (k : ℕ) → 1 ≤ k → k ≤ b → (x : Status) → eqb (code_of x) (code_of None) ≡ false → eqb (code_of x) (code_of Complete) ≡ false → (en k).rollback.commit ≡ x → A
  over_back k p q x y z e =
      ways inv k (f.finished k p q) (λ g h u. differ x None y (sym e ∙ u.commit)) (λ g h i u. differ x None y (sym e ∙ u.commit)) (λ g h i u. differ x Complete z (sym e ∙ h)) (λ g h i u. differ x Complete z (sym e ∙ h))

  kept_change : (k : ℕ) → (en k).change.commit ≡ InProgress → b < k
  kept_change k e =
      by_bool (leb k b) (λ x. over k (some_change w.log k (λ z. differ InProgress None refl (sym e ∙ z))) (leb-true k b x) InProgress refl refl e) (λ x. leb-false k b x)

  kept_back : (k : ℕ) (x : Status) → eqb (code_of x) (code_of None) ≡ false → eqb (code_of x) (code_of Complete) ≡ false → (en k).rollback.commit ≡ x → b < k
  kept_back k x y z e =
      by_bool (leb k b) (λ u. over_back k (some_rollback w.log k (λ n. differ x None y (sym e ∙ n))) (leb-true k b u) x y z e) (λ u. leb-false k b u)

  -- the target not above change: the lowest in progress, or else the revision
  below : w.committed.head.target.0 ≤ c → InFlight s (lowest_in commit_goes s.log v) → InFlight s (in_flight s)
  below d g = rw (lt-leb (suc c) w.committed.head.target.0 (omega arith)) g

  abbrev NoneKept : Type 0
  NoneKept = (j : ℕ) → j < length s.log.entries → commit_goes (get_or s.log.entries j blank) ≡ false

  low : (NoneKept → InFlight s v) → InFlight s (lowest_in commit_goes s.log v)
  low g =
      lowest_cases commit_goes (b + 1) s.log.entries v
      (λ j e h.
      let y : b + 1 + j - b ≡ suc j = omega arith in
      rw h (record { kept = omega arith; flies = going (subst (λ n. commit_goes (place_of s.log.entries n) ≡ true) (sym y) e) })) (λ e h. rw e (g h))

  -- what is in progress is not passed over
  found : {R : Type 0} (k : ℕ) → b < k → k ≤ last w.log → commit_goes (en k) ≡ true → NoneKept → R
  found {R} k p q e g = go (k - b) refl (ap commit_goes (entry_seen w b vs f k p) ∙ e)
    where
      go : (j : ℕ) → k - b ≡ j → commit_goes (place_of s.log.entries j) ≡ true → R
      go zero x y = absurd (omega arith)
      go (suc j) x y = clash (sym y ∙ g j (omega (arith, last_seen w b vs f)))

  -- the number named is of a commit in flight
  pub in_flight_holds : rest_of w ≡ false → InFlight s (in_flight s)
  in_flight_holds r = by_mode st.mode
    where
      co : Committed w.log c w.committed ops
      co = inv.committed

      by_mode : Mode w.log c w.committed.head → InFlight s (in_flight s)
      by_mode (rests e) = clash (sym e ∙ r)
      by_mode (flies e d) =
          rw (lt-ltb c w.committed.head.target.0 (omega arith))
          (record { kept = omega (arith, done-up.change); flies = flying e (omega (arith, last_seen w b vs f)) refl })
      by_mode (closes k e d) =
          below (omega (arith, ((co.entries k).closing e d).target)) (low (found k (kept_change k e) (omega (arith, co.high)) (going_change (en k) e)))
      by_mode (returns e g h) =
          let p : 1 ≤ v = some_rollback w.log v g in
          below (omega (arith, tip_back co v refl p, co.low, co.mid)) (low (λ x. waits e g h x (en v).rollback.commit refl))
        where
          waits : w.committed.head.target.0 ≡ (en v).index.0 → ((en v).rollback.commit ≡ None → ⊥) → done (en v).rollback.commit ≡ false
              → NoneKept
              → (x : Status)
              → (en v).rollback.commit ≡ x
              → InFlight s v
          waits e g h n None x = absurd (g x)
          waits e g h n Pending x =
              let q = kept_back v Pending refl refl x in
              let y : entry_of s.log v ≡ en v = entry_seen w b vs f v q in
              record { kept = q; flies = returning refl (ap (λ t. t.rollback.commit) y ∙ x) (e ∙ sym (ap (λ t. t.index.0) y)) }
          waits e g h n InProgress x = found v (kept_back v InProgress refl refl x) (omega (arith, co.low, co.mid, co.high)) (going_rollback (en v) x) n
          waits e g h n Complete x = clash (sym (ap done x) ∙ h)
          waits e g h n Aborted x = clash (sym (ap done x) ∙ h)
          waits e g h n Canceled x = clash (sym (ap done x) ∙ h)
          waits e g h n Failed x = clash (sym (ap done x) ∙ h)
      by_mode (closes_back k e g) =
          below (omega (arith, ((co.entries k).returned e g).target, co.low, co.mid)) (low (found k (kept_back k InProgress refl refl e) (omega (arith, asked co k e, co.high)) (going_rollback (en k) e)))

-- ---- and it is another than the one asked for
module _ {s : State} {ops acts : List Op} {bad : List ℕ} (inv : Invariant s ops acts bad) (st : Stages s) (i : ℕ) where
  abbrev tx : Transaction
  tx = entry_of s.log i

  not_itself_1 : Says tx → (y : Bool) → (calls.job1 s i y).answer ≡ 11 → holds s 1 i 1 ≡ false → Flies s i → ⊥
  not_itself_1 ph y e h = by
    where
      w : Waits1 tx s.committed.head i s.change (rest_of s) (present_of s tx) y e
      w = waits1 tx s.committed.head i s.change (rest_of s) (present_of s tx) y e

      -- a change with a rollback is committed, so finished
      finished : (tx.rollback.commit ≡ None → ⊥) → ⊥
      finished f = clash (rw ((st.entries i).asked f).0 at h)

      by : Flies s i → ⊥
      by (flying n b g) = go tx.change.commit refl
        where
          go : (x : Status) → tx.change.commit ≡ x → ⊥
          go None p = ph.0 p
          go Pending p = (w.pending p n).0 g
          go InProgress p = (w.begun p).0 n
          go Complete p = omega (arith, committed_low inv st i p)
          go Aborted p = paired tx.change.commit Aborted _ _ p (inv.sides i).change
          go Canceled p = paired tx.change.commit Canceled _ _ p (inv.sides i).change
          go Failed p = w.failed p n
      by (going g) =
          goes_cases tx g
          (λ p. by_eq i (suc s.change.0) (w.begun p).0 (λ z. (w.begun p).1 (closing_is inv st i p (omega (arith, (inv.committed.entries i).begun p)))))
          (λ p. finished (λ z. differ InProgress None refl (sym p ∙ z)))
      by (returning n p g) = finished (λ z. differ Pending None refl (sym p ∙ z))

  not_itself_3 : (calls.job3 s i).answer ≡ 11 → holds s 3 i 2 ≡ false → Flies s i → ⊥
  not_itself_3 e h = by
    where
      w : Waits3 tx s.committed.head i (rest_of s) e
      w = waits3 tx s.committed.head i (rest_of s) e

      m : tx.change.commit ≡ Complete
      m = ((st.entries i).asked (λ z. clash (rw z at h))).0

      by : Flies s i → ⊥
      by (flying n b g) = omega (arith, committed_low inv st i m)
      by (going g) =
          goes_cases tx g (λ p. differ InProgress Complete refl (sym p ∙ m))
          (λ p. by_eq i s.committed.head.revision.0 (λ z. (w.begun p).0 (sym z)) (λ z. (w.begun p).1 (returned_is inv st i p z)))
      by (returning n p g) = (w.pending p (sym n)).0 g

  -- the revision above a number is a change that stands
  revision_stands : i < s.committed.head.revision.0 → mem s.committed.head.revision.0 (stack ops) ≡ true
  revision_stands b =
      let v = s.committed.head.revision.0 in subst (λ ks. mem v ks ≡ true) (sym (on_top_holds (stack ops) v (sym inv.committed.tip) (omega arith))) (mem_first v _)

-- ---- the theorems
module _ {w : State} {ops acts : List Op} {bad : List ℕ} (inv : Invariant w ops acts bad) (st : Stages w) (b : ℕ) (vs : List ℕ) (f : Front w.log b vs) where
  -- what flies in what is shown, by a number kept, flies in the whole
  flies_whole : (k : ℕ) → b < k → Flies (shown w b vs) k → Flies w k
  flies_whole k q (flying e d g) = flying e (omega (arith, last_seen w b vs f)) g
  flies_whole k q (going e) = going (sym (ap commit_goes (entry_seen w b vs f k q)) ∙ e)
  flies_whole k q (returning e d g) =
      let y : entry_of (shown w b vs).log k ≡ entry_of w.log k = entry_seen w b vs f k q in
      returning e (sym (ap (λ t. t.rollback.commit) y) ∙ d) (g ∙ ap (λ t. t.index.0) y)

  not_itself : well_formed (shown w b vs) ≡ true → (n i j : ℕ) → Asked (shown w b vs) n j i → Given (shown w b vs) j i 4 → Flies (shown w b vs) i → ⊥
  unfolding plan_of mem
  not_itself o n i zero k g x = absurd (omega (arith, k.job.0))
  not_itself o n i (suc zero) k g x =
      not_itself_1 inv st i (says_seen inv st b vs f o i k.number.0 k.number.1) false (idle_seen inv st b vs f i k.number.0 n 1 false k.waits)
      (sym (holds_seen inv st b vs f i k.number.0 1 1) ∙ g.before 1 refl (omega arith)) (flies_whole i k.number.0 x)
  not_itself o n i (suc (suc zero)) k g x = crash g.used
  not_itself o n i (suc (suc (suc zero))) k g x =
      not_itself_3 inv st i (idle_seen inv st b vs f i k.number.0 n 3 false k.waits) (sym (holds_seen inv st b vs f i k.number.0 3 2) ∙ g.before 2 refl (omega arith))
      (flies_whole i k.number.0 x)
  not_itself o n i (suc (suc (suc (suc zero)))) k g x = crash g.used
  not_itself o n i (suc (suc (suc (suc (suc j))))) k g x = absurd (omega (arith, k.job.1))

-- reason 4: a commit is in flight, it is kept, and it is another
pub another : (m : Bool) (cs : List Call) (n i j : ℕ) → (why (run m cs).state n j i).answer ≡ 0 → (why (run m cs).state n j i).reason ≡ 4
    → InFlight (run m cs).state (why (run m cs).state n j i).named × ((why (run m cs).state n j i).named ≡ i → ⊥)
another m cs n i j e g =
    let x = folded m cs in
    subst (λ s. well_formed s ≡ true → (a : (why s n j i).answer ≡ 0) → (why s n j i).reason ≡ 4 → Given s j i 4 → InFlight s (why s n j i).named × ((why s n j i).named ≡ i → ⊥)) (sym x.shows)
    (seen x) (reached_well_formed m cs) e g (subst (Given (run m cs).state j i) g (reason_given m cs n j i e))
  where
    seen : (x : Folded m cs)
        → (let s = shown (whole m cs) x.fold x.base in
        well_formed s ≡ true → (a : (why s n j i).answer ≡ 0) → (why s n j i).reason ≡ 4 → Given s j i 4 → InFlight s (why s n j i).named × ((why s n j i).named ≡ i → ⊥))
    seen x o a r h =
        let s = shown (whole m cs) x.fold x.base in
        let i4 = x.reached.inv in
        let k = reasons.asked s n j i a in
        let name : (why s n j i).named ≡ in_flight s = k.names ∙ ap (named s j i) (sym k.gives ∙ r) in
        let flight : InFlight s (in_flight s)
        = in_flight_holds i4 (staged m cs) x.fold x.base x.front x.passed (sym (rest_seen i4 x.fold x.base x.front) ∙ moving (rest_of s) h.fits) in (
          subst (InFlight s) (sym name) flight,
          (λ z. not_itself i4 (staged m cs) x.fold x.base x.front o n i j k h (subst (InFlight s) (sym name ∙ z) flight).flies),
        )
      where
        moving : (b : Bool) → not b ≡ true → b ≡ false
        moving true e = sym e
        moving false e = refl

-- reason 5: the revision above a number is the newest live change
pub newest_on_top : (m : Bool) (cs : List Call) (i k : ℕ) → (let s = (run m cs).state in k ≡ s.committed.head.revision.0 → i < k → OnTop s (run m cs).events i k)
newest_on_top m cs i k e b =
    let x = folded m cs in
    let v : k ≡ (whole m cs).committed.head.revision.0 = e ∙ ap (λ s. s.committed.head.revision.0) x.shows in
    let co = x.reached.inv.committed in
    let ks = stack (ops_of Complete 1 (run m cs).events) in
    let on : (n : ℕ) → mem n ks ≡ live (run m cs).events 1 n = live_committed (whole m cs) (run m cs).events x.reached in
    record {
      revision = e;
      later = b;
      stands = sym (on k) ∙ subst (λ n. mem n ks ≡ true) (sym v) (revision_stands x.reached.inv (staged m cs) i (omega arith));
      newest = λ n l. omega (arith, mem_low ks (stack_falls _ co.rising) n (on n ∙ l), co.tip);
    }

-- reason 7: an ordinal that was given out
own_low : (s : State) (j i : ℕ) → AtMostTwice s → ordinal s j i ≤ s.committed.head.ordinal.0
own_low s j i h = by (eqb j 1) (eqb j 2) (eqb j 3)
  where
    by : (a b c : Bool) → (let t = entry_of s.log i in
        cond a t.change.ordinal.0 (cond b t.change.ordinal.0 (cond c t.rollback.ordinal.0 t.rollback.ordinal.0)) ≤ s.committed.head.ordinal.0)
    by true b c = h.changes i
    by false true c = h.changes i
    by false false true = h.rollbacks i
    by false false false = h.rollbacks i

unsettled_some : (s : State) → 1 ≤ unsettled s
unsettled_some s =
    let a = s.applied.head.ordinal.0 in by a (eqb a 0) refl (all_entries (entry_settled a) s.log)
  where
    by : (a : ℕ) (z : Bool) → eqb a 0 ≡ z → (b : Bool) → 1 ≤ cond (z || b) (a + 1) a
    by a true e b = omega arith
    by a false e true = omega arith
    by a false e false = let h = eqb-false a 0 e in by_zero a h
      where
        by_zero : (a : ℕ) → (a ≡ 0 → ⊥) → 1 ≤ a
        by_zero zero h = absurd (h refl)
        by_zero (suc a) h = omega arith

earlier_ordinal : (m : Bool) (cs : List Call) (j i k : ℕ) → (let s = (run m cs).state in k ≡ unsettled s → k < ordinal s j i → EarlierOrdinal s j i k)
earlier_ordinal m cs j i k e p =
    let s = (run m cs).state in
    let low : k < s.committed.head.ordinal.0 = omega (arith, own_low s j i (ordinals_at_most_twice m cs)) in
    let applied : settled s ≡ false → k ≡ s.applied.head.ordinal.0 = λ u. e ∙ rw u in
    let after : settled s ≡ true → k ≡ suc s.applied.head.ordinal.0 = λ u. e ∙ rw u (omega arith) in
    record {
      given = (omega (arith, unsettled_some s), omega arith);
      below = p;
      applied = applied;
      after = after;
      carried =
          by_bool (settled s) (λ u. subst (Carried s) (sym (after u)) (next_carried m cs (omega (arith, after u))))
          (λ u. subst (Carried s) (sym (applied u)) (applied_carried s u));
    }

-- ---- all of them
pub names : (m : Bool) (cs : List Call) (n j i : ℕ) → (let s = (run m cs).state in (why s n j i).answer ≡ 0 → Names s (run m cs).events j i (why s n j i).reason (why s n j i).named)
names m cs n j i e =
    let s = (run m cs).state in
    let k = reasons.asked s n j i e in
    let r = (why s n j i).reason in
    let g : Given s j i r = reason_given m cs n j i e in
    let name : (q : ℕ) → r ≡ q → (why s n j i).named ≡ named s j i q = λ q x. k.names ∙ ap (named s j i) (sym k.gives ∙ x) in
    let fits : (q : ℕ) → r ≡ q → holds s j i q ≡ true = λ q x. subst (λ y. holds s j i y ≡ true) x g.fits in
    record {
      earlier = λ x. (omega (arith, name 3 x), omega (arith, name 3 x, ltb-true (s.change.0 + 1) i (fits 3 x)));
      flight = λ x. another m cs n i j e x;
      top = λ x. newest_on_top m cs i _ (name 5 x) (omega (arith, name 5 x, ltb-true i s.committed.head.revision.0 (fits 5 x)));
      ordinal = λ x. earlier_ordinal m cs j i _ (name 7 x) (omega (arith, name 7 x, ltb-true (unsettled s) (ordinal s j i) (fits 7 x)));
    }

-- ---- two readings that come to the same in a reached state
-- no rollback asked: r.commit None, or phase Change
pub unasked_phase : (m : Bool) (cs : List Call) (k : ℕ) → (run m cs).state.log.folded.0 < k → k ≤ last (run m cs).state.log
    → ((entry_of (run m cs).state.log k).rollback.commit ≡ None → (entry_of (run m cs).state.log k).phase ≡ 1)
    × ((entry_of (run m cs).state.log k).phase ≡ 1 → (entry_of (run m cs).state.log k).rollback.commit ≡ None)
unasked_phase m cs k =
    let x = folded m cs in
    subst (λ s. well_formed s ≡ true → s.log.folded.0 < k → k ≤ last s.log → ((entry_of s.log k).rollback.commit ≡ None → (entry_of s.log k).phase ≡ 1) × ((entry_of s.log k).phase ≡ 1 → (entry_of s.log k).rollback.commit ≡ None)) (sym x.shows)
    (λ o p q.
    let s = shown (whole m cs) x.fold x.base in
    let y : entry_of s.log k ≡ entry_of (whole m cs).log k = entry_seen (whole m cs) x.fold x.base x.front k p in (
      (λ e. omega (arith, ((staged m cs).entries k).plain (sym (ap (λ t. t.rollback.commit) y) ∙ e), ((formed s o).entries k p q).phase.0, ap (λ t. t.phase) y)),
      (λ e. ap (λ t. t.rollback.commit) y ∙ (x.reached.inv.sides k).unasked (sym (ap (λ t. t.phase) y) ∙ e)),
    )) (reached_well_formed m cs)

-- an earlier ordinal: "if below the job's own" said of both ordinals, or of the one after alone; the same reason is given
before_last : (a : Bool) (r x y : ℕ) → ((x ≡ 8 → ⊥) → y ≡ x) → (cond a r x ≡ 8 → ⊥) → cond a r y ≡ cond a r x
before_last true r x y f n = refl
before_last false r x y f n = f n

last_fits : (c d : Bool) (r x : ℕ) → (c ≡ true → d ≡ true) → (cond c r x ≡ x → ⊥) → cond d r x ≡ cond c r x
last_fits true d r x f n = rw (f refl) refl
last_fits false d r x f n = absurd (n refl)

module _ (s : State) (j i : ℕ) where
  wider : holds s j i 7 ≡ true → otherwise s j i 7 ≡ true
  wider = by (settled s) s.applied.head.ordinal.0 (ordinal s j i)
    where
      by : (b : Bool) (a o : ℕ) → ltb (cond b (a + 1) a) o ≡ true → (not b || ltb (a + 1) o) ≡ true
      by true a o e = e
      by false a o e = refl

  unless_eighth : (first_of (holds s j i) (tried j) ≡ 8 → ⊥) → first_of (otherwise s j i) (tried j) ≡ first_of (holds s j i) (tried j)
  unfolding first_of
  unless_eighth = go (eqb j 1) (eqb j 2) (eqb j 3)
    where
      go : (x y z : Bool)
          → (let rs : List ℕ = cond x (1 ∷ 3 ∷ 4 ∷ []) (cond y (1 ∷ 6 ∷ 7 ∷ []) (cond z (1 ∷ 2 ∷ 4 ∷ 5 ∷ []) (1 ∷ 2 ∷ 6 ∷ 7 ∷ []))) in
          (first_of (holds s j i) rs ≡ 8 → ⊥) → first_of (otherwise s j i) rs ≡ first_of (holds s j i) rs)
      go true y z n = refl
      go false true z n = before_last (holds s j i 1) 1 _ _ (before_last (holds s j i 6) 6 _ _ (last_fits (holds s j i 7) (otherwise s j i 7) 7 8 wider)) n
      go false false true n = refl
      go false false false n =
          before_last (holds s j i 1) 1 _ _ (before_last (holds s j i 2) 2 _ _ (before_last (holds s j i 6) 6 _ _ (last_fits (holds s j i 7) (otherwise s j i 7) 7 8 wider))) n

pub same_reason : (m : Bool) (cs : List Call) (n j i : ℕ) → (let s = (run m cs).state in (why s n j i).answer ≡ 0 → first_of (otherwise s j i) (tried j) ≡ (why s n j i).reason)
same_reason m cs n j i e = let k = reasons.asked (run m cs).state n j i e in unless_eighth (run m cs).state j i (λ x. no_eighth m cs n j i e (k.gives ∙ x)) ∙ sym k.gives

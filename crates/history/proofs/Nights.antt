-- Order 2: a night is the list of jobs that it does, so every theorem over histories counts its turns; and 6 jobs for each
-- transaction are enough (the order asks for 8). Assumes nothing.
use Prim.Native.Nat.{ℕ, zero, suc, ◌+◌, ◌-◌, ◌*◌, ◌≤◌, ◌<◌}
use native.Mathlib.Omega.{arith}
use mathlib.Core.List.{List, [], ◌∷◌, ◌++◌}
use mathlib.Core.Bool.{Bool, true, false, ◌&&◌, ◌||◌, cond}
use mathlib.Core.Path.{◌≡◌, refl, sym, ap, ◌∙◌, subst}
use lib.Dec.{eqb, leb}
use lib.ListN.{length}
use borrow.Author.Tests.{eqb-true, eqb-false, eq-eqb, leb-true, leb-false, ltb-true}
use Rattle.kinds.specs.declared.Event.{Event}
use Rattle.kinds.specs.declared.Status.{Status}
use Rattle.kinds.specs.declared.Status.TheVariants.{None, Complete, Aborted, Canceled, Failed}
use Rattle.kinds.specs.Statuses.{code_of}
use Rattle.rules.specs.ApplyRollback.{was_tried}
use Rattle.rules.specs.declared.Plan.{Plan}
use Rattle.machine.specs.State.{State, entry_of, last, in_log, is_kept, is_node, is_master, line_open_for}
use Rattle.machine.specs.Stores.{afters}
use Rattle.machine.specs.WellFormed.{well_formed}
use Rattle.machine.specs.Settled.{settled}
use Rattle.machine.specs.LiveList as list
use Rattle.machine.specs.Rest.{rest_of}
use Rattle.machine.specs.Calls.{Call, work, unless, plan_of, planned, present_of, commits, work_ok, decide}
use Rattle.machine.specs.Step.{outcome, step, Past, run, state_from, events_from}
use Rattle.machine.specs.Notes.{notes}
use Rattle.machine.proofs.Next.{performed, rows_performed}
use Rattle.machine.proofs.Cases.{and_left, and_right, or_cases, commit_change_holds, commit_rollback_holds}
use Rattle.machine.proofs.Kept.{reached_well_formed}
use Rattle.machine.proofs.Waits.{eleven_same, open_2, open_4}
use Rattle.machine.specs.Why.{holds}
use Rattle.machine.specs.Night.{outcome_at, bits, trial, trials, first_done, all, turn, turns, needs_line, stopped_by, why_stopped, Night, night, night_ok}
use Rattle.machine.proofs.Worked.{Worked, worked, Leaves, worked_leaves}
use Rattle.machine.proofs.Turns.{plan_answers, night_made, Woken, woken}
use Rattle.history.specs.Demand3.{Demand3}
use Rattle.history.specs.Frames.{by_eq, by_bool}
use Rattle.history.specs.Ops.{Op, stack, stack_falls, Falls, mem, mem_low, or_late, crash}
use Rattle.history.specs.Invariant.{Invariant}
use Rattle.history.specs.Whole.{whole, shown, Front, Passed}
use Rattle.history.specs.Stages.{Stages}
use Rattle.history.specs.Finished.{Rollback, unasked, finished, under, Ended, Slept, IsJobs, Start, start_kind, Act, call, nightly, acted, calls_in}
use Rattle.history.proofs.ByNumber.{above}
use Rattle.history.proofs.Follow.{entry_seen, last_seen, plan_seen}
use Rattle.history.proofs.Fronts.{ways, rest_seen, settled_seen, live_above}
use Rattle.history.proofs.Reached.{folded}
use Rattle.history.proofs.Switched.{demand_3}
use Rattle.history.proofs.Over.{plan_idle}
use Rattle.history.proofs.Ordinals.{never_nine}
use Rattle.history.proofs.Staged.{differ, staged}
use Rattle.history.proofs.Reasons.{Says, holds_seen, idle_seen, says_seen}
use Rattle.history.proofs.Left.{left_in, falls, at_most_six}
use Rattle.history.proofs.Ends.{ended}

-- ---- calls from a reached state on
pub from_state : (m : Bool) (cs ds : List Call) → state_from (run m cs).state ds ≡ (run m (ds ++ cs)).state
unfolding state_from run
from_state m cs [] = refl
from_state m cs (d ∷ ds) = ap (λ s. (step s d).next) (from_state m cs ds)

pub from_events : (m : Bool) (cs ds : List Call) → events_from (run m cs).state ds ++ (run m cs).events ≡ (run m (ds ++ cs)).events
unfolding events_from run
from_events m cs [] = refl
from_events m cs (d ∷ ds) = ap (λ es. (step (state_from (run m cs).state ds) d).reply.event ∷ es) (from_events m cs ds) ∙ ap (λ s. (step s d).reply.event ∷ (run m (ds ++ cs)).events) (from_state m cs ds)

-- ---- the first that is not refused
unfoldable Every : (Call → Type 0) → List Call → Type 0
Every P [] = Unit {0}
Every P (c ∷ cs) = P c × Every P cs

every_trials : (P : Call → Type 0) (os : List ℕ) (b n : ℕ) → ((j i : ℕ) → P (trial os b n j i)) → (k m : ℕ) → Every P (trials os b n k m)
unfolding trials Every
every_trials P os b n f k zero = tt
every_trials P os b n f k (suc m) = (f 1 k, (f 2 k, (f 3 k, (f 4 k, every_trials P os b n f (suc k) m))))

first_cases : {R : Type 0} (P : Call → Type 0) (s : State) (cs : List Call) → Every P cs → (first_done s cs ≡ [] → R)
    → ((c : Call) → P c → first_done s cs ≡ c ∷ [] → (step s c).reply.answer ≡ 0 → R)
    → R
unfolding first_done Every
first_cases P s [] h f g = f refl
first_cases {R} P s (c ∷ cs) h f g = go (eqb (step s c).reply.answer 0) refl f g (first_cases P s cs h.1)
  where
    go : (b : Bool) → eqb (step s c).reply.answer 0 ≡ b → (cond b (c ∷ []) (first_done s cs) ≡ [] → R)
        → ((d : Call) → P d → cond b (c ∷ []) (first_done s cs) ≡ d ∷ [] → (step s d).reply.answer ≡ 0 → R)
        → ((first_done s cs ≡ [] → R) → ((d : Call) → P d → first_done s cs ≡ d ∷ [] → (step s d).reply.answer ≡ 0 → R) → R)
        → R
    go true e f g k = g c h.0 refl (eqb-true _ 0 e)
    go false e f g k = k f g

-- where none is, all are refused
none_every : (s : State) (cs : List Call) → first_done s cs ≡ [] → Every (λ c. (step s c).reply.answer ≡ 0 → ⊥) cs
unfolding first_done Every
none_every s [] e = tt
none_every s (c ∷ cs) e = go (eqb (step s c).reply.answer 0) refl e (none_every s cs)
  where
    go : (b : Bool) → eqb (step s c).reply.answer 0 ≡ b → cond b (c ∷ []) (first_done s cs) ≡ []
        → (first_done s cs ≡ [] → Every (λ c. (step s c).reply.answer ≡ 0 → ⊥) cs)
        → ((step s c).reply.answer ≡ 0 → ⊥) × Every (λ c. (step s c).reply.answer ≡ 0 → ⊥) cs
    go true e f k = let z : ◌≡◌ {A = ℕ} 0 1 = cc in absurd (omega arith)
    go false e f k = (eqb-false _ 0 e, k f)

-- where the line is not lacked, none is refused with 12; where it is, one is
line_every : (s : State) (cs : List Call) → needs_line s cs ≡ false → Every (λ c. (step s c).reply.answer ≡ 12 → ⊥) cs
unfolding needs_line Every
line_every s [] e = tt
line_every s (c ∷ cs) e = go (eqb (step s c).reply.answer 12) refl e (line_every s cs)
  where
    go : (b : Bool) → eqb (step s c).reply.answer 12 ≡ b → (b || needs_line s cs) ≡ false
        → (needs_line s cs ≡ false → Every (λ c. (step s c).reply.answer ≡ 12 → ⊥) cs)
        → ((step s c).reply.answer ≡ 12 → ⊥) × Every (λ c. (step s c).reply.answer ≡ 12 → ⊥) cs
    go true e f k = crash (sym f)
    go false e f k = (eqb-false _ 12 e, k f)

line_some : {R : Type 0} (P : Call → Type 0) (s : State) (cs : List Call) → Every P cs → needs_line s cs ≡ true
    → ((c : Call) → P c → (step s c).reply.answer ≡ 12 → R)
    → R
unfolding needs_line Every
line_some P s [] h e g = crash e
line_some P s (c ∷ cs) h e g =
    or_cases (eqb (step s c).reply.answer 12) (needs_line s cs) e (λ x. g c h.0 (eqb-true _ 12 x)) (λ x. line_some P s cs h.1 x g)

-- what holds of all trials holds of each
at_trials : (P : Call → Type 0) (os : List ℕ) (d n k m : ℕ) → Every P (trials os d n k m) → (j i : ℕ) → 1 ≤ j → j ≤ 4 → k ≤ i → i < k + m → P (trial os d n j i)
unfolding trials Every
at_trials P os d n k zero h j i p q x y = absurd (omega arith)
at_trials P os d n k (suc m) h j i p q x y =
    by_eq i k (λ z. subst (λ u. P (trial os d n j u)) (sym z) (here j p q h.0 h.1.0 h.1.1.0 h.1.1.1.0))
    (λ z. at_trials P os d n (suc k) m h.1.1.1.1 j i p q (omega arith) (omega arith))
  where
    here : (j : ℕ) → 1 ≤ j → j ≤ 4 → P (trial os d n 1 k) → P (trial os d n 2 k) → P (trial os d n 3 k) → P (trial os d n 4 k) → P (trial os d n j k)
    here zero p q a b c e = absurd (omega arith)
    here (suc zero) p q a b c e = a
    here (suc (suc zero)) p q a b c e = b
    here (suc (suc (suc zero))) p q a b c e = c
    here (suc (suc (suc (suc zero)))) p q a b c e = e
    here (suc (suc (suc (suc (suc j))))) p q a b c e = absurd (omega arith)

none_trials : (s : State) (os : List ℕ) (d n k m : ℕ) → first_done s (trials os d n k m) ≡ [] → (j i : ℕ) → 1 ≤ j → j ≤ 4 → k ≤ i → i < k + m
    → (step s (trial os d n j i)).reply.answer ≡ 0
    → ⊥
none_trials s os d n k m e = at_trials (λ c. (step s c).reply.answer ≡ 0 → ⊥) os d n k m (none_every s (trials os d n k m) e)

-- a job that is refused with 12 is one of the four, on a number that is kept
twelve_kept : (s : State) (n j i r c : ℕ) → (step s (work n j i r c)).reply.answer ≡ 12 → ((1 ≤ j) × (j ≤ 4)) × ((s.log.folded.0 < i) × (i ≤ last s.log))
unfolding step outcome decide
twelve_kept s n j i r c e =
    let k = go (well_formed s) (work_ok n j r c) (in_log s i) (is_kept s i) e in
    let v : (leb 1 j && leb j 4) ≡ true = and_right (is_node n) _ (and_left (is_node n && (leb 1 j && leb j 4)) _ k.0) in (
      (leb-true 1 j (and_left (leb 1 j) _ v), leb-true j 4 (and_right (leb 1 j) _ v)),
      (ltb-true _ i k.2, leb-true i _ (and_right (leb 1 i) _ k.1)),
    )
  where
    go : (w v l z : Bool)
        → (let o = unless 10 (is_master s.net n) (planned j (plan_of s n j i (eqb r 0)) i c) in
        (unless 1 w (unless 2 v (unless 5 l (unless 18 z o)))).reply.answer ≡ 12
        → (v ≡ true) × (l ≡ true) × (z ≡ true))
    go false v l z e = absurd (omega arith)
    go true false l z e = absurd (omega arith)
    go true true false z e = absurd (omega arith)
    go true true true false e = absurd (omega arith)
    go true true true true e = (refl, refl, refl)

-- ---- a turn of any state
record Tried (os : List ℕ) (b n : ℕ) (c : Call) : Type 0 where
  job : ℕ
  place : ℕ
  is : c ≡ trial os b n job place

all_tried : (os : List ℕ) (b n k m : ℕ) → Every (Tried os b n) (trials os b n k m)
all_tried os b n = every_trials (Tried os b n) os b n (λ j i. record { job = j; place = i; is = refl })

module _ (s : State) (os : List ℕ) (n : ℕ) where
  -- job j of the k-th that is kept
  abbrev answer : ℕ → ℕ → ℕ
  answer j k = (step s (trial os s.log.folded.0 n j k)).reply.answer

  -- by the jobs that it tries
  pub none_goes : turn s os n ≡ [] → (j k : ℕ) → answer j k ≡ 0 → ⊥
  none_goes e j k a =
      let w = worked s n j (s.log.folded.0 + k) (outcome_at os j k) 0 a in
      none_trials s os s.log.folded.0 n 1 (length s.log.entries) e j k w.job.0 w.job.1 (omega (arith, w.number.0)) (omega (arith, w.number.1)) a

  pub some_goes : {R : Type 0} → (turn s os n ≡ [] → ⊥) → ((j k : ℕ) → answer j k ≡ 0 → R) → R
  some_goes f g =
      first_cases (Tried os s.log.folded.0 n) s (all s os n) (all_tried os s.log.folded.0 n 1 (length s.log.entries)) (λ e. absurd (f e))
      (λ c t e a. g t.job t.place (subst (λ d. (step s d).reply.answer ≡ 0) t.is a))

  pub none_lineless : needs_line s (all s os n) ≡ false → (j k : ℕ) → answer j k ≡ 12 → ⊥
  none_lineless e j k a =
      let w = twelve_kept s n j (s.log.folded.0 + k) (outcome_at os j k) 0 a in
      at_trials (λ c. (step s c).reply.answer ≡ 12 → ⊥) os s.log.folded.0 n 1 (length s.log.entries) (line_every s (all s os n) e) j k w.0.0 w.0.1 (omega (arith, w.1.0)) (omega (arith, w.1.1)) a

  pub some_lineless : {R : Type 0} → needs_line s (all s os n) ≡ true → ((j k : ℕ) → answer j k ≡ 12 → R) → R
  some_lineless e g =
      line_some (Tried os s.log.folded.0 n) s (all s os n) (all_tried os s.log.folded.0 n 1 (length s.log.entries)) e
      (λ c t a. g t.job t.place (subst (λ d. (step s d).reply.answer ≡ 12) t.is a))

  -- why it stopped is one of three
  pub stopped_cases : {R : Type 0} → (why_stopped s os n ≡ 0 → turn s os n ≡ [] → needs_line s (all s os n) ≡ false → R)
      → (why_stopped s os n ≡ 1 → turn s os n ≡ [] → needs_line s (all s os n) ≡ true → R)
      → (why_stopped s os n ≡ 2 → (turn s os n ≡ [] → ⊥) → R)
      → R
  stopped_cases {R} f g h = go (turn s os n) refl (needs_line s (all s os n)) refl
    where
      go : (cs : List Call) → turn s os n ≡ cs → (b : Bool) → needs_line s (all s os n) ≡ b → R
      go [] e true x = g (ap (λ cs. stopped_by cs (needs_line s (all s os n))) e ∙ ap (stopped_by []) x) e x
      go [] e false x = f (ap (λ cs. stopped_by cs (needs_line s (all s os n))) e ∙ ap (stopped_by []) x) e x
      go (c ∷ cs) e b x = h (ap (λ cs. stopped_by cs (needs_line s (all s os n))) e) (λ z. let y : ◌≡◌ {A = ℕ} 0 (suc (length cs)) = ap length (sym z ∙ e) in omega arith)

-- ---- the turns of any state
-- a job of node n without cut, accepted
pub record Goes (s : State) (n : ℕ) (c : Call) : Type 0 where
  pub job : ℕ
  pub number : ℕ
  pub outcome : ℕ
  pub is : c ≡ work n job number outcome 0
  pub accepted : (step s c).reply.answer ≡ 0

-- each of the calls, made from s one after another
unfoldable pub AllGo : State → ℕ → List Call → Type 0
AllGo s n [] = Unit {0}
AllGo s n (c ∷ cs) = Goes (state_from s cs) n c × AllGo s n cs

module _ (s : State) (os : List ℕ) (n : ℕ) where
  abbrev reached : ℕ → State
  reached b = state_from s (turns s os n b)

  -- a turn does nothing, or one job
  turn_grows : {R : Type 0} (b : ℕ) → (turn (reached b) os n ≡ [] → turns s os n (suc b) ≡ turns s os n b → R)
      → ((c : Call) → (turn (reached b) os n ≡ [] → ⊥) → Goes (reached b) n c → turns s os n (suc b) ≡ c ∷ turns s os n b → R)
      → R
  unfolding turns
  turn_grows b f g =
      let d = (reached b).log.folded.0 in
      first_cases (Tried os d n) (reached b) (all (reached b) os n) (all_tried os d n 1 (length (reached b).log.entries))
      (λ e. f e (ap (λ ds. ds ++ turns s os n b) e))
      (λ c t e a. g c (λ x. let z : ◌≡◌ {A = ℕ} 0 1 = ap length (sym x ∙ e) in omega arith)
      (record { job = t.job; number = d + t.place; outcome = outcome_at os t.job t.place; is = t.is; accepted = a }) (ap (λ ds. ds ++ turns s os n b) e))

  -- each does one job or none
  pub turns_low : (b : ℕ) → length (turns s os n b) ≤ b
  unfolding turns
  turns_low zero = omega arith
  turns_low (suc b) = turn_grows b (λ e f. omega (arith, ap length f, turns_low b)) (λ c t h f. omega (arith, ap length f, turns_low b))

  -- a turn that could be made has all before it made
  pub turns_full : (b : ℕ) → (turn (reached b) os n ≡ [] → ⊥) → length (turns s os n b) ≡ b
  unfolding turns
  turns_full zero f = refl
  turns_full (suc b) f =
      turn_grows b (λ e g. absurd (f (subst (λ cs. turn (state_from s cs) os n ≡ []) (sym g) e))) (λ c t h g. ap length g ∙ ap suc (turns_full b t))

  pub turns_go : (b : ℕ) → AllGo s n (turns s os n b)
  unfolding turns AllGo
  turns_go zero = tt
  turns_go (suc b) =
      turn_grows b (λ e g. subst (AllGo s n) (sym g) (turns_go b)) (λ c t h g. subst (AllGo s n) (sym g) (h, turns_go b))

-- ---- the turns from a reached state
module _ (m : Bool) (cs : List Call) (os : List ℕ) (n : ℕ) where
  abbrev s : State
  s = (run m cs).state

  abbrev made : ℕ → List Call
  made b = turns s os n b

  -- the history after b turns, and its state
  abbrev history : ℕ → List Call
  history b = made b ++ cs

  abbrev after : ℕ → State
  after b = (run m (history b)).state

  abbrev fold : ℕ → ℕ
  fold b = (after b).log.folded.0

  -- a turn does nothing, or one job
  grows : {R : Type 0} (b : ℕ) → (turn (after b) os n ≡ [] → made (suc b) ≡ made b → R)
      → ((j i : ℕ) → (turn (after b) os n ≡ [] → ⊥) → (step (after b) (trial os (fold b) n j i)).reply.answer ≡ 0 → made (suc b) ≡ trial os (fold b) n j i ∷ made b → R)
      → R
  unfolding turns
  grows {R} b f g =
      first_cases (Tried os (fold b) n) (after b) (all (after b) os n) (all_tried os (fold b) n 1 (length (after b).log.entries))
      (λ e. f e (ap (λ ds. ds ++ made b) (ap (λ x. turn x os n) (from_state m cs (made b)) ∙ e)))
      (λ c t e a. g t.job t.place (λ x. let z : ◌≡◌ {A = ℕ} 0 1 = ap length (sym x ∙ e) in omega arith) (subst (λ d. (step (after b) d).reply.answer ≡ 0) t.is a)
      (ap (λ ds. ds ++ made b) (ap (λ x. turn x os n) (from_state m cs (made b)) ∙ e) ∙ ap (λ d. d ∷ made b) t.is))

  -- what is left, of the whole
  abbrev rest : List Call → ℕ
  rest ds = left_in (whole m ds)

  -- after a job: less is left, the line is kept
  module _ (ds : List Call) (j i r : ℕ) (e : (step (run m ds).state (work n j i r 0)).reply.answer ≡ 0) where
    done : Worked (run m ds).state n j i r 0
    done = worked (run m ds).state n j i r 0 e

    -- the whole does the same
    same_job : whole m (work n j i r 0 ∷ ds) ≡ performed (commits j) (whole m ds) (plan_of (run m ds).state n j i (eqb r 0)) i false false
    unfolding whole
    same_job = ap (afters (whole m ds)) done.stores ∙ rows_performed (commits j) (whole m ds) (plan_of (run m ds).state n j i (eqb r 0)) i false false

    less : rest (work n j i r 0 ∷ ds) < rest ds
    less =
        let x = folded m ds in
        let v = x.reached.inv in
        let b : x.fold < i = subst (λ s. s.log.folded.0 < i) x.shows done.number.0 in
        let l : i ≤ last (whole m ds).log = subst (λ m. i ≤ m) (ap (λ s. last s.log) x.shows ∙ last_seen (whole m ds) x.fold x.base x.front) done.number.1 in
        let p : plan_of (run m ds).state n j i (eqb r 0) ≡ plan_of (whole m ds) n j i (eqb r 0)
        = ap (λ s. plan_of s n j i (eqb r 0)) x.shows
        ∙ plan_seen (whole m ds) x.fold x.base x.front (rest_seen v x.fold x.base x.front) (settled_seen v x.fold x.base x.front) n j i (eqb r 0) b in
        subst (λ u. left_in u < rest ds) (sym (same_job ∙ ap (λ y. performed (commits j) (whole m ds) y i false false) p))
        (falls v i (omega (arith, x.front.whole)) l n j (eqb r 0) (sym (ap (λ y. y.answer) p) ∙ done.plan))

    leaves : Leaves (run m ds).state (run m (work n j i r 0 ∷ ds)).state
    unfolding run
    leaves = worked_leaves (run m ds).state n j i r 0 done

  -- what is left and what is done
  spent : (b : ℕ) → rest (history b) + length (made b) ≤ rest cs
  unfolding turns
  spent zero = omega arith
  spent (suc b) =
      grows b (λ e f. subst (λ x. rest (x ++ cs) + length x ≤ rest cs) (sym f) (spent b))
      (λ j i t a f. subst (λ x. rest (x ++ cs) + length x ≤ rest cs) (sym f) (omega (arith, spent b, less (history b) j (fold b + i) (outcome_at os j i) a)))

  made_low : (b : ℕ) → length (made b) ≤ b
  made_low = turns_low s os n

  full : (b : ℕ) → (turn (after b) os n ≡ [] → ⊥) → length (made b) ≡ b
  full b f = turns_full s os n b (λ e. f (ap (λ x. turn x os n) (sym (from_state m cs (made b))) ∙ e))

  -- as many turns as is left are enough
  enough : (b : ℕ) → rest cs ≤ b → turn (after b) os n ≡ []
  enough b p =
      grows b (λ e f. e) (λ j i t a f. absurd (omega (arith, full b t, subst (λ x. rest (x ++ cs) + length x ≤ rest cs) f (spent (suc b)))))

  line_kept : line_open_for s.net n ≡ true → (b : ℕ) → line_open_for (after b).net n ≡ true
  unfolding turns
  line_kept e zero = e
  line_kept e (suc b) =
      grows b (λ x f. subst (λ x. line_open_for (run m (x ++ cs)).state.net n ≡ true) (sym f) (line_kept e b))
      (λ j i t a f. subst (λ x. line_open_for (run m (x ++ cs)).state.net n ≡ true) (sym f) ((leaves (history b) j (fold b + i) (outcome_at os j i) a).line n ∙ line_kept e b))

-- ---- where no turn can be made, the line being open, every job answers 11
-- the pushes of rollbacks are accepted
accepted_4 : (os : List ℕ) (i : ℕ) → outcome_at os 4 i ≡ 0
accepted_4 os zero = refl
accepted_4 os (suc k) = refl

-- a job over an open line answers 0, 9 or 11
abbrev Else : Plan → Type 0
Else p = (p.answer ≡ 0 → ⊥) → (p.answer ≡ 9 → ⊥) → p.answer ≡ 11

module _ (s : State) (n : ℕ) (line : line_open_for s.net n ≡ true) where
  goes : (a : ℕ) → (eqb a 0 || eqb a 11) ≡ true → (a ≡ 0 → ⊥) → (a ≡ 9 → ⊥) → a ≡ 11
  goes a e x y = or_cases (eqb a 0) _ e (λ z. absurd (x (eqb-true a 0 z))) (λ z. eqb-true a 11 z)

  else_11 : (j i : ℕ) (y : Bool) → (j ≡ 4 → y ≡ true) → 1 ≤ j → j ≤ 4 → Else (plan_of s n j i y)
  unfolding plan_of
  else_11 zero i y t p q = absurd (omega arith)
  else_11 (suc zero) i y t p q =
      commit_change_holds (entry_of s.log i) s.committed.head i Else s.change (rest_of s) (present_of s (entry_of s.log i)) y
      (record {
        wait = λ x y. refl;
        full = λ a b c x y. absurd (y refl);
        begin = λ a b c x y. absurd (x refl);
        aim = λ a b c x y. absurd (x refl);
        land = λ a b c d e x y. absurd (x refl);
        reject = λ a b x y. absurd (x refl);
        finish = λ a b x y. absurd (x refl);
        close = λ a b x y. absurd (x refl);
      })
  else_11 (suc (suc zero)) i y t p q = goes _ (rw line (open_2 (entry_of s.log i) s.applied.head i (settled s) y))
  else_11 (suc (suc (suc zero))) i y t p q =
      commit_rollback_holds (entry_of s.log i) s.committed.head i Else (rest_of s)
      (record {
        wait = λ x y. refl;
        full = λ a b c x y. absurd (y refl);
        begin = λ a b c x y. absurd (x refl);
        aim = λ a b c x y. absurd (x refl);
        land = λ a b c d e x y. absurd (x refl);
        finish = λ a b c x y. absurd (x refl);
      })
  else_11 (suc (suc (suc (suc zero)))) i y t p q = goes _ (rw (t refl, line) (open_4 (entry_of s.log i) s.applied.head i (settled s)))
  else_11 (suc (suc (suc (suc (suc j))))) i y t p q = absurd (omega arith)

  -- whatever the outcome
  idle_any : (j i : ℕ) (y : Bool) → (plan_of s n j i y).answer ≡ 11 → (z : Bool) → (plan_of s n j i z).answer ≡ 11
  idle_any j i y e z = eqb-true _ 11 (eleven_same s n i j z ∙ sym (eleven_same s n i j y) ∙ eq-eqb _ 11 e)

-- ---- with the first b folded away: where every job on what is kept answers 11, so would those on the rest
mem_kept : (b k : ℕ) (ks : List ℕ) → b < k → Falls ks → mem k ks ≡ true → mem k (above b ks) ≡ true
unfolding mem above Falls
mem_kept b k [] p f e = e
mem_kept b k (x ∷ ks) p f e =
    by_bool (leb x b)
    (λ y. absurd (omega (arith, leb-true x b y, mem_low (x ∷ ks) f k e)))
    (λ y. rw y (or_cases (eqb x k) (mem k ks) e (λ z. ap (λ u. u || mem k (above b ks)) z) (λ z. or_late (eqb x k) _ (mem_kept b k ks p f.1 z))))

module _ {w : State} {ops acts : List Op} {bad : List ℕ} (inv : Invariant w ops acts bad) (st : Stages w) (b : ℕ) (vs : List ℕ) (f : Front w.log b vs) (d : Passed w b) (o : well_formed (shown w b vs) ≡ true)
    (n : ℕ) (line : line_open_for w.net n ≡ true) (idle : (j i : ℕ) → 1 ≤ j → j ≤ 4 → b < i → i ≤ last (shown w b vs).log → (z : Bool) → (plan_of (shown w b vs) n j i z).answer ≡ 11) where
  says : (k : ℕ) → 1 ≤ k → k ≤ last w.log → Says (entry_of w.log k)
  says k p q = by_bool (leb k b) (λ x. over (leb-true k b x)) (λ x. says_seen inv st b vs f o k (leb-false k b x) (omega (arith, last_seen w b vs f)))
    where
      not_none : (x y : Status) → eqb (code_of y) (code_of None) ≡ false → x ≡ y → x ≡ None → ⊥
      not_none x y e g h = differ y None e (sym g ∙ h)

      tried : (x : Status) → was_tried x ≡ true → x ≡ None → ⊥
      tried x e g = crash (sym (ap was_tried g) ∙ e)

      over : k ≤ b → Says (entry_of w.log k)
      over y =
          let t = entry_of w.log k in
          ways inv k (f.finished k p y)
          (λ g h u. (not_none t.change.commit Failed refl g, not_none t.change.apply Canceled refl h))
          (λ g h i u. (not_none t.change.commit Complete refl g, not_none t.change.apply Complete refl h))
          (λ g h i u. (not_none t.change.commit Complete refl g, tried t.change.apply u))
          (λ g h i u. (not_none t.change.commit Complete refl g, not_none t.change.apply Aborted refl u))

  idle_whole : (j i : ℕ) → 1 ≤ j → j ≤ 4 → 1 ≤ i → i ≤ last w.log → (plan_of w n j i false).answer ≡ 11
  idle_whole j i p q x y =
      by_bool (leb i b)
      (λ z. let k = plan_idle w inv b d i x (leb-true i b z) (f.finished i x (leb-true i b z)) w.net n j true in
      idle_any w n line j i true (else_11 w n line j i true (λ u. refl) p q k.0 k.1) false)
      (λ z. idle_seen inv st b vs f i (leb-false i b z) n j false (idle j i p q (leb-false i b z) (omega (arith, last_seen w b vs f)) false))

  pub ended_seen : (k : ℕ) → b < k → k ≤ last (shown w b vs).log → Ended (shown w b vs) (list.live (shown w b vs)) k
  ended_seen k p q =
      let x = ended inv st n says idle_whole k (omega arith) (omega (arith, last_seen w b vs f)) in
      record { commit = seen 1 x.commit; apply = seen 2 x.apply; rollback = back x.rollback }
    where
      same : entry_of (shown w b vs).log k ≡ entry_of w.log k
      same = entry_seen w b vs f k p

      seen : (j : ℕ) → holds w j k 1 ≡ true → holds (shown w b vs) j k 1 ≡ true
      seen j e = holds_seen inv st b vs f k p j 1 ∙ e

      back : Rollback w (stack ops) k → Rollback (shown w b vs) (list.live (shown w b vs)) k
      back (unasked e g) = unasked (ap (λ t. t.rollback.commit) same ∙ e) (ap (λ t. t.rollback.apply) same ∙ g)
      back (finished e g) = finished (seen 3 e) (seen 4 g)
      back (under e g m l) =
          under (ap (λ t. t.rollback.commit) same ∙ e) (ap (λ t. t.rollback.apply) same ∙ g)
          (ap (mem k) (live_above inv b vs f) ∙ mem_kept b k (stack ops) p (stack_falls ops inv.committed.rising) m) l

module _ (m : Bool) (ds : List Call) (os : List ℕ) (n : ℕ) (node : is_node n ≡ true) (table : bits os ≡ true) (line : line_open_for (run m ds).state.net n ≡ true) where
  abbrev end : State
  end = (run m ds).state

  -- the last fold
  abbrev b : ℕ
  b = end.log.folded.0

  plan_says : (j k : ℕ) → 1 ≤ j → j ≤ 4 → 1 ≤ k → k ≤ length end.log.entries
      → (step end (trial os b n j k)).reply.answer ≡ (plan_of end n j (b + k) (eqb (outcome_at os j k) 0)).answer
  plan_says = plan_answers end os n (reached_well_formed m ds) node table (and_left (is_master end.net n) _ line)

  module _ (e : turn end os n ≡ []) where
    eleven : (j k : ℕ) → 1 ≤ j → j ≤ 4 → 1 ≤ k → k ≤ length end.log.entries → (plan_of end n j (b + k) (eqb (outcome_at os j k) 0)).answer ≡ 11
    eleven j k p q x y =
        let a = plan_says j k p q x y in
        else_11 end n line j (b + k) (eqb (outcome_at os j k) 0) (λ z. ap (λ m. eqb m 0) (ap (λ h. outcome_at os h k) z ∙ accepted_4 os k)) p q
        (λ z. none_trials end os b n 1 (length end.log.entries) e j k p q x (omega arith) (a ∙ z)) (λ z. never_nine m ds n j (b + k) (outcome_at os j k) 0 (a ∙ z))

    idle : (j i : ℕ) → 1 ≤ j → j ≤ 4 → b < i → i ≤ last end.log → (z : Bool) → (plan_of end n j i z).answer ≡ 11
    idle j i p q x y z =
        let k : b + (i - b) ≡ i = omega arith in
        subst (λ m. (plan_of end n j m z).answer ≡ 11) k (idle_any end n line j (b + (i - b)) _ (eleven j (i - b) p q (omega arith) (omega arith)) z)

    -- no job is possible, by any node, with any outcome and cut
    none_possible : (m j i r c : ℕ) → (step end (work m j i r c)).reply.answer ≡ 0 → ⊥
    none_possible m j i r c a =
        let w = worked end m j i r c a in
        let k : n ≡ m = sym (eqb-true _ n (and_left (is_master end.net n) _ line)) ∙ w.master in
        let z : (plan_of end n j i (eqb r 0)).answer ≡ 0 = subst (λ u. (plan_of end u j i (eqb r 0)).answer ≡ 0) (sym k) w.plan in
        omega (arith, idle j i w.job.0 w.job.1 w.number.0 w.number.1 (eqb r 0))

    all_ended : (k : ℕ) → b < k → k ≤ last end.log → Ended end (list.live end) k
    all_ended k =
        let x = folded m ds in
        subst
        (λ s. well_formed s ≡ true → line_open_for s.net n ≡ true → ((j i : ℕ) → 1 ≤ j → j ≤ 4 → s.log.folded.0 < i → i ≤ last s.log → (z : Bool) → (plan_of s n j i z).answer ≡ 11)
        → s.log.folded.0 < k
        → k ≤ last s.log
        → Ended s (list.live s) k)
        (sym x.shows) (λ o g h p q. ended_seen x.reached.inv (staged m ds) x.fold x.base x.front x.passed o n g h k p q) (reached_well_formed m ds) line idle

    no_twelve : needs_line end (all end os n) ≡ false
    unfolding needs_line trials
    no_twelve = go 1 (length end.log.entries) (omega arith) (omega arith)
      where
        at : (j k : ℕ) → 1 ≤ j → j ≤ 4 → 1 ≤ k → k ≤ length end.log.entries → eqb (step end (trial os b n j k)).reply.answer 12 ≡ false
        at j k p q x y = ap (λ a. eqb a 12) (plan_says j k p q x y ∙ eleven j k p q x y)

        go : (k m : ℕ) → 1 ≤ k → k + m ≤ suc (length end.log.entries) → needs_line end (trials os b n k m) ≡ false
        go k zero p q = refl
        go k (suc m) p q =
            rw
            (at 1 k (omega arith) (omega arith) p (omega arith), at 2 k (omega arith) (omega arith) p (omega arith), at 3 k (omega arith) (omega arith) p (omega arith), at 4 k (omega arith) (omega arith) p (omega arith))
            (go (suc k) m (omega arith) (omega arith))

-- at most 6 for each that is kept is left
most : (m : Bool) (cs : List Call) → left_in (whole m cs) ≤ 6 * length (run m cs).state.log.entries
most m cs =
    let x = folded m cs in
    let l : length (run m cs).state.log.entries ≡ length (shown (whole m cs) x.fold x.base).log.entries = ap (λ s. length s.log.entries) x.shows in
    omega (arith, at_most_six x.reached.inv (staged m cs) x.fold x.base x.front x.passed, last_seen (whole m cs) x.fold x.base x.front, l)

-- ---- the theorems
-- a night is the history of the jobs that it does, and answers their count, refused or not
pub night_is_jobs : (m : Bool) (cs : List Call) (n b : ℕ) (os : List ℕ) → IsJobs m (night (run m cs).state n b os) cs
night_is_jobs m cs n b os =
    let k = night_made (run m cs).state n b os in
    let ds = (night (run m cs).state n b os).calls in
    record {
      jobs = k.jobs;
      next = k.next ∙ from_state m cs ds;
      events = ap (λ es. es ++ (run m cs).events) k.events ∙ from_events m cs ds;
    }

-- demand 3 counts the events of its turns
pub night_demand_3 : (m : Bool) (cs : List Call) (n b : ℕ) (os : List ℕ) → (let w = night (run m cs).state n b os in Demand3 w.next (w.events ++ (run m cs).events) (notes m (w.calls ++ cs)))
night_demand_3 m cs n b os =
    let k = night_is_jobs m cs n b os in rw (k.next, k.events) (demand_3 m ((night (run m cs).state n b os).calls ++ cs))

-- with the line open, node, budget and table in range are all that it asks
pub night_accepted : (m : Bool) (cs : List Call) (n b : ℕ) (os : List ℕ) → night_ok n b os ≡ true → line_open_for (run m cs).state.net n ≡ true
    → (night (run m cs).state n b os).answer ≡ 0
unfolding night
night_accepted m cs n b os k line = rw (reached_well_formed m cs, k, and_left (is_master (run m cs).state.net n) _ line) refl

module _ (m : Bool) (cs : List Call) (n b : ℕ) (os : List ℕ) (e : (night (run m cs).state n b os).answer ≡ 0) where
  abbrev w : Night
  w = night (run m cs).state n b os

  abbrev made_by : List Call
  made_by = turns (run m cs).state os n b

  awake : Woken (run m cs).state n b os
  awake = woken (run m cs).state n b os e

  -- accepted, they are the turns of the definition
  pub night_turns : w.calls ≡ turns (run m cs).state os n b
  night_turns = awake.calls

  count : w.jobs ≡ length made_by
  count = (night_is_jobs m cs n b os).jobs ∙ ap length night_turns

  after_it : w.next ≡ (run m (made_by ++ cs)).state
  after_it = (night_is_jobs m cs n b os).next ∙ ap (λ ds. (run m (ds ++ cs)).state) night_turns

  -- it does at most 6 jobs for each transaction kept, with the line or without
  pub at_most_6 : w.jobs ≤ 6 * length (run m cs).state.log.entries
  at_most_6 = rw count (omega (arith, spent m cs os n b, most m cs))

  -- it does no more than the budget allows, and 2 is answered only where the budget is spent
  pub within : w.jobs ≤ b
  within = rw count (made_low m cs os n b)

  pub budget_spent : w.stopped ≡ 2 → w.jobs ≡ b
  budget_spent f =
      let x = from_state m cs made_by in
      count ∙ full m cs os n b (λ t. stops_2 (run m (made_by ++ cs)).state t (sym (ap (λ s. why_stopped s os n) x) ∙ sym awake.stopped ∙ f))
    where
      stops_2 : (s : State) → turn s os n ≡ [] → why_stopped s os n ≡ 2 → ⊥
      stops_2 s t f = go (needs_line s (all s os n)) (sym (ap (λ c. stopped_by c (needs_line s (all s os n))) t) ∙ f)
        where
          go : (b : Bool) → stopped_by [] b ≡ 2 → ⊥
          go true e = omega arith
          go false e = omega arith

  -- 6 jobs for each transaction kept are enough, the line being open: it stops with 0, no job is possible, and all that is
  -- unfinished is a rollback of a change that is not the newest live one
  pub night_enough : line_open_for (run m cs).state.net n ≡ true → 6 * length (run m cs).state.log.entries ≤ b → Slept w
  night_enough line p =
      let ds = made_by ++ cs in
      let x : state_from (run m cs).state made_by ≡ (run m ds).state = from_state m cs made_by in
      let l : line_open_for (run m ds).state.net n ≡ true = line_kept m cs os n line b in
      let t : turn (run m ds).state os n ≡ [] = enough m cs os n b (omega (arith, p, most m cs)) in
      record {
        stopped = awake.stopped ∙ ap (λ s. why_stopped s os n) x ∙ ap (λ c. stopped_by c (needs_line (run m ds).state (all (run m ds).state os n))) t
            ∙ ap (stopped_by []) (no_twelve m ds os n awake.node awake.table l t);
        none = rw after_it (none_possible m ds os n awake.node awake.table l t);
        ended = rw after_it (all_ended m ds os n awake.node awake.table l t);
      }

  -- as the order says it
  pub eight_enough : line_open_for (run m cs).state.net n ≡ true → 8 * length (run m cs).state.log.entries ≤ b → Slept w
  eight_enough line p = night_enough line (omega arith)

-- ---- a history of calls and nights is one of calls, so every theorem over calls speaks of it
same_past : (s t : State) (es fs : List Event) → s ≡ t → es ≡ fs → ◌≡◌ {A = Past} (record { state = s; events = es }) (record { state = t; events = fs })
same_past s t es fs p q = ap (λ x. record { state = x; events = es }) p ∙ ap (λ x. record { state = t; events = x }) q

abbrev night_past : Past → ℕ → ℕ → List ℕ → Past
night_past p n b os = let o = night p.state n b os in record { state = o.next; events = o.events ++ p.events }

pub acted_run : (b : Start) (xs : List Act) → acted b xs ≡ run (start_kind b) (calls_in b xs)
unfolding acted calls_in run
acted_run b [] = refl
acted_run b (call c ∷ xs) = ap (λ p. let o = step p.state c in record { state = o.next; events = o.reply.event ∷ p.events }) (acted_run b xs)
acted_run b (nightly n m os ∷ xs) =
    let k = night_is_jobs (start_kind b) (calls_in b xs) n m os in
    ap (λ p. night_past p n m os) (acted_run b xs) ∙ same_past _ _ _ _ k.next k.events
    ∙ ap (λ p. run (start_kind b) ((night p.state n m os).calls ++ calls_in b xs)) (sym (acted_run b xs))

-- Laws of the turns of order 2, for a loop with a budget: one turn more, none more, what each trial answers, and the scan of
-- the numbers; and a night is the calls that it makes. Assumes nothing.
use Prim.Native.Nat.{ℕ, zero, suc, ◌+◌, ◌*◌, ◌≤◌}
use native.Mathlib.Omega.{arith}
use mathlib.Core.List.{List, [], ◌∷◌, ◌++◌}
use mathlib.Core.Bool.{Bool, true, false, ◌&&◌, ◌||◌, cond}
use mathlib.Core.Path.{◌≡◌, refl, ap, ◌∙◌, subst}
use lib.Dec.{eqb, leb}
use lib.ListN.{length, get_or}
use borrow.Author.Tests.{eqb-true, le-leb, lt-ltb}
use Rattle.machine.specs.State.{State, last, is_node, is_master}
use Rattle.machine.specs.WellFormed.{well_formed}
use Rattle.machine.specs.Calls.{Call, plan_of, decide}
use Rattle.machine.specs.Step.{outcome, step, state_from, events_from}
use Rattle.machine.specs.Night.{outcome_at, bits, table_ok, trial, trials, first_done, all, turn, turns, needs_line, why_stopped, Night, night_not, through, night_ok, night}
use Rattle.machine.proofs.Cases.{and_left, and_right}

-- ---- the table's outcomes are 0 or 1
pub bits_at : (os : List ℕ) → bits os ≡ true → (k : ℕ) → leb (get_or os k 0) 1 ≡ true
unfolding bits
bits_at [] e k = refl
bits_at (o ∷ os) e zero = and_left (leb o 1) _ e
bits_at (o ∷ os) e (suc k) = bits_at os (and_right (leb o 1) _ e) k

outcome_low : (os : List ℕ) → bits os ≡ true → (j i : ℕ) → leb (outcome_at os j i) 1 ≡ true
outcome_low os e j zero = refl
outcome_low os e j (suc k) = go (eqb j 1) (eqb j 2)
  where
    go : (x y : Bool) → leb (cond x (get_or os (2 * k) 0) (cond y (get_or os (2 * k + 1) 0) 0)) 1 ≡ true
    go true y = bits_at os e (2 * k)
    go false true = bits_at os e (2 * k + 1)
    go false false = refl

-- ---- a trial by the master, in a well-formed state, answers what its plan answers
pub plan_answers : (s : State) (os : List ℕ) (n : ℕ) → well_formed s ≡ true → is_node n ≡ true → bits os ≡ true → is_master s.net n ≡ true
    → (j k : ℕ) → 1 ≤ j → j ≤ 4 → 1 ≤ k → k ≤ length s.log.entries
    → (let b = s.log.folded.0 in (step s (trial os b n j k)).reply.answer ≡ (plan_of s n j (b + k) (eqb (outcome_at os j k) 0)).answer)
unfolding step outcome decide
plan_answers s os n w node table m j k p q x y =
    let b = s.log.folded.0 in
    rw
    (w, node, le-leb 1 j p, le-leb j 4 q, outcome_low os table j k, le-leb 1 (b + k) (omega arith), le-leb (b + k) (last s.log) (omega arith), lt-ltb b (b + k) (omega arith), m)

-- ---- what a turn does is accepted
abbrev head_or : Call → List Call → Call
head_or c [] = c
head_or c (d ∷ ds) = d

pub first_accepted : (s : State) (cs : List Call) (c : Call) → first_done s cs ≡ c ∷ [] → (step s c).reply.answer ≡ 0
unfolding first_done
first_accepted s [] c e = let z : ◌≡◌ {A = ℕ} 0 1 = ap length e in absurd (omega arith)
first_accepted s (d ∷ cs) c e = go (eqb (step s d).reply.answer 0) refl e (first_accepted s cs c)
  where
    go : (b : Bool) → eqb (step s d).reply.answer 0 ≡ b → cond b (d ∷ []) (first_done s cs) ≡ c ∷ [] → (first_done s cs ≡ c ∷ [] → (step s c).reply.answer ≡ 0)
        → (step s c).reply.answer ≡ 0
    go true x e k = subst (λ u. (step s u).reply.answer ≡ 0) (ap (head_or c) e) (eqb-true _ 0 x)
    go false x e k = k e

module _ (s : State) (os : List ℕ) (n : ℕ) where
  -- a job is found: one turn more
  pub one_more : (b : ℕ) (c : Call) → turn (state_from s (turns s os n b)) os n ≡ c ∷ [] → turns s os n (suc b) ≡ c ∷ turns s os n b
  unfolding turns
  one_more b c e = ap (λ ds. ds ++ turns s os n b) e

  -- none is found: no turn more, whatever the budget
  pub none_more : (b : ℕ) → turn (state_from s (turns s os n b)) os n ≡ [] → (d : ℕ) → turns s os n (d + b) ≡ turns s os n b
  unfolding turns
  none_more b e zero = let z : 0 + b ≡ b = omega arith in ap (turns s os n) z
  none_more b e (suc d) =
      let z : suc d + b ≡ suc (d + b) = omega arith in
      let k = none_more b e d in
      ap (turns s os n) z ∙ ap (λ ds. turn (state_from s ds) os n ++ ds) k ∙ ap (λ ds. ds ++ turns s os n b) e

  -- ---- the scan, number by number: the k-th kept is number b + k
  abbrev b : ℕ
  b = s.log.folded.0

  abbrev answer : ℕ → ℕ → ℕ
  answer j k = (step s (trial os b n j k)).reply.answer

  abbrev refuses : ℕ → ℕ → Type 0
  refuses j k = eqb (answer j k) 0 ≡ false

  -- some job of the k-th is refused with 12
  abbrev pub lacks : ℕ → Bool
  lacks k = eqb (answer 1 k) 12 || (eqb (answer 2 k) 12 || (eqb (answer 3 k) 12 || eqb (answer 4 k) 12))

  -- the jobs of the first i are all refused, some with 12 or none; m are left
  pub record Scanned (i m : ℕ) (x : Bool) : Type 0 where
    pub sum : i + m ≡ length s.log.entries
    pub first : turn s os n ≡ first_done s (trials os b n (suc i) m)
    pub line : needs_line s (all s os n) ≡ (x || needs_line s (trials os b n (suc i) m))

  pub scanned_none : Scanned 0 (length s.log.entries) false
  scanned_none = record { sum = omega arith; first = refl; line = refl }

  module _ (i m : ℕ) (x : Bool) (t : Scanned i (suc m) x) where
    -- a number more
    pub scanned_more : refuses 1 (suc i) → refuses 2 (suc i) → refuses 3 (suc i) → refuses 4 (suc i) → Scanned (suc i) m (x || lacks (suc i))
    unfolding trials first_done needs_line
    scanned_more p q r u =
        record { sum = omega (arith, t.sum); first = t.first ∙ rw (p, q, r, u); line = t.line ∙ go x (eqb (answer 1 (suc i)) 12) (eqb (answer 2 (suc i)) 12) (eqb (answer 3 (suc i)) 12) }
      where
        go : (a x y z : Bool)
            → (let w = eqb (answer 4 (suc i)) 12 in
            let v = needs_line s (trials os b n (suc (suc i)) m) in
            (a || (x || (y || (z || (w || v))))) ≡ ((a || (x || (y || (z || w)))) || v))
        go true x y z = refl
        go false true y z = refl
        go false false true z = refl
        go false false false true = refl
        go false false false false = refl

    -- the first that is not refused
    pub found_1 : eqb (answer 1 (suc i)) 0 ≡ true → turn s os n ≡ trial os b n 1 (suc i) ∷ []
    unfolding trials first_done
    found_1 p = t.first ∙ rw p

    pub found_2 : refuses 1 (suc i) → eqb (answer 2 (suc i)) 0 ≡ true → turn s os n ≡ trial os b n 2 (suc i) ∷ []
    unfolding trials first_done
    found_2 p q = t.first ∙ rw (p, q)

    pub found_3 : refuses 1 (suc i) → refuses 2 (suc i) → eqb (answer 3 (suc i)) 0 ≡ true → turn s os n ≡ trial os b n 3 (suc i) ∷ []
    unfolding trials first_done
    found_3 p q r = t.first ∙ rw (p, q, r)

    pub found_4 : refuses 1 (suc i) → refuses 2 (suc i) → refuses 3 (suc i) → eqb (answer 4 (suc i)) 0 ≡ true → turn s os n ≡ trial os b n 4 (suc i) ∷ []
    unfolding trials first_done
    found_4 p q r u = t.first ∙ rw (p, q, r, u)

  -- none: the turn is none, and 12 was given or not
  pub scanned_end : (i : ℕ) (b : Bool) → Scanned i 0 b → (turn s os n ≡ []) × (needs_line s (all s os n) ≡ b)
  unfolding trials first_done needs_line
  scanned_end i b t = (t.first, t.line ∙ or_false b)
    where
      or_false : (b : Bool) → (b || false) ≡ b
      or_false true = refl
      or_false false = refl

-- ---- the call
-- a night of s is the calls that it makes
pub record Made (s : State) (w : Night) : Type 0 where
  pub jobs : w.jobs ≡ length w.calls
  pub next : w.next ≡ state_from s w.calls
  pub events : w.events ≡ events_from s w.calls

-- and accepted it is its turns
pub record Woken (s : State) (n b : ℕ) (os : List ℕ) : Type 0 where
  pub node : is_node n ≡ true
  pub table : bits os ≡ true
  pub calls : (night s n b os).calls ≡ turns s os n b
  pub stopped : (night s n b os).stopped ≡ why_stopped (state_from s (turns s os n b)) os n

module _ (s : State) (n b : ℕ) (os : List ℕ) where
  -- refused or not
  pub night_made : Made s (night s n b os)
  unfolding night state_from events_from
  night_made = go (well_formed s) (night_ok n b os) (is_master s.net n)
    where
      go : (w v m : Bool) → Made s (night_not s 1 w (night_not s 2 v (night_not s 10 m (through s n b os))))
      go false v m = record { jobs = refl; next = refl; events = refl }
      go true false m = record { jobs = refl; next = refl; events = refl }
      go true true false = record { jobs = refl; next = refl; events = refl }
      go true true true = record { jobs = refl; next = refl; events = refl }

  -- a refused one makes none
  pub night_refused : ((night s n b os).answer ≡ 0 → ⊥) → (night s n b os).calls ≡ []
  unfolding night
  night_refused = go (well_formed s) (night_ok n b os) (is_master s.net n)
    where
      go : (w v m : Bool) → (let o = night_not s 1 w (night_not s 2 v (night_not s 10 m (through s n b os))) in (o.answer ≡ 0 → ⊥) → o.calls ≡ [])
      go false v m e = refl
      go true false m e = refl
      go true true false e = refl
      go true true true e = absurd (e refl)

  pub woken : (night s n b os).answer ≡ 0 → Woken s n b os
  unfolding night
  woken e =
      let k = go (well_formed s) (night_ok n b os) (is_master s.net n) e in
      record {
        node = and_left (is_node n) _ (and_left (is_node n && leb b 4096) _ k.0);
        table = and_right (eqb (length os) 256) _ (and_right (is_node n && leb b 4096) (table_ok os) k.0);
        calls = ap (λ w. w.calls) k.1;
        stopped = ap (λ w. w.stopped) k.1;
      }
    where
      go : (w v m : Bool) → (night_not s 1 w (night_not s 2 v (night_not s 10 m (through s n b os)))).answer ≡ 0
          → (v ≡ true) × (night_not s 1 w (night_not s 2 v (night_not s 10 m (through s n b os))) ≡ through s n b os)
      go false v m e = absurd (omega arith)
      go true false m e = absurd (omega arith)
      go true true false e = absurd (omega arith)
      go true true true e = (refl, refl)

-- The owners are what the live list says, and what the events say, in every reached state (order 7). Assumes nothing.
use Prim.Native.Nat.{ℕ, zero, suc, ◌≤◌, ◌<◌}
use native.Mathlib.Omega.{arith}
use mathlib.Core.List.{List, [], ◌∷◌}
use mathlib.Core.Bool.{Bool, true, false, ◌&&◌, ◌||◌, cond}
use mathlib.Core.Path.{◌≡◌, refl, sym, ap, ◌∙◌, subst}
use lib.Dec.{leb}
use borrow.Author.Tests.{le-leb, leb-true, leb-false}
use Rattle.kinds.specs.declared.Transaction.{Transaction}
use Rattle.machine.specs.State.{State, Log, entry_of, last}
use Rattle.machine.specs.Calls.{Call}
use Rattle.machine.specs.Step.{run}
use Rattle.machine.proofs.Overlay.{names_at, look}
use Rattle.history.specs.Demand3.{live, sets, value_at, highest, list_if, newest_first, kept}
use Rattle.history.specs.Ops.{Op, top, Falls, stack, stack_falls}
use Rattle.history.specs.Invariant.{claims, own, Invariant}
use Rattle.history.specs.Whole.{shown, Front}
use Rattle.history.specs.Owners.{first_setting, Owns, highest_setting, OwnsNewest, given_by, OwnersGive}
use Rattle.history.proofs.ByNumber.{above}
use Rattle.history.proofs.Follow.{entry_seen}
use Rattle.history.proofs.Fronts.{live_above}
use Rattle.history.proofs.Reached.{folded}
use Rattle.history.proofs.Switched.{demand_3}

-- a change claims the paths that it sets
claims_sets : (k : ℕ) (t : Transaction) (p d : ℕ) → claims k t p d ≡ cond (sets t p) k d
unfolding look
claims_sets k t p d = go (names_at t.paths t.count p 3) (names_at t.paths t.count p 2) (names_at t.paths t.count p 1) (names_at t.paths t.count p 0)
  where
    go : (a b c e : Bool) → cond a k (cond b k (cond c k (cond e k d))) ≡ cond (a || (b || (c || e))) k d
    go true b c e = refl
    go false true c e = refl
    go false false true e = refl
    go false false false true = refl
    go false false false false = refl

own_low : (l : Log) (ks : List ℕ) → Falls ks → (p : ℕ) → own l ks p ≤ top ks
unfolding own Falls
own_low l [] f p = omega arith
own_low l (k ∷ ks) f p = subst (λ n. n ≤ k) (sym (claims_sets k (entry_of l k) p (own l ks p))) (go (sets (entry_of l k) p) (own_low l ks f.1 p))
  where
    go : (b : Bool) → own l ks p ≤ top ks → cond b k (own l ks p) ≤ k
    go true h = omega arith
    go false h = omega (arith, h, f.0)

-- those above b, of a log that has the entries above b
module _ (l m : Log) (b : ℕ) (same : (k : ℕ) → b < k → entry_of l k ≡ entry_of m k) (p : ℕ) where
  abbrev answered : ℕ → ℕ
  answered k = cond (leb k b) 0 k

  pub owner_above : (ks : List ℕ) → Falls ks → answered (own m ks p) ≡ first_setting l (above b ks) p
  unfolding own above first_setting Falls
  owner_above [] f = rw (le-leb 0 b (omega arith)) refl
  owner_above (k ∷ ks) f =
      ap answered (claims_sets k (entry_of m k) p (own m ks p)) ∙ go (sets (entry_of m k) p) refl (leb k b) refl (own_low m ks f.1 p) (owner_above ks f.1)
    where
      go : (x : Bool) → sets (entry_of m k) p ≡ x → (y : Bool) → leb k b ≡ y → own m ks p ≤ top ks → answered (own m ks p) ≡ first_setting l (above b ks) p
          → answered (cond x k (own m ks p)) ≡ first_setting l (cond y [] (k ∷ above b ks)) p
      go true d true e h r = rw e refl
      go true d false e h r = rw (e, same k (leb-false k b e), d) refl
      go false d true e h r = rw (le-leb (own m ks p) b (omega (arith, leb-true k b e, f.0))) refl
      go false d false e h r = r ∙ sym (ap (λ t. cond (sets t p) k (first_setting l (above b ks) p)) (same k (leb-false k b e)) ∙ ap (λ z. cond z k (first_setting l (above b ks) p)) d)

owned : {w : State} {ops acts : List Op} {bad : List ℕ} (inv : Invariant w ops acts bad) (b : ℕ) (vs : List ℕ) → Front w.log b vs → Owns (shown w b vs)
owned {w} {ops} inv b vs f p q =
    ap (λ k. cond (leb k b) 0 k) (inv.committed.owns p q)
    ∙ owner_above (shown w b vs).log w.log b (entry_seen w b vs f) p (stack ops) (stack_falls ops inv.committed.rising)
    ∙ ap (λ ks. first_setting (shown w b vs).log ks p) (sym (live_above inv b vs f))

-- the owner kept is that of the whole live list, after any calls from fresh
pub owners_listed : (m : Bool) (cs : List Call) → Owns (run m cs).state
owners_listed m cs =
    let x = folded m cs in
    subst Owns (sym x.shows) (owned x.reached.inv x.fold x.base x.front)

-- ---- by the events
module _ (l : Log) (f : ℕ → Bool) (p : ℕ) where
  first_highest : (n : ℕ) → first_setting l (newest_first f n) p ≡ highest_setting l f n p
  unfolding newest_first highest_setting first_setting
  first_highest zero = refl
  first_highest (suc n) = go (f (suc n)) (sets (entry_of l (suc n)) p) refl (first_highest n)
    where
      go : (a b : Bool) → sets (entry_of l (suc n)) p ≡ b → first_setting l (newest_first f n) p ≡ highest_setting l f n p
          → first_setting l (list_if a (suc n) (newest_first f n)) p ≡ cond (a && b) (suc n) (highest_setting l f n p)
      go true true e h = rw e refl
      go true false e h = rw e h
      go false b e h = h

  -- the highest's value is what it gives
  highest_gives : (n : ℕ) → highest l f n p ≡ given_by l (highest_setting l f n p) p
  unfolding highest highest_setting
  highest_gives zero = refl
  highest_gives (suc n) = go (f (suc n) && sets (entry_of l (suc n)) p) (highest_gives n)
    where
      go : (b : Bool) → highest l f n p ≡ given_by l (highest_setting l f n p) p
          → cond b (value_at (entry_of l (suc n)) p) (highest l f n p) ≡ given_by l (cond b (suc n) (highest_setting l f n p)) p
      go true h = refl
      go false h = h

-- the owner is the newest live change that set the path, after any calls from fresh
pub owners_newest : (m : Bool) (cs : List Call) → OwnsNewest (run m cs).state (run m cs).events
owners_newest m cs p q =
    let s = (run m cs).state in
    let f = kept s (live (run m cs).events 1) in
    owners_listed m cs p q ∙ ap (λ ks. first_setting s.log ks p) (demand_3 m cs).live ∙ first_highest s.log f p (last s.log)

-- and the committed value is what the owner gives, or the base value
pub owners_give : (m : Bool) (cs : List Call) → OwnersGive (run m cs).state
owners_give m cs p q =
    let s = (run m cs).state in
    let f = kept s (live (run m cs).events 1) in
    (demand_3 m cs).committed p q
    ∙ highest_gives s.log f p (last s.log)
    ∙ ap (λ k. given_by s.log k p) (sym (owners_newest m cs p q))

-- What the values kept put back of those that a change is laid over (crate machine, Overlay, says what pairs say of a
-- path). Assumes nothing.
use Rattle.std.specs.Prelude.{ℕ, List, Bool, true, false, ◌||◌, cond, ◌≡◌, refl, ltb, get_or}
use Rattle.std.proofs.Common.{ap, eqb-true}
use Rattle.kinds.specs.declared.Transaction.{Transaction}
use Rattle.machine.specs.Calls.{present, present_at}
use Rattle.machine.proofs.Overlay.{names_at, look}
use Rattle.machine.proofs.Cases.{and_left, and_right}
use Rattle.history.specs.Demand3.{sets, value_at}

-- ---- what is kept puts back what stood there
module _ (a b c d : Bool) (k0 k1 k2 k3 v0 v1 v2 v3 : ℕ) where
  abbrev kept : ℕ → ℕ
  kept x = cond a k3 (cond b k2 (cond c k1 (cond d k0 x)))

  abbrev laid : ℕ → ℕ
  laid x = cond a v3 (cond b v2 (cond c v1 (cond d v0 x)))

restores : (a b c d : Bool) (k0 k1 k2 k3 v0 v1 v2 v3 x : ℕ) → (a ≡ true → k3 ≡ x) → (b ≡ true → k2 ≡ x) → (c ≡ true → k1 ≡ x) → (d ≡ true → k0 ≡ x)
    → kept a b c d k0 k1 k2 k3 v0 v1 v2 v3 (laid a b c d k0 k1 k2 k3 v0 v1 v2 v3 x) ≡ x
restores true b c d k0 k1 k2 k3 v0 v1 v2 v3 x e f g h = e refl
restores false true c d k0 k1 k2 k3 v0 v1 v2 v3 x e f g h = f refl
restores false false true d k0 k1 k2 k3 v0 v1 v2 v3 x e f g h = g refl
restores false false false true k0 k1 k2 k3 v0 v1 v2 v3 x e f g h = h refl
restores false false false false k0 k1 k2 k3 v0 v1 v2 v3 x e f g h = refl

never_laid : (a b c d : Bool) (k0 k1 k2 k3 v0 v1 v2 v3 x : ℕ) → kept a b c d k0 k1 k2 k3 v0 v1 v2 v3 (laid a b c d k0 k1 k2 k3 v0 v1 v2 v3 x) ≡ x
    → kept a b c d k0 k1 k2 k3 v0 v1 v2 v3 x ≡ x
never_laid true b c d k0 k1 k2 k3 v0 v1 v2 v3 x e = e
never_laid false true c d k0 k1 k2 k3 v0 v1 v2 v3 x e = e
never_laid false false true d k0 k1 k2 k3 v0 v1 v2 v3 x e = e
never_laid false false false true k0 k1 k2 k3 v0 v1 v2 v3 x e = e
never_laid false false false false k0 k1 k2 k3 v0 v1 v2 v3 x e = e

-- the present values of a change's paths, laid over it, put back what was there
pub present_restores : (vs : List ℕ) (t : Transaction) (ws : List ℕ) (p : ℕ)
    → look t.paths t.count (present vs t) p (look t.paths t.count ws p (get_or vs p 0)) ≡ get_or vs p 0
unfolding look present
present_restores vs t ws p =
    let ps = t.paths in
    let n = t.count in
    restores (names_at ps n p 3) (names_at ps n p 2) (names_at ps n p 1) (names_at ps n p 0)
    (present_at vs t 0) (present_at vs t 1) (present_at vs t 2) (present_at vs t 3) (get_or ws 0 0) (get_or ws 1 0) (get_or ws 2 0) (get_or ws 3 0) (get_or vs p 0)
    (was 3) (was 2) (was 1) (was 0)
  where
    was : (k : ℕ) → names_at t.paths t.count p k ≡ true → present_at vs t k ≡ get_or vs p 0
    was k e =
        rw (and_left (ltb k t.count) _ e) (ap (λ q. get_or vs q 0) (eqb-true (get_or t.paths k 0) p (and_right (ltb k t.count) _ e)))

-- what is kept puts it back where the change was never laid, too
pub back_again : (ps : List ℕ) (n : ℕ) (ks vs : List ℕ) (p d : ℕ) → look ps n ks p (look ps n vs p d) ≡ d → look ps n ks p d ≡ d
unfolding look
back_again ps n ks vs p d e =
    never_laid (names_at ps n p 3) (names_at ps n p 2) (names_at ps n p 1) (names_at ps n p 0) (get_or ks 0 0) (get_or ks 1 0) (get_or ks 2 0) (get_or ks 3 0) (get_or vs 0 0) (get_or vs 1 0)
    (get_or vs 2 0) (get_or vs 3 0) d e

-- what a change says of a path: its value where it sets it
pub look_sets : (t : Transaction) (p d : ℕ) → look t.paths t.count t.values p d ≡ cond (sets t p) (value_at t p) d
unfolding look
look_sets t p d = go (names_at ps n p 3) (names_at ps n p 2) (names_at ps n p 1) (names_at ps n p 0)
  where
    ps : List ℕ
    ps = t.paths

    n : ℕ
    n = t.count

    vs : List ℕ
    vs = t.values

    go : (a b c e : Bool)
        → cond a (get_or vs 3 0) (cond b (get_or vs 2 0) (cond c (get_or vs 1 0) (cond e (get_or vs 0 0) d)))
        ≡ cond (a || (b || (c || e))) (cond a (get_or vs 3 0) (cond b (get_or vs 2 0) (cond c (get_or vs 1 0) (get_or vs 0 0)))) d
    go true b c e = refl
    go false true c e = refl
    go false false true e = refl
    go false false false true = refl
    go false false false false = refl

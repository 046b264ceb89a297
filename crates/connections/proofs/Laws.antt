-- Where a node stands in the table, and what a call that is refused, or that stores a record at that place, has done: the
-- promise of Table.antt. Assumes nothing.
use Prim.Native.Nat.{ℕ, zero, suc, ◌≤◌, ◌<◌, ◌-◌}
use native.Mathlib.Nat.{not-suc-le-zero, le_of_suc-le-suc}
use mathlib.Core.Path.{◌≡◌, refl, sym, ◌∙◌, ap, subst}
use mathlib.Core.Bool.{Bool, true, false, ◌&&◌, true≢false, cond}
use mathlib.Core.List.{List, [], ◌∷◌, map}
use native.Mathlib.Omega.{arith}
use lib.Dec.{eqb, leb}
use lib.ListN.{length, get_or, set}
use borrow.Author.Tests.{leb-true, eq-eqb}
use Rattle.kinds.specs.declared.Connection.{Connection}
use Rattle.rules.specs.declared.Connected.{Connected}
use Rattle.rules.specs.Outside.{off}
use Rattle.machine.specs.State.{is_node, node_of, put_node, never}
use Rattle.connections.specs.declared.Place.{Place}
use Rattle.connections.specs.Table.{place_of, answer_at, table_at, Changes, Stops}

both_left : (a b : Bool) → (a && b) ≡ true → a ≡ true
both_left true b e = refl
both_left false b e = absurd (true≢false (sym e))

both_right : (a b : Bool) → (a && b) ≡ true → b ≡ true
both_right true b e = e
both_right false b e = absurd (true≢false (sym e))

-- ---- a node is 1 to 8, and stands one before its number
pub node_low : (n : ℕ) → is_node n ≡ true → 1 ≤ n
node_low n e = leb-true 1 n (both_left (leb 1 n) (leb n 8) e)

pub node_high : (n : ℕ) → is_node n ≡ true → n ≤ 8
node_high n e = leb-true n 8 (both_right (leb 1 n) (leb n 8) e)

one_less : (k : ℕ) → suc k - 1 ≡ k
one_less k = omega arith

node_at : (cs : List Connection) (n : ℕ) → is_node n ≡ true → get_or cs (n - 1) never ≡ node_of cs n
node_at cs zero e = absurd (true≢false (sym e))
node_at cs (suc k) e = ap (λ (j : ℕ). get_or cs j never) (one_less k)

put_at : (cs : List Connection) (n : ℕ) (x : Connection) → is_node n ≡ true → set cs (n - 1) x ≡ put_node cs n x
put_at cs zero x e = absurd (true≢false (sym e))
put_at cs (suc k) x e = ap (λ (j : ℕ). set cs j x) (one_less k)

-- ---- the promise, by the two tests that `place_of` makes
abbrev placed : Bool → Bool → ℕ → Place
placed eight node n = cond eight (cond node (record { answer = 0; at = n - 1 }) (record { answer = 2; at = 0 })) (record { answer = 1; at = 0 })

refused_by : (eight node : Bool) (n a : ℕ) (cs t : List Connection) → eqb (placed eight node n).answer 0 ≡ false
    → ((placed eight node n).answer ≡ cond eight (cond node a 2) 1) × (cs ≡ cond eight (cond node t cs) cs)
refused_by true true n a cs t e = absurd (true≢false e)
refused_by true false n a cs t e = (refl, refl)
refused_by false node n a cs t e = (refl, refl)

stored_by : (eight node : Bool) (f : Connection → Connected) (cs : List Connection) (n : ℕ) → is_node n ≡ node → eqb (placed eight node n).answer 0 ≡ true
    → ((f (get_or cs (placed eight node n).at never)).answer ≡ cond eight (cond node (f (node_of cs n)).answer 2) 1)
    × (set cs (placed eight node n).at (f (get_or cs (placed eight node n).at never)).connection ≡ cond eight (cond node (put_node cs n (f (node_of cs n)).connection) cs) cs)
stored_by true true f cs n b e = (
  ap (λ (x : Connection). (f x).answer) (node_at cs n b),
  put_at cs n (f (get_or cs (n - 1) never)).connection b ∙ ap (λ (x : Connection). put_node cs n (f x).connection) (node_at cs n b),
)
stored_by true false f cs n b e = absurd (true≢false (sym e))
stored_by false node f cs n b e = absurd (true≢false (sym e))

-- where the place is a refusal, the table stays and the place's answer is the call's
pub refused : (f : Connection → Connected) (cs : List Connection) (n : ℕ) (p : Place) → p ≡ place_of (length cs) n → eqb p.answer 0 ≡ false → Changes f cs n p.answer cs
refused f cs n p e =
    subst (λ (p : Place). eqb p.answer 0 ≡ false → Changes f cs n p.answer cs) (sym e)
    (refused_by (eqb (length cs) 8) (is_node n) n (f (node_of cs n)).answer cs (put_node cs n (f (node_of cs n)).connection))

-- where it is none, what the rule says of the record there is stored there
pub stored : (f : Connection → Connected) (cs : List Connection) (n : ℕ) (p : Place) (r : Connected) → p ≡ place_of (length cs) n → eqb p.answer 0 ≡ true → r ≡ f (get_or cs p.at never)
    → Changes f cs n r.answer (set cs p.at r.connection)
stored f cs n p r e ok er =
    subst (λ (r : Connected). Changes f cs n r.answer (set cs p.at r.connection)) (sym er)
    (subst (λ (p : Place). eqb p.answer 0 ≡ true → Changes f cs n (f (get_or cs p.at never)).answer (set cs p.at (f (get_or cs p.at never)).connection)) (sym e)
    (stored_by (eqb (length cs) 8) (is_node n) f cs n refl) ok)

-- ---- stop
pub stop_refused : (cs : List Connection) → eqb (length cs) 8 ≡ false → Stops cs 1 cs
stop_refused cs e = (sym (ap (λ (y : Bool). cond y 0 1) e), sym (ap (λ (y : Bool). cond y (map off cs) cs) e))

pub stopped : (cs zs : List Connection) → eqb (length cs) 8 ≡ true → zs ≡ map off cs → Stops cs 0 zs
stopped cs zs e all = (sym (ap (λ (y : Bool). cond y 0 1) e), all ∙ sym (ap (λ (y : Bool). cond y (map off cs) cs) e))

-- the table with its first i records disconnected
pub cleared : ℕ → List Connection → List Connection
cleared zero ys = ys
cleared (suc i) [] = []
cleared (suc i) (y ∷ ys) = off y ∷ cleared i ys

pub length_cleared : (i : ℕ) (ys : List Connection) → length (cleared i ys) ≡ length ys
unfolding cleared
length_cleared zero ys = refl
length_cleared (suc i) [] = refl
length_cleared (suc i) (y ∷ ys) = ap suc (length_cleared i ys)

pub cleared_none : (ys : List Connection) → ys ≡ cleared 0 ys
unfolding cleared
cleared_none ys = refl

pub cleared_more : (i : ℕ) (ys : List Connection) → i < length ys → set (cleared i ys) i (off (get_or (cleared i ys) i never)) ≡ cleared (suc i) ys
unfolding cleared
cleared_more i [] l = absurd (not-suc-le-zero l)
cleared_more zero (y ∷ ys) l = refl
cleared_more (suc i) (y ∷ ys) l = ap (λ (zs : List Connection). off y ∷ zs) (cleared_more i ys (le_of_suc-le-suc l))

pub cleared_all : (ys : List Connection) → cleared (length ys) ys ≡ map off ys
unfolding cleared
cleared_all [] = refl
cleared_all (y ∷ ys) = ap (λ (zs : List Connection). off y ∷ zs) (cleared_all ys)

-- ---- a table of eight: the promise is the answer and the table themselves
pub of_eight : (f : Connection → Connected) (cs : List Connection) (n r : ℕ) (zs : List Connection) → length cs ≡ 8 → Changes f cs n r zs → (r ≡ answer_at f cs n) × (zs ≡ table_at f cs n)
of_eight f cs n r zs e p =
    (p.0 ∙ ap (λ (y : Bool). cond y (answer_at f cs n) 1) (eq-eqb _ _ e), p.1 ∙ ap (λ (y : Bool). cond y (table_at f cs n) cs) (eq-eqb _ _ e))

pub stops_eight : (cs : List Connection) (r : ℕ) (zs : List Connection) → length cs ≡ 8 → Stops cs r zs → zs ≡ map off cs
stops_eight cs r zs e p = p.1 ∙ ap (λ (y : Bool). cond y (map off cs) cs) (eq-eqb _ _ e)

-- What a row of reads gives, and what a row of writes leaves, over variables. Assumes nothing.
use mathlib.Core.Bool.{Bool, ◌||◌, cond}
use Prim.Native.Nat.{ℕ, zero, suc, ◌+◌, ◌-◌, ◌*◌, ◌<◌, ◌≤◌}
use mathlib.Core.Path.{◌≡◌, refl, ap, ap₂, sym, ◌∙◌, subst}
use mathlib.Core.List.{List, [], ◌∷◌, ◌++◌}
use native.Mathlib.Nat.{add_assoc, min-eq_left}
use native.Mathlib.Numerals.{add-one}
use native.Mathlib.Omega.{arith}
use borrow.Author.Tests.{lt-ltb, le-ltb}
use lib.Dec.{ltb}
use lib.ListN.{length, get_or, take, replicate, length-take, length-replicate, get_or-replicate, replicate-append-replicate, get_or-eq_default}
use lib.Seq.{take-suc, take_all, ext_get_or}
use denote.Param.Members.{Mut}
use Rattle.std.specs.Fn.{Called}
use Rattle.std.specs.Array.{IsFromFnResult, IsFromFnResultFrom}
use Rattle.kinds.specs.declared.Transaction.{Transaction}
use Rattle.kinds.specs.declared.Side.{Side}
use Rattle.kinds.specs.declared.Number.{Number}
use Rattle.kinds.specs.declared.Ordinal.{Ordinal}
use Rattle.kinds.specs.declared.Connection.{Connection}
use Rattle.kinds.specs.Numbers.{num, ord, follows}
use Rattle.fields.specs.Field.{field, put_field, fields_at, put_fields, ones, twos, quad}
use Rattle.fields.proofs.Runs.{table_at, length_fields, length_puts, puts_append, total_twos}
use Rattle.machine.specs.State.{absent, never, node_of}
use Rattle.machine.specs.Stores.{Table, target_values}
use Rattle.image.specs.Packed.{packed_of, change_in, rollback_in}
use Rattle.image.specs.Layout.{code_widths, mark_widths, value_size, table_widths, node_widths, node_size, place_of, phase_in, count_in, index_in, change_ordinal_in, rollback_ordinal_in, paths_in, values_in, kept_in, owners_in, target_values_at, connections_at, values_at, node_at}
use Rattle.image.specs.Records.{to_side, to_connections, codes, marks, entry_at, put_entry_at, to_node, put_node_at, connections_of, put_connections}
use Rattle.image.specs.View.{table_of, write}

-- ---- an entry
pub loaded : (l : List ℕ) (n at : ℕ) → at ≡ place_of n → (c a b : ℕ) (x y : Side) (f g h : ℕ) (i : Number) (p v r w : List ℕ)
    → c ≡ field l at 2 → a ≡ change_in c → x ≡ to_side a (field l (at + change_ordinal_in) 4) → b ≡ rollback_in c → y ≡ to_side b (field l (at + rollback_ordinal_in) 4)
    → f ≡ field l (at + phase_in) 1 → g ≡ field l (at + count_in) 1 → h ≡ field l (at + index_in) 2 → i ≡ num h
    → p ≡ fields_at l (at + paths_in) ones → v ≡ fields_at l (at + values_in) twos → r ≡ fields_at l (at + kept_in) twos → w ≡ fields_at l (at + owners_in) twos
    → ◌≡◌ {A = Transaction} (record { phase = f; count = g; paths = p; values = v; change = x; rollback = y; index = i; kept = r; owners = w }) (entry_at l n)
unfolding entry_at fields_at
loaded l n at e c a b x y f g h i p v r w qc qa q0 qb q1 q2 q3 q4 q5 q6 q7 q8 q9 = simp (q0, qa, q1, qb, qc, q2, q3, q5, q4, q6, q7, q8, q9, e, add_assoc)

-- of which only the ordinals were read
pub carried : (l : List ℕ) (n at : ℕ) → at ≡ place_of n → (a x y : Ordinal) (p q r : Bool) (f g : ℕ) → f ≡ field l (at + change_ordinal_in) 4 → x ≡ ord f
    → g ≡ field l (at + rollback_ordinal_in) 4 → y ≡ ord g → p ≡ follows a.0 x.0 → q ≡ follows a.0 y.0 → r ≡ (p || q)
    → r ≡ (follows a.0 (entry_at l n).change.ordinal.0 || follows a.0 (entry_at l n).rollback.ordinal.0)
unfolding entry_at fields_at
carried l n at e a x y p q r f g ef ex eg ey ep eq er = simp (er, ep, eq, ex, ey, ef, eg, e, add_assoc)

pub coded : (l l1 l2 l3 : List ℕ) (at n : ℕ) (t : Transaction) → n ≡ packed_of t
    → l1 ≡ put_field l at 2 n → l2 ≡ put_field l1 (at + phase_in) 1 t.phase → l3 ≡ put_field l2 (at + count_in) 1 t.count → l3 ≡ put_fields l at code_widths (codes t)
unfolding put_fields
coded l l1 l2 l3 at n t p q1 q2 q3 = simp (q3, q2, q1, p, add_assoc)

pub stored : (l l1 l2 l3 l4 l5 l6 : List ℕ) (n at : ℕ) → at ≡ place_of n → (t : Transaction)
    → l1 ≡ put_fields l at code_widths (codes t) → l2 ≡ put_fields l1 (at + index_in) mark_widths (marks t)
    → l3 ≡ put_fields l2 (at + paths_in) ones (quad t.paths) → l4 ≡ put_fields l3 (at + values_in) twos (quad t.values)
    → l5 ≡ put_fields l4 (at + kept_in) twos (quad t.kept) → l6 ≡ put_fields l5 (at + owners_in) twos (quad t.owners) → l6 ≡ put_entry_at l n t
unfolding put_entry_at put_fields
stored l l1 l2 l3 l4 l5 l6 n at e t q1 q2 q3 q4 q5 q6 = simp (q6, q5, q4, q3, q2, q1, e, add_assoc)

-- ---- the eight connections
length_nodes : (m : ℕ) (l : List ℕ) (at : ℕ) → length (to_connections (fields_at l at (node_widths m))) ≡ m
unfolding fields_at
length_nodes zero l at = refl
length_nodes (suc m) l at = ap suc (length_nodes m l (at + 4 + 1))

nodes_at : (m : ℕ) (l : List ℕ) (at k : ℕ) → k < m → get_or (to_connections (fields_at l at (node_widths m))) k never ≡ to_node l (at + 5 * k)
unfolding fields_at
nodes_at zero l at k h = absurd (omega arith)
nodes_at (suc m) l at zero h = let z : at + 5 * 0 ≡ at = omega arith in rw z
nodes_at (suc m) l at (suc k) h =
    let e : at + 4 + 1 + 5 * k ≡ at + 5 * suc k = omega arith in nodes_at m l (at + 4 + 1) k (omega arith) ∙ ap (to_node l) e

-- what a closure with one answer at each number makes of the numbers from i on
module _ {F : Type 0} (g : Mut F (ℕ × Unit {0}) Connection) (f : F) (ys : List Connection) (h : ℕ → Connection)
    (told : (i : ℕ) (y : Connection) (q : F) → Called g f (i, tt) y q → (q ≡ f) × (y ≡ h i)) where
  made_at : (n i : ℕ) → IsFromFnResultFrom g f ys i n → (k : ℕ) → k < n → get_or ys (i + k) never ≡ h (i + k)
  made_at zero i m k p = absurd (omega arith)
  made_at (suc n) i m zero p =
      let z : i + 0 ≡ i = omega arith in
      ap (λ (j : ℕ). get_or ys j never) z ∙ m.2.1 never ∙ (told i m.1 m.0 m.3).1 ∙ ap h (sym z)
  made_at (suc n) i m (suc k) p =
      let z : i + suc k ≡ i + 1 + k = omega arith in
      ap (λ (j : ℕ). get_or ys j never) z
      ∙ made_at n (i + 1) (subst (λ (x : F). IsFromFnResultFrom g x ys (i + 1) n) (told i m.1 m.0 m.3).0 m.4) k (omega arith) ∙ ap h (sym z)

  pub made : (n : ℕ) → IsFromFnResult g f ys n → (k : ℕ) → k < n → get_or ys k never ≡ h k
  made n m k p = let z : 0 + k ≡ k = omega arith in rw z at (made_at n 0 m.each k p)

pub nodes_loaded : (l : List ℕ) (ys : List Connection) → length ys ≡ 8 → ((k : ℕ) → k < 8 → get_or ys k never ≡ to_node l (connections_at + node_size * k)) → ys ≡ connections_of l
unfolding connections_of
nodes_loaded l ys e h =
    let z : length (to_connections (fields_at l connections_at (node_widths 8))) ≡ 8 = length_nodes 8 l connections_at in
    ext_get_or never ys (to_connections (fields_at l connections_at (node_widths 8))) (e ∙ sym z)
    (λ k p. h k (omega arith) ∙ sym (nodes_at 8 l connections_at k (omega arith)))

pub node_loaded : (l : List ℕ) (n : ℕ) (x : Connection) → 1 ≤ n → n ≤ 8 → x ≡ to_node l (node_at (n - 1)) → x ≡ node_of (connections_of l) n
unfolding connections_of
node_loaded l zero x a b q = absurd (omega arith)
node_loaded l (suc k) x a b q =
    let e : suc k - 1 ≡ k = omega arith in q ∙ ap (λ (j : ℕ). to_node l (node_at j)) e ∙ sym (nodes_at 8 l connections_at k (omega arith))

-- ---- one value of a table at a place
pub value_loaded : (l : List ℕ) (at p k x : ℕ) → k ≡ p → k < 32 → x ≡ field l (at + 2 * k) 2 → x ≡ get_or (fields_at l at table_widths) p 0
value_loaded l at p k x e h q = q ∙ ap (λ (j : ℕ). field l (at + 2 * j) 2) e ∙ sym (table_at 32 l at p (omega arith))

pub value_none : (l : List ℕ) (at p k : ℕ) → k ≡ p → 32 ≤ k → 0 ≡ get_or (fields_at l at table_widths) p 0
value_none l at p k e h = sym (get_or-eq_default (fields_at l at table_widths) 0 (omega (arith, length_fields table_widths l at)))

pub value_stored : (l m : List ℕ) (at p k v : ℕ) → k ≡ p → k < 32 → m ≡ put_field l (at + 2 * k) 2 v → m ≡ cond (ltb p 32) (put_field l (at + 2 * p) 2 v) l
value_stored l m at p k v e h q = rw (lt-ltb p 32 (omega arith)) (q ∙ rw e)

pub value_lost : (l : List ℕ) (at p k v : ℕ) → k ≡ p → 32 ≤ k → l ≡ cond (ltb p 32) (put_field l (at + 2 * p) 2 v) l
value_lost l at p k v e h = rw (le-ltb p 32 (omega arith))

-- ---- connections stored: the first k of them
pub stored_nodes : List ℕ → List Connection → ℕ → List ℕ
stored_nodes l xs zero = l
stored_nodes l xs (suc k) = put_node_at (stored_nodes l xs k) (node_at k) (get_or xs k never)

pub no_node : (l : List ℕ) (xs : List Connection) → l ≡ stored_nodes l xs 0
unfolding stored_nodes
no_node l xs = refl

pub one_node : (l m m' : List ℕ) (xs : List Connection) (k : ℕ) → m ≡ stored_nodes l xs k → m' ≡ put_node_at m (node_at k) (get_or xs k never) → m' ≡ stored_nodes l xs (k + 1)
unfolding stored_nodes
one_node l m m' xs k p q = q ∙ ap (λ (j : List ℕ). put_node_at j (node_at k) (get_or xs k never)) p ∙ sym (ap (stored_nodes l xs) (add-one k))

pub all_nodes : (l m : List ℕ) (xs : List Connection) (k : ℕ) → m ≡ stored_nodes l xs k → k ≡ 8 → m ≡ put_connections l xs
unfolding put_connections put_node_at put_fields stored_nodes
all_nodes l m xs k p e = rw e at p

-- ---- a table of two-byte numbers, written one after another
module _ (l vs : List ℕ) (at : ℕ) where
  -- the first k of them
  abbrev pub up_to_here : ℕ → List ℕ
  up_to_here k = put_fields l at (replicate k 2) (take k vs)

  pub one_more : (m : List ℕ) (k v : ℕ) → k < length vs → m ≡ put_field (up_to_here k) (at + 2 * k) 2 v → v ≡ get_or vs k 0 → m ≡ up_to_here (k + 1)
  unfolding put_fields
  one_more m k v h q e =
      let t : take (k + 1) vs ≡ take k vs ++ (get_or vs k 0 ∷ []) = ap (λ (j : ℕ). take j vs) (add-one k) ∙ take-suc vs k 0 h in
      let w : replicate {A = ℕ} (k + 1) 2 ≡ replicate k 2 ++ (2 ∷ []) = sym (replicate-append-replicate {A = ℕ} k 1 2) in
      let n : length (replicate {A = ℕ} k 2) ≡ length (take k vs) = length-replicate {A = ℕ} k 2 ∙ sym (length-take k vs ∙ min-eq_left (omega arith)) in
      q
      ∙ ap₂ (λ (x y : ℕ). put_field (up_to_here k) (at + x) 2 y) (sym (total_twos k)) e
      ∙ sym (ap₂ (λ (x y : List ℕ). put_fields l at x y) w t ∙ puts_append (replicate k 2) (take k vs) (2 ∷ []) (get_or vs k 0 ∷ []) l at n)

  pub length_here : (k : ℕ) → length (up_to_here k) ≡ length l
  length_here k = length_puts (replicate k 2) (take k vs) l at

-- ---- the target's values, all at once: what stands in the slice after k of them, none at first, one more, all 32
abbrev pub Here : List ℕ → List ℕ → List ℕ → ℕ → Type 0
Here l vs s k = (s ≡ up_to_here l vs target_values_at k) × (length s ≡ length l)

here : (l vs s : List ℕ) (k : ℕ) → s ≡ up_to_here l vs target_values_at k → Here l vs s k
here l vs s k e = (e, ap length e ∙ length_here l vs target_values_at k)

pub clear_none : (l : List ℕ) → Here l absent l 0
unfolding put_fields
clear_none l = (refl, refl)

pub clear_more : (l s m : List ℕ) (k : ℕ) → k < 32 → Here l absent s k → m ≡ put_field s (target_values_at + value_size * k) 2 0 → Here l absent m (k + 1)
clear_more l s m k h p q =
    here l absent m (k + 1)
    (one_more l absent target_values_at m k 0 (omega (arith, length-replicate {A = ℕ} 32 0)) (q ∙ ap (λ (x : List ℕ). put_field x (target_values_at + value_size * k) 2 0) p.0)
    (sym (get_or-replicate {A = ℕ} 32 k 0 0 h)))

pub all_here : (l s vs : List ℕ) (k : ℕ) → k ≤ 32 → 32 ≤ k → length vs ≡ 32 → Here l vs s k → s ≡ write l (target_values vs)
unfolding write
all_here l s vs k a b z p =
    let e : k ≡ 32 = omega arith in
    let t : take 32 vs ≡ vs = take_all 32 vs (omega arith) in
    p.0 ∙ ap (up_to_here l vs target_values_at) e ∙ ap (λ (x : List ℕ). put_fields l target_values_at table_widths x) t

pub length_table : (l : List ℕ) (b : Table) → length (table_of l b) ≡ 32
unfolding table_of
length_table l b = length_fields table_widths l (values_at b)

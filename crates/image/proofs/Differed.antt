-- The target's values brought to Applied's, path by path: what each write leaves, and what they come to (order 13). Assumes
-- nothing.
use Prim.Native.Nat.{ℕ, suc, ◌+◌, ◌*◌, ◌≤◌, ◌<◌}
use mathlib.Core.Path.{◌≡◌, refl, ap, ap₂, sym, ◌∙◌}
use mathlib.Core.Logic.{inl, inr, ⊎_elim}
use mathlib.Core.Bool.{Bool, true, false, cond}
use mathlib.Core.List.{List, [], ◌∷◌, append-nil}
use native.Mathlib.Numerals.{add-one}
use native.Mathlib.Omega.{arith}
use borrow.Author.Tests.{eq-eqb, ne_eqb, lt-ltb}
use lib.Dec.{eqb}
use lib.ListN.{length, get_or}
use Rattle.fields.specs.Field.{put_field}
use Rattle.fields.proofs.Laws.{Outside, put_outside, field_kept, length_put}
use Rattle.fields.proofs.Runs.{table_at}
use Rattle.machine.specs.Stores.{of_applied, of_target, value}
use Rattle.machine.specs.Differ.{differ, differ_row}
use Rattle.image.specs.Layout.{value_size, values_at}
use Rattle.image.specs.View.{table_of, write, written}
use Rattle.image.specs.Differing.{value_in, WritesPath}
use Rattle.image.specs.Promises.{WritesDiffering}
use Rattle.image.proofs.Shown.{written_append}

-- ---- one path
module _ (l : List ℕ) (k r v w : ℕ) (ev : v ≡ value_in l of_applied k) (ew : w ≡ value_in l of_target k) where
  pub path_same : w ≡ v → r ≡ 0 → WritesPath l k r l
  path_same e p =
      let b : eqb (value_in l of_target k) (value_in l of_applied k) ≡ true = eq-eqb _ _ (sym ew ∙ e ∙ ev) in
      (p ∙ ap (λ (x : Bool). cond x 0 1) (sym b), ap (λ (x : Bool). cond x l (put_field l (values_at of_target + value_size * k) value_size (value_in l of_applied k))) (sym b))

  pub path_other : (m : List ℕ) → (w ≡ v → ⊥) → r ≡ 1 → m ≡ put_field l (values_at of_target + value_size * k) value_size v → WritesPath l k r m
  path_other m n p q =
      let b : eqb (value_in l of_target k) (value_in l of_applied k) ≡ false = ne_eqb _ _ (λ e. n (ew ∙ e ∙ sym ev)) in (
        p ∙ ap (λ (x : Bool). cond x 0 1) (sym b),
        q ∙ ap (λ (x : ℕ). put_field l (values_at of_target + value_size * k) value_size x) ev
            ∙ ap (λ (x : Bool). cond x l (put_field l (values_at of_target + value_size * k) value_size (value_in l of_applied k))) (sym b),
      )

pub path_few : (l : List ℕ) (k r : ℕ) (m : List ℕ) → WritesPath l k r m → r ≤ 1
path_few l k r m p = go (eqb (value_in l of_target k) (value_in l of_applied k)) p.0
  where
    go : (x : Bool) → r ≡ cond x 0 1 → r ≤ 1
    go true e = omega (arith, e)
    go false e = omega (arith, e)

-- ---- the loop: the first k paths are done, and n of them differed
pub record Differed (l s : List ℕ) (k n : ℕ) : Type 0 where
  pub image : s ≡ written l (differ_row k (table_of l of_target) (table_of l of_applied))
  pub many : n ≡ differ k (table_of l of_target) (table_of l of_applied)
  pub few : n ≤ k
  pub size : length s ≡ length l
  pub outside : Outside l s (values_at of_target) (values_at of_target + value_size * k)

pub differed_none : (l : List ℕ) → Differed l l 0 0
unfolding written differ differ_row
differed_none l = record { image = refl; many = refl; few = omega arith; size = refl; outside = λ j h. refl }

one_written : (l : List ℕ) (k v : ℕ) → k < 32 → written l (value of_target k v ∷ []) ≡ put_field l (values_at of_target + value_size * k) value_size v
unfolding written write
one_written l k v h = rw (lt-ltb k 32 h)

module _ (l s m : List ℕ) (k n r : ℕ) (h : k < 32) (w : Differed l s k n) where
  differed_by : (x : Bool) → eqb (get_or (table_of l of_target) k 0) (get_or (table_of l of_applied) k 0) ≡ x → r ≡ cond x 0 1
      → m ≡ cond x s (put_field s (values_at of_target + value_size * k) value_size (get_or (table_of l of_applied) k 0)) → Differed l m (suc k) (n + r)
  unfolding differ differ_row
  differed_by true e p q =
      record {
        image = q ∙ w.image ∙ rw e (ap (written l) (sym (append-nil _)));
        many = rw (e, p) (omega (arith, w.many));
        few = omega (arith, p, w.few);
        size = ap length q ∙ w.size;
        outside = λ j g. ap (λ (z : List ℕ). get_or z j 0) q ∙ w.outside j (⊎_elim (λ a. inl a) (λ b. inr (omega arith)) g);
      }
  differed_by false e p q =
      let at = values_at of_target + value_size * k in
      let v = get_or (table_of l of_applied) k 0 in
      let row = differ_row k (table_of l of_target) (table_of l of_applied) in
      record {
        image =
            q ∙ ap (λ (z : List ℕ). put_field z at value_size v) w.image ∙ sym (one_written (written l row) k v h)
            ∙ rw e (sym (written_append l row (value of_target k v ∷ [])));
        many = rw (e, p) (omega (arith, w.many));
        few = omega (arith, p, w.few);
        size = ap length q ∙ length_put 2 s at v ∙ w.size;
        outside = λ j g. ap (λ (z : List ℕ). get_or z j 0) q ∙ put_outside 2 s at v j (⊎_elim (λ a. inl (omega arith)) (λ b. inr (omega arith)) g)
            ∙ w.outside j (⊎_elim (λ a. inl a) (λ b. inr (omega arith)) g);
      }

  pub differed_more : WritesPath s k r m → Differed l m (k + 1) (n + r)
  unfolding table_of
  differed_more p =
      let a : value_in s of_applied k ≡ get_or (table_of l of_applied) k 0 =
      field_kept l s _ _ w.outside 2 (values_at of_applied + value_size * k) (inl (omega arith)) ∙ sym (table_at 32 l (values_at of_applied) k h) in
      let b : value_in s of_target k ≡ get_or (table_of l of_target) k 0 =
      field_kept l s _ _ w.outside 2 (values_at of_target + value_size * k) (inr (omega arith)) ∙ sym (table_at 32 l (values_at of_target) k h) in
      let at = values_at of_target + value_size * k in
      rw (add-one k)
      (differed_by (eqb (get_or (table_of l of_target) k 0) (get_or (table_of l of_applied) k 0)) refl (p.0 ∙ ap₂ (λ (x y : ℕ). cond (eqb x y) 0 1) b a)
      (p.1 ∙ ap₂ (λ (x y : ℕ). cond (eqb x y) s (put_field s at value_size y)) b a))

pub differed_all : (l s : List ℕ) (k n : ℕ) → k ≤ 32 → 32 ≤ k → Differed l s k n → WritesDiffering l n s
differed_all l s k n a b w =
    let e : k ≡ 32 = omega arith in (
      w.many ∙ ap (λ (j : ℕ). differ j (table_of l of_target) (table_of l of_applied)) e,
      w.image ∙ ap (λ (j : ℕ). written l (differ_row j (table_of l of_target) (table_of l of_applied))) e,
    )

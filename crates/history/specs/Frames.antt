-- What a store of one entry leaves: the values of the changes, and the links between them. Laws of statuses. Assumes
-- nothing.
use Rattle.std.specs.Prelude.{ℕ, zero, suc, ◌≤◌, Bool, true, false, ◌≡◌, eqb}
use Rattle.std.proofs.Common.{arith, sym, ap, ◌∙◌, subst, eqb-true, ne_eqb}
use mathlib.Core.List.{List, [], ◌∷◌}
use Rattle.std.proofs.Math.Path.{refl}
use Rattle.std.proofs.lemmas.Bool.{eqb-false}
use Rattle.kinds.specs.declared.Transaction.{Transaction}
use Rattle.kinds.specs.declared.Status.{Status}
use Rattle.kinds.specs.declared.Status.TheVariants.{None, Pending, InProgress, Complete, Aborted, Canceled, Failed}
use Rattle.kinds.specs.Statuses.{is_complete}
use Rattle.machine.specs.State.{Log, entry_of, put_entry}
use Rattle.machine.proofs.Entries.{put_all, entry_zero}
use Rattle.history.specs.Ops.{Op, push, pop, none, top, tail, stack, newest, Rising, Falls, stack_low, stack_falls, clash}
use Rattle.history.specs.Invariant.{val, own, Link, Linked, is_going, complete, Paired}

-- ---- two entries that say the same of values
pub record Same (t u : Transaction) : Type 0 where
  pub count : u.count ≡ t.count
  pub paths : u.paths ≡ t.paths
  pub values : u.values ≡ t.values
  pub kept : u.kept ≡ t.kept
  pub owners : u.owners ≡ t.owners
  pub index : u.index.0 ≡ t.index.0

pub same : (t : Transaction) → Same t t
same t = record { count = refl; paths = refl; values = refl; kept = refl; owners = refl; index = refl }

module _ (l m : Log) (n : ℕ) (s : (k : ℕ) → k ≤ n → Same (entry_of l k) (entry_of m k)) where
  pub val_same : (ks : List ℕ) → Falls ks → top ks ≤ n → (p : ℕ) → val m ks p ≡ val l ks p
  unfolding val Falls
  val_same [] f b p = refl
  val_same (k ∷ ks) f b p = rw ((s k b).paths, (s k b).count, (s k b).values, val_same ks f.1 (omega (arith, f.0)) p)

  pub own_same : (ks : List ℕ) → Falls ks → top ks ≤ n → (p : ℕ) → own m ks p ≡ own l ks p
  unfolding own Falls
  own_same [] f b p = refl
  own_same (k ∷ ks) f b p = rw ((s k b).paths, (s k b).count, own_same ks f.1 (omega (arith, f.0)) p)

  pub linked_same : (o : List Op) → Rising o → newest o ≤ n → Linked l o → Linked m o
  unfolding Linked Rising newest
  linked_same [] r b h = tt
  linked_same (push k ∷ o) r b h = (
    record {
      back = (s k b).index ∙ h.0.back;
      keeps = λ p q. rw ((s k b).paths, (s k b).count, (s k b).kept, (s k b).values, val_same (stack o) (stack_falls o r.1) (omega (arith, stack_low o r.1, r.0)) p) (h.0.keeps p q);
      owners = λ p q. rw ((s k b).paths, (s k b).count, (s k b).owners, own_same (stack o) (stack_falls o r.1) (omega (arith, stack_low o r.1, r.0)) p) (h.0.owners p q);
    },
    linked_same o r.1 (omega (arith, r.0)) h.1,
  )
  linked_same (pop k ∷ o) r b h = linked_same o r.1 b h
  linked_same (none ∷ o) r b h = absurd r

-- one entry stored, its pairs as they were if its number is at most n
pub put_same : (l : Log) (i : ℕ) (t : Transaction) (n : ℕ) → (i ≤ n → Same (entry_of l i) t) → (k : ℕ) → k ≤ n → Same (entry_of l k) (entry_of (put_entry l i t) k)
put_same l i t n q = put_all (λ k u. k ≤ n → Same (entry_of l k) u) l i t (λ k b. same (entry_of l k)) q

-- ---- every change on the stack was committed over those under it
unfoldable pub LinkedStack : Log → List ℕ → Type 0
LinkedStack l [] = Unit {0}
LinkedStack l (k ∷ ks) = Link l k ks × LinkedStack l ks

pub stack_linked : (l : Log) (o : List Op) → Rising o → Linked l o → LinkedStack l (stack o)
unfolding Linked LinkedStack stack Rising
stack_linked l [] r h = tt
stack_linked l (push k ∷ o) r h = (h.0, stack_linked l o r.1 h.1)
stack_linked l (pop k ∷ o) r h = go (stack o) (stack_linked l o r.1 h)
  where
    go : (ks : List ℕ) → LinkedStack l ks → LinkedStack l (tail ks)
    go [] x = tt
    go (k ∷ ks) x = x.1
stack_linked l (none ∷ o) r h = absurd r

-- ---- statuses that differ
pub not_going : {A : Type 0} (c : Status) → is_going c ≡ false → c ≡ InProgress → A
not_going c e p = clash (ap is_going (sym p) ∙ e)

pub complete_no : (c : Status) (x y : ℕ) → is_complete c ≡ false → (c ≡ InProgress → x ≡ y → ⊥) → complete c x y ≡ false
complete_no None x y e f = refl
complete_no Pending x y e f = refl
complete_no InProgress x y e f = simp (ne_eqb x y (f refl))
complete_no Complete x y e f = e
complete_no Aborted x y e f = refl
complete_no Canceled x y e f = refl
complete_no Failed x y e f = refl

-- what is compared may move where nothing in progress is equal before or after
pub complete_same : (c : Status) (x y u v : ℕ) → (c ≡ InProgress → (x ≡ y → ⊥) × (u ≡ v → ⊥)) → complete c u v ≡ complete c x y
complete_same None x y u v f = refl
complete_same Pending x y u v f = refl
complete_same InProgress x y u v f = simp (ne_eqb x y (f refl).0, ne_eqb u v (f refl).1)
complete_same Complete x y u v f = refl
complete_same Aborted x y u v f = refl
complete_same Canceled x y u v f = refl
complete_same Failed x y u v f = refl

-- decide whether two numbers are equal
pub by_eq : {R : Type 0} (k n : ℕ) → (k ≡ n → R) → ((k ≡ n → ⊥) → R) → R
by_eq {R} k n f g = go (eqb k n) refl
  where
    go : (b : Bool) → eqb k n ≡ b → R
    go true e = f (eqb-true k n e)
    go false e = g (eqb-false k n e)

pub by_bool : {R : Type 0} (b : Bool) → (b ≡ true → R) → (b ≡ false → R) → R
by_bool true f g = f refl
by_bool false f g = g refl

-- an entry that says something has a number
pub some_change : (l : Log) (k : ℕ) → ((entry_of l k).change.commit ≡ None → ⊥) → 1 ≤ k
some_change l zero e = absurd (e (ap (λ t. t.change.commit) (entry_zero l)))
some_change l (suc k) e = omega arith

pub some_rollback : (l : Log) (k : ℕ) → ((entry_of l k).rollback.commit ≡ None → ⊥) → 1 ≤ k
some_rollback l zero e = absurd (e (ap (λ t. t.rollback.commit) (entry_zero l)))
some_rollback l (suc k) e = omega arith

-- ---- a side by its commit status
pub paired : (a b x : Status) (o : ℕ) → a ≡ b → Paired a x o → Paired b x o
paired a b x o e p = subst (λ c. Paired c x o) e p

-- what is applied was committed
pub going_complete : (c a : Status) (o : ℕ) → Paired c a o → a ≡ InProgress → c ≡ Complete
going_complete None a o p e = not_going None refl (sym p.0 ∙ e)
going_complete Pending a o p e = not_going Pending refl (sym p.0 ∙ e)
going_complete InProgress a o p e = not_going Pending refl (sym p.0 ∙ e)
going_complete Complete a o p e = refl
going_complete Aborted a o p e = absurd p
going_complete Canceled a o p e = absurd p
going_complete Failed a o p e = not_going Canceled refl (sym p.0 ∙ e)

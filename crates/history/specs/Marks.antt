-- Where a status says that a change or a rollback began, failed, was aborted or canceled, the events say the same; and
-- every rollback passed by the switch was pushed to it or canceled. Assumes nothing.
use Rattle.std.specs.Prelude.{ℕ, suc, ◌≤◌, ◌<◌, List, ◌∷◌, Bool, true, false, ◌&&◌, ◌||◌, ◌≡◌, refl, eqb, length}
use Rattle.std.proofs.Common.{sym, ap, ◌∙◌, ne_eqb}
use Rattle.kinds.specs.declared.Transaction.{Transaction}
use Rattle.kinds.specs.declared.Event.{Event}
use Rattle.kinds.specs.declared.Status.{Status}
use Rattle.kinds.specs.declared.Status.TheVariants.{None, Pending, InProgress, Complete, Aborted, Canceled, Failed}
use Rattle.kinds.specs.Statuses.{code_of, is_pending, is_failed}
use Rattle.rules.specs.ApplyRollback.{was_tried, is_aborted}
use Rattle.machine.specs.State.{Log, entry_of, put_entry, last}
use Rattle.machine.proofs.Entries.{put_all, entry_put}
use Rattle.history.specs.Demand3.{tells, told}
use Rattle.history.specs.Ops.{Op, popped}
use Rattle.history.specs.Frames.{by_eq}

-- ---- statuses
abbrev pub is_canceled : Status → Bool
is_canceled None = false
is_canceled Pending = false
is_canceled InProgress = false
is_canceled Complete = false
is_canceled Aborted = false
is_canceled Canceled = true
is_canceled Failed = false

-- a status that an apply has before it begins, or where it never does
abbrev pub never_begun : Status → Bool
never_begun None = true
never_begun Pending = false
never_begun InProgress = false
never_begun Complete = false
never_begun Aborted = true
never_begun Canceled = true
never_begun Failed = false

-- entry k, with Applied's ordinal a and target g; `passed` are the commits that the switch has passed
pub record Mark (a g : ℕ) (passed : List Op) (es : List Event) (k : ℕ) (t : Transaction) : Type 0 where
  pub rejected : told Failed es 1 1 k ≡ is_failed t.change.commit
  pub failed : told Failed es 1 2 k ≡ is_failed t.change.apply
  pub aborted : told Aborted es 1 2 k ≡ is_aborted t.change.apply
  pub canceled : told Canceled es 2 2 k ≡ is_canceled t.rollback.apply
  pub never : never_begun t.change.apply ≡ true → told InProgress es 1 2 k ≡ false
  pub aimed : is_pending t.change.apply ≡ true → told InProgress es 1 2 k ≡ true → (t.change.ordinal.0 ≡ suc a) × (g ≡ k)
  pub never_back : never_begun t.rollback.apply ≡ true → told InProgress es 2 2 k ≡ false
  pub tried : is_pending t.rollback.apply ≡ true → told InProgress es 2 2 k ≡ true → was_tried t.change.apply ≡ true
  pub gone : popped k passed ≡ true → (told Complete es 2 2 k || is_canceled t.rollback.apply) ≡ true

-- ---- one event more
-- of another stage, or of another number
silent_stage : (x : Status) (e : Event) (es : List Event) (p g k : ℕ) → eqb e.stage g ≡ false → told x (e ∷ es) p g k ≡ told x es p g k
unfolding told
silent_stage x e es p g k d = rw d (ap (λ b. b || told x es p g k) (drop (eqb (code_of e.status) (code_of x)) (eqb e.phase p)))
  where
    drop : (a b : Bool) → (a && (b && false)) ≡ false
    drop true true = refl
    drop true false = refl
    drop false b = refl

silent_number : (x : Status) (e : Event) (es : List Event) (p g k : ℕ) → eqb e.number.0 k ≡ false → told x (e ∷ es) p g k ≡ told x es p g k
unfolding told
silent_number x e es p g k d =
    rw d (ap (λ b. b || told x es p g k) (drop (eqb (code_of e.status) (code_of x)) (eqb e.phase p) (eqb e.stage g)))
  where
    drop : (a b c : Bool) → (a && (b && (c && false))) ≡ false
    drop true true true = refl
    drop true true false = refl
    drop true false c = refl
    drop false b c = refl

-- the same marks where the events tell the same of k
same_told : (a g : ℕ) (o : List Op) (es fs : List Event) (k : ℕ) (t : Transaction) → told Failed fs 1 1 k ≡ told Failed es 1 1 k
    → ((x : Status) (p : ℕ) → told x fs p 2 k ≡ told x es p 2 k)
    → Mark a g o es k t
    → Mark a g o fs k t
same_told a g o es fs k t r h m =
    record {
      rejected = r ∙ m.rejected;
      failed = h Failed 1 ∙ m.failed;
      aborted = h Aborted 1 ∙ m.aborted;
      canceled = h Canceled 2 ∙ m.canceled;
      never = λ x. h InProgress 1 ∙ m.never x;
      aimed = λ x y. m.aimed x (sym (h InProgress 1) ∙ y);
      never_back = λ x. h InProgress 2 ∙ m.never_back x;
      tried = λ x y. m.tried x (sym (h InProgress 2) ∙ y);
      gone = λ x. ap (λ b. b || is_canceled t.rollback.apply) (h Complete 2) ∙ m.gone x;
    }

pub other_stage : (a g : ℕ) (o : List Op) (es : List Event) (e : Event) → eqb e.stage 2 ≡ false → ((k : ℕ) → tells Failed e 1 1 k ≡ false) → (k : ℕ) (t : Transaction) → Mark a g o es k t
    → Mark a g o (e ∷ es) k t
unfolding told
other_stage a g o es e d f k t m = same_told a g o es (e ∷ es) k t (rw (f k)) (λ x p. silent_stage x e es p 2 k d) m

pub other_number : (a g : ℕ) (o : List Op) (es : List Event) (e : Event) (k : ℕ) (t : Transaction) → (k ≡ e.number.0 → ⊥) → Mark a g o es k t → Mark a g o (e ∷ es) k t
other_number a g o es e k t n m =
    let d : eqb e.number.0 k ≡ false = ne_eqb e.number.0 k (λ x. n (sym x)) in
    same_told a g o es (e ∷ es) k t (silent_number Failed e es 1 1 k d) (λ x p. silent_number x e es p 2 k d) m

-- ---- one entry stored, with an event of its number
pub put_marks : (a g : ℕ) (o : List Op) (es : List Event) (e : Event) (l : Log) (i : ℕ) (t : Transaction) → l.folded.0 < i → i ≤ last l → e.number.0 ≡ i
    → ((k : ℕ) → Mark a g o es k (entry_of l k))
    → Mark a g o (e ∷ es) i t
    → (k : ℕ)
    → Mark a g o (e ∷ es) k (entry_of (put_entry l i t) k)
put_marks a g o es e l i t p q n h m k =
    by_eq k i (λ x. rw x (rw (entry_put l i t p q) m))
    (put_all (λ k u. (k ≡ i → ⊥) → Mark a g o (e ∷ es) k u) l i t (λ k y. other_number a g o es e k (entry_of l k) (λ z. y (z ∙ n)) (h k)) (λ y. m) k)

-- an entry with other statuses of the commit stage
pub alike : (a g : ℕ) (o : List Op) (es : List Event) (k : ℕ) (t u : Transaction) → is_failed u.change.commit ≡ is_failed t.change.commit → u.change.apply ≡ t.change.apply
    → u.rollback.apply ≡ t.rollback.apply
    → (is_pending t.change.apply ≡ true → told InProgress es 1 2 k ≡ true → u.change.ordinal.0 ≡ t.change.ordinal.0)
    → Mark a g o es k t
    → Mark a g o es k u
alike a g o es k t u f c r n m =
    record {
      rejected = m.rejected ∙ sym f;
      failed = m.failed ∙ sym (ap is_failed c);
      aborted = m.aborted ∙ sym (ap is_aborted c);
      canceled = m.canceled ∙ sym (ap is_canceled r);
      never = λ x. m.never (sym (ap never_begun c) ∙ x);
      aimed = λ x y. let z = sym (ap is_pending c) ∙ x in let w = m.aimed z y in (n z y ∙ w.0, w.1);
      never_back = λ x. m.never_back (sym (ap never_begun r) ∙ x);
      tried = λ x y. ap was_tried c ∙ m.tried (sym (ap is_pending r) ∙ x) y;
      gone = λ x. ap (λ b. told Complete es 2 2 k || is_canceled b) r ∙ m.gone x;
    }

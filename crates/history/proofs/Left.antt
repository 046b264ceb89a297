-- What is left to do: a sum over the entries that every accepted job without cut lowers (order 2). Assumes nothing.
use Prim.Native.Nat.{ℕ, zero, suc, ◌+◌, ◌-◌, ◌*◌, ◌≤◌, ◌<◌}
use native.Mathlib.Omega.{arith}
use mathlib.Core.List.{List}
use mathlib.Core.Bool.{Bool, true, false, cond}
use mathlib.Core.Path.{◌≡◌, refl, sym, ap, subst}
use lib.Dec.{eqb, ltb, leb}
use borrow.Author.Tests.{eqb-true, ltb-true, leb-true, leb-false, lt-ltb, lt-leb}
use Rattle.kinds.specs.declared.Transaction.{Transaction}
use Rattle.kinds.specs.declared.Status.{Status}
use Rattle.kinds.specs.declared.Status.TheVariants.{None, Pending, InProgress, Complete, Aborted, Canceled, Failed}
use Rattle.rules.specs.declared.Plan.{Plan}
use Rattle.machine.specs.State.{Log, State, entry_of, put_entry, last, line_open_for}
use Rattle.machine.specs.Settled.{settled}
use Rattle.machine.specs.Rest.{rest_of}
use Rattle.machine.specs.Calls.{present_of, plan_of, commits, side_if}
use Rattle.machine.specs.Calls as calls
use Rattle.machine.proofs.Next.{performed}
use Rattle.machine.proofs.Cases.{commit_change_holds, commit_rollback_holds, apply_change_holds, apply_rollback_holds}
use Rattle.machine.proofs.Entries.{put_all, entry_put, last_put}
use Rattle.history.specs.Ops.{Op, clash, crash}
use Rattle.history.specs.Invariant.{Invariant, change_touched, rollback_touched}
use Rattle.history.specs.Frames.{by_eq, by_bool, paired}
use Rattle.rules.specs.ApplyRollback.{was_tried}
use Rattle.history.specs.Whole.{Front, Passed}
use Rattle.history.proofs.Fronts.{ways}
use Rattle.history.specs.Stages.{Stages}
use Rattle.history.proofs.Staged.{differ}

-- of a stage: its begin and its end, its end, or the closing store of its Done status
abbrev pub left_of : Status → Bool → ℕ
left_of None b = 0
left_of Pending b = 2
left_of InProgress b = 1
left_of Complete b = 0
left_of Aborted b = cond b 1 0
left_of Canceled b = cond b 1 0
left_of Failed b = cond b 1 0

-- of entry k, with Committed's change c and Applied's ordinal a
abbrev pub left : ℕ → ℕ → ℕ → Transaction → ℕ
left c a k t =
    left_of t.change.commit (ltb c k) + left_of t.change.apply (ltb a t.change.ordinal.0)
    + (left_of t.rollback.commit false + left_of t.rollback.apply (ltb a t.rollback.ordinal.0))

-- of entries 1 to n
unfoldable pub total : (ℕ → Transaction → ℕ) → Log → ℕ → ℕ
total f l zero = 0
total f l (suc n) = f (suc n) (entry_of l (suc n)) + total f l n

abbrev pub left_in : State → ℕ
left_in s = total (left s.change.0 s.applied.head.ordinal.0) s.log (last s.log)

-- ---- laws of the sum
module _ (f g : ℕ → Transaction → ℕ) (l m : Log) (h : (k : ℕ) → g k (entry_of m k) ≤ f k (entry_of l k)) where
  total_low : (n : ℕ) → total g m n ≤ total f l n
  unfolding total
  total_low zero = omega arith
  total_low (suc n) = omega (arith, h (suc n), total_low n)

  total_lower : (i : ℕ) → 1 ≤ i → g i (entry_of m i) < f i (entry_of l i) → (n : ℕ) → i ≤ n → total g m n < total f l n
  unfolding total
  total_lower i p e zero q = absurd (omega arith)
  total_lower i p e (suc n) q =
      by_eq (suc n) i (λ z. omega (arith, subst (λ k. g k (entry_of m k) < f k (entry_of l k)) (sym z) e, total_low n)) (λ z. omega (arith, h (suc n), total_lower i p e n (omega arith)))

-- at most 6 for each above b, and nothing up to b
total_above : (f : ℕ → Transaction → ℕ) (l : Log) (b : ℕ) → ((k : ℕ) → f k (entry_of l k) ≤ 6) → ((k : ℕ) → 1 ≤ k → k ≤ b → f k (entry_of l k) ≡ 0) → (n : ℕ) → total f l n ≤ 6 * (n - b)
unfolding total
total_above f l b h z zero = omega arith
total_above f l b h z (suc n) =
    by_bool (leb (suc n) b) (λ e. omega (arith, z (suc n) (omega arith) (leb-true (suc n) b e), total_above f l b h z n)) (λ e. omega (arith, leb-false (suc n) b e, h (suc n), total_above f l b h z n))

flag_mono : (b d : Bool) → (d ≡ true → b ≡ true) → cond d 1 0 ≤ cond b 1 0
flag_mono true true f = omega arith
flag_mono true false f = omega arith
flag_mono false true f = clash (sym (f refl))
flag_mono false false f = omega arith

left_mono : (x : Status) (b d : Bool) → (d ≡ true → b ≡ true) → left_of x d ≤ left_of x b
left_mono None b d f = omega arith
left_mono Pending b d f = omega arith
left_mono InProgress b d f = omega arith
left_mono Complete b d f = omega arith
left_mono Aborted b d f = flag_mono b d f
left_mono Canceled b d f = flag_mono b d f
left_mono Failed b d f = flag_mono b d f

module _ {s : State} {ops acts : List Op} {bad : List ℕ} (inv : Invariant s ops acts bad) (i : ℕ) (p : s.log.folded.0 < i) (q : i ≤ last s.log) where
  abbrev t : Transaction
  t = entry_of s.log i

  abbrev c : ℕ
  c = s.change.0

  abbrev a : ℕ
  a = s.applied.head.ordinal.0

  -- what is left falls as the heads move on
  heads_on : (d e : ℕ) → c ≤ d → a ≤ e → (k : ℕ) → left d e k (entry_of s.log k) ≤ left c a k (entry_of s.log k)
  heads_on d e x y k =
      let u = entry_of s.log k in
      let f : (m n o : ℕ) → m ≤ n → ltb n o ≡ true → ltb m o ≡ true = λ m n o x y. lt-ltb m o (omega (arith, ltb-true n o y)) in
      omega
      (arith, left_mono u.change.commit _ _ (f c d k x), left_mono u.change.apply _ _ (f a e u.change.ordinal.0 y), left_mono u.rollback.apply _ _ (f a e u.rollback.ordinal.0 y))

  -- the entry of i is stored, and the heads move on
  abbrev Lowers : (d e : ℕ) → Transaction → Type 0
  Lowers d e u = total (left d e) (put_entry s.log i u) (last (put_entry s.log i u)) < left_in s

  put_lowers : (d e : ℕ) (u : Transaction) → c ≤ d → a ≤ e → left d e i u < left c a i t → Lowers d e u
  put_lowers d e u x y z =
      rw (last_put s.log i u)
      (total_lower (left c a) (left d e) s.log (put_entry s.log i u)
      (put_all (λ k u. left d e k u ≤ left c a k (entry_of s.log k)) s.log i u (heads_on d e x y) (omega arith)) i (omega arith) (rw (entry_put s.log i u p q) z) (last s.log) q)

  head_lowers : (d e : ℕ) → c ≤ d → a ≤ e → left d e i t < left c a i t → total (left d e) s.log (last s.log) < left_in s
  head_lowers d e x y z = total_lower (left c a) (left d e) s.log s.log (heads_on d e x y) i (omega arith) z (last s.log) q

  not_below : (n : ℕ) → ltb n n ≡ false
  not_below n = lt-leb (suc n) n (omega arith)

  below : (m n : ℕ) → n ≤ m → ltb m n ≡ false
  below m n x = lt-leb (suc m) n (omega arith)

  -- the other side of the entry
  change_on : (e : ℕ) → a ≤ e → left_of t.change.apply (ltb e t.change.ordinal.0) ≤ left_of t.change.apply (ltb a t.change.ordinal.0)
  change_on e x = left_mono t.change.apply _ _ (λ y. lt-ltb a _ (omega (arith, ltb-true e t.change.ordinal.0 y)))

  back_on : (e : ℕ) → a ≤ e → left_of t.rollback.apply (ltb e t.rollback.ordinal.0) ≤ left_of t.rollback.apply (ltb a t.rollback.ordinal.0)
  back_on e x = left_mono t.rollback.apply _ _ (λ y. lt-ltb a _ (omega (arith, ltb-true e t.rollback.ordinal.0 y)))

  -- a commit in progress has its apply to come
  to_come : t.change.commit ≡ InProgress → (t.change.apply ≡ Pending) × (t.change.ordinal.0 ≡ 0)
  to_come e = paired t.change.commit InProgress _ _ e (inv.sides i).change

  to_return : t.rollback.commit ≡ InProgress → (t.rollback.apply ≡ Pending) × (t.rollback.ordinal.0 ≡ 0)
  to_return e = paired t.rollback.commit InProgress _ _ e (inv.sides i).rollback

  abbrev Falls : Bool → Plan → Type 0
  Falls b r = r.answer ≡ 0 → left_in (performed b s r i false false) < left_in s

  falls_1 : (y : Bool) → Falls true (calls.job1 s i y)
  falls_1 y =
      commit_change_holds t s.committed.head i (Falls true) s.change (rest_of s) (present_of s t) y
      (record {
        wait = λ z. absurd (omega arith);
        full = λ e n b z. absurd (omega arith);
        begin = λ e n g z. put_lowers c a _ (omega arith) (omega arith) (rw e (omega arith));
        aim = λ e n r z. put_lowers c a _ (omega arith) (omega arith) (rw e (omega arith));
        land = λ e n b o x z. put_lowers i a _ (omega arith) (omega arith) (rw (e, (to_come e).0) (omega arith));
        reject = λ e n z. put_lowers i a _ (omega arith) (omega arith) (rw (e, (to_come e).0, (to_come e).1, not_below i, below a 0 (omega arith)) (omega arith));
        finish = λ e n z. put_lowers c a _ (omega arith) (omega arith) (rw (e, (to_come e).0) (omega arith));
        close = λ e n z. head_lowers i a (omega arith) (omega arith) (rw (e, not_below i, lt-ltb c i (omega arith)) (omega arith));
      })

  falls_3 : Falls true (calls.job3 s i)
  falls_3 =
      commit_rollback_holds t s.committed.head i (Falls true) (rest_of s)
      (record {
        wait = λ z. absurd (omega arith);
        full = λ e n b z. absurd (omega arith);
        begin = λ e n g z. put_lowers c a _ (omega arith) (omega arith) (rw e (omega arith));
        aim = λ e n r z. put_lowers c a _ (omega arith) (omega arith) (rw e (omega arith));
        land = λ e n b o x z. put_lowers c a _ (omega arith) (omega arith) (rw (e, (to_return e).0) (omega arith));
        finish = λ e d n z. put_lowers c a _ (omega arith) (omega arith) (rw (e, (to_return e).0) (omega arith));
      })

  falls_2 : (n : ℕ) (y : Bool) → Falls false (calls.job2 s n i y)
  falls_2 n y =
      apply_change_holds t s.applied.head i (Falls false) (settled s) (line_open_for s.net n) y
      (record {
        wait = λ z. absurd (omega arith);
        no_line = λ z. absurd (omega arith);
        begin = λ m e g z. put_lowers c a _ (omega arith) (omega arith) (rw e (omega arith));
        aim = λ m e x v z. put_lowers c a _ (omega arith) (omega arith) (rw e (omega arith));
        abort = λ m e x g z. put_lowers c o _ (omega arith) (omega (arith, m.1)) (rw (e, not_below o) (omega (arith, back_on o (omega (arith, m.1)))));
        close_aborted = λ m e z. head_lowers c o (omega arith) (omega (arith, m.1)) (rw (e, not_below o, lt-ltb a o (omega (arith, m.1))) (omega (arith, back_on o (omega (arith, m.1)))));
        close_failed = λ m e z. head_lowers c o (omega arith) (omega (arith, m.1)) (rw (e, not_below o, lt-ltb a o (omega (arith, m.1))) (omega (arith, back_on o (omega (arith, m.1)))));
        finish = λ m e x z. put_lowers c a _ (omega arith) (omega arith) (rw e (omega arith));
        fail = λ m e z. put_lowers c o _ (omega arith) (omega (arith, m.1)) (rw (e, not_below o) (omega (arith, back_on o (omega (arith, m.1)))));
        push = λ m e x z. put_lowers c o _ (omega arith) (omega (arith, m.1)) (rw e (omega (arith, back_on o (omega (arith, m.1)))));
      })
    where
      o : ℕ
      o = t.change.ordinal.0

  falls_4 : (n : ℕ) (y : Bool) → Falls false (calls.job4 s n i y)
  falls_4 n y =
      apply_rollback_holds t s.applied.head i (Falls false) (settled s) (line_open_for s.net n) y
      (record {
        wait = λ z. absurd (omega arith);
        no_line = λ z. absurd (omega arith);
        rejected = λ z. absurd (omega arith);
        begin = λ m e w g z. put_lowers c a _ (omega arith) (omega arith) (rw e (omega arith));
        aim = λ m e w x z. put_lowers c a _ (omega arith) (omega arith) (rw e (omega arith));
        cancel = λ m e d x z. put_lowers c o _ (omega arith) (omega (arith, m.1)) (rw (e, not_below o) (omega (arith, change_on o (omega (arith, m.1)))));
        close = λ m e z. head_lowers c o (omega arith) (omega (arith, m.1)) (rw (e, not_below o, lt-ltb a o (omega (arith, m.1))) (omega (arith, change_on o (omega (arith, m.1)))));
        finish = λ m e x z. put_lowers c a _ (omega arith) (omega arith) (rw e (omega arith));
        push = λ m e x z. put_lowers c o _ (omega arith) (omega (arith, m.1)) (rw e (omega (arith, change_on o (omega (arith, m.1)))));
      })
    where
      o : ℕ
      o = t.rollback.ordinal.0

  -- every accepted job without cut lowers what is left
  pub falls : (n j : ℕ) (y : Bool) → Falls (commits j) (plan_of s n j i y)
  unfolding plan_of
  falls n j y = go (eqb j 1) (eqb j 2) refl (eqb j 3) refl
    where
      go : (x b : Bool) → eqb j 2 ≡ b → (d : Bool) → eqb j 3 ≡ d
          → Falls (side_if x d) (cond x (calls.job1 s i y) (cond b (calls.job2 s n i y) (cond d (calls.job3 s i) (calls.job4 s n i y))))
      go true b eb d ed = falls_1 y
      go false true eb true ed = absurd (omega (arith, eqb-true j 2 eb, eqb-true j 3 ed))
      go false true eb false ed = falls_2 n y
      go false false eb true ed = falls_3
      go false false eb false ed = falls_4 n y

-- ---- at most 6 for an entry: a rollback is asked only of a committed change
flag_most : (b : Bool) → cond b 1 0 ≤ 2
flag_most true = omega arith
flag_most false = omega arith

left_most : (x : Status) (b : Bool) → left_of x b ≤ 2
left_most None b = omega arith
left_most Pending b = omega arith
left_most InProgress b = omega arith
left_most Complete b = omega arith
left_most Aborted b = flag_most b
left_most Canceled b = flag_most b
left_most Failed b = flag_most b

-- decide whether a rollback is asked
pub by_none : {R : Type 0} (x : Status) → (x ≡ None → R) → ((x ≡ None → ⊥) → R) → R
by_none None f g = f refl
by_none Pending f g = g (λ e. differ Pending None refl e)
by_none InProgress f g = g (λ e. differ InProgress None refl e)
by_none Complete f g = g (λ e. differ Complete None refl e)
by_none Aborted f g = g (λ e. differ Aborted None refl e)
by_none Canceled f g = g (λ e. differ Canceled None refl e)
by_none Failed f g = g (λ e. differ Failed None refl e)

module _ {s : State} {ops acts : List Op} {bad : List ℕ} (inv : Invariant s ops acts bad) (st : Stages s) where
  six : (k : ℕ) → left s.change.0 s.applied.head.ordinal.0 k (entry_of s.log k) ≤ 6
  six k =
      let u = entry_of s.log k in
      let c = s.change.0 in
      let o = ltb s.applied.head.ordinal.0 u.change.ordinal.0 in
      let r = ltb s.applied.head.ordinal.0 u.rollback.ordinal.0 in
      by_none u.rollback.commit
      (λ e. rw e (omega (arith, left_most u.change.commit (ltb c k), left_most u.change.apply o, left_most u.rollback.apply r)))
      (λ e. let m : u.change.commit ≡ Complete = ((st.entries k).asked e).0 in
      rw m (omega (arith, left_most u.change.apply o, left_most u.rollback.commit false, left_most u.rollback.apply r)))

  -- nothing is left of what is folded away
  none_left : (b : ℕ) (vs : List ℕ) → Front s.log b vs → Passed s b → (k : ℕ) → 1 ≤ k → k ≤ b → left s.change.0 s.applied.head.ordinal.0 k (entry_of s.log k) ≡ 0
  none_left b vs f d k p q =
      let t = entry_of s.log k in
      let a = s.applied.head.ordinal.0 in
      let c : ltb s.change.0 k ≡ false = lt-leb (suc s.change.0) k (omega (arith, d.change)) in
      let x : change_touched t.change.apply ≡ true → ltb a t.change.ordinal.0 ≡ false = λ z. lt-leb (suc a) t.change.ordinal.0 (omega (arith, (d.entries k p q).change z)) in
      let y : rollback_touched t.rollback.apply ≡ true → ltb a t.rollback.ordinal.0 ≡ false
      = λ z. lt-leb (suc a) t.rollback.ordinal.0 (omega (arith, (d.entries k p q).rollback z)) in
      ways inv k (f.finished k p q)
      (λ g h u.
      let o : t.change.ordinal.0 ≡ 0 = (paired t.change.commit Failed t.change.apply t.change.ordinal.0 g (inv.sides k).change).1 in
      let z : ltb a t.change.ordinal.0 ≡ false = lt-leb (suc a) t.change.ordinal.0 (omega (arith, o)) in
      rw (g, h, c, z, u.commit, u.apply) refl)
      (λ g h i u. rw (g, h, u.commit, u.apply) refl)
      (λ g h i u. rw (g, h, i) (omega (arith, tried t.change.apply u (ltb a t.change.ordinal.0) x)))
      (λ g h i u. rw (g, h, i, u, x (ap change_touched u), y (ap rollback_touched i)) refl)
    where
      tried : (e : Status) → was_tried e ≡ true → (z : Bool) → (change_touched e ≡ true → z ≡ false) → left_of e z ≡ 0
      tried None u z g = crash u
      tried Pending u z g = crash u
      tried InProgress u z g = crash u
      tried Complete u z g = refl
      tried Aborted u z g = rw (g refl) refl
      tried Canceled u z g = crash u
      tried Failed u z g = rw (g refl) refl

  -- so at most 6 for an entry that is kept
  pub at_most_six : (b : ℕ) (vs : List ℕ) → Front s.log b vs → Passed s b → left_in s ≤ 6 * (last s.log - b)
  at_most_six b vs f d = total_above (left s.change.0 s.applied.head.ordinal.0) s.log b six (none_left b vs f d) (last s.log)

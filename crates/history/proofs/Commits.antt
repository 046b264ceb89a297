-- The commit side: each store of jobs 1 and 3, and each store of an entry, keeps its part of the invariant. Assumes
-- nothing.
use Prim.Native.Nat.{ℕ, zero, suc, ◌≤◌, ◌<◌}
use native.Mathlib.Omega.{arith}
use mathlib.Core.List.{List, [], ◌∷◌, ◌++◌}
use mathlib.Core.Bool.{Bool, true, false, ◌&&◌, ◌||◌}
use mathlib.Core.Path.{◌≡◌, refl, sym, ap, ◌∙◌, subst}
use lib.Dec.{eqb, ltb, leb}
use lib.ListN.{length, get_or}
use borrow.Author.Tests.{eqb-true, eqb-false, eq-eqb, ne_eqb, ltb-true, lt-leb, le-leb}
use Rattle.kinds.specs.declared.Transaction.{Transaction}
use Rattle.kinds.specs.declared.Head.{Head}
use Rattle.kinds.specs.declared.Number.{Number}
use Rattle.kinds.specs.declared.Ordinal.{Ordinal}
use Rattle.kinds.specs.declared.Status.{Status}
use Rattle.kinds.specs.declared.Status.TheVariants.{None, Pending, InProgress, Complete, Failed}
use Rattle.kinds.specs.Numbers.{num}
use Rattle.kinds.specs.Statuses.{done, is_complete}
use Rattle.kinds.specs.Records.{with_change, with_rollback}
use Rattle.rules.specs.Heads.{aimed, landed, passed}
use Rattle.rules.specs.Sides.{begun, committed, invalid}
use Rattle.rules.specs.Outside.{rolled_back}
use Rattle.rules.specs.AtRest.{at_rest}
use Rattle.machine.specs.State.{Ledger, in_each, Log, entry_of, put_entry, grown, last}
use Rattle.machine.specs.Laid.{over}
use Rattle.machine.proofs.Cases.{and_left, and_right, or_cases}
use Rattle.machine.proofs.Entries.{put_all, add_all, entry_cases, last_put, last_add, length_over}
use Rattle.machine.specs.Rest.{mark_of}
use Rattle.machine.proofs.Overlay.{at_over}
use Rattle.history.specs.Ops.{Op, push, pop, pushed, popped, top, tail, stack, newest, Rising, Falls, stack_low, stack_falls, pushed_above, popped_above, on_top_holds, op_at_last, clash}
use Rattle.history.specs.Invariant.{val, own, Linked, says, returns, claims, recalls, is_going, complete, commit_view, CommitEntry, Committed, is_ended}
use Rattle.history.specs.Frames.{Same, same, val_same, own_same, linked_same, put_same, LinkedStack, stack_linked, not_going, complete_same, by_eq}

-- ---- at rest
abbrev commit_at : Log → ℕ → Status
commit_at l k = mark_of l k (entry_of l k).change.commit

abbrev return_at : Log → ℕ → Status
return_at l k = mark_of l k (entry_of l k).rollback.commit

abbrev pub Rests : Log → Head → Type 0
Rests l h = at_rest h (commit_at l h.index.0) (return_at l h.index.0) ≡ true

module _ (h : Head) (c r : Status) (e : at_rest h c r ≡ true) where
  -- the three clauses of rest
  rest_cases : {R : Type 0} → (h.index.0 ≡ 0 → h.target.0 ≡ 0 → R) → (h.target.0 ≡ h.index.0 → done c ≡ true → R)
      → (h.target.0 ≡ h.revision.0 → h.revision.0 < h.index.0 → done r ≡ true → R)
      → R
  rest_cases f g k =
      let i = h.index.0 in
      let t = h.target.0 in
      let v = h.revision.0 in
      or_cases (eqb i 0 && eqb t 0) _ e (λ x. f (eqb-true i 0 (and_left (eqb i 0) _ x)) (eqb-true t 0 (and_right (eqb i 0) _ x)))
      (λ x. or_cases (leb 1 i && (eqb t i && done c)) (leb 1 i && (eqb t v && (ltb v i && done r))) x
      (λ y. let z : (eqb t i && done c) ≡ true = and_right (leb 1 i) _ y in g (eqb-true t i (and_left (eqb t i) _ z)) (and_right (eqb t i) (done c) z))
      (λ y. let z : (eqb t v && (ltb v i && done r)) ≡ true = and_right (leb 1 i) _ y in
      let u : (ltb v i && done r) ≡ true = and_right (eqb t v) _ z in
      k (eqb-true t v (and_left (eqb t v) _ z)) (ltb-true v i (and_left (ltb v i) _ u)) (and_right (ltb v i) (done r) u)))

  rest_between : h.revision.0 ≤ h.index.0 → (h.revision.0 ≤ h.target.0) × (h.target.0 ≤ h.index.0)
  rest_between b = rest_cases (λ x y. omega arith) (λ x y. omega arith) (λ x y z. omega arith)

  rest_not_closing : (k : ℕ) → 1 ≤ k → h.target.0 ≡ k → h.index.0 ≡ k → h.revision.0 ≡ k → c ≡ InProgress → ⊥
  rest_not_closing k p t i v d = rest_cases (λ x y. omega arith) (λ x y. clash (sym y ∙ ap done d)) (λ x y z. omega arith)

  rest_not_returned : (k : ℕ) → h.target.0 ≡ h.revision.0 → h.index.0 ≡ k → h.revision.0 < k → r ≡ InProgress → ⊥
  rest_not_returned k t i v d = rest_cases (λ x y. omega arith) (λ x y. omega arith) (λ x y z. clash (sym z ∙ ap done d))

-- ---- the newest live change returns to a lower number
tip_falls : (l : Log) (ks : List ℕ) → Falls ks → LinkedStack l ks → (r : ℕ) → r ≡ top ks → 1 ≤ r → (entry_of l r).index.0 < r
unfolding Falls LinkedStack
tip_falls l [] f s r e b = absurd (omega arith)
tip_falls l (k ∷ ks) f s r e b = rw e (omega (arith, s.0.back, f.0))

-- what is in progress is kept
some : (l : Log) (k : ℕ) → is_going (entry_of l k).change.commit ≡ true → l.folded.0 < k
some l k = entry_cases (λ t. is_going t.change.commit ≡ true → l.folded.0 < k) l k (λ e. clash (sym e)) (λ p q e. p)

pub some_back : (l : Log) (k : ℕ) → is_going (entry_of l k).rollback.commit ≡ true → l.folded.0 < k
some_back l k = entry_cases (λ t. is_going t.rollback.commit ≡ true → l.folded.0 < k) l k (λ e. clash (sym e)) (λ p q e. p)

-- and its mark stands
pub mark_kept : (l : Log) (k : ℕ) (x : Status) → l.folded.0 < k → mark_of l k x ≡ x
mark_kept l k x p = rw (lt-leb k l.folded.0 p) refl

-- a folded number's counts as Done
pub mark_folded : (l : Log) (k : ℕ) (x : Status) → k ≤ l.folded.0 → mark_of l k x ≡ Complete
mark_folded l k x p = rw (le-leb k l.folded.0 p) refl

module _ {l : Log} {c : ℕ} {part : Ledger} {ops : List Op} (inv : Committed l c part ops) where
  abbrev hd : Head
  hd = part.head

  -- the revision, where it is not 0, returns to a lower number
  pub tip_back : (k : ℕ) → k ≡ hd.revision.0 → 1 ≤ k → (entry_of l k).index.0 < k
  tip_back k e b = tip_falls l (stack ops) (stack_falls ops inv.rising) (stack_linked l ops inv.rising inv.linked) k (e ∙ inv.tip) b

  -- a rollback in progress is of a change that was committed
  pub asked : (k : ℕ) → (entry_of l k).rollback.commit ≡ InProgress → k ≤ c
  asked k e = by_eq k hd.revision.0 (λ x. omega (arith, inv.low, inv.mid)) (λ x. omega (arith, ((inv.entries k).returned e x).index, inv.mid))

  pub resting : Rests l hd → (hd.revision.0 ≤ hd.target.0) × (hd.target.0 ≤ hd.index.0)
  resting r = rest_between hd (commit_at l hd.index.0) (return_at l hd.index.0) r inv.low

  not_closing : Rests l hd → (k : ℕ) → (entry_of l k).change.commit ≡ InProgress → k ≤ c → ⊥
  not_closing r k x y =
      let f = (inv.entries k).closing x y in
      let p = some l k (ap is_going x) in
      rest_not_closing hd (commit_at l hd.index.0) (return_at l hd.index.0) r k (omega arith) f.target f.index f.revision (ap (commit_at l) f.index ∙ mark_kept l k _ p ∙ x)

  not_returned : Rests l hd → (k : ℕ) → (entry_of l k).rollback.commit ≡ InProgress → (k ≡ hd.revision.0 → ⊥) → ⊥
  not_returned r k x y =
      let f = (inv.entries k).returned x y in
      rest_not_returned hd (commit_at l hd.index.0) (return_at l hd.index.0) r k f.target f.index f.below (ap (return_at l) f.index ∙ mark_kept l k _ (some_back l k (ap is_going x)) ∙ x)

  not_returning : Rests l hd → (k : ℕ) → (entry_of l k).rollback.commit ≡ InProgress → ⊥
  not_returning r k x =
      by_eq k hd.revision.0 (λ y. omega (arith, resting r, (inv.entries k).returning x y, tip_back k y (omega (arith, some_back l k (ap is_going x))))) (not_returned r k x)

  -- ---- job 1
  -- while change i is in flight nothing else of the commit side is in progress
  module _ (i : ℕ) (e : i ≡ suc c) (g : hd.target.0 ≡ i) where
    alone : (k : ℕ) → (entry_of l k).change.commit ≡ InProgress → k ≤ c → ⊥
    alone k x y = omega (arith, ((inv.entries k).closing x y).target)

    alone_back : (k : ℕ) → (entry_of l k).rollback.commit ≡ InProgress → ⊥
    alone_back k x =
        by_eq k hd.revision.0
        (λ z. omega (arith, (inv.entries k).returning x z, tip_back k z (omega (arith, some_back l k (ap is_going x))), asked k x))
        (λ z. omega (arith, ((inv.entries k).returned x z).target, inv.low, inv.mid))

  pub aim_change : (i : ℕ) → i ≡ suc c → Rests l hd → Committed l c (record { head = aimed hd (num i); values = part.values; owners = part.owners }) ops
  aim_change i e r =
      record {
        entries = λ k. let o = inv.entries k in record {
          begun = o.begun;
          flight = λ x y. let f = o.flight x y in record { origin = f.origin; target = e ∙ sym y; restores = f.restores; owners = f.owners };
          closing = λ x y. absurd (not_closing r k x y);
          failed = o.failed;
          failing = λ x y. e ∙ sym y;
          returning = λ x y. absurd (not_returning r k x);
          returned = λ x y. absurd (not_returning r k x);
          done = o.done;
          undone = o.undone;
        };
        rising = inv.rising;
        linked = inv.linked;
        count = inv.count;
        newest = inv.newest;
        tip = inv.tip;
        holds = inv.holds;
        room = inv.room;
        owns = inv.owns;
        own_room = inv.own_room;
        low = inv.low;
        mid = inv.mid;
        high = inv.high;
        behind = λ x y. absurd (omega (arith, inv.low, inv.mid));
      }

  -- one entry is stored, its pairs as they were if its number is at most n, which no live change passes
  pub put_committed : (i : ℕ) (t : Transaction) (n : ℕ) → newest ops ≤ n → (i ≤ n → Same (entry_of l i) t)
      → CommitEntry hd c part.values part.owners ops i (commit_view t)
      → Committed (put_entry l i t) c part ops
  put_committed i t n b q o =
      let m = put_entry l i t in
      let s : (k : ℕ) → k ≤ n → Same (entry_of l k) (entry_of m k) = put_same l i t n q in
      record {
        entries = put_all (λ k u. CommitEntry hd c part.values part.owners ops k (commit_view u)) l i t inv.entries o;
        rising = inv.rising;
        linked = linked_same l m n s ops inv.rising b inv.linked;
        count = inv.count;
        newest = inv.newest;
        tip = inv.tip;
        holds = λ p x. inv.holds p x ∙ sym (val_same l m n s (stack ops) (stack_falls ops inv.rising) (omega (arith, stack_low ops inv.rising)) p);
        room = inv.room;
        owns = λ p x. inv.owns p x ∙ sym (own_same l m n s (stack ops) (stack_falls ops inv.rising) (omega (arith, stack_low ops inv.rising)) p);
        own_room = inv.own_room;
        low = inv.low;
        mid = inv.mid;
        high = rw last_put inv.high;
        behind = inv.behind;
      }

  -- the commit of i begins: it is to return to the revision, and vs puts back the present values
  pub begin_change : (i : ℕ) (t : Transaction) → i ≡ suc c → hd.target.0 ≡ i → (entry_of l i).change.commit ≡ Pending
      → (commit_view t).change ≡ InProgress
      → (commit_view t).rollback ≡ (entry_of l i).rollback.commit
      → (commit_view t).index ≡ hd.revision.0
      → ((p : ℕ) → returns t p (says t p (get_or part.values p 0)) ≡ get_or part.values p 0)
      → ((p : ℕ) → recalls t p (claims i t p (get_or part.owners p 0)) ≡ get_or part.owners p 0)
      → Committed (put_entry l i t) c part ops
  begin_change i t e g d tc tr ti tk to =
      let o = inv.entries i in
      let nb : (entry_of l i).rollback.commit ≡ InProgress → ⊥ = λ x. omega (arith, asked i x) in
      put_committed i t c inv.newest (λ b. absurd (omega arith)) (record {
        begun = λ x. omega arith;
        flight = λ x y. record { origin = ti; target = g; restores = λ p q. tk p; owners = λ p q. to p };
        closing = λ x y. absurd (omega arith);
        failed = λ x. omega arith;
        failing = λ x y. g;
        returning = λ x y. absurd (nb (sym tr ∙ x));
        returned = λ x y. absurd (nb (sym tr ∙ x));
        done = o.done ∙ ap (λ z. complete z c i) d ∙ sym (ap (λ z. complete z c i) tc ∙ ne_eqb c i (λ x. omega arith));
        undone = o.undone ∙ sym (ap (λ z. complete z hd.revision.0 t.index.0) tr ∙ complete_same (entry_of l i).rollback.commit hd.revision.0 (entry_of l i).index.0 hd.revision.0 t.index.0 (λ x. absurd (nb x)));
      })

  -- it lands: one push more
  pub land_change : (i : ℕ) (o : Ordinal) → i ≡ suc c → i ≤ last l → (entry_of l i).change.commit ≡ InProgress → o.0 ≡ suc hd.ordinal.0
      → Committed l i
      (record { head = landed hd (num i) (num i) o; values = over (entry_of l i).paths (entry_of l i).values (entry_of l i).count part.values; owners = over (entry_of l i).paths (in_each i) (entry_of l i).count part.owners })
      (push i ∷ ops)
  unfolding pushed popped Rising Linked stack newest val own
  land_change i o e b d n =
      let t = entry_of l i in
      let f = (inv.entries i).flight d e in
      record {
        entries = λ k. let x = inv.entries k in record {
          begun = λ y. omega (arith, x.begun y);
          flight = λ y z. absurd (omega (arith, x.begun y));
          closing = λ y z. by_eq k i
              (λ u. record { last = op_at_last (push i) ops o.0 (omega (arith, inv.count)) ∙ ap push (sym u); target = f.target ∙ sym u; index = sym u; revision = sym u })
              (λ u. absurd (alone i e f.target k y (omega arith)));
          failed = λ y. omega (arith, x.failed y);
          failing = λ y z. absurd (omega (arith, x.failed y));
          returning = λ y z. absurd (alone_back i e f.target k y);
          returned = λ y z. absurd (alone_back i e f.target k y);
          done = went k (eqb i k) refl;
          undone = x.undone ∙ sym (complete_same (entry_of l k).rollback.commit hd.revision.0 (entry_of l k).index.0 i (entry_of l k).index.0 (λ y. absurd (alone_back i e f.target k y)));
        };
        rising = (omega (arith, inv.newest), inv.rising);
        linked = (record { back = f.origin ∙ inv.tip; keeps = λ p q. rw (← inv.holds p q) (f.restores p q); owners = λ p q. rw (← inv.owns p q) (f.owners p q) }, inv.linked);
        count = omega (arith, inv.count);
        newest = omega arith;
        tip = refl;
        holds = λ p q. at_over p _ _ _ part.values (omega (arith, inv.room)) ∙ ap (says t p) (inv.holds p q);
        room = length_over t.paths t.values t.count part.values ∙ inv.room;
        owns = λ p q. at_over p _ _ _ part.owners (omega (arith, inv.own_room)) ∙ ap (claims i t p) (inv.owns p q);
        own_room = length_over t.paths (in_each i) t.count part.owners ∙ inv.own_room;
        low = omega arith;
        mid = omega arith;
        high = b;
        behind = λ x y. absurd (omega arith);
      }
    where
      went : (k : ℕ) (y : Bool) → eqb i k ≡ y → (y || pushed k ops) ≡ complete (entry_of l k).change.commit i k
      went k true y = rw (← eqb-true i k y) (rw d (sym (eq-eqb i i refl)))
      went k false y =
          (inv.entries k).done
          ∙ sym (complete_same (entry_of l k).change.commit c k i k
          (λ z. ((λ u. alone i e ((inv.entries i).flight d e).target k z (omega arith)), (λ u. eqb-false i k y u))))

  -- its status is stored
  pub finish_change : (i : ℕ) (o : Ordinal) → (entry_of l i).change.commit ≡ InProgress → c ≡ i
      → Committed (put_entry l i (with_change (entry_of l i) (committed (entry_of l i).change o))) c part ops
  finish_change i o d e =
      let x = inv.entries i in
      put_committed i _ c inv.newest (λ b. record { count = refl; paths = refl; values = refl; kept = refl; owners = refl; index = refl }) (record {
        begun = not_going Complete refl;
        flight = not_going Complete refl;
        closing = not_going Complete refl;
        failed = λ y. clash (ap is_complete y);
        failing = λ y. clash (ap is_complete y);
        returning = x.returning;
        returned = x.returned;
        done = x.done ∙ ap (λ z. complete z c i) d ∙ eq-eqb c i e;
        undone = x.undone;
      })

  -- it is rejected, and the head passes it
  pub fail_change : (i : ℕ) → i ≡ suc c → (entry_of l i).change.commit ≡ InProgress
      → Committed (put_entry l i (with_change (entry_of l i) (invalid (entry_of l i).change))) c part ops
  fail_change i e d =
      let x = inv.entries i in
      put_committed i _ c inv.newest (λ b. record { count = refl; paths = refl; values = refl; kept = refl; owners = refl; index = refl }) (record {
        begun = not_going Failed refl;
        flight = not_going Failed refl;
        closing = not_going Failed refl;
        failed = λ y. omega arith;
        failing = λ y z. (x.flight d e).target;
        returning = x.returning;
        returned = x.returned;
        done = x.done ∙ ap (λ z. complete z c i) d ∙ ne_eqb c i (λ y. omega arith);
        undone = x.undone;
      })

  pub pass_change : (i : ℕ) → i ≡ suc c → i ≤ last l → (entry_of l i).change.commit ≡ Failed
      → Committed l i (record { head = passed hd (num i); values = part.values; owners = part.owners }) ops
  pass_change i e b d =
      let g : hd.target.0 ≡ i = (inv.entries i).failing d e in
      let other : (k : ℕ) → (entry_of l k).change.commit ≡ InProgress → k ≡ i → ⊥ = λ k x y. not_going Failed refl (sym d ∙ subst (λ z. (entry_of l z).change.commit ≡ InProgress) y x) in
      record {
        entries = λ k. let x = inv.entries k in record {
          begun = λ y. omega (arith, x.begun y);
          flight = λ y z. absurd (omega (arith, x.begun y));
          closing = λ y z. by_eq k i (λ u. absurd (other k y u)) (λ u. absurd (alone i e g k y (omega arith)));
          failed = λ y. omega (arith, x.failed y);
          failing = λ y z. absurd (omega (arith, x.failed y));
          returning = λ y z. absurd (alone_back i e g k y);
          returned = λ y z. absurd (alone_back i e g k y);
          done = x.done ∙ sym (complete_same (entry_of l k).change.commit c k i k (λ y. ((λ z. alone i e g k y (omega arith)), (λ z. other k y (sym z)))));
          undone = x.undone;
        };
        rising = inv.rising;
        linked = inv.linked;
        count = inv.count;
        newest = omega (arith, inv.newest);
        tip = inv.tip;
        holds = inv.holds;
        room = inv.room;
        owns = inv.owns;
        own_room = inv.own_room;
        low = omega (arith, inv.low, inv.mid);
        mid = omega arith;
        high = b;
        behind = λ x y. absurd (omega arith);
      }

  -- ---- job 3
  pub aim_rollback : (n : Number) → n.0 < hd.revision.0 → Rests l hd → Committed l c (record { head = aimed hd n; values = part.values; owners = part.owners }) ops
  aim_rollback n u r =
      record {
        entries = λ k. let x = inv.entries k in record {
          begun = x.begun;
          flight = λ y z. absurd (omega (arith, resting r, inv.mid, (x.flight y z).target));
          closing = λ y z. absurd (not_closing r k y z);
          failed = x.failed;
          failing = λ y z. absurd (omega (arith, resting r, inv.mid, x.failing y z));
          returning = λ y z. absurd (not_returning r k y);
          returned = λ y z. absurd (not_returning r k y);
          done = x.done;
          undone = x.undone;
        };
        rising = inv.rising;
        linked = inv.linked;
        count = inv.count;
        newest = inv.newest;
        tip = inv.tip;
        holds = inv.holds;
        room = inv.room;
        owns = inv.owns;
        own_room = inv.own_room;
        low = inv.low;
        mid = inv.mid;
        high = inv.high;
        behind = λ x y. absurd (omega arith);
      }

  pub begin_rollback : (i : ℕ) → 1 ≤ i → hd.revision.0 ≡ i → hd.target.0 ≡ (entry_of l i).index.0 → (entry_of l i).rollback.commit ≡ Pending
      → Committed (put_entry l i (with_rollback (entry_of l i) (begun (entry_of l i).rollback))) c part ops
  begin_rollback i p e g d =
      let x = inv.entries i in
      put_committed i _ c inv.newest (λ b. record { count = refl; paths = refl; values = refl; kept = refl; owners = refl; index = refl }) (record {
        begun = x.begun;
        flight = λ y z. let f = x.flight y z in record { origin = f.origin; target = f.target; restores = f.restores; owners = f.owners };
        closing = x.closing;
        failed = x.failed;
        failing = x.failing;
        returning = λ y z. g;
        returned = λ y z. absurd (z (sym e));
        done = x.done;
        undone = x.undone ∙ ap (λ z. complete z hd.revision.0 (entry_of l i).index.0) d
            ∙ sym (ne_eqb hd.revision.0 (entry_of l i).index.0 (λ y. omega (arith, tip_back i (sym e) p)));
      })

  -- the rollback of i lands: one pop more
  pub land_rollback : (i : ℕ) (o : Ordinal) → 1 ≤ i → hd.revision.0 ≡ i → (entry_of l i).rollback.commit ≡ InProgress → o.0 ≡ suc hd.ordinal.0
      → Committed l c
      (record { head = landed hd (num i) (entry_of l i).index o; values = over (entry_of l i).paths (entry_of l i).kept (entry_of l i).count part.values; owners = over (entry_of l i).paths (entry_of l i).owners (entry_of l i).count part.owners })
      (pop i ∷ ops)
  unfolding pushed popped Rising Linked stack newest LinkedStack val own
  land_rollback i o p e d n =
      let t = entry_of l i in
      let w : stack ops ≡ i ∷ tail (stack ops) = on_top_holds (stack ops) i (sym inv.tip ∙ e) p in
      let s : LinkedStack l (i ∷ tail (stack ops)) = subst (LinkedStack l) w (stack_linked l ops inv.rising inv.linked) in
      record {
        entries = λ k. let x = inv.entries k in record {
          begun = x.begun;
          flight = λ y z. absurd (omega (arith, (x.flight y z).target, g, low, asked i d));
          closing = λ y z. absurd (omega (arith, (x.closing y z).target, (x.closing y z).revision, g, low));
          failed = x.failed;
          failing = λ y z. absurd (omega (arith, x.failing y z, g, low, asked i d));
          returning = λ y z. absurd (only k (λ u. omega (arith, low)) y);
          returned = λ y z. by_eq k i
              (λ u. record { last = op_at_last (pop i) ops o.0 (omega (arith, inv.count)) ∙ ap pop (sym u); target = g; index = sym u; below = omega (arith, low) })
              (λ u. absurd (only k u y));
          done = x.done;
          undone = went k (eqb i k) refl;
        };
        rising = (w, inv.rising);
        linked = inv.linked;
        count = omega (arith, inv.count);
        newest = inv.newest;
        tip = s.0.back;
        holds = λ q b. at_over q _ _ _ part.values (omega (arith, inv.room)) ∙ ap (returns t q) (inv.holds q b ∙ ap (λ ks. val l ks q) w) ∙ s.0.keeps q b;
        room = length_over t.paths t.kept t.count part.values ∙ inv.room;
        owns = λ q b. at_over q _ _ _ part.owners (omega (arith, inv.own_room)) ∙ ap (recalls t q) (inv.owns q b ∙ ap (λ ks. own l ks q) w) ∙ s.0.owners q b;
        own_room = length_over t.paths t.owners t.count part.owners ∙ inv.own_room;
        low = omega (arith, low);
        mid = asked i d;
        high = inv.high;
        behind = λ x y. rw (eq-eqb i i refl);
      }
    where
      g : hd.target.0 ≡ (entry_of l i).index.0
      g = (inv.entries i).returning d (sym e)

      low : (entry_of l i).index.0 < i
      low = tip_back i (sym e) p

      -- no other rollback is in progress
      only : (k : ℕ) → (k ≡ i → ⊥) → (entry_of l k).rollback.commit ≡ InProgress → ⊥
      only k u y = omega (arith, ((inv.entries k).returned y (λ z. u (z ∙ e))).target, (inv.entries i).returning d (sym e), tip_back i (sym e) p)

      went : (k : ℕ) (y : Bool) → eqb i k ≡ y → (y || popped k ops) ≡ complete (entry_of l k).rollback.commit (entry_of l i).index.0 (entry_of l k).index.0
      went k true y = rw (← eqb-true i k y) (rw d (sym (eq-eqb (entry_of l i).index.0 (entry_of l i).index.0 refl)))
      went k false y =
          (inv.entries k).undone
          ∙ sym (complete_same (entry_of l k).rollback.commit hd.revision.0 (entry_of l k).index.0 (entry_of l i).index.0 (entry_of l k).index.0
          (λ z. absurd (only k (λ u. eqb-false i k y (sym u)) z)))

  pub finish_rollback : (i : ℕ) (o : Ordinal) → (entry_of l i).rollback.commit ≡ InProgress → hd.revision.0 ≡ (entry_of l i).index.0
      → Committed (put_entry l i (with_rollback (entry_of l i) (committed (entry_of l i).rollback o))) c part ops
  finish_rollback i o d e =
      let x = inv.entries i in
      put_committed i _ c inv.newest (λ b. record { count = refl; paths = refl; values = refl; kept = refl; owners = refl; index = refl }) (record {
        begun = x.begun;
        flight = λ y z. let f = x.flight y z in record { origin = f.origin; target = f.target; restores = f.restores; owners = f.owners };
        closing = x.closing;
        failed = x.failed;
        failing = x.failing;
        returning = not_going Complete refl;
        returned = not_going Complete refl;
        done = x.done;
        undone = x.undone ∙ ap (λ z. complete z hd.revision.0 (entry_of l i).index.0) d ∙ eq-eqb hd.revision.0 (entry_of l i).index.0 e;
      })

  -- ---- the calls from outside
  pub ask_committed : (i : ℕ) → (entry_of l i).rollback.commit ≡ None → Committed (put_entry l i (rolled_back (entry_of l i))) c part ops
  ask_committed i d =
      let x = inv.entries i in
      put_committed i _ c inv.newest (λ b. record { count = refl; paths = refl; values = refl; kept = refl; owners = refl; index = refl }) (record {
        begun = x.begun;
        flight = λ y z. let f = x.flight y z in record { origin = f.origin; target = f.target; restores = f.restores; owners = f.owners };
        closing = x.closing;
        failed = x.failed;
        failing = x.failing;
        returning = not_going Pending refl;
        returned = not_going Pending refl;
        done = x.done;
        undone = x.undone ∙ ap (λ z. complete z hd.revision.0 (entry_of l i).index.0) d;
      })

  -- an entry with nothing begun is appended
  pub append_committed : (t : Transaction) → (commit_view t).change ≡ Pending → (commit_view t).rollback ≡ None → Committed (grown l t) c part ops
  append_committed t d r =
      let m = grown l t in
      let b : newest ops ≤ last l = omega (arith, inv.newest, inv.high) in
      let s : (k : ℕ) → k ≤ last l → Same (entry_of l k) (entry_of m k) = add_all (λ k u. k ≤ last l → Same (entry_of l k) u) l t (λ k x. same (entry_of l k)) (λ x. absurd (omega arith)) in
      record {
        entries = add_all (λ k u. CommitEntry hd c part.values part.owners ops k (commit_view u)) l t inv.entries (record {
          begun = λ y. not_going Pending refl (sym d ∙ y);
          flight = λ y. not_going Pending refl (sym d ∙ y);
          closing = λ y. not_going Pending refl (sym d ∙ y);
          failed = λ y. clash (ap is_ended (sym y ∙ d));
          failing = λ y. clash (ap is_ended (sym y ∙ d));
          returning = λ y. not_going None refl (sym r ∙ y);
          returned = λ y. not_going None refl (sym r ∙ y);
          done = pushed_above ops inv.rising (suc (last l)) (omega arith) ∙ sym (ap (λ z. complete z c (suc (last l))) d);
          undone = popped_above ops inv.rising (suc (last l)) (omega arith) ∙ sym (ap (λ z. complete z hd.revision.0 t.index.0) r);
        });
        rising = inv.rising;
        linked = linked_same l m (last l) s ops inv.rising b inv.linked;
        count = inv.count;
        newest = inv.newest;
        tip = inv.tip;
        holds = λ p x. inv.holds p x ∙ sym (val_same l m (last l) s (stack ops) (stack_falls ops inv.rising) (omega (arith, stack_low ops inv.rising)) p);
        room = inv.room;
        owns = λ p x. inv.owns p x ∙ sym (own_same l m (last l) s (stack ops) (stack_falls ops inv.rising) (omega (arith, stack_low ops inv.rising)) p);
        own_room = inv.own_room;
        low = inv.low;
        mid = inv.mid;
        high = rw last_add (omega (arith, inv.high));
        behind = inv.behind;
      }

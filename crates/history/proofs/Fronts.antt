-- What is folded away is over: an entry that is finished is at rest and settled for ever, and is live at both stages or at
-- neither. So a state whose front is folded answers as the whole, and a fold leaves such a front. Assumes nothing.
use Prim.Native.Nat.{ℕ, zero, suc, ◌+◌, ◌≤◌, ◌<◌}
use native.Mathlib.Omega.{arith}
use mathlib.Core.List.{List, [], ◌∷◌}
use mathlib.Core.Bool.{Bool, true, false, not, ◌&&◌, ◌||◌, cond}
use mathlib.Core.Path.{◌≡◌, refl, sym, ap, ◌∙◌, subst}
use lib.Dec.{eqb, ltb, leb}
use lib.ListN.{length, get_or}
use borrow.Author.Tests.{eqb-true, eqb-false, eq-eqb, ne_eqb, leb-true, leb-false, le-leb, lt-leb, ltb-true, ltb-false}
use Rattle.kinds.specs.declared.Transaction.{Transaction}
use Rattle.kinds.specs.declared.Head.{Head}
use Rattle.kinds.specs.declared.Side.{Side}
use Rattle.kinds.specs.declared.Status.{Status}
use Rattle.kinds.specs.declared.Status.TheVariants.{None, Pending, InProgress, Complete, Aborted, Canceled, Failed}
use Rattle.kinds.specs.Numbers.{follows}
use Rattle.kinds.specs.Statuses.{done, is_complete, is_pending, is_failed}
use Rattle.rules.specs.AtRest.{at_rest}
use Rattle.rules.specs.ApplyRollback.{was_tried}
use Rattle.machine.specs.State.{Log, State, entry_of, last}
use Rattle.machine.specs.WellFormed.{all_entries}
use Rattle.machine.specs.Settled.{side_settled, entry_settled, settled}
use Rattle.machine.specs.Rest.{mark_of, rest_of}
use Rattle.machine.specs.LiveList.{hops, live}
use Rattle.machine.specs.Folding.{stays, finished, finished_to, side_waits, entry_waits, may_fold}
use Rattle.machine.proofs.Next.{base_over}
use Rattle.machine.proofs.Cases.{and_left, and_right, or_cases}
use Rattle.machine.proofs.Entries.{and_both, entries_true, true_entries, length_base}
use Rattle.history.specs.Demand3.{highest, newest_first}
use Rattle.history.specs.Ops.{Op, pushed, pushed_low, popped, top, stack, stack_low, stack_falls, mem, standing, clash, crash}
use Rattle.history.specs.Invariant.{is_none, is_ended, orderly, complete, change_touched, rollback_touched, Paired, Invariant}
use Rattle.history.specs.Frames.{by_eq, paired, stack_linked}
use Rattle.history.proofs.Commits.{resting, mark_folded, mark_kept}
use Rattle.history.proofs.ByNumber.{highest_same, list_newest, above, hops_above, newest_above, base_highest, highest_cut, up}
use Rattle.history.specs.Whole.{shown_log, shown, Front, EntryPassed, Passed}
use Rattle.history.proofs.Follow.{entry_seen, last_seen}

-- ---- statuses
is_complete_holds : (c : Status) → is_complete c ≡ true → c ≡ Complete
is_complete_holds None e = crash e
is_complete_holds Pending e = crash e
is_complete_holds InProgress e = crash e
is_complete_holds Complete e = refl
is_complete_holds Aborted e = crash e
is_complete_holds Canceled e = crash e
is_complete_holds Failed e = crash e

is_failed_holds : (c : Status) → is_failed c ≡ true → c ≡ Failed
is_failed_holds None e = crash e
is_failed_holds Pending e = crash e
is_failed_holds InProgress e = crash e
is_failed_holds Complete e = crash e
is_failed_holds Aborted e = crash e
is_failed_holds Canceled e = crash e
is_failed_holds Failed e = refl

is_none_holds : (c : Status) → is_none c ≡ true → c ≡ None
is_none_holds None e = refl
is_none_holds Pending e = crash e
is_none_holds InProgress e = crash e
is_none_holds Complete e = crash e
is_none_holds Aborted e = crash e
is_none_holds Canceled e = crash e
is_none_holds Failed e = crash e

-- Done, and neither aborted nor failed
done_cases : {R : Type 0} (c : Status) → done c ≡ true → is_ended c ≡ false → (c ≡ Complete → R) → (c ≡ Canceled → R) → R
done_cases None d e f g = crash d
done_cases Pending d e f g = crash d
done_cases InProgress d e f g = crash d
done_cases Complete d e f g = f refl
done_cases Aborted d e f g = clash e
done_cases Canceled d e f g = g refl
done_cases Failed d e f g = clash e

-- a side whose apply is Done was committed, but for an invalid change
done_committed : (c a : Status) (o : ℕ) → Paired c a o → done a ≡ true → is_ended c ≡ false → c ≡ Complete
done_committed None a o p d e = crash (sym (ap done p.0) ∙ d)
done_committed Pending a o p d e = crash (sym (ap done p.0) ∙ d)
done_committed InProgress a o p d e = crash (sym (ap done p.0) ∙ d)
done_committed Complete a o p d e = refl
done_committed Aborted a o p d e = absurd p
done_committed Canceled a o p d e = absurd p
done_committed Failed a o p d e = clash e

-- an apply that is Complete was committed
taken_committed : (c a : Status) (o : ℕ) → Paired c a o → a ≡ Complete → c ≡ Complete
taken_committed None a o p d = clash (sym (ap is_complete d) ∙ ap is_complete p.0)
taken_committed Pending a o p d = clash (sym (ap is_complete d) ∙ ap is_complete p.0)
taken_committed InProgress a o p d = clash (sym (ap is_complete d) ∙ ap is_complete p.0)
taken_committed Complete a o p d = refl
taken_committed Aborted a o p d = absurd p
taken_committed Canceled a o p d = absurd p
taken_committed Failed a o p d = clash (sym (ap is_complete d) ∙ ap is_complete p.0)

-- what was begun or ended is not Pending
change_moved : (c : Status) → change_touched c ≡ true → is_pending c ≡ false
change_moved None e = crash e
change_moved Pending e = crash e
change_moved InProgress e = refl
change_moved Complete e = crash e
change_moved Aborted e = refl
change_moved Canceled e = crash e
change_moved Failed e = refl

rollback_moved : (c : Status) → rollback_touched c ≡ true → is_pending c ≡ false
rollback_moved None e = crash e
rollback_moved Pending e = crash e
rollback_moved InProgress e = refl
rollback_moved Complete e = crash e
rollback_moved Aborted e = crash e
rollback_moved Canceled e = refl
rollback_moved Failed e = crash e

-- where what carries the ordinal after a is Pending, what is not does not carry it
not_next : (a g aim : ℕ) (x : Side) → side_waits a g aim x ≡ true → is_pending x.apply ≡ false → x.ordinal.0 ≤ suc a → x.ordinal.0 ≤ a
not_next a g aim x w p q =
    by_eq x.ordinal.0 (suc a)
    (λ e. let y : follows a x.ordinal.0 ≡ true = eq-eqb (a + 1) x.ordinal.0 (omega arith) in crash (rw (y, p) at w)) (λ e. omega arith)

not-true : (b : Bool) → not b ≡ true → b ≡ false
not-true true e = sym e
not-true false e = refl

-- ---- entry k is finished
module _ {w : State} {ops acts : List Op} {bad : List ℕ} (inv : Invariant w ops acts bad) (k : ℕ) (e : finished (entry_of w.log k) ≡ true) where
  abbrev t : Transaction
  t = entry_of w.log k

  -- nothing was asked of its rollback
  pub record Unasked : Type 0 where
    pub commit : t.rollback.commit ≡ None
    pub apply : t.rollback.apply ≡ None
    pub ordinal : t.rollback.ordinal.0 ≡ 0

  unasked : t.rollback.commit ≡ None → Unasked
  unasked r =
      let p : (t.rollback.apply ≡ None) × (t.rollback.ordinal.0 ≡ 0) = paired t.rollback.commit None t.rollback.apply t.rollback.ordinal.0 r (inv.sides k).rollback in
      record { commit = r; apply = p.0; ordinal = p.1 }

  -- the four ways to be finished
  pub ways : {R : Type 0} → (t.change.commit ≡ Failed → t.change.apply ≡ Canceled → Unasked → R)
      → (t.change.commit ≡ Complete → t.change.apply ≡ Complete → eqb t.phase 1 ≡ true → Unasked → R)
      → (t.change.commit ≡ Complete → t.rollback.commit ≡ Complete → t.rollback.apply ≡ Complete → was_tried t.change.apply ≡ true → R)
      → (t.change.commit ≡ Complete → t.rollback.commit ≡ Complete → t.rollback.apply ≡ Canceled → t.change.apply ≡ Aborted → R)
      → R
  ways f g h j =
      let c = t.change.commit in
      let r = t.rollback.commit in
      let o = inv.sides k in
      let x = inv.applied.entries k in
      let m : ((is_complete c || is_none r) && not (is_ended r)) ≡ true = and_left ((is_complete c || is_none r) && not (is_ended r)) _ o.orderly in
      let q : is_ended t.rollback.apply ≡ false = not-true _ (and_right ((is_complete c || is_none r) && not (is_ended r)) _ o.orderly) in
      let a : (is_complete c || is_none r) ≡ true = and_left (is_complete c || is_none r) _ m in
      let n : is_ended r ≡ false = not-true _ (and_right (is_complete c || is_none r) _ m) in
      or_cases (is_failed c) _ e
      (λ y.
      let i : c ≡ Failed = is_failed_holds c y in
      let p : (t.change.apply ≡ Canceled) × (t.change.ordinal.0 ≡ 0) = paired c Failed t.change.apply t.change.ordinal.0 i o.change in
      f i p.0 (unasked (is_none_holds r (sym (ap (λ z. is_complete z || is_none r) i) ∙ a))))
      (λ y. or_cases (stays t) (done t.rollback.apply) y
      (λ z.
      let i : t.change.apply ≡ Complete = is_complete_holds _ (and_left (is_complete t.change.apply) _ z) in
      let u : eqb t.phase 1 ≡ true = and_right (is_complete t.change.apply) _ z in
      g (taken_committed c t.change.apply t.change.ordinal.0 o.change i) i u (unasked (o.unasked (eqb-true t.phase 1 u))))
      (λ z.
      let i : r ≡ Complete = done_committed r t.rollback.apply t.rollback.ordinal.0 o.rollback z n in
      let d : c ≡ Complete = is_complete_holds c (or_none (is_complete c) (sym (ap (λ s. is_complete c || is_none s) i) ∙ a)) in
      done_cases t.rollback.apply z q
      (λ s. h d i s (x.tried (ap (Rattle.history.specs.Invariant.was_pushed) s)))
      (λ s. j d i s (x.spared s))))
    where
      or_none : (b : Bool) → (b || false) ≡ true → b ≡ true
      or_none true e = refl
      or_none false e = crash e

  pub commit_over : done t.change.commit ≡ true
  commit_over = ways (λ a b u. ap done a) (λ a b p u. ap done a) (λ a b c d. ap done a) (λ a b c d. ap done a)

  popped_is : popped k ops ≡ complete t.rollback.commit w.committed.head.revision.0 t.index.0
  popped_is = (inv.committed.entries k).undone

  return_over : popped k ops ≡ true → done t.rollback.commit ≡ true
  return_over z =
      ways (λ a b u. not_popped u) (λ a b p u. not_popped u) (λ a b c d. ap done b) (λ a b c d. ap done b)
    where
      not_popped : Unasked → done t.rollback.commit ≡ true
      not_popped u = crash (sym (popped_is ∙ ap (λ r. complete r w.committed.head.revision.0 t.index.0) u.commit) ∙ z)

  -- ---- settled at every ordinal
  side_done : (a : ℕ) (x : Side) → done x.apply ≡ true → side_settled a x ≡ true
  side_done a x d = rw d (or-true (not (eqb x.ordinal.0 a)))
    where
      or-true : (b : Bool) → (b || true) ≡ true
      or-true true = refl
      or-true false = refl

  side_none : (a : ℕ) → 1 ≤ a → Unasked → side_settled a t.rollback ≡ true
  side_none a b u = rw (ne_eqb t.rollback.ordinal.0 a (λ y. omega (arith, u.ordinal))) refl

  tried_done : (c : Status) → was_tried c ≡ true → done c ≡ true
  tried_done None e = crash e
  tried_done Pending e = crash e
  tried_done InProgress e = crash e
  tried_done Complete e = refl
  tried_done Aborted e = refl
  tried_done Canceled e = refl
  tried_done Failed e = refl

  settled_over : (a : ℕ) → 1 ≤ a → entry_settled a k t ≡ true
  settled_over a b =
      ways (λ c d u. and_both _ _ (side_done a t.change (ap done d)) (side_none a b u))
      (λ c d p u. and_both _ _ (side_done a t.change (ap done d)) (side_none a b u))
      (λ c r d x. and_both _ _ (side_done a t.change (tried_done t.change.apply x)) (side_done a t.rollback (ap done d)))
      (λ c r d x. and_both _ _ (side_done a t.change (ap done x)) (side_done a t.rollback (ap done d)))

  -- ---- live at both stages, or at neither
  none_stays : t.rollback.commit ≡ Complete → stays t ≡ false
  none_stays r = go (eqb t.phase 1) refl (is_complete t.change.apply)
    where
      go : (b : Bool) → eqb t.phase 1 ≡ b → (c : Bool) → (c && b) ≡ false
      go true x c = clash (sym (ap is_none ((inv.sides k).unasked (eqb-true t.phase 1 x))) ∙ ap is_none r)
      go false x true = refl
      go false x false = refl

  and_no : (a b : Bool) → b ≡ true → (a && not b) ≡ false
  and_no true b e = rw e refl
  and_no false b e = refl

  no_and : (a b : Bool) → a ≡ false → (a && b) ≡ false
  no_and a b e = rw e refl

  pub live_commit : (pushed k ops && not (popped k ops)) ≡ stays t
  live_commit =
      let did = (inv.committed.entries k).done in
      ways
      (λ a b u. no_and (pushed k ops) _ (did ∙ ap (λ c. complete c w.change.0 k) a) ∙ sym (no_and (is_complete t.change.apply) _ (ap is_complete b)))
      (λ a b p u. rw (did ∙ ap (λ c. complete c w.change.0 k) a, popped_is ∙ ap (λ r. complete r w.committed.head.revision.0 t.index.0) u.commit) (sym (and_both _ _ (ap is_complete b) p)))
      (λ a b c d. and_no (pushed k ops) (popped k ops) (popped_is ∙ ap (λ r. complete r w.committed.head.revision.0 t.index.0) b) ∙ sym (none_stays b))
      (λ a b c d. and_no (pushed k ops) (popped k ops) (popped_is ∙ ap (λ r. complete r w.committed.head.revision.0 t.index.0) b) ∙ sym (none_stays b))

  pub live_apply : (pushed k acts && not (popped k acts)) ≡ stays t
  live_apply =
      let at = w.applied.head.ordinal.0 in
      let did = (inv.applied.entries k).change.taken in
      let undid = (inv.applied.entries k).rollback.returned in
      ways
      (λ a b u. no_and (pushed k acts) _ (did ∙ ap (λ c. complete c at t.change.ordinal.0) b) ∙ sym (no_and (is_complete t.change.apply) _ (ap is_complete b)))
      (λ a b p u. rw (did ∙ ap (λ c. complete c at t.change.ordinal.0) b, undid ∙ ap (λ r. complete r at t.rollback.ordinal.0) u.apply) (sym (and_both _ _ (ap is_complete b) p)))
      (λ a b c d. and_no (pushed k acts) (popped k acts) (undid ∙ ap (λ r. complete r at t.rollback.ordinal.0) c) ∙ sym (none_stays b))
      (λ a b c d. no_and (pushed k acts) _ (did ∙ ap (λ x. complete x at t.change.ordinal.0) d) ∙ sym (none_stays b))

some : (n : ℕ) → (n ≡ 0 → ⊥) → 1 ≤ n
some zero h = absurd (h refl)
some (suc n) h = omega arith

-- ---- the same Bool
both_ways : (a b : Bool) → (a ≡ true → b ≡ true) → (b ≡ true → a ≡ true) → a ≡ b
both_ways true b f g = sym (f refl)
both_ways false true f g = g refl
both_ways false false f g = refl

-- marks that are Done where rest asks for them
rest_alike : (h : Head) (c r : Status) → done c ≡ true → (h.target.0 ≡ h.revision.0 → h.revision.0 < h.index.0 → done r ≡ true)
    → at_rest h Complete Complete ≡ at_rest h c r
rest_alike h c r e f = rw e (go (eqb h.target.0 h.revision.0) refl (ltb h.revision.0 h.index.0) refl)
  where
    go : (x : Bool) → eqb h.target.0 h.revision.0 ≡ x → (y : Bool) → ltb h.revision.0 h.index.0 ≡ y
        → ((eqb h.index.0 0 && eqb h.target.0 0)
        || ((leb 1 h.index.0 && (eqb h.target.0 h.index.0 && true)) || (leb 1 h.index.0 && (x && (y && true)))))
        ≡ ((eqb h.index.0 0 && eqb h.target.0 0)
        || ((leb 1 h.index.0 && (eqb h.target.0 h.index.0 && true)) || (leb 1 h.index.0 && (x && (y && done r)))))
    go true p true q = rw (f (eqb-true _ _ p) (ltb-true _ _ q)) refl
    go true p false q = refl
    go false p y q = refl

module _ {w : State} {ops acts : List Op} {bad : List ℕ} (inv : Invariant w ops acts bad) (b : ℕ) (vs : List ℕ) (f : Front w.log b vs) where
  abbrev l : Log
  l = w.log

  abbrev sl : Log
  sl = shown_log w.log b vs

  over : (k : ℕ) → 1 ≤ k → k ≤ b → finished (entry_of l k) ≡ true
  over = f.finished

  -- ---- at rest and settled as the whole is
  pub rest_seen : rest_of (shown w b vs) ≡ rest_of w
  rest_seen = go (leb at b) refl
    where
      at : ℕ
      at = w.committed.head.index.0

      rest : Status → Status → Bool
      rest = at_rest w.committed.head

      both : {c d x y : Status} → c ≡ d → x ≡ y → rest c x ≡ rest d y
      both {c} {d} {x} {y} p q = ap (λ z. rest z x) p ∙ ap (rest d) q

      -- at 1 to b, as the whole marks it
      front : (k : ℕ) → at ≡ k → k ≤ b → rest Complete Complete ≡ rest_of w
      front zero e q =
          both (sym (mark_folded l at (entry_of l at).change.commit (omega arith))) (sym (mark_folded l at (entry_of l at).rollback.commit (omega arith)))
      front (suc k) e q =
          let o : finished (entry_of l at) ≡ true = over at (omega arith) (omega arith) in
          rest_alike w.committed.head (entry_of l at).change.commit (entry_of l at).rollback.commit (commit_over inv at o) (λ x y. return_over inv at o (inv.committed.behind x y))
          ∙ both (sym (mark_kept l at _ (omega (arith, f.whole)))) (sym (mark_kept l at _ (omega (arith, f.whole))))

      go : (x : Bool) → leb at b ≡ x → rest_of (shown w b vs) ≡ rest_of w
      go true d =
          both (mark_folded sl at (entry_of sl at).change.commit (leb-true at b d)) (mark_folded sl at (entry_of sl at).rollback.commit (leb-true at b d))
          ∙ front at refl (leb-true at b d)
      go false d =
          let q : b < at = leb-false at b d in
          let e : entry_of sl at ≡ entry_of l at = entry_seen w b vs f at q in
          both
          (mark_kept sl at _ q ∙ ap (λ t. t.change.commit) e ∙ sym (mark_kept l at _ (omega (arith, f.whole))))
          (mark_kept sl at _ q ∙ ap (λ t. t.rollback.commit) e ∙ sym (mark_kept l at _ (omega (arith, f.whole))))

  pub settled_seen : settled (shown w b vs) ≡ settled w
  settled_seen = go (eqb at 0) refl
    where
      at : ℕ
      at = w.applied.head.ordinal.0

      all : 1 ≤ at → all_entries (entry_settled at) sl ≡ all_entries (entry_settled at) l
      all a =
          both_ways (all_entries (entry_settled at) sl) (all_entries (entry_settled at) l)
          (λ e. true_entries (entry_settled at) l (λ k p q. part k q (omega arith) e (leb k b) refl))
          (λ e. true_entries (entry_settled at) sl
          (λ k p q. subst (λ t. entry_settled at k t ≡ true) (sym (entry_seen w b vs f k p))
          (entries_true (entry_settled at) l e k (omega (arith, f.whole)) (omega (arith, q, last_seen w b vs f)))))
        where
          part : (k : ℕ) → k ≤ last l → 1 ≤ k → all_entries (entry_settled at) sl ≡ true → (x : Bool) → leb k b ≡ x → entry_settled at k (entry_of l k) ≡ true
          part k q p e true d = settled_over inv k (over k p (leb-true k b d)) at a
          part k q p e false d =
              subst (λ t. entry_settled at k t ≡ true) (entry_seen w b vs f k (leb-false k b d))
              (entries_true (entry_settled at) sl e k (leb-false k b d) (omega (arith, last_seen w b vs f)))

      go : (x : Bool) → eqb at 0 ≡ x → (eqb at 0 || all_entries (entry_settled at) sl) ≡ (eqb at 0 || all_entries (entry_settled at) l)
      go true e = rw e refl
      go false e = ap (λ z. eqb at 0 || z) (all (some at (eqb-false at 0 e)))

  -- ---- the live list is that of the whole, until the fold
  abbrev ks : List ℕ
  ks = stack ops

  falls : Rattle.history.specs.Ops.Falls (stack ops)
  falls = stack_falls ops inv.committed.rising

  in_log_holds : top ks ≤ last l
  in_log_holds = omega (arith, stack_low ops inv.committed.rising, inv.committed.newest, inv.committed.high)

  pub live_above : live (shown w b vs) ≡ above b ks
  live_above =
      ap (λ v. hops v sl v) inv.committed.tip
      ∙ hops_above sl l (entry_seen w b vs f) (top ks) ks falls (stack_linked l ops inv.committed.rising inv.committed.linked) (omega arith)

  pub live_seen : (g : ℕ → Bool) → ((k : ℕ) → mem k ks ≡ g k) → live (shown w b vs) ≡ newest_first (λ k. ltb b k && g k) (last l)
  live_seen g h = live_above ∙ ap (above b) (list_newest g (last l) ks falls in_log_holds h) ∙ newest_above b g (last l)

  -- ---- a fold leaves such a front
  module _ (c : ℕ) (p : b < c) (q : c ≤ last l) (m : may_fold (shown w b vs) c ≡ true) where
    pub ended : (k : ℕ) → 1 ≤ k → k ≤ c → finished (entry_of l k) ≡ true
    ended k x y = go (leb k b) refl
      where
        tests : all_entries (finished_to c) sl ≡ true
        tests =
            let h = w.applied.head in
            and_right (all_entries (entry_waits h.ordinal.0 h.target.0) sl) _ (and_right (rest_of (shown w b vs) && settled (shown w b vs)) _ m)

        go : (z : Bool) → leb k b ≡ z → finished (entry_of l k) ≡ true
        go true d = over k x (leb-true k b d)
        go false d =
            let i : (ltb c k || finished (entry_of sl k)) ≡ true = entries_true (finished_to c) sl tests k (leb-false k b d) (omega (arith, last_seen w b vs f)) in
            let j : finished (entry_of sl k) ≡ true = rw (lt-leb (suc c) k (omega arith)) at i in
            subst (λ t. finished t ≡ true) (entry_seen w b vs f k (leb-false k b d)) j

    -- up to c, the live ones are those that stay
    live_stays : (k : ℕ) → 1 ≤ k → k ≤ c → mem k ks ≡ stays (entry_of l k)
    live_stays k x y = standing ops inv.committed.rising k ∙ live_commit inv k (ended k x y)

    live_cut : (k : ℕ) → k ≤ c → (mem k ks && leb k c) ≡ mem k ks
    live_cut k y = ap (λ z. mem k ks && z) (le-leb k c y) ∙ and_yes (mem k ks)
      where
        and_yes : (z : Bool) → (z && true) ≡ z
        and_yes true = refl
        and_yes false = refl

    pub fold_front : Front l c (base_over sl c (live (shown w b vs)) vs)
    fold_front =
        record {
          whole = f.whole;
          absent = f.absent;
          within = q;
          finished = ended;
          base = λ x y.
              ap (λ z. get_or (base_over sl c z vs) x 0) (live_seen (λ k. mem k ks) (λ k. refl))
              ∙ base_highest sl c (λ k. ltb b k && mem k ks) (last l) x (omega (arith, f.room))
              ∙ highest_same sl (λ k. (ltb b k && mem k ks) && leb k c) (λ k. ltb b k && (mem k ks && leb k c)) (last l) x (λ k u v. and_assoc (ltb b k) (mem k ks) (leb k c))
              ∙ up sl l (entry_seen w b vs f) (λ k. mem k ks && leb k c) x
              (f.base x y ∙ highest_same l (λ k. stays (entry_of l k)) (λ k. mem k ks && leb k c) b x (λ k u v. sym (live_cut k (omega arith) ∙ live_stays k u (omega arith))))
              (last l) f.within
              ∙ highest_cut l (λ k. mem k ks) c (last l) x q
              ∙ highest_same l (λ k. mem k ks) (λ k. stays (entry_of l k)) c x live_stays;
          room = length_base sl c (live (shown w b vs)) vs ∙ f.room;
        }
      where
        and_assoc : (x y z : Bool) → ((x && y) && z) ≡ (x && (y && z))
        and_assoc true y z = refl
        and_assoc false y z = refl

    -- and nothing of it is left to do
    pub fold_passed : Passed w b → Passed w c
    fold_passed d = record { change = through (ltb w.change.0 c) refl; entries = λ k x y. each k x y (leb k b) refl }
      where
        tests : (rest_of (shown w b vs) ≡ true) × (all_entries (entry_waits w.applied.head.ordinal.0 w.applied.head.target.0) sl ≡ true)
        tests =
            let h = w.applied.head in (
              and_left (rest_of (shown w b vs)) (settled (shown w b vs)) (and_left (rest_of (shown w b vs) && settled (shown w b vs)) _ m),
              and_left (all_entries (entry_waits h.ordinal.0 h.target.0) sl) _ (and_right (rest_of (shown w b vs) && settled (shown w b vs)) _ m),
            )

        at : ℕ
        at = suc w.change.0

        new : (entry_of l at).change.commit ≡ Complete → ⊥
        new e =
            let x = inv.committed in omega (arith, x.newest, pushed_low ops x.rising at ((x.entries at).done ∙ ap (λ z. complete z w.change.0 at) e))

        through : (z : Bool) → ltb w.change.0 c ≡ z → c ≤ w.change.0
        through true e =
            let u : w.change.0 < c = ltb-true w.change.0 c e in
            absurd (ways inv at (ended at (omega arith) (omega arith))
            (λ g h v. omega (arith, (inv.committed.entries at).failing g refl, resting inv.committed (sym rest_seen ∙ tests.0), inv.committed.mid)) (λ g h i v. new g) (λ g h i v. new g) (λ g h i v. new g))
        through false e = ltb-false w.change.0 c e

        each : (k : ℕ) → 1 ≤ k → k ≤ c → (z : Bool) → leb k b ≡ z → EntryPassed w.applied.head.ordinal.0 (entry_of l k)
        each k x y true e = d.entries k x (leb-true k b e)
        each k x y false e =
            let h = w.applied.head in
            let t = entry_of l k in
            let v : entry_waits h.ordinal.0 h.target.0 k t ≡ true
            = subst (λ t. entry_waits h.ordinal.0 h.target.0 k t ≡ true) (entry_seen w b vs f k (leb-false k b e))
            (entries_true (entry_waits h.ordinal.0 h.target.0) sl tests.1 k (leb-false k b e) (omega (arith, last_seen w b vs f))) in
            record {
              change = λ z. not_next h.ordinal.0 h.target.0 k t.change (and_left (side_waits h.ordinal.0 h.target.0 k t.change) _ v) (change_moved t.change.apply z) ((inv.applied.entries k).change.low z);
              rollback = λ z. not_next h.ordinal.0 h.target.0 t.index.0 t.rollback (and_right (side_waits h.ordinal.0 h.target.0 k t.change) _ v) (rollback_moved t.rollback.apply z) ((inv.applied.entries k).rollback.low z);
            }

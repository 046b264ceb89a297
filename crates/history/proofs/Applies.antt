-- The apply side: each store of jobs 2 and 4, each store of an entry and each commit keeps its part of the invariant.
-- Assumes nothing.
use Prim.Native.Nat.{ℕ, suc, ◌≤◌, ◌<◌}
use native.Mathlib.Omega.{arith}
use mathlib.Core.List.{List, [], ◌∷◌, ◌++◌}
use mathlib.Core.Bool.{Bool, true, false, ◌||◌, cond}
use mathlib.Core.Path.{◌≡◌, refl, sym, ap, ◌∙◌, subst}
use lib.Dec.{eqb, leb}
use lib.ListN.{length, get_or}
use borrow.Author.Tests.{eqb-true, eqb-false, eq-eqb}
use Rattle.kinds.specs.declared.Transaction.{Transaction}
use Rattle.kinds.specs.declared.Head.{Head}
use Rattle.kinds.specs.declared.Status.{Status}
use Rattle.kinds.specs.declared.Status.TheVariants.{None, Pending, InProgress, Complete, Aborted, Canceled, Failed}
use Rattle.kinds.specs.Numbers.{num}
use Rattle.kinds.specs.Statuses.{is_complete}
use Rattle.kinds.specs.Records.{with_change, with_rollback}
use Rattle.rules.specs.Heads.{aimed, landed, closed}
use Rattle.rules.specs.Sides.{apply_at}
use Rattle.rules.specs.ApplyRollback.{was_tried, is_aborted}
use Rattle.machine.specs.State.{Part, Log, blank, entry_of, put_entry, grown, last}
use Rattle.machine.specs.Laid.{over}
use Rattle.machine.proofs.Cases.{and_left}
use Rattle.machine.proofs.Entries.{put_all, add_all, entry_past, length_over}
use Rattle.machine.proofs.Overlay.{at_over}
use Rattle.history.specs.Values.{back_again}
use Rattle.history.specs.Ops.{Op, push, pop, none, pushed, popped, top, tail, stack, newest, Rising, Falls, stack_low, stack_falls, mem, op_at, op_at_in, first, first_next, first_more, first_rises, first_low, Sub, keep, skip, without, without_none, held, holding, clash, crash, mem_first}
use Rattle.history.specs.Invariant.{val, Link, Linked, says, returns, is_going, complete, Numbered, is_ended, is_started, change_touched, rollback_touched, apply_view, ApplyEntry, Still, Quiet, Calm, Fell, led, Applied, was_pushed}
use Rattle.history.specs.Frames.{Same, same, val_same, put_same, LinkedStack, stack_linked, not_going, complete_no, complete_same, by_eq}

-- ---- lists
first_linked : (l : Log) (xs : List Op) (a : ℕ) → Rising xs → Linked l xs → Linked l (first xs a)
unfolding first Linked Rising
first_linked l [] a r h = h
first_linked l (push k ∷ xs) a r h = go (leb (suc (length xs)) a) (first_linked l xs a r.1 h.1)
  where
    go : (b : Bool) → Linked l (first xs a) → Linked l (cond b (push k ∷ xs) (first xs a))
    go true x = h
    go false x = x
first_linked l (pop k ∷ xs) a r h = go (leb (suc (length xs)) a) (first_linked l xs a r.1 h)
  where
    go : (b : Bool) → Linked l (first xs a) → Linked l (cond b (pop k ∷ xs) (first xs a))
    go true x = h
    go false x = x
first_linked l (none ∷ xs) a r h = absurd r

under_falls : (bs ks : List ℕ) → Falls (bs ++ ks) → Falls ks
unfolding Falls
under_falls [] ks f = f
under_falls (b ∷ bs) ks f = under_falls bs ks f.1

under_low : (bs ks : List ℕ) → Falls (bs ++ ks) → top ks ≤ top (bs ++ ks)
unfolding Falls
under_low [] ks f = omega arith
under_low (b ∷ bs) ks f = omega (arith, under_low bs ks f.1, f.0)

no_bad : (bs ks : List ℕ) → Falls (bs ++ ks) → top (bs ++ ks) ≡ top ks → bs ≡ []
unfolding Falls
no_bad [] ks f e = refl
no_bad (b ∷ bs) ks f e = absurd (omega (arith, under_low bs ks f.1, f.0))

falls_top : (k : ℕ) (ks : List ℕ) → Falls (k ∷ ks) → top ks < k
unfolding Falls
falls_top k ks f = f.0

falls_tail : (k : ℕ) (ks : List ℕ) → Falls (k ∷ ks) → Falls ks
unfolding Falls
falls_tail k ks f = f.1

link_top : (l : Log) (k : ℕ) (ks : List ℕ) → LinkedStack l (k ∷ ks) → Link l k ks
unfolding LinkedStack
link_top l k ks s = s.0

pub push_is : (i k : ℕ) → push i ≡ push k → i ≡ k
push_is i k e = cc

pub pop_is : (i k : ℕ) → pop i ≡ pop k → i ≡ k
pop_is i k e = cc

pub push_pop : {A : Type 0} (i k : ℕ) → push i ≡ pop k → A
push_pop i k e = let z : ◌≡◌ {A = ℕ} 0 1 = cc in absurd (omega arith)

touched : (c : Status) → is_started c ≡ true → change_touched c ≡ true
touched None e = e
touched Pending e = e
touched InProgress e = refl
touched Complete e = e
touched Aborted e = refl
touched Canceled e = e
touched Failed e = refl

pub failed_is : (c : Status) → was_tried c ≡ true → is_ended c ≡ true → c ≡ Failed
failed_is None x y = clash (sym x)
failed_is Pending x y = clash (sym x)
failed_is InProgress x y = clash (sym x)
failed_is Complete x y = clash (sym y)
failed_is Aborted x y = clash (sym x)
failed_is Canceled x y = clash (sym x)
failed_is Failed x y = refl

pub ended_touched : (c : Status) → is_ended c ≡ true → change_touched c ≡ true
ended_touched None e = e
ended_touched Pending e = e
ended_touched InProgress e = refl
ended_touched Complete e = e
ended_touched Aborted e = refl
ended_touched Canceled e = e
ended_touched Failed e = refl

fell_same : (l m : Log) → ((k : ℕ) → is_ended (entry_of l k).change.apply ≡ true → (entry_of m k).change.apply ≡ (entry_of l k).change.apply)
    → (ks : List ℕ)
    → Fell l ks
    → Fell m ks
unfolding Fell
fell_same l m h [] f = tt
fell_same l m h (k ∷ ks) f = (ap is_ended (h k f.0) ∙ f.0, (λ e. f.1 (sym (h k f.0) ∙ e)), fell_same l m h ks f.2)

-- the apply side, with what it needs of the commit side
pub record ApplySide (l : Log) (part : Part) (ops acts : List Op) (bad : List ℕ) : Type 0 where
  pub rising : Rising ops
  pub linked : Linked l ops
  pub numbered : (k : ℕ) → Numbered ops k (entry_of l k).change.ordinal.0 (entry_of l k).rollback.ordinal.0
  pub applied : Applied l part ops acts bad

module _ {l : Log} {part : Part} {ops acts : List Op} {bad : List ℕ} (side : ApplySide l part ops acts bad) where
  abbrev inv : Applied l part ops acts bad
  inv = side.applied

  abbrev rising : Rising ops
  rising = side.rising

  abbrev linked : Linked l ops
  linked = side.linked

  abbrev numbered : (k : ℕ) → Numbered ops k (entry_of l k).change.ordinal.0 (entry_of l k).rollback.ordinal.0
  numbered = side.numbered

  abbrev hd : Head
  hd = part.head

  abbrev at : ℕ
  at = part.head.ordinal.0

  rises : Rising (first ops at)
  rises = first_rises ops at rising

  falls : Falls (bad ++ held acts)
  falls = subst Falls inv.split (stack_falls (first ops at) rises)

  links : LinkedStack l (bad ++ held acts)
  links = subst (LinkedStack l) inv.split (stack_linked l (first ops at) rises (first_linked l ops at rising linked))

  low : top (bad ++ held acts) ≤ newest (first ops at)
  low = subst (λ ks. top ks ≤ newest (first ops at)) inv.split (stack_low (first ops at) rises)

  pub held_falls : Falls (held acts)
  held_falls = under_falls bad (held acts) falls

  pub held_top : top (held acts) ≤ top (bad ++ held acts)
  held_top = under_low bad (held acts) falls

  pub held_low : top (held acts) ≤ newest ops
  held_low = omega (arith, under_low bad (held acts) falls, low, first_low ops at rising)

  led_low : (n : ℕ) → led ops n ≤ newest ops
  led_low n = omega (arith, stack_low (first ops n) (first_rises ops n rising), first_low ops n rising)

  target_low : hd.target.0 ≤ newest ops
  target_low = by_eq hd.target.0 (led ops at) (λ e. omega (arith, led_low at)) (λ n. omega (arith, (inv.aimed n).there, led_low (suc at)))

  -- ---- the next op is change i
  module _ (i : ℕ) (o : (entry_of l i).change.ordinal.0 ≡ suc at) where
    pub next_push : op_at ops (suc at) ≡ push i
    next_push = (numbered i).change at o

    pub push_next : first ops (suc at) ≡ push i ∷ first ops at
    push_next = first_next ops at (push i) refl next_push

    push_rising : Rising (push i ∷ first ops at)
    push_rising = subst Rising push_next (first_rises ops (suc at) rising)

    pub push_above : newest (first ops at) < i
    unfolding Rising
    push_above = push_rising.0

    pub push_led : led ops (suc at) ≡ i
    unfolding stack
    push_led = ap (λ x. top (stack x)) push_next

    pub push_link : Link l i (stack (first ops at))
    unfolding Linked
    push_link = (subst (Linked l) push_next (first_linked l ops (suc at) rising linked)).0

    push_reach : suc at ≤ length ops
    push_reach = op_at_in ops (suc at) (push i) refl next_push

    pub same_change : (k : ℕ) → (entry_of l k).change.ordinal.0 ≡ suc at → k ≡ i
    same_change k x = push_is k i (sym ((numbered k).change at x) ∙ next_push)

    pub no_rollback : {A : Type 0} (k : ℕ) → (entry_of l k).rollback.ordinal.0 ≡ suc at → A
    no_rollback k x = push_pop i k (sym next_push ∙ (numbered k).rollback at x)

    -- the target on it has left the ops before it
    pub push_quiet : hd.target.0 ≡ i → Quiet l at
    push_quiet g = (inv.aimed (λ x. omega (arith, push_above, stack_low (first ops at) rises))).quiet

  -- ---- the next op is the rollback of i
  module _ (i : ℕ) (o : (entry_of l i).rollback.ordinal.0 ≡ suc at) where
    pub next_pop : op_at ops (suc at) ≡ pop i
    next_pop = (numbered i).rollback at o

    pub pop_next : first ops (suc at) ≡ pop i ∷ first ops at
    pop_next = first_next ops at (pop i) refl next_pop

    pub pop_under : stack (first ops at) ≡ i ∷ tail (stack (first ops at))
    unfolding Rising
    pop_under = (subst Rising pop_next (first_rises ops (suc at) rising)).0

    pub pop_split : bad ++ held acts ≡ i ∷ tail (bad ++ held acts)
    pop_split = subst (λ ks. ks ≡ i ∷ tail ks) inv.split pop_under

    pop_falls : Falls (i ∷ tail (bad ++ held acts))
    pop_falls = subst Falls pop_split falls

    pub pop_link : Link l i (tail (bad ++ held acts))
    pop_link = link_top l i (tail (bad ++ held acts)) (subst (LinkedStack l) pop_split links)

    pub pop_stack : stack (first ops (suc at)) ≡ tail (bad ++ held acts)
    unfolding stack
    pop_stack = ap stack pop_next ∙ ap tail inv.split

    pub pop_led : (entry_of l i).index.0 ≡ led ops (suc at)
    pop_led = pop_link.back ∙ sym (ap top pop_stack)

    pub pop_below : (entry_of l i).index.0 < i
    pop_below = omega (arith, pop_link.back, falls_top i (tail (bad ++ held acts)) pop_falls)

    pop_reach : suc at ≤ length ops
    pop_reach = op_at_in ops (suc at) (pop i) refl next_pop

    pub same_rollback : (k : ℕ) → (entry_of l k).rollback.ordinal.0 ≡ suc at → k ≡ i
    same_rollback k x = pop_is k i (sym ((numbered k).rollback at x) ∙ next_pop)

    pub no_change : {A : Type 0} (k : ℕ) → (entry_of l k).change.ordinal.0 ≡ suc at → A
    no_change k x = push_pop k i (sym ((numbered k).change at x) ∙ next_pop)

    pub pop_quiet : hd.target.0 ≡ (entry_of l i).index.0 → Quiet l at
    pop_quiet g = (inv.aimed (λ x. omega (arith, pop_below, ap top pop_under))).quiet

  -- ---- the target moves
  pub aim_change : (i : ℕ) → (entry_of l i).change.ordinal.0 ≡ suc at → hd.revision.0 ≡ (entry_of l i).index.0 → Quiet l at
      → Applied l (record { head = aimed hd (num i); values = part.values }) ops acts bad
  aim_change i o v q =
      record {
        entries = λ k. let x = inv.entries k in record {
          change = record { low = x.change.low; aim = λ y z. sym (same_change i o k z); taken = x.change.taken };
          rollback = record { low = x.rollback.low; aim = λ y z. no_rollback i o k z; returned = x.rollback.returned };
          tried = x.tried;
          spared = x.spared;
        };
        calm = inv.calm;
        reach = inv.reach;
        sub = inv.sub;
        split = inv.split;
        fell = inv.fell;
        tip = inv.tip;
        holds = inv.holds;
        room = inv.room;
        aimed = λ x. record { there = sym (push_led i o); reach = push_reach i o; quiet = q };
        clear = λ k x y. no_bad bad (held acts) falls (sym (ap top inv.split) ∙ sym (push_link i o).back ∙ sym v ∙ inv.tip);
      }

  pub aim_rollback : (i : ℕ) → (entry_of l i).rollback.ordinal.0 ≡ suc at → Quiet l at
      → Applied l (record { head = aimed hd (entry_of l i).index; values = part.values }) ops acts bad
  aim_rollback i o q =
      record {
        entries = λ k. let x = inv.entries k in record {
          change = record { low = x.change.low; aim = λ y z. no_change i o k z; taken = x.change.taken };
          rollback = record { low = x.rollback.low; aim = λ y z. ap (λ j. (entry_of l j).index.0) (sym (same_rollback i o k z)); returned = x.rollback.returned };
          tried = x.tried;
          spared = x.spared;
        };
        calm = inv.calm;
        reach = inv.reach;
        sub = inv.sub;
        split = inv.split;
        fell = inv.fell;
        tip = inv.tip;
        holds = inv.holds;
        room = inv.room;
        aimed = λ x. record { there = pop_led i o; reach = pop_reach i o; quiet = q };
        clear = λ k x y. push_pop k i (sym x ∙ next_pop i o);
      }

  -- ---- one entry is stored, its pairs as they were if its number is at most n, which no commit passes
  pub put_applied : (i : ℕ) (t : Transaction) (n : ℕ) → newest ops ≤ n → (i ≤ n → Same (entry_of l i) t)
      → (is_ended (entry_of l i).change.apply ≡ true → t.change.apply ≡ (entry_of l i).change.apply)
      → (Still at (apply_view (entry_of l i)) → Still at (apply_view t))
      → ((Quiet l at → Quiet (put_entry l i t) at) → Calm (Quiet (put_entry l i t) at) at (apply_view t))
      → ApplyEntry at hd.target.0 acts i (apply_view t)
      → Applied (put_entry l i t) part ops acts bad
  put_applied i t n b q f u c e =
      let m = put_entry l i t in
      let s : (k : ℕ) → k ≤ n → Same (entry_of l k) (entry_of m k) = put_same l i t n q in
      let w : Quiet l at → Quiet m at = λ y. put_all (λ k z. Still at (apply_view z)) l i t y (u (y i)) in
      record {
        entries = put_all (λ k z. ApplyEntry at hd.target.0 acts k (apply_view z)) l i t inv.entries e;
        calm = put_all (λ k z. Calm (Quiet m at) at (apply_view z)) l i t
            (λ k. record { change = λ y z. w ((inv.calm k).change y z); rollback = λ y z. w ((inv.calm k).rollback y z) }) (c w);
        reach = inv.reach;
        sub = inv.sub;
        split = inv.split;
        fell = fell_same l m (put_all (λ k z. is_ended (entry_of l k).change.apply ≡ true → z.change.apply ≡ (entry_of l k).change.apply) l i t (λ k y. refl) f) bad inv.fell;
        tip = inv.tip;
        holds = λ p x. inv.holds p x ∙ sym (val_same l m n s (held acts) held_falls (omega (arith, held_low)) p);
        room = inv.room;
        aimed = λ x. let y = inv.aimed x in record { there = y.there; reach = y.reach; quiet = w y.quiet };
        clear = inv.clear;
      }

  -- ---- an entry with nothing begun is appended
  pub append_applied : (t : Transaction) → newest ops ≤ last l → t.change.apply ≡ Pending → t.rollback.apply ≡ None → Applied (grown l t) part ops acts bad
  append_applied t b d r =
      let m = grown l t in
      let n = suc (last l) in
      let s : (k : ℕ) → k ≤ last l → Same (entry_of l k) (entry_of m k) = add_all (λ k u. k ≤ last l → Same (entry_of l k) u) l t (λ k x. same (entry_of l k)) (λ x. absurd (omega arith)) in
      let w : Quiet l at → Quiet m at = λ y. add_all (λ k z. Still at (apply_view z)) l t y (record { change = λ x. not_going Pending refl (sym d ∙ x); rollback = λ x. not_going None refl (sym r ∙ x) }) in
      let o : entry_of l n ≡ blank = entry_past l in
      record {
        entries = add_all (λ k z. ApplyEntry at hd.target.0 acts k (apply_view z)) l t inv.entries (record {
          change = record {
            low = λ x. clash (sym x ∙ ap change_touched d);
            aim = λ x. clash (sym x ∙ ap is_started d);
            taken = (inv.entries n).change.taken ∙ ap (λ u. complete u.change.apply at u.change.ordinal.0) o ∙ sym (ap (λ c. complete c at t.change.ordinal.0) d);
          };
          rollback = record {
            low = λ x. clash (sym x ∙ ap rollback_touched r);
            aim = λ x. not_going None refl (sym r ∙ x);
            returned = (inv.entries n).rollback.returned ∙ ap (λ u. complete u.rollback.apply at u.rollback.ordinal.0) o ∙ sym (ap (λ c. complete c at t.rollback.ordinal.0) r);
          };
          tried = λ x. clash (sym x ∙ ap was_pushed r);
          spared = λ x. clash (ap rollback_touched (sym x ∙ r));
        });
        calm = add_all (λ k z. Calm (Quiet m at) at (apply_view z)) l t
            (λ k. record { change = λ y z. w ((inv.calm k).change y z); rollback = λ y z. w ((inv.calm k).rollback y z) })
            (record { change = λ x. clash (sym x ∙ ap change_touched d); rollback = λ x. clash (sym x ∙ ap rollback_touched r) });
        reach = inv.reach;
        sub = inv.sub;
        split = inv.split;
        fell = fell_same l m
            (add_all (λ k z. is_ended (entry_of l k).change.apply ≡ true → z.change.apply ≡ (entry_of l k).change.apply) l t (λ k y. refl)
            (λ y. crash (sym (ap (λ u. is_ended u.change.apply) o) ∙ y))) bad inv.fell;
        tip = inv.tip;
        holds = λ p x. inv.holds p x ∙ sym (val_same l m (last l) s (held acts) held_falls (omega (arith, held_low)) p);
        room = inv.room;
        aimed = λ x. let y = inv.aimed x in record { there = y.there; reach = y.reach; quiet = w y.quiet };
        clear = inv.clear;
      }

  -- the entry with another status of the apply stage
  set_change : (i : ℕ) (x : Status) → (is_ended (entry_of l i).change.apply ≡ true → x ≡ (entry_of l i).change.apply)
      → (Still at (apply_view (entry_of l i)) → x ≡ InProgress → (entry_of l i).change.ordinal.0 ≡ at → ⊥)
      → ((Quiet l at → Quiet (put_entry l i (with_change (entry_of l i) (apply_at (entry_of l i).change x))) at) → change_touched x ≡ true → (entry_of l i).change.ordinal.0 ≡ suc at
      → Quiet (put_entry l i (with_change (entry_of l i) (apply_at (entry_of l i).change x))) at)
      → (change_touched x ≡ true → (entry_of l i).change.ordinal.0 ≤ suc at)
      → (is_started x ≡ true → (entry_of l i).change.ordinal.0 ≡ suc at → hd.target.0 ≡ i)
      → pushed i acts ≡ complete x at (entry_of l i).change.ordinal.0
      → (was_pushed (entry_of l i).rollback.apply ≡ true → was_tried x ≡ true)
      → ((entry_of l i).rollback.apply ≡ Canceled → x ≡ Aborted)
      → Applied (put_entry l i (with_change (entry_of l i) (apply_at (entry_of l i).change x))) part ops acts bad
  set_change i x f u c b g t r s =
      let o = inv.entries i in
      put_applied i _ (newest ops) (omega arith) (λ y. record { count = refl; paths = refl; values = refl; kept = refl; owners = refl; index = refl }) f
      (λ y. record { change = u y; rollback = y.rollback })
      (λ w. record { change = c w; rollback = λ y z. w ((inv.calm i).rollback y z) })
      (record {
        change = record { low = b; aim = g; taken = t };
        rollback = o.rollback;
        tried = r;
        spared = s;
      })

  set_rollback : (i : ℕ) (x : Status) → (Still at (apply_view (entry_of l i)) → x ≡ InProgress → (entry_of l i).rollback.ordinal.0 ≡ at → ⊥)
      → ((Quiet l at → Quiet (put_entry l i (with_rollback (entry_of l i) (apply_at (entry_of l i).rollback x))) at) → rollback_touched x ≡ true
      → (entry_of l i).rollback.ordinal.0 ≡ suc at
      → Quiet (put_entry l i (with_rollback (entry_of l i) (apply_at (entry_of l i).rollback x))) at)
      → (rollback_touched x ≡ true → (entry_of l i).rollback.ordinal.0 ≤ suc at)
      → (x ≡ InProgress → (entry_of l i).rollback.ordinal.0 ≡ suc at → hd.target.0 ≡ (entry_of l i).index.0)
      → popped i acts ≡ complete x at (entry_of l i).rollback.ordinal.0
      → (was_pushed x ≡ true → was_tried (entry_of l i).change.apply ≡ true)
      → (x ≡ Canceled → (entry_of l i).change.apply ≡ Aborted)
      → Applied (put_entry l i (with_rollback (entry_of l i) (apply_at (entry_of l i).rollback x))) part ops acts bad
  set_rollback i x u c b g t r s =
      let o = inv.entries i in
      put_applied i _ (newest ops) (omega arith) (λ y. record { count = refl; paths = refl; values = refl; kept = refl; owners = refl; index = refl }) (λ y. refl)
      (λ y. record { change = y.change; rollback = u y })
      (λ w. record { change = λ y z. w ((inv.calm i).change y z); rollback = c w })
      (record {
        change = o.change;
        rollback = record { low = b; aim = g; returned = t };
        tried = r;
        spared = s;
      })

  -- what is not yet taken
  not_yet : (c : Status) (o : ℕ) → is_complete c ≡ false → o ≡ suc at → complete c at o ≡ false
  not_yet c o e f = complete_no c at o e (λ x y. omega arith)

  -- ---- job 2
  pub begin_change : (i : ℕ) → (entry_of l i).change.apply ≡ Pending → (entry_of l i).change.ordinal.0 ≡ suc at → hd.target.0 ≡ i
      → Applied (put_entry l i (with_change (entry_of l i) (apply_at (entry_of l i).change InProgress))) part ops acts bad
  begin_change i e o g =
      let x = inv.entries i in
      set_change i InProgress (λ y. crash (sym (ap is_ended e) ∙ y)) (λ y z u. omega arith) (λ w y z. w (push_quiet i o g)) (λ y. omega arith) (λ y z. g)
      (x.change.taken ∙ ap (λ c. complete c at (entry_of l i).change.ordinal.0) e ∙ sym (not_yet InProgress (entry_of l i).change.ordinal.0 refl o))
      (λ y. crash (sym (ap was_tried e) ∙ x.tried y))
      (λ y. crash (sym (ap is_aborted e) ∙ ap is_aborted (x.spared y)))

  pub abort_change : (i : ℕ) → (entry_of l i).change.apply ≡ Pending → (entry_of l i).change.ordinal.0 ≡ suc at → Quiet l at
      → Applied (put_entry l i (with_change (entry_of l i) (apply_at (entry_of l i).change Aborted))) part ops acts bad
  abort_change i e o q =
      let x = inv.entries i in
      set_change i Aborted (λ y. crash (sym (ap is_ended e) ∙ y)) (λ y. not_going Aborted refl) (λ w y z. w q) (λ y. omega arith) (λ y z. clash (sym y))
      (x.change.taken ∙ ap (λ c. complete c at (entry_of l i).change.ordinal.0) e)
      (λ y. crash (sym (ap was_tried e) ∙ x.tried y))
      (λ y. refl)

  pub fail_change : (i : ℕ) → (entry_of l i).change.apply ≡ InProgress → (entry_of l i).change.ordinal.0 ≡ suc at
      → Applied (put_entry l i (with_change (entry_of l i) (apply_at (entry_of l i).change Failed))) part ops acts bad
  fail_change i e o =
      let x = inv.entries i in
      set_change i Failed (λ y. crash (sym (ap is_ended e) ∙ y)) (λ y. not_going Failed refl) (λ w y z. w ((inv.calm i).change (ap change_touched e) z)) (λ y. omega arith)
      (λ y z. x.change.aim (ap is_started e) z)
      (x.change.taken ∙ ap (λ c. complete c at (entry_of l i).change.ordinal.0) e ∙ not_yet InProgress (entry_of l i).change.ordinal.0 refl o)
      (λ y. refl)
      (λ y. crash (sym (ap is_aborted e) ∙ ap is_aborted (x.spared y)))

  pub finish_change : (i : ℕ) → (entry_of l i).change.apply ≡ InProgress → at ≡ (entry_of l i).change.ordinal.0
      → Applied (put_entry l i (with_change (entry_of l i) (apply_at (entry_of l i).change Complete))) part ops acts bad
  finish_change i e o =
      let x = inv.entries i in
      set_change i Complete (λ y. crash (sym (ap is_ended e) ∙ y)) (λ y. not_going Complete refl) (λ w y z. clash (sym y)) (λ y. clash (sym y)) (λ y z. clash (sym y))
      (x.change.taken ∙ ap (λ c. complete c at (entry_of l i).change.ordinal.0) e ∙ eq-eqb at (entry_of l i).change.ordinal.0 o)
      (λ y. refl)
      (λ y. crash (sym (ap is_aborted e) ∙ ap is_aborted (x.spared y)))

  -- ---- job 4
  pub begin_rollback : (i : ℕ) → (entry_of l i).rollback.apply ≡ Pending → (entry_of l i).rollback.ordinal.0 ≡ suc at → was_tried (entry_of l i).change.apply ≡ true
      → hd.target.0 ≡ (entry_of l i).index.0
      → Applied (put_entry l i (with_rollback (entry_of l i) (apply_at (entry_of l i).rollback InProgress))) part ops acts bad
  begin_rollback i e o t g =
      let x = inv.entries i in
      set_rollback i InProgress (λ y z u. omega arith) (λ w y z. w (pop_quiet i o g)) (λ y. omega arith) (λ y z. g)
      (x.rollback.returned ∙ ap (λ c. complete c at (entry_of l i).rollback.ordinal.0) e ∙ sym (not_yet InProgress (entry_of l i).rollback.ordinal.0 refl o))
      (λ y. t)
      (λ y. clash (ap is_going y))

  pub cancel_rollback : (i : ℕ) → (entry_of l i).rollback.apply ≡ Pending → (entry_of l i).rollback.ordinal.0 ≡ suc at → (entry_of l i).change.apply ≡ Aborted → Quiet l at
      → Applied (put_entry l i (with_rollback (entry_of l i) (apply_at (entry_of l i).rollback Canceled))) part ops acts bad
  cancel_rollback i e o t q =
      let x = inv.entries i in
      set_rollback i Canceled (λ y. not_going Canceled refl) (λ w y z. w q) (λ y. omega arith) (not_going Canceled refl)
      (x.rollback.returned ∙ ap (λ c. complete c at (entry_of l i).rollback.ordinal.0) e)
      (λ y. crash y)
      (λ y. t)

  pub finish_rollback : (i : ℕ) → (entry_of l i).rollback.apply ≡ InProgress → at ≡ (entry_of l i).rollback.ordinal.0
      → Applied (put_entry l i (with_rollback (entry_of l i) (apply_at (entry_of l i).rollback Complete))) part ops acts bad
  finish_rollback i e o =
      let x = inv.entries i in
      set_rollback i Complete (λ y. not_going Complete refl) (λ w y z. clash (sym y)) (λ y. clash (sym y)) (not_going Complete refl)
      (x.rollback.returned ∙ ap (λ c. complete c at (entry_of l i).rollback.ordinal.0) e ∙ eq-eqb at (entry_of l i).rollback.ordinal.0 o)
      (λ y. x.tried (ap was_pushed e))
      (λ y. clash (ap is_complete y))

  -- ---- the ordinal passes the next op, and the target is where it leads
  passes : (h : Head) (vs : List ℕ) (does : List Op) (ills : List ℕ) → h.ordinal.0 ≡ suc at → h.target.0 ≡ led ops (suc at) → suc at ≤ length ops
      → ((k : ℕ) → pushed k does ≡ complete (entry_of l k).change.apply (suc at) (entry_of l k).change.ordinal.0)
      → ((k : ℕ) → popped k does ≡ complete (entry_of l k).rollback.apply (suc at) (entry_of l k).rollback.ordinal.0)
      → Sub does (first ops (suc at))
      → stack (first ops (suc at)) ≡ ills ++ held does
      → Fell l ills
      → h.revision.0 ≡ top (held does)
      → ((p : ℕ) → p < 32 → get_or vs p 0 ≡ val l (held does) p)
      → length vs ≡ 32
      → Applied l (record { head = h; values = vs }) ops does ills
  unfolding Rising
  passes h vs does ills e g r t u s q f v w n =
      record {
        entries = λ k. let x = inv.entries k in record {
          change = record { low = λ y. omega (arith, x.change.low y); aim = λ y z. absurd (omega (arith, x.change.low (touched (entry_of l k).change.apply y))); taken = rw e (t k) };
          rollback = record { low = λ y. omega (arith, x.rollback.low y); aim = λ y z. absurd (omega (arith, x.rollback.low (ap rollback_touched y))); returned = rw e (u k) };
          tried = x.tried;
          spared = x.spared;
        };
        calm = λ k. let x = inv.entries k in record {
          change = λ y z. absurd (omega (arith, x.change.low y));
          rollback = λ y z. absurd (omega (arith, x.rollback.low y));
        };
        reach = rw e r;
        sub = rw e s;
        split = rw e q;
        fell = f;
        tip = v;
        holds = w;
        room = n;
        aimed = λ x. absurd (x (rw e g));
        clear = λ k x y. absurd (beyond k (rw e at x) (sym g ∙ y));
      }
    where
      beyond : (k : ℕ) → op_at ops (suc (suc at)) ≡ push k → led ops (suc at) ≡ k → ⊥
      beyond k x y =
          let z : Rising (push k ∷ first ops (suc at)) = subst Rising (first_next ops (suc at) (push k) refl x) (first_rises ops (suc (suc at)) rising) in
          omega (arith, z.0, stack_low (first ops (suc at)) (first_rises ops (suc at) rising))

  -- nothing is taken or returned by passing it
  pass_taken : Quiet l at → ((k : ℕ) → (entry_of l k).change.apply ≡ InProgress → (entry_of l k).change.ordinal.0 ≡ suc at → ⊥)
      → (k : ℕ)
      → pushed k acts ≡ complete (entry_of l k).change.apply (suc at) (entry_of l k).change.ordinal.0
  pass_taken q f k =
      (inv.entries k).change.taken
      ∙ sym (complete_same (entry_of l k).change.apply at (entry_of l k).change.ordinal.0 (suc at) (entry_of l k).change.ordinal.0
      (λ x. ((λ y. (q k).change x (sym y)), (λ y. f k x (sym y)))))

  pass_returned : Quiet l at → ((k : ℕ) → (entry_of l k).rollback.apply ≡ InProgress → (entry_of l k).rollback.ordinal.0 ≡ suc at → ⊥)
      → (k : ℕ)
      → popped k acts ≡ complete (entry_of l k).rollback.apply (suc at) (entry_of l k).rollback.ordinal.0
  pass_returned q f k =
      (inv.entries k).rollback.returned
      ∙ sym (complete_same (entry_of l k).rollback.apply at (entry_of l k).rollback.ordinal.0 (suc at) (entry_of l k).rollback.ordinal.0
      (λ x. ((λ y. (q k).rollback x (sym y)), (λ y. f k x (sym y)))))

  -- change i, Aborted or Failed, is passed
  pub close_change : (i : ℕ) → is_ended (entry_of l i).change.apply ≡ true → ((entry_of l i).change.apply ≡ Failed → bad ≡ []) → (entry_of l i).change.ordinal.0 ≡ suc at
      → Applied l (record { head = closed hd (num i) (num i) (entry_of l i).change.ordinal; values = part.values }) ops acts (i ∷ bad)
  unfolding stack Fell
  close_change i e f o =
      let q : Quiet l at = (inv.calm i).change (ended_touched (entry_of l i).change.apply e) o in
      passes (closed hd (num i) (num i) (entry_of l i).change.ordinal) part.values acts (i ∷ bad) o (sym (push_led i o)) (push_reach i o)
      (pass_taken q (λ k x y. crash (ap is_ended (sym x ∙ ap (λ j. (entry_of l j).change.apply) (same_change i o k y)) ∙ e)))
      (pass_returned q (λ k x y. no_rollback i o k y))
      (subst (Sub acts) (sym (push_next i o)) (skip inv.sub))
      (ap stack (push_next i o) ∙ ap (λ ks. i ∷ ks) inv.split)
      (e, f, inv.fell)
      inv.tip inv.holds inv.room

  -- a started change finds every change under it taken
  pub started_clear : (i : ℕ) → is_started (entry_of l i).change.apply ≡ true → (entry_of l i).change.ordinal.0 ≡ suc at → bad ≡ []
  started_clear i e o = inv.clear i (next_push i o) ((inv.entries i).change.aim e o)

  -- the switch takes change i
  pub push_change : (i : ℕ) → (entry_of l i).change.apply ≡ InProgress → (entry_of l i).change.ordinal.0 ≡ suc at
      → Applied l
      (record { head = landed hd (num i) (num i) (entry_of l i).change.ordinal; values = over (entry_of l i).paths (entry_of l i).values (entry_of l i).count part.values })
      ops (push i ∷ acts) bad
  unfolding stack held pushed popped val
  push_change i e o =
      let t = entry_of l i in
      let b : bad ≡ [] = started_clear i (ap is_started e) o in
      passes (landed hd (num i) (num i) t.change.ordinal) _ (push i ∷ acts) bad o ((inv.entries i).change.aim (ap is_started e) o ∙ sym (push_led i o)) (push_reach i o)
      (λ k. went k (eqb i k) refl)
      (pass_returned q (λ k x y. no_rollback i o k y))
      (subst (Sub (push i ∷ acts)) (sym (push_next i o)) (keep inv.sub))
      (ap stack (push_next i o) ∙ rw b (ap (λ ks. i ∷ ks) (rw b at inv.split)))
      inv.fell
      refl
      (λ p x. at_over p _ _ _ part.values (omega (arith, inv.room)) ∙ ap (says t p) (inv.holds p x))
      (length_over t.paths t.values t.count part.values ∙ inv.room)
    where
      q : Quiet l at
      q = (inv.calm i).change (ap change_touched e) o

      went : (k : ℕ) (y : Bool) → eqb i k ≡ y → (y || pushed k acts) ≡ complete (entry_of l k).change.apply (suc at) (entry_of l k).change.ordinal.0
      went k true y = rw (← eqb-true i k y) (rw (e, o) (sym (eq-eqb (suc at) (suc at) refl)))
      went k false y =
          (inv.entries k).change.taken
          ∙ sym (complete_same (entry_of l k).change.apply at (entry_of l k).change.ordinal.0 (suc at) (entry_of l k).change.ordinal.0
          (λ x. ((λ z. (q k).change x (sym z)), (λ z. eqb-false i k y (sym (same_change i o k (sym z)))))))

  -- what is on top of the stack and was Aborted was not taken
  not_taken : (i : ℕ) (ks : List ℕ) → held acts ≡ i ∷ ks → (entry_of l i).change.apply ≡ Aborted → ⊥
  not_taken i ks w e =
      clash
      (sym (and_left (pushed i acts) _ (sym (holding i inv.sub rises) ∙ ap (mem i) w ∙ mem_first i ks))
      ∙ (inv.entries i).change.taken
      ∙ ap (λ c. complete c at (entry_of l i).change.ordinal.0) e)

-- ---- the ordinal passes the rollback of i
module _ {l : Log} {part : Part} {ops acts : List Op} where
  -- Canceled: the change was Aborted
  pub close_rollback : (bad : List ℕ) (side : ApplySide l part ops acts bad) (i : ℕ) → (entry_of l i).rollback.apply ≡ Canceled
      → (entry_of l i).rollback.ordinal.0 ≡ suc part.head.ordinal.0
      → Applied l (record { head = closed part.head (num i) (entry_of l i).index (entry_of l i).rollback.ordinal; values = part.values }) ops acts (tail bad)
  unfolding Fell
  close_rollback [] side i e o =
      let w : held acts ≡ i ∷ tail (held acts) = pop_split side i o in
      absurd (not_taken side i (tail (held acts)) w ((side.applied.entries i).spared e))
  close_rollback (b ∷ bs) side i e o =
      let q : Quiet l part.head.ordinal.0 = (side.applied.calm i).rollback (ap rollback_touched e) o in
      passes side (closed part.head (num i) (entry_of l i).index (entry_of l i).rollback.ordinal) part.values acts bs o
      (pop_led side i o) (pop_reach side i o)
      (pass_taken side q (λ k x y. no_change side i o k y))
      (pass_returned side q
      (λ k x y. not_going Canceled refl (sym e ∙ ap (λ j. (entry_of l j).rollback.apply) (sym (same_rollback side i o k y)) ∙ x)))
      (subst (Sub acts) (sym (pop_next side i o)) (skip side.applied.sub))
      (pop_stack side i o)
      side.applied.fell.2 side.applied.tip side.applied.holds side.applied.room

  module _ (bad : List ℕ) (side : ApplySide l part ops acts bad) (i : ℕ) (e : (entry_of l i).rollback.apply ≡ InProgress)
      (o : (entry_of l i).rollback.ordinal.0 ≡ suc part.head.ordinal.0) where
    abbrev returned_to : Head
    returned_to = landed part.head (num i) (entry_of l i).index (entry_of l i).rollback.ordinal

    went : (k : ℕ) → popped k (pop i ∷ acts) ≡ complete (entry_of l k).rollback.apply (suc part.head.ordinal.0) (entry_of l k).rollback.ordinal.0
    unfolding popped
    went k = go (eqb i k) refl
      where
        a : ℕ
        a = part.head.ordinal.0

        q : Quiet l a
        q = (side.applied.calm i).rollback (ap rollback_touched e) o

        go : (y : Bool) → eqb i k ≡ y → (y || popped k acts) ≡ complete (entry_of l k).rollback.apply (suc a) (entry_of l k).rollback.ordinal.0
        go true y = rw (← eqb-true i k y) (rw (e, o) (sym (eq-eqb (suc a) (suc a) refl)))
        go false y =
            (side.applied.entries k).rollback.returned
            ∙ sym (complete_same (entry_of l k).rollback.apply a (entry_of l k).rollback.ordinal.0 (suc a) (entry_of l k).rollback.ordinal.0
            (λ x. ((λ z. (q k).rollback x (sym z)), (λ z. eqb-false i k y (sym (same_rollback side i o k (sym z)))))))

    -- the switch goes back by the rollback of i, to the changes ks
    goes_back : (ks : List ℕ) (ills : List ℕ) → held (pop i ∷ acts) ≡ ks → stack (first ops (suc part.head.ordinal.0)) ≡ ills ++ ks → Fell l ills → (entry_of l i).index.0 ≡ top ks
        → ((p : ℕ) → p < 32 → returns (entry_of l i) p (get_or part.values p 0) ≡ val l ks p)
        → Applied l (record { head = returned_to; values = over (entry_of l i).paths (entry_of l i).kept (entry_of l i).count part.values }) ops (pop i ∷ acts) ills
    unfolding pushed
    goes_back ks ills w s f t v =
        let u = entry_of l i in
        let q : Quiet l part.head.ordinal.0 = (side.applied.calm i).rollback (ap rollback_touched e) o in
        passes side returned_to _ (pop i ∷ acts) ills o
        ((side.applied.entries i).rollback.aim e o ∙ pop_led side i o) (pop_reach side i o)
        (pass_taken side q (λ k x y. no_change side i o k y))
        went
        (subst (Sub (pop i ∷ acts)) (sym (pop_next side i o)) (keep side.applied.sub))
        (s ∙ ap (λ x. ills ++ x) (sym w))
        f (t ∙ ap top (sym w))
        (λ p x. at_over p _ _ _ part.values (omega (arith, side.applied.room)) ∙ v p x ∙ ap (λ y. val l y p) (sym w))
        (length_over u.paths u.kept u.count part.values ∙ side.applied.room)

  -- taken, the change is undone; Failed, its rollback is pushed all the same and changes nothing
  pub push_rollback : (bad : List ℕ) (side : ApplySide l part ops acts bad) (i : ℕ) → (entry_of l i).rollback.apply ≡ InProgress
      → (entry_of l i).rollback.ordinal.0 ≡ suc part.head.ordinal.0
      → Applied l
      (record { head = landed part.head (num i) (entry_of l i).index (entry_of l i).rollback.ordinal; values = over (entry_of l i).paths (entry_of l i).kept (entry_of l i).count part.values })
      ops (pop i ∷ acts) (tail bad)
  unfolding held without Fell val
  push_rollback [] side i e o =
      let ks = tail (held acts) in
      let w : held acts ≡ i ∷ ks = pop_split side i o in
      let f : Falls (i ∷ ks) = subst Falls w (held_falls side) in
      let k : Link l i ks = pop_link side i o in
      goes_back [] side i e o ks []
      (ap (without i) w ∙ rw (eq-eqb i i refl) (without_none i ks (falls_tail i ks f) (falls_top i ks f)))
      (pop_stack side i o) tt k.back
      (λ p x. ap (returns (entry_of l i) p) (side.applied.holds p x ∙ ap (λ y. val l y p) w) ∙ k.keeps p x)
  push_rollback (b ∷ bs) side i e o =
      let w : b ∷ (bs ++ held acts) ≡ i ∷ (bs ++ held acts) = pop_split side i o in
      let u : b ≡ i = ap top w in
      let x : is_ended (entry_of l i).change.apply ≡ true = rw u at side.applied.fell.0 in
      let y : (entry_of l i).change.apply ≡ Failed → bs ≡ [] = rw u at side.applied.fell.1 in
      let z : bs ≡ [] = y (failed_is (entry_of l i).change.apply ((side.applied.entries i).tried (ap was_pushed e)) x) in
      let k : Link l i (bs ++ held acts) = pop_link side i o in
      let j : Link l i (held acts) = rw z at k in
      let g : Falls (i ∷ (bs ++ held acts)) = pop_falls side i o in
      let h : Falls (i ∷ held acts) = rw z at g in
      goes_back (b ∷ bs) side i e o (held acts) bs (without_none i (held acts) (falls_tail i (held acts) h) (falls_top i (held acts) h))
      (pop_stack side i o) side.applied.fell.2 j.back
      (λ p q. ap (returns (entry_of l i) p) (side.applied.holds p q) ∙ back_again (entry_of l i).paths (entry_of l i).count (entry_of l i).kept (entry_of l i).values p (val l (held acts) p) (j.keeps p q))

-- ---- one commit more
pub extend : {l : Log} {part : Part} {ops acts : List Op} {bad : List ℕ} → ApplySide l part ops acts bad → (x : Op)
    → ((k : ℕ) → x ≡ push k → newest ops < k)
    → Applied l part (x ∷ ops) acts bad
unfolding op_at
extend {l} {part} {ops} {acts} {bad} side x above =
    record {
      entries = side.applied.entries;
      calm = side.applied.calm;
      reach = omega (arith, side.applied.reach);
      sub = rw old side.applied.sub;
      split = rw old side.applied.split;
      fell = side.applied.fell;
      tip = side.applied.tip;
      holds = side.applied.holds;
      room = side.applied.room;
      aimed = λ y. let z = side.applied.aimed (λ u. y (rw old u)) in record { there = rw (first_more ops x (suc part.head.ordinal.0) z.reach) z.there; reach = omega (arith, z.reach); quiet = z.quiet };
      clear = λ k. go k (eqb (suc part.head.ordinal.0) (suc (length ops)));
    }
  where
    old : first (x ∷ ops) part.head.ordinal.0 ≡ first ops part.head.ordinal.0
    old = first_more ops x part.head.ordinal.0 side.applied.reach

    go : (k : ℕ) (b : Bool) → cond b x (op_at ops (suc part.head.ordinal.0)) ≡ push k → part.head.target.0 ≡ k → bad ≡ []
    go k true e g = absurd (omega (arith, above k e, target_low side))
    go k false e g = side.applied.clear k e g

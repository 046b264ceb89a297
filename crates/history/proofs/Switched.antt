-- Every call keeps what is said of the target (Switch); so it holds after any calls from fresh, and with it demand 3.
-- Assumes nothing.
use Prim.Native.Nat.{ℕ, zero, suc, ◌+◌, ◌≤◌, ◌<◌}
use native.Mathlib.Omega.{arith}
use mathlib.Core.List.{List, [], ◌∷◌, ◌++◌}
use mathlib.Core.Bool.{Bool, true, false, not, ◌&&◌, ◌||◌, cond}
use mathlib.Core.Path.{◌≡◌, refl, sym, ap, ◌∙◌, subst}
use lib.Dec.{eqb, leb}
use lib.ListN.{length}
use borrow.Author.Tests.{eqb-true, eq-eqb, ne_eqb, leb-true, leb-false}
use Rattle.kinds.specs.declared.Transaction.{Transaction}
use Rattle.kinds.specs.declared.Event.{Event}
use Rattle.kinds.specs.declared.Reply.{Reply}
use Rattle.kinds.specs.declared.Number.{Number}
use Rattle.kinds.specs.declared.Ordinal.{Ordinal}
use Rattle.kinds.specs.declared.Status.{Status}
use Rattle.kinds.specs.declared.Status.TheVariants.{None, Pending, InProgress, Complete, Aborted, Canceled, Failed}
use Rattle.kinds.specs.Numbers.{num, ord}
use Rattle.kinds.specs.Records.{with_change, with_rollback}
use Rattle.kinds.specs.Events.{no_event, event, numbered, refusal}
use Rattle.rules.specs.Heads.{aimed, landed, closed}
use Rattle.rules.specs.Sides.{begun, committed, invalid, apply_at}
use Rattle.rules.specs.Outside.{may_roll_back, rolled_back}
use Rattle.rules.specs.ApplyRollback.{was_tried}
use Rattle.rules.specs.declared.CommitChangeRule.TheVariants as change
use Rattle.rules.specs.declared.CommitRollbackRule.TheVariants as rollback
use Rattle.rules.specs.declared.ApplyChangeRule.TheVariants as apply
use Rattle.rules.specs.declared.ApplyRollbackRule.TheVariants as return
use Rattle.rules.specs.CommitChange as job1
use Rattle.rules.specs.CommitRollback as job3
use Rattle.rules.specs.ApplyChange as job2
use Rattle.rules.specs.ApplyRollback as job4
use Rattle.rules.specs.declared.Present.{Present}
use Rattle.machine.specs.State.{State, Log, Part, Ledger, Net, absent, fresh, entry_of, put_entry, last, line_open_for}
use Rattle.machine.specs.Stores.{with_log, with_net, with_target_values}
use Rattle.machine.specs.Settled.{settled}
use Rattle.machine.specs.Folding.{finished}
use Rattle.machine.specs.Calls.{Call, Pair, appended, present_of}
use Rattle.machine.specs.Step.{step, run}
use Rattle.machine.specs.Notes.{Note, nothing, wrote, half, full, note, notes}
use Rattle.machine.specs.Laid.{over}
use Rattle.machine.proofs.Next.{putting}
use Rattle.machine.proofs.Overlay.{over_again}
use Rattle.machine.proofs.Cases.{and_left, or_cases}
use Rattle.machine.proofs.Entries.{none_all, entry_put}
use Rattle.machine.proofs.ByCall.{Does, Calls}
use Rattle.history.specs.Demand3.{tells, told, completed, cut_since, last_cut, pushed_since, Holds, applied, pushed, returned, Demand3, made_good}
use Rattle.history.specs.Ops.{Op, push, pop, ops_of, popped, told_change, told_rollback, top, tail, stack, mem, standing, op_at, first, first_rises, sub_popped, popped_low, held, stack_low, clash, crash, or_late}
use Rattle.history.specs.Ops as ops
use Rattle.history.specs.Invariant.{is_going, complete, is_started, change_touched, was_pushed, Paired, Fell, Wired, Invariant}
use Rattle.history.specs.Frames.{paired, by_eq, by_bool}
use Rattle.history.proofs.Applies as applies
use Rattle.history.proofs.Line.{start_wired, stop_wired, connect_wired, disconnect_wired, elect_wired, resign_wired, syncing_wired, synced_wired, open_holds, fresh_wired}
use Rattle.history.proofs.Jobs as jobs
use Rattle.history.specs.Whole.{whole, shown_log, shown, Front}
use Rattle.history.proofs.Follow.{entry_seen}
use Rattle.history.proofs.Fronts.{ways}
use Rattle.history.proofs.Reached.{Reached, reached, Folded, folded, by_history, live_applied, committed_values_holds, applied_values_holds, live_list, live_hops, log_shown, front_zero}
use Rattle.kinds.specs.Statuses.{is_failed}
use Rattle.history.specs.Marks.{is_canceled}
use Rattle.history.proofs.Marked.{Marked, marked}
use Rattle.history.proofs.Guaranteed.{pushed_first, failed_some, canceled_is, rejected}
use Rattle.history.proofs.Switch.{half_after, half_pushed, Partly, pushing, failed, returning, Held, has_begun, Switch, with_change_holds, with_rollback_holds, idle_partly, retold, commits, wires, grows, puts, adds, aims, passes, pushes, half_pushes}

-- change k has begun to apply
abbrev pub Told : List Event → ℕ → Type 0
Told es k = told InProgress es 1 2 k ≡ true

tell : (e : Event) (es : List Event) (k : ℕ) → Told es k → Told (e ∷ es) k
unfolding told
tell e es k x = or_late (tells InProgress e 1 2 k) (told InProgress es 1 2 k) x

tell_begin : (es : List Event) (i : ℕ) → Told (event 1 2 (num i) InProgress ∷ es) i
unfolding told
tell_begin es i = ap (λ b. b || told InProgress es 1 2 i) (eq-eqb i i refl)

not_in_progress : (c : Status) → (c ≡ InProgress → ⊥) → is_going c ≡ false
not_in_progress None f = refl
not_in_progress Pending f = refl
not_in_progress InProgress f = absurd (f refl)
not_in_progress Complete f = refl
not_in_progress Aborted f = refl
not_in_progress Canceled f = refl
not_in_progress Failed f = refl

is_false : (b : Bool) → (b ≡ true → ⊥) → b ≡ false
is_false true f = absurd (f refl)
is_false false f = refl

-- ---- what is pushed is what was cut
module _ (s : State) (es : List Event) (r : Reached s es) (marks : Marked s.log s.applied.head es) where
  abbrev acts : List Op
  acts = ops_of Complete 2 es

  abbrev at : ℕ
  at = s.applied.head.ordinal.0

  abbrev en : ℕ → Transaction
  en k = entry_of s.log k

  abbrev ws : List ℕ
  ws = s.applied.values

  abbrev side : applies.ApplySide s.log s.applied (ops_of Complete 1 es) acts r.bad
  side = jobs.side r.inv

  -- a change that the switch did not take is not held
  not_held : (k : ℕ) → (en k).change.apply ≡ Failed → mem k (held acts) ≡ true → ⊥
  not_held k f x =
      clash (sym x ∙ live_applied s es r k
      ∙ ap (λ b. b && not (completed es 2 2 k)) (told_change Complete es 2 k ∙ (r.inv.applied.entries k).change.taken ∙ ap (λ c. complete c at (en k).change.ordinal.0) f))

  -- the next change is not rolled back
  unreturned : (i : ℕ) → (en i).change.ordinal.0 ≡ suc at → popped i acts ≡ false
  unreturned i o =
      is_false _ (λ x. omega (
        arith,
        applies.push_above side i o,
        popped_low (first (ops_of Complete 1 es) at) (first_rises (ops_of Complete 1 es) at r.inv.committed.rising) i (sub_popped i r.inv.applied.sub x),
      ))

  module _ (i : ℕ) (e : (en i).change.apply ≡ InProgress) (o : (en i).change.ordinal.0 ≡ suc at) where
    abbrev lay : List ℕ → List ℕ
    lay = over (en i).paths (en i).values (en i).count

    lands_on : {vs : List ℕ} (k : ℕ) → Partly at acts ws vs k (en k) → (k ≡ i) × (lay vs ≡ lay ws)
    lands_on {vs} k (pushing x y z) =
        let w : k ≡ i = applies.same_change side i o k y in
        (w, ap lay (subst (λ j. vs ≡ over (en j).paths (en j).values (en j).count ws) w z) ∙ over_again (en i).paths (en i).values (en i).values (en i).count ws)
    lands_on k (failed x y z) = clash (sym (rejected s es r marks i e o k ((marks k).failed ∙ ap is_failed x)) ∙ told_rollback Complete es 2 k ∙ y)
    lands_on k (returning x y z) = applies.no_rollback side i o k y

  module _ (i : ℕ) (e : (en i).rollback.apply ≡ InProgress) (o : (en i).rollback.ordinal.0 ≡ suc at) where
    -- a Failed change not rolled back is the one whose rollback is next
    only : (k : ℕ) → (en k).change.apply ≡ Failed → popped k acts ≡ false → k ≡ i
    unfolding Fell mem
    only k f d = go r.bad (sym (ap (mem k) r.inv.applied.split) ∙ on) (applies.pop_split side i o) r.inv.applied.fell
      where
        rises : ops.Rising (first (ops_of Complete 1 es) at)
        rises = first_rises (ops_of Complete 1 es) at r.inv.committed.rising

        carried : (n : ℕ) → (en k).change.ordinal.0 ≡ n → 1 ≤ n → op_at (ops_of Complete 1 es) n ≡ push k
        carried zero x b = absurd (omega arith)
        carried (suc n) x b = (r.inv.numbered k).change n x

        was : ops.pushed k (first (ops_of Complete 1 es) at) ≡ true
        was =
            let one : 1 ≤ (en k).change.ordinal.0 = failed_some (en k).change.commit (en k).change.ordinal.0 (subst (λ x. Paired (en k).change.commit x (en k).change.ordinal.0) f (r.inv.sides k).change) in
            let low : (en k).change.ordinal.0 ≤ suc at = (r.inv.applied.entries k).change.low (ap change_touched f) in
            let b : (en k).change.ordinal.0 ≤ at = by_eq (en k).change.ordinal.0 (suc at) (λ x. applies.no_change side i o k x) (λ x. omega arith) in
            pushed_first (ops_of Complete 1 es) at (en k).change.ordinal.0 k (carried (en k).change.ordinal.0 refl one) b

        stays : popped k (first (ops_of Complete 1 es) at) ≡ false
        stays = is_false _ (λ x. or_cases (told Complete es 2 2 k) (is_canceled (en k).rollback.apply) ((marks k).gone x)
            (λ y. clash (sym y ∙ told_rollback Complete es 2 k ∙ d))
            (λ y. clash (ap is_failed (sym f ∙ (r.inv.applied.entries k).spared (canceled_is (en k).rollback.apply y)))))

        on : mem k (stack (first (ops_of Complete 1 es) at)) ≡ true
        on = standing (first (ops_of Complete 1 es) at) rises k ∙ ap (λ b. b && not (popped k (first (ops_of Complete 1 es) at))) was ∙ ap not stays

        go : (bs : List ℕ) → mem k (bs ++ held acts) ≡ true → bs ++ held acts ≡ i ∷ tail (bs ++ held acts) → Fell s.log bs → k ≡ i
        go [] m w f' = absurd (not_held k f m)
        go (b ∷ bs) m w f' =
            let x : b ≡ i = ap top w in
            let t : was_tried (en b).change.apply ≡ true = subst (λ j. was_tried (en j).change.apply ≡ true) (sym x) ((r.inv.applied.entries i).tried (ap was_pushed e)) in
            let z : bs ≡ [] = f'.1 (applies.failed_is (en b).change.apply t f'.0) in
            or_cases (eqb b k) (mem k (bs ++ held acts)) m (λ y. sym (eqb-true b k y) ∙ x) (λ y. absurd (not_held k f (sym (ap (λ c. mem k (c ++ held acts)) z) ∙ y)))

    abbrev back : List ℕ → List ℕ
    back = over (en i).paths (en i).kept (en i).count

    returns_on : {vs : List ℕ} (k : ℕ) → Partly at acts ws vs k (en k) → (k ≡ i) × (back vs ≡ back ws)
    returns_on k (pushing x y z) = applies.no_change side i o k y
    returns_on {vs} k (failed x y z) =
        let w : k ≡ i = only k x y in
        (w, ap back (subst (λ j. vs ≡ over (en j).paths (en j).values (en j).count ws) w z) ∙ over_again (en i).paths (en i).values (en i).kept (en i).count ws)
    returns_on {vs} k (returning x y z) =
        let w : k ≡ i = applies.same_rollback side i o k y in
        (w, ap back (subst (λ j. vs ≡ over (en j).paths (en j).kept (en j).count ws) w z) ∙ over_again (en i).paths (en i).kept (en i).kept (en i).count ws)

-- ---- the next op closes
module _ {s : State} {T : ℕ → Type 0} {ops acts : List Op} {bad : List ℕ} {h : ℕ} (inv : Invariant s ops acts bad) (sw : Switch s T ops acts h) where
  abbrev Closes : Number → Number → Ordinal → Type 0
  Closes i aim o =
      Switch (record { log = s.log; change = s.change; committed = s.committed; applied = record { head = closed s.applied.head i aim o; values = s.applied.values }; net = s.net }) T ops acts h

  closes_change : (i : ℕ) (o : Ordinal) → o.0 ≡ suc s.applied.head.ordinal.0 → (entry_of s.log i).change.ordinal.0 ≡ suc s.applied.head.ordinal.0 → is_going (entry_of s.log i).change.apply ≡ false
      → Closes (num i) (num i) o
  closes_change i o x m e =
      passes sw (closed s.applied.head (num i) (num i) o) x (sym (applies.push_led (jobs.side inv) i m))
      (λ k y z. clash (sym (ap is_going y) ∙ ap (λ j. is_going (entry_of s.log j).change.apply) (applies.same_change (jobs.side inv) i m k z) ∙ e))
      (λ k y z. applies.no_rollback (jobs.side inv) i m k z)

  closes_rollback : (i : ℕ) (n : Number) (o : Ordinal) → n.0 ≡ (entry_of s.log i).index.0 → o.0 ≡ suc s.applied.head.ordinal.0 → (entry_of s.log i).rollback.ordinal.0 ≡ suc s.applied.head.ordinal.0
      → is_going (entry_of s.log i).rollback.apply ≡ false
      → Closes (num i) n o
  closes_rollback i n o g x m e =
      passes sw (closed s.applied.head (num i) n o) x (g ∙ applies.pop_led (jobs.side inv) i m)
      (λ k y z. applies.no_change (jobs.side inv) i m k z)
      (λ k y z. clash (sym (ap is_going y) ∙ ap (λ j. is_going (entry_of s.log j).rollback.apply) (applies.same_rollback (jobs.side inv) i m k z) ∙ e))

-- ---- the status of a change or of a rollback is stored
module _ {a : ℕ} {acts : List Op} {ws vs : List ℕ} {k : ℕ} (t : Transaction) where
  -- a push that is rejected
  fails_partly : t.change.apply ≡ InProgress → popped k acts ≡ false → Partly a acts ws vs k t → Partly a acts ws vs k (with_change t (apply_at t.change Failed))
  fails_partly e d (pushing x y z) = failed refl d z
  fails_partly e d (failed x y z) = clash (ap is_failed (sym x ∙ e))
  fails_partly e d (returning x y z) = returning x y z

  finishes_partly : t.change.apply ≡ InProgress → a ≡ t.change.ordinal.0 → Partly a acts ws vs k t → Partly a acts ws vs k (with_change t (apply_at t.change Complete))
  finishes_partly e o (pushing x y z) = absurd (omega arith)
  finishes_partly e o (failed x y z) = clash (ap is_failed (sym x ∙ e))
  finishes_partly e o (returning x y z) = returning x y z

  asked_partly : is_going t.rollback.apply ≡ false → Partly a acts ws vs k t → Partly a acts ws vs k (rolled_back t)
  asked_partly e (pushing x y z) = pushing x y z
  asked_partly e (failed x y z) = failed x y z
  asked_partly e (returning x y z) = clash (sym (ap is_going x) ∙ e)

  returns_partly : a ≡ t.rollback.ordinal.0 → Partly a acts ws vs k t → Partly a acts ws vs k (with_rollback t (apply_at t.rollback Complete))
  returns_partly o (pushing x y z) = pushing x y z
  returns_partly o (failed x y z) = failed x y z
  returns_partly o (returning x y z) = absurd (omega arith)

module _ (s : State) (es : List Event) (h : ℕ) (r : Reached s es) (marks : Marked s.log s.applied.head es) (sw : Switch s (Told es) (ops_of Complete 1 es) (ops_of Complete 2 es) h) where
  abbrev Keeps : Note → Reply → State → Type 0
  Keeps x p next = Switch next (Told (p.event ∷ es)) (ops_of Complete 1 (p.event ∷ es)) (ops_of Complete 2 (p.event ∷ es)) (half_after x h)

  abbrev inv : Invariant s (ops_of Complete 1 es) (ops_of Complete 2 es) r.bad
  inv = r.inv

  abbrev this : ℕ → Transaction
  this i = entry_of s.log i

  abbrev now : ℕ
  now = s.applied.head.ordinal.0

  -- an event more, and a store that gives none
  heard : (e : Event) → Switch s (Told (e ∷ es)) (ops_of Complete 1 es) (ops_of Complete 2 es) h
  heard e = retold sw (Told (e ∷ es)) (tell e es)

  still : (next : State) (g : ℕ) → Switch next (Told es) (ops_of Complete 1 es) (ops_of Complete 2 es) g → Switch next (Told (no_event ∷ es)) (ops_of Complete 1 (no_event ∷ es)) (ops_of Complete 2 (no_event ∷ es)) g
  unfolding ops_of
  still next g k = retold k (Told (no_event ∷ es)) (tell no_event es)

  wiring : (w : Net) → Wired w (Held s.log now (ops_of Complete 2 es) s.applied.values h) → Keeps nothing (refusal 0) (with_net s w)
  wiring w u = still _ h (wires sw w u)

  -- before its commit completes a change's apply is Pending, and so is a rollback's once it is asked for
  waits : (i : ℕ) (c : Status) → (this i).change.commit ≡ c → Paired c (this i).change.apply (this i).change.ordinal.0
  waits i c e = paired (this i).change.commit c (this i).change.apply (this i).change.ordinal.0 e (inv.sides i).change

  waits_back : (i : ℕ) (c : Status) → (this i).rollback.commit ≡ c → Paired c (this i).rollback.apply (this i).rollback.ordinal.0
  waits_back i c e = paired (this i).rollback.commit c (this i).rollback.apply (this i).rollback.ordinal.0 e (inv.sides i).rollback

  -- a rollback is in progress only where its change was tried
  not_returning : (i : ℕ) → was_tried (this i).change.apply ≡ false → is_going (this i).rollback.apply ≡ false
  not_returning i e = not_in_progress (this i).rollback.apply (λ x. clash (sym ((inv.applied.entries i).tried (ap was_pushed x)) ∙ e))

  -- a state with this log
  abbrev On : Number → Ledger → Part → Net → State
  On c d a w = record { log = s.log; change = c; committed = d; applied = a; net = w }

  module _ (i : ℕ) (p : s.log.folded.0 < i) (q : i ≤ last s.log) where
    stored : (t : Transaction) → entry_of (put_entry s.log i t) i ≡ t
    stored t = entry_put s.log i t p q

    -- ---- a status stored, after another store or alone
    module _ {T : ℕ → Type 0} {xs ys : List Op} {g : ℕ} {c : Number} {d : Ledger} {a : Part} {w : Net} (k : Switch (On c d a w) T xs ys g) where
      abbrev Puts : Transaction → Type 0
      Puts t = Switch (putting (On c d a w) i t) T xs ys g

      begins1 : (this i).change.commit ≡ Pending → (n : Number) (vs : Present) → Puts (job1.beginning (this i) n vs)
      begins1 e n vs =
          let x = (waits i Pending e).0 in
          puts k i _ (k.began i) (λ us y. idle_partly (this i) (ap is_started x) (not_returning i (ap was_tried x)) y)

      finishes1 : (this i).change.commit ≡ InProgress → (o : Ordinal) → Puts (with_change (this i) (committed (this i).change o))
      finishes1 e o = puts k i _ (k.began i) (λ us. with_change_holds (this i) _ (ap is_started (waits i InProgress e).0))

      rejects1 : (this i).change.commit ≡ InProgress → Puts (with_change (this i) (invalid (this i).change))
      rejects1 e = puts k i _ (λ x. crash x) (λ us. with_change_holds (this i) _ (ap is_started (waits i InProgress e).0))

      begins3 : (this i).rollback.commit ≡ Pending → Puts (with_rollback (this i) (begun (this i).rollback))
      begins3 e = puts k i _ (k.began i) (λ us. with_rollback_holds (this i) _ (ap is_going (waits_back i Pending e).0))

      finishes3 : (this i).rollback.commit ≡ InProgress → (o : Ordinal) → Puts (with_rollback (this i) (committed (this i).rollback o))
      finishes3 e o = puts k i _ (k.began i) (λ us. with_rollback_holds (this i) _ (ap is_going (waits_back i InProgress e).0))

      begins2 : (this i).change.apply ≡ Pending → T i → Puts (with_change (this i) (apply_at (this i).change InProgress))
      begins2 e t = puts k i _ (λ x. t) (λ us. with_change_holds (this i) _ (ap is_started e))

      aborts2 : (this i).change.apply ≡ Pending → Puts (with_change (this i) (apply_at (this i).change Aborted))
      aborts2 e = puts k i _ (λ x. crash x) (λ us. with_change_holds (this i) _ (ap is_started e))

      fails2 : (this i).change.apply ≡ InProgress → popped i ys ≡ false → Puts (with_change (this i) (apply_at (this i).change Failed))
      fails2 e x = puts k i _ (λ y. k.began i (ap has_begun e)) (λ us. fails_partly (this i) e x)

      finishes2 : (this i).change.apply ≡ InProgress → a.head.ordinal.0 ≡ (this i).change.ordinal.0 → Puts (with_change (this i) (apply_at (this i).change Complete))
      finishes2 e o = puts k i _ (λ y. k.began i (ap has_begun e)) (λ us. finishes_partly (this i) e o)

      begins4 : (this i).rollback.apply ≡ Pending → Puts (with_rollback (this i) (apply_at (this i).rollback InProgress))
      begins4 e = puts k i _ (k.began i) (λ us. with_rollback_holds (this i) _ (ap is_going e))

      cancels4 : (this i).rollback.apply ≡ Pending → Puts (with_rollback (this i) (apply_at (this i).rollback Canceled))
      cancels4 e = puts k i _ (k.began i) (λ us. with_rollback_holds (this i) _ (ap is_going e))

      finishes4 : a.head.ordinal.0 ≡ (this i).rollback.ordinal.0 → Puts (with_rollback (this i) (apply_at (this i).rollback Complete))
      finishes4 o = puts k i _ (k.began i) (λ us. returns_partly (this i) o)

    -- ---- jobs 1 and 3
    abbrev vs : Present
    vs = present_of s (this i)

    aim1 : (cut second : Bool) → (this i).change.commit ≡ Pending → Does s Keeps true i cut second (job1.plans change.Aim (this i) s.committed.head (num i) (ord 0) vs)
    unfolding ops_of
    aim1 true second e = commits (heard (event 1 1 (num i) InProgress)) _ _
    aim1 false second e = begins1 (commits (heard (event 1 1 (num i) InProgress)) _ _) e _ _

    land1 : (cut second : Bool) → (this i).change.commit ≡ InProgress → (o : Ordinal) → Does s Keeps true i cut second (job1.plans change.Land (this i) s.committed.head (num i) o vs)
    unfolding ops_of
    land1 true second e o = commits (grows (heard (event 1 1 (num i) Complete)) (push i) inv.applied) _ _
    land1 false second e o = finishes1 (commits (grows (heard (event 1 1 (num i) Complete)) (push i) inv.applied) _ _) e o

    reject1 : (cut second : Bool) → (this i).change.commit ≡ InProgress → Does s Keeps true i cut second (job1.plans change.Reject (this i) s.committed.head (num i) (ord 0) vs)
    unfolding ops_of
    reject1 true second e = rejects1 (heard (event 1 1 (num i) Failed)) e
    reject1 false second e = commits (rejects1 (heard (event 1 1 (num i) Failed)) e) _ _

    aim3 : (cut second : Bool) → (this i).rollback.commit ≡ Pending → Does s Keeps true i cut second (job3.plans rollback.Aim (this i) s.committed.head (num i) (ord 0))
    unfolding ops_of
    aim3 true second e = commits (heard (event 2 1 (num i) InProgress)) _ _
    aim3 false second e = begins3 (commits (heard (event 2 1 (num i) InProgress)) _ _) e

    land3 : (cut second : Bool) → (this i).rollback.commit ≡ InProgress → (o : Ordinal) → Does s Keeps true i cut second (job3.plans rollback.Land (this i) s.committed.head (num i) o)
    unfolding ops_of
    land3 true second e o = commits (grows (heard (event 2 1 (num i) Complete)) (pop i) inv.applied) _ _
    land3 false second e o = finishes3 (commits (grows (heard (event 2 1 (num i) Complete)) (pop i) inv.applied) _ _) e o

    -- ---- job 2
    abbrev NextChange : Type 0
    NextChange = ((this i).change.commit ≡ Complete) × ((this i).change.ordinal.0 ≡ suc now)

    -- the target on the next change has left for it
    has_left : NextChange → s.applied.head.target.0 ≡ i → Told es i
    has_left m g =
        sw.left (λ x. omega (arith, applies.push_above (jobs.side inv) i m.1, stack_low (first (ops_of Complete 1 es) now) (first_rises (ops_of Complete 1 es) now inv.committed.rising))) i
        (applies.next_push (jobs.side inv) i m.1)

    aim2 : (cut second : Bool) → NextChange → (this i).change.apply ≡ Pending → Does s Keeps false i cut second (job2.plans apply.Aim (this i) s.applied.head (num i))
    unfolding ops_of
    aim2 cut second m e = go cut
      where
        ev : Event
        ev = event 1 2 (num i) InProgress

        leaving : Switch (On s.change s.committed (record { head = aimed s.applied.head (num i); values = s.applied.values }) s.net) (Told (ev ∷ es)) (ops_of Complete 1 es) (ops_of Complete 2 es) h
        leaving = aims (heard ev) (num i) (λ k x. subst (Told (ev ∷ es)) (applies.push_is i k (sym (applies.next_push (jobs.side inv) i m.1) ∙ x)) (tell_begin es i))

        go : (cut : Bool) → Does s Keeps false i cut second (job2.plans apply.Aim (this i) s.applied.head (num i))
        go true = leaving
        go false = begins2 leaving e (tell_begin es i)

    abort2 : (cut second : Bool) → NextChange → (this i).change.apply ≡ Pending → settled s ≡ true → Does s Keeps false i cut second (job2.plans apply.Abort (this i) s.applied.head (num i))
    unfolding ops_of
    abort2 true second m e x = aborts2 (heard (event 1 2 (num i) Aborted)) e
    abort2 false second m e x =
        let w = stored (with_change (this i) (apply_at (this i).change Aborted)) in
        closes_change (jobs.abort_apply inv i m e x) (aborts2 (heard (event 1 2 (num i) Aborted)) e) i (this i).change.ordinal m.1 (rw w m.1) (rw w refl)

    fail2 : (cut second : Bool) → NextChange → (this i).change.apply ≡ InProgress → Does s Keeps false i cut second (job2.plans apply.Fail (this i) s.applied.head (num i))
    unfolding ops_of
    fail2 true second m e = fails2 (heard (event 1 2 (num i) Failed)) e (unreturned s es r marks i m.1)
    fail2 false second m e =
        let w = stored (with_change (this i) (apply_at (this i).change Failed)) in
        closes_change (jobs.fail_apply inv i m e) (fails2 (heard (event 1 2 (num i) Failed)) e (unreturned s es r marks i m.1)) i (this i).change.ordinal m.1 (rw w m.1) (rw w refl)

    -- ---- a push: what was cut, if anything was, is what is pushed now
    holding : (n : ℕ) → line_open_for s.net n ≡ true → Held s.log now (ops_of Complete 2 es) s.applied.values h s.net.values
    holding n l = open_holds s.net _ sw.wired n l

    module _ (f : List ℕ → List ℕ) (k : Held s.log now (ops_of Complete 2 es) s.applied.values h s.net.values)
        (on : (j : ℕ) → Partly now (ops_of Complete 2 es) s.applied.values s.net.values j (this j) → (j ≡ i) × (f s.net.values ≡ f s.applied.values)) where
      cut : (h ≡ 0 → ⊥) → (h ≡ i) × (f s.net.values ≡ f s.applied.values)
      cut x = on h (k.partly h refl (let z : 1 ≤ h = omega arith in z))

      lands : f s.net.values ≡ f s.applied.values
      lands = by_eq h 0 (λ x. ap f (k.whole x)) (λ x. (cut x).1)

      -- and then nothing is
      mends : cond (eqb h i) 0 h ≡ 0
      mends = by_eq h 0 (either (eqb h i) h) (λ x. ap (λ b. cond b 0 h) (eq-eqb h i (cut x).0))
        where
          either : (b : Bool) (n : ℕ) → n ≡ 0 → cond b 0 n ≡ 0
          either true n e = refl
          either false n e = e

    push2 : (n : ℕ) (first second : Bool) → NextChange → (this i).change.apply ≡ InProgress → line_open_for s.net n ≡ true
        → Does s Keeps false i first second (job2.plans apply.Push (this i) s.applied.head (num i))
    unfolding ops_of
    push2 n first second m e l = go first second
      where
        f : List ℕ → List ℕ
        f = over (this i).paths (this i).values (this i).count

        on : (j : ℕ) → Partly now (ops_of Complete 2 es) s.applied.values s.net.values j (this j) → (j ≡ i) × (f s.net.values ≡ f s.applied.values)
        on j = lands_on s es r marks i e m.1 j

        ev : Event
        ev = event 1 2 (num i) Complete

        whole_push : Switch (On s.change s.committed (record { head = landed s.applied.head (num i) (num i) (this i).change.ordinal; values = f s.applied.values }) (with_target_values s.net (f s.net.values)))
            (Told (ev ∷ es)) (ops_of Complete 1 es) (push i ∷ ops_of Complete 2 es) (cond (eqb h i) 0 h)
        whole_push =
            subst (Switch _ (Told (ev ∷ es)) (ops_of Complete 1 es) (push i ∷ ops_of Complete 2 es)) (sym (mends f (holding n l) on))
            (pushes (heard ev) (landed s.applied.head (num i) (num i) (this i).change.ordinal) m.1
            ((inv.applied.entries i).change.aim (ap is_started e) m.1 ∙ sym (applies.push_led (jobs.side inv) i m.1))
            (f s.applied.values) (f s.net.values) (push i ∷ ops_of Complete 2 es) (lands f (holding n l) on))

        go : (first second : Bool) → Does s Keeps false i first second (job2.plans apply.Push (this i) s.applied.head (num i))
        go true second = still _ i (half_pushes sw i (f s.net.values) (omega arith) (pushing e m.1 (lands f (holding n l) on)))
        go false true = whole_push
        go false false = finishes2 whole_push e refl

    -- ---- job 4
    abbrev NextRollback : Type 0
    NextRollback = ((this i).rollback.commit ≡ Complete) × ((this i).rollback.ordinal.0 ≡ suc now)

    aim4 : (cut second : Bool) → NextRollback → (this i).rollback.apply ≡ Pending → Does s Keeps false i cut second (job4.plans return.Aim (this i) s.applied.head (num i))
    unfolding ops_of
    aim4 cut second m e = go cut
      where
        ev : Event
        ev = event 2 2 (num i) InProgress

        leaving : Switch (On s.change s.committed (record { head = aimed s.applied.head (this i).index; values = s.applied.values }) s.net) (Told (ev ∷ es)) (ops_of Complete 1 es) (ops_of Complete 2 es) h
        leaving = aims (heard ev) (this i).index (λ k x. applies.push_pop k i (sym x ∙ applies.next_pop (jobs.side inv) i m.1))

        go : (cut : Bool) → Does s Keeps false i cut second (job4.plans return.Aim (this i) s.applied.head (num i))
        go true = leaving
        go false = begins4 leaving e

    cancel4 : (cut second : Bool) → NextRollback → (this i).rollback.apply ≡ Pending → (this i).change.apply ≡ Aborted → settled s ≡ true
        → Does s Keeps false i cut second (job4.plans return.Cancel (this i) s.applied.head (num i))
    unfolding ops_of
    cancel4 true second m e a x = cancels4 (heard (event 2 2 (num i) Canceled)) e
    cancel4 false second m e a x =
        let w = stored (with_rollback (this i) (apply_at (this i).rollback Canceled)) in
        closes_rollback (jobs.cancel_return inv i m e a x) (cancels4 (heard (event 2 2 (num i) Canceled)) e) i (this i).index (this i).rollback.ordinal (rw w refl) m.1 (rw w m.1) (rw w refl)

    push4 : (n : ℕ) (first second : Bool) → NextRollback → (this i).rollback.apply ≡ InProgress → line_open_for s.net n ≡ true
        → Does s Keeps false i first second (job4.plans return.Push (this i) s.applied.head (num i))
    unfolding ops_of
    push4 n first second m e l = go first second
      where
        f : List ℕ → List ℕ
        f = over (this i).paths (this i).kept (this i).count

        on : (j : ℕ) → Partly now (ops_of Complete 2 es) s.applied.values s.net.values j (this j) → (j ≡ i) × (f s.net.values ≡ f s.applied.values)
        on j = returns_on s es r marks i e m.1 j

        ev : Event
        ev = event 2 2 (num i) Complete

        whole_push : Switch (On s.change s.committed (record { head = landed s.applied.head (num i) (this i).index (this i).rollback.ordinal; values = f s.applied.values }) (with_target_values s.net (f s.net.values)))
            (Told (ev ∷ es)) (ops_of Complete 1 es) (pop i ∷ ops_of Complete 2 es) (cond (eqb h i) 0 h)
        whole_push =
            subst (Switch _ (Told (ev ∷ es)) (ops_of Complete 1 es) (pop i ∷ ops_of Complete 2 es)) (sym (mends f (holding n l) on))
            (pushes (heard ev) (landed s.applied.head (num i) (this i).index (this i).rollback.ordinal) m.1
            ((inv.applied.entries i).rollback.aim e m.1 ∙ applies.pop_led (jobs.side inv) i m.1)
            (f s.applied.values) (f s.net.values) (pop i ∷ ops_of Complete 2 es) (lands f (holding n l) on))

        go : (first second : Bool) → Does s Keeps false i first second (job4.plans return.Push (this i) s.applied.head (num i))
        go true second = still _ i (half_pushes sw i (f s.net.values) (omega arith) (returning e m.1 (lands f (holding n l) on)))
        go false true = whole_push
        go false false = finishes4 whole_push refl

  calls : {R : List Pair → Type 0} → Calls s Keeps R
  unfolding ops_of
  calls =
      record {
        refused = λ a n. still s h sw;
        append = λ ps e b. adds (retold sw (Told (numbered (last s.log + 1) ∷ es)) (tell (numbered (last s.log + 1)) es)) (appended ps) refl;
        rollback = λ i p q e. still _ h (asks i e);
        start = λ e. wiring _ (start_wired s.net _ sw.wired e);
        stop = wiring _ (stop_wired s.net _ sw.wired);
        connect = λ n p e. wiring _ (connect_wired s.net _ sw.wired n p e);
        disconnect = λ n. wiring _ (disconnect_wired s.net _ sw.wired n);
        elect = λ n b t e. wiring _ (elect_wired s.net _ sw.wired n t e);
        resign = wiring _ (resign_wired s.net _ sw.wired);
        syncing = wiring _ (syncing_wired s.net _ sw.wired);
        synced = retold (record {
          began = sw.began;
          left = sw.left;
          wired = synced_wired s.net _ sw.wired s.applied.values _ (record { whole = λ x. refl; partly = λ k x y. absurd (omega arith) });
        }) _ (tell _ es);
        job1 = λ i p q cut second. record {
          wait = still s h sw;
          full = λ a b d. still s h sw;
          begin = λ e n g. still _ h (begins1 i p q sw e _ _);
          aim = λ e n x. aim1 i p q cut second e;
          land = λ e n b o x. land1 i p q cut second e o;
          reject = λ e n. reject1 i p q cut second e;
          finish = λ e n. still _ h (finishes1 i p q sw e _);
          close = λ e n. still _ h (commits sw _ _);
        };
        job2 = λ n i p q cut second. record {
          wait = still s h sw;
          no_line = still s h sw;
          begin = λ m e g. still _ h (begins2 i p q sw e (has_left i p q m g));
          aim = λ m e x v. aim2 i p q cut second m e;
          abort = λ m e x g. abort2 i p q cut second m e x;
          close_aborted = λ m e. still _ h (closes_change inv sw i (entry_of s.log i).change.ordinal m.1 m.1 (ap is_going e));
          close_failed = λ m e. still _ h (closes_change inv sw i (entry_of s.log i).change.ordinal m.1 m.1 (ap is_going e));
          finish = λ m e o. still _ h (finishes2 i p q sw e o);
          fail = fail2 i p q cut second;
          push = push2 i p q n cut second;
        };
        job3 = λ i p q cut second. record {
          wait = still s h sw;
          full = λ a b d. still s h sw;
          begin = λ e n g. still _ h (begins3 i p q sw e);
          aim = λ e n x. aim3 i p q cut second e;
          land = λ e n b o x. land3 i p q cut second e o;
          finish = λ e d n. still _ h (finishes3 i p q sw e _);
        };
        job4 = λ n i p q cut second. record {
          wait = still s h sw;
          no_line = still s h sw;
          rejected = still s h sw;
          begin = λ m e t g. still _ h (begins4 i p q sw e);
          aim = λ m e t x. aim4 i p q cut second m e;
          cancel = cancel4 i p q cut second;
          close = λ m e. still _ h (closes_rollback inv sw i (entry_of s.log i).index (entry_of s.log i).rollback.ordinal refl m.1 m.1 (ap is_going e));
          finish = λ m e o. still _ h (finishes4 i p q sw o);
          push = push4 i p q n cut second;
        };
      }
    where
      asks : (i : ℕ) → may_roll_back (entry_of s.log i) ≡ true → Switch (putting s i (rolled_back (entry_of s.log i))) (Told es) (ops_of Complete 1 es) (ops_of Complete 2 es) h
      asks i e =
          let u : (this i).rollback.commit ≡ None = (inv.sides i).unasked (eqb-true (this i).phase 1 (and_left (eqb (this i).phase 1) _ e)) in
          puts sw i _ (sw.began i) (λ us. asked_partly (this i) (ap is_going (waits_back i None u).0))

-- after any calls from fresh, of either kind
pub switched : (m : Bool) (cs : List Call) → Switch (whole m cs) (Told (run m cs).events) (ops_of Complete 1 (run m cs).events) (ops_of Complete 2 (run m cs).events) (half_pushed (notes m cs))
unfolding run whole notes half_pushed ops_of stack first
switched m [] =
    record {
      began = none_all (λ k u. has_begun u.change.apply ≡ true → Told [] k) (λ k x. crash x);
      left = λ x. absurd (x refl);
      wired = fresh_wired m _;
    }
switched m (c ∷ cs) =
    let h = half_pushed (notes m cs) in
    by_history m cs (Keeps (whole m cs) (run m cs).events h (reached m cs) (marked m cs) (switched m cs)) (λ a. still (whole m cs) (run m cs).events h (reached m cs) (marked m cs) (switched m cs) (whole m cs) h (switched m cs)) c
    (calls (whole m cs) (run m cs).events h (reached m cs) (marked m cs) (switched m cs))

-- ---- no push is cut at its first store and not made good
-- where one is, it is the last so cut
half_last : {A : Type 0} (ns : List Note) → (half_pushed ns ≡ 0 → A) → (half_pushed ns ≡ last_cut ns → A) → A
unfolding half_pushed last_cut
half_last [] f g = f refl
half_last (nothing ∷ ns) f g = half_last ns f g
half_last (wrote ∷ ns) f g = f refl
half_last (half k ∷ ns) f g = g refl
half_last {A} (full k ∷ ns) f g = go (eqb (half_pushed ns) k) f g (half_last ns)
  where
    go : (b : Bool) → (cond b 0 (half_pushed ns) ≡ 0 → A) → (cond b 0 (half_pushed ns) ≡ last_cut ns → A)
        → ((half_pushed ns ≡ 0 → A) → (half_pushed ns ≡ last_cut ns → A) → A)
        → A
    go true f g r = f refl
    go false f g r = r f g

not_cut : (ns : List Note) → cut_since ns ≡ false → half_pushed ns ≡ 0
unfolding half_pushed cut_since
not_cut [] e = refl
not_cut (nothing ∷ ns) e = not_cut ns e
not_cut (wrote ∷ ns) e = refl
not_cut (half k ∷ ns) e = clash e
not_cut (full k ∷ ns) e = go (eqb (half_pushed ns) k) (not_cut ns e)
  where
    go : (b : Bool) → half_pushed ns ≡ 0 → cond b 0 (half_pushed ns) ≡ 0
    go true x = refl
    go false x = x

made_good_holds : (ns : List Note) → pushed_since ns ≡ true → half_pushed ns ≡ 0
unfolding half_pushed pushed_since
made_good_holds [] e = crash e
made_good_holds (nothing ∷ ns) e = made_good_holds ns e
made_good_holds (wrote ∷ ns) e = refl
made_good_holds (half k ∷ ns) e = crash e
made_good_holds (full k ∷ ns) e =
    or_cases (eqb (last_cut ns) k) (pushed_since ns) e
    (λ x. half_last ns (none (eqb (half_pushed ns) k)) (λ y. ap (λ b. cond b 0 (half_pushed ns)) (eq-eqb (half_pushed ns) k (y ∙ eqb-true (last_cut ns) k x))))
    (λ x. none (eqb (half_pushed ns) k) (made_good_holds ns x))
  where
    none : (b : Bool) → half_pushed ns ≡ 0 → cond b 0 (half_pushed ns) ≡ 0
    none true x = refl
    none false x = x

none_half : (ns : List Note) → made_good ns ≡ true → half_pushed ns ≡ 0
none_half ns e = or_cases (not (cut_since ns)) (pushed_since ns) e (λ x. not_cut ns (is_false (cut_since ns) (λ y. clash (sym x ∙ ap not y)))) (made_good_holds ns)

-- ---- demand 3
tried_begun : (c : Status) → was_tried c ≡ true → has_begun c ≡ true
tried_begun None e = e
tried_begun Pending e = e
tried_begun InProgress e = refl
tried_begun Complete e = refl
tried_begun Aborted e = e
tried_begun Canceled e = e
tried_begun Failed e = refl

-- what is not made good is kept
module _ {w : State} {ops acts : List Op} {bad : List ℕ} (inv : Invariant w ops acts bad) (b : ℕ) (vs : List ℕ) (f : Front w.log b vs) (k : ℕ) (p : 1 ≤ k) where
  partly_kept : {ws us : List ℕ} → Partly w.applied.head.ordinal.0 acts ws us k (entry_of w.log k) → b < k
  partly_kept x = by_bool (leb k b) (λ e. over (f.finished k p (leb-true k b e)) x) (λ e. leb-false k b e)
    where
      t : Transaction
      t = entry_of w.log k

      not_failed : {A : Type 0} → t.change.apply ≡ Failed → (c : Status) → is_failed c ≡ false → t.change.apply ≡ c → A
      not_failed e c g h = clash (sym (ap is_failed e) ∙ ap is_failed h ∙ g)

      not_going : {A : Type 0} (u : Status) → u ≡ InProgress → (c : Status) → is_going c ≡ false → u ≡ c → A
      not_going u e c g h = clash (sym (ap is_going e) ∙ ap is_going h ∙ g)

      over : {A : Type 0} {ws us : List ℕ} → finished t ≡ true → Partly w.applied.head.ordinal.0 acts ws us k t → A
      over e (pushing x y z) =
          ways inv k e (λ g h u. not_going t.change.apply x Canceled refl h) (λ g h i u. not_going t.change.apply x Complete refl h)
          (λ g h i u. crash (sym (ap was_tried x) ∙ u)) (λ g h i u. not_going t.change.apply x Aborted refl u)
      over e (failed x y z) =
          ways inv k e (λ g h u. not_failed x Canceled refl h) (λ g h i u. not_failed x Complete refl h)
          (λ g h i u. clash (sym ((inv.applied.entries k).rollback.returned ∙ ap (λ c. complete c w.applied.head.ordinal.0 t.rollback.ordinal.0) i) ∙ y))
          (λ g h i u. not_failed x Aborted refl u)
      over e (returning x y z) =
          ways inv k e (λ g h u. not_going t.rollback.apply x None refl u.apply) (λ g h i u. not_going t.rollback.apply x None refl u.apply)
          (λ g h i u. not_going t.rollback.apply x Complete refl i) (λ g h i u. not_going t.rollback.apply x Canceled refl i)

module _ (s : State) (es : List Event) (h : ℕ) (r : Reached s es) (marks : Marked s.log s.applied.head es) (sw : Switch s (Told es) (ops_of Complete 1 es) (ops_of Complete 2 es) h)
    (b : ℕ) (vs : List ℕ) (f : Front s.log b vs) where
  holds : (ns : List Note) (k : ℕ) → 1 ≤ k → k ≡ last_cut ns
      → Partly s.applied.head.ordinal.0 (ops_of Complete 2 es) s.applied.values s.net.values k (entry_of s.log k)
      → Holds (shown s b vs) es ns
  holds ns k p c q = by q
    where
      kept : b < k
      kept = partly_kept r.inv b vs f k p q

      same : entry_of (shown s b vs).log k ≡ entry_of s.log k
      same = entry_seen s b vs f k kept

      by : Partly s.applied.head.ordinal.0 (ops_of Complete 2 es) s.applied.values s.net.values k (entry_of s.log k) → Holds (shown s b vs) es ns
      by (pushing x y z) =
          pushed k kept c (record { begun = sw.began k (ap has_begun x); unreturned = told_rollback Complete es 2 k ∙ unreturned s es r marks k y })
          (z ∙ sym (ap (λ t. over t.paths t.values t.count s.applied.values) same))
      by (failed x y z) =
          pushed k kept c (record { begun = sw.began k (ap has_begun x); unreturned = told_rollback Complete es 2 k ∙ y })
          (z ∙ sym (ap (λ t. over t.paths t.values t.count s.applied.values) same))
      by (returning x y z) =
          let e = r.inv.applied.entries k in
          returned k kept c
          (record {
            begun = sw.began k (tried_begun (entry_of s.log k).change.apply (e.tried (ap was_pushed x)));
            unreturned = told_rollback Complete es 2 k ∙ e.rollback.returned
                ∙ ap (λ c. complete c s.applied.head.ordinal.0 (entry_of s.log k).rollback.ordinal.0) x
                ∙ ne_eqb s.applied.head.ordinal.0 (entry_of s.log k).rollback.ordinal.0 (λ z. absurd (omega arith));
          })
          (z ∙ sym (ap (λ t. over t.paths t.kept t.count s.applied.values) same))

  demand : (ns : List Note) → h ≡ half_pushed ns → Demand3 (shown s b vs) es ns
  demand ns n =
      record {
        committed = committed_values_holds s es r b vs f;
        applied = applied_values_holds s es r b vs f;
        line = λ j l. let k = open_holds s.net _ sw.wired j l in
            by_eq h 0 (λ x. applied (k.whole x)) (λ x. let z : 1 ≤ h = omega arith in holds ns h z (half_last ns (λ y. absurd (x (n ∙ y))) (λ y. n ∙ y)) (k.partly h refl z));
        whole = λ j l e. (open_holds s.net _ sw.wired j l).whole (n ∙ none_half ns e);
        live = live_list s es r b vs f;
        hops = live_hops s es r b vs f;
      }

-- demand 3, after any calls from fresh
pub demand_3 : (m : Bool) (cs : List Call) → Demand3 (run m cs).state (run m cs).events (notes m cs)
demand_3 m cs =
    let x = folded m cs in
    subst (λ s. Demand3 s (run m cs).events (notes m cs)) (sym x.shows)
    (demand (whole m cs) (run m cs).events (half_pushed (notes m cs)) x.reached (marked m cs) (switched m cs) x.fold x.base x.front (notes m cs) refl)

-- and of the whole: over all numbers ever given, with no base
pub demand_3_whole : (m : Bool) (cs : List Call) → Demand3 (whole m cs) (run m cs).events (notes m cs)
demand_3_whole m cs =
    let x = folded m cs in
    let f = front_zero x.front in
    subst (λ l. Demand3 (with_log (whole m cs) l) (run m cs).events (notes m cs)) (sym (log_shown (whole m cs).log f.whole f.absent))
    (demand (whole m cs) (run m cs).events (half_pushed (notes m cs)) x.reached (marked m cs) (switched m cs) 0 absent f (notes m cs) refl)

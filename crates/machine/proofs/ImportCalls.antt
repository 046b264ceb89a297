-- Order 6, one entry: its append or rollback request and its two commit jobs are accepted, and what they come to. Assumes
-- nothing.
use Prim.Native.Nat.{ℕ, zero, suc, ◌+◌, ◌-◌, ◌≤◌, ◌<◌}
use native.Mathlib.Omega.{arith}
use mathlib.Core.List.{List, [], ◌∷◌, ◌++◌}
use mathlib.Core.Bool.{Bool, true, false, ◌&&◌, ◌||◌, cond}
use mathlib.Core.Path.{◌≡◌, refl, ap, ◌∙◌, subst}
use lib.Dec.{eqb, ltb, leb}
use lib.ListN.{length, set}
use lib.Seq.{set-append_seam}
use borrow.Author.Tests.{eq-eqb, ne_eqb, le-leb, lt-ltb, ltb-true}
use Rattle.kinds.specs.declared.Transaction.{Transaction}
use Rattle.kinds.specs.declared.Head.{Head}
use Rattle.kinds.specs.declared.Status.{Status}
use Rattle.kinds.specs.declared.Status.TheVariants.{InProgress, Complete}
use Rattle.kinds.specs.Numbers.{num, is_full, next_ordinal}
use Rattle.kinds.specs.Statuses.{done}
use Rattle.kinds.specs.Events.{event, numbered, refusal}
use Rattle.kinds.specs.Records.{with_rollback}
use Rattle.rules.specs.Sides.{begun}
use Rattle.rules.specs.declared.Lay.TheVariants.{Values, Kept}
use Rattle.rules.specs.declared.Present.{Present}
use Rattle.rules.specs.Heads.{aimed}
use Rattle.rules.specs.Outside as outside
use Rattle.rules.specs.declared.CommitChangeRule.TheVariants as change
use Rattle.rules.specs.declared.CommitRollbackRule.TheVariants as back
use Rattle.rules.specs.CommitChange as job1
use Rattle.rules.specs.CommitRollback as job3
use Rattle.machine.specs.State.{Log, State, entry_of, put_place, put_entry, grown, last}
use Rattle.machine.specs.Stores.{with_log, with_ledger_head, after, afters}
use Rattle.machine.specs.Rows.{event_of}
use Rattle.machine.specs.Entered.{changed_entry, changed_head, changed, change_stores, newest_in, undone_entry, undone_head, undone, undo_stores}
use Rattle.machine.specs.WellFormed.{well_formed}
use Rattle.machine.specs.Rest.{mark_of, rest_of}
use Rattle.machine.specs.Calls.{Pair, Call, append, rollback, work, valid_change, appended, present_of, plan_of, decide}
use Rattle.machine.specs.Step.{outcome, step, run}
use Rattle.machine.specs.Imports.{Accepted}
use Rattle.machine.proofs.Next.{laid_owned, putting, performed}
use Rattle.machine.proofs.Entries.{and_both, entry_put, entry_add, last_put, last_add}
use Rattle.machine.proofs.Kept.{reached_well_formed}
use Rattle.machine.proofs.Worked.{work_step}

-- ---- a row of stores that leaves what an entry's calls come to
pub change_stores_holds : (s : State) (ps : List Pair) → afters s (change_stores s ps) ≡ changed s ps
unfolding afters after
change_stores_holds s ps =
    laid_owned
    (record {
      log = grown s.log (changed_entry s ps);
      change = num (suc (last s.log));
      committed = record { head = changed_head s; values = s.committed.values; owners = s.committed.owners };
      applied = s.applied;
      net = s.net;
    })
    Values (appended ps) (suc (last s.log))

pub undo_stores_holds : (s : State) → afters s (undo_stores s) ≡ undone s
unfolding afters after
undo_stores_holds s =
    laid_owned
    (record {
      log = put_entry s.log s.committed.head.revision.0 (undone_entry s);
      change = s.change;
      committed = record { head = undone_head s; values = s.committed.values; owners = s.committed.owners };
      applied = s.applied;
      net = s.net;
    })
    Kept (newest_in s) s.committed.head.revision.0

-- ---- an entry stored twice, and stored at the end
set_twice : (ts : List Transaction) (j : ℕ) (t u : Transaction) → set (set ts j t) j u ≡ set ts j u
set_twice [] j t u = refl
set_twice (x ∷ ts) zero t u = refl
set_twice (x ∷ ts) (suc j) t u = ap (λ ys. x ∷ ys) (set_twice ts j t u)

put_twice : (l : Log) (k : ℕ) (t u : Transaction) → put_entry (put_entry l k t) k u ≡ put_entry l k u
put_twice l k t u = ap (λ ts. record { folded = l.folded; base = l.base; entries = ts }) (go (k - l.folded.0))
  where
    go : (j : ℕ) → put_place (put_place l.entries j t) j u ≡ put_place l.entries j u
    go zero = refl
    go (suc j) = set_twice l.entries j t u

put_grown : (l : Log) (t u : Transaction) → put_entry (grown l t) (suc (last l)) u ≡ grown l u
put_grown l t u =
    let z : suc (last l) - l.folded.0 ≡ suc (length l.entries) = omega arith in
    ap (λ j. record { folded = l.folded; base = l.base; entries = put_place (l.entries ++ (t ∷ [])) j u }) z
    ∙ ap (λ ts. record { folded = l.folded; base = l.base; entries = ts }) (set-append_seam l.entries t [] u)

-- ---- at rest, by what the head and the entry at its index say
pub data Rested (l : Log) (h : Head) : Type 0 where
  none : h.index.0 ≡ 0 → h.target.0 ≡ 0 → Rested l h
  forth : 1 ≤ h.index.0 → h.target.0 ≡ h.index.0 → (entry_of l h.index.0).change.commit ≡ Complete → Rested l h
  returned : h.target.0 ≡ h.revision.0 → h.revision.0 < h.index.0 → (entry_of l h.index.0).rollback.commit ≡ Complete → Rested l h

or_right : (a b : Bool) → b ≡ true → (a || b) ≡ true
or_right true b e = refl
or_right false b e = e

done_mark : (l : Log) (k : ℕ) (x : Status) → x ≡ Complete → done (mark_of l k x) ≡ true
done_mark l k x e = go (leb k l.folded.0)
  where
    go : (b : Bool) → done (cond b Complete x) ≡ true
    go true = refl
    go false = ap done e

pub rested_rest : (s : State) → Rested s.log s.committed.head → rest_of s ≡ true
rested_rest s (none e f) = rw (eq-eqb _ 0 e, eq-eqb _ 0 f) refl
rested_rest s (forth p e f) =
    let h = s.committed.head in
    or_right (eqb h.index.0 0 && eqb h.target.0 0) _
    (rw (le-leb 1 h.index.0 p, eq-eqb h.target.0 h.index.0 e, done_mark s.log h.index.0 (entry_of s.log h.index.0).change.commit f) refl)
rested_rest s (returned e p f) =
    let h = s.committed.head in
    let x = entry_of s.log h.index.0 in
    or_right (eqb h.index.0 0 && eqb h.target.0 0) _
    (or_right (leb 1 h.index.0 && (eqb h.target.0 h.index.0 && done (mark_of s.log h.index.0 x.change.commit))) _
    (rw (le-leb 1 h.index.0 (omega arith), eq-eqb h.target.0 h.revision.0 e, lt-ltb h.revision.0 h.index.0 p, done_mark s.log h.index.0 x.rollback.commit f) refl))

-- ---- one entry's three calls
module _ (s : State) (w : well_formed s ≡ true) (fold : s.log.folded.0 ≡ 0) (master : s.net.mastership.master ≡ 1) (full : is_full s.committed.head.ordinal.0 ≡ false) where
  abbrev h : Head
  h = s.committed.head

  module _ (ps : List Pair) (valid : valid_change ps ≡ true) (room : ltb (length s.log.entries) 128 ≡ true) (next : s.change.0 ≡ last s.log) (low : h.target.0 ≤ last s.log)
      (rest : rest_of (with_log s (grown s.log (appended ps))) ≡ true) where
    abbrev i : ℕ
    i = suc (last s.log)

    abbrev vs : Present
    vs = present_of s (appended ps)

    -- appended; begun; committed
    abbrev a1 : State
    a1 = with_log s (grown s.log (appended ps))

    abbrev t1 : Transaction
    t1 = job1.beginning (appended ps) h.revision vs

    abbrev a2 : State
    a2 =
        record {
          log = grown s.log t1;
          change = s.change;
          committed = with_ledger_head s.committed (aimed h (num i));
          applied = s.applied;
          net = s.net;
        }

    appends : step s (append ps) ≡ record { reply = record { answer = 0; event = numbered (last s.log + 1) }; next = a1 }
    unfolding step outcome decide afters after
    appends = simp (w, valid, room, lt-ltb (last s.log) 65535 (omega (arith, ltb-true (length s.log.entries) 128 room)))

    ready : eqb (s.change.0 + 1) i ≡ true
    ready = eq-eqb (s.change.0 + 1) i (omega arith)

    aims : plan_of a1 1 1 i true ≡ job1.plans change.Aim (appended ps) h (num i) (next_ordinal h.ordinal) vs
    unfolding plan_of
    aims = simp (entry_add s.log (appended ps), ready, ne_eqb h.target.0 i (λ z. omega arith), rest)

    begins : well_formed a1 ≡ true → step a1 (work 1 1 i 0 0) ≡ record { reply = record { answer = 0; event = event 1 1 (num i) InProgress }; next = a2 }
    begins o =
        work_step a1 1 1 i 0 0 o refl (and_both _ _ (le-leb 1 i (omega arith)) (le-leb i (last a1.log) (omega (arith, last_add s.log (appended ps))))) (lt-ltb s.log.folded.0 i (omega arith)) (eq-eqb _ 1 master)
        ∙ ap (λ p. record { reply = record { answer = p.answer; event = event_of p false }; next = performed true a1 p i false false }) aims
        ∙ ap (λ l. record { reply = record { answer = 0; event = event 1 1 (num i) InProgress }; next = with_log a2 l }) (put_grown s.log (appended ps) t1)

    lands : plan_of a2 1 1 i true ≡ job1.plans change.Land t1 (aimed h (num i)) (num i) (next_ordinal h.ordinal) (present_of s t1)
    unfolding plan_of
    lands = simp (entry_add s.log t1, ready, full)

    commits_change_holds : well_formed a2 ≡ true → step a2 (work 1 1 i 0 0) ≡ record { reply = record { answer = 0; event = event 1 1 (num i) Complete }; next = changed s ps }
    commits_change_holds o =
        work_step a2 1 1 i 0 0 o refl (and_both _ _ (le-leb 1 i (omega arith)) (le-leb i (last a2.log) (omega (arith, last_add s.log t1)))) (lt-ltb s.log.folded.0 i (omega arith)) (eq-eqb _ 1 master)
        ∙ ap (λ p. record { reply = record { answer = p.answer; event = event_of p false }; next = performed true a2 p i false false }) lands
        ∙ ap (λ l. record { reply = record { answer = 0; event = event 1 1 (num i) Complete }; next = with_log (changed s ps) l }) (put_grown s.log t1 _)

    pub change_done : (cs : List Call) → (run false cs).state ≡ s → Accepted cs
        → ((run false (work 1 1 i 0 0 ∷ work 1 1 i 0 0 ∷ append ps ∷ cs)).state ≡ changed s ps) × Accepted (work 1 1 i 0 0 ∷ work 1 1 i 0 0 ∷ append ps ∷ cs)
    unfolding run Accepted
    change_done cs e k =
        let x : step (run false cs).state (append ps) ≡ record { reply = record { answer = 0; event = numbered (last s.log + 1) }; next = a1 } = ap (λ u. step u (append ps)) e ∙ appends in
        let e1 : (run false (append ps ∷ cs)).state ≡ a1 = ap (λ o. o.next) x in
        let y = ap (λ u. step u (work 1 1 i 0 0)) e1 ∙ begins (subst (λ u. well_formed u ≡ true) e1 (reached_well_formed false (append ps ∷ cs))) in
        let e2 : (run false (work 1 1 i 0 0 ∷ append ps ∷ cs)).state ≡ a2 = ap (λ o. o.next) y in
        let z = ap (λ u. step u (work 1 1 i 0 0)) e2 ∙ commits_change_holds (subst (λ u. well_formed u ≡ true) e2 (reached_well_formed false (work 1 1 i 0 0 ∷ append ps ∷ cs))) in
        (ap (λ o. o.next) z, (ap (λ o. o.reply.answer) z, (ap (λ o. o.reply.answer) y, (ap (λ o. o.reply.answer) x, k))))

  -- the newest live change undone
  module _ (live : 1 ≤ h.revision.0) (in_log_holds : h.revision.0 ≤ last s.log) (may : outside.may_roll_back (entry_of s.log h.revision.0) ≡ true)
      (off : h.target.0 ≡ (entry_of s.log h.revision.0).index.0 → ⊥) (rest : rest_of (putting s h.revision.0 (outside.rolled_back (entry_of s.log h.revision.0))) ≡ true) where
    abbrev k : ℕ
    k = h.revision.0

    abbrev t : Transaction
    t = entry_of s.log k

    -- asked; begun; committed
    abbrev u1 : Transaction
    u1 = outside.rolled_back t

    abbrev b1 : State
    b1 = putting s k u1

    abbrev u2 : Transaction
    u2 = with_rollback u1 (begun u1.rollback)

    abbrev b2 : State
    b2 =
        record {
          log = put_entry s.log k u2;
          change = s.change;
          committed = with_ledger_head s.committed (aimed h t.index);
          applied = s.applied;
          net = s.net;
        }

    above : ltb s.log.folded.0 k ≡ true
    above = lt-ltb s.log.folded.0 k (omega arith)

    inside : (leb 1 k && leb k (last s.log)) ≡ true
    inside = simp (le-leb 1 k live, le-leb k (last s.log) in_log_holds)

    rolls : step s (rollback k) ≡ record { reply = refusal 0; next = b1 }
    unfolding step outcome decide afters after
    rolls = simp (w, inside, above, may)

    stored : (u : Transaction) → entry_of (put_entry s.log k u) k ≡ u
    stored u = entry_put s.log k u (omega arith) in_log_holds

    aims_back : plan_of b1 1 3 k true ≡ job3.plans back.Aim u1 h (num k) (next_ordinal h.ordinal)
    unfolding plan_of
    aims_back = rw (stored u1) (simp (eq-eqb k k refl, ne_eqb h.target.0 t.index.0 off, rest))

    inside_put : (u : Transaction) → (leb 1 k && leb k (last (put_entry s.log k u))) ≡ true
    inside_put u = ap (λ n. leb 1 k && leb k n) (last_put s.log k u) ∙ inside

    begins_back : well_formed b1 ≡ true → step b1 (work 1 3 k 0 0) ≡ record { reply = record { answer = 0; event = event 2 1 (num k) InProgress }; next = b2 }
    begins_back o =
        work_step b1 1 3 k 0 0 o refl (inside_put u1) above (eq-eqb _ 1 master)
        ∙ ap (λ p. record { reply = record { answer = p.answer; event = event_of p false }; next = performed true b1 p k false false }) aims_back
        ∙ ap (λ l. record { reply = record { answer = 0; event = event 2 1 (num k) InProgress }; next = with_log b2 l }) (put_twice s.log k u1 u2)

    lands_back : plan_of b2 1 3 k true ≡ job3.plans back.Land u2 (aimed h t.index) (num k) (next_ordinal h.ordinal)
    unfolding plan_of
    lands_back = rw (stored u2) (simp (eq-eqb k k refl, full))

    commits_back : well_formed b2 ≡ true → step b2 (work 1 3 k 0 0) ≡ record { reply = record { answer = 0; event = event 2 1 (num k) Complete }; next = undone s }
    commits_back o =
        work_step b2 1 3 k 0 0 o refl (inside_put u2) above (eq-eqb _ 1 master)
        ∙ ap (λ p. record { reply = record { answer = p.answer; event = event_of p false }; next = performed true b2 p k false false }) lands_back
        ∙ ap (λ l. record { reply = record { answer = 0; event = event 2 1 (num k) Complete }; next = with_log (undone s) l }) (put_twice s.log k u2 _)

    pub rollback_done : (cs : List Call) → (run false cs).state ≡ s → Accepted cs
        → ((run false (work 1 3 k 0 0 ∷ work 1 3 k 0 0 ∷ rollback k ∷ cs)).state ≡ undone s) × Accepted (work 1 3 k 0 0 ∷ work 1 3 k 0 0 ∷ rollback k ∷ cs)
    unfolding run Accepted
    rollback_done cs e a =
        let x = ap (λ u. step u (rollback k)) e ∙ rolls in
        let e1 : (run false (rollback k ∷ cs)).state ≡ b1 = ap (λ o. o.next) x in
        let y = ap (λ u. step u (work 1 3 k 0 0)) e1 ∙ begins_back (subst (λ u. well_formed u ≡ true) e1 (reached_well_formed false (rollback k ∷ cs))) in
        let e2 : (run false (work 1 3 k 0 0 ∷ rollback k ∷ cs)).state ≡ b2 = ap (λ o. o.next) y in
        let z = ap (λ u. step u (work 1 3 k 0 0)) e2 ∙ commits_back (subst (λ u. well_formed u ≡ true) e2 (reached_well_formed false (work 1 3 k 0 0 ∷ rollback k ∷ cs))) in
        (ap (λ o. o.next) z, (ap (λ o. o.reply.answer) z, (ap (λ o. o.reply.answer) y, (ap (λ o. o.reply.answer) x, a))))

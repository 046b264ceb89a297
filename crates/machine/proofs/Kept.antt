-- What every call keeps, in any state, reached or not: a well-formed state stays well-formed, and a refused call leaves
-- the state as it is and gives no event. Assumes nothing.
use Prim.Native.Nat.{ℕ, zero, suc, ◌+◌, ◌-◌, ◌≤◌, ◌<◌}
use native.Mathlib.Omega.{arith}
use mathlib.Core.List.{List, [], ◌∷◌, map}
use mathlib.Core.Bool.{Bool, true, false, ◌&&◌}
use mathlib.Core.Path.{◌≡◌, refl, ◌∙◌}
use lib.Dec.{eqb, ltb, leb}
use lib.ListN.{length, drop, length-set, length-map, length-drop}
use borrow.Author.Tests.{eqb-true, leb-true, leb-false, ltb-true, eq-eqb, le-leb, lt-ltb}
use Rattle.kinds.specs.declared.Transaction.{Transaction}
use Rattle.kinds.specs.declared.Head.{Head}
use Rattle.kinds.specs.declared.Number.{Number}
use Rattle.kinds.specs.declared.Ordinal.{Ordinal}
use Rattle.kinds.specs.declared.Side.{Side}
use Rattle.kinds.specs.declared.Reply.{Reply}
use Rattle.kinds.specs.declared.Connection.{Connection}
use Rattle.kinds.specs.Numbers.{num, ord}
use Rattle.kinds.specs.Records.{with_change, with_rollback}
use Rattle.kinds.specs.Events.{no_event, refusal}
use Rattle.rules.specs.declared.Plan.{Plan}
use Rattle.rules.specs.declared.Order.{Order}
use Rattle.rules.specs.declared.Order.TheVariants.{Neither, EntryOnly, HeadOnly, EntryThenHead, HeadThenEntry, TargetThenHeadThenEntry}
use Rattle.rules.specs.Heads.{aimed, landed, passed, closed}
use Rattle.rules.specs.declared.CommitChangeRule.TheVariants as change
use Rattle.rules.specs.declared.CommitRollbackRule.TheVariants as rollback
use Rattle.rules.specs.declared.ApplyChangeRule.TheVariants as apply
use Rattle.rules.specs.declared.ApplyRollbackRule.TheVariants as return
use Rattle.rules.specs.CommitChange as job1
use Rattle.rules.specs.CommitRollback as job3
use Rattle.rules.specs.ApplyChange as job2
use Rattle.rules.specs.ApplyRollback as job4
use Rattle.rules.specs.CommitChange.{beginning}
use Rattle.rules.specs.Outside as outside
use Rattle.machine.specs.State.{State, Net, Log, fresh, entry_of, put_entry, grown, last, put_node}
use Rattle.machine.specs.Stores.{with_log, with_net}
use Rattle.machine.specs.Laid.{owned_over}
use Rattle.machine.specs.WellFormed.{all_from, all_at_most, all_entries, pairs_ok, recalls_ok, entry_ok, head_ok, sizes_ok, heads_ok, log_ok, well_formed}
use Rattle.machine.specs.LiveList.{live}
use Rattle.machine.specs.Calls.{Pair, Call, valid_change, appended, path_of, values_ok, present_of}
use Rattle.machine.specs.Step.{step, run}
use Rattle.machine.proofs.Next.{putting, change_if, heading, targeting, performed_by, laying_if, base_over, folding}
use Rattle.machine.specs.Notes.{Note}
use Rattle.machine.proofs.Cases.{and_left, and_right}
use Rattle.machine.proofs.Entries.{put_all, add_all, last_fold, entry_fold, length_base, length_place, last_put, length_add, last_add, entry_add, entries_true, true_entries, and_both, length_laid, length_owned}
use Rattle.machine.proofs.AtMost.{Most, Recalls, most_true, true_most, recalls_true, true_recalls, most_recalls, most_set, most_back, most_present}
use Rattle.machine.proofs.ByCall.{Calls, HasRoom, by_call, remembered, syncing, synced}

-- ---- a refusal changes nothing, and 1 is for a state that is not well-formed
pub record Answered (s : State) (r : Reply) (next : State) : Type 0 where
  pub refused : (r.answer ≡ 0 → ⊥) → (next ≡ s) × (r.event ≡ no_event)
  pub one : r.answer ≡ 1 → well_formed s ≡ false

accepts : (s : State) (r : Reply) (next : State) → r.answer ≡ 0 → Answered s r next
accepts s r next e = record { refused = λ x. absurd (x e); one = λ x. absurd (omega arith) }

refuses : (s : State) (a : ℕ) → 2 ≤ a → Answered s (refusal a) s
refuses s a b = record { refused = λ x. (refl, refl); one = λ x. absurd (omega arith) }

answered : (s : State) (c : Call) → Answered s (step s c).reply (step s c).next
answered s c =
    by_call s (λ x r next. Answered s r next) (λ e. record { refused = λ x. (refl, refl); one = λ x. e })
    (λ w. record {
      refused = refuses s;
      append = λ ps e f. accepts s _ _ refl;
      rollback = λ i p q e. accepts s _ _ refl;
      start = λ e. accepts s _ _ refl;
      stop = accepts s _ _ refl;
      connect = λ n p e. accepts s _ _ refl;
      disconnect = λ n. accepts s _ _ refl;
      elect = λ n p t e. accepts s _ _ refl;
      resign = accepts s _ _ refl;
      syncing = accepts s _ _ refl;
      synced = accepts s _ _ refl;
      job1 = λ i p q cut second. record {
        wait = refuses s 11 (omega arith);
        full = λ a b d. refuses s 9 (omega arith);
        begin = λ a b d. accepts s _ _ refl;
        aim = λ a b d. accepts s _ _ refl;
        land = λ a b d o e. accepts s _ _ refl;
        reject = λ a b. accepts s _ _ refl;
        finish = λ a b. accepts s _ _ refl;
        close = λ a b. accepts s _ _ refl;
      };
      job2 = λ n i p q cut second. record {
        wait = refuses s 11 (omega arith);
        no_line = refuses s 12 (omega arith);
        begin = λ a b d. accepts s _ _ refl;
        aim = λ a b d e. accepts s _ _ refl;
        abort = λ a b d e. accepts s _ _ refl;
        close_aborted = λ a b. accepts s _ _ refl;
        close_failed = λ a b. accepts s _ _ refl;
        finish = λ a b d. accepts s _ _ refl;
        fail = λ a b. accepts s _ _ refl;
        push = λ a b d. accepts s _ _ refl;
      };
      job3 = λ i p q cut second. record {
        wait = refuses s 11 (omega arith);
        full = λ a b d. refuses s 9 (omega arith);
        begin = λ a b d. accepts s _ _ refl;
        aim = λ a b d. accepts s _ _ refl;
        land = λ a b d o e. accepts s _ _ refl;
        finish = λ a b d. accepts s _ _ refl;
      };
      job4 = λ n i p q cut second. record {
        wait = refuses s 11 (omega arith);
        no_line = refuses s 12 (omega arith);
        rejected = refuses s 13 (omega arith);
        begin = λ a b d e. accepts s _ _ refl;
        aim = λ a b d e. accepts s _ _ refl;
        cancel = λ a b d e. accepts s _ _ refl;
        close = λ a b. accepts s _ _ refl;
        finish = λ a b d. accepts s _ _ refl;
        push = λ a b d. accepts s _ _ refl;
      };
    })
    (λ w b p q e. accepts s _ _ refl)
    c

pub refused_changes_nothing : (s : State) (c : Call) → ((step s c).reply.answer ≡ 0 → ⊥) → ((step s c).next ≡ s) × ((step s c).reply.event ≡ no_event)
refused_changes_nothing s c = (answered s c).refused

pub refusal_one : (s : State) (c : Call) → (step s c).reply.answer ≡ 1 → well_formed s ≡ false
refusal_one s c = (answered s c).one

-- ---- well-formed, as facts
pub record EntryFormed (i : ℕ) (t : Transaction) : Type 0 where
  pub phase : (1 ≤ t.phase) × (t.phase ≤ 2)
  pub below : t.index.0 < i
  pub change : t.change.ordinal.0 ≤ 131070
  pub rollback : t.rollback.ordinal.0 ≤ 131070
  pub pairs : pairs_ok t.count t.paths ≡ true
  pub recalls : Recalls i t.owners

pub record HeadFormed (n : ℕ) (h : Head) : Type 0 where
  pub index : h.index.0 ≤ n
  pub target : h.target.0 ≤ n
  pub revision : h.revision.0 ≤ n
  pub ordinal : h.ordinal.0 ≤ 131070

-- Committed's change c against its revision, its owners and the log's length
pub record ChangeFormed (n c : ℕ) (h : Head) (os : List ℕ) : Type 0 where
  pub in_log : c ≤ n
  pub behind : h.revision.0 ≤ c
  pub owned : Most c os

pub record NetFormed (w : Net) : Type 0 where
  pub master : w.mastership.master ≤ 8
  pub values : length w.values ≡ 32
  pub connections : length w.connections ≡ 8

pub record LogFormed (l : Log) : Type 0 where
  pub size : length l.entries ≤ 128
  pub last : last l ≤ 65535
  pub base : length l.base ≡ 32

pub record Formed (s : State) : Type 0 where
  pub log : LogFormed s.log
  pub entries : (k : ℕ) → s.log.folded.0 < k → k ≤ last s.log → EntryFormed k (entry_of s.log k)
  pub committed : HeadFormed (last s.log) s.committed.head
  pub change : ChangeFormed (last s.log) s.change.0 s.committed.head s.committed.owners
  pub applied : HeadFormed (last s.log) s.applied.head
  pub committed_values : length s.committed.values ≡ 32
  pub owners : length s.committed.owners ≡ 32
  pub applied_values : length s.applied.values ≡ 32
  pub net : NetFormed s.net

entry_formed_holds : (i : ℕ) (t : Transaction) → entry_ok i t ≡ true → EntryFormed i t
unfolding entry_ok
entry_formed_holds i t e =
    let p = leb 1 t.phase in
    let q = leb t.phase 2 in
    let b = ltb t.index.0 i in
    let c = leb t.change.ordinal.0 131070 in
    let r = leb t.rollback.ordinal.0 131070 in
    let o = pairs_ok t.count t.paths in
    let f : (p && q) ≡ true = and_left (p && q) _ e in
    let d = recalls_ok i t.owners in
    let g : ((b && d) && ((c && r) && o)) ≡ true = and_right (p && q) _ e in
    let u : (b && d) ≡ true = and_left (b && d) _ g in
    let m : ((c && r) && o) ≡ true = and_right (b && d) _ g in
    let n : (c && r) ≡ true = and_left (c && r) o m in
    record {
      phase = (leb-true _ _ (and_left p q f), leb-true _ _ (and_right p q f));
      below = ltb-true _ _ (and_left b d u);
      change = leb-true _ _ (and_left c r n);
      rollback = leb-true _ _ (and_right c r n);
      pairs = and_right (c && r) o m;
      recalls = recalls_true i t.owners (and_right b d u);
    }

formed_entry : (i : ℕ) (t : Transaction) → EntryFormed i t → entry_ok i t ≡ true
unfolding entry_ok
formed_entry i t f =
    and_both _ _ (and_both _ _ (le-leb _ _ f.phase.0) (le-leb _ _ f.phase.1))
    (and_both _ _ (and_both _ _ (lt-ltb _ _ f.below) (true_recalls i t.owners f.recalls)) (and_both _ _ (and_both _ _ (le-leb _ _ f.change) (le-leb _ _ f.rollback)) f.pairs))

head_formed : (n : ℕ) (h : Head) → head_ok n h ≡ true → HeadFormed n h
unfolding head_ok
head_formed n h e =
    let i = leb h.index.0 n in
    let t = leb h.target.0 n in
    let r = leb h.revision.0 n in
    let o = leb h.ordinal.0 131070 in
    let f : (i && (t && r)) ≡ true = and_left (i && (t && r)) o e in
    let g : (t && r) ≡ true = and_right i _ f in
    record {
      index = leb-true _ _ (and_left i _ f);
      target = leb-true _ _ (and_left t r g);
      revision = leb-true _ _ (and_right t r g);
      ordinal = leb-true _ _ (and_right (i && (t && r)) o e);
    }

formed_head : (n : ℕ) (h : Head) → HeadFormed n h → head_ok n h ≡ true
unfolding head_ok
formed_head n h f =
    and_both _ _ (and_both _ _ (le-leb _ _ f.index) (and_both _ _ (le-leb _ _ f.target) (le-leb _ _ f.revision))) (le-leb _ _ f.ordinal)

pub formed : (s : State) → well_formed s ≡ true → Formed s
unfolding well_formed
formed s e =
    let n = last s.log in
    let l = log_ok s.log in
    let hs = heads_ok s n in
    let es = all_entries entry_ok s.log in
    let k : l ≡ true = and_left l _ e in
    let a : (hs && (es && sizes_ok s)) ≡ true = and_right l _ e in
    let b : (es && sizes_ok s) ≡ true = and_right hs _ a in
    let hh = head_ok n s.committed.head && head_ok n s.applied.head in
    let c : hs ≡ true = and_left hs _ a in
    let d : hh ≡ true = and_left hh _ c in
    let rs = leb s.committed.head.revision.0 s.change.0 in
    let ow = all_at_most s.change.0 s.committed.owners in
    let ch = leb s.change.0 n && (rs && ow) in
    let g : (ch && leb s.net.mastership.master 8) ≡ true = and_right hh _ c in
    let h : ch ≡ true = and_left ch _ g in
    let ro : (rs && ow) ≡ true = and_right (leb s.change.0 n) (rs && ow) h in
    let os = eqb (length s.committed.values) 32 && eqb (length s.committed.owners) 32 in
    let vs = os && eqb (length s.applied.values) 32 in
    let z : sizes_ok s ≡ true = and_right es _ b in
    let bs = eqb (length s.log.base) 32 && eqb (length s.net.connections) 8 in
    let ns = eqb (length s.net.values) 32 && bs in
    let y : vs ≡ true = and_left vs ns z in
    let x : ns ≡ true = and_right vs ns z in
    let w : bs ≡ true = and_right (eqb (length s.net.values) 32) bs x in
    record {
      log = record {
        size = leb-true _ _ (and_left (leb (length s.log.entries) 128) _ k);
        last = leb-true _ _ (and_right (leb (length s.log.entries) 128) _ k);
        base = eqb-true _ _ (and_left (eqb (length s.log.base) 32) _ w);
      };
      entries = λ j p q. entry_formed_holds j _ (entries_true entry_ok s.log (and_left es _ b) j p q);
      committed = head_formed n s.committed.head (and_left (head_ok n s.committed.head) _ d);
      change = record {
        in_log = leb-true _ _ (and_left (leb s.change.0 n) _ h);
        behind = leb-true _ _ (and_left rs ow ro);
        owned = most_true _ s.committed.owners (and_right rs ow ro);
      };
      applied = head_formed n s.applied.head (and_right (head_ok n s.committed.head) _ d);
      committed_values = eqb-true _ _ (and_left (eqb (length s.committed.values) 32) _ (and_left os _ y));
      owners = eqb-true _ _ (and_right (eqb (length s.committed.values) 32) _ (and_left os _ y));
      applied_values = eqb-true _ _ (and_right os _ y);
      net = record {
        master = leb-true _ _ (and_right ch _ g);
        values = eqb-true _ _ (and_left (eqb (length s.net.values) 32) _ x);
        connections = eqb-true _ _ (and_right (eqb (length s.log.base) 32) _ w);
      };
    }

pub well_formed_holds : (s : State) → Formed s → well_formed s ≡ true
unfolding well_formed
well_formed_holds s f =
    and_both _ _ (and_both _ _ (le-leb _ _ f.log.size) (le-leb _ _ f.log.last))
    (and_both _ _
    (and_both _ _ (and_both _ _ (formed_head _ _ f.committed) (formed_head _ _ f.applied))
    (and_both _ _ (and_both _ _ (le-leb _ _ f.change.in_log) (and_both _ _ (le-leb _ _ f.change.behind) (true_most _ s.committed.owners f.change.owned))) (le-leb _ _ f.net.master)))
    (and_both _ _ (true_entries entry_ok s.log (λ k p q. formed_entry k _ (f.entries k p q)))
    (and_both _ _ (and_both _ _ (and_both _ _ (eq-eqb _ _ f.committed_values) (eq-eqb _ _ f.owners)) (eq-eqb _ _ f.applied_values))
    (and_both _ _ (eq-eqb _ _ f.net.values) (and_both _ _ (eq-eqb _ _ f.log.base) (eq-eqb _ _ f.net.connections))))))

-- ---- the stores of a plan
module _ (s : State) (f : Formed s) where
  put_formed : (i : ℕ) (t : Transaction) → EntryFormed i t → Formed (putting s i t)
  put_formed i t e =
      let n : last (put_entry s.log i t) ≡ last s.log = last_put s.log i t in
      record {
        log = record { size = rw (length_place s.log.entries (i - s.log.folded.0) t) f.log.size; last = rw n f.log.last; base = f.log.base };
        entries = rw n (put_all (λ k u. s.log.folded.0 < k → k ≤ last s.log → EntryFormed k u) s.log i t f.entries (λ a b. e));
        committed = rw n f.committed;
        change = rw n f.change;
        applied = rw n f.applied;
        committed_values = f.committed_values;
        owners = f.owners;
        applied_values = f.applied_values;
        net = f.net;
      }

  committed_formed : (p : Plan) (i : ℕ) → HeadFormed (last s.log) p.head
      → ChangeFormed (last s.log) (change_if p.change i s.change).0 p.head (owned_over p.lay p.entry i s.committed.owners)
      → Formed (heading true s p i)
  committed_formed p i h c =
      record {
        log = f.log;
        entries = f.entries;
        committed = h;
        change = c;
        applied = f.applied;
        committed_values = length_laid p.lay p.entry s.committed.values ∙ f.committed_values;
        owners = length_owned p.lay p.entry i s.committed.owners ∙ f.owners;
        applied_values = f.applied_values;
        net = f.net;
      }

  applied_formed : (p : Plan) (i : ℕ) → HeadFormed (last s.log) p.head → Formed (heading false s p i)
  applied_formed p i h =
      record {
        log = f.log;
        entries = f.entries;
        committed = f.committed;
        change = f.change;
        applied = h;
        committed_values = f.committed_values;
        owners = f.owners;
        applied_values = length_laid p.lay p.entry s.applied.values ∙ f.applied_values;
        net = f.net;
      }

  net_formed : (w : Net) → NetFormed w → Formed (with_net s w)
  net_formed w n =
      record {
        log = f.log;
        entries = f.entries;
        committed = f.committed;
        change = f.change;
        applied = f.applied;
        committed_values = f.committed_values;
        owners = f.owners;
        applied_values = f.applied_values;
        net = n;
      }

  target_formed : (p : Plan) → Formed (targeting s p)
  target_formed p =
      net_formed _ (record { master = f.net.master; values = length_laid p.lay p.entry s.net.values ∙ f.net.values; connections = f.net.connections })

module _ (s : State) (f : Formed s) (i : ℕ) where
  commit_formed : (o : Order) (p : Plan) (first second : Bool) → EntryFormed i p.entry → HeadFormed (last s.log) p.head
      → ChangeFormed (last s.log) (change_if p.change i s.change).0 p.head (owned_over p.lay p.entry i s.committed.owners)
      → Formed (performed_by o true s p i first second)
  commit_formed Neither p first second e h c = f
  commit_formed EntryOnly p first second e h c = put_formed s f i p.entry e
  commit_formed HeadOnly p first second e h c = committed_formed s f p i h c
  commit_formed EntryThenHead p true second e h c = put_formed s f i p.entry e
  commit_formed EntryThenHead p false second e h c =
      let n : last (put_entry s.log i p.entry) ≡ last s.log = last_put s.log i p.entry in
      committed_formed (putting s i p.entry) (put_formed s f i p.entry e) p i (rw n h) (rw n c)
  commit_formed HeadThenEntry p true second e h c = committed_formed s f p i h c
  commit_formed HeadThenEntry p false second e h c = put_formed (heading true s p i) (committed_formed s f p i h c) i p.entry e
  commit_formed TargetThenHeadThenEntry p true second e h c = target_formed s f p
  commit_formed TargetThenHeadThenEntry p false true e h c = committed_formed (targeting s p) (target_formed s f p) p i h c
  commit_formed TargetThenHeadThenEntry p false false e h c =
      put_formed (heading true (targeting s p) p i) (committed_formed (targeting s p) (target_formed s f p) p i h c) i p.entry e

  apply_formed : (o : Order) (p : Plan) (first second : Bool) → EntryFormed i p.entry → HeadFormed (last s.log) p.head
      → Formed (performed_by o false s p i first second)
  apply_formed Neither p first second e h = f
  apply_formed EntryOnly p first second e h = put_formed s f i p.entry e
  apply_formed HeadOnly p first second e h = applied_formed s f p i h
  apply_formed EntryThenHead p true second e h = put_formed s f i p.entry e
  apply_formed EntryThenHead p false second e h =
      let n : last (put_entry s.log i p.entry) ≡ last s.log = last_put s.log i p.entry in
      applied_formed (putting s i p.entry) (put_formed s f i p.entry e) p i (rw n h)
  apply_formed HeadThenEntry p true second e h = applied_formed s f p i h
  apply_formed HeadThenEntry p false second e h = put_formed (heading false s p i) (applied_formed s f p i h) i p.entry e
  apply_formed TargetThenHeadThenEntry p true second e h = target_formed s f p
  apply_formed TargetThenHeadThenEntry p false true e h = applied_formed (targeting s p) (target_formed s f p) p i h
  apply_formed TargetThenHeadThenEntry p false false e h =
      put_formed (heading false (targeting s p) p i) (applied_formed (targeting s p) (target_formed s f p) p i h) i p.entry e

-- ---- every call
abbrev Next : Note → Reply → State → Type 0
Next x r s = Formed s

appended_formed : (k : ℕ) (ps : List Pair) → 1 ≤ k → valid_change ps ≡ true → EntryFormed k (appended ps)
unfolding pairs_ok
appended_formed k ps b e =
    record { phase = (omega arith, omega arith); below = b; change = omega arith; rollback = omega arith; pairs = and_left (pairs_ok (length ps) (map path_of ps)) (values_ok ps) e; recalls = record { first = b; second = b; third = b; fourth = b } }

length_node : (l : List Connection) (n : ℕ) (x : Connection) → length (put_node l n x) ≡ length l
length_node l zero x = refl
length_node l (suc n) x = length-set l n x

grown_head : (n : ℕ) (h : Head) → HeadFormed n h → HeadFormed (suc n) h
grown_head n h f = record { index = omega (arith, f.index); target = omega (arith, f.target); revision = omega (arith, f.revision); ordinal = f.ordinal }

module _ (s : State) (f : Formed s) where
  append_formed : (ps : List Pair) → valid_change ps ≡ true → length s.log.entries < 128 → last s.log < 65535 → Formed (with_log s (grown s.log (appended ps)))
  append_formed ps e b c =
      let n : last (grown s.log (appended ps)) ≡ suc (last s.log) = last_add s.log (appended ps) in
      record {
        log = record { size = rw (length_add s.log.entries (appended ps)) b; last = rw n c; base = f.log.base };
        entries = λ k p q. go k p (rw n at q) (leb k (last s.log)) refl;
        committed = rw n (grown_head _ _ f.committed);
        change = rw n (record { in_log = omega (arith, f.change.in_log); behind = f.change.behind; owned = f.change.owned });
        applied = rw n (grown_head _ _ f.applied);
        committed_values = f.committed_values;
        owners = f.owners;
        applied_values = f.applied_values;
        net = f.net;
      }
    where
      old : (k : ℕ) → s.log.folded.0 < k → k ≤ last s.log → EntryFormed k (entry_of (grown s.log (appended ps)) k)
      old = add_all (λ k u. s.log.folded.0 < k → k ≤ last s.log → EntryFormed k u) s.log (appended ps) f.entries (λ a c. absurd (omega arith))

      go : (k : ℕ) → s.log.folded.0 < k → k ≤ suc (last s.log) → (t : Bool) → leb k (last s.log) ≡ t → EntryFormed k (entry_of (grown s.log (appended ps)) k)
      go k p q true x = old k p (leb-true _ _ x)
      go k p q false x =
          let z : k ≡ suc (last s.log) = omega (arith, leb-false k (last s.log) x) in
          rw z (rw (entry_add s.log (appended ps)) (appended_formed (suc (last s.log)) ps (omega arith) e))

  -- a fold: what is kept after b is as it was
  fold_formed : (b : ℕ) → s.log.folded.0 < b → b ≤ last s.log → Formed (folding s b)
  fold_formed b p q =
      let n : last (folding s b).log ≡ last s.log = last_fold s.log (base_over s.log b (live s) s.log.base) b (omega arith) q in
      record {
        log = record { size = omega (arith, length-drop (b - s.log.folded.0) s.log.entries, f.log.size); last = rw n f.log.last; base = length_base s.log b (live s) s.log.base ∙ f.log.base };
        entries = λ k x y. rw (entry_fold s.log (base_over s.log b (live s) s.log.base) b (omega arith) k x) (f.entries k (omega arith) (rw n at y));
        committed = rw n f.committed;
        change = rw n f.change;
        applied = rw n f.applied;
        committed_values = f.committed_values;
        owners = f.owners;
        applied_values = f.applied_values;
        net = f.net;
      }

  -- an entry of the log, its sides, what is kept and the revision to return to anew
  module _ (i : ℕ) (p : s.log.folded.0 < i) (q : i ≤ last s.log) where
    remade : (c r : Side) (x : Number) (vs ws : List ℕ) → c.ordinal.0 ≤ 131070 → r.ordinal.0 ≤ 131070 → x.0 < i → Recalls i ws
        → EntryFormed i
        (let t = entry_of s.log i in
        record { phase = t.phase; count = t.count; paths = t.paths; values = t.values; change = c; rollback = r; index = x; kept = vs; owners = ws })
    remade c r x vs ws a b d m = let e = f.entries i p q in record { phase = e.phase; below = d; change = a; rollback = b; pairs = e.pairs; recalls = m }

    -- with other statuses
    changed : (c : Side) → c.ordinal.0 ≤ 131070 → EntryFormed i (with_change (entry_of s.log i) c)
    changed c a = let e = f.entries i p q in remade c (entry_of s.log i).rollback _ _ _ a e.rollback e.below e.recalls

    returned : (r : Side) → r.ordinal.0 ≤ 131070 → EntryFormed i (with_rollback (entry_of s.log i) r)
    returned r b = let e = f.entries i p q in remade (entry_of s.log i).change r _ _ _ e.change b e.below e.recalls

    back : (entry_of s.log i).index.0 ≤ last s.log
    back = omega (arith, (f.entries i p q).below)

    -- the head of Applied where a rule closes at an aim
    shut : (aim : Number) (o : Ordinal) → aim.0 ≤ last s.log → o.0 ≤ 131070 → HeadFormed (last s.log) (closed s.applied.head (num i) aim o)
    shut aim o a b = record { index = q; target = a; revision = f.applied.revision; ordinal = b }

    came : (h : Head) (aim : Number) (o : Ordinal) → HeadFormed (last s.log) h → aim.0 ≤ last s.log → o.0 ≤ 131070 → HeadFormed (last s.log) (landed h (num i) aim o)
    came h aim o g a b = record { index = q; target = g.target; revision = a; ordinal = b }

    turned : (h : Head) (aim : Number) → HeadFormed (last s.log) h → aim.0 ≤ last s.log → HeadFormed (last s.log) (aimed h aim)
    turned h aim g a = record { index = g.index; target = a; revision = g.revision; ordinal = g.ordinal }

    gone : HeadFormed (last s.log) (passed s.committed.head (num i))
    gone = record { index = q; target = f.committed.target; revision = f.committed.revision; ordinal = f.committed.ordinal }

  remembered_32 : (m : Bool) → length (remembered s.net m) ≡ 32
  remembered_32 true = f.net.values
  remembered_32 false = refl

  calls : Calls s Next (HasRoom s Next)
  calls =
      record {
        refused = λ a n. f;
        append = λ ps e r. append_formed ps e r.0 r.1;
        rollback = λ i p q e. put_formed s f i _ (let g = f.entries i p q in record { phase = (omega arith, omega arith); below = g.below; change = g.change; rollback = g.rollback; pairs = g.pairs; recalls = g.recalls });
        start = λ e. net_formed s f _ (record { master = f.net.master; values = f.net.values; connections = f.net.connections });
        stop = net_formed s f _ (record { master = f.net.master; values = remembered_32 s.net.target.remembers; connections = length-map s.net.connections outside.off ∙ f.net.connections });
        connect = λ n p e. net_formed s f _ (record { master = f.net.master; values = f.net.values; connections = length_node s.net.connections n _ ∙ f.net.connections });
        disconnect = λ n. net_formed s f _ (record { master = f.net.master; values = f.net.values; connections = length_node s.net.connections n _ ∙ f.net.connections });
        elect = λ n b t e. net_formed s f _ (record { master = b; values = f.net.values; connections = f.net.connections });
        resign = net_formed s f _ (record { master = omega arith; values = f.net.values; connections = f.net.connections });
        syncing = net_formed s f _ (record { master = f.net.master; values = f.net.values; connections = f.net.connections });
        synced = net_formed s f _ (record { master = f.net.master; values = f.applied_values; connections = f.net.connections });
        job1 = λ i p q cut second. let e = f.entries i p q in let t = entry_of s.log i in let h = s.committed.head in let vs = present_of s t in let begins : i ≡ suc s.change.0 → EntryFormed i (beginning (entry_of s.log i) s.committed.head.revision (present_of s (entry_of s.log i))) = λ b. remade i p q _ _ _ _ _ e.change e.rollback (omega (arith, f.change.behind)) (most_recalls s.change.0 i _ (omega arith) (most_present _ _ t f.change.owned)) in let later : i ≡ suc s.change.0 → Most i s.committed.owners = λ b k. omega (arith, f.change.owned k) in record {
          wait = f;
          full = λ a b d. f;
          begin = λ a b d. put_formed s f i _ (begins b);
          aim = λ a b d. commit_formed s f i HeadThenEntry (job1.plans change.Aim t h (num i) (ord 0) vs) cut second (begins b) (turned i p q s.committed.head (num i) f.committed q) (record { in_log = f.change.in_log; behind = f.change.behind; owned = f.change.owned });
          land = λ a b d o g. let x : o.0 ≤ 131070 = omega arith in let y : i ≤ i = omega arith in commit_formed s f i HeadThenEntry (job1.plans change.Land t h (num i) o vs) cut second (changed i p q _ x) (came i p q s.committed.head (num i) o f.committed q x) (record { in_log = q; behind = y; owned = most_set i _ _ _ (later b) });
          reject = λ a b. let x : s.committed.head.revision.0 ≤ i = omega (arith, f.change.behind) in commit_formed s f i EntryThenHead (job1.plans change.Reject t h (num i) (ord 0) vs) cut second (changed i p q _ e.change) (gone i p q) (record { in_log = q; behind = x; owned = later b });
          finish = λ a b. put_formed s f i _ (changed i p q _ f.committed.ordinal);
          close = λ a b. let x : s.committed.head.revision.0 ≤ i = omega (arith, f.change.behind) in committed_formed s f (job1.plans change.Close t h (num i) (ord 0) vs) i (gone i p q) (record { in_log = q; behind = x; owned = later b });
        };
        job2 = λ n i p q cut second. let e = f.entries i p q in let t = entry_of s.log i in let h = s.applied.head in record {
          wait = f;
          no_line = f;
          begin = λ a b d. put_formed s f i _ (changed i p q _ e.change);
          aim = λ a b d g. apply_formed s f i HeadThenEntry (job2.plans apply.Aim t h (num i)) cut second (changed i p q _ e.change) (turned i p q s.applied.head (num i) f.applied q);
          abort = λ a b d g. apply_formed s f i EntryThenHead (job2.plans apply.Abort t h (num i)) cut second (changed i p q _ e.change) (shut i p q (num i) _ q e.change);
          close_aborted = λ a b. applied_formed s f (job2.plans apply.Close t h (num i)) i (shut i p q (num i) _ q e.change);
          close_failed = λ a b. applied_formed s f (job2.plans apply.Close t h (num i)) i (shut i p q (num i) _ q e.change);
          finish = λ a b d. put_formed s f i _ (changed i p q _ e.change);
          fail = λ a b. apply_formed s f i EntryThenHead (job2.plans apply.Fail t h (num i)) cut second (changed i p q _ e.change) (shut i p q (num i) _ q e.change);
          push = λ a b d. apply_formed s f i TargetThenHeadThenEntry (job2.plans apply.Push t h (num i)) cut second (changed i p q _ e.change) (came i p q s.applied.head (num i) _ f.applied q e.change);
        };
        job3 = λ i p q cut second. let e = f.entries i p q in let t = entry_of s.log i in let h = s.committed.head in record {
          wait = f;
          full = λ a b d. f;
          begin = λ a b d. put_formed s f i _ (returned i p q _ e.rollback);
          aim = λ a b d. commit_formed s f i HeadThenEntry (job3.plans rollback.Aim t h (num i) (ord 0)) cut second (returned i p q _ e.rollback) (turned i p q s.committed.head _ f.committed (back i p q)) (record { in_log = f.change.in_log; behind = f.change.behind; owned = f.change.owned });
          land = λ a b d o g. let x : o.0 ≤ 131070 = omega arith in let y : (entry_of s.log i).index.0 ≤ s.change.0 = omega (arith, f.change.behind, e.below) in commit_formed s f i HeadThenEntry (job3.plans rollback.Land t h (num i) o) cut second (returned i p q _ x) (came i p q s.committed.head _ o f.committed (back i p q) x) (record { in_log = f.change.in_log; behind = y; owned = most_back i _ _ _ _ _ (omega (arith, f.change.behind)) e.recalls f.change.owned });
          finish = λ a b d. put_formed s f i _ (returned i p q _ f.committed.ordinal);
        };
        job4 = λ n i p q cut second. let e = f.entries i p q in let t = entry_of s.log i in let h = s.applied.head in record {
          wait = f;
          no_line = f;
          rejected = f;
          begin = λ a b d g. put_formed s f i _ (returned i p q _ e.rollback);
          aim = λ a b d g. apply_formed s f i HeadThenEntry (job4.plans return.Aim t h (num i)) cut second (returned i p q _ e.rollback) (turned i p q s.applied.head _ f.applied (back i p q));
          cancel = λ a b d g. apply_formed s f i EntryThenHead (job4.plans return.Cancel t h (num i)) cut second (returned i p q _ e.rollback) (shut i p q _ _ (back i p q) e.rollback);
          close = λ a b. applied_formed s f (job4.plans return.Close t h (num i)) i (shut i p q _ _ (back i p q) e.rollback);
          finish = λ a b d. put_formed s f i _ (returned i p q _ e.rollback);
          push = λ a b d. apply_formed s f i TargetThenHeadThenEntry (job4.plans return.Push t h (num i)) cut second (returned i p q _ e.rollback) (came i p q s.applied.head _ _ f.applied (back i p q) e.rollback);
        };
      }

-- a well-formed state stays well-formed, whatever is called
pub step_keeps_well_formed : (s : State) (c : Call) → well_formed s ≡ true → well_formed (step s c).next ≡ true
step_keeps_well_formed s c w =
    well_formed_holds _ (by_call s Next (λ e. formed s w) (λ e. calls s (formed s w)) (λ e b p q x. fold_formed s (formed s w) b p q) c)

pub fresh_well_formed : (m : Bool) → well_formed (fresh m) ≡ true
unfolding well_formed all_from all_at_most head_ok
fresh_well_formed m = refl

-- so refusal 1 never occurs in a state reached from fresh
pub reached_well_formed : (m : Bool) (cs : List Call) → well_formed (run m cs).state ≡ true
unfolding run
reached_well_formed m [] = fresh_well_formed m
reached_well_formed m (c ∷ cs) = step_keeps_well_formed (run m cs).state c (reached_well_formed m cs)

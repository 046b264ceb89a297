-- A call on a state whose front is folded does to the whole what it does to what is kept: the same decision, the same
-- stores. So what each way to accept a call keeps of the whole is kept by every call. Assumes nothing.
use Prim.Native.Nat.{ℕ, zero, suc, ◌+◌, ◌-◌, ◌≤◌, ◌<◌}
use native.Mathlib.Omega.{arith}
use mathlib.Core.List.{List, [], ◌∷◌, ◌++◌, map}
use mathlib.Core.Bool.{Bool, true, false, ◌&&◌, cond}
use mathlib.Core.Path.{◌≡◌, refl, sym, ap, ◌∙◌, subst}
use lib.Dec.{eqb, ltb, leb}
use lib.ListN.{length, get_or, set, drop}
use lib.Seq.{drop-set-add, drop-append-le, drop-drop}
use borrow.Author.Tests.{ne_eqb, leb-true, ltb-true}
use Rattle.kinds.specs.declared.Transaction.{Transaction}
use Rattle.kinds.specs.declared.Reply.{Reply}
use Rattle.kinds.specs.Numbers.{num}
use Rattle.kinds.specs.Events.{numbered, refusal}
use Rattle.rules.specs.declared.Plan.{Plan}
use Rattle.rules.specs.declared.Order.{Order}
use Rattle.rules.specs.declared.Order.TheVariants.{Neither, EntryOnly, HeadOnly, EntryThenHead, HeadThenEntry, TargetThenHeadThenEntry}
use Rattle.rules.specs.CommitChange.{commit_change}
use Rattle.rules.specs.CommitRollback.{commit_rollback}
use Rattle.rules.specs.ApplyChange.{apply_change}
use Rattle.rules.specs.ApplyRollback.{apply_rollback}
use Rattle.rules.specs.Outside as outside
use Rattle.machine.specs.State.{Log, State, blank, put_place, entry_of, put_entry, grown, last, in_log, is_kept, is_node, is_master, node_of, put_node, reaches_target, line_open_for, absent}
use Rattle.machine.specs.Stores.{Store, entry, configuration, mastership, connections, target, with_log, with_net, after, afters}
use Rattle.machine.specs.WellFormed.{well_formed}
use Rattle.machine.specs.Settled.{settled}
use Rattle.machine.specs.Rest.{rest_of}
use Rattle.machine.specs.LiveList.{live}
use Rattle.machine.specs.Folding.{stays, finished, may_fold}
use Rattle.machine.specs.Calls.{Pair, Call, Outcome, append, rollback, start, stop, connect, disconnect, master, sync, work, fold_to, refused, accepted, unless, answers, valid_change, appended, present_of, plan_of, commits, planned, work_ok, clear_row, copy_row, copy_count, counts, decide}
use Rattle.machine.specs.Step.{outcome, step}
use Rattle.machine.specs.Notes.{Note, nothing, push_note, sync_note, note_of, note}
use Rattle.machine.proofs.Next.{putting, heading, targeting, performed_by, performed, rows_performed, base_over, folding, row_folding, row_copying, with_configuration}
use Rattle.machine.proofs.Cases.{and_left, and_right}
use Rattle.machine.proofs.Onward.{Onward, onward}
use Rattle.machine.proofs.Entries.{put_all, add_all, entry_fold, last_fold, last_put, last_add}
use Rattle.machine.proofs.ByCall.{note_at, Tables, formed_tables, Calls, Of, start_of, stop_of, connect_of_holds, disconnect_of_holds, master_of_holds, sync_of, job_of}
use Rattle.history.specs.Demand3.{highest}
use Rattle.history.proofs.ByNumber.{highest_entries}
use Rattle.history.specs.Whole.{unless_fold, shown_log, shown, Front, EntryPassed, Passed}

-- ---- a store after the fold shows as it is
put_shown : (l : Log) (b : ℕ) (vs : List ℕ) (i : ℕ) (t : Transaction) → l.folded.0 ≤ b → b < i → put_entry (shown_log l b vs) i t ≡ shown_log (put_entry l i t) b vs
put_shown l b vs i t p q = ap (λ ts. record { folded = num b; base = vs; entries = ts }) (go (i - b) refl (i - l.folded.0) refl)
  where
    go : (j : ℕ) → i - b ≡ j → (k : ℕ) → i - l.folded.0 ≡ k
        → put_place (drop (b - l.folded.0) l.entries) j t ≡ drop (b - l.folded.0) (put_place l.entries k t)
    go zero x k y = absurd (omega arith)
    go (suc j) x zero y = absurd (omega arith)
    go (suc j) x (suc k) y =
        let z : b - l.folded.0 + j ≡ k = omega arith in
        sym (drop-set-add (b - l.folded.0) l.entries j t) ∙ ap (λ n. drop (b - l.folded.0) (set l.entries n t)) z

grow_shown : (l : Log) (b : ℕ) (vs : List ℕ) (t : Transaction) → b ≤ last l → grown (shown_log l b vs) t ≡ shown_log (grown l t) b vs
grow_shown l b vs t p =
    ap (λ ts. record { folded = num b; base = vs; entries = ts }) (sym (drop-append-le (b - l.folded.0) l.entries (t ∷ []) (omega arith)))

-- a fold of what is shown shows the whole with more folded away
pub fold_shown : (l : Log) (b c : ℕ) (vs us : List ℕ) → l.folded.0 ≤ b → b ≤ c → shown_log (shown_log l b vs) c us ≡ shown_log l c us
fold_shown l b c vs us p q =
    let z : b - l.folded.0 + (c - b) ≡ c - l.folded.0 = omega arith in
    ap (λ ts. record { folded = num c; base = us; entries = ts }) (drop-drop (c - b) (b - l.folded.0) l.entries ∙ ap (λ n. drop n l.entries) z)

-- ---- the front stays as it is
module _ {l : Log} {b : ℕ} {vs : List ℕ} (f : Front l b vs) where
  -- where the entries up to b do
  keeps : (m : Log) → m.folded.0 ≡ 0 → m.base ≡ absent → last l ≤ last m → ((k : ℕ) → k ≤ b → entry_of m k ≡ entry_of l k) → Front m b vs
  keeps m z a n e =
      record {
        whole = z;
        absent = a;
        within = omega (arith, f.within);
        finished = λ k p q. ap finished (e k q) ∙ f.finished k p q;
        base = λ p q. f.base p q ∙ highest_entries l m b p (λ k r. sym (e k r)) (f.absent ∙ sym a);
        room = f.room;
      }

  put_front : (i : ℕ) (t : Transaction) → b < i → Front (put_entry l i t) b vs
  put_front i t q =
      keeps (put_entry l i t) f.whole f.absent (omega (arith, last_put l i t))
      (put_all (λ k u. k ≤ b → u ≡ entry_of l k) l i t (λ k r. refl) (λ r. absurd (omega arith)))

  grow_front : (t : Transaction) → Front (grown l t) b vs
  grow_front t =
      keeps (grown l t) f.whole f.absent (omega (arith, last_add l t))
      (add_all (λ k u. k ≤ b → u ≡ entry_of l k) l t (λ k r. refl) (λ r. absurd (omega (arith, f.within))))

-- ---- the whole w, its first b folded away
module _ (w : State) (b : ℕ) (vs : List ℕ) (f : Front w.log b vs) where
  abbrev seen : State
  seen = shown w b vs

  low : w.log.folded.0 ≤ b
  low = omega (arith, f.whole)

  pub entry_seen : (k : ℕ) → b < k → entry_of seen.log k ≡ entry_of w.log k
  entry_seen = entry_fold w.log vs b low

  pub last_seen : last seen.log ≡ last w.log
  last_seen = last_fold w.log vs b low f.within

  -- ---- the same plan
  pub plan_seen : rest_of seen ≡ rest_of w → settled seen ≡ settled w → (n j i : ℕ) (ok : Bool) → b < i → plan_of seen n j i ok ≡ plan_of w n j i ok
  unfolding plan_of
  plan_seen r q n j i ok p = go (entry_seen i p) r q
    where
      plan : Transaction → Bool → Bool → Plan
      plan t rest still =
          cond (eqb j 1) (commit_change t w.committed.head w.change rest (num i) ok (present_of w t))
          (cond (eqb j 2) (apply_change t w.applied.head still (num i) (line_open_for w.net n) ok)
          (cond (eqb j 3) (commit_rollback t w.committed.head rest (num i)) (apply_rollback t w.applied.head still (num i) (line_open_for w.net n) ok)))

      go : {t u : Transaction} {r s x y : Bool} → t ≡ u → r ≡ s → x ≡ y → plan t r x ≡ plan u s y
      go {t} {u} {r} {s} {x} {y} a c d = ap (λ z. plan z r x) a ∙ ap (λ z. plan u z x) c ∙ ap (plan u s) d

  -- ---- the same stores
  heading_seen : (c : Bool) (p : Plan) (i : ℕ) → heading c seen p i ≡ shown (heading c w p i) b vs
  heading_seen true p i = refl
  heading_seen false p i = refl

  putting_seen : (i : ℕ) (t : Transaction) → b < i → putting seen i t ≡ shown (putting w i t) b vs
  putting_seen i t p = ap (with_log w) (put_shown w.log b vs i t low p)

module _ (w : State) (b : ℕ) (vs : List ℕ) (f : Front w.log b vs) (i : ℕ) (q : b < i) where
  head_entry : (u : State) → Front u.log b vs → (c : Bool) (p : Plan) → putting (heading c (shown u b vs) p i) i p.entry ≡ shown (putting (heading c u p i) i p.entry) b vs
  head_entry u g c p = ap (λ x. putting x i p.entry) (heading_seen u b vs g c p i) ∙ putting_seen (heading c u p i) b vs (headed c) i p.entry q
    where
      headed : (c : Bool) → Front (heading c u p i).log b vs
      headed true = g
      headed false = g

  performed_seen : (o : Order) (c : Bool) (p : Plan) (first second : Bool) → performed_by o c (shown w b vs) p i first second ≡ shown (performed_by o c w p i first second) b vs
  performed_seen Neither c p first second = refl
  performed_seen EntryOnly c p first second = putting_seen w b vs f i p.entry q
  performed_seen HeadOnly c p first second = heading_seen w b vs f c p i
  performed_seen EntryThenHead c p true second = putting_seen w b vs f i p.entry q
  performed_seen EntryThenHead c p false second =
      ap (λ x. heading c x p i) (putting_seen w b vs f i p.entry q) ∙ heading_seen (putting w i p.entry) b vs (put_front f i p.entry q) c p i
  performed_seen HeadThenEntry c p true second = heading_seen w b vs f c p i
  performed_seen HeadThenEntry c p false second = head_entry w f c p
  performed_seen TargetThenHeadThenEntry c p true second = refl
  performed_seen TargetThenHeadThenEntry c p false true = heading_seen (targeting w p) b vs f c p i
  performed_seen TargetThenHeadThenEntry c p false false = head_entry (targeting w p) f c p

  performed_front : (o : Order) (c : Bool) (p : Plan) (first second : Bool) → Front (performed_by o c w p i first second).log b vs
  performed_front Neither c p first second = f
  performed_front EntryOnly c p first second = put_front f i p.entry q
  performed_front HeadOnly true p first second = f
  performed_front HeadOnly false p first second = f
  performed_front EntryThenHead c p true second = put_front f i p.entry q
  performed_front EntryThenHead true p false second = put_front f i p.entry q
  performed_front EntryThenHead false p false second = put_front f i p.entry q
  performed_front HeadThenEntry true p true second = f
  performed_front HeadThenEntry false p true second = f
  performed_front HeadThenEntry true p false second = put_front f i p.entry q
  performed_front HeadThenEntry false p false second = put_front f i p.entry q
  performed_front TargetThenHeadThenEntry c p true second = f
  performed_front TargetThenHeadThenEntry true p false true = f
  performed_front TargetThenHeadThenEntry false p false true = f
  performed_front TargetThenHeadThenEntry true p false false = put_front f i p.entry q
  performed_front TargetThenHeadThenEntry false p false false = put_front f i p.entry q

-- ---- what is passed stays so, where the entries up to b do and no head goes back
on_passed : (w x : State) (b : ℕ) → Passed w b → ((k : ℕ) → k ≤ b → entry_of x.log k ≡ entry_of w.log k) → Onward w x → Passed x b
on_passed w x b p e o =
    record {
      change = omega (arith, p.change, o.change);
      entries = λ k u v. subst (EntryPassed x.applied.head.ordinal.0) (sym (e k v))
          (record { change = λ y. omega (arith, (p.entries k u v).change y, o.ordinal); rollback = λ y. omega (arith, (p.entries k u v).rollback y, o.ordinal) });
    }

entries_put : (l : Log) (b i : ℕ) (t : Transaction) → b < i → (k : ℕ) → k ≤ b → entry_of (put_entry l i t) k ≡ entry_of l k
entries_put l b i t q = put_all (λ k u. k ≤ b → u ≡ entry_of l k) l i t (λ k r. refl) (λ r. absurd (omega arith))

entries_grown : (l : Log) (b : ℕ) (t : Transaction) → b ≤ last l → (k : ℕ) → k ≤ b → entry_of (grown l t) k ≡ entry_of l k
entries_grown l b t q = add_all (λ k u. k ≤ b → u ≡ entry_of l k) l t (λ k r. refl) (λ r. absurd (omega arith))

entries_performed : (w : State) (b i : ℕ) → b < i → (o : Order) (c : Bool) (p : Plan) (first second : Bool) (k : ℕ) → k ≤ b
    → entry_of (performed_by o c w p i first second).log k ≡ entry_of w.log k
entries_performed w b i q Neither c p first second k r = refl
entries_performed w b i q EntryOnly c p first second k r = entries_put w.log b i p.entry q k r
entries_performed w b i q HeadOnly true p first second k r = refl
entries_performed w b i q HeadOnly false p first second k r = refl
entries_performed w b i q EntryThenHead c p true second k r = entries_put w.log b i p.entry q k r
entries_performed w b i q EntryThenHead true p false second k r = entries_put w.log b i p.entry q k r
entries_performed w b i q EntryThenHead false p false second k r = entries_put w.log b i p.entry q k r
entries_performed w b i q HeadThenEntry true p true second k r = refl
entries_performed w b i q HeadThenEntry false p true second k r = refl
entries_performed w b i q HeadThenEntry true p false second k r = entries_put w.log b i p.entry q k r
entries_performed w b i q HeadThenEntry false p false second k r = entries_put w.log b i p.entry q k r
entries_performed w b i q TargetThenHeadThenEntry c p true second k r = refl
entries_performed w b i q TargetThenHeadThenEntry true p false true k r = refl
entries_performed w b i q TargetThenHeadThenEntry false p false true k r = refl
entries_performed w b i q TargetThenHeadThenEntry true p false false k r = entries_put w.log b i p.entry q k r
entries_performed w b i q TargetThenHeadThenEntry false p false false k r = entries_put w.log b i p.entry q k r

-- the state next shows the whole w, of which P holds with what was done to the switch and the reply
pub record Followed (P : Note → Reply → State → Type 0) (x : Note) (r : Reply) (next w : State) : Type 0 where
  pub fold : ℕ
  pub base : List ℕ
  pub shows : next ≡ shown w fold base
  pub front : Front w.log fold base
  pub passed : Passed w fold
  pub holds : P x r w

module _ (w : State) (b : ℕ) (vs : List ℕ) (f : Front w.log b vs) (done : Passed w b) (rest : rest_of (shown w b vs) ≡ rest_of w) (still : settled (shown w b vs) ≡ settled w)
    (P : Note → Reply → State → Type 0) (same : (a : ℕ) → P nothing (refusal a) w) (call : Call) (k : Calls w P (λ ps. call ≡ append ps)) where
  -- the same stores, of both
  abbrev Both : Note → Outcome → Type 0
  Both x o = Followed P (cond (eqb o.reply.answer 0) x nothing) o.reply (afters (shown w b vs) o.stores) (afters w o.stores)

  none_done : (a : ℕ) → 1 ≤ a → (x : Note) → cond (eqb a 0) x nothing ≡ nothing
  none_done a n x = ap (λ z. cond z x nothing) (ne_eqb a 0 (λ z. omega arith))

  refuses : (x : Note) (a : ℕ) → 1 ≤ a → Both x (refused a)
  unfolding afters
  refuses x a n = record { fold = b; base = vs; shows = refl; front = f; passed = done; holds = subst (λ z. P z (refusal a) w) (sym (none_done a n x)) (same a) }

  unless_both : (x : Note) (a : ℕ) → 1 ≤ a → (t : Bool) (o : Outcome) → (t ≡ true → Both x o) → Both x (unless a t o)
  unless_both x a n true o g = g refl
  unless_both x a n false o g = refuses x a n

  -- ---- the nodes' side
  record Apart (es : List Store) : Type 0 where
    shows : afters (shown w b vs) es ≡ shown (afters w es) b vs
    log : (afters w es).log ≡ w.log
    stays : Passed w b → Passed (afters w es) b

  apart_none : Apart []
  unfolding afters
  apart_none = record { shows = refl; log = refl; stays = λ x. record { change = x.change; entries = x.entries } }

  apart_unless : (a : ℕ) (t : Bool) (o : Outcome) → Apart o.stores → Apart (unless a t o).stores
  apart_unless a true o g = g
  apart_unless a false o g = apart_none

  apart_both : (x : Note) (o : Outcome) → Apart o.stores → Of w P x o → Both x o
  apart_both x o g h = record { fold = b; base = vs; shows = g.shows; front = subst (λ l. Front l b vs) (sym g.log) f; passed = g.stays done; holds = h }

  answers_apart : (a : ℕ) (es : List Store) → Apart es → Apart (answers a es).stores
  answers_apart a es g = apart_unless a (eqb a 0) (accepted es) g

  clear_apart : (t : Rattle.kinds.specs.declared.Target.Target) (m : Bool) (cs : List Rattle.kinds.specs.declared.Connection.Connection) → Apart (target t ∷ (clear_row m ++ (connections cs ∷ [])))
  unfolding afters after
  clear_apart t true cs = record { shows = refl; log = refl; stays = λ x. record { change = x.change; entries = x.entries } }
  clear_apart t false cs = record { shows = refl; log = refl; stays = λ x. record { change = x.change; entries = x.entries } }

  -- a synchronise's row does the same to both, their tables being the same
  copy_apart : Tables w → (g : Rattle.kinds.specs.declared.Configuration.Configuration) (c : Bool) → Apart (configuration g ∷ copy_row c w.net.values w.applied.values)
  unfolding afters after
  copy_apart y g true =
      let u = with_net w (with_configuration w.net g) in
      let e = row_copying u w.applied.values y.0 y.1 in
      record {
        shows = row_copying (shown u b vs) w.applied.values y.0 y.1 ∙ ap (λ x. shown x b vs) (sym e);
        log = ap (λ x. x.log) e;
        stays = λ x. subst (λ z. Passed z b) (sym e) (record { change = x.change; entries = x.entries });
      }
  copy_apart y g false = record { shows = refl; log = refl; stays = λ x. record { change = x.change; entries = x.entries } }

  start_both : Both nothing (decide (shown w b vs) start)
  unfolding decide afters after
  start_both =
      let x = outside.start w.net.target in
      apart_both nothing (decide w start) (answers_apart x.answer (target x.target ∷ []) (record { shows = refl; log = refl; stays = λ x. record { change = x.change; entries = x.entries } })) (start_of w P k)

  stop_both : Both nothing (decide (shown w b vs) stop)
  unfolding decide afters after
  stop_both =
      let x = outside.stop w.net.target in
      apart_both nothing (decide w stop)
      (answers_apart x.answer _ (clear_apart x.target w.net.target.remembers (map outside.off w.net.connections)))
      (stop_of w P k)

  -- where the node is in range
  node_both : (x : Note) (n a : ℕ) (es : List Store) → Apart es → Of w P x (unless 2 (is_node n) (answers a es)) → Both x (unless 2 (is_node n) (answers a es))
  node_both x n a es g = apart_both x (unless 2 (is_node n) (answers a es)) (apart_unless 2 (is_node n) (answers a es) (answers_apart a es g))

  connect_both : (n : ℕ) → Both nothing (decide (shown w b vs) (connect n))
  unfolding decide afters after
  connect_both n =
      let x = outside.connect (node_of w.net.connections n) w.net.target.running in
      node_both nothing n x.answer (connections (put_node w.net.connections n x.connection) ∷ []) (record { shows = refl; log = refl; stays = λ x. record { change = x.change; entries = x.entries } }) (connect_of_holds w P k n)

  disconnect_both : (n : ℕ) → Both nothing (decide (shown w b vs) (disconnect n))
  unfolding decide afters after
  disconnect_both n =
      let x = outside.disconnect (node_of w.net.connections n) in
      node_both nothing n x.answer (connections (put_node w.net.connections n x.connection) ∷ []) (record { shows = refl; log = refl; stays = λ x. record { change = x.change; entries = x.entries } }) (disconnect_of_holds w P k n)

  master_both : (n : ℕ) → Both nothing (decide (shown w b vs) (master n))
  unfolding decide afters after
  master_both n =
      let x = outside.master w.net.mastership n (node_of w.net.connections n) in
      node_both nothing n x.answer (mastership x.mastership ∷ []) (record { shows = refl; log = refl; stays = λ x. record { change = x.change; entries = x.entries } }) (master_of_holds w P k n)

  sync_both : Tables w → (n : ℕ) → Both (sync_note w.net.configuration.state) (decide (shown w b vs) (sync n))
  unfolding decide
  sync_both y n =
      let x = outside.synchronise w.net.configuration w.net.mastership.term (is_master w.net n) (reaches_target w.net n) in
      let o = counts x.answer (copy_count x.copies w.net.values w.applied.values) (configuration x.configuration ∷ copy_row x.copies w.net.values w.applied.values) in
      apart_both (sync_note w.net.configuration.state) (unless 2 (is_node n) o)
      (apart_unless 2 (is_node n) o (apart_unless x.answer (eqb x.answer 0) _ (copy_apart y x.configuration x.copies))) (sync_of w P k y n)

  -- ---- the log
  append_both : (ps : List Pair) → call ≡ append ps → Both nothing (decide (shown w b vs) (append ps))
  unfolding decide afters after
  append_both ps z =
      unless_both nothing 3 (omega arith) (valid_change ps) _
      (λ e. unless_both nothing 4 (omega arith) (ltb (length (shown w b vs).log.entries) 128) _
      (λ g. unless_both nothing 9 (omega arith) (ltb (last (shown w b vs).log) 65535) _
      (λ h. record {
        fold = b;
        base = vs;
        shows = ap (with_log w) (grow_shown w.log b vs (appended ps) f.within);
        front = grow_front f (appended ps);
        passed = on_passed w _ b done (entries_grown w.log b (appended ps) f.within) (record { change = omega arith; ordinal = omega arith });
        holds = subst (λ n. P nothing (record { answer = 0; event = numbered (n + 1) }) (with_log w (grown w.log (appended ps)))) (sym (last_seen w b vs f)) (k.append ps e z);
      })))

  rollback_both : (i : ℕ) → Both nothing (decide (shown w b vs) (rollback i))
  unfolding decide afters after
  rollback_both i =
      unless_both nothing 5 (omega arith) (in_log (shown w b vs) i) _
      (λ e. unless_both nothing 18 (omega arith) (is_kept (shown w b vs) i) _
      (λ g. let q : b < i = ltb-true b i g in
      subst (λ t. Both nothing (unless 6 (outside.may_roll_back t) (accepted (entry i (outside.rolled_back t) ∷ [])))) (sym (entry_seen w b vs f i q))
      (unless_both nothing 6 (omega arith) (outside.may_roll_back (entry_of w.log i)) _
      (λ h. record {
        fold = b;
        base = vs;
        shows = putting_seen w b vs f i _ q;
        front = put_front f i _ q;
        passed = on_passed w _ b done (entries_put w.log b i _ q) (record { change = omega arith; ordinal = omega arith });
        holds = k.rollback i (omega (arith, f.whole)) (omega (arith, leb-true i _ (and_right (leb 1 i) _ e), last_seen w b vs f)) h;
      }))))

  planned_both : (j : ℕ) (p : Plan) (i c : ℕ) → b < i → Onward w (performed (commits j) w p i (eqb c 1) (eqb c 2)) → Of w P (note_at p i c) (planned j p i c)
      → Both (note_at p i c) (planned j p i c)
  planned_both j p i c q o h =
      record {
        fold = b;
        base = vs;
        shows = rows_performed (commits j) (shown w b vs) p i (eqb c 1) (eqb c 2) ∙ performed_seen w b vs f i q p.order (commits j) p (eqb c 1) (eqb c 2)
            ∙ ap (λ x. shown x b vs) (sym (rows_performed (commits j) w p i (eqb c 1) (eqb c 2)));
        front = subst (λ x. Front x.log b vs) (sym (rows_performed (commits j) w p i (eqb c 1) (eqb c 2))) (performed_front w b vs f i q p.order (commits j) p (eqb c 1) (eqb c 2));
        passed = subst (λ x. Passed x b) (sym (rows_performed (commits j) w p i (eqb c 1) (eqb c 2)))
            (on_passed w (performed (commits j) w p i (eqb c 1) (eqb c 2)) b done (entries_performed w b i q p.order (commits j) p (eqb c 1) (eqb c 2)) o);
        holds = h;
      }

  work_both : (n j i r c : ℕ) → Both (note_of (shown w b vs) (work n j i r c)) (decide (shown w b vs) (work n j i r c))
  unfolding decide
  work_both n j i r c =
      let x = note_of (shown w b vs) (work n j i r c) in
      unless_both x 2 (omega arith) (work_ok n j r c) _
      (λ e. unless_both x 5 (omega arith) (in_log (shown w b vs) i) _
      (λ g. unless_both x 18 (omega arith) (is_kept (shown w b vs) i) _
      (λ u. unless_both x 10 (omega arith) (is_master w.net n) _
      (λ m. let q : b < i = ltb-true b i u in
      subst (λ p. Both (note_at p i c) (planned j p i c)) (sym (plan_seen w b vs f rest still n j i (eqb r 0) q))
      (planned_both j _ i c q (onward w i n j (eqb r 0) (eqb c 1) (eqb c 2))
      (job_of w P k n j i r c (omega (arith, f.whole)) (omega (arith, leb-true i _ (and_right (leb 1 i) _ g), last_seen w b vs f))))))))

  -- ---- a fold leaves the whole as it is
  abbrev Still : Outcome → Type 0
  Still o = Followed P (cond (eqb o.reply.answer 0) nothing nothing) o.reply (afters (shown w b vs) o.stores) w

  unless_still : (a : ℕ) → 1 ≤ a → (t : Bool) (o : Outcome) → (t ≡ true → Still o) → Still (unless a t o)
  unfolding afters
  unless_still a n true o g = g refl
  unless_still a n false o g = record { fold = b; base = vs; shows = refl; front = f; passed = done; holds = subst (λ z. P z (refusal a) w) (sym (none_done a n nothing)) (same a) }

  module _ (folds : (c : ℕ) → b < c → c ≤ last w.log → may_fold (shown w b vs) c ≡ true → Front w.log c (base_over (shown w b vs).log c (live (shown w b vs)) vs))
      (ends : (c : ℕ) → b < c → c ≤ last w.log → may_fold (shown w b vs) c ≡ true → Passed w c) where
    fold_still : (c : ℕ) → Still (decide (shown w b vs) (fold_to c))
    unfolding decide
    fold_still c =
        unless_still 5 (omega arith) (is_kept (shown w b vs) c && leb c (last (shown w b vs).log)) _
        (λ e. unless_still 17 (omega arith) (may_fold (shown w b vs) c) _
        (λ g.
        let q : b < c = ltb-true b c (and_left (is_kept (shown w b vs) c) _ e) in
        let r : c ≤ last (shown w b vs).log = leb-true c _ (and_right (is_kept (shown w b vs) c) _ e) in
        record {
          fold = c;
          base = base_over (shown w b vs).log c (live (shown w b vs)) vs;
          shows = row_folding (shown w b vs) c
              ∙ ap (with_log w) (fold_shown w.log b c vs (base_over (shown w b vs).log c (live (shown w b vs)) vs) (low w b vs f) (omega arith));
          front = folds c q (omega (arith, r, last_seen w b vs f)) g;
          passed = ends c q (omega (arith, r, last_seen w b vs f)) g;
          holds = same 0;
        }))

    decided : Tables w → (c : Call) → call ≡ c → Followed P (cond (eqb (decide (shown w b vs) c).reply.answer 0) (note_of (shown w b vs) c) nothing) (decide (shown w b vs) c).reply (afters (shown w b vs) (decide (shown w b vs) c).stores) (afters w (unless_fold c (decide (shown w b vs) c).stores))
    unfolding afters
    decided y (append ps) z = append_both ps z
    decided y (rollback i) z = rollback_both i
    decided y start z = start_both
    decided y stop z = stop_both
    decided y (connect n) z = connect_both n
    decided y (disconnect n) z = disconnect_both n
    decided y (master n) z = master_both n
    decided y (sync n) z = sync_both y n
    decided y (work n j i r c) z = work_both n j i r c
    decided y (fold_to c) z = fold_still c

    none_made : (c : Call) → unless_fold c [] ≡ []
    none_made (append ps) = refl
    none_made (rollback i) = refl
    none_made start = refl
    none_made stop = refl
    none_made (connect n) = refl
    none_made (disconnect n) = refl
    none_made (master n) = refl
    none_made (sync n) = refl
    none_made (work n j i r c) = refl
    none_made (fold_to c) = refl

    pub follow : Followed P (note (shown w b vs) call) (step (shown w b vs) call).reply (step (shown w b vs) call).next (afters w (unless_fold call (outcome (shown w b vs) call).stores))
    unfolding step outcome afters
    follow = go (well_formed (shown w b vs)) refl
      where
        go : (t : Bool) → well_formed (shown w b vs) ≡ t → (let o = unless 1 t (decide (shown w b vs) call) in Followed P (cond (eqb o.reply.answer 0) (note_of (shown w b vs) call) nothing) o.reply (afters (shown w b vs) o.stores) (afters w (unless_fold call o.stores)))
        go true e = decided (formed_tables (shown w b vs) e) call refl
        go false e = subst (λ es. Followed P nothing (refusal 1) (shown w b vs) (afters w es)) (sym (none_made call)) (record { fold = b; base = vs; shows = refl; front = f; passed = done; holds = same 1 })

-- Order 13: a synchronise stores the paths that differ and no other, and tells their count; no call changes the kind of a switch;
-- and one that remembers keeps its values. For every state, reached or not. Assumes nothing.
use Prim.Native.Nat.{ℕ, zero, suc, ◌+◌, ◌≤◌, ◌<◌}
use native.Mathlib.Omega.{arith}
use mathlib.Core.List.{List, [], ◌∷◌, ◌++◌, map, append-nil, map-append}
use mathlib.Core.Bool.{Bool, true, false, cond, ◌||◌, true≢false}
use mathlib.Core.Path.{◌≡◌, refl, sym, ap, ◌∙◌}
use lib.Dec.{eqb, ltb}
use lib.ListN.{get_or, length-append}
use borrow.Author.Tests.{eqb-true, eqb-false, eq-eqb, ne_eqb}
use Rattle.kinds.specs.declared.Progress.{Progress}
use Rattle.kinds.specs.declared.Progress.TheVariants.{Pending, InProgress, Complete}
use Rattle.kinds.specs.declared.Transaction.{Transaction}
use Rattle.kinds.specs.declared.Head.{Head}
use Rattle.kinds.specs.declared.Number.{Number}
use Rattle.kinds.specs.declared.Reply.{Reply}
use Rattle.rules.specs.declared.Plan.{Plan}
use Rattle.rules.specs.declared.Present.{Present}
use Rattle.rules.specs.declared.Order.{Order}
use Rattle.rules.specs.declared.Order.TheVariants.{Neither, EntryOnly, HeadOnly, EntryThenHead, HeadThenEntry, TargetThenHeadThenEntry}
use Rattle.rules.specs.Plans.{is_push}
use Rattle.rules.specs.Outside as outside
use Rattle.machine.specs.State.{State, absent, is_node, is_master, reaches_target}
use Rattle.machine.specs.Stores.{of_target, Store, value, configuration, connections, target, after, afters}
use Rattle.machine.specs.Differ.{differs_at, differ, differ_row}
use Rattle.machine.specs.WellFormed.{well_formed}
use Rattle.machine.specs.Calls.{Call, Outcome, stop, sync, refused, unless, answers, clear_row, copy_row, copy_count, counts, decide}
use Rattle.machine.specs.Step.{outcome, step, run}
use Rattle.machine.specs.Notes.{Note, nothing, wrote, half, full, push_note, sync_note, note}
use Rattle.machine.specs.Remember.{Rises, among, Differing, Remembers, Stops, Synchronises}
use Rattle.machine.proofs.Next.{putting, targeting, heading_net, performed_by}
use Rattle.machine.proofs.Kept.{refused_changes_nothing}
use Rattle.machine.proofs.Cases.{CommitChange, CommitRollback, ApplyChange, ApplyRollback}
use Rattle.machine.proofs.ByCall.{Calls, HasRoom, Does, by_call, remembered}

-- ---- the paths that differ
rises_on : (b k : ℕ) (ps : List ℕ) → Rises b k ps → Rises b (suc k) ps
unfolding Rises
rises_on b k [] r = omega arith
rises_on b k (p ∷ ps) r = (r.0, rises_on (suc p) k ps r.1)

rises_more : (b k : ℕ) (ps : List ℕ) → Rises b k ps → Rises b (suc k) (ps ++ (k ∷ []))
unfolding Rises
rises_more b k [] r = (r, omega arith)
rises_more b k (p ∷ ps) r = (r.0, rises_more (suc p) k ps r.1)

rises_low : (b k : ℕ) (ps : List ℕ) → Rises b k ps → b ≤ k
unfolding Rises
rises_low b k [] r = r
rises_low b k (p ∷ ps) r = omega (arith, r.0, rises_low (suc p) k ps r.1)

-- k itself is not among them
rises_none : (b k : ℕ) (ps : List ℕ) → Rises b k ps → among k ps ≡ false
unfolding Rises among
rises_none b k [] r = refl
rises_none b k (p ∷ ps) r = rw (ne_eqb k p (λ e. absurd (omega (arith, rises_low (suc p) k ps r.1)))) (rises_none (suc p) k ps r.1)

among_append : (p : ℕ) (ps qs : List ℕ) → among p (ps ++ qs) ≡ (among p ps || among p qs)
unfolding among
among_append p [] qs = refl
among_append p (q ∷ ps) qs = go (eqb p q) (among_append p ps qs)
  where
    go : (b : Bool) → among p (ps ++ qs) ≡ (among p ps || among p qs) → (b || among p (ps ++ qs)) ≡ ((b || among p ps) || among p qs)
    go true e = refl
    go false e = e

or_none : (b : Bool) → (b || false) ≡ b
or_none true = refl
or_none false = refl

module _ (k : ℕ) (ws vs : List ℕ) (x : Differing k ws vs) where
  abbrev stored : ℕ → Store
  stored p = value of_target p (get_or vs p 0)

  -- what the paths up to k come to, where those of k itself are ps
  these_on : (ps : List ℕ) → among k ps ≡ differs_at ws vs k → ((p : ℕ) → p < k → among p ps ≡ false) → (p : ℕ) → p < suc k → among p (x.paths ++ ps) ≡ differs_at ws vs p
  these_on ps e f p q = among_append p x.paths ps ∙ go (eqb p k) refl
    where
      go : (b : Bool) → eqb p k ≡ b → (among p x.paths || among p ps) ≡ differs_at ws vs p
      go true z = rw (eqb-true p k z) (rw (rises_none 0 k x.paths x.rise) e)
      go false z = let l : p < k = omega (arith, eqb-false p k z) in rw (f p l) (or_none _ ∙ x.these p l)

  differing_on : (b : Bool) → differs_at ws vs k ≡ b → Differing (suc k) ws vs
  unfolding differ differ_row among
  differing_on true e =
      record {
        paths = x.paths ++ (k ∷ []);
        rise = rises_more 0 k x.paths x.rise;
        these = these_on (k ∷ []) (rw (eq-eqb k k refl) (sym e)) (λ p q. rw (ne_eqb p k (λ z. absurd (omega arith))) refl);
        count = rw e (omega (arith, x.count, length-append x.paths (k ∷ [])));
        row = rw e (ap (λ es. es ++ (stored k ∷ [])) x.row ∙ sym (map-append stored x.paths (k ∷ [])));
      }
  differing_on false e =
      record {
        paths = x.paths;
        rise = rises_on 0 k x.paths x.rise;
        these = λ p q. sym (ap (among p) (append-nil x.paths)) ∙ these_on [] (sym e) (λ p q. refl) p q;
        count = rw e (omega (arith, x.count));
        row = rw e (append-nil _ ∙ x.row);
      }

pub differing : (k : ℕ) (ws vs : List ℕ) → Differing k ws vs
unfolding differ differ_row Rises
differing zero ws vs = record { paths = []; rise = omega arith; these = λ p q. absurd (omega arith); count = refl; row = refl }
differing (suc k) ws vs = differing_on k ws vs (differing k ws vs) (differs_at ws vs k) refl

-- ---- the calls
abbrev is_nothing : Note → Bool
is_nothing nothing = true
is_nothing wrote = false
is_nothing (half k) = false
is_nothing (full k) = false

abbrev is_pushed : Note → Bool
is_pushed nothing = false
is_pushed wrote = false
is_pushed (half k) = true
is_pushed (full k) = true

-- what holds of every plan holds of a job's, by every rule
module _ (t : Transaction) (h : Head) (i : ℕ) (P : Plan → Type 0) (f : (p : Plan) → P p) where
  any_1 : (c : Number) (rest : Bool) (vs : Present) → CommitChange t h i P c rest vs
  any_1 c rest vs =
      record {
        wait = f _;
        full = λ a b d. f _;
        begin = λ a b d. f _;
        aim = λ a b d. f _;
        land = λ a b d o e. f _;
        reject = λ a b. f _;
        finish = λ a b. f _;
        close = λ a b. f _;
      }

  any_2 : (settled line : Bool) → ApplyChange t h i P settled line
  any_2 settled line =
      record {
        wait = f _;
        no_line = f _;
        begin = λ a b d. f _;
        aim = λ a b d e. f _;
        abort = λ a b d e. f _;
        close_aborted = λ a b. f _;
        close_failed = λ a b. f _;
        finish = λ a b d. f _;
        fail = λ a b. f _;
        push = λ a b d. f _;
      }

  any_3 : (rest : Bool) → CommitRollback t h i P rest
  any_3 rest =
      record {
        wait = f _;
        full = λ a b d. f _;
        begin = λ a b d. f _;
        aim = λ a b d. f _;
        land = λ a b d o e. f _;
        finish = λ a b d. f _;
      }

  any_4 : (settled line : Bool) → ApplyRollback t h i P settled line
  any_4 settled line =
      record {
        wait = f _;
        no_line = f _;
        rejected = f _;
        begin = λ a b d e. f _;
        aim = λ a b d e. f _;
        cancel = λ a b d e. f _;
        close = λ a b. f _;
        finish = λ a b d. f _;
        push = λ a b d. f _;
      }

module _ (s : State) where
  -- of a call that is accepted
  abbrev Goes : Note → Reply → State → Type 0
  Goes x r next = r.answer ≡ 0 → Remembers s x r next

  -- nothing is written, and the values are kept where the switch remembers
  quiet : {r : Reply} (next : State) → next.net.target.remembers ≡ s.net.target.remembers → (s.net.target.remembers ≡ true → next.net.values ≡ s.net.values) → Remembers s nothing r next
  quiet next e f = record { kind = e; keeps = λ m z. f m; wrote = λ z. absurd (true≢false (ap is_nothing z)) }

  -- a plan keeps the nodes' side, but for a push
  module _ (commits : Bool) (p : Plan) (i : ℕ) where
    stays : {r : Reply} (next : State) → next.net ≡ s.net → Remembers s nothing r next
    stays next e = quiet next (ap (λ w. w.target.remembers) e) (λ m. ap (λ w. w.values) e)

    pushes : {r : Reply} (x : Note) (next : State) → is_pushed x ≡ true → next.net ≡ (targeting s p).net → Remembers s x r next
    pushes x next n e =
        record { kind = ap (λ w. w.target.remembers) e; keeps = λ m z. absurd (true≢false (sym n ∙ ap is_pushed z)); wrote = λ z. absurd (true≢false (sym n ∙ ap is_pushed z)) }

    by_order : {r : Reply} (o : Order) (first second : Bool) → Remembers s (push_note (is_push o) first i) r (performed_by o commits s p i first second)
    by_order Neither first second = stays s refl
    by_order EntryOnly first second = stays _ refl
    by_order HeadOnly first second = stays _ (heading_net commits s p i)
    by_order EntryThenHead true second = stays _ refl
    by_order EntryThenHead false second = stays _ (heading_net commits (putting s i p.entry) p i)
    by_order HeadThenEntry true second = stays _ (heading_net commits s p i)
    by_order HeadThenEntry false second = stays _ (heading_net commits s p i)
    by_order TargetThenHeadThenEntry true second = pushes (half i) _ refl refl
    by_order TargetThenHeadThenEntry false true = pushes (full i) _ refl (heading_net commits (targeting s p) p i)
    by_order TargetThenHeadThenEntry false false = pushes (full i) _ refl (heading_net commits (targeting s p) p i)

    job : (first second : Bool) → Does s Goes commits i first second p
    job first second e = rw (eq-eqb p.answer 0 e) (by_order p.order first second)

  stop_keeps : (m : Bool) → m ≡ true → remembered s.net m ≡ s.net.values
  stop_keeps true e = refl
  stop_keeps false e = absurd (true≢false (sym e))

  calls : Calls s Goes (HasRoom s Goes)
  calls =
      record {
        refused = λ a n z. absurd (omega arith);
        append = λ ps e f z. quiet _ refl (λ m. refl);
        rollback = λ i p q e z. quiet _ refl (λ m. refl);
        start = λ e z. quiet _ refl (λ m. refl);
        stop = λ z. quiet _ refl (stop_keeps s.net.target.remembers);
        connect = λ n p e z. quiet _ refl (λ m. refl);
        disconnect = λ n z. quiet _ refl (λ m. refl);
        elect = λ n p t e z. quiet _ refl (λ m. refl);
        resign = λ z. quiet _ refl (λ m. refl);
        syncing = λ z. quiet _ refl (λ m. refl);
        synced = λ z. record { kind = refl; keeps = λ m y. absurd (true≢false (sym (ap is_nothing y))); wrote = λ y. (refl, refl) };
        job1 = λ i p q first second. any_1 _ _ i _ (λ u. job true u i first second) _ _ _;
        job2 = λ n i p q first second. any_2 _ _ i _ (λ u. job false u i first second) _ _;
        job3 = λ i p q first second. any_3 _ _ i _ (λ u. job true u i first second) _;
        job4 = λ n i p q first second. any_4 _ _ i _ (λ u. job false u i first second) _ _;
      }

pub remembers : (s : State) (c : Call) → Remembers s (note s c) (step s c).reply (step s c).next
remembers s c = go (eqb (step s c).reply.answer 0) refl
  where
    go : (b : Bool) → eqb (step s c).reply.answer 0 ≡ b → Remembers s (note s c) (step s c).reply (step s c).next
    go true e = by_call s (Goes s) (λ f z. absurd (omega arith)) (λ f. calls s) (λ f b p q g z. quiet s _ refl (λ m. refl)) c (eqb-true _ 0 e)
    go false e = rw (e, (refused_changes_nothing s c (eqb-false _ 0 e)).0) (quiet s s refl (λ m. refl))

-- as it was when fresh
pub kind_fixed : (m : Bool) (cs : List Call) → (run m cs).state.net.target.remembers ≡ m
unfolding run
kind_fixed m [] = refl
kind_fixed m (c ∷ cs) = (remembers (run m cs).state c).kind ∙ kind_fixed m cs

-- ---- stop itself
pub stops : (s : State) → Stops s
unfolding step outcome decide afters after
stops s = go (well_formed s) s.net.target.running s.net.target.remembers
  where
    go : (b r m : Bool)
        → (let t = s.net.target in
        let x = cond r (outside.targeted 0 (record { id = t.id; running = false; remembers = t.remembers })) (outside.targeted 7 t) in
        let o = unless 1 b (answers x.answer (target x.target ∷ (clear_row m ++ (connections (map outside.off s.net.connections) ∷ [])))) in
        o.reply.answer ≡ 0 → (afters s o.stores).net.values ≡ cond m s.net.values absent)
    go true true true e = refl
    go true true false e = refl
    go true false m e = absurd (omega (arith, e))
    go false r m e = absurd (omega (arith, e))

-- ---- synchronise itself
module _ (s : State) where
  abbrev Syncs : Note → Outcome → Type 0
  Syncs x o = Synchronises s (cond (eqb o.reply.answer 0) x nothing) o

  unsynced : (x : Note) (a : ℕ) → 1 ≤ a → Syncs x (refused a)
  unsynced x a h =
      rw (ne_eqb a 0 (λ z. absurd (omega arith)))
      (record { writes = λ z. absurd (true≢false (ap is_nothing z)); begins = λ z e. absurd (omega (arith, e)) })

  unless_syncs : (x : Note) (a : ℕ) → 1 ≤ a → (b : Bool) (o : Outcome) → Syncs x o → Syncs x (unless a b o)
  unless_syncs x a h true o f = f
  unless_syncs x a h false o f = unsynced x a h

  syncs : (n : ℕ) → Syncs (sync_note s.net.configuration.state) (decide s (sync n))
  unfolding decide
  syncs n =
      unless_syncs _ 2 (omega arith) (is_node n) _
      (go (is_master s.net n) (ltb s.net.configuration.term.0 s.net.mastership.term.0) s.net.configuration.state (reaches_target s.net n))
    where
      go : (m l : Bool) (p : Progress) (r : Bool)
          → (let g = s.net.configuration in
          let x = cond m
          (cond l (outside.synchronise_by p g s.net.mastership.term r) (outside.synchronised 11 g false))
          (outside.synchronised 10 g false) in
          let ws = s.net.values in
          let vs = s.applied.values in
          Syncs (sync_note p) (counts x.answer (copy_count x.copies ws vs) (configuration x.configuration ∷ copy_row x.copies ws vs)))
      go false l p r = unsynced (sync_note p) 10 (omega arith)
      go true false p r = unsynced (sync_note p) 11 (omega arith)
      go true true Pending r = record { writes = λ z. absurd (true≢false (ap is_nothing z)); begins = λ z e. ((_, refl), refl) }
      go true true Complete r = record { writes = λ z. absurd (true≢false (ap is_nothing z)); begins = λ z e. ((_, refl), refl) }
      go true true InProgress true = record { writes = λ z. (_, refl); begins = λ z e. absurd (true≢false (sym (ap is_nothing z))) }
      go true true InProgress false = unsynced wrote 12 (omega arith)

  pub synchronises : (n : ℕ) → Synchronises s (note s (sync n)) (outcome s (sync n))
  unfolding step outcome
  synchronises n = unless_syncs _ 1 (omega arith) (well_formed s) _ (syncs n)

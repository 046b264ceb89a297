-- Every call by what it does: a property of a call's reply and of the state after it is one record with a field for each
-- way to accept a call, and one for all refusals. Assumes nothing.
use Prim.Native.Nat.{ℕ, suc, ◌+◌, ◌≤◌, ◌<◌}
use native.Mathlib.Omega.{arith}
use mathlib.Core.List.{List, [], ◌∷◌, ◌++◌, map}
use mathlib.Core.Bool.{Bool, true, false, ◌&&◌, cond}
use mathlib.Core.Path.{◌≡◌, refl, sym, subst}
use lib.Dec.{eqb, ltb, leb}
use lib.ListN.{length}
use borrow.Author.Tests.{eqb-true, ne_eqb, leb-true, ltb-true}
use Rattle.kinds.specs.declared.Reply.{Reply}
use Rattle.kinds.specs.declared.Term.{Term}
use Rattle.kinds.specs.declared.Progress.{Progress}
use Rattle.kinds.specs.declared.Progress.TheVariants.{Pending, InProgress, Complete}
use Rattle.kinds.specs.Numbers.{is_last, term_unless, next_term}
use Rattle.kinds.specs.Events.{numbered, refusal}
use Rattle.rules.specs.declared.Plan.{Plan}
use Rattle.rules.specs.Plans.{is_push}
use Rattle.rules.specs.Outside as outside
use Rattle.machine.specs.State.{State, Net, absent, entry_of, grown, last, in_log, is_kept, is_node, node_of, put_node, is_master, reaches_target, line_open_for}
use Rattle.machine.specs.Stores.{configuration, mastership, connections, target, with_log, with_net, after, afters}
use Rattle.machine.specs.Differ.{differ}
use Rattle.machine.specs.WellFormed.{all_entries, entry_ok, heads_ok, log_ok, well_formed}
use Rattle.machine.specs.Settled.{settled}
use Rattle.machine.specs.Rest.{rest_of}
use Rattle.machine.specs.LiveList.{live}
use Rattle.machine.specs.Folding.{may_fold}
use Rattle.machine.specs.Calls.{Pair, Call, Outcome, append, rollback, start, stop, connect, disconnect, master, sync, work, fold_to, refused, unless, answers, valid_change, appended, present_of, job1, job2, job3, job4, plan_of, commits, planned, work_ok, clear_row, copy_row, copy_count, counts, decide}
use Rattle.machine.specs.Rows.{event_of}
use Rattle.machine.specs.Step.{outcome, step}
use Rattle.machine.specs.Notes.{Note, nothing, wrote, push_note, sync_note, note_of, note}
use Rattle.machine.proofs.Next.{putting, performed, rows_performed, folding, row_folding, row_copying, with_configuration, with_mastership, with_connections, with_target}
use Rattle.machine.proofs.Cases.{and_left, and_right, CommitChange, commit_change_holds, CommitRollback, commit_rollback_holds, ApplyChange, apply_change_holds, ApplyRollback, apply_rollback_holds}

-- ---- the nodes' side after its calls
module _ (w : Net) where
  abbrev pub started : Net
  started = with_target w (record { id = w.target.id + 1; running = true; remembers = w.target.remembers })

  -- a target that remembers keeps its values
  abbrev pub remembered : Bool → List ℕ
  remembered true = w.values
  remembered false = absent

  abbrev pub stopped_with : List ℕ → Net
  stopped_with vs =
      record {
        configuration = w.configuration;
        mastership = w.mastership;
        connections = map outside.off w.connections;
        target = record { id = w.target.id; running = false; remembers = w.target.remembers };
        values = vs;
      }

  abbrev pub stopped : Net
  stopped = stopped_with (remembered w.target.remembers)

  abbrev pub connected : ℕ → Net
  connected n = with_connections w (put_node w.connections n (record { id = (node_of w.connections n).id + 1; connected = true }))

  abbrev pub disconnected : ℕ → Net
  disconnected n = with_connections w (put_node w.connections n (outside.off (node_of w.connections n)))

  abbrev pub elected : ℕ → Term → Net
  elected n t = with_mastership w (record { master = n; term = t; conn = (node_of w.connections n).id })

  abbrev pub resigned : Net
  resigned = with_mastership w (record { master = 0; term = w.mastership.term; conn = w.mastership.conn })

  abbrev pub syncing : Net
  syncing = with_configuration w (record { state = InProgress; term = w.configuration.term })

  abbrev pub synced : List ℕ → Net
  synced vs =
      record {
        configuration = record { state = Complete; term = w.mastership.term };
        mastership = w.mastership;
        connections = w.connections;
        target = w.target;
        values = vs;
      }

one_more : (t : Term) → is_last t.0 ≡ false → (next_term t).0 ≡ suc t.0
one_more t e = go (is_last t.0) e
  where
    go : (b : Bool) → b ≡ false → (term_unless b t.0).0 ≡ suc t.0
    go true e = cc
    go false e = omega arith

-- what a synchronise's row relies on, and every well-formed state has
abbrev pub Tables : State → Type 0
Tables s = (length s.net.values ≡ 32) × (length s.applied.values ≡ 32)

pub formed_tables : (s : State) → well_formed s ≡ true → Tables s
unfolding well_formed
formed_tables s e =
    let z = and_right (all_entries entry_ok s.log) _ (and_right (heads_ok s (last s.log)) _ (and_right (log_ok s.log) _ e)) in
    let sized = eqb (length s.committed.values) 32 && eqb (length s.committed.owners) 32 in
    let heads = sized && eqb (length s.applied.values) 32 in
    (eqb-true _ 32 (and_left (eqb (length s.net.values) 32) _ (and_right heads _ z)), eqb-true _ 32 (and_right sized _ (and_left heads _ z)))

-- what plan p for number i, cut c, does to the switch
abbrev pub note_at : Plan → ℕ → ℕ → Note
note_at p i c = push_note (is_push p.order) (eqb c 1) i

-- a property of what a call did to the switch, of its reply and of the state after it
module _ (s : State) (P : Note → Reply → State → Type 0) where
  -- a property of what job's plan for number i does
  abbrev pub Does : Bool → ℕ → (first second : Bool) → Plan → Type 0
  Does commits i first second p =
      P (cond (eqb p.answer 0) (push_note (is_push p.order) first i) nothing) (record { answer = p.answer; event = event_of p first }) (performed commits s p i first second)

  -- `Room` is what is told of an append
  pub record Calls (Room : List Pair → Type 0) : Type 0 where
    pub refused : (a : ℕ) → 2 ≤ a → P nothing (refusal a) s
    pub append : (ps : List Pair) → valid_change ps ≡ true → Room ps
        → P nothing (record { answer = 0; event = numbered (last s.log + 1) }) (with_log s (grown s.log (appended ps)))
    pub rollback : (i : ℕ) → s.log.folded.0 < i → i ≤ last s.log → outside.may_roll_back (entry_of s.log i) ≡ true
        → P nothing (refusal 0) (putting s i (outside.rolled_back (entry_of s.log i)))
    pub start : s.net.target.running ≡ false → P nothing (refusal 0) (with_net s (started s.net))
    pub stop : P nothing (refusal 0) (with_net s (stopped s.net))
    pub connect : (n : ℕ) → 1 ≤ n → s.net.target.running ≡ true → P nothing (refusal 0) (with_net s (connected s.net n))
    pub disconnect : (n : ℕ) → P nothing (refusal 0) (with_net s (disconnected s.net n))
    pub elect : (n : ℕ) → n ≤ 8 → (t : Term) → t.0 ≡ suc s.net.mastership.term.0 → P nothing (refusal 0) (with_net s (elected s.net n t))
    pub resign : P nothing (refusal 0) (with_net s (resigned s.net))
    pub syncing : P nothing (refusal 0) (with_net s (syncing s.net))
    pub synced : P wrote (record { answer = 0; event = numbered (differ 32 s.net.values s.applied.values) }) (with_net s (synced s.net s.applied.values))
    pub job1 : (i : ℕ) → s.log.folded.0 < i → i ≤ last s.log → (first second : Bool)
        → CommitChange (entry_of s.log i) s.committed.head i (Does true i first second) s.change (rest_of s) (present_of s (entry_of s.log i))
    pub job2 : (n i : ℕ) → s.log.folded.0 < i → i ≤ last s.log → (first second : Bool)
        → ApplyChange (entry_of s.log i) s.applied.head i (Does false i first second) (settled s) (line_open_for s.net n)
    pub job3 : (i : ℕ) → s.log.folded.0 < i → i ≤ last s.log → (first second : Bool)
        → CommitRollback (entry_of s.log i) s.committed.head i (Does true i first second) (rest_of s)
    pub job4 : (n i : ℕ) → s.log.folded.0 < i → i ≤ last s.log → (first second : Bool)
        → ApplyRollback (entry_of s.log i) s.applied.head i (Does false i first second) (settled s) (line_open_for s.net n)

  -- a fold stands apart: it keeps no entry's place
  abbrev pub Folds : Type 0
  Folds = (b : ℕ) → s.log.folded.0 < b → b ≤ last s.log → may_fold s b ≡ true → P nothing (refusal 0) (folding s b)

  -- of an outcome, which where it is accepted does x to the switch
  abbrev pub Of : Note → Outcome → Type 0
  Of x o = P (cond (eqb o.reply.answer 0) x nothing) o.reply (afters s o.stores)

  module _ {Room : List Pair → Type 0} (k : Calls Room) where
    refuses : (x : Note) (a : ℕ) → 2 ≤ a → Of x (refused a)
    unfolding afters
    refuses x a n = rw (ne_eqb a 0 (λ z. absurd (omega arith))) (k.refused a n)

    pub unless_of : (x : Note) (a : ℕ) → 2 ≤ a → (b : Bool) (o : Outcome) → (b ≡ true → Of x o) → Of x (unless a b o)
    unless_of x a n true o f = f refl
    unless_of x a n false o f = refuses x a n

    node_low : (n : ℕ) → is_node n ≡ true → 1 ≤ n
    node_low n e = leb-true 1 n (and_left (leb 1 n) _ e)

    node_high : (n : ℕ) → is_node n ≡ true → n ≤ 8
    node_high n e = leb-true n 8 (and_right (leb 1 n) _ e)

    pub start_of : Of nothing (decide s start)
    unfolding decide afters after
    start_of = go s.net.target.running refl (is_last s.net.target.id)
      where
        go : (r : Bool) → s.net.target.running ≡ r → (l : Bool)
            → (let t = s.net.target in
            let x = cond r (outside.targeted 7 t) (cond l (outside.targeted 9 t) (outside.targeted 0 (record { id = t.id + 1; running = true; remembers = t.remembers }))) in
            Of nothing (answers x.answer (target x.target ∷ [])))
        go true e l = refuses nothing 7 (omega arith)
        go false e true = refuses nothing 9 (omega arith)
        go false e false = k.start e

    pub stop_of : Of nothing (decide s stop)
    unfolding decide afters after
    stop_of = go s.net.target.running s.net.target.remembers k.stop
      where
        go : (r m : Bool) → P nothing (refusal 0) (with_net s (stopped_with s.net (remembered s.net m)))
            → (let t = s.net.target in
            let x = cond r (outside.targeted 0 (record { id = t.id; running = false; remembers = t.remembers })) (outside.targeted 7 t) in
            Of nothing (answers x.answer (target x.target ∷ (clear_row m ++ (connections (map outside.off s.net.connections) ∷ [])))))
        go true true h = h
        go true false h = h
        go false m h = refuses nothing 7 (omega arith)

    pub connect_of_holds : (n : ℕ) → Of nothing (decide s (connect n))
    unfolding decide afters after
    connect_of_holds n = unless_of nothing 2 (omega arith) (is_node n) _ (λ e. go e (node_of s.net.connections n).connected s.net.target.running refl (is_last (node_of s.net.connections n).id))
      where
        go : is_node n ≡ true → (c r : Bool) → s.net.target.running ≡ r → (l : Bool)
            → (let y = node_of s.net.connections n in
            let x = cond c (outside.answered 7 y)
            (cond r (cond l (outside.answered 9 y) (outside.answered 0 (record { id = y.id + 1; connected = true }))) (outside.answered 8 y)) in
            Of nothing (answers x.answer (connections (put_node s.net.connections n x.connection) ∷ [])))
        go e true r f l = refuses nothing 7 (omega arith)
        go e false true f true = refuses nothing 9 (omega arith)
        go e false true f false = k.connect n (node_low n e) f
        go e false false f l = refuses nothing 8 (omega arith)

    pub disconnect_of_holds : (n : ℕ) → Of nothing (decide s (disconnect n))
    unfolding decide afters after
    disconnect_of_holds n = unless_of nothing 2 (omega arith) (is_node n) _ (λ e. go (node_of s.net.connections n).connected)
      where
        go : (c : Bool)
            → (let y = node_of s.net.connections n in
            let x = cond c (outside.answered 0 (outside.off y)) (outside.answered 7 y) in
            Of nothing (answers x.answer (connections (put_node s.net.connections n x.connection) ∷ [])))
        go true = k.disconnect n
        go false = refuses nothing 7 (omega arith)

    pub master_of_holds : (n : ℕ) → Of nothing (decide s (master n))
    unfolding decide afters after
    master_of_holds n =
        unless_of nothing 2 (omega arith) (is_node n) _
        (λ e. let m = s.net.mastership in let y = node_of s.net.connections n in
        go e (y.connected && eqb m.master 0) (is_last m.term.0) refl (eqb m.master n) (y.connected && eqb y.id m.conn))
      where
        go : is_node n ≡ true → (z l : Bool) → is_last s.net.mastership.term.0 ≡ l → (b h : Bool)
            → (let m = s.net.mastership in
            let x = cond z
            (cond l (outside.mastered 9 m) (outside.mastered 0 (record { master = n; term = next_term m.term; conn = (node_of s.net.connections n).id })))
            (cond b
            (cond h (outside.mastered 11 m) (outside.mastered 0 (record { master = 0; term = m.term; conn = m.conn })))
            (outside.mastered 11 m)) in
            Of nothing (answers x.answer (mastership x.mastership ∷ [])))
        go e true true f b h = refuses nothing 9 (omega arith)
        go e true false f b h = k.elect n (node_high n e) _ (one_more s.net.mastership.term f)
        go e false l f true true = refuses nothing 11 (omega arith)
        go e false l f true false = k.resign
        go e false l f false h = refuses nothing 11 (omega arith)

    pub sync_of : Tables s → (n : ℕ) → Of (sync_note s.net.configuration.state) (decide s (sync n))
    unfolding decide afters after
    sync_of y n =
        unless_of _ 2 (omega arith) (is_node n) _
        (λ e. go (is_master s.net n) (ltb s.net.configuration.term.0 s.net.mastership.term.0) s.net.configuration.state (reaches_target s.net n))
      where
        go : (m l : Bool) (p : Progress) (r : Bool)
            → (let g = s.net.configuration in
            let x = cond m
            (cond l (outside.synchronise_by p g s.net.mastership.term r) (outside.synchronised 11 g false))
            (outside.synchronised 10 g false) in
            let ws = s.net.values in
            let vs = s.applied.values in
            Of (sync_note p) (counts x.answer (copy_count x.copies ws vs) (configuration x.configuration ∷ copy_row x.copies ws vs)))
        go false l p r = refuses (sync_note p) 10 (omega arith)
        go true false p r = refuses (sync_note p) 11 (omega arith)
        go true true Pending r = k.syncing
        go true true Complete r = k.syncing
        go true true InProgress true =
            subst (P wrote _) (sym (row_copying (with_net s (with_configuration s.net _)) s.applied.values y.0 y.1)) k.synced
        go true true InProgress false = refuses wrote 12 (omega arith)

    performs : (j : ℕ) (p : Plan) (i c : ℕ) → Does (commits j) i (eqb c 1) (eqb c 2) p → Of (note_at p i c) (planned j p i c)
    performs j p i c d =
        subst (P (cond (eqb p.answer 0) (note_at p i c) nothing) (record { answer = p.answer; event = event_of p (eqb c 1) }))
        (sym (rows_performed (commits j) s p i (eqb c 1) (eqb c 2))) d

    -- job j of node n for a number kept
    pub job_of : (n j i r c : ℕ) → s.log.folded.0 < i → i ≤ last s.log → Of (note_at (plan_of s n j i (eqb r 0)) i c) (planned j (plan_of s n j i (eqb r 0)) i c)
    unfolding plan_of
    job_of n j i r c p q = performs j _ i c (go (eqb j 1) (eqb j 2) refl (eqb j 3) refl)
      where
        go : (a b : Bool) → eqb j 2 ≡ b → (d : Bool) → eqb j 3 ≡ d
            → Does (Rattle.machine.specs.Calls.side_if a d) i (eqb c 1) (eqb c 2)
            (cond a (Rattle.machine.specs.Calls.job1 s i (eqb r 0))
            (cond b (Rattle.machine.specs.Calls.job2 s n i (eqb r 0)) (cond d (Rattle.machine.specs.Calls.job3 s i) (Rattle.machine.specs.Calls.job4 s n i (eqb r 0)))))
        go true b x d y = commit_change_holds _ _ i _ s.change (rest_of s) _ (eqb r 0) (k.job1 i p q (eqb c 1) (eqb c 2))
        go false true x false y = apply_change_holds _ _ i _ (settled s) (line_open_for s.net n) (eqb r 0) (k.job2 n i p q (eqb c 1) (eqb c 2))
        go false true x true y = absurd (omega (arith, eqb-true j 2 x, eqb-true j 3 y))
        go false false x true y = commit_rollback_holds _ _ i _ (rest_of s) (k.job3 i p q (eqb c 1) (eqb c 2))
        go false false x false y = apply_rollback_holds _ _ i _ (settled s) (line_open_for s.net n) (eqb r 0) (k.job4 n i p q (eqb c 1) (eqb c 2))

    work_of : (n j i r c : ℕ) → Of (note_of s (work n j i r c)) (decide s (work n j i r c))
    unfolding decide
    work_of n j i r c =
        unless_of _ 2 (omega arith) (work_ok n j r c) _
        (λ e. unless_of _ 5 (omega arith) (in_log s i) _
        (λ f. unless_of _ 18 (omega arith) (is_kept s i) _
        (λ u. unless_of _ 10 (omega arith) (is_master s.net n) _ (λ g. job_of n j i r c (ltb-true _ i u) (leb-true i _ (and_right (leb 1 i) _ f))))))

    append_of_holds : (ps : List Pair) → (length s.log.entries < 128 → last s.log < 65535 → Room ps) → Of nothing (decide s (append ps))
    unfolding decide afters after
    append_of_holds ps m =
        unless_of nothing 3 (omega arith) (valid_change ps) _
        (λ e. unless_of nothing 4 (omega arith) (ltb (length s.log.entries) 128) _
        (λ f. unless_of nothing 9 (omega arith) (ltb (last s.log) 65535) _ (λ g. k.append ps e (m (ltb-true _ _ f) (ltb-true _ _ g)))))

    rollback_of : (i : ℕ) → Of nothing (decide s (rollback i))
    unfolding decide afters after
    rollback_of i =
        unless_of nothing 5 (omega arith) (in_log s i) _
        (λ e. unless_of nothing 18 (omega arith) (is_kept s i) _
        (λ u. unless_of nothing 6 (omega arith) (outside.may_roll_back (entry_of s.log i)) _
        (λ f. k.rollback i (ltb-true _ i u) (leb-true i _ (and_right (leb 1 i) _ e)) f)))

    fold_of : Folds → (b : ℕ) → Of nothing (decide s (fold_to b))
    unfolding decide
    fold_of w b =
        unless_of nothing 5 (omega arith) (is_kept s b && leb b (last s.log)) _
        (λ e. unless_of nothing 17 (omega arith) (may_fold s b) _
        (λ f. subst (P nothing (refusal 0)) (sym (row_folding s b))
        (w b (ltb-true _ b (and_left (is_kept s b) _ e)) (leb-true b _ (and_right (is_kept s b) _ e)) f)))

  -- there is room for one more
  abbrev pub HasRoom : List Pair → Type 0
  HasRoom ps = (length s.log.entries < 128) × (last s.log < 65535)

  decide_of : Tables s → Calls HasRoom → Folds → (c : Call) → Of (note_of s c) (decide s c)
  decide_of y k w (append ps) = append_of_holds k ps (λ x y. (x, y))
  decide_of y k w (rollback i) = rollback_of k i
  decide_of y k w start = start_of k
  decide_of y k w stop = stop_of k
  decide_of y k w (connect n) = connect_of_holds k n
  decide_of y k w (disconnect n) = disconnect_of_holds k n
  decide_of y k w (master n) = master_of_holds k n
  decide_of y k w (sync n) = sync_of k y n
  decide_of y k w (work n j i r c) = work_of k n j i r c
  decide_of y k w (fold_to b) = fold_of k w b

  -- any call, in any state: where it is not well-formed, refusal 1
  pub by_call : (well_formed s ≡ false → P nothing (refusal 1) s) → (well_formed s ≡ true → Calls HasRoom) → (well_formed s ≡ true → Folds) → (c : Call)
      → P (note s c) (step s c).reply (step s c).next
  unfolding step outcome afters
  by_call r k w c = go (well_formed s) refl
    where
      go : (b : Bool) → well_formed s ≡ b → Of (note_of s c) (unless 1 b (decide s c))
      go true e = decide_of (formed_tables s e) (k e) (w e) c
      go false e = r e

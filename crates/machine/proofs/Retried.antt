-- A retry is harmless (Retry says what that is): a job cut before its last store and called again by the same node, with any outcome
-- and cut, leaves the state of the uncut job, and the two calls give its one event. So does a push cut at the first of its
-- three stores, called again with the same outcome and no cut. Calls on other nodes' connections may come between. It holds
-- of every well-formed state, so of every reached one. The rule that the retry meets is Begin after Aim, Finish after Land
-- and Push, Close after Reject, Abort, Fail and Cancel, and Push after the target's store. Assumes nothing.
use Prim.Native.Nat.{ℕ, zero, suc, ◌+◌, ◌≤◌, ◌<◌}
use native.Mathlib.Omega.{arith}
use mathlib.Core.List.{List, [], ◌∷◌}
use mathlib.Core.Bool.{Bool, true, false, not, ◌&&◌, ◌||◌, cond, true≢false}
use mathlib.Core.Path.{◌≡◌, refl, sym, ap, ◌∙◌, subst}
use lib.Dec.{eqb, ltb, leb}
use lib.Seq.{get_or-set_other}
use borrow.Author.Tests.{eqb-true, eq-eqb, ne_eqb, leb-true, le-leb, ltb-true}
use Rattle.kinds.specs.declared.Transaction.{Transaction}
use Rattle.kinds.specs.declared.Connection.{Connection}
use Rattle.kinds.specs.declared.Event.{Event}
use Rattle.kinds.specs.declared.Reply.{Reply}
use Rattle.kinds.specs.declared.Head.{Head}
use Rattle.kinds.specs.declared.Ordinal.{Ordinal}
use Rattle.kinds.specs.declared.Status.TheVariants.{Aborted, Canceled, Failed}
use Rattle.kinds.specs.Numbers.{num, ord}
use Rattle.kinds.specs.Records.{with_change, with_rollback}
use Rattle.kinds.specs.Events.{no_event, refusal}
use Rattle.rules.specs.declared.Plan.{Plan}
use Rattle.rules.specs.declared.Order.{Order}
use Rattle.rules.specs.declared.Order.TheVariants.{Neither, EntryOnly, HeadOnly, EntryThenHead, HeadThenEntry, TargetThenHeadThenEntry}
use Rattle.rules.specs.declared.CommitChangeRule.{CommitChangeRule}
use Rattle.rules.specs.declared.CommitChangeRule.TheVariants as change
use Rattle.rules.specs.declared.CommitRollbackRule.TheVariants as rollback
use Rattle.rules.specs.declared.ApplyChangeRule.TheVariants as apply
use Rattle.rules.specs.declared.ApplyRollbackRule.TheVariants as return
use Rattle.rules.specs.Plans.{head_only, is_push}
use Rattle.rules.specs.Heads.{aimed, landed, passed}
use Rattle.rules.specs.Sides.{invalid, apply_at}
use Rattle.rules.specs.CommitChange as job1
use Rattle.rules.specs.CommitRollback as job3
use Rattle.rules.specs.ApplyChange as job2
use Rattle.rules.specs.ApplyRollback as job4
use Rattle.rules.specs.Outside as outside
use Rattle.rules.specs.Outside.{line_open}
use Rattle.machine.specs.State.{State, Net, never, entry_of, put_entry, last, in_log, is_kept, is_node, node_of, put_node, is_master, line_open_for}
use Rattle.machine.specs.Stores.{connections, with_net, with_target_values, after, afters}
use Rattle.machine.specs.Rows.{event_of}
use Rattle.machine.specs.WellFormed.{well_formed}
use Rattle.machine.specs.Settled.{settled}
use Rattle.machine.specs.Rest.{rest_of}
use Rattle.rules.specs.declared.Connected.{Connected}
use Rattle.machine.specs.Calls.{Call, answers, accepted, append, rollback, start, stop, connect, disconnect, master, sync, work, fold_to, unless, present_of, job1, job2, job3, job4, plan_of, side_if, commits, work_ok, decide}
use Rattle.machine.specs.Step.{Stepped, outcome, step, run, state_from}
use Rattle.machine.specs.Retry.{leaves_last, elsewhere, all_elsewhere, Cut, may_retry, OneIs, sooner, later, cut, uncut, again, Harmless}
use Rattle.machine.proofs.Next.{putting, heading, heading_net, targeting, performed_by, performed, rows_performed, event_of_whole, with_connections}
use Rattle.machine.proofs.Overlay.{laid_again}
use Rattle.machine.proofs.Cases.{and_left, and_right, or_cases, commit_change_holds, commit_rollback_holds, apply_change_holds, apply_rollback_holds}
use Rattle.machine.proofs.Entries.{and_both, entry_put, last_put}
use Rattle.machine.proofs.Worked.{work_step}
use Rattle.machine.proofs.Kept.{formed, step_keeps_well_formed, reached_well_formed}

not_same : (b : Bool) → not b ≡ true → b ≡ true → ⊥
not_same true e h = true≢false (sym e)
not_same false e h = true≢false (sym h)

no_store : {A : Type 0} → false ≡ true → A
no_store e = let z : ◌≡◌ {A = ℕ} 0 1 = cc in absurd (omega arith)

-- ---- the job again
module _ (s : State) (i : ℕ) (b : Bool) (again : State → Plan) where
  -- after p's stores but the last, the nodes' side being w by then, the job plans p's last store alone
  pub record Last (p : Plan) (w : Net) (first second : Bool) : Type 0 where
    pub accepted : p.answer ≡ 0
    pub answer : (again (with_net (performed b s p i first second) w)).answer ≡ 0
    pub event : (c : Bool) → event_of (again (with_net (performed b s p i first second) w)) c ≡ no_event
    pub given : event_of p first ≡ p.event
    pub net : (performed b s p i first second).net ≡ (performed b s p i false false).net
    pub next : (c d : Bool)
        → performed b (with_net (performed b s p i first second) w) (again (with_net (performed b s p i first second) w)) i c d
        ≡ with_net (performed b s p i false false) w

  abbrev pub Again : Plan → Type 0
  Again p = (w : Net) (first second : Bool) → leaves_last p.order first second ≡ true → Last p w first second

  -- what p and the plan q of the retry are to show, of a cut after the first of two stores or after the second of three
  module _ (p q : Plan) (w : Net) where
    pub record Plans (first second : Bool) : Type 0 where
      pub plan : again (with_net (performed b s p i first second) w) ≡ q
      pub net : (performed b s p i first second).net ≡ (performed b s p i false false).net
      pub next : (c d : Bool) → performed b (with_net (performed b s p i first second) w) q i c d ≡ with_net (performed b s p i false false) w

    module _ (a : p.answer ≡ 0) (x : q.answer ≡ 0) (y : (c : Bool) → event_of q c ≡ no_event) where
      ends : (first second : Bool) → event_of p first ≡ p.event → Plans first second → Last p w first second
      ends first second g k =
          record {
            accepted = a;
            answer = ap (λ u. u.answer) k.plan ∙ x;
            event = λ c. ap (λ u. event_of u c) k.plan ∙ y c;
            given = g;
            net = k.net;
            next = λ c d. ap (λ u. performed b (with_net (performed b s p i first second) w) u i c d) k.plan ∙ k.next c d;
          }

      two : event_of p true ≡ p.event → ((second : Bool) → Plans true second) → (first second : Bool) → first ≡ true → Last p w first second
      two g k true second e = ends true second g (k second)
      two g k false second e = no_store e

      three : event_of p false ≡ p.event → Plans false true → (first second : Bool) → (not first && second) ≡ true → Last p w first second
      three g k true second e = no_store e
      three g k false true e = ends false true g k
      three g k false false e = no_store e

module _ (s : State) (i : ℕ) (p : s.log.folded.0 < i) (q : i ≤ last s.log) where
  abbrev en : Transaction
  en = entry_of s.log i

  -- the entry after its store
  stored : (t : Transaction) → entry_of (put_entry s.log i t) i ≡ t
  stored t = entry_put s.log i t p q

  self : eqb i i ≡ true
  self = eq-eqb i i refl

  -- ---- job 1
  module _ (retried : Bool) where
    abbrev Again1 : Plan → Type 0
    Again1 = Again s i true (λ m. job1 m i retried)

    abbrev plan1 : CommitChangeRule → Head → Ordinal → Plan
    plan1 x h o = job1.plans x en h (num i) o (present_of s en)

    again1 : (ok : Bool) → Again1 (job1 s i ok)
    again1 ok =
        let h = s.committed.head in
        let two = two s i true (λ m. job1 m i retried) in
        commit_change_holds en h i Again1 s.change (rest_of s) (present_of s en) ok
        (record {
          wait = λ w f g x. no_store x;
          full = λ a b d w f g x. no_store x;
          begin = λ a b d w f g x. no_store x;
          aim = λ e n r w. two (plan1 change.Aim h (ord 0)) (plan1 change.Begin (aimed h (num i)) (ord 0)) w refl refl (λ c. refl) refl
              (λ second. record { plan = simp (e, eq-eqb (s.change.0 + 1) i (omega arith), self); net = refl; next = λ c d. refl });
          land = λ e n b o g w. two (plan1 change.Land h o) (plan1 change.Finish (landed h (num i) (num i) o) (ord 0)) w refl refl (λ c. refl) refl
              (λ second. record { plan = simp (e, ne_eqb (i + 1) i (λ z. absurd (omega arith)), self); net = refl; next = λ c d. refl });
          reject = λ e n w. let t = with_change en (invalid en.change) in two (plan1 change.Reject h (ord 0)) (head_only t (passed h (num i)) true) w refl refl (λ c. refl) refl
              (λ second. record { plan = simp (stored t, eq-eqb (s.change.0 + 1) i (omega arith)); net = refl; next = λ c d. refl });
          finish = λ a b w f g x. no_store x;
          close = λ a b w f g x. no_store x;
        })

  -- ---- job 3: r.index is below i, so that after the landing the revision is no longer i
  again3 : en.index.0 < i → Again s i true (λ m. job3 m i) (job3 s i)
  again3 b =
      let h = s.committed.head in
      let two = two s i true (λ m. job3 m i) in
      commit_rollback_holds en h i (Again s i true (λ m. job3 m i)) (rest_of s)
      (record {
        wait = λ w f g x. no_store x;
        full = λ a b d w f g x. no_store x;
        begin = λ a b d w f g x. no_store x;
        aim = λ e n r w. two (job3.plans rollback.Aim en h (num i) (ord 0)) (job3.plans rollback.Begin en (aimed h en.index) (num i) (ord 0)) w refl refl (λ c. refl) refl
            (λ second. record { plan = simp (e, eq-eqb s.committed.head.revision.0 i n, eq-eqb en.index.0 en.index.0 refl); net = refl; next = λ c d. refl });
        land = λ e n d o g w. two (job3.plans rollback.Land en h (num i) o) (job3.plans rollback.Finish en (landed h (num i) en.index o) (num i) (ord 0)) w refl refl (λ c. refl) refl
            (λ second. record { plan = simp (e, ne_eqb en.index.0 i (λ z. absurd (omega arith)), eq-eqb en.index.0 en.index.0 refl); net = refl; next = λ c d. refl });
        finish = λ a b d w f g x. no_store x;
      })

  module _ (n : ℕ) (retried : Bool) where
    -- ---- job 2
    again2 : (ok : Bool) → Again s i false (λ m. job2 m n i retried) (job2 s n i ok)
    again2 ok =
        let h = s.applied.head in
        let two = two s i false (λ m. job2 m n i retried) in
        let three = three s i false (λ m. job2 m n i retried) in
        apply_change_holds en h i (Again s i false (λ m. job2 m n i retried)) (settled s) (line_open_for s.net n) ok
        (record {
          wait = λ w f g x. no_store x;
          no_line = λ w f g x. no_store x;
          begin = λ a b d w f g x. no_store x;
          aim = λ m e y v w. two (job2.plans apply.Aim en h (num i)) (job2.plans apply.Begin en (aimed h (num i)) (num i)) w refl refl (λ c. refl) refl
              (λ second. record { plan = simp (m.0, e, eq-eqb (h.ordinal.0 + 1) en.change.ordinal.0 (omega (arith, m.1)), self); net = refl; next = λ c d. refl });
          abort = λ m e y v w. let t = with_change en (apply_at en.change Aborted) in two (job2.plans apply.Abort en h (num i)) (job2.plans apply.Close t h (num i)) w refl refl (λ c. refl) refl
              (λ second. record { plan = rw (stored t) (simp (m.0, eq-eqb (h.ordinal.0 + 1) en.change.ordinal.0 (omega (arith, m.1)))); net = refl; next = λ c d. refl });
          close_aborted = λ a b w f g x. no_store x;
          close_failed = λ a b w f g x. no_store x;
          finish = λ a b d w f g x. no_store x;
          fail = λ m e w. let t = with_change en (apply_at en.change Failed) in two (job2.plans apply.Fail en h (num i)) (job2.plans apply.Close t h (num i)) w refl refl (λ c. refl) refl
              (λ second. record { plan = rw (stored t) (simp (m.0, eq-eqb (h.ordinal.0 + 1) en.change.ordinal.0 (omega (arith, m.1)))); net = refl; next = λ c d. refl });
          push = λ m e y w. three (job2.plans apply.Push en h (num i)) (job2.plans apply.Finish en (landed h (num i) (num i) en.change.ordinal) (num i)) w refl refl (λ c. refl) refl
              (record { plan = simp (m.0, e, le-leb 1 en.change.ordinal.0 (omega (arith, m.1)), eq-eqb en.change.ordinal.0 en.change.ordinal.0 refl); net = refl; next = λ c d. refl });
        })

    -- ---- job 4
    again4 : (ok : Bool) → Again s i false (λ m. job4 m n i retried) (job4 s n i ok)
    again4 ok =
        let h = s.applied.head in
        let two = two s i false (λ m. job4 m n i retried) in
        let three = three s i false (λ m. job4 m n i retried) in
        apply_rollback_holds en h i (Again s i false (λ m. job4 m n i retried)) (settled s) (line_open_for s.net n) ok
        (record {
          wait = λ w f g x. no_store x;
          no_line = λ w f g x. no_store x;
          rejected = λ w f g x. no_store x;
          begin = λ a b d k w f g x. no_store x;
          aim = λ m e y v w. two (job4.plans return.Aim en h (num i)) (job4.plans return.Begin en (aimed h en.index) (num i)) w refl refl (λ c. refl) refl
              (λ second. record { plan = simp (m.0, e, y, eq-eqb (h.ordinal.0 + 1) en.rollback.ordinal.0 (omega (arith, m.1)), eq-eqb en.index.0 en.index.0 refl); net = refl; next = λ c d. refl });
          cancel = λ m e y v w. let t = with_rollback en (apply_at en.rollback Canceled) in two (job4.plans return.Cancel en h (num i)) (job4.plans return.Close t h (num i)) w refl refl (λ c. refl) refl
              (λ second. record { plan = rw (stored t) (simp (m.0, eq-eqb (h.ordinal.0 + 1) en.rollback.ordinal.0 (omega (arith, m.1)))); net = refl; next = λ c d. refl });
          close = λ a b w f g x. no_store x;
          finish = λ a b d w f g x. no_store x;
          push = λ m e y w. three (job4.plans return.Push en h (num i)) (job4.plans return.Finish en (landed h (num i) en.index en.rollback.ordinal) (num i)) w refl refl (λ c. refl) refl
              (record { plan = simp (m.0, e, le-leb 1 en.rollback.ordinal.0 (omega (arith, m.1)), eq-eqb en.rollback.ordinal.0 en.rollback.ordinal.0 refl); net = refl; next = λ c d. refl });
        })

    -- ---- every job
    again_any : en.index.0 < i → (j : ℕ) (ok : Bool) → Again s i (commits j) (λ m. plan_of m n j i retried) (plan_of s n j i ok)
    unfolding plan_of
    again_any b j ok = go (eqb j 1) (eqb j 2) refl (eqb j 3) refl
      where
        go : (x y : Bool) → eqb j 2 ≡ y → (z : Bool) → eqb j 3 ≡ z
            → Again s i (side_if x z)
            (λ m. cond x (job1 m i retried) (cond y (job2 m n i retried) (cond z (job3 m i) (job4 m n i retried))))
            (cond x (job1 s i ok) (cond y (job2 s n i ok) (cond z (job3 s i) (job4 s n i ok))))
        go true y ey z ez = again1 retried ok
        go false true ey true ez = absurd (omega (arith, eqb-true j 2 ey, eqb-true j 3 ez))
        go false true ey false ez = again2 ok
        go false false ey true ez = again3 b
        go false false ey false ez = again4 ok

stepped : {a b : ℕ} {e f : Event} {x y : State} → a ≡ b → e ≡ f → x ≡ y
    → ◌≡◌ {A = Stepped} (record { reply = record { answer = a; event = e }; next = x }) (record { reply = record { answer = b; event = f }; next = y })
stepped g h k = rw (g, h, k) refl

-- no store of a plan changes the highest number, the last fold or the mastership
module _ (s : State) (p : Plan) (i : ℕ) where
  pub record Same (u : State) : Type 0 where
    pub log : last u.log ≡ last s.log
    pub fold : u.log.folded.0 ≡ s.log.folded.0
    pub master : u.net.mastership ≡ s.net.mastership

  kept : (o : Order) (b first second : Bool) → Same (performed_by o b s p i first second)
  kept Neither b first second = record { log = refl; fold = refl; master = refl }
  kept EntryOnly b first second = record { log = last_put s.log i p.entry; fold = refl; master = refl }
  kept HeadOnly true first second = record { log = refl; fold = refl; master = refl }
  kept HeadOnly false first second = record { log = refl; fold = refl; master = refl }
  kept EntryThenHead b true second = record { log = last_put s.log i p.entry; fold = refl; master = refl }
  kept EntryThenHead true false second = record { log = last_put s.log i p.entry; fold = refl; master = refl }
  kept EntryThenHead false false second = record { log = last_put s.log i p.entry; fold = refl; master = refl }
  kept HeadThenEntry true true second = record { log = refl; fold = refl; master = refl }
  kept HeadThenEntry false true second = record { log = refl; fold = refl; master = refl }
  kept HeadThenEntry true false second = record { log = last_put s.log i p.entry; fold = refl; master = refl }
  kept HeadThenEntry false false second = record { log = last_put s.log i p.entry; fold = refl; master = refl }
  kept TargetThenHeadThenEntry b true second = record { log = refl; fold = refl; master = refl }
  kept TargetThenHeadThenEntry true false true = record { log = refl; fold = refl; master = refl }
  kept TargetThenHeadThenEntry false false true = record { log = refl; fold = refl; master = refl }
  kept TargetThenHeadThenEntry true false false = record { log = last_put s.log i p.entry; fold = refl; master = refl }
  kept TargetThenHeadThenEntry false false false = record { log = last_put s.log i p.entry; fold = refl; master = refl }

-- ---- calls on other nodes' connections
-- the table after connect or disconnect of node k that its rule answered so
abbrev table_if : List Connection → ℕ → Connected → List Connection
table_if l k x = cond (is_node k && eqb x.answer 0) (put_node l k x.connection) l

-- `running`: the target's
abbrev table_after : Bool → List Connection → Call → List Connection
table_after running l (append ps) = l
table_after running l (rollback i) = l
table_after running l start = l
table_after running l stop = l
table_after running l (connect k) = table_if l k (outside.connect (node_of l k) running)
table_after running l (disconnect k) = table_if l k (outside.disconnect (node_of l k))
table_after running l (master k) = l
table_after running l (sync k) = l
table_after running l (work k j i r c) = l
table_after running l (fold_to b) = l

unfoldable tables_after : Bool → List Connection → List Call → List Connection
tables_after running l [] = l
tables_after running l (c ∷ cs) = table_after running (tables_after running l cs) c

-- the state with the connections after those calls, and everything else as it was
abbrev rewired : State → List Call → State
rewired s cs = with_net s (with_connections s.net (tables_after s.net.target.running s.net.connections cs))

abbrev rowed : State → ℕ → Bool → Connected → State
rowed s k b x = afters s (unless 2 b (answers x.answer (connections (put_node s.net.connections k x.connection) ∷ []))).stores

table_row : (s : State) (k : ℕ) (b : Bool) (x : Connected)
    → rowed s k b x ≡ with_net s (with_connections s.net (cond (b && eqb x.answer 0) (put_node s.net.connections k x.connection) s.net.connections))
unfolding afters after
table_row s k false x = refl
table_row s k true x = go (eqb x.answer 0)
  where
    go : (a : Bool) → afters s (unless x.answer a (accepted (connections (put_node s.net.connections k x.connection) ∷ []))).stores
        ≡ with_net s (with_connections s.net (cond a (put_node s.net.connections k x.connection) s.net.connections))
    go true = refl
    go false = refl

module _ (n : ℕ) where
  elsewhere_step : (s : State) → well_formed s ≡ true → (c : Call) → elsewhere n c ≡ true
      → (step s c).next ≡ with_net s (with_connections s.net (table_after s.net.target.running s.net.connections c))
  unfolding step outcome decide
  elsewhere_step s w (append ps) e = no_store e
  elsewhere_step s w (rollback i) e = no_store e
  elsewhere_step s w start e = no_store e
  elsewhere_step s w stop e = no_store e
  elsewhere_step s w (connect k) e = rw w (table_row s k (is_node k) (outside.connect (node_of s.net.connections k) s.net.target.running))
  elsewhere_step s w (disconnect k) e = rw w (table_row s k (is_node k) (outside.disconnect (node_of s.net.connections k)))
  elsewhere_step s w (master k) e = no_store e
  elsewhere_step s w (sync k) e = no_store e
  elsewhere_step s w (work k j i r c) e = no_store e
  elsewhere_step s w (fold_to b) e = no_store e

  from_formed : (s : State) → well_formed s ≡ true → (cs : List Call) → well_formed (state_from s cs) ≡ true
  unfolding state_from
  from_formed s w [] = w
  from_formed s w (c ∷ cs) = step_keeps_well_formed (state_from s cs) c (from_formed s w cs)

  -- such calls change connections and nothing else
  from_elsewhere : (s : State) → well_formed s ≡ true → (cs : List Call) → all_elsewhere n cs ≡ true → state_from s cs ≡ rewired s cs
  unfolding state_from all_elsewhere tables_after
  from_elsewhere s w [] e = refl
  from_elsewhere s w (c ∷ cs) e =
      elsewhere_step (state_from s cs) (from_formed s w cs) c (and_left (elsewhere n c) _ e)
      ∙ ap (λ u. with_net u (with_connections u.net (table_after u.net.target.running u.net.connections c)))
      (from_elsewhere s w cs (and_right (elsewhere n c) _ e))

  -- and leave the connection of node n
  put_other : (l : List Connection) (k i : ℕ) (x : Connection) → (i ≡ k → ⊥) → node_of (put_node l k x) i ≡ node_of l i
  put_other l zero i x h = refl
  put_other l (suc k) zero x h = refl
  put_other l (suc k) (suc i) x h = get_or-set_other l k i x never (λ e. h (ap suc e))

  own_if : (l : List Connection) (k : ℕ) (x : Connected) → not (eqb k n) ≡ true → node_of (table_if l k x) n ≡ node_of l n
  own_if l k x e = go (is_node k && eqb x.answer 0)
    where
      go : (b : Bool) → node_of (cond b (put_node l k x.connection) l) n ≡ node_of l n
      go true = put_other l k n x.connection (λ z. absurd (not_same (eqb k n) e (eq-eqb k n (sym z))))
      go false = refl

  own_after : (running : Bool) (l : List Connection) (cs : List Call) → all_elsewhere n cs ≡ true → node_of (tables_after running l cs) n ≡ node_of l n
  unfolding all_elsewhere tables_after
  own_after running l [] e = refl
  own_after running l (c ∷ cs) e = by c (and_left (elsewhere n c) _ e) ∙ own_after running l cs (and_right (elsewhere n c) _ e)
    where
      by : (c : Call) → elsewhere n c ≡ true → node_of (table_after running (tables_after running l cs) c) n ≡ node_of (tables_after running l cs) n
      by (append ps) e = refl
      by (rollback i) e = refl
      by start e = refl
      by stop e = refl
      by (connect k) e = own_if (tables_after running l cs) k (outside.connect (node_of (tables_after running l cs) k) running) e
      by (disconnect k) e = own_if (tables_after running l cs) k (outside.disconnect (node_of (tables_after running l cs) k)) e
      by (master k) e = refl
      by (sync k) e = refl
      by (work k j i r c) e = refl
      by (fold_to b) e = refl

-- ---- the promise
is_sooner : {u a b : Reply} → a ≡ u → b ≡ refusal 0 → OneIs u a b
is_sooner {u} {a} f g = subst (λ b. OneIs u a b) (sym g) (subst (λ a. OneIs u a (refusal 0)) (sym f) sooner)

is_later : {u a b : Reply} → a ≡ refusal 0 → b ≡ u → OneIs u a b
is_later {u} {a} f g = subst (λ b. OneIs u a b) (sym g) (subst (λ a. OneIs u a u) (sym f) later)

replied : {a b : ℕ} {e f : Event} → a ≡ b → e ≡ f → ◌≡◌ {A = Reply} (record { answer = a; event = e }) (record { answer = b; event = f })
replied g h = rw (g, h) refl

event_of_first : (p : Plan) (first : Bool) → is_push p.order ≡ true → first ≡ true → event_of p first ≡ no_event
event_of_first p first h g = ap (λ b. cond (b && first) no_event p.event) h ∙ ap (λ b. cond b no_event p.event) g

push_is : (o : Order) → is_push o ≡ true → o ≡ TargetThenHeadThenEntry
push_is Neither e = no_store e
push_is EntryOnly e = no_store e
push_is HeadOnly e = no_store e
push_is EntryThenHead e = no_store e
push_is HeadThenEntry e = no_store e
push_is TargetThenHeadThenEntry e = refl

push_last : (o : Order) → is_push o ≡ true → leaves_last o false true ≡ true
push_last o e = ap (λ v. leaves_last v false true) (push_is o e)

-- the target's values are laid over twice, and that is once
push_twice : (b : Bool) (s : State) (p : Plan) (i : ℕ) (l : List Connection)
    → (let w = with_connections (targeting s p).net l in
    putting (heading b (targeting (with_net s w) p) p i) i p.entry ≡ with_net (putting (heading b (targeting s p) p i) i p.entry) w)
push_twice true s p i l =
    ap (λ vs. putting (heading true (with_net s (with_target_values (with_connections s.net l) vs)) p i) i p.entry) (laid_again p.lay p.entry s.net.values)
push_twice false s p i l =
    ap (λ vs. putting (heading false (with_net s (with_target_values (with_connections s.net l) vs)) p i) i p.entry) (laid_again p.lay p.entry s.net.values)

plan_same : (s : State) (w : Net) (n j i : ℕ) (ok : Bool) → line_open_for w n ≡ line_open_for s.net n → plan_of (with_net s w) n j i ok ≡ plan_of s n j i ok
unfolding plan_of
plan_same s w n j i ok e =
    ap (λ v. cond (eqb j 1) (job1 s i ok)
    (cond (eqb j 2) (job2.apply_change (entry_of s.log i) s.applied.head (settled s) (num i) v ok)
    (cond (eqb j 3) (job3 s i) (job4.apply_rollback (entry_of s.log i) s.applied.head (settled s) (num i) v ok)))) e

module _ (s : State) (n j i r x q c : ℕ) (cs : List Call) where
  abbrev done : Stepped
  done = cut s n j i r x q c cs

  abbrev entire : Stepped
  entire = uncut s n j i r x q c cs

  abbrev retry : Stepped
  retry = again s n j i r x q c cs

  abbrev Unharmed : Type 0
  Unharmed = Harmless s n j i r x q c cs

  module _ (f : well_formed s ≡ true) (k : Cut s n j i r x) (a : work_ok n j q c ≡ true) (e : all_elsewhere n cs ≡ true) where
    abbrev p : Plan
    p = plan_of s n j i (eqb r 0)

    -- after the stores that the cut leaves, and after all
    abbrev partly : State
    partly = performed (commits j) s p i (eqb x 1) (eqb x 2)

    abbrev wholly : State
    wholly = performed (commits j) s p i false false

    abbrev between : State
    between = rewired partly cs

    abbrev uncut_args : work_ok n j r 0 ≡ true
    uncut_args = and_both _ _ (and_left (is_node n && (leb 1 j && leb j 4)) _ k.args) (and_both _ _ (and_left (leb r 1) (leb x 2) (and_right (is_node n && (leb 1 j && leb j 4)) _ k.args)) refl)

    cut_is : done ≡ record { reply = record { answer = p.answer; event = event_of p (eqb x 1) }; next = partly }
    cut_is = work_step s n j i r x f k.args k.number k.kept k.master

    uncut_is : entire ≡ record { reply = record { answer = p.answer; event = event_of p false }; next = wholly }
    uncut_is = work_step s n j i r 0 f uncut_args k.number k.kept k.master

    between_is : state_from done.next cs ≡ between
    between_is = from_elsewhere n done.next (step_keeps_well_formed s (work n j i r x) f) cs e ∙ ap (λ o. rewired o.next cs) cut_is

    between_formed : well_formed between ≡ true
    between_formed = subst (λ u. well_formed u ≡ true) between_is (from_formed n done.next (step_keeps_well_formed s (work n j i r x) f) cs)

    again_is : retry ≡ record {
      reply = record { answer = (plan_of between n j i (eqb q 0)).answer; event = event_of (plan_of between n j i (eqb q 0)) (eqb c 1) };
      next = performed (commits j) between (plan_of between n j i (eqb q 0)) i (eqb c 1) (eqb c 2);
    }
    again_is =
        let y = kept s p i p.order (commits j) (eqb x 1) (eqb x 2) in
        ap (λ u. step u (work n j i q c)) between_is
        ∙ work_step between n j i q c between_formed a (ap (λ l. leb 1 i && leb i l) y.log ∙ k.number) (ap (λ b. ltb b i) y.fold ∙ k.kept) (ap (λ m. eqb m.master n) y.master ∙ k.master)

    -- what is left to show: the plan of the retry leads to the uncut job's state on this side's net
    harmless : retry.next ≡ with_net wholly between.net → partly.net ≡ wholly.net → OneIs entire.reply done.reply retry.reply → Unharmed
    unfolding after
    harmless g v o =
        let y : retry.next ≡ rewired entire.next cs = g
        ∙ ap (λ w. with_net wholly (with_connections w (tables_after w.target.running w.connections cs))) v
        ∙ sym (ap (λ o. rewired o.next cs) uncut_is) in
        record {
          state = y ∙ sym (from_elsewhere n entire.next (step_keeps_well_formed s (work n j i r 0) f) cs e);
          agrees = y ∙ ap (λ l. with_net entire.next (with_connections entire.next.net l)) (sym (ap (λ u. u.net.connections) y));
          own = ap (λ u. node_of u.net.connections n) y ∙ own_after n entire.next.net.target.running entire.next.net.connections cs e;
          event = o;
        }

    last_store : (first second : Bool) (w : Net) → leaves_last p.order first second ≡ true → Last s i (commits j) (λ m. plan_of m n j i (eqb q 0)) p w first second
    last_store first second w =
        let y : s.log.folded.0 < i = ltb-true _ i k.kept in
        let z : i ≤ last s.log = leb-true i _ (and_right (leb 1 i) _ k.number) in
        again_any s i y z n (eqb q 0) ((formed s f).entries i y z).below j (eqb r 0) w first second

    by_last : leaves_last p.order (eqb x 1) (eqb x 2) ≡ true → Unharmed
    by_last h =
        let y = last_store (eqb x 1) (eqb x 2) between.net h in
        harmless (ap (λ o. o.next) again_is ∙ y.next (eqb c 1) (eqb c 2)) y.net
        (is_sooner
        (ap (λ o. o.reply) cut_is ∙ ap (λ v. record { answer = p.answer; event = v }) (y.given ∙ sym (event_of_whole p)) ∙ sym (ap (λ o. o.reply) uncut_is))
        (ap (λ o. o.reply) again_is ∙ replied y.answer (y.event (eqb c 1))))

    -- a push cut at its first store, and called again with the same outcome and no cut
    module _ (h : is_push p.order ≡ true) (g : eqb x 1 ≡ true) (y : eqb q r ≡ true) (z : eqb c 0 ≡ true) where
      abbrev pushed : State
      pushed = rewired (targeting s p) cs

      partly_is : partly ≡ targeting s p
      partly_is =
          ap (λ o. performed_by o (commits j) s p i (eqb x 1) (eqb x 2)) (push_is p.order h)
          ∙ ap (λ b. performed_by TargetThenHeadThenEntry (commits j) s p i b (eqb x 2)) g

      wholly_is : (u : State) → performed (commits j) u p i false false ≡ putting (heading (commits j) (targeting u p) p i) i p.entry
      wholly_is u = ap (λ o. performed_by o (commits j) u p i false false) (push_is p.order h)

      between_pushed : between ≡ pushed
      between_pushed = ap (λ u. rewired u cs) partly_is

      -- the line is as open as it was, so the plan is the same
      replans : plan_of pushed n j i (eqb q 0) ≡ p
      replans =
          plan_same s pushed.net n j i (eqb q 0) (ap (λ v. line_open n v s.net.mastership s.net.target s.net.configuration) (own_after n s.net.target.running s.net.connections cs e))
          ∙ ap (λ v. plan_of s n j i (eqb v 0)) (eqb-true q r y)

      replans_between : plan_of between n j i (eqb q 0) ≡ p
      replans_between = ap (λ u. plan_of u n j i (eqb q 0)) between_pushed ∙ replans

      again_pushes : retry ≡ record { reply = record { answer = p.answer; event = event_of p false }; next = performed (commits j) pushed p i false false }
      again_pushes =
          again_is
          ∙ ap (λ v. record { reply = record { answer = v.answer; event = event_of v (eqb c 1) }; next = performed (commits j) between v i (eqb c 1) (eqb c 2) }) replans_between
          ∙ ap (λ v. record { reply = record { answer = p.answer; event = event_of p (eqb v 1) }; next = performed (commits j) between p i (eqb v 1) (eqb v 2) }) (eqb-true c 0 z)
          ∙ ap (λ u. record { reply = record { answer = p.answer; event = event_of p false }; next = performed (commits j) u p i false false }) between_pushed

      by_push : Unharmed
      by_push =
          harmless
          (ap (λ o. o.next) again_pushes ∙ wholly_is pushed ∙ push_twice (commits j) s p i _ ∙ sym (ap (λ u. with_net u pushed.net) (wholly_is s))
          ∙ sym (ap (λ u. with_net wholly u.net) between_pushed))
          (ap (λ u. u.net) partly_is ∙ sym (ap (λ u. u.net) (wholly_is s) ∙ heading_net (commits j) (targeting s p) p i))
          (is_later
          (ap (λ o. o.reply) cut_is ∙ replied (last_store false true s.net (push_last p.order h)).accepted (event_of_first p (eqb x 1) h g))
          (ap (λ o. o.reply) again_pushes ∙ sym (ap (λ o. o.reply) uncut_is)))

    pub retry_harmless : may_retry p.order x r q c ≡ true → Unharmed
    retry_harmless m =
        or_cases (leaves_last p.order (eqb x 1) (eqb x 2)) _ m by_last
        (λ h. let g : (eqb x 1 && (eqb q r && eqb c 0)) ≡ true = and_right (is_push p.order) _ h in
        let y : (eqb q r && eqb c 0) ≡ true = and_right (eqb x 1) _ g in
        by_push (and_left (is_push p.order) _ h) (and_left (eqb x 1) _ g) (and_left (eqb q r) _ y) (and_right (eqb q r) _ y))

-- from any reached state
pub reached_retry : (m : Bool) (past : List Call) (n j i r x q c : ℕ) (cs : List Call) → Cut (run m past).state n j i r x → work_ok n j q c ≡ true → all_elsewhere n cs ≡ true
    → may_retry (plan_of (run m past).state n j i (eqb r 0)).order x r q c ≡ true
    → Harmless (run m past).state n j i r x q c cs
reached_retry m past n j i r x q c cs k a e = retry_harmless (run m past).state n j i r x q c cs (reached_well_formed m past) k a e

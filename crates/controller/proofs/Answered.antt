-- Each answer of each call, over variables: the reply and the image are those that the machine decides. Assumes nothing.
use Prim.Native.Nat.{ℕ, ◌+◌, ◌-◌, ◌≤◌, ◌<◌, ◌%◌}
use mathlib.Core.Path.{◌≡◌, refl, ap, ap₂, sym, ◌∙◌}
use mathlib.Core.Logic.{inl}
use mathlib.Core.Bool.{Bool, true, false, ◌&&◌}
use mathlib.Core.List.{List, [], ◌∷◌, ◌++◌, map}
use native.Mathlib.Omega.{arith}
use borrow.Author.Tests.{eq-eqb, ne_eqb, leb-true, lt-ltb, le-ltb}
use lib.Dec.{eqb, leb, ltb}
use lib.ListN.{length}
use Rattle.kinds.specs.declared.Transaction.{Transaction}
use Rattle.kinds.specs.declared.Reply.{Reply}
use Rattle.kinds.specs.declared.Event.{Event}
use Rattle.kinds.specs.declared.Number.{Number}
use Rattle.kinds.specs.declared.Connection.{Connection}
use Rattle.kinds.specs.declared.Mastership.{Mastership}
use Rattle.kinds.specs.declared.Target.{Target}
use Rattle.kinds.specs.declared.Configuration.{Configuration}
use Rattle.kinds.specs.declared.Status.TheVariants.{None}
use Rattle.kinds.specs.Numbers.{num}
use Rattle.kinds.specs.Events.{numbered, refusal}
use Rattle.rules.specs.declared.Plan.{Plan}
use Rattle.rules.specs.declared.Targeted.{Targeted}
use Rattle.rules.specs.declared.Mastered.{Mastered}
use Rattle.rules.specs.declared.Synchronised.{Synchronised}
use Rattle.rules.specs.Outside as outside
use Rattle.machine.specs.State.{absent, entry_of, last, in_log, is_kept, is_node, node_of, is_master}
use Rattle.machine.specs.Stores.{Store, of_applied, of_target, grow, entry, target_values, configuration, mastership, connections, target}
use Rattle.machine.specs.Rows.{rows_of, event_of}
use Rattle.machine.specs.Calls.{Call, Outcome, rollback, start, stop, connect, disconnect, master, sync, work, refused, accepted, answers, valid_change, appended, plan_of, commits, planned, work_ok, clear_row, copy_row, copy_count, counts, decide}
use Rattle.connections.specs.declared.Tabled.{Tabled}
use Rattle.connections.specs.Table as table
use Rattle.connections.specs.Decides as decides
use Rattle.mastership.specs.Lent.{master_of}
use Rattle.mastership.specs.Decides.{decides_master, outcome_of as masteredOutcome}
use Rattle.image.specs.Records.{entry_at, put_entry_at, last_of, folded_of, configuration_of, put_configuration, mastership_of, put_mastership, target_of, put_target, connections_of, put_connections}
use Rattle.image.specs.Layout.{slots, highest}
use Rattle.image.specs.View.{table_of, view, write, written}
use Rattle.image.specs.Formed.{formed}
use Rattle.image.proofs.UpTo.{and_right}
use Rattle.image.specs.Promises.{WritesDiffering}
use Rattle.image.proofs.Kept.{table_kept}
use Rattle.image.proofs.Shown.{configuration_outside, written_append}
use Rattle.image.proofs.Scanned.{view_kept, formed_length}
use Rattle.controller.specs.Claims.{outcome_of, Claims, Does, Entry}
use Rattle.controller.specs.Bytes.{AllBytes, pairs_of, pairs_if, append_of, valid_bytes}
use Rattle.controller.proofs.LentPairs.{valid_change_holds, whole_pairs}
use Rattle.controller.proofs.Decided.{entry_of_holds, room, last_is}

-- ---- refusal 1, and what follows it
pub first : (l : List ℕ) (c : Call) (b : Bool) (r : Reply) → b ≡ formed l → b ≡ false → r ≡ refusal 1 → Claims l c r l
unfolding outcome_of written
first l c b r q t p = let z : formed l ≡ false = sym q ∙ t in (rw z p, rw z)

pub then : (l : List ℕ) (c : Call) (b : Bool) (r : Reply) (m : List ℕ) → b ≡ formed l → b ≡ true → Does l c r m → Claims l c r m
unfolding outcome_of
then l c b r m q t d = let z : formed l ≡ true = sym q ∙ t in (rw z d.0, rw z d.1)

pub told : (l : List ℕ) (b : Bool) → b ≡ formed l → b ≡ true → formed l ≡ true
told l b q t = sym q ∙ t

-- ---- one outcome
does : (l : List ℕ) (c : Call) (o : Outcome) (r : Reply) (m : List ℕ) → decide (view l) c ≡ o → r ≡ o.reply → m ≡ written l o.stores → Does l c r m
does l c o r m e p q = (p ∙ ap (λ (x : Outcome). x.reply) (sym e), q ∙ ap (λ (x : Outcome). written l x.stores) (sym e))

pub refuses : (l : List ℕ) (c : Call) (a : ℕ) (r : Reply) → decide (view l) c ≡ refused a → r ≡ refusal a → Does l c r l
unfolding written
refuses l c a r e p = does l c (refused a) r l e p refl

pub accepts : (l : List ℕ) (c : Call) (es : List Store) (r : Reply) (m : List ℕ) → decide (view l) c ≡ accepted es → r ≡ refusal 0 → m ≡ written l es → Does l c r m
accepts l c es r m e p q = does l c (accepted es) r m e p q

-- ---- a call by the answer of its rule
module _ (l : List ℕ) (c : Call) (a : ℕ) (es : List Store) (d : decide (view l) c ≡ answers a es) (r : Reply) where
  refused_by : (a ≡ 0 → ⊥) → r ≡ refusal a → Does l c r l
  refused_by n p = refuses l c a r (d ∙ rw (ne_eqb a 0 n)) p

  accepted_by : (m : List ℕ) → a ≡ 0 → r ≡ refusal 0 → m ≡ written l es → Does l c r m
  accepted_by m e p q = accepts l c es r m (d ∙ rw (eq-eqb a 0 e)) p q

-- ---- the same, of one that shows a number n where it is accepted
module _ (l : List ℕ) (c : Call) (a n : ℕ) (es : List Store) (d : decide (view l) c ≡ counts a n es) (r : Reply) where
  count_refused : (a ≡ 0 → ⊥) → r ≡ refusal a → Does l c r l
  count_refused k p = refuses l c a r (d ∙ rw (ne_eqb a 0 k)) p

  count_accepted : (m : List ℕ) → a ≡ 0 → r ≡ record { answer = 0; event = numbered n } → m ≡ written l es → Does l c r m
  count_accepted m e p q = does l c (record { reply = record { answer = 0; event = numbered n }; stores = es }) r m (d ∙ rw (eq-eqb a 0 e)) p q

-- ---- a switch that stops: one that remembers loses nothing
pub holds : (l : List ℕ) (b : Bool) → b ≡ true → l ≡ written l (clear_row b)
unfolding written
holds l b e = rw e refl

pub loses : (l m : List ℕ) (b : Bool) → b ≡ false → m ≡ write l (target_values absent) → m ≡ written l (clear_row b)
unfolding written
loses l m b e p = rw e p

-- ---- start
module _ (l : List ℕ) (t : Target) (x : Targeted) (r : Reply) (et : t ≡ target_of l) where
  module _ (ex : x ≡ outside.start t) where
    start_by : decide (view l) start ≡ answers x.answer (target x.target ∷ [])
    unfolding decide view
    start_by = ap (λ (y : Targeted). answers y.answer (target y.target ∷ [])) (sym (ex ∙ ap outside.start et))

    pub start_refused : (x.answer ≡ 0 → ⊥) → r ≡ refusal x.answer → Does l start r l
    start_refused n p = refused_by l start x.answer (target x.target ∷ []) start_by r n p

    pub started : (m : List ℕ) → x.answer ≡ 0 → r ≡ refusal 0 → m ≡ put_target l x.target → Does l start r m
    unfolding written write
    started m e p q = accepted_by l start x.answer (target x.target ∷ []) start_by r m e p q

  -- ---- stop
  module _ (ex : x ≡ outside.stop t) where
    stop_by : decide (view l) stop
        ≡ answers x.answer (target x.target ∷ (clear_row (target_of l).remembers ++ (connections (map outside.off (connections_of l)) ∷ [])))
    unfolding decide view
    stop_by =
        ap (λ (y : Targeted). answers y.answer (target y.target ∷ (clear_row (target_of l).remembers ++ (connections (map outside.off (connections_of l)) ∷ []))))
        (sym (ex ∙ ap outside.stop et))

    pub stop_refused : (x.answer ≡ 0 → ⊥) → r ≡ refusal x.answer → Does l stop r l
    stop_refused n p = refused_by l stop x.answer _ stop_by r n p

    pub stopped : (cs ns : List Connection) (l1 l2 l3 : List ℕ) → cs ≡ connections_of l → ns ≡ map outside.off cs → x.answer ≡ 0 → r ≡ refusal 0
        → l1 ≡ put_target l x.target → l2 ≡ written l1 (clear_row t.remembers) → l3 ≡ put_connections l2 ns → Does l stop r l3
    unfolding written write
    stopped cs ns l1 l2 l3 ec en e p q1 q2 q3 =
        accepted_by l stop x.answer _ stop_by r l3 e p
        (q3
        ∙ ap₂ (λ (y : List ℕ) (z : List Connection). put_connections y z) (q2 ∙ ap₂ (λ (y : List ℕ) (z : Target). written y (clear_row z.remembers)) q1 et) (en ∙ ap (map outside.off) ec)
        ∙ sym (written_append (put_target l x.target) (clear_row (target_of l).remembers) (connections (map outside.off (connections_of l)) ∷ [])))

-- ---- connect and disconnect
module _ (l : List ℕ) (n : ℕ) (cs : List Connection) (x : Tabled) (r : Reply) (ec : cs ≡ connections_of l) where
  module _ (t : Target) (et : t ≡ target_of l) (ex : x ≡ table.connect_of cs n t.running) where
    connect_by_holds : decide (view l) (connect n) ≡ answers x.answer (connections x.connections ∷ [])
    unfolding view
    connect_by_holds =
        decides.decides_connect (view l) n
        ∙ ap decides.outcome_of (sym (ex ∙ ap₂ (λ (y : List Connection) (z : Target). table.connect_of y n z.running) ec et))

    pub connect_refused : (x.answer ≡ 0 → ⊥) → r ≡ refusal x.answer → Does l (connect n) r l
    connect_refused k p = refused_by l (connect n) x.answer _ connect_by_holds r k p

    pub connected : (m : List ℕ) → x.answer ≡ 0 → r ≡ refusal 0 → m ≡ put_connections l x.connections → Does l (connect n) r m
    unfolding written write
    connected m e p q = accepted_by l (connect n) x.answer _ connect_by_holds r m e p q

  module _ (ex : x ≡ table.disconnect_of cs n) where
    disconnect_by_holds : decide (view l) (disconnect n) ≡ answers x.answer (connections x.connections ∷ [])
    unfolding view
    disconnect_by_holds = decides.decides_disconnect (view l) n ∙ ap decides.outcome_of (sym (ex ∙ ap (λ (y : List Connection). table.disconnect_of y n) ec))

    pub disconnect_refused : (x.answer ≡ 0 → ⊥) → r ≡ refusal x.answer → Does l (disconnect n) r l
    disconnect_refused k p = refused_by l (disconnect n) x.answer _ disconnect_by_holds r k p

    pub disconnected : (m : List ℕ) → x.answer ≡ 0 → r ≡ refusal 0 → m ≡ put_connections l x.connections → Does l (disconnect n) r m
    unfolding written write
    disconnected m e p q = accepted_by l (disconnect n) x.answer _ disconnect_by_holds r m e p q

-- ---- a node out of range
module _ (l : List ℕ) (n : ℕ) (b : Bool) (r : Reply) (eb : b ≡ is_node n) where
  pub no_master : b ≡ false → r ≡ refusal 2 → Does l (master n) r l
  unfolding decide
  no_master t p = refuses l (master n) 2 r (rw (← eb, t)) p

  pub no_sync : b ≡ false → r ≡ refusal 2 → Does l (sync n) r l
  unfolding decide
  no_sync t p = refuses l (sync n) 2 r (rw (← eb, t)) p

  -- ---- mastership
  module _ (t : b ≡ true) (m : Mastership) (c : Connection) (em : m ≡ mastership_of l) (ec : c ≡ node_of (connections_of l) n) where
    module _ (x : Mastered) (ex : x ≡ master_of m n c.id c.connected) where
      master_by_holds : decide (view l) (master n) ≡ answers x.answer (mastership x.mastership ∷ [])
      unfolding view
      master_by_holds =
          decides_master (view l) n
          ∙ ap masteredOutcome (sym (ex ∙ ap₂ (λ (y : Mastership) (z : Connection). master_of y n z.id z.connected) em ec))

      pub master_refused : (x.answer ≡ 0 → ⊥) → r ≡ refusal x.answer → Does l (master n) r l
      master_refused k p = refused_by l (master n) x.answer _ master_by_holds r k p

      pub mastered : (m' : List ℕ) → x.answer ≡ 0 → r ≡ refusal 0 → m' ≡ put_mastership l x.mastership → Does l (master n) r m'
      unfolding written write
      mastered m' e p q = accepted_by l (master n) x.answer _ master_by_holds r m' e p q

    -- ---- synchronise
    module _ (d : Target) (g : Configuration) (h : Bool) (x : Synchronised) (ed : d ≡ target_of l) (eg : g ≡ configuration_of l) (eh : h ≡ outside.reaches c m d)
        (ex : x ≡ outside.synchronise g m.term (eqb m.master n) h) where
      sync_by : decide (view l) (sync n) ≡ counts x.answer (copy_count x.copies (table_of l of_target) (table_of l of_applied)) (configuration x.configuration ∷ copy_row x.copies (table_of l of_target) (table_of l of_applied))
      unfolding decide view
      sync_by =
          rw (← eb, t)
          (ap (λ (y : Synchronised). counts y.answer (copy_count y.copies (table_of l of_target) (table_of l of_applied)) (configuration y.configuration ∷ copy_row y.copies (table_of l of_target) (table_of l of_applied)))
          (sym
          (ex ∙ ap₂ (λ (y : Configuration) (z : Bool). outside.synchronise y m.term (eqb m.master n) z) eg (eh ∙ ap₂ (λ (y : Connection) (z : Target). outside.reaches y m z) ec ed)
          ∙ ap (λ (y : Mastership). outside.synchronise (configuration_of l) y.term (eqb y.master n) (outside.reaches (node_of (connections_of l) n) y (target_of l))) em)))

      pub sync_refused : (x.answer ≡ 0 → ⊥) → r ≡ refusal x.answer → Does l (sync n) r l
      sync_refused k p = count_refused l (sync n) x.answer _ _ sync_by r k p

      pub syncing : (l1 : List ℕ) → x.answer ≡ 0 → x.copies ≡ false → r ≡ refusal 0 → l1 ≡ put_configuration l x.configuration → Does l (sync n) r l1
      unfolding written write
      syncing l1 e f p q = count_accepted l (sync n) x.answer _ _ sync_by r l1 e (p ∙ rw f) (q ∙ rw f)

      pub synced : (l1 l2 : List ℕ) (k : ℕ) (v : Event) → formed l ≡ true → x.answer ≡ 0 → x.copies ≡ true → v ≡ numbered k → r ≡ record { answer = 0; event = v }
          → l1 ≡ put_configuration l x.configuration → WritesDiffering l1 k l2 → Does l (sync n) r l2
      unfolding written write
      synced l1 l2 k v w e f ev p q s =
          let l1' = put_configuration l x.configuration in
          let o = configuration_outside l (formed_length l w) (room l w) x.configuration in
          let a : table_of l1' of_applied ≡ table_of l of_applied = table_kept l l1' _ _ o of_applied (inl (omega arith)) in
          let b : table_of l1' of_target ≡ table_of l of_target = table_kept l l1' _ _ o of_target (inl (omega arith)) in
          count_accepted l (sync n) x.answer _ _ sync_by r l2 e (p ∙ rw (ev, s.0, q, a, b, f)) (s.1 ∙ rw (q, a, b, f))

-- ---- in the log, and kept after the last fold b
module _ (l : List ℕ) (w : formed l ≡ true) (i n : ℕ) (k : Bool) (en : n ≡ last_of l) (ek : k ≡ (leb 1 i && leb i n)) where
  pub in_log_holds : (x : Bool) → k ≡ x → in_log (view l) i ≡ x
  in_log_holds x h = ap (λ (y : ℕ). leb 1 i && leb i y) (last_is l w ∙ sym en) ∙ sym ek ∙ h

  -- ---- outside it
  pub rollback_5 : (r : Reply) → k ≡ false → r ≡ refusal 5 → Does l (rollback i) r l
  unfolding decide
  rollback_5 r h p = refuses l (rollback i) 5 r (rw (in_log_holds false h)) p

  pub work_5 : (a j o c : ℕ) (fit : Bool) (r : Reply) → fit ≡ work_ok a j o c → fit ≡ true → k ≡ false → r ≡ refusal 5 → Does l (work a j i o c) r l
  unfolding decide
  work_5 a j o c fit r ef t h p = refuses l (work a j i o c) 5 r (rw (← ef, t, in_log_holds false h)) p

  module _ (h : k ≡ true) (b : ℕ) (eb : b ≡ folded_of l) where
    pub is_kept_holds : (x : Bool) → ltb b i ≡ x → is_kept (view l) i ≡ x
    unfolding view
    is_kept_holds x q = ap (λ (y : ℕ). ltb y i) (sym eb) ∙ q

    -- ---- folded
    pub rollback_18 : (r : Reply) → i ≤ b → r ≡ refusal 18 → Does l (rollback i) r l
    unfolding decide
    rollback_18 r q p = refuses l (rollback i) 18 r (rw (in_log_holds true h, is_kept_holds false (le-ltb b i q))) p

    pub work_18 : (a j o c : ℕ) (fit : Bool) (r : Reply) → fit ≡ work_ok a j o c → fit ≡ true → i ≤ b → r ≡ refusal 18 → Does l (work a j i o c) r l
    unfolding decide
    work_18 a j o c fit r ef t q p = refuses l (work a j i o c) 18 r (rw (← ef, t, in_log_holds true h, is_kept_holds false (le-ltb b i q))) p

    module _ (g : b < i) where
      kept_so : is_kept (view l) i ≡ true
      kept_so = is_kept_holds true (lt-ltb b i g)

      pub this_one : Entry l i
      this_one =
          let x : (leb 1 i && leb i n) ≡ true = sym ek ∙ h in
          let hi : i ≤ n = leb-true i n (and_right (leb 1 i) _ x) in
          record { formed = w; kept = omega arith; last = omega arith }

      -- ---- rollback request
      module _ (r : Reply) (t : Transaction) (y : Bool) (et : t ≡ entry_at l i) (ey : y ≡ outside.may_roll_back t) where
        shown : entry_of (view l).log i ≡ t
        shown = entry_of_holds l i this_one.kept this_one.last ∙ sym et

        may : (x : Bool) → y ≡ x → outside.may_roll_back (entry_of (view l).log i) ≡ x
        may x e = ap outside.may_roll_back shown ∙ sym ey ∙ e

        pub rollback_6 : y ≡ false → r ≡ refusal 6 → Does l (rollback i) r l
        unfolding decide
        rollback_6 e p = refuses l (rollback i) 6 r (rw (in_log_holds true h, kept_so, may false e)) p

        pub rolled_back_holds : (u : Transaction) (m : List ℕ) → y ≡ true → u ≡ outside.rolled_back t → m ≡ put_entry_at l i u → r ≡ refusal 0 → Does l (rollback i) r m
        unfolding decide written write
        rolled_back_holds u m e eu q p =
            accepts l (rollback i) (entry i (outside.rolled_back (entry_of (view l).log i)) ∷ []) r m (rw (in_log_holds true h, kept_so, may true e)) p
            (q ∙ ap (put_entry_at l i) (eu ∙ ap outside.rolled_back (sym shown)))

      -- ---- work
      module _ (a j o c : ℕ) (fit : Bool) (r : Reply) (ef : fit ≡ work_ok a j o c) (t : fit ≡ true) (m : Mastership) (em : m ≡ mastership_of l) where
        master_is : (x : Bool) → eqb m.master a ≡ x → is_master (view l).net a ≡ x
        unfolding view
        master_is x e = ap (λ (y : Mastership). eqb y.master a) (sym em) ∙ e

        pub work_10 : (m.master ≡ a → ⊥) → r ≡ refusal 10 → Does l (work a j i o c) r l
        unfolding decide
        work_10 e p = refuses l (work a j i o c) 10 r (rw (← ef, t, in_log_holds true h, kept_so, master_is false (ne_eqb m.master a e))) p

        pub worked : (pl : Plan) (d : Bool) (l1 : List ℕ) → m.master ≡ a → pl ≡ plan_of (view l) a j i (eqb o 0) → d ≡ commits j
            → l1 ≡ written l (rows_of d pl i (eqb c 1) (eqb c 2)) → r ≡ record { answer = pl.answer; event = event_of pl (eqb c 1) } → Does l (work a j i o c) r l1
        unfolding decide
        worked pl d l1 e ep ed q p =
            does l (work a j i o c) (planned j pl i c) r l1
            (rw (← ef, t, in_log_holds true h, kept_so, master_is true (eq-eqb m.master a e)) (ap (λ (x : Plan). planned j x i c) (sym ep))) p
            (q ∙ ap (λ (x : Bool). written l (rows_of x pl i (eqb c 1) (eqb c 2))) ed)

pub work_2 : (l : List ℕ) (i a j o c : ℕ) (fit : Bool) (r : Reply) → fit ≡ work_ok a j o c → fit ≡ false → r ≡ refusal 2 → Does l (work a j i o c) r l
unfolding decide
work_2 l i a j o c fit r ef t p = refuses l (work a j i o c) 2 r (rw (← ef, t)) p

-- ---- append
module _ (l b : List ℕ) (y : AllBytes b) (v : Bool) (r : Reply) (ev : v ≡ valid_bytes b) where
  valid_is : (x : Bool) → v ≡ x → valid_change (pairs_if (eqb (length b % 4) 0) (pairs_of b)) ≡ x
  valid_is x e = valid_change_holds b y ∙ sym ev ∙ e

  pub append_3 : v ≡ false → r ≡ refusal 3 → Does l (append_of b) r l
  unfolding decide
  append_3 e p = refuses l (append_of b) 3 r (rw (valid_is false e)) p

  module _ (w : formed l ≡ true) (t : v ≡ true) (n d : ℕ) (en : n ≡ last_of l) (ed : d ≡ folded_of l) where
    long : length (view l).log.entries ≡ n - d
    long = view_kept l ∙ ap₂ (λ (x y : ℕ). x - y) (sym en) (sym ed)

    last_shown : last (view l).log ≡ n
    last_shown = last_is l w ∙ sym en

    pub append_4 : slots ≤ n - d → r ≡ refusal 4 → Does l (append_of b) r l
    unfolding decide
    append_4 h p = refuses l (append_of b) 4 r (rw (valid_is true t, long, le-ltb (n - d) slots h)) p

    module _ (h : n - d < slots) where
      fits : ltb (length (view l).log.entries) slots ≡ true
      fits = ap (λ (x : ℕ). ltb x slots) long ∙ lt-ltb (n - d) slots h

      pub append_9 : highest ≤ n → r ≡ refusal 9 → Does l (append_of b) r l
      unfolding decide
      append_9 g p = refuses l (append_of b) 9 r (rw (valid_is true t, fits, last_shown, le-ltb n highest g)) p

      pub appended_to : (x : Transaction) (k : Number) (m : List ℕ) → n < highest → x ≡ appended (pairs_of b) → m ≡ write l (grow x) → k ≡ num (n + 1)
          → r ≡ record { answer = 0; event = record { phase = 0; stage = 0; number = k; status = None } } → Does l (append_of b) r m
      unfolding decide written
      appended_to x k m g ex q ek p =
          let z : pairs_if (eqb (length b % 4) 0) (pairs_of b) ≡ pairs_of b = whole_pairs b (sym ev ∙ t) in
          does l (append_of b) (record { reply = record { answer = 0; event = numbered (n + 1) }; stores = grow (appended (pairs_if (eqb (length b % 4) 0) (pairs_of b))) ∷ [] }) r m
          (rw (valid_is true t, fits, last_shown, lt-ltb n highest g))
          (p ∙ rw ek)
          (q ∙ ap (λ (u : Transaction). write l (grow u)) (ex ∙ ap appended (sym z)))

-- What a call decides to store has room: every number in its field, every entry kept. And only append gives a number, only
-- a fold moves the last fold. Assumes nothing.
use Prim.Native.Nat.{ℕ, zero, suc, ◌+◌, ◌≤◌, ◌<◌}
use mathlib.Core.Path.{◌≡◌, refl, sym, ◌∙◌, subst}
use mathlib.Core.Bool.{Bool, true, false, ◌&&◌, ◌||◌, cond, true≢false}
use mathlib.Core.List.{List, [], ◌∷◌, ◌++◌, map}
use native.Mathlib.Omega.{arith}
use borrow.Author.Tests.{leb-true, leb-false, ltb-true}
use lib.Dec.{eqb, ltb, leb}
use lib.ListN.{length, get_or, replicate, length-set, length-map, get_or-eq_default}
use Rattle.kinds.specs.declared.Transaction.{Transaction}
use Rattle.kinds.specs.declared.Head.{Head}
use Rattle.kinds.specs.declared.Side.{Side}
use Rattle.kinds.specs.declared.Number.{Number}
use Rattle.kinds.specs.declared.Ordinal.{Ordinal}
use Rattle.kinds.specs.declared.Term.{Term}
use Rattle.kinds.specs.declared.Configuration.{Configuration}
use Rattle.kinds.specs.declared.Progress.{Progress}
use Rattle.kinds.specs.declared.Progress.TheVariants as progress
use Rattle.kinds.specs.declared.Mastership.{Mastership}
use Rattle.kinds.specs.declared.Connection.{Connection}
use Rattle.kinds.specs.declared.Target.{Target}
use Rattle.kinds.specs.Numbers.{num, is_full, is_last, ordinal_unless, next_ordinal, term_unless, next_term}
use Rattle.kinds.specs.Records.{with_change, with_rollback}
use Rattle.rules.specs.declared.Plan.{Plan}
use Rattle.rules.specs.declared.Present.{Present}
use Rattle.rules.specs.declared.Lay.{Lay}
use Rattle.rules.specs.declared.Lay.TheVariants.{Nothing, Values, Kept}
use Rattle.rules.specs.declared.Order.{Order}
use Rattle.rules.specs.declared.Order.TheVariants.{Neither, EntryOnly, HeadOnly, EntryThenHead, HeadThenEntry, TargetThenHeadThenEntry}
use Rattle.rules.specs.declared.CommitChangeRule.{CommitChangeRule}
use Rattle.rules.specs.declared.CommitRollbackRule.{CommitRollbackRule}
use Rattle.rules.specs.declared.ApplyChangeRule.{ApplyChangeRule}
use Rattle.rules.specs.declared.ApplyRollbackRule.{ApplyRollbackRule}
use Rattle.rules.specs.declared.CommitChangeRule.TheVariants as change
use Rattle.rules.specs.declared.CommitRollbackRule.TheVariants as rollback
use Rattle.rules.specs.declared.ApplyChangeRule.TheVariants as apply
use Rattle.rules.specs.declared.ApplyRollbackRule.TheVariants as return
use Rattle.rules.specs.Heads.{aimed, landed, passed, closed}
use Rattle.rules.specs.CommitChange as job1
use Rattle.rules.specs.CommitRollback as job3
use Rattle.rules.specs.ApplyChange as job2
use Rattle.rules.specs.ApplyRollback as job4
use Rattle.rules.specs.Outside as outside
use Rattle.machine.specs.State.{Log, State, in_each, entry_of, last, in_log, is_kept, is_node, node_of, put_node, never, is_master, reaches_target, line_open_for}
use Rattle.machine.specs.Settled.{settled}
use Rattle.machine.specs.Stores.{Table, of_committed, of_applied, of_target, of_base, of_owners, Store, grow, entry, fold, value, target_values, configuration, mastership, connections, target}
use Rattle.machine.specs.Stores as store
use Rattle.machine.specs.Differ.{differs_at, differ_row}
use Rattle.machine.specs.Rows.{lay_one, lay_at, overlay, laid, owned, entry_row, change_row, head_row, then_row, rows_by, rows_of}
use Rattle.machine.specs.WellFormed.{pairs_ok}
use Rattle.machine.specs.Rest.{rest_of}
use Rattle.machine.specs.LiveList.{hops, live}
use Rattle.machine.specs.Folding.{may_fold, base_if, base_row}
use Rattle.machine.proofs.Kept as kept
use Rattle.machine.proofs.Entries.{set_all}
use Rattle.machine.proofs.Cases.{and_left, and_right, or_cases}
use Rattle.machine.specs.Calls as calls
use Rattle.machine.specs.Calls.{Pair, Call, Outcome, append, start, stop, connect, disconnect, master, sync, work, fold_to, unless, valid_change, values_ok, path_of, value_of, appended, present_one, present, present_of, plan_of, commits, work_ok, clear_row, copy_row, decide}
use Rattle.image.specs.Layout.{slots, highest, highest_ordinal}
use Rattle.image.proofs.Sized.{Four, SizedEntry, SizedHead, SizedMastership, SizedTable, SizedConnections}
use Rattle.image.proofs.Shown.{Fits, FitsAll, last_after, folded_after}
use Rattle.staying.proofs.Sizes.{Sizes, four}

-- ---- rows of stores that have room and leave the last fold d and the highest number n
pub record Still (d n : ℕ) (e : Store) : Type 0 where
  pub fits : Fits d n e
  pub fold : folded_after d e ≡ d
  pub last : last_after n e ≡ n

pub data Stills (d n : ℕ) : List Store → Type 0 where
  none : Stills d n []
  more : {e : Store} {es : List Store} → Still d n e → Stills d n es → Stills d n (e ∷ es)

module _ (d n : ℕ) where
  -- and then any row that fits
  pub stills_then : {es : List Store} → Stills d n es → (fs : List Store) → FitsAll d n fs → FitsAll d n (es ++ fs)
  stills_then none fs g = g
  stills_then (more {e = e} {es = es} h k) fs g =
      (h.fits, subst (λ (x : ℕ). FitsAll x (last_after n e) (es ++ fs)) (sym h.fold) (subst (λ (x : ℕ). FitsAll d x (es ++ fs)) (sym h.last) (stills_then k fs g)))

  pub stills_fit : {es : List Store} → Stills d n es → FitsAll d n es
  stills_fit none = tt
  stills_fit (more {e = e} {es = es} h k) =
      (h.fits, subst (λ (x : ℕ). FitsAll x (last_after n e) es) (sym h.fold) (subst (λ (x : ℕ). FitsAll d x es) (sym h.last) (stills_fit k)))

  join : {a b : List Store} → Stills d n a → Stills d n b → Stills d n (a ++ b)
  join none q = q
  join (more h p) q = more h (join p q)

-- ---- a plan's records have room
pub record Roomy (p : Plan) : Type 0 where
  pub entry : SizedEntry p.entry
  pub head : SizedHead p.head

module _ (d n : ℕ) where
  lay_still : (x : Bool) (b : Table) (p v : ℕ) → v < 65536 → Stills d n (lay_one x b p v)
  lay_still true b p v h = more (record { fits = h; fold = refl; last = refl }) none
  lay_still false b p v h = none

  overlay_still : (b : Table) (ps vs : List ℕ) (m : ℕ) → ((k : ℕ) → get_or vs k 0 < 65536) → Stills d n (overlay b ps vs m)
  unfolding overlay
  overlay_still b ps vs m h =
      let at : (k : ℕ) → Stills d n (lay_at b ps vs m k) = λ k. lay_still (ltb k m) b _ _ (h k) in
      join d n (at 0) (join d n (at 1) (join d n (at 2) (at 3)))

  -- the paths that differ (order 13)
  pub differ_still : (k : ℕ) (ws vs : List ℕ) → ((j : ℕ) → get_or vs j 0 < 65536) → Stills d n (differ_row k ws vs)
  unfolding differ_row
  differ_still zero ws vs h = none
  differ_still (suc k) ws vs h = join d n (differ_still k ws vs h) (lay_still (differs_at ws vs k) of_target k (get_or vs k 0) (h k))

  pub laid_still : (b : Table) (v : Lay) (t : Transaction) → SizedEntry t → Stills d n (laid b v t)
  laid_still b Nothing t h = none
  laid_still b Values t h = overlay_still b t.paths t.values t.count h.values.small
  laid_still b Kept t h = overlay_still b t.paths t.kept t.count h.kept.small

  owned_still : (v : Lay) (t : Transaction) (i : ℕ) → i < 65536 → SizedEntry t → Stills d n (owned v t i)
  owned_still Nothing t i g h = none
  owned_still Values t i g h = overlay_still of_owners t.paths (in_each i) t.count (four 65536 i i i i g g g g).small
  owned_still Kept t i g h = overlay_still of_owners t.paths t.owners t.count h.owners.small

  -- both of a commit's tables
  pub laid_owned_still : (v : Lay) (t : Transaction) (i : ℕ) → i < 65536 → SizedEntry t → Stills d n (laid of_committed v t ++ owned v t i)
  laid_owned_still v t i g h = join d n (laid_still of_committed v t h) (owned_still v t i g h)

  module _ (i : ℕ) (one : d < i) (last : i ≤ n) (few : n ≤ highest) where
    entry_still : (p : Plan) → Roomy p → Stills d n (entry_row p i)
    entry_still p r = more {e = entry i p.entry} (record { fits = (r.entry, (one, last)); fold = refl; last = refl }) none

    change_still : (b : Bool) → Stills d n (change_row b i)
    change_still true = more {e = store.change (num i)} (record { fits = omega arith; fold = refl; last = refl }) none
    change_still false = none

    head_still : (c : Bool) (p : Plan) → Roomy p → Stills d n (head_row c p i)
    head_still true p r =
        more (record { fits = r.head; fold = refl; last = refl }) (join d n (change_still p.change) (laid_owned_still p.lay p.entry i (omega arith) r.entry))
    head_still false p r = more (record { fits = r.head; fold = refl; last = refl }) (laid_still of_applied p.lay p.entry r.entry)

    then_still : (cut : Bool) {a b : List Store} → Stills d n a → Stills d n b → Stills d n (then_row cut a b)
    then_still true p q = p
    then_still false p q = join d n p q

    rows_still : (c : Bool) (p : Plan) (first second : Bool) → Roomy p → Stills d n (rows_of c p i first second)
    unfolding rows_of
    rows_still c p first second r = go p.order
      where
        go : (o : Order) → Stills d n (rows_by o c p i first second)
        go Neither = none
        go EntryOnly = entry_still p r
        go HeadOnly = head_still c p r
        go EntryThenHead = then_still first (entry_still p r) (head_still c p r)
        go HeadThenEntry = then_still first (head_still c p r) (entry_still p r)
        go TargetThenHeadThenEntry =
            then_still first (laid_still of_target p.lay p.entry r.entry) (then_still second (head_still c p r) (entry_still p r))

-- ---- the four jobs, whatever rule holds
pub next_small : (o : Ordinal) → o.0 < 4294967296 → (next_ordinal o).0 < 4294967296
next_small o h = go (is_full o.0) refl
  where
    go : (b : Bool) → is_full o.0 ≡ b → (ordinal_unless b o.0).0 < 4294967296
    go true e = h
    go false e = omega (arith, leb-false highest_ordinal o.0 e)

record SizedPresent (p : Present) : Type 0 where
  pub values : Four 65536 p.values
  pub owners : Four 65536 p.owners

module _ (t : Transaction) (h : Head) (i : ℕ) (f : SizedEntry t) (g : SizedHead h) (k : i < 65536) where
  changed : (x : Side) → x.ordinal.0 < 4294967296 → SizedEntry (with_change t x)
  changed x o =
      record { phase = f.phase; count = f.count; index = f.index; change_ordinal = o; rollback_ordinal = f.rollback_ordinal; paths = f.paths; values = f.values; kept = f.kept; owners = f.owners }

  returned : (x : Side) → x.ordinal.0 < 4294967296 → SizedEntry (with_rollback t x)
  returned x o =
      record { phase = f.phase; count = f.count; index = f.index; change_ordinal = f.change_ordinal; rollback_ordinal = o; paths = f.paths; values = f.values; kept = f.kept; owners = f.owners }

  begins : (vs : Present) → SizedPresent vs → SizedEntry (job1.beginning t h.revision vs)
  begins vs v =
      record { phase = f.phase; count = f.count; index = g.revision; change_ordinal = f.change_ordinal; rollback_ordinal = f.rollback_ordinal; paths = f.paths; values = f.values; kept = v.values; owners = v.owners }

  aims : (aim : Number) → aim.0 < 65536 → SizedHead (aimed h aim)
  aims aim a = record { index = g.index; target = a; revision = g.revision; ordinal = g.ordinal }

  lands : (aim : Number) (o : Ordinal) → aim.0 < 65536 → o.0 < 4294967296 → SizedHead (landed h (num i) aim o)
  lands aim o a b = record { index = k; target = g.target; revision = a; ordinal = b }

  passes : SizedHead (passed h (num i))
  passes = record { index = k; target = g.target; revision = g.revision; ordinal = g.ordinal }

  closes : (aim : Number) (o : Ordinal) → aim.0 < 65536 → o.0 < 4294967296 → SizedHead (closed h (num i) aim o)
  closes aim o a b = record { index = k; target = a; revision = g.revision; ordinal = b }

  module _ (o : Ordinal) (b : o.0 < 4294967296) where
    commit_change_holds : (vs : Present) → SizedPresent vs → (r : CommitChangeRule) → Roomy (job1.plans r t h (num i) o vs)
    commit_change_holds vs v change.Begin = record { entry = begins vs v; head = g }
    commit_change_holds vs v change.Aim = record { entry = begins vs v; head = aims (num i) k }
    commit_change_holds vs v change.Land = record { entry = changed _ b; head = lands (num i) o k b }
    commit_change_holds vs v change.Full = record { entry = f; head = g }
    commit_change_holds vs v change.Reject = record { entry = changed _ f.change_ordinal; head = passes }
    commit_change_holds vs v change.Finish = record { entry = changed _ g.ordinal; head = g }
    commit_change_holds vs v change.Close = record { entry = f; head = passes }
    commit_change_holds vs v change.Wait = record { entry = f; head = g }

    commit_rollback_holds : (r : CommitRollbackRule) → Roomy (job3.plans r t h (num i) o)
    commit_rollback_holds rollback.Begin = record { entry = returned _ f.rollback_ordinal; head = g }
    commit_rollback_holds rollback.Aim = record { entry = returned _ f.rollback_ordinal; head = aims t.index f.index }
    commit_rollback_holds rollback.Land = record { entry = returned _ b; head = lands t.index o f.index b }
    commit_rollback_holds rollback.Full = record { entry = f; head = g }
    commit_rollback_holds rollback.Finish = record { entry = returned _ g.ordinal; head = g }
    commit_rollback_holds rollback.Wait = record { entry = f; head = g }

  apply_change_holds : (r : ApplyChangeRule) → Roomy (job2.plans r t h (num i))
  apply_change_holds apply.Begin = record { entry = changed _ f.change_ordinal; head = g }
  apply_change_holds apply.Aim = record { entry = changed _ f.change_ordinal; head = aims (num i) k }
  apply_change_holds apply.Abort = record { entry = changed _ f.change_ordinal; head = closes (num i) t.change.ordinal k f.change_ordinal }
  apply_change_holds apply.Close = record { entry = f; head = closes (num i) t.change.ordinal k f.change_ordinal }
  apply_change_holds apply.Finish = record { entry = changed _ f.change_ordinal; head = g }
  apply_change_holds apply.Fail = record { entry = changed _ f.change_ordinal; head = closes (num i) t.change.ordinal k f.change_ordinal }
  apply_change_holds apply.Push = record { entry = changed _ f.change_ordinal; head = lands (num i) t.change.ordinal k f.change_ordinal }
  apply_change_holds apply.NoLine = record { entry = f; head = g }
  apply_change_holds apply.Wait = record { entry = f; head = g }

  apply_rollback_holds : (r : ApplyRollbackRule) → Roomy (job4.plans r t h (num i))
  apply_rollback_holds return.Begin = record { entry = returned _ f.rollback_ordinal; head = g }
  apply_rollback_holds return.Aim = record { entry = returned _ f.rollback_ordinal; head = aims t.index f.index }
  apply_rollback_holds return.Cancel = record { entry = returned _ f.rollback_ordinal; head = closes t.index t.rollback.ordinal f.index f.rollback_ordinal }
  apply_rollback_holds return.Close = record { entry = f; head = closes t.index t.rollback.ordinal f.index f.rollback_ordinal }
  apply_rollback_holds return.Finish = record { entry = returned _ f.rollback_ordinal; head = g }
  apply_rollback_holds return.Push = record { entry = returned _ f.rollback_ordinal; head = lands t.index t.rollback.ordinal f.index f.rollback_ordinal }
  apply_rollback_holds return.NoLine = record { entry = f; head = g }
  apply_rollback_holds return.Rejected = record { entry = f; head = g }
  apply_rollback_holds return.Wait = record { entry = f; head = g }

-- the present values of a change's paths, or their owners
pub present_small : (vs : List ℕ) (t : Transaction) → SizedTable vs → Four 65536 (present vs t)
unfolding present
present_small vs t h = four 65536 _ _ _ _ (one (ltb 0 t.count) _) (one (ltb 1 t.count) _) (one (ltb 2 t.count) _) (one (ltb 3 t.count) _)
  where
    one : (b : Bool) (p : ℕ) → present_one b vs p < 65536
    one true p = h.small p
    one false p = omega arith

-- ---- append's entry
paths_small : (qs : List ℕ) → pairs_ok (length qs) qs ≡ true → Four 256 (calls.places qs)
unfolding pairs_ok
paths_small qs e =
    let n = length qs in
    let a = leb 1 n && leb n 4 in
    let b = ltb (get_or qs 0 0) 32 in
    let c = ltb n 2 || (ltb (get_or qs 0 0) (get_or qs 1 0) && ltb (get_or qs 1 0) 32) in
    let d = ltb n 3 || (ltb (get_or qs 1 0) (get_or qs 2 0) && ltb (get_or qs 2 0) 32) in
    let x = ltb n 4 || (ltb (get_or qs 2 0) (get_or qs 3 0) && ltb (get_or qs 3 0) 32) in
    let r : (b && (c && (d && x))) ≡ true = and_right a _ e in
    let s : (c && (d && x)) ≡ true = and_right b _ r in
    let u : (d && x) ≡ true = and_right c _ s in
    four 256 _ _ _ _ (wide (get_or qs 0 0) (ltb-true _ _ (and_left b _ r))) (low 1 (ltb (get_or qs 0 0) (get_or qs 1 0)) (and_left c _ s)) (low 2 (ltb (get_or qs 1 0) (get_or qs 2 0)) (and_left d _ u))
    (low 3 (ltb (get_or qs 2 0) (get_or qs 3 0)) (and_right d _ u))
  where
    wide : (x : ℕ) → x < 32 → x < 256
    wide x h = omega arith

    low : (k : ℕ) (r : Bool) → (ltb (length qs) (k + 1) || (r && ltb (get_or qs k 0) 32)) ≡ true → get_or qs k 0 < 256
    low k r h =
        or_cases (ltb (length qs) (k + 1)) _ h (λ p. let z : get_or qs k 0 ≡ 0 = get_or-eq_default qs 0 (omega (arith, ltb-true (length qs) (k + 1) p)) in omega arith)
        (λ q. wide (get_or qs k 0) (ltb-true _ _ (and_right r _ q)))

values_small : (ps : List Pair) → values_ok ps ≡ true → (k : ℕ) → get_or (map value_of ps) k 0 < 65536
unfolding values_ok
values_small [] e k = omega arith
values_small (p ∷ ps) e zero = ltb-true _ _ (and_left _ _ e)
values_small (p ∷ ps) e (suc k) = values_small ps (and_right (ltb p.value 65536) _ e) k

few_pairs : (n : ℕ) (qs : List ℕ) → pairs_ok n qs ≡ true → n ≤ 4
unfolding pairs_ok
few_pairs n qs e = leb-true n 4 (and_right (leb 1 n) _ (and_left (leb 1 n && leb n 4) _ e))

pub appended_sized : (ps : List Pair) → valid_change ps ≡ true → SizedEntry (appended ps)
appended_sized ps e =
    let p : pairs_ok (length ps) (map path_of ps) ≡ true = and_left _ _ e in
    let v : values_ok ps ≡ true = and_right (pairs_ok (length ps) (map path_of ps)) _ e in
    let m : length (map path_of ps) ≡ length ps = length-map ps path_of in
    let zeros : Four 65536 (replicate 4 0) = four 65536 0 0 0 0 (omega arith) (omega arith) (omega arith) (omega arith) in
    record {
      phase = omega arith;
      count = omega (arith, few_pairs (length ps) (map path_of ps) p);
      index = omega arith;
      change_ordinal = omega arith;
      rollback_ordinal = omega arith;
      paths = paths_small (map path_of ps) (rw m p);
      values = four 65536 _ _ _ _ (values_small ps v 0) (values_small ps v 1) (values_small ps v 2) (values_small ps v 3);
      kept = zeros;
      owners = zeros;
    }

-- ---- the nodes' side
start_small : (t : Target) → t.id < 4294967296 → (outside.start t).target.id < 4294967296
start_small t h = go t.running (is_last t.id) refl
  where
    go : (r l : Bool) → is_last t.id ≡ l
        → (cond r (outside.targeted 7 t) (cond l (outside.targeted 9 t) (outside.targeted 0 (record { id = t.id + 1; running = true; remembers = t.remembers })))).target.id < 4294967296
    go true l e = h
    go false true e = h
    go false false e = omega (arith, leb-false 4294967295 t.id e)

stop_small : (t : Target) → t.id < 4294967296 → (outside.stop t).target.id < 4294967296
stop_small t h = go t.running
  where
    go : (r : Bool) → (cond r (outside.targeted 0 (record { id = t.id; running = false; remembers = t.remembers })) (outside.targeted 7 t)).target.id < 4294967296
    go true = h
    go false = h

connect_small : (x : Connection) (running : Bool) → x.id < 4294967296 → (outside.connect x running).connection.id < 4294967296
connect_small x running h = go x.connected running (is_last x.id) refl
  where
    go : (c r l : Bool) → is_last x.id ≡ l
        → (cond c (outside.answered 7 x)
        (cond r (cond l (outside.answered 9 x) (outside.answered 0 (record { id = x.id + 1; connected = true }))) (outside.answered 8 x))).connection.id < 4294967296
    go true r l e = h
    go false true true e = h
    go false true false e = omega (arith, leb-false 4294967295 x.id e)
    go false false l e = h

disconnect_small : (x : Connection) → x.id < 4294967296 → (outside.disconnect x).connection.id < 4294967296
disconnect_small x h = go x.connected
  where
    go : (c : Bool) → (cond c (outside.answered 0 (outside.off x)) (outside.answered 7 x)).connection.id < 4294967296
    go true = h
    go false = h

term_small : (t : Term) → t.0 < 4294967296 → (next_term t).0 < 4294967296
term_small t h = go (is_last t.0) refl
  where
    go : (b : Bool) → is_last t.0 ≡ b → (term_unless b t.0).0 < 4294967296
    go true e = h
    go false e = omega (arith, leb-false 4294967295 t.0 e)

master_sized : (m : Mastership) (n : ℕ) (x : Connection) → n ≤ 8 → SizedMastership m → x.id < 4294967296 → SizedMastership (outside.master m n x).mastership
master_sized m n x k f i = go (x.connected && eqb m.master 0) (is_last m.term.0) (eqb m.master n) (x.connected && eqb x.id m.conn)
  where
    go : (z l b h : Bool)
        → SizedMastership
        (cond z
        (cond l (outside.mastered 9 m) (outside.mastered 0 (record { master = n; term = next_term m.term; conn = x.id })))
        (cond b
        (cond h (outside.mastered 11 m) (outside.mastered 0 (record { master = 0; term = m.term; conn = m.conn })))
        (outside.mastered 11 m))).mastership
    go true true b h = f
    go true false b h = record { master = omega arith; term = term_small m.term f.term; conn = i }
    go false l true true = f
    go false l true false = record { master = omega arith; term = f.term; conn = f.conn }
    go false l false h = f

sync_small : (g : Configuration) (term : Term) (m r : Bool) → g.term.0 < 4294967296 → term.0 < 4294967296
    → (outside.synchronise g term m r).configuration.term.0 < 4294967296
sync_small g term m r h k = go m (ltb g.term.0 term.0) g.state r
  where
    go : (m l : Bool) (p : Progress) (r : Bool)
        → (cond m (cond l (outside.synchronise_by p g term r) (outside.synchronised 11 g false)) (outside.synchronised 10 g false)).configuration.term.0 < 4294967296
    go false l p r = h
    go true false p r = h
    go true true progress.Pending r = h
    go true true progress.Complete r = h
    go true true progress.InProgress true = k
    go true true progress.InProgress false = h

node_small : (xs : List Connection) → SizedConnections xs → (n : ℕ) → (node_of xs n).id < 4294967296
node_small xs h zero = omega arith
node_small xs h (suc n) = h.small n

put_node_holds : (xs : List Connection) (n : ℕ) (x : Connection) → SizedConnections xs → x.id < 4294967296 → SizedConnections (put_node xs n x)
put_node_holds xs zero x h k = h
put_node_holds xs (suc n) x h k =
    record { size = length-set xs n x ∙ h.size; small = set_all (λ j y. y.id < 4294967296) xs n x never h.small k }

off_small : (xs : List Connection) → ((k : ℕ) → (get_or xs k never).id < 4294967296) → (k : ℕ) → (get_or (map outside.off xs) k never).id < 4294967296
off_small [] h k = h k
off_small (x ∷ xs) h zero = h 0
off_small (x ∷ xs) h (suc k) = off_small xs (λ j. h (suc j)) k

zeros_small : (n k : ℕ) → get_or (replicate n 0) k 0 < 65536
zeros_small zero k = omega arith
zeros_small (suc n) zero = omega arith
zeros_small (suc n) (suc k) = zeros_small n k

-- ---- what a call decides
-- every call but append and fold
abbrev pub is_plain : Call → Bool
is_plain (append ps) = false
is_plain (calls.rollback i) = true
is_plain start = true
is_plain stop = true
is_plain (connect n) = true
is_plain (disconnect n) = true
is_plain (master n) = true
is_plain (sync n) = true
is_plain (work n j i r c) = true
is_plain (fold_to b) = false

module _ (s : State) (f : Sizes s) where
  abbrev Calm : Outcome → Type 0
  Calm o = Stills s.log.folded.0 (last s.log) o.stores

  unless_calm : (a : ℕ) (b : Bool) (o : Outcome) → (b ≡ true → Calm o) → Calm (unless a b o)
  unless_calm a true o h = h refl
  unless_calm a false o h = none

  one_store : (e : Store) → Fits s.log.folded.0 (last s.log) e → folded_after s.log.folded.0 e ≡ s.log.folded.0 → last_after (last s.log) e ≡ last s.log → Stills s.log.folded.0 (last s.log) (e ∷ [])
  one_store e h g k = more (record { fits = h; fold = g; last = k }) none

  module _ (i : ℕ) (p : s.log.folded.0 < i) (q : i ≤ last s.log) where
    short : i < 65536
    short = let d = f.room.1.1 in omega arith

    job1_roomy : (ok : Bool) → Roomy (calls.job1 s i ok)
    job1_roomy ok =
        let t = entry_of s.log i in
        let h = s.committed.head in
        commit_change_holds t h i (f.entries i p q) f.committed short (next_ordinal h.ordinal) (next_small h.ordinal f.committed.ordinal)
        (present_of s t) (record { values = present_small s.committed.values t f.committed_values; owners = present_small s.committed.owners t f.owners })
        (job1.rule t.change.commit (job1.tests h s.change (rest_of s) (num i) ok))

    job2_roomy : (n : ℕ) (ok : Bool) → Roomy (calls.job2 s n i ok)
    job2_roomy n ok =
        let t = entry_of s.log i in
        let h = s.applied.head in
        apply_change_holds t h i (f.entries i p q) f.applied short (job2.rule t.change.apply (job2.tests t h (settled s) (num i) (line_open_for s.net n) ok))

    job3_roomy : Roomy (calls.job3 s i)
    job3_roomy =
        let t = entry_of s.log i in
        let h = s.committed.head in
        commit_rollback_holds t h i (f.entries i p q) f.committed short (next_ordinal h.ordinal) (next_small h.ordinal f.committed.ordinal)
        (job3.rule t.rollback.commit (job3.tests h t.index (rest_of s) (num i)))

    job4_roomy : (n : ℕ) (ok : Bool) → Roomy (calls.job4 s n i ok)
    job4_roomy n ok =
        let t = entry_of s.log i in
        let h = s.applied.head in
        apply_rollback_holds t h i (f.entries i p q) f.applied short (job4.rule t.rollback.apply (job4.tests t h (settled s) (line_open_for s.net n) ok))

    plan_roomy : (n j : ℕ) (ok : Bool) → Roomy (plan_of s n j i ok)
    unfolding plan_of
    plan_roomy n j ok = go (eqb j 1) (eqb j 2) (eqb j 3)
      where
        go : (a b c : Bool) → Roomy (cond a (calls.job1 s i ok) (cond b (calls.job2 s n i ok) (cond c (calls.job3 s i) (calls.job4 s n i ok))))
        go true b c = job1_roomy ok
        go false true c = job2_roomy n ok
        go false false true = job3_roomy
        go false false false = job4_roomy n ok

  clear_calm : (b : Bool) → Stills s.log.folded.0 (last s.log) (clear_row b)
  clear_calm true = none
  clear_calm false = one_store _ (record { size = refl; small = zeros_small 32 }) refl refl

  copy_calm : (b : Bool) → Stills s.log.folded.0 (last s.log) (copy_row b s.net.values s.applied.values)
  copy_calm true = differ_still _ _ 32 s.net.values s.applied.values f.applied_values.small
  copy_calm false = none

  low : (i : ℕ) → is_kept s i ≡ true → s.log.folded.0 < i
  low i e = ltb-true s.log.folded.0 i e

  high : (i : ℕ) → in_log s i ≡ true → i ≤ last s.log
  high i e = leb-true i _ (and_right (leb 1 i) _ e)

  rolled_back_holds : (i : ℕ) → s.log.folded.0 < i → i ≤ last s.log → SizedEntry (outside.rolled_back (entry_of s.log i))
  rolled_back_holds i p q =
      let e = f.entries i p q in
      record { phase = omega arith; count = e.count; index = e.index; change_ordinal = e.change_ordinal; rollback_ordinal = e.rollback_ordinal; paths = e.paths; values = e.values; kept = e.kept; owners = e.owners }

  -- every call but append and fold leaves the last fold and the highest number, and what it stores has room
  pub decide_still : (c : Call) → is_plain c ≡ true → Stills s.log.folded.0 (last s.log) (decide s c).stores
  unfolding decide
  decide_still (append ps) e = absurd (true≢false (sym e))
  decide_still (fold_to b) e = absurd (true≢false (sym e))
  decide_still (calls.rollback i) e =
      unless_calm 5 (in_log s i) _
      (λ a. unless_calm 18 (is_kept s i) _
      (λ k. unless_calm 6 (outside.may_roll_back (entry_of s.log i)) _ (λ b. one_store _ (rolled_back_holds i (low i k) (high i a), (low i k, high i a)) refl refl)))
  decide_still start e = let x = outside.start s.net.target in unless_calm x.answer (eqb x.answer 0) _ (λ a. one_store _ (start_small s.net.target f.target) refl refl)
  decide_still stop e =
      let x = outside.stop s.net.target in
      unless_calm x.answer (eqb x.answer 0) _
      (λ a. more (record { fits = stop_small s.net.target f.target; fold = refl; last = refl })
      (join _ _ (clear_calm s.net.target.remembers)
      (one_store _ (record { size = length-map s.net.connections outside.off ∙ f.connections.size; small = off_small s.net.connections f.connections.small }) refl refl)))
  decide_still (connect n) e =
      let y = node_of s.net.connections n in
      let x = outside.connect y s.net.target.running in
      unless_calm 2 (is_node n) _
      (λ a. unless_calm x.answer (eqb x.answer 0) _
      (λ b. one_store _ (put_node_holds s.net.connections n x.connection f.connections (connect_small y s.net.target.running (node_small _ f.connections n))) refl refl))
  decide_still (disconnect n) e =
      let y = node_of s.net.connections n in
      let x = outside.disconnect y in
      unless_calm 2 (is_node n) _
      (λ a. unless_calm x.answer (eqb x.answer 0) _
      (λ b. one_store _ (put_node_holds s.net.connections n x.connection f.connections (disconnect_small y (node_small _ f.connections n))) refl refl))
  decide_still (master n) e =
      let y = node_of s.net.connections n in
      let x = outside.master s.net.mastership n y in
      unless_calm 2 (is_node n) _
      (λ a. unless_calm x.answer (eqb x.answer 0) _
      (λ b. one_store _ (master_sized s.net.mastership n y (leb-true n 8 (and_right (leb 1 n) _ a)) f.mastership (node_small _ f.connections n)) refl refl))
  decide_still (sync n) e =
      let x = outside.synchronise s.net.configuration s.net.mastership.term (is_master s.net n) (reaches_target s.net n) in
      unless_calm 2 (is_node n) _
      (λ a. unless_calm x.answer (eqb x.answer 0) _
      (λ b. more (record { fits = sync_small s.net.configuration s.net.mastership.term (is_master s.net n) (reaches_target s.net n) f.configuration f.mastership.term; fold = refl; last = refl }) (copy_calm x.copies)))
  decide_still (work n j i r c) e =
      unless_calm 2 (work_ok n j r c) _
      (λ a. unless_calm 5 (in_log s i) _
      (λ b. unless_calm 18 (is_kept s i) _
      (λ k. unless_calm 10 (is_master s.net n) _
      (λ d. rows_still s.log.folded.0 (last s.log) i (low i k) (high i b) f.room.1.1 (commits j) (plan_of s n j i (eqb r 0)) (eqb c 1) (eqb c 2)
      (plan_roomy i (low i k) (high i b) n j (eqb r 0))))))

  append_fits : (ps : List Pair) → FitsAll s.log.folded.0 (last s.log) (decide s (append ps)).stores
  unfolding decide
  append_fits ps = go (valid_change ps) refl (ltb (length s.log.entries) slots) refl (ltb (last s.log) highest) refl
    where
      go : (a : Bool) → valid_change ps ≡ a → (b : Bool) → ltb (length s.log.entries) slots ≡ b → (c : Bool) → ltb (last s.log) highest ≡ c
          → FitsAll s.log.folded.0 (last s.log)
          (unless 3 a (unless 4 b (unless 9 c (record { reply = record { answer = 0; event = Rattle.kinds.specs.Events.numbered (last s.log + 1) }; stores = grow (appended ps) ∷ [] })))).stores
      go true e true h true k = let x = ltb-true (length s.log.entries) slots h in ((appended_sized ps e, (omega arith, ltb-true _ _ k)), tt)
      go true e true h false k = tt
      go true e false h c k = tt
      go false e b h c k = tt

  -- ---- fold: the base's values are the entries', and the last fold moves within the log
  module _ (w : kept.Formed s) where
    base_if_holds : (x : Bool) (t : Transaction) → SizedEntry t → Stills s.log.folded.0 (last s.log) (base_if x t)
    base_if_holds true t h = laid_still s.log.folded.0 (last s.log) of_base Values t h
    base_if_holds false t h = none

    base_still : (to k v : ℕ) → v ≤ last s.log → Stills s.log.folded.0 (last s.log) (base_row s.log to (hops k s.log v))
    unfolding hops base_row
    base_still to zero v h = none
    base_still to (suc k) v h = go (leb v s.log.folded.0) refl (base_still to k (entry_of s.log v).index.0)
      where
        go : (x : Bool) → leb v s.log.folded.0 ≡ x
            → ((entry_of s.log v).index.0 ≤ last s.log → Stills s.log.folded.0 (last s.log) (base_row s.log to (hops k s.log (entry_of s.log v).index.0)))
            → Stills s.log.folded.0 (last s.log) (base_row s.log to (cond x [] (v ∷ hops k s.log (entry_of s.log v).index.0)))
        go true e r = none
        go false e r =
            let a : s.log.folded.0 < v = leb-false v s.log.folded.0 e in
            let b : (entry_of s.log v).index.0 < v = (w.entries v a h).below in
            join s.log.folded.0 (last s.log) (r (omega arith)) (base_if_holds (leb v to) (entry_of s.log v) (f.entries v a h))

    pub base_row_still : (to : ℕ) → Stills s.log.folded.0 (last s.log) (base_row s.log to (live s))
    base_row_still to = base_still to _ _ w.committed.revision

    fold_fits : (b : ℕ) → FitsAll s.log.folded.0 (last s.log) (decide s (fold_to b)).stores
    unfolding decide
    fold_fits b = go (is_kept s b && leb b (last s.log)) refl (may_fold s b)
      where
        go : (x : Bool) → (is_kept s b && leb b (last s.log)) ≡ x → (y : Bool)
            → FitsAll s.log.folded.0 (last s.log) (unless 5 x (unless 17 y (calls.accepted (base_row s.log b (live s) ++ (fold (num b) ∷ []))))).stores
        go true e true =
            let p : s.log.folded.0 < b = ltb-true _ _ (and_left (is_kept s b) _ e) in
            let q : b ≤ last s.log = leb-true _ _ (and_right (is_kept s b) _ e) in
            stills_then s.log.folded.0 (last s.log) (base_row_still b) (fold (num b) ∷ []) ((omega arith, q), tt)
        go true e false = tt
        go false e y = tt

    pub decide_fits : (c : Call) → FitsAll s.log.folded.0 (last s.log) (decide s c).stores
    decide_fits (append ps) = append_fits ps
    decide_fits (calls.rollback i) = stills_fit _ _ (decide_still (calls.rollback i) refl)
    decide_fits start = stills_fit _ _ (decide_still start refl)
    decide_fits stop = stills_fit _ _ (decide_still stop refl)
    decide_fits (connect n) = stills_fit _ _ (decide_still (connect n) refl)
    decide_fits (disconnect n) = stills_fit _ _ (decide_still (disconnect n) refl)
    decide_fits (master n) = stills_fit _ _ (decide_still (master n) refl)
    decide_fits (sync n) = stills_fit _ _ (decide_still (sync n) refl)
    decide_fits (work n j i r c) = stills_fit _ _ (decide_still (work n j i r c) refl)
    decide_fits (fold_to b) = fold_fits b

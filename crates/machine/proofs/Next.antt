-- The state after each row of stores, as a record (Stores, Rows, Calls say which rows there are). Assumes nothing.
use Prim.Native.Nat.{ℕ, zero, suc, ◌-◌, ◌≤◌, ◌<◌}
use native.Mathlib.Omega.{arith}
use mathlib.Core.List.{List, [], ◌∷◌, ◌++◌, append-nil}
use mathlib.Core.Bool.{Bool, true, false, not, ◌&&◌, cond}
use mathlib.Core.Path.{◌≡◌, refl, sym, ap, ◌∙◌}
use lib.Dec.{eqb, ltb, leb}
use lib.ListN.{length, get_or, set, take, drop, drop_of_length-le}
use lib.Seq.{take_all, take-suc, drop-cons, append_snoc, set_at, length-take-le}
use borrow.Author.Tests.{eqb-true}
use Rattle.kinds.specs.declared.Transaction.{Transaction}
use Rattle.kinds.specs.declared.Number.{Number}
use Rattle.kinds.specs.declared.Configuration.{Configuration}
use Rattle.kinds.specs.declared.Mastership.{Mastership}
use Rattle.kinds.specs.declared.Connection.{Connection}
use Rattle.kinds.specs.declared.Target.{Target}
use Rattle.kinds.specs.Numbers.{num}
use Rattle.rules.specs.Plans.{is_push}
use Rattle.rules.specs.declared.Plan.{Plan}
use Rattle.rules.specs.declared.Lay.{Lay}
use Rattle.rules.specs.declared.Lay.TheVariants.{Nothing, Values, Kept}
use Rattle.rules.specs.declared.Order.{Order}
use Rattle.rules.specs.declared.Order.TheVariants.{Neither, EntryOnly, HeadOnly, EntryThenHead, HeadThenEntry, TargetThenHeadThenEntry}
use Rattle.machine.specs.State.{State, Net, Log, in_each, entry_of, put_entry, folded_to}
use Rattle.machine.specs.Stores.{Table, of_committed, of_applied, of_target, of_base, of_owners, Store, fold, with_log, with_ledger_head, with_base, with_committed, with_applied, with_net, with_target_values, after, afters}
use Rattle.machine.specs.LiveList.{live}
use Rattle.machine.specs.Folding.{base_if, base_row}
use Rattle.machine.specs.Laid.{laying, laying_at, over, laid_over, owned_over}
use Rattle.machine.specs.Differ.{differs_at, differ_row}
use Rattle.machine.specs.Rows.{lay_one, lay_at, overlay, laid, owned, change_row, head_row, target_row, entry_row, rows_by, rows_of, event_of}

-- ---- a plan's event, where the call is not cut at its first store
pub event_of_whole : (p : Plan) → event_of p false ≡ p.event
event_of_whole p = rw (never (is_push p.order)) refl
  where
    never : (b : Bool) → b && false ≡ false
    never true = refl
    never false = refl

-- ---- a plan's stores
abbrev pub putting : State → ℕ → Transaction → State
putting s i t = with_log s (put_entry s.log i t)

abbrev pub change_if : Bool → ℕ → Number → Number
change_if true i n = num i
change_if false i n = n

-- the head, with Committed's change, values and owners, or with Applied's values
abbrev pub heading : Bool → State → Plan → ℕ → State
heading true s p i =
    record {
      log = s.log;
      change = change_if p.change i s.change;
      committed = record {
        head = p.head;
        values = laid_over p.lay p.entry s.committed.values;
        owners = owned_over p.lay p.entry i s.committed.owners;
      };
      applied = s.applied;
      net = s.net;
    }
heading false s p i =
    record {
      log = s.log;
      change = s.change;
      committed = s.committed;
      applied = record { head = p.head; values = laid_over p.lay p.entry s.applied.values };
      net = s.net;
    }

pub heading_net : (b : Bool) (s : State) (p : Plan) (i : ℕ) → (heading b s p i).net ≡ s.net
heading_net true s p i = refl
heading_net false s p i = refl

-- the push itself
abbrev pub targeting : State → Plan → State
targeting s p = with_net s (with_target_values s.net (laid_over p.lay p.entry s.net.values))

abbrev pub performed_by : Order → Bool → State → Plan → ℕ → (first second : Bool) → State
performed_by Neither commits s p i first second = s
performed_by EntryOnly commits s p i first second = putting s i p.entry
performed_by HeadOnly commits s p i first second = heading commits s p i
performed_by EntryThenHead commits s p i true second = putting s i p.entry
performed_by EntryThenHead commits s p i false second = heading commits (putting s i p.entry) p i
performed_by HeadThenEntry commits s p i true second = heading commits s p i
performed_by HeadThenEntry commits s p i false second = putting (heading commits s p i) i p.entry
performed_by TargetThenHeadThenEntry commits s p i true second = targeting s p
performed_by TargetThenHeadThenEntry commits s p i false true = heading commits (targeting s p) p i
performed_by TargetThenHeadThenEntry commits s p i false false = putting (heading commits (targeting s p) p i) i p.entry

-- the state after job's plan p for number i, cut after its first store, after its second, or not
abbrev pub performed : Bool → State → Plan → ℕ → (first second : Bool) → State
performed commits s p i first second = performed_by p.order commits s p i first second

-- ---- a fold: the base with the live ones up to b laid over it, and the entries after b
abbrev pub laying_if : Bool → Transaction → List ℕ → List ℕ
laying_if true t l = laid_over Values t l
laying_if false t l = l

unfoldable pub base_over : Log → ℕ → List ℕ → List ℕ → List ℕ
base_over l b [] vs = vs
base_over l b (k ∷ ks) vs = laying_if (leb k b) (entry_of l k) (base_over l b ks vs)

abbrev pub folding : State → ℕ → State
folding s b = with_log s (folded_to (with_base s.log (base_over s.log b (live s) s.log.base)) (num b))

-- ---- the nodes' side after its calls
abbrev pub with_configuration : Net → Configuration → Net
with_configuration w g = record { configuration = g; mastership = w.mastership; connections = w.connections; target = w.target; values = w.values }

abbrev pub with_mastership : Net → Mastership → Net
with_mastership w m = record { configuration = w.configuration; mastership = m; connections = w.connections; target = w.target; values = w.values }

abbrev pub with_connections : Net → List Connection → Net
with_connections w cs = record { configuration = w.configuration; mastership = w.mastership; connections = cs; target = w.target; values = w.values }

abbrev pub with_target : Net → Target → Net
with_target w t = record { configuration = w.configuration; mastership = w.mastership; connections = w.connections; target = t; values = w.values }

-- ---- the laws
pub afters_append : (s : State) (a b : List Store) → afters s (a ++ b) ≡ afters (afters s a) b
unfolding afters
afters_append s [] b = refl
afters_append s (e ∷ a) b = afters_append (after s e) a b

abbrev table_of : State → Table → List ℕ
table_of s of_committed = s.committed.values
table_of s of_applied = s.applied.values
table_of s of_target = s.net.values
table_of s of_base = s.log.base
table_of s of_owners = s.committed.owners

abbrev with_table : State → Table → List ℕ → State
with_table s of_committed l = with_committed s (record { head = s.committed.head; values = l; owners = s.committed.owners })
with_table s of_owners l = with_committed s (record { head = s.committed.head; values = s.committed.values; owners = l })
with_table s of_applied l = with_applied s (record { head = s.applied.head; values = l })
with_table s of_target l = with_net s (with_target_values s.net l)
with_table s of_base l = with_log s (with_base s.log l)

module _ (s : State) where
  lay : (t : Table) (b : Bool) (l : List ℕ) (p v : ℕ) → afters (with_table s t l) (lay_one b t p v) ≡ with_table s t (laying b l p v)
  unfolding afters after
  lay of_committed true l p v = refl
  lay of_committed false l p v = refl
  lay of_applied true l p v = refl
  lay of_applied false l p v = refl
  lay of_target true l p v = refl
  lay of_target false l p v = refl
  lay of_base true l p v = refl
  lay of_base false l p v = refl
  lay of_owners true l p v = refl
  lay of_owners false l p v = refl

  same : (t : Table) → s ≡ with_table s t (table_of s t)
  same of_committed = refl
  same of_applied = refl
  same of_target = refl
  same of_base = refl
  same of_owners = refl

  lays : (t : Table) (ps vs : List ℕ) (n k : ℕ) (l : List ℕ) (es : List Store)
      → afters (with_table s t l) (lay_at t ps vs n k ++ es) ≡ afters (with_table s t (laying_at ps vs n l k)) es
  lays t ps vs n k l es =
      afters_append (with_table s t l) (lay_at t ps vs n k) es ∙ ap (λ x. afters x es) (lay t (ltb k n) l (get_or ps k 0) (get_or vs k 0))

  overlay_over : (t : Table) (ps vs : List ℕ) (n : ℕ) → afters s (overlay t ps vs n) ≡ with_table s t (over ps vs n (table_of s t))
  unfolding overlay over
  overlay_over t ps vs n =
      ap (λ x. afters x (overlay t ps vs n)) (same t)
      ∙ lays t ps vs n 0 _ _
      ∙ lays t ps vs n 1 _ _
      ∙ lays t ps vs n 2 _ _
      ∙ lay t (ltb 3 n) _ (get_or ps 3 0) (get_or vs 3 0)

  pub laid_over_holds : (t : Table) (v : Lay) (u : Transaction) → afters s (laid t v u) ≡ with_table s t (laid_over v u (table_of s t))
  unfolding afters
  laid_over_holds t Nothing u = same t
  laid_over_holds t Values u = overlay_over t u.paths u.values u.count
  laid_over_holds t Kept u = overlay_over t u.paths u.kept u.count

  owned_over_holds : (v : Lay) (u : Transaction) (i : ℕ) → afters s (owned v u i) ≡ with_table s of_owners (owned_over v u i s.committed.owners)
  unfolding afters
  owned_over_holds Nothing u i = same of_owners
  owned_over_holds Values u i = overlay_over of_owners u.paths (in_each i) u.count
  owned_over_holds Kept u i = overlay_over of_owners u.paths u.owners u.count

-- both of a commit's tables
pub laid_owned : (s : State) (v : Lay) (u : Transaction) (i : ℕ)
    → afters s (laid of_committed v u ++ owned v u i)
    ≡ with_committed s
    (record { head = s.committed.head; values = laid_over v u s.committed.values; owners = owned_over v u i s.committed.owners })
laid_owned s v u i =
    afters_append s (laid of_committed v u) (owned v u i)
    ∙ ap (λ x. afters x (owned v u i)) (laid_over_holds s of_committed v u)
    ∙ owned_over_holds (with_table s of_committed (laid_over v u s.committed.values)) v u i

entry_putting : (s : State) (p : Plan) (i : ℕ) → afters s (entry_row p i) ≡ putting s i p.entry
unfolding afters after
entry_putting s p i = refl

head_heading : (c : Bool) (s : State) (p : Plan) (i : ℕ) → afters s (head_row c p i) ≡ heading c s p i
unfolding afters after
head_heading true s p i = go p.change
  where
    go : (b : Bool)
        → afters s (Rattle.machine.specs.Stores.committed_head p.head ∷ (change_row b i ++ (laid of_committed p.lay p.entry ++ owned p.lay p.entry i)))
        ≡ record {
          log = s.log;
          change = change_if b i s.change;
          committed = record {
            head = p.head;
            values = laid_over p.lay p.entry s.committed.values;
            owners = owned_over p.lay p.entry i s.committed.owners;
          };
          applied = s.applied;
          net = s.net;
        }
    go true =
        laid_owned (record { log = s.log; change = num i; committed = with_ledger_head s.committed p.head; applied = s.applied; net = s.net }) p.lay p.entry i
    go false = laid_owned (with_committed s (with_ledger_head s.committed p.head)) p.lay p.entry i
head_heading false s p i = laid_over_holds (with_applied s (record { head = p.head; values = s.applied.values })) of_applied p.lay p.entry

target_targeting : (s : State) (p : Plan) → afters s (target_row p) ≡ targeting s p
target_targeting s p = laid_over_holds s of_target p.lay p.entry

-- what a plan's rows do
pub rows_performed : (c : Bool) (s : State) (p : Plan) (i : ℕ) (first second : Bool) → afters s (rows_of c p i first second) ≡ performed c s p i first second
unfolding rows_of afters
rows_performed c s p i first second = go p.order first second
  where
    head_entry : (u : State) → afters u (head_row c p i ++ entry_row p i) ≡ putting (heading c u p i) i p.entry
    head_entry u =
        afters_append u (head_row c p i) (entry_row p i) ∙ ap (λ x. afters x (entry_row p i)) (head_heading c u p i) ∙ entry_putting (heading c u p i) p i

    after_target : (es : List Store) → afters s (target_row p ++ es) ≡ afters (targeting s p) es
    after_target es = afters_append s (target_row p) es ∙ ap (λ x. afters x es) (target_targeting s p)

    go : (o : Order) (first second : Bool) → afters s (rows_by o c p i first second) ≡ performed_by o c s p i first second
    go Neither first second = refl
    go EntryOnly first second = entry_putting s p i
    go HeadOnly first second = head_heading c s p i
    go EntryThenHead true second = entry_putting s p i
    go EntryThenHead false second =
        afters_append s (entry_row p i) (head_row c p i) ∙ ap (λ x. afters x (head_row c p i)) (entry_putting s p i) ∙ head_heading c (putting s i p.entry) p i
    go HeadThenEntry true second = head_heading c s p i
    go HeadThenEntry false second = head_entry s
    go TargetThenHeadThenEntry true second = target_targeting s p
    go TargetThenHeadThenEntry false true = after_target (head_row c p i) ∙ head_heading c (targeting s p) p i
    go TargetThenHeadThenEntry false false = after_target (head_row c p i ++ entry_row p i) ∙ head_entry (targeting s p)

-- what a fold's row does
base_over_holds : (s : State) (l : Log) (b : ℕ) (ks : List ℕ) → afters s (base_row l b ks) ≡ with_table s of_base (base_over l b ks s.log.base)
unfolding base_row base_over afters
base_over_holds s l b [] = refl
base_over_holds s l b (k ∷ ks) =
    afters_append s (base_row l b ks) _ ∙ ap (λ x. afters x (base_if (leb k b) (entry_of l k))) (base_over_holds s l b ks) ∙ go (leb k b) (base_over l b ks s.log.base)
  where
    go : (c : Bool) (vs : List ℕ) → afters (with_table s of_base vs) (base_if c (entry_of l k)) ≡ with_table s of_base (laying_if c (entry_of l k) vs)
    go true vs = laid_over_holds (with_table s of_base vs) of_base Values (entry_of l k)
    go false vs = refl

pub row_folding : (s : State) (b : ℕ) → afters s (base_row s.log b (live s) ++ (fold (num b) ∷ [])) ≡ folding s b
unfolding afters after
row_folding s b =
    afters_append s (base_row s.log b (live s)) _ ∙ ap (λ x. afters x (fold (num b) ∷ [])) (base_over_holds s s.log b (live s))

-- what a synchronise's row does: the target's values become the others, in tables of 32. Below k they are those already, and
-- storing what stands there would change nothing
module _ (ws vs : List ℕ) where
  copy_one : (k : ℕ) → k < length ws → k < length vs → laying (differs_at ws vs k) (take k vs ++ drop k ws) k (get_or vs k 0) ≡ take (suc k) vs ++ drop (suc k) ws
  copy_one k p q =
      ap (λ l. laying (differs_at ws vs k) (take k vs ++ l) k (get_or vs k 0)) (drop-cons ws k 0 p) ∙ go (eqb (get_or ws k 0) (get_or vs k 0)) refl
      ∙ sym (append_snoc (take k vs) (get_or vs k 0) (drop (suc k) ws)) ∙ ap (λ l. l ++ drop (suc k) ws) (sym (take-suc vs k 0 q))
    where
      go : (b : Bool) → eqb (get_or ws k 0) (get_or vs k 0) ≡ b → laying (not b) (take k vs ++ get_or ws k 0 ∷ drop (suc k) ws) k (get_or vs k 0) ≡ take k vs ++ get_or vs k 0 ∷ drop (suc k) ws
      go true e = ap (λ x. take k vs ++ x ∷ drop (suc k) ws) (eqb-true _ _ e)
      go false e = set_at (take k vs) (get_or ws k 0) (drop (suc k) ws) (get_or vs k 0) k (length-take-le k vs (omega arith))

  copy_below : (s : State) (k : ℕ) → k ≤ length ws → k ≤ length vs → afters (with_table s of_target ws) (differ_row k ws vs) ≡ with_table s of_target (take k vs ++ drop k ws)
  unfolding differ_row afters
  copy_below s zero p q = refl
  copy_below s (suc k) p q =
      afters_append (with_table s of_target ws) (differ_row k ws vs) _ ∙ ap (λ x. afters x (lay_one (differs_at ws vs k) of_target k (get_or vs k 0))) (copy_below s k (omega arith) (omega arith))
      ∙ lay s of_target (differs_at ws vs k) _ k (get_or vs k 0) ∙ ap (with_table s of_target) (copy_one k (omega arith) (omega arith))

pub row_copying : (s : State) (vs : List ℕ) → length s.net.values ≡ 32 → length vs ≡ 32 → afters s (differ_row 32 s.net.values vs) ≡ with_net s (with_target_values s.net vs)
row_copying s vs p q =
    let ws = s.net.values in
    copy_below ws vs s 32 (omega arith) (omega arith)
    ∙ ap (with_table s of_target) (ap (λ l. take 32 vs ++ l) (drop_of_length-le ws {i = 32} (omega arith)) ∙ append-nil (take 32 vs) ∙ take_all 32 vs (omega arith))

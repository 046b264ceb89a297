-- What the code loads is what the view shows, so what its rules decide is what the machine decides. Assumes nothing.
use Prim.Native.Nat.{ℕ, ◌≤◌, ◌<◌}
use mathlib.Core.Path.{◌≡◌, refl, ap, ap₂, sym, ◌∙◌}
use mathlib.Core.Bool.{Bool, true, false, ◌&&◌, ◌||◌, cond}
use mathlib.Core.List.{List, [], ◌∷◌}
use native.Mathlib.Omega.{arith}
use borrow.Author.Tests.{eq-eqb, ne_eqb, le-leb, lt-leb}
use lib.Dec.{eqb, leb, ltb}
use lib.ListN.{length, get_or}
use Rattle.kinds.specs.declared.Transaction.{Transaction}
use Rattle.kinds.specs.declared.Head.{Head}
use Rattle.kinds.specs.declared.Number.{Number}
use Rattle.kinds.specs.declared.Connection.{Connection}
use Rattle.kinds.specs.declared.Mastership.{Mastership}
use Rattle.kinds.specs.declared.Target.{Target}
use Rattle.kinds.specs.declared.Configuration.{Configuration}
use Rattle.kinds.specs.declared.Status.{Status}
use Rattle.kinds.specs.declared.Status.TheVariants.{None, Pending, InProgress, Complete, Aborted, Canceled, Failed}
use Rattle.kinds.specs.Numbers.{num, follows, is_full, next_ordinal}
use Rattle.kinds.specs.Statuses.{is_complete, is_pending}
use Rattle.rules.specs.declared.Plan.{Plan}
use Rattle.rules.specs.declared.Present.{Present}
use Rattle.rules.specs.declared.CommitTests.{CommitTests}
use Rattle.rules.specs.declared.ApplyChangeTests.{ApplyChangeTests}
use Rattle.rules.specs.declared.ApplyRollbackTests.{ApplyRollbackTests}
use Rattle.rules.specs.AtRest.{at_rest}
use Rattle.rules.specs.CommitChange.{commit_change}
use Rattle.rules.specs.CommitChange as commit
use Rattle.rules.specs.CommitRollback.{commit_rollback}
use Rattle.rules.specs.ApplyChange.{apply_change}
use Rattle.rules.specs.ApplyChange as change
use Rattle.rules.specs.ApplyRollback.{apply_rollback}
use Rattle.rules.specs.ApplyRollback as rollback
use Rattle.rules.specs.Outside.{line_open}
use Rattle.machine.specs.State.{State, entry_of, last, node_of, line_open_for}
use Rattle.machine.specs.Stores.{of_committed, of_owners}
use Rattle.machine.specs.WellFormed.{all_entries}
use Rattle.machine.specs.Settled.{entry_settled, settled}
use Rattle.machine.specs.Rest.{rest_of}
use Rattle.machine.specs.Calls.{present_one, present, present_of, job1, job2, job3, job4, plan_of}
use Rattle.machine.proofs.Kept as kept
use Rattle.fields.specs.Field.{fields_at}
use Rattle.image.specs.Layout.{table_widths, committed_at, applied_at, values_at, image_length}
use Rattle.image.specs.Records.{entry_at, last_of, folded_of, change_of, head_at, configuration_of, mastership_of, target_of, connections_of}
use Rattle.image.specs.View.{table_of, view}
use Rattle.image.specs.Formed.{formed}
use Rattle.image.proofs.Scanned.{Room, view_last, view_entry, formed_length, formed_room, formed_state}
use Rattle.controller.specs.Claims.{Entry, settled_for}
use Rattle.controller.specs.Nights.{is_next, settled_at, no_present, present_at}

-- ---- a well-formed image
module _ (l : List ℕ) (w : formed l ≡ true) where
  pub size : image_length ≤ length l
  size = let e : length l ≡ image_length = formed_length l w in omega arith

  pub formed_view : kept.Formed (view l)
  formed_view = kept.formed (view l) (formed_state l w)

  pub room : Room (folded_of l) (last_of l)
  room = formed_room l w

  pub last_is : last (view l).log ≡ last_of l
  last_is = view_last l room.0

  -- Committed's index is at most the highest number
  pub index_in : (head_at l committed_at).index.0 ≤ last_of l
  unfolding view
  index_in = let h : (view l).committed.head.index.0 ≤ last (view l).log = formed_view.committed.index in omega (arith, last_is)

-- an entry of the log
pub entry_of_holds : (l : List ℕ) (i : ℕ) → folded_of l < i → i ≤ last_of l → entry_of (view l).log i ≡ entry_at l i
entry_of_holds l i a b = view_entry l i a b

module _ (l : List ℕ) (i : ℕ) (e : Entry l i) where
  -- what loading and storing it ask
  pub entry_here : (1 ≤ i) × (image_length ≤ length l)
  entry_here = (let h = e.kept in omega arith, size l e.formed)

  pub entry_size_holds : image_length ≤ length l
  entry_size_holds = size l e.formed

  pub this_entry : (t : Transaction) → t ≡ entry_at l i → t ≡ entry_of (view l).log i
  this_entry t q = q ∙ sym (entry_of_holds l i e.kept e.last)

-- ---- at rest
module _ (l : List ℕ) (h : Head) (i b : ℕ) (e : h ≡ head_at l committed_at) (p : i ≡ h.index.0) (f : b ≡ folded_of l) (r : Bool) where
  at_index : i ≡ (head_at l committed_at).index.0
  at_index = p ∙ ap (λ (x : Head). x.index.0) e

  -- the mark at Committed's index, folded or not
  by_mark : (x : Bool) → leb (head_at l committed_at).index.0 (folded_of l) ≡ x
      → rest_of (view l)
      ≡ at_rest (head_at l committed_at) (cond x Complete (entry_of (view l).log (head_at l committed_at).index.0).change.commit)
      (cond x Complete (entry_of (view l).log (head_at l committed_at).index.0).rollback.commit)
  unfolding view
  by_mark x q =
      ap (λ (y : Bool). at_rest (head_at l committed_at) (cond y Complete (entry_of (view l).log (head_at l committed_at).index.0).change.commit)
      (cond y Complete (entry_of (view l).log (head_at l committed_at).index.0).rollback.commit)) q

  pub rest_folded : i ≤ b → r ≡ at_rest h Complete Complete → r ≡ rest_of (view l)
  rest_folded k s =
      let low : (head_at l committed_at).index.0 ≤ folded_of l = omega (arith, at_index) in
      s ∙ ap (λ (x : Head). at_rest x Complete Complete) e ∙ sym (by_mark true (le-leb _ _ low))

  pub rest_some : (t : Transaction) → formed l ≡ true → b < i → t ≡ entry_at l i → r ≡ at_rest h t.change.commit t.rollback.commit → r ≡ rest_of (view l)
  rest_some t w k q s =
      let m : folded_of l < (head_at l committed_at).index.0 = omega (arith, at_index) in
      let z : entry_of (view l).log (head_at l committed_at).index.0 ≡ t = entry_of_holds l (head_at l committed_at).index.0 m (index_in l w) ∙ ap (entry_at l) (sym at_index) ∙ sym q in
      s ∙ ap₂ (λ (x : Head) (u : Transaction). at_rest x u.change.commit u.rollback.commit) e (sym z) ∙ sym (by_mark false (lt-leb _ _ m))

-- ---- settled
pub settled_none : (l : List ℕ) (h : Head) (n : ℕ) → h ≡ head_at l applied_at → n ≡ h.ordinal.0 → n ≡ 0 → true ≡ settled (view l)
unfolding view
settled_none l h n e p z = rw (← e, ← p, z)

pub settled_all : (l : List ℕ) (h : Head) (n : ℕ) (r : Bool) → h ≡ head_at l applied_at → n ≡ h.ordinal.0 → (n ≡ 0 → ⊥)
    → r ≡ all_entries (entry_settled h.ordinal.0) (view l).log → r ≡ settled (view l)
unfolding view
settled_all l h n r e p z q = q ∙ rw (← e, ← p, ne_eqb n 0 z)

-- the last fold is at most the highest number
pub fold_low : (l : List ℕ) (b n : ℕ) → formed l ≡ true → b ≡ folded_of l → n ≡ last_of l → b ≤ n
fold_low l b n w p q = omega (arith, (room l w).0)

-- where a side's apply is not Pending, its rules decide the same whether the applied side is settled or not
module _ (t : Transaction) (h : Head) (s : State) (i : Number) (line ok : Bool) where
  change_asks : apply_change t h (settled_for t.change.apply s) i line ok ≡ apply_change t h (settled s) i line ok
  change_asks = go t.change.apply
    where
      go : (a : Status) → change.plans (change.rule a (change.tests t h (settled_for a s) i line ok)) t h i ≡ change.plans (change.rule a (change.tests t h (settled s) i line ok)) t h i
      go Pending = refl
      go None = refl
      go InProgress = refl
      go Complete = refl
      go Aborted = refl
      go Canceled = refl
      go Failed = refl

  rollback_asks : apply_rollback t h (settled_for t.rollback.apply s) i line ok ≡ apply_rollback t h (settled s) i line ok
  rollback_asks = go t.rollback.apply
    where
      go : (a : Status) → rollback.plans (rollback.rule a (rollback.tests t h (settled_for a s) line ok)) t h i ≡ rollback.plans (rollback.rule a (rollback.tests t h (settled s) line ok)) t h i
      go Pending = refl
      go None = refl
      go InProgress = refl
      go Complete = refl
      go Aborted = refl
      go Canceled = refl
      go Failed = refl

-- nor where it is not next
module _ (t : Transaction) (h : Head) (s : State) (i : Number) (line ok : Bool) where
  abbrev a : ℕ
  a = h.ordinal.0

  abbrev change_tests : (committed next settled : Bool) → ApplyChangeTests
  change_tests c f q =
      record {
        committed = c;
        next = f;
        aimed = eqb h.target.0 i.0;
        settled = q;
        undone = is_complete t.rollback.commit;
        passed = is_complete t.rollback.commit || ltb h.revision.0 t.index.0;
        level = eqb h.revision.0 t.index.0;
        landed = change.reached h.ordinal t.change.ordinal;
        line = line;
        accepted = ok;
      }

  pub next_change_holds : apply_change t h (settled_at a t s) i line ok ≡ apply_change t h (settled s) i line ok
  unfolding settled_at is_next
  next_change_holds = go (is_complete t.change.commit) t.change.apply (follows a t.change.ordinal.0) (is_next a t.rollback) (settled s)
    where
      go : (c : Bool) (u : Status) (f z q : Bool)
          → change.plans (change.rule u (change_tests c f (cond ((c && (is_pending u && f)) || z) q true))) t h i ≡ change.plans (change.rule u (change_tests c f q)) t h i
      go false u f z q = refl
      go true Pending true z q = refl
      go true Pending false z q = refl
      go true None f z q = refl
      go true InProgress f z q = refl
      go true Complete f z q = refl
      go true Aborted f z q = refl
      go true Canceled f z q = refl
      go true Failed f z q = refl

  abbrev rollback_tests : (committed next settled : Bool) → ApplyRollbackTests
  rollback_tests c f q =
      record {
        committed = c;
        next = f;
        tried = rollback.was_tried t.change.apply;
        aborted = rollback.is_aborted t.change.apply;
        aimed = eqb h.target.0 t.index.0;
        settled = q;
        landed = change.reached h.ordinal t.rollback.ordinal;
        line = line;
        accepted = ok;
      }

  pub next_rollback_holds : apply_rollback t h (settled_at a t s) i line ok ≡ apply_rollback t h (settled s) i line ok
  unfolding settled_at is_next
  next_rollback_holds = go (is_complete t.rollback.commit) t.rollback.apply (follows a t.rollback.ordinal.0) (is_next a t.change) (settled s)
    where
      go : (c : Bool) (u : Status) (f z q : Bool)
          → rollback.plans (rollback.rule u (rollback_tests c f (cond (z || (c && (is_pending u && f))) q true))) t h i ≡ rollback.plans (rollback.rule u (rollback_tests c f q)) t h i
      go c u f true q = refl
      go false u f false q = refl
      go true Pending true false q = refl
      go true Pending false false q = refl
      go true None f false q = refl
      go true InProgress f false q = refl
      go true Complete f false q = refl
      go true Aborted f false q = refl
      go true Canceled f false q = refl
      go true Failed f false q = refl

-- ---- what is present is kept only where a change begins
module _ (t : Transaction) (h : Head) (k : Number) (q : Bool) (i : Number) (ok : Bool) (s : State) where
  abbrev commit_tests : (ready accepted full landed : Bool) → CommitTests
  commit_tests f y z u = record { ready = f; aimed = eqb h.target.0 i.0; rest = q; accepted = y; full = z; landed = u }

  pub begin_present : commit_change t h k q i ok (present_at k.0 i.0 t s) ≡ commit_change t h k q i ok (present_of s t)
  unfolding present_at
  begin_present = go t.change.commit (follows k.0 i.0) ok (is_full h.ordinal.0) (eqb k.0 i.0)
    where
      go : (x : Status) (f y z u : Bool)
          → commit.plans (commit.rule x (commit_tests f y z u)) t h i (next_ordinal h.ordinal) (cond (is_pending x && f) (present_of s t) no_present)
          ≡ commit.plans (commit.rule x (commit_tests f y z u)) t h i (next_ordinal h.ordinal) (present_of s t)
      go Pending true y z u = refl
      go Pending false y z u = refl
      go InProgress true true true u = refl
      go InProgress true true false u = refl
      go InProgress true false z u = refl
      go InProgress false y z true = refl
      go InProgress false y z false = refl
      go Failed true y z u = refl
      go Failed false y z u = refl
      go None f y z u = refl
      go Complete f y z u = refl
      go Aborted f y z u = refl
      go Canceled f y z u = refl

-- ---- the line
pub line_shown : (l : List ℕ) (n : ℕ) (x : Connection) (m : Mastership) (t : Target) (g : Configuration) (r : Bool)
    → x ≡ node_of (connections_of l) n → m ≡ mastership_of l → t ≡ target_of l → g ≡ configuration_of l → r ≡ line_open n x m t g → r ≡ line_open_for (view l).net n
unfolding view
line_shown l n x m t g r p q u v w = w ∙ rw (p, q, u, v)

-- ---- what is present, of a table and of both
pub present_all : (l : List ℕ) (t : Transaction) (a b d e : ℕ)
    → a ≡ present_one (ltb 0 t.count) l (get_or t.paths 0 0) → b ≡ present_one (ltb 1 t.count) l (get_or t.paths 1 0)
    → d ≡ present_one (ltb 2 t.count) l (get_or t.paths 2 0) → e ≡ present_one (ltb 3 t.count) l (get_or t.paths 3 0)
    → (a ∷ b ∷ d ∷ e ∷ []) ≡ present l t
unfolding present
present_all l t a b d e p q r s = rw (p, q, r, s)

pub present_shown : (l : List ℕ) (t : Transaction) (vs os : List ℕ) → vs ≡ present (fields_at l (values_at of_committed) table_widths) t
    → os ≡ present (fields_at l (values_at of_owners) table_widths) t → ◌≡◌ {A = Present} (record { values = vs; owners = os }) (present_of (view l) t)
unfolding view table_of
present_shown l t vs os p q = rw (p, q)

-- ---- the jobs
module _ (l : List ℕ) (i : ℕ) (w : Entry l i) (t : Transaction) (e : t ≡ entry_at l i) (h : Head) (k : Number) (f : k ≡ num i) (p : Plan) where
  z : t ≡ entry_of (view l).log i
  z = this_entry l i w t e

  pub job1_shown : (c : Number) (q ok : Bool) (vs : Present) → h ≡ head_at l committed_at → c ≡ num (change_of l) → q ≡ rest_of (view l)
      → vs ≡ present_of (view l) t → p ≡ commit_change t h c q k ok vs → p ≡ job1 (view l) i ok
  unfolding view
  job1_shown c q ok vs eh ec eq ev ep =
      ep ∙ ap₂ (λ (x : Head) (y : Number). commit_change t x y q k ok vs) eh ec
      ∙ ap₂ (λ (x : Number) (y : Bool). commit_change t (head_at l committed_at) (num (change_of l)) y x ok vs) f eq
      ∙ ap₂ (λ (x : Transaction) (y : Present). commit_change x (head_at l committed_at) (num (change_of l)) (rest_of (view l)) (num i) ok y) z
      (ev ∙ ap (present_of (view l)) z)

  pub job3_shown : (q : Bool) → h ≡ head_at l committed_at → q ≡ rest_of (view l) → p ≡ commit_rollback t h q k → p ≡ job3 (view l) i
  unfolding view
  job3_shown q eh eq ep =
      ep ∙ ap₂ (λ (x : Transaction) (y : Head). commit_rollback x y q k) z eh
      ∙ ap₂ (λ (x : Bool) (y : Number). commit_rollback (entry_of (view l).log i) (head_at l committed_at) x y) eq f

  module _ (n : ℕ) (q o ok : Bool) (eh : h ≡ head_at l applied_at) (eo : o ≡ line_open_for (view l).net n) where
    pub job2_shown : q ≡ settled_for t.change.apply (view l) → p ≡ apply_change t h q k o ok → p ≡ job2 (view l) n i ok
    unfolding view
    job2_shown eq ep =
        ep ∙ ap (λ (x : Bool). apply_change t h x k o ok) eq ∙ change_asks t h (view l) k o ok
        ∙ ap₂ (λ (x : Transaction) (y : Head). apply_change x y (settled (view l)) k o ok) z eh
        ∙ ap₂ (λ (x : Number) (y : Bool). apply_change (entry_of (view l).log i) (head_at l applied_at) (settled (view l)) x y ok) f eo

    pub job4_shown : q ≡ settled_for t.rollback.apply (view l) → p ≡ apply_rollback t h q k o ok → p ≡ job4 (view l) n i ok
    unfolding view
    job4_shown eq ep =
        ep ∙ ap (λ (x : Bool). apply_rollback t h x k o ok) eq ∙ rollback_asks t h (view l) k o ok
        ∙ ap₂ (λ (x : Transaction) (y : Head). apply_rollback x y (settled (view l)) k o ok) z eh
        ∙ ap₂ (λ (x : Number) (y : Bool). apply_rollback (entry_of (view l).log i) (head_at l applied_at) (settled (view l)) x y ok) f eo

module _ (s : State) (n j i : ℕ) (ok : Bool) (p : Plan) where
  pub plan_1 : j ≡ 1 → p ≡ job1 s i ok → p ≡ plan_of s n j i ok
  unfolding plan_of
  plan_1 e q = rw (eq-eqb j 1 e) q

  pub plan_2 : (j ≡ 1 → ⊥) → j ≡ 2 → p ≡ job2 s n i ok → p ≡ plan_of s n j i ok
  unfolding plan_of
  plan_2 a e q = rw (ne_eqb j 1 a, eq-eqb j 2 e) q

  pub plan_3 : (j ≡ 1 → ⊥) → (j ≡ 2 → ⊥) → j ≡ 3 → p ≡ job3 s i → p ≡ plan_of s n j i ok
  unfolding plan_of
  plan_3 a b e q = rw (ne_eqb j 1 a, ne_eqb j 2 b, eq-eqb j 3 e) q

  pub plan_4 : (j ≡ 1 → ⊥) → (j ≡ 2 → ⊥) → (j ≡ 3 → ⊥) → p ≡ job4 s n i ok → p ≡ plan_of s n j i ok
  unfolding plan_of
  plan_4 a b e q = rw (ne_eqb j 1 a, ne_eqb j 2 b, ne_eqb j 3 e) q

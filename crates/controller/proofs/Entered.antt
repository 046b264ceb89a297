-- An entry of an old list made at once (order 6): the code's stores are its row; and a row that leaves an image which shows what calls
-- leave is, byte for byte, what they leave. Assumes nothing.
use Prim.Native.Nat.{ℕ, suc, ◌+◌, ◌≤◌, ◌<◌}
use mathlib.Core.Path.{◌≡◌, refl, ap, ap₂, sym, ◌∙◌, subst}
use mathlib.Core.Bool.{true}
use mathlib.Core.List.{List, [], ◌∷◌, ◌++◌}
use native.Mathlib.Omega.{arith}
use lib.ListN.{length, get_or}
use Rattle.kinds.specs.declared.Transaction.{Transaction}
use Rattle.kinds.specs.declared.Head.{Head}
use Rattle.kinds.specs.declared.Number.{Number}
use Rattle.kinds.specs.declared.Ordinal.{Ordinal}
use Rattle.kinds.specs.declared.Status.TheVariants.{None, Pending, Complete}
use Rattle.kinds.specs.Numbers.{num, ord, next_ordinal}
use Rattle.fields.proofs.Laws.{Bytes}
use Rattle.rules.specs.declared.Lay.{Lay}
use Rattle.rules.specs.declared.Lay.TheVariants.{Values, Kept}
use Rattle.rules.specs.declared.Present.{Present}
use Rattle.machine.specs.State.{State, last}
use Rattle.machine.specs.WellFormed.{well_formed}
use Rattle.machine.specs.Stores.{of_committed, Store, grow, change}
use Rattle.machine.specs.Rows.{laid, owned}
use Rattle.machine.specs.Calls.{Pair, Call, Outcome, appended, present_of, decide}
use Rattle.machine.specs.Entered.{committed_as, changed_entry, change_stores, undone_as, newest_in, undo_stores}
use Rattle.image.specs.Layout.{committed_at, last_at, image_length}
use Rattle.image.specs.Records.{entry_at, put_entry_at, last_of, folded_of, head_at, put_head_at}
use Rattle.image.specs.View.{view, write, written}
use Rattle.image.specs.Formed.{formed}
use Rattle.image.proofs.Scanned.{view_last, view_folded, view_entry, formed_length, formed_state, formed_room}
use Rattle.image.proofs.Shown.{FitsAll}
use Rattle.staying.proofs.Lent.{bytes_written}
use Rattle.staying.proofs.Stays.{decide_fits, formed_written}
use Rattle.staying.proofs.Unused.{Free, last_rises, written_free}
use Rattle.staying.proofs.Same.{image_same}
use Rattle.controller.specs.Claims.{outcome_of, Entry}
use Rattle.controller.specs.Nights.{lent_from}
use Rattle.controller.proofs.Decided.{entry_here}
use Rattle.controller.proofs.Lent.{decided, lent}

-- ---- the code's stores
-- Committed's head at rest on an aim
abbrev resting : (index aim : Number) → Ordinal → Head
resting i k o = record { index = i; target = k; revision = k; ordinal = o }

-- both of its tables
abbrev tables : Lay → Transaction → ℕ → List Store
tables x t i = laid of_committed x t ++ owned x t i

-- the entry that a commit leaves
pub committed_made : (t : Transaction) (k : Number) (o : Ordinal) (vs : Present) (z : Ordinal) → z ≡ ord 0
    → record {
      phase = 1;
      count = t.count;
      paths = t.paths;
      values = t.values;
      change = record { commit = Complete; apply = Pending; ordinal = o };
      rollback = record { commit = None; apply = None; ordinal = z };
      index = k;
      kept = vs.values;
      owners = vs.owners;
    }
    ≡ committed_as t k o vs
committed_made t k o vs z e = rw e refl

pub commits_made : (l : List ℕ) (t : Transaction) (h : Head) (o : Ordinal) (vs : Present) (r : Transaction) → h ≡ head_at l committed_at → o ≡ next_ordinal h.ordinal
    → vs ≡ present_of (view l) t → r ≡ committed_as t h.revision o vs
    → r ≡ committed_as t (head_at l committed_at).revision (next_ordinal (head_at l committed_at).ordinal) (present_of (view l) t)
commits_made l t h o vs r eh eo ev q =
    q ∙ ap (λ (x : Ordinal). committed_as t h.revision x vs) eo ∙ ap (λ (x : Present). committed_as t h.revision (next_ordinal h.ordinal) x) ev
    ∙ ap (λ (x : Head). committed_as t x.revision (next_ordinal x.ordinal) (present_of (view l) t)) eh

module _ (l : List ℕ) (w : formed l ≡ true) where
  -- a change's
  module _ (ps : List Pair) (t u : Transaction) (et : t ≡ appended ps)
      (eu : u ≡ committed_as t (head_at l committed_at).revision (next_ordinal (head_at l committed_at).ordinal) (present_of (view l) t)) where
    entry_is : u ≡ changed_entry (view l) ps
    unfolding view
    entry_is = eu ∙ ap (λ (x : Transaction). committed_as x (head_at l committed_at).revision (next_ordinal (head_at l committed_at).ordinal) (present_of (view l) x)) et

    pub change_row_holds : (n : ℕ) → n ≡ last_of l → (i : Number) → i ≡ num (n + 1) → (m1 m2 m3 m4 : List ℕ) → m1 ≡ write l (grow u) → m2 ≡ write m1 (change i)
        → m3 ≡ put_head_at m2 committed_at (resting i i u.change.ordinal) → m4 ≡ written m3 (tables Values t (n + 1)) → m4 ≡ written l (change_stores (view l) ps)
    unfolding written write
    change_row_holds n en i ei m1 m2 m3 m4 q1 q2 q3 q4 =
        let z : n + 1 ≡ suc (last (view l).log) = omega (arith, en, view_last l (formed_room l w).0) in
        let row : ℕ → Transaction → Transaction → List ℕ
        = λ k x y. written (put_head_at (write (write l (grow y)) (change (num k))) committed_at (resting (num k) (num k) y.change.ordinal)) (tables Values x k) in
        q4
        ∙ ap (λ (m : List ℕ). written m (tables Values t (n + 1)))
        (q3 ∙ ap (λ (m : List ℕ). put_head_at m committed_at (resting i i u.change.ordinal)) (q2 ∙ ap (λ (m : List ℕ). write m (change i)) q1))
        ∙ ap (λ (k : Number). written (put_head_at (write (write l (grow u)) (change k)) committed_at (resting k k u.change.ordinal)) (tables Values t (n + 1))) ei
        ∙ ap (λ (k : ℕ). row k t u) z
        ∙ ap₂ (row (suc (last (view l).log))) et entry_is

-- a rollback's
module _ (l : List ℕ) (e : Entry l (view l).committed.head.revision.0) where
  pub undo_here : (h : Head) → h ≡ head_at l committed_at → (i : ℕ) → i ≡ h.revision.0 → (1 ≤ i) × (image_length ≤ length l)
  unfolding view
  undo_here h eh i ei =
      let x : i ≡ (head_at l committed_at).revision.0 = ei ∙ ap (λ (x : Head). x.revision.0) eh in let y = entry_here l (head_at l committed_at).revision.0 e in (omega (arith, y.0), y.1)

  newest_is : (t : Transaction) → t ≡ entry_at l (view l).committed.head.revision.0 → t ≡ newest_in (view l)
  newest_is t q = q ∙ sym (view_entry l (view l).committed.head.revision.0 e.kept e.last)

  pub undo_row : (h : Head) → h ≡ head_at l committed_at → (i : ℕ) → i ≡ h.revision.0 → (t : Transaction) → t ≡ entry_at l i → (o : Ordinal) → o ≡ next_ordinal h.ordinal
      → (u : Transaction) → u ≡ undone_as t o → (m1 m2 m3 : List ℕ) → m1 ≡ put_entry_at l i u → m2 ≡ put_head_at m1 committed_at (resting h.revision t.index o)
      → m3 ≡ written m2 (tables Kept t i) → m3 ≡ written l (undo_stores (view l))
  unfolding written write view
  undo_row h eh i ei t et o eo u eu m1 m2 m3 q1 q2 q3 =
      let v : ℕ = (head_at l committed_at).revision.0 in
      let ei' : i ≡ v = ei ∙ ap (λ (x : Head). x.revision.0) eh in
      let et' : t ≡ newest_in (view l) = newest_is t (et ∙ ap (entry_at l) ei') in
      let eo' : o ≡ next_ordinal (head_at l committed_at).ordinal = eo ∙ ap (λ (x : Head). next_ordinal x.ordinal) eh in
      let row : ℕ → Head → Transaction → Ordinal → List ℕ
      = λ k x y p. written (put_head_at (put_entry_at l k (undone_as y p)) committed_at (resting x.revision y.index p)) (tables Kept y k) in
      q3
      ∙ ap (λ (m : List ℕ). written m (tables Kept t i))
      (q2 ∙ ap (λ (m : List ℕ). put_head_at m committed_at (resting h.revision t.index o)) (q1 ∙ ap (λ (x : Transaction). put_entry_at l i x) eu))
      ∙ ap₂ (λ (k : ℕ) (x : Head). row k x t o) ei' eh
      ∙ ap₂ (row v (head_at l committed_at)) et' eo'

-- ---- a row in place of calls
module _ (l : List ℕ) (y : Bytes l) (w : formed l ≡ true) where
  lent_free : (j : ℕ) → j < last_at → (n : ℕ) → Free 0 n j → (cs : List Call) → last_of (lent_from l cs) ≤ n → get_or (lent_from l cs) j 0 ≡ get_or l j 0
  unfolding lent_from
  lent_free j q n free [] k = refl
  lent_free j q n free (c ∷ cs) k =
      let m = lent_from l cs in
      let h = lent l cs y w in
      let es = (decide (view m) c).stores in
      let e : written m (outcome_of m c).stores ≡ written m es = ap (λ (o : Outcome). written m o.stores) (decided m c h.formed) in
      let f = decide_fits m c h.bytes h.formed in
      let z = formed_length m h.formed in
      let r = formed_room m h.formed in
      let x = ap last_of e in
      let u = last_rises es m z r f in
      ap (λ (i : List ℕ). get_or i j 0) e ∙ written_free j q n free es m z r f (omega (arith, x, k)) ∙ lent_free j q n free cs (omega (arith, x, u, k))

  pub at_once : (cs : List Call) (es : List Store) → FitsAll (folded_of l) (last_of l) es → view (written l es) ≡ view (lent_from l cs) → (view (lent_from l cs)).log.folded.0 ≡ 0
      → written l es ≡ lent_from l cs
  at_once cs es f e b =
      let m = lent_from l cs in
      let k = written l es in
      let h = lent l cs y w in
      let z : formed k ≡ true = formed_written es l w f (ap well_formed e ∙ formed_state m h.formed) in
      let d : folded_of m ≡ 0 = sym (view_folded m) ∙ b in
      let n : last_of k ≡ last_of m = sym (view_last k (formed_room k z).0) ∙ ap (λ (s : State). last s.log) e ∙ view_last m (formed_room m h.formed).0 in
      image_same m k h.bytes (bytes_written es l y) h.formed z e
      (λ j q free.
      let g : Free 0 (last_of m) j = subst (λ (x : ℕ). Free x (last_of m) j) d free in
      written_free j q (last_of m) g es l (formed_length l w) (formed_room l w) f (omega (arith, n)) ∙ sym (lent_free j q (last_of m) g cs (omega arith)))

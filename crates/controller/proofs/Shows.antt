-- What the code reads is what the machine reads from what the image shows. Assumes nothing.
use Prim.Native.Nat.{ℕ, ◌-◌, ◌≤◌, ◌<◌}
use mathlib.Core.Path.{◌≡◌, refl, ap, ap₂, sym, ◌∙◌}
use mathlib.Core.Bool.{Bool, true, false, ◌&&◌, cond}
use mathlib.Core.List.{List}
use borrow.Author.Tests.{leb-true, ltb-true, le-leb, lt-leb, lt-ltb, le-ltb}
use native.Mathlib.Omega.{arith}
use lib.Dec.{leb, ltb}
use lib.ListN.{length, get_or}
use Rattle.kinds.specs.declared.Transaction.{Transaction}
use Rattle.kinds.specs.declared.Side.{Side}
use Rattle.kinds.specs.declared.Head.{Head}
use Rattle.kinds.specs.declared.Connection.{Connection}
use Rattle.machine.specs.State.{State, entry_of, last, in_log, is_kept, is_node, node_of}
use Rattle.machine.specs.Owner.{owner_of}
use Rattle.machine.specs.Stores.{of_owners}
use Rattle.machine.specs.Reads as reads
use Rattle.machine.specs.Class.{class_of}
use Rattle.machine.specs.Taken.{landed, took, undid}
use Rattle.std.specs.Int.{from_bool}
use Rattle.machine.specs.Reads.{Query, of_table, of_entry, of_state, of_node, of_owner, of_class, of_took, of_undone, Answer, shows, refuses, is_field, field_of, flag, entry_numbers, state_numbers, node_numbers, table_numbers, shows_kept, read}
use Rattle.image.specs.Layout.{committed_at, applied_at, values_at, image_length, place_of}
use Rattle.image.specs.Records.{entry_at, last_of, folded_of, head_at, connections_of}
use Rattle.image.specs.View.{table_of, view}
use Rattle.image.specs.Formed.{statuses_ok, formed}
use Rattle.image.specs.Promises.{PlacesTable, LoadsValue}
use Rattle.image.proofs.UpTo.{and_left, and_right}
use Rattle.image.proofs.Tables.{table_shows}
use Rattle.image.proofs.Scanned.{view_folded}
use Rattle.staying.proofs.Same.{statuses}
use Rattle.controller.specs.declared.reads.Read.{Read}
use Rattle.controller.specs.Claims.{Entry}
use Rattle.controller.specs.Reads.{given, unless, read_of, number_answer, no_head, heads_if, heads_of}
use Rattle.controller.proofs.Decided.{entry_of_holds, entry_here, last_is}
use Rattle.controller.proofs.Answered.{in_log_holds, is_kept_holds}

-- ---- refusal 1, and what follows it
module _ (l : List ℕ) (q : Query) (r : Read) (b : Bool) (eb : b ≡ formed l) where
  pub unread : b ≡ false → r ≡ given (refuses 1) → r ≡ read_of l q
  unfolding read_of
  unread t p = let z : formed l ≡ false = sym eb ∙ t in p ∙ ap (λ (x : Bool). given (unless x (read (view l) q))) (sym z)

  reading : b ≡ true → (a : Answer) → r ≡ given a → read (view l) q ≡ a → r ≡ read_of l q
  unfolding read_of
  reading t a p e =
      let z : formed l ≡ true = sym eb ∙ t in p ∙ ap given (sym e) ∙ ap (λ (x : Bool). given (unless x (read (view l) q))) (sym z)

  -- a number at a place
  pub shows_by : b ≡ true → (v : ℕ) → r ≡ given (shows v) → read (view l) q ≡ shows v → r ≡ read_of l q
  shows_by t v p e = reading t (shows v) p e

  pub refuses_by : b ≡ true → (a : ℕ) → r ≡ given (refuses a) → read (view l) q ≡ refuses a → r ≡ read_of l q
  refuses_by t a p e = reading t (refuses a) p e

-- ---- a field in range
pub in_range : (n f : ℕ) (b : Bool) → b ≡ is_field n f → b ≡ true → (1 ≤ f) × (f ≤ n)
in_range n f b e t =
    let h : is_field n f ≡ true = sym e ∙ t in (leb-true 1 f (and_left _ _ h), leb-true f n (and_right (leb 1 f) _ h))

-- ---- values
module _ (b p : ℕ) (k : Bool) (ek : k ≡ (is_field 4 b && ltb p 32)) where
  pub no_value : (s : State) → k ≡ false → read s (of_table b p) ≡ refuses 2
  unfolding read
  no_value s t = let z : (is_field 4 b && ltb p 32) ≡ false = sym ek ∙ t in ap (λ (x : Bool). reads.unless 2 x (shows (get_or (table_numbers s b) p 0))) z

  pub value_is : (l : List ℕ) (at v w : ℕ) → k ≡ true → PlacesTable b at → LoadsValue l at p v → w ≡ v
      → read (view l) (of_table b p) ≡ shows w
  unfolding read
  value_is l at v w t ea ev ew =
      let z : (is_field 4 b && ltb p 32) ≡ true = sym ek ∙ t in
      ap (λ (x : Bool). reads.unless 2 x (shows (get_or (table_numbers (view l) b) p 0))) z
      ∙ ap shows (sym (ew ∙ table_shows l b at p v ea ev))

-- ---- who set a path
module _ (l : List ℕ) (p : ℕ) where
  pub no_owner : 32 ≤ p → read (view l) (of_owner p) ≡ refuses 2
  unfolding read
  no_owner h = ap (λ (x : Bool). reads.unless 2 x (shows (owner_of (view l) p))) (le-ltb p 32 h)

  module _ (h : p < 32) (k b : ℕ) (ek : LoadsValue l (values_at of_owners) p k) (eb : b ≡ folded_of l) where
    owner_by : (x : Bool) → leb k b ≡ x → read (view l) (of_owner p) ≡ shows (cond x 0 k)
    unfolding read view table_of
    owner_by x e =
        ap (λ (y : Bool). reads.unless 2 y (shows (owner_of (view l) p))) (lt-ltb p 32 h)
        ∙ ap₂ (λ (j d : ℕ). shows (cond (leb j d) 0 j)) (sym ek) (sym eb)
        ∙ ap (λ (y : Bool). shows (cond y 0 k)) e

    pub owner_is : b < k → (w : ℕ) → w ≡ k → read (view l) (of_owner p) ≡ shows w
    owner_is q w e = owner_by false (lt-leb k b q) ∙ ap shows (sym e)

    pub owner_folded : k ≤ b → read (view l) (of_owner p) ≡ shows 0
    owner_folded q = owner_by true (le-leb k b q)

-- ---- a transaction
module _ (i f : ℕ) (k : Bool) (ek : k ≡ is_field 21 f) where
  pub no_entry_field : (s : State) → k ≡ false → read s (of_entry i f) ≡ refuses 2
  unfolding read
  no_entry_field s t =
      let z : is_field 21 f ≡ false = sym ek ∙ t in
      ap (λ (x : Bool). reads.unless 2 x (reads.unless 5 (in_log s i) (reads.unless 18 (is_kept s i) (shows (field_of (entry_numbers (entry_of s.log i)) f))))) z

  module _ (l : List ℕ) (w : formed l ≡ true) (t : k ≡ true) (n : ℕ) (j : Bool) (en : n ≡ last_of l) (ej : j ≡ (leb 1 i && leb i n)) where
    read_entry : (y : Bool) → j ≡ y
        → read (view l) (of_entry i f) ≡ reads.unless 5 y (reads.unless 18 (is_kept (view l) i) (shows (field_of (entry_numbers (entry_of (view l).log i)) f)))
    unfolding read
    read_entry y u =
        let z : is_field 21 f ≡ true = sym ek ∙ t in
        ap₂ (λ (c d : Bool). reads.unless 2 c (reads.unless 5 d (reads.unless 18 (is_kept (view l) i) (shows (field_of (entry_numbers (entry_of (view l).log i)) f))))) z
        (in_log_holds l w i n j en ej y u)

    pub no_entry : j ≡ false → read (view l) (of_entry i f) ≡ refuses 5
    no_entry u = read_entry false u

    module _ (u : j ≡ true) (b : ℕ) (eb : b ≡ folded_of l) where
      read_kept : (x : Bool) → ltb b i ≡ x → read (view l) (of_entry i f) ≡ reads.unless 18 x (shows (field_of (entry_numbers (entry_of (view l).log i)) f))
      read_kept x e =
          read_entry true u
          ∙ ap (λ (y : Bool). reads.unless 18 y (shows (field_of (entry_numbers (entry_of (view l).log i)) f))) (is_kept_holds l w i n j en ej u b eb x e)

      pub folded_entry : i ≤ b → read (view l) (of_entry i f) ≡ refuses 18
      folded_entry g = read_kept false (le-ltb b i g)

      pub entry_field_is : b < i → Entry l i → (e : Transaction) (a : List ℕ) → e ≡ entry_at l i → a ≡ entry_numbers e
          → read (view l) (of_entry i f) ≡ shows (get_or a (f - 1) 0)
      entry_field_is g c e a ee ea =
          read_kept true (lt-ltb b i g)
          ∙ ap (λ (x : List ℕ). shows (get_or x (f - 1) 0)) (sym (ea ∙ ap entry_numbers (ee ∙ sym (entry_of_holds l i c.kept c.last))))

-- ---- what became of a transaction
module _ (l : List ℕ) (i : ℕ) where
  pub number_unread : (b : Bool) → b ≡ formed l → b ≡ false → 1 ≡ number_answer l i
  unfolding number_answer
  number_unread b eb t = let z : formed l ≡ false = sym eb ∙ t in ap (λ (x : Bool). (unless x (shows_kept (view l) i 0)).answer) (sym z)

  module _ (w : formed l ≡ true) (n : ℕ) (j : Bool) (en : n ≡ last_of l) (ej : j ≡ (leb 1 i && leb i n)) where
    by_log : (y : Bool) → j ≡ y → number_answer l i ≡ (reads.unless 5 y (reads.unless 18 (is_kept (view l) i) (shows 0))).answer
    unfolding number_answer
    by_log y u =
        ap₂ (λ (x c : Bool). (unless x (reads.unless 5 c (reads.unless 18 (is_kept (view l) i) (shows 0)))).answer) w (in_log_holds l w i n j en ej y u)

    pub no_number : j ≡ false → 5 ≡ number_answer l i
    no_number u = sym (by_log false u)

    module _ (u : j ≡ true) (b : ℕ) (eb : b ≡ folded_of l) where
      by_fold : (x : Bool) → ltb b i ≡ x → (reads.unless 18 x (shows 0)).answer ≡ number_answer l i
      by_fold x e = sym (by_log true u ∙ ap (λ (y : Bool). (reads.unless 18 y (shows 0)).answer) (is_kept_holds l w i n j en ej u b eb x e))

      pub folded_number : i ≤ b → 18 ≡ number_answer l i
      folded_number g = by_fold false (le-ltb b i g)

      pub kept_number : b < i → 0 ≡ number_answer l i
      kept_number g = by_fold true (lt-ltb b i g)

  module _ (a : ℕ) (ea : a ≡ number_answer l i) where
    -- one that is not refused is an entry of the log
    pub kept_entry : a ≡ 0 → Entry l i
    unfolding number_answer
    kept_entry z = by (formed l) refl (in_log (view l) i) refl (is_kept (view l) i) refl (sym z ∙ ea)
      where
        by : (f : Bool) → formed l ≡ f → (g : Bool) → in_log (view l) i ≡ g → (h : Bool) → is_kept (view l) i ≡ h
            → 0 ≡ (unless f (reads.unless 5 g (reads.unless 18 h (shows 0)))).answer → Entry l i
        by false ef g eg h eh e = absurd (omega arith)
        by true ef false eg h eh e = absurd (omega arith)
        by true ef true eg false eh e = absurd (omega arith)
        by true ef true eg true eh e =
            record {
              formed = ef;
              kept = omega (arith, view_folded l, ltb-true (view l).log.folded.0 i eh);
              last = omega (arith, last_is l ef, leb-true i (last (view l).log) (and_right (leb 1 i) _ eg));
            }

    -- and what loading its class asks is so
    pub class_here : a ≡ 0 → (1 ≤ i) × ((image_length ≤ length l) × (statuses_ok l (place_of i) ≡ true))
    class_here z = let c = kept_entry z in let h = entry_here l i c in (h.0, (h.1, statuses l c.formed i c.kept c.last))

    module _ (q : Query) (v : ℕ) (r : Read) (e : read (view l) q ≡ shows_kept (view l) i v) where
      pub number_refused : (a ≡ 0 → ⊥) → r ≡ given (refuses a) → r ≡ read_of l q
      unfolding read_of number_answer
      number_refused n p = p ∙ by (formed l) (in_log (view l) i) (is_kept (view l) i) ea ∙ ap (λ (x : Answer). given (unless (formed l) x)) (sym e)
        where
          by : (f g h : Bool) → a ≡ (unless f (reads.unless 5 g (reads.unless 18 h (shows 0)))).answer
              → given (refuses a) ≡ given (unless f (reads.unless 5 g (reads.unless 18 h (shows v))))
          by false g h x = ap (λ (y : ℕ). given (refuses y)) x
          by true false h x = ap (λ (y : ℕ). given (refuses y)) x
          by true true false x = ap (λ (y : ℕ). given (refuses y)) x
          by true true true x = absurd (n x)

      pub number_shown : a ≡ 0 → (w : ℕ) → w ≡ v → r ≡ given (shows w) → r ≡ read_of l q
      unfolding read_of number_answer
      number_shown z w x p =
          p ∙ ap (λ (y : ℕ). given (shows y)) x ∙ by (formed l) (in_log (view l) i) (is_kept (view l) i) (sym z ∙ ea)
          ∙ ap (λ (y : Answer). given (unless (formed l) y)) (sym e)
        where
          by : (f g h : Bool) → 0 ≡ (unless f (reads.unless 5 g (reads.unless 18 h (shows 0)))).answer
              → given (shows v) ≡ given (unless f (reads.unless 5 g (reads.unless 18 h (shows v))))
          by false g h y = absurd (omega arith)
          by true false h y = absurd (omega arith)
          by true true false y = absurd (omega arith)
          by true true true y = refl

-- the three
module _ (l : List ℕ) (i a : ℕ) (ea : a ≡ number_answer l i) (r : Read) where
  reads_class : read (view l) (of_class i) ≡ shows_kept (view l) i (class_of (entry_of (view l).log i))
  unfolding read
  reads_class = refl

  reads_took : read (view l) (of_took i) ≡ shows_kept (view l) i (flag (took (view l).log (view l).applied.head.ordinal.0 i))
  unfolding read
  reads_took = refl

  reads_undone : read (view l) (of_undone i) ≡ shows_kept (view l) i (flag (undid (view l).log (view l).applied.head.ordinal.0 i))
  unfolding read
  reads_undone = refl

  pub class_refused : (a ≡ 0 → ⊥) → r ≡ given (refuses a) → r ≡ read_of l (of_class i)
  class_refused = number_refused l i a ea (of_class i) (class_of (entry_of (view l).log i)) r reads_class

  pub took_refused : (a ≡ 0 → ⊥) → r ≡ given (refuses a) → r ≡ read_of l (of_took i)
  took_refused = number_refused l i a ea (of_took i) (flag (took (view l).log (view l).applied.head.ordinal.0 i)) r reads_took

  pub undone_refused : (a ≡ 0 → ⊥) → r ≡ given (refuses a) → r ≡ read_of l (of_undone i)
  undone_refused = number_refused l i a ea (of_undone i) (flag (undid (view l).log (view l).applied.head.ordinal.0 i)) r reads_undone

  module _ (z : a ≡ 0) where
    here : entry_of (view l).log i ≡ entry_at l i
    here = let c = kept_entry l i a ea z in entry_of_holds l i c.kept c.last

    pub class_is : (x w : ℕ) → x ≡ class_of (entry_at l i) → w ≡ x → r ≡ given (shows w) → r ≡ read_of l (of_class i)
    class_is x w e p =
        number_shown l i a ea (of_class i) (class_of (entry_of (view l).log i)) r reads_class z w (p ∙ e ∙ ap class_of (sym here))

    module _ (t : Transaction) (e : t ≡ entry_at l i) (w : ℕ) where
      seen : t ≡ entry_of (view l).log i
      seen = e ∙ sym here

      pub took_is : w ≡ flag (landed t.change.apply (head_at l applied_at).ordinal.0 t.change.ordinal.0) → r ≡ given (shows w) → r ≡ read_of l (of_took i)
      unfolding view
      took_is p =
          number_shown l i a ea (of_took i) (flag (took (view l).log (view l).applied.head.ordinal.0 i)) r reads_took z w
          (p ∙ ap (λ (x : Transaction). flag (landed x.change.apply (head_at l applied_at).ordinal.0 x.change.ordinal.0)) seen)

      pub undone_is : w ≡ flag (landed t.rollback.apply (head_at l applied_at).ordinal.0 t.rollback.ordinal.0) → r ≡ given (shows w) → r ≡ read_of l (of_undone i)
      unfolding view
      undone_is p =
          number_shown l i a ea (of_undone i) (flag (undid (view l).log (view l).applied.head.ordinal.0 i)) r reads_undone z w
          (p ∙ ap (λ (x : Transaction). flag (landed x.rollback.apply (head_at l applied_at).ordinal.0 x.rollback.ordinal.0)) seen)

-- a flag, as `From` makes it
pub flag_from : (b : Bool) → from_bool b ≡ flag b
flag_from true = refl
flag_from false = refl

-- a side that has landed, by Applied's ordinal
pub side_landed : (l : List ℕ) (h : Head) (x : Side) (b : Bool) (w : ℕ) → h ≡ head_at l applied_at → b ≡ landed x.apply h.ordinal.0 x.ordinal.0 → w ≡ from_bool b
    → w ≡ flag (landed x.apply (head_at l applied_at).ordinal.0 x.ordinal.0)
side_landed l h x b w eh eb ew = ew ∙ flag_from b ∙ ap flag (eb ∙ ap (λ (y : Head). landed x.apply y.ordinal.0 x.ordinal.0) eh)

-- ---- what the state has once
module _ (f : ℕ) (k : Bool) (ek : k ≡ is_field 18 f) where
  pub no_state_field : (s : State) → k ≡ false → read s (of_state f) ≡ refuses 2
  unfolding read
  no_state_field s t = let z : is_field 18 f ≡ false = sym ek ∙ t in ap (λ (x : Bool). reads.unless 2 x (shows (field_of (state_numbers s) f))) z

  pub state_field_is : (l a : List ℕ) → k ≡ true → a ≡ state_numbers (view l) → read (view l) (of_state f) ≡ shows (get_or a (f - 1) 0)
  unfolding read
  state_field_is l a t e =
      let z : is_field 18 f ≡ true = sym ek ∙ t in
      ap (λ (x : Bool). reads.unless 2 x (shows (field_of (state_numbers (view l)) f))) z ∙ ap (λ (x : List ℕ). shows (get_or x (f - 1) 0)) (sym e)

-- ---- a node's connection
module _ (n f : ℕ) (k : Bool) (ek : k ≡ (is_node n && is_field 2 f)) where
  pub no_node_field : (s : State) → k ≡ false → read s (of_node n f) ≡ refuses 2
  unfolding read
  no_node_field s t =
      let z : (is_node n && is_field 2 f) ≡ false = sym ek ∙ t in
      ap (λ (x : Bool). reads.unless 2 x (shows (field_of (node_numbers (node_of s.net.connections n)) f))) z

  module _ (t : k ≡ true) where
    fits : (is_node n && is_field 2 f) ≡ true
    fits = sym ek ∙ t

    pub node_low : (1 ≤ n) × (n ≤ 8)
    node_low = in_range 8 n (is_node n) refl (and_left _ _ fits)

    pub node_field_is : (l : List ℕ) (x : Connection) (a : List ℕ) → x ≡ node_of (connections_of l) n → a ≡ node_numbers x
        → read (view l) (of_node n f) ≡ shows (get_or a (f - 1) 0)
    unfolding read view
    node_field_is l x a ex ea =
        ap (λ (y : Bool). reads.unless 2 y (shows (field_of (node_numbers (node_of (connections_of l) n)) f))) fits
        ∙ ap (λ (y : List ℕ). shows (get_or y (f - 1) 0)) (sym (ea ∙ ap node_numbers ex))

-- ---- both heads
module _ (l : List ℕ) (b : Bool) (eb : b ≡ formed l) (h j : Head) where
  pub heads_are : b ≡ true → h ≡ head_at l committed_at → j ≡ head_at l applied_at → record { committed = h; applied = j } ≡ heads_of l
  unfolding heads_of view
  heads_are t p q =
      let z : formed l ≡ true = sym eb ∙ t in
      ap₂ (λ (x y : Head). record { committed = x; applied = y }) p q ∙ ap (λ (x : Bool). heads_if x (view l)) (sym z)

  pub no_heads : b ≡ false → h ≡ no_head → j ≡ no_head → record { committed = h; applied = j } ≡ heads_of l
  unfolding heads_of
  no_heads t p q =
      let z : formed l ≡ false = sym eb ∙ t in
      ap₂ (λ (x y : Head). record { committed = x; applied = y }) p q ∙ ap (λ (x : Bool). heads_if x (view l)) (sym z)

-- The live list as the code walks it: a hop goes to a lower number, so the list from v is v and the list from where its
-- hop goes; the links that it walks over, and what is written. Assumes nothing.
use Prim.Native.Nat.{ℕ, zero, suc, ◌+◌, ◌-◌, ◌*◌, ◌/◌, ◌%◌, ◌≤◌, ◌<◌}
use mathlib.Core.Path.{◌≡◌, refl, ap, ap₂, sym, ◌∙◌}
use mathlib.Core.Bool.{Bool, true, false, cond}
use mathlib.Core.List.{List, [], ◌∷◌, ◌++◌, append_assoc, append-nil}
use native.Mathlib.Nat.{le_of_suc-le-suc, not-suc-le-zero, zero-add}
use native.Mathlib.Numerals.{add-one}
use native.Mathlib.Omega.{arith}
use borrow.Author.Tests.{leb-true, leb-false, le-leb, lt-leb, eqb-true, eqb-false}
use lib.Dec.{eqb, leb}
use lib.ListN.{length, get_or, take, drop, set, length-append, length-set, drop_of_length-le, take-append-drop, get_or-append}
use lib.Seq.{length-take-le, take-suc-set, drop-cons, drop-set-lt, drop-drop, take-append_seam, get_or-set_same, get_or-set_other, get_or-take, sets, length-sets, sets-eq}
use Rattle.kinds.specs.declared.Transaction.{Transaction}
use Rattle.kinds.specs.declared.Head.{Head}
use Rattle.machine.specs.State.{Log, State, entry_of, last}
use Rattle.machine.specs.LiveList.{hops, live}
use Rattle.machine.proofs.Kept as kept
use Rattle.image.specs.Layout.{slots, committed_at}
use Rattle.image.specs.Records.{entry_at, folded_of, head_at}
use Rattle.image.specs.View.{view}
use Rattle.image.specs.Formed.{formed}
use Rattle.image.proofs.Scanned.{view_folded}
use Rattle.controller.specs.declared.walking.Listed.{Listed}
use Rattle.controller.specs.Claims.{Entry}
use Rattle.controller.specs.Live.{in_bytes, unless, listing, listing_of, Lists, ListsLive, live_from, Chained, Linked, Passing, Walks, Fitting, Leading, ListedIn}
use Rattle.controller.proofs.Decided.{entry_of_holds, formed_view, last_is, room}

-- ---- hops, in a well-formed state
module _ (s : State) (f : kept.Formed s) where
  -- the number that a hop from v goes to
  abbrev to : ℕ → ℕ
  to v = (entry_of s.log v).index.0

  falls : (v : ℕ) → s.log.folded.0 < v → v ≤ last s.log → to v < v
  falls v a b = (f.entries v a b).below

  -- with hops enough, how many does not matter
  same : (j k v : ℕ) → v ≤ j → v ≤ k → v ≤ last s.log → hops j s.log v ≡ hops k s.log v
  unfolding hops
  same zero zero v a b n = refl
  same zero (suc k) v a b n = let z : leb v s.log.folded.0 ≡ true = le-leb v s.log.folded.0 (omega arith) in rw z
  same (suc j) zero v a b n = let z : leb v s.log.folded.0 ≡ true = le-leb v s.log.folded.0 (omega arith) in rw z
  same (suc j) (suc k) v a b n = go (same j k (to v)) (leb v s.log.folded.0) refl
    where
      go : (to v ≤ j → to v ≤ k → to v ≤ last s.log → hops j s.log (to v) ≡ hops k s.log (to v)) → (x : Bool) → leb v s.log.folded.0 ≡ x
          → cond x [] (v ∷ hops j s.log (to v)) ≡ cond x [] (v ∷ hops k s.log (to v))
      go r true e = refl
      go r false e =
          let h : to v < v = falls v (leb-false v s.log.folded.0 e) n in ap (λ (l : List ℕ). v ∷ l) (r (omega arith) (omega arith) (omega arith))

  more : (v : ℕ) → s.log.folded.0 < v → v ≤ last s.log → live_from s v ≡ v ∷ live_from s (to v)
  unfolding live_from hops
  more zero n b = absurd (omega arith)
  more (suc v) n b =
      let z : leb (suc v) s.log.folded.0 ≡ false = lt-leb _ _ n in
      let h : to (suc v) < suc v = falls (suc v) n b in
      ap (λ (x : Bool). cond x [] (suc v ∷ hops v s.log (to (suc v)))) z
      ∙ ap (λ (l : List ℕ). suc v ∷ l) (same v (to (suc v)) (to (suc v)) (omega arith) (omega arith) (omega arith))

  -- a list has at most as many numbers as there are from the last fold to the one that it is from
  short : (k v : ℕ) → v ≤ last s.log → length (hops k s.log v) ≤ v - s.log.folded.0
  unfolding hops
  short zero v n = omega arith
  short (suc k) v n = go (short k (to v)) (leb v s.log.folded.0) refl
    where
      go : (to v ≤ last s.log → length (hops k s.log (to v)) ≤ to v - s.log.folded.0) → (x : Bool) → leb v s.log.folded.0 ≡ x
          → length (cond x [] (v ∷ hops k s.log (to v))) ≤ v - s.log.folded.0
      go r true e = omega arith
      go r false e =
          let u : s.log.folded.0 < v = leb-false v s.log.folded.0 e in
          let h : to v < v = falls v u n in
          let q : length (hops k s.log (to v)) ≤ to v - s.log.folded.0 = r (omega arith) in
          omega arith

  -- each number of a list is kept, and at most the one that it is from
  within : (k v j : ℕ) → v ≤ last s.log → j < length (hops k s.log v)
      → (s.log.folded.0 < get_or (hops k s.log v) j 0) × (get_or (hops k s.log v) j 0 ≤ v)
  unfolding hops
  within zero v j n h = absurd (not-suc-le-zero h)
  within (suc k) v j n h = go (within k (to v)) (leb v s.log.folded.0) refl j h
    where
      go : ((i : ℕ) → to v ≤ last s.log → i < length (hops k s.log (to v))
          → (s.log.folded.0 < get_or (hops k s.log (to v)) i 0) × (get_or (hops k s.log (to v)) i 0 ≤ to v))
          → (x : Bool) → leb v s.log.folded.0 ≡ x → (i : ℕ) → i < length (cond x [] (v ∷ hops k s.log (to v)))
          → (s.log.folded.0 < get_or (cond x [] (v ∷ hops k s.log (to v))) i 0) × (get_or (cond x [] (v ∷ hops k s.log (to v))) i 0 ≤ v)
      go r true e i h = absurd (not-suc-le-zero h)
      go r false e zero h = (leb-false v s.log.folded.0 e, omega arith)
      go r false e (suc i) h =
          let f : to v < v = falls v (leb-false v s.log.folded.0 e) n in
          let q = r i (omega arith) (le_of_suc-le-suc h) in
          let z = q.1 in
          (q.0, omega arith)

-- ---- from a folded number there is nothing
live_none : (s : State) (v : ℕ) → v ≤ s.log.folded.0 → live_from s v ≡ []
unfolding live_from hops
live_none s zero e = refl
live_none s (suc v) e = let z : leb (suc v) s.log.folded.0 ≡ true = le-leb _ _ e in rw z

-- ---- a list is at most as long as the number that it is from is great
few_hops : (k : ℕ) (l : Log) (v : ℕ) → length (hops k l v) ≤ k
unfolding hops
few_hops zero l v = omega arith
few_hops (suc k) l v = go (few_hops k l (entry_of l v).index.0) (leb v l.folded.0)
  where
    go : length (hops k l (entry_of l v).index.0) ≤ k → (x : Bool) → length (cond x [] (v ∷ hops k l (entry_of l v).index.0)) ≤ suc k
    go h true = omega arith
    go h false = omega arith

pub live_short : (s : State) (v : ℕ) → length (live_from s v) ≤ v
unfolding live_from
live_short s v = few_hops v s.log v

-- ---- an entry's hop
pub hop_is : (l : List ℕ) (v : ℕ) → Entry l v → (t : Transaction) (i : ℕ) → t ≡ entry_at l v → i ≡ t.index.0
    → (i ≡ (entry_of (view l).log v).index.0) × (i < v)
hop_is l v e t i p q =
    let z : i ≡ (entry_of (view l).log v).index.0 = q ∙ ap (λ (x : Transaction). x.index.0) (p ∙ sym (entry_of_holds l v e.kept e.last)) in
    let b : (entry_of (view l).log v).index.0 < v =
    ((formed_view l e.formed).entries v (let h = e.kept in omega (arith, view_folded l)) (let h = e.last in omega (arith, last_is l e.formed))).below in
    (z, omega arith)

module _ (l : List ℕ) (b v : ℕ) (c : Chained l b v) where
  chain_last : v ≤ last (view l).log
  chain_last = let k = c.last in omega (arith, last_is l c.formed)

  pub none_from : v ≤ b → live_from (view l) v ≡ []
  none_from h = let k = c.folded in live_none (view l) v (omega (arith, view_folded l))

  pub counted_none : v ≤ b → 0 ≡ length (live_from (view l) v)
  counted_none h = sym (ap length (none_from h))

  -- there is a place for each number kept
  pub places : v ≤ b + slots
  places = let k = c.last in let g = c.folded in let r = (room l c.formed).1.0 in omega arith

  -- at most as many as are kept
  pub few : length (live_from (view l) v) ≤ slots
  unfolding live_from
  few =
      let k = short (view l) (formed_view l c.formed) v v chain_last in
      let g = c.last in
      let r = (room l c.formed).1.0 in
      omega (arith, view_folded l)

  pub chain_in : (k : ℕ) → k < length (live_from (view l) v) → (b < get_or (live_from (view l) v) k 0) × (get_or (live_from (view l) v) k 0 ≤ v)
  unfolding live_from
  chain_in k h =
      let q = within (view l) (formed_view l c.formed) v v k chain_last h in
      let z = q.0 in
      let g = c.folded in
      (omega (arith, view_folded l), q.1)

  pub fits : Fitting l b v slots
  fits = record { chained = c; room = few }

  pub listed_in : (m r : List ℕ) (n : ℕ) → (n ≡ length (live_from (view l) v)) × (r ≡ Leading m (live_from (view l) v)) → ListedIn l b v r n
  listed_in m r n q =
      record {
        chained = c;
        count = q.0;
        same = λ k h. ap (λ (x : List ℕ). get_or x k 0) q.1 ∙ get_or-append (live_from (view l) v) _ 0 k (let e = q.0 in omega arith);
      }

  module _ (n : b < v) where
    pub as_entry : Entry l v
    as_entry = let g = c.folded in record { formed = c.formed; kept = omega arith; last = c.last }

    first_one : live_from (view l) v ≡ v ∷ live_from (view l) (entry_of (view l).log v).index.0
    first_one = more (view l) (formed_view l c.formed) v (let g = c.folded in omega (arith, view_folded l)) chain_last

    module _ (i : ℕ) (h : (i ≡ (entry_of (view l).log v).index.0) × (i < v)) where
      pub lower : Chained l b i
      lower = let k = c.last in record { formed = c.formed; folded = c.folded; last = omega arith }

      pub live_more : live_from (view l) v ≡ v ∷ live_from (view l) i
      live_more = first_one ∙ ap (λ (x : ℕ). v ∷ live_from (view l) x) (sym h.0)

      pub counted : (k : ℕ) → k ≡ length (live_from (view l) i) → k + 1 ≡ length (live_from (view l) v)
      counted k p = ap (λ (x : ℕ). x + 1) p ∙ add-one _ ∙ sym (ap length live_more)

-- ---- the links, as the loop writes them: those of the numbers above i are there
pub record Linking (l : List ℕ) (v : ℕ) (t : List ℕ) (i : ℕ) : Type 0 where
  pub low : i ≤ v
  pub size : length t ≡ slots
  pub links : (j : ℕ) → i < j → j ≤ v → get_or t (v - j) 0 ≡ (entry_of (view l).log j).index.0

module _ (l : List ℕ) (b v : ℕ) (c : Chained l b v) (t : List ℕ) where
  pub linking_none : length t ≡ slots → Linking l v t v
  linking_none e = record { low = omega arith; size = e; links = λ j h k. absurd (omega arith) }

  module _ (i : ℕ) (g : Linking l v t i) where
    pub link_here : b < i → v - i < slots
    link_here h = let k = g.low in omega (arith, places l b v c)

    pub linking_more : b < i → (x : ℕ) → x ≡ (entry_of (view l).log i).index.0 → Linking l v (set t (v - i) x) (i - 1)
    linking_more n x q =
        record {
          low = let k = g.low in omega arith;
          size = length-set t (v - i) x ∙ g.size;
          links = λ j h k. go j h k (eqb j i) refl;
        }
      where
        above : (a d : ℕ) → a - 1 < d → (d ≡ a → ⊥) → a < d
        above a d h z = omega arith

        go : (j : ℕ) → i - 1 < j → j ≤ v → (y : Bool) → eqb j i ≡ y → get_or (set t (v - i) x) (v - j) 0 ≡ (entry_of (view l).log j).index.0
        go j h k true e =
            let z : j ≡ i = eqb-true j i e in
            ap (λ (y : ℕ). get_or (set t (v - i) x) (v - y) 0) z ∙ get_or-set_same t (v - i) x 0 (let m = link_here n in omega (arith, g.size)) ∙ q
            ∙ ap (λ (y : ℕ). (entry_of (view l).log y).index.0) (sym z)
        go j h k false e =
            let z : j ≡ i → ⊥ = eqb-false j i e in
            let low = g.low in
            get_or-set_other t (v - i) (v - j) x 0 (λ y. z (omega arith)) ∙ g.links j (above i j h z) k

    pub linking_done : i ≤ b → Linked l b v v t
    linking_done h = record { chained = c; size = g.size; links = λ j m k. g.links j (omega arith) k }

-- ---- the walk over them
module _ (l : List ℕ) (b top v : ℕ) (t : List ℕ) (k : Linked l b top v t) (n : b < v) where
  -- where the hop goes
  hops_to : (get_or t (top - v) 0 ≡ (entry_of (view l).log v).index.0) × (get_or t (top - v) 0 < v)
  hops_to =
      let e = k.links v n (omega arith) in
      let g = k.chained.folded in
      let f = falls (view l) (formed_view l k.chained.formed) v (omega (arith, view_folded l)) (chain_last l b v k.chained) in
      (e, omega arith)

  -- a number over a link that was passed leaves those to come
  linked_more : (at x : ℕ) → at + v ≤ top → Linked l b top (get_or t (top - v) 0) (set t at x)
  linked_more at x p =
      let f = hops_to.1 in
      record {
        chained = lower l b v k.chained n (get_or t (top - v) 0) hops_to;
        size = length-set t at x ∙ k.size;
        links = λ i h m. get_or-set_other t at (top - i) x 0 (λ y. absurd (omega arith)) ∙ k.links i h (omega arith);
      }

pub walks_none : (t : List ℕ) (top b v at : ℕ) → v ≤ b → Walks t top b v at 0 t
walks_none t top b v at h l k = (counted_none l b v k.chained h, sym (ap (sets t at) (none_from l b v k.chained h)))

module _ (t : List ℕ) (top b v at : ℕ) (p : Passing t top b v at) (n : b < v) where
  pub falls_here : get_or t (top - v) 0 < v
  falls_here = (hops_to p.image b top v t p.linked n).1

  pub passing_more : Passing (set t at v) top b (get_or t (top - v) 0) (at + 1)
  passing_more =
      record {
        image = p.image;
        linked = linked_more p.image b top v t p.linked n at v p.passed;
        places = p.places;
        passed = let h = p.passed in omega (arith, falls_here);
      }

  module _ (r : ℕ) (t' : List ℕ) (q : Walks (set t at v) top b (get_or t (top - v) 0) (at + 1) r t') where
    pub walks_few : r < v
    walks_few =
        let e = (q p.image (linked_more p.image b top v t p.linked n at v p.passed)).0 in
        let h = live_short (view p.image) (get_or t (top - v) 0) in
        omega (arith, falls_here)

    pub walks_more : Walks t top b v at (r + 1) t'
    walks_more l k =
        let h = hops_to l b top v t k n in
        let z = q l (linked_more l b top v t k n at v p.passed) in (
          counted l b v k.chained n (get_or t (top - v) 0) h r z.0,
          z.1 ∙ ap (λ (x : ℕ). sets (set t at v) x (live_from (view l) (get_or t (top - v) 0))) (add-one at)
              ∙ ap (sets t at) (sym (live_more l b v k.chained n (get_or t (top - v) 0) h)),
        )

-- ---- the list in bytes: what is still to come, behind what is written, gives the whole
bytes_long : (l : List ℕ) → length (in_bytes l) ≡ 2 * length l
unfolding in_bytes
bytes_long [] = refl
bytes_long (v ∷ l) = let h = bytes_long l in omega arith

pub record Putting (m list : List ℕ) (n : ℕ) (r : List ℕ) (k : ℕ) : Type 0 where
  pub low : k ≤ n
  pub size : length r ≡ length m
  pub whole : sets r (2 * k) (in_bytes (drop k (take n list))) ≡ sets m 0 (in_bytes (take n list))

module _ (m list : List ℕ) (n : ℕ) (z : (length list ≡ slots) × ((n ≤ slots) × (2 * n ≤ length m))) where
  first_length : length (take n list) ≡ n
  first_length = let e = z.0 in let h = z.1.0 in length-take-le n list (omega arith)

  pub putting_none : Putting m list n m 0
  putting_none = record { low = omega arith; size = refl; whole = refl }

  module _ (r : List ℕ) (k : ℕ) (g : Putting m list n r k) where
    pub putting_more : k < n → (r' : List ℕ) → r' ≡ set (set r (2 * k) (get_or list k 0 % 256)) (2 * k + 1) (get_or list k 0 / 256) → Putting m list n r' (k + 1)
    unfolding in_bytes
    putting_more h r' e =
        let x = get_or list k 0 in
        let rest = drop (k + 1) (take n list) in
        let d : drop k (take n list) ≡ x ∷ rest =
        drop-cons (take n list) k 0 (omega (arith, first_length))
        ∙ ap₂ (λ (y j : ℕ). y ∷ drop j (take n list)) (get_or-take n list k 0 h) (sym (add-one k)) in
        record {
          low = omega arith;
          size = ap length e ∙ length-set (set r (2 * k) (x % 256)) (2 * k + 1) (x / 256) ∙ length-set r (2 * k) (x % 256) ∙ g.size;
          whole =
              ap (λ (y : List ℕ). sets y (2 * (k + 1)) (in_bytes rest)) e
              ∙ ap₂ (λ (i j : ℕ). sets (set (set r (2 * k) (x % 256)) i (x / 256)) j (in_bytes rest)) (add-one (2 * k)) (twice k)
              ∙ sym (ap (λ (y : List ℕ). sets r (2 * k) (in_bytes y)) d) ∙ g.whole;
        }
      where
        twice : (a : ℕ) → 2 * (a + 1) ≡ suc (suc (2 * a))
        twice a = omega arith

    pub putting_done : n ≤ k → r ≡ (listing (take n list) m).room
    unfolding in_bytes
    putting_done h =
        let e : drop k (take n list) ≡ [] = drop_of_length-le (take n list) {i = k} (omega (arith, first_length)) in
        let y = z.1.1 in
        sym (ap (λ (x : List ℕ). sets r (2 * k) (in_bytes x)) e) ∙ g.whole
        ∙ sets-eq (in_bytes (take n list)) m 0 (omega (arith, bytes_long (take n list), first_length))
        ∙ ap (λ (x : ℕ). in_bytes (take n list) ++ drop x m) (zero-add (length (in_bytes (take n list))) ∙ bytes_long (take n list))

-- ---- fold's list: the first n of the room r are written, m is the room as it was, and the list from i is still to come
pub record Going (l : List ℕ) (b v : ℕ) (m r : List ℕ) (i n : ℕ) : Type 0 where
  pub chained : Chained l b i
  pub parts : live_from (view l) v ≡ take n r ++ live_from (view l) i
  pub rest : drop n r ≡ drop n m
  pub size : length r ≡ length m
  pub here : n ≤ length r

pub going_none : (l : List ℕ) (b v : ℕ) (m : List ℕ) → Chained l b v → Going l b v m m v 0
going_none l b v m c = record { chained = c; parts = refl; rest = refl; size = refl; here = omega arith }

module _ (l : List ℕ) (b v : ℕ) (m r : List ℕ) (i n : ℕ) (g : Going l b v m r i n) where
  written_length : length (take n r) ≡ n
  written_length = length-take-le n r g.here

  -- the room has one place more for each number that is still to come
  module _ (p : Fitting l b v (length m)) (h : b < i) where
    pub going_room : n < length r
    going_room =
        let e : length (live_from (view l) v) ≡ length (take n r) + length (live_from (view l) i) = ap length g.parts ∙ length-append (take n r) (live_from (view l) i) in
        let f = ap length (first_one l b i g.chained h) in
        let z = p.room in
        let y = g.size in
        omega (arith, written_length)

    pub going_more : (j : ℕ) → (j ≡ (entry_of (view l).log i).index.0) × (j < i) → Going l b v m (set r n i) j (n + 1)
    going_more j q =
        record {
          chained = lower l b i g.chained h j q;
          parts =
              g.parts ∙ ap (λ (x : List ℕ). take n r ++ x) (live_more l b i g.chained h j q)
              ∙ sym (append_assoc (take n r) (i ∷ []) (live_from (view l) j))
              ∙ ap (λ (x : List ℕ). x ++ live_from (view l) j) (sym (ap (λ (k : ℕ). take k (set r n i)) (add-one n) ∙ take-suc-set r n i going_room));
          rest =
              drop-set-lt (n + 1) r n i (omega arith) ∙ sym (drop-drop 1 n r) ∙ ap (λ (x : List ℕ). drop 1 x) g.rest ∙ drop-drop 1 n m;
          size = length-set r n i ∙ g.size;
          here = omega (arith, going_room, length-set r n i);
        }

  pub going_done : i ≤ b → (n ≡ length (live_from (view l) v)) × (r ≡ Leading m (live_from (view l) v))
  going_done h =
      let e : live_from (view l) v ≡ take n r =
      g.parts ∙ ap (λ (x : List ℕ). take n r ++ x) (none_from l b i g.chained h) ∙ append-nil (take n r) in
      let k : n ≡ length (live_from (view l) v) = sym (ap length e ∙ written_length) in
      (k, sym (take-append-drop n r) ∙ ap₂ ◌++◌ (sym e) (g.rest ∙ ap (λ (x : ℕ). drop x m) k))

-- ---- the list in the room
-- n numbers have room in m bytes where they are at most half of m
halves : (n m : ℕ) → leb (2 * n) m ≡ leb n (m / 2)
halves n m = go (leb n (m / 2)) refl
  where
    go : (b : Bool) → leb n (m / 2) ≡ b → leb (2 * n) m ≡ b
    go true e = let h = leb-true n (m / 2) e in le-leb (2 * n) m (omega arith)
    go false e = let h = leb-false n (m / 2) e in lt-leb (2 * n) m (omega arith)

module _ (l : List ℕ) (w : formed l ≡ true) (d : Head) (v b : ℕ) (ed : d ≡ head_at l committed_at) (ev : v ≡ d.revision.0) (ef : b ≡ folded_of l) where
  from_revision : v ≡ (view l).committed.head.revision.0
  unfolding view
  from_revision = ev ∙ ap (λ (x : Head). x.revision.0) ed

  pub revision_chained : Chained l b v
  revision_chained =
      let h : (view l).committed.head.revision.0 ≤ last (view l).log = (formed_view l w).committed.revision in
      record { formed = w; folded = ef; last = omega (arith, last_is l w, from_revision) }

  pub live_is : live_from (view l) v ≡ live (view l)
  unfolding live_from
  live_is = ap (λ (x : ℕ). hops x (view l).log x) from_revision

  pub begins : (t : List ℕ) → Linked l b v v t → Passing t v b v 0
  begins t k = record { image = l; linked = k; places = places l b v revision_chained; passed = omega arith }

  module _ (m t t' : List ℕ) (n : ℕ) (k : Linked l b v v t) (q : Walks t v b v 0 n t') where
    length_is : n ≡ length (live (view l))
    length_is = (q l k).0 ∙ ap length live_is

    pub fits_table : n ≤ slots
    fits_table = omega (arith, (q l k).0, few l b v revision_chained)

    pub table_size_holds : length t' ≡ slots
    table_size_holds = ap length (q l k).1 ∙ length-sets t 0 (live_from (view l) v) ∙ k.size

    -- what the walk has listed
    first_is : take n t' ≡ live (view l)
    first_is =
        ap₂ take (q l k).0 ((q l k).1 ∙ sets-eq (live_from (view l) v) t 0 (let e = k.size in omega (arith, few l b v revision_chained)))
        ∙ take-append_seam (live_from (view l) v) (drop (0 + length (live_from (view l) v)) t) ∙ live_is

    room_is : leb (2 * length (live (view l))) (length m) ≡ leb n (length m / 2)
    room_is = halves (length (live (view l))) (length m) ∙ ap (λ (x : ℕ). leb x (length m / 2)) (sym length_is)

    pub fits_room : n ≤ length m / 2 → 2 * n ≤ length m
    fits_room h = omega arith

    pub listed : (r : Listed) (m' : List ℕ) → n ≤ length m / 2 → m' ≡ (listing (take n t') m).room → r ≡ record { answer = 0; length = n } → ListsLive l m r m'
    listed r m' h e p =
        let y : leb (2 * length (live (view l))) (length m) ≡ true = room_is ∙ le-leb n (length m / 2) h in (
          p ∙ ap (λ (x : ℕ). record { answer = 0; length = x }) length_is
              ∙ ap (λ (x : Bool). (unless 14 m x (listing (live (view l)) m)).listed) (sym y),
          e ∙ ap (λ (x : List ℕ). (listing x m).room) first_is ∙ ap (λ (x : Bool). (unless 14 m x (listing (live (view l)) m)).room) (sym y),
        )

    pub not_listed : (r : Listed) → length m / 2 < n → r ≡ record { answer = 14; length = 0 } → ListsLive l m r m
    not_listed r h p =
        let y : leb (2 * length (live (view l))) (length m) ≡ false = room_is ∙ lt-leb n (length m / 2) h in (
          p ∙ ap (λ (x : Bool). (unless 14 m x (listing (live (view l)) m)).listed) (sym y),
          ap (λ (x : Bool). (unless 14 m x (listing (live (view l)) m)).room) (sym y),
        )

-- ---- refusal 1 comes first
module _ (l m : List ℕ) (b : Bool) (r : Listed) (eb : b ≡ formed l) where
  pub live_first : b ≡ false → r ≡ record { answer = 1; length = 0 } → Lists l m r m
  unfolding listing_of
  live_first t p = let z : formed l ≡ false = sym eb ∙ t in (rw z p, rw z)

  pub live_then : (m' : List ℕ) → b ≡ true → ListsLive l m r m' → Lists l m r m'
  unfolding listing_of
  live_then m' t d = let z : formed l ≡ true = sym eb ∙ t in (rw z d.0, rw z d.1)

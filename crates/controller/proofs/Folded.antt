-- Fold, as the code makes it: what it asks of the entries kept, the base that it lays, and its answers. Assumes nothing.
use Prim.Native.Nat.{ℕ, suc, ◌-◌, ◌≤◌, ◌<◌}
use mathlib.Core.Path.{◌≡◌, refl, ap, ap₂, sym, ◌∙◌}
use mathlib.Core.Bool.{Bool, true, false, ◌&&◌, ◌||◌, true≢false}
use mathlib.Core.List.{List, [], ◌∷◌, ◌++◌, append-nil}
use native.Mathlib.Omega.{arith}
use borrow.Author.Tests.{leb-true, ltb-true, ltb-false, le-leb, lt-leb, le-ltb}
use lib.Dec.{eqb, leb, ltb}
use lib.ListN.{length, get_or, drop}
use lib.Seq.{drop-length, drop-cons}
use Rattle.kinds.specs.declared.Transaction.{Transaction}
use Rattle.kinds.specs.declared.Head.{Head}
use Rattle.kinds.specs.declared.Number.{Number}
use Rattle.kinds.specs.declared.Reply.{Reply}
use Rattle.kinds.specs.Numbers.{num, follows}
use Rattle.kinds.specs.Events.{refusal}
use Rattle.kinds.specs.Statuses.{done, is_complete, is_failed}
use Rattle.rules.specs.declared.Lay.TheVariants.{Values}
use Rattle.machine.specs.State.{Log, entry_of, last, is_kept}
use Rattle.machine.specs.Stores.{Table, of_base, Store, fold}
use Rattle.machine.specs.Rows.{lay_one, lay_at, overlay, laid}
use Rattle.machine.specs.WellFormed.{all_entries}
use Rattle.machine.specs.Rest.{rest_of}
use Rattle.machine.specs.Settled.{settled}
use Rattle.machine.specs.LiveList.{live}
use Rattle.machine.specs.Folding.{stays, finished, finished_to, entry_waits, may_fold, base_if, base_row}
use Rattle.machine.specs.Calls.{fold_to, decide}
use Rattle.image.specs.Layout.{slots, image_length, values_at, committed_at, applied_at}
use Rattle.image.specs.Records.{entry_at, last_of, folded_of, head_at}
use Rattle.image.specs.View.{view, write, written}
use Rattle.image.specs.Formed.{formed, all_kept}
use Rattle.image.proofs.Kept.{value_leaves}
use Rattle.image.proofs.UpTo.{and_left, and_right, kept_at, kept_from}
use Rattle.image.proofs.Scanned.{view_all}
use Rattle.controller.specs.Claims.{Does, Entry, Ring, waits_at, finished_at}
use Rattle.controller.specs.Live.{live_from, Chained, Reaches, ListedIn}
use Rattle.controller.proofs.Decided.{entry_here, this_entry, last_is}
use Rattle.image.proofs.Shown.{written_append}
use Rattle.controller.proofs.Performed.{rows_on}
use Rattle.controller.proofs.Walked.{live_more, live_is, lower, chain_in}
use Rattle.controller.proofs.Answered.{refuses, accepts}

-- ---- what is asked of the entries
same_bool : (a b : Bool) → (a ≡ true → b ≡ true) → (b ≡ true → a ≡ true) → a ≡ b
same_bool true b p q = sym (p refl)
same_bool false true p q = absurd (true≢false (sym (q refl)))
same_bool false false p q = refl

either : (x y : Bool) → (x || y) ≡ true → x ≡ false → y ≡ true
either true y p q = absurd (true≢false q)
either false y p q = p

past : (x y : Bool) → (x ≡ false → y ≡ true) → (x || y) ≡ true
past true y h = refl
past false y h = h refl

-- one entry, as the loops read it
pub waits_one : (l : List ℕ) (a g k : ℕ) (t : Transaction) (r : Bool) → t ≡ entry_at l k → r ≡ entry_waits a g k t → r ≡ waits_at l a g k
unfolding waits_at
waits_one l a g k t r e p = p ∙ ap (entry_waits a g k) e

neither : (x y : Bool) → (x || y) ≡ false → (x ≡ false) × (y ≡ false)
neither true y e = absurd (true≢false e)
neither false y e = (refl, e)

-- what carries no next ordinal waits
pub waits_none : (l : List ℕ) (a g k : ℕ) (x : Bool) → x ≡ (follows a (entry_at l k).change.ordinal.0 || follows a (entry_at l k).rollback.ordinal.0) → x ≡ false → true ≡ waits_at l a g k
unfolding waits_at
waits_none l a g k x e f =
    let n = neither (follows a (entry_at l k).change.ordinal.0) (follows a (entry_at l k).rollback.ordinal.0) (sym e ∙ f) in
    sym (rw (n.0, n.1))

-- what is asked of an entry first, and then
pub finished_stays : (t : Transaction) (x : Bool) → x ≡ is_complete t.change.apply → (x && eqb t.phase 1) ≡ true → true ≡ finished t
finished_stays t x e h = sym (go (is_failed t.change.commit) (stays t) (done t.rollback.apply) (ap (λ (y : Bool). y && eqb t.phase 1) (sym e) ∙ h))
  where
    go : (a b d : Bool) → b ≡ true → (a || (b || d)) ≡ true
    go true b d q = refl
    go false true d q = refl
    go false false d q = absurd (true≢false (sym q))

pub finished_else : (t : Transaction) (x : Bool) → x ≡ is_complete t.change.apply → (x && eqb t.phase 1) ≡ false
    → (a : Bool) → a ≡ is_failed t.change.commit → (d : Bool) → d ≡ done t.rollback.apply → (a || d) ≡ finished t
finished_else t x e h a p d q =
    ap₂ ◌||◌ p q ∙ ap (λ (b : Bool). is_failed t.change.commit || (b || done t.rollback.apply)) (sym (ap (λ (y : Bool). y && eqb t.phase 1) (sym e) ∙ h))

waits_all : (l : List ℕ) (a g : ℕ) → all_entries (entry_waits a g) (view l).log ≡ all_kept (waits_at l a g) (folded_of l) (last_of l)
unfolding waits_at
waits_all l a g = view_all (entry_waits a g) l

-- a number past the one folded to is not asked
finished_all : (l : List ℕ) (to : ℕ) → to ≤ last_of l → all_entries (finished_to to) (view l).log ≡ all_kept (finished_at l) (folded_of l) to
unfolding finished_at
finished_all l to h =
    view_all (finished_to to) l
    ∙ same_bool (all_kept (λ k. finished_to to k (entry_at l k)) (folded_of l) (last_of l)) (all_kept (λ k. finished (entry_at l k)) (folded_of l) to)
    (λ e. kept_from (λ k. finished (entry_at l k)) (folded_of l) to
    (λ k p q. either (ltb to k) (finished (entry_at l k)) (kept_at (λ j. finished_to to j (entry_at l j)) (folded_of l) (last_of l) e k p (omega arith)) (le-ltb to k q)))
    (λ e. kept_from (λ k. finished_to to k (entry_at l k)) (folded_of l) (last_of l)
    (λ k p q. past (ltb to k) (finished (entry_at l k)) (λ x. kept_at (λ j. finished (entry_at l j)) (folded_of l) to e k p (ltb-false to k x))))

-- ---- whether it may be folded
module _ (l : List ℕ) (b n to : ℕ) (c : Ring l b n × ((b ≤ to) × (to ≤ n))) (x : Bool) (ex : x ≡ rest_of (view l)) where
  pub not_at_rest : x ≡ false → false ≡ may_fold (view l) to
  not_at_rest t = let z : rest_of (view l) ≡ false = sym ex ∙ t in rw z

  module _ (tx : x ≡ true) (y : Bool) (ey : y ≡ settled (view l)) where
    zx : rest_of (view l) ≡ true
    zx = sym ex ∙ tx

    pub not_settled : y ≡ false → false ≡ may_fold (view l) to
    not_settled t = let z : settled (view l) ≡ false = sym ey ∙ t in rw (zx, z)

    module _ (ty : y ≡ true) (h : Head) (eh : h ≡ head_at l applied_at) (g : ℕ) (eg : g ≡ h.target.0) (u : Bool) (eu : u ≡ all_kept (waits_at l h.ordinal.0 g) b n) where
      zy : settled (view l) ≡ true
      zy = sym ey ∙ ty

      waits : all_entries (entry_waits (view l).applied.head.ordinal.0 (view l).applied.head.target.0) (view l).log ≡ u
      unfolding view
      waits =
          waits_all l (head_at l applied_at).ordinal.0 (head_at l applied_at).target.0
          ∙ sym
          (eu ∙ ap₂ (all_kept (waits_at l h.ordinal.0 g)) c.0.folded c.0.last
          ∙ ap (λ (k : ℕ). all_kept (waits_at l h.ordinal.0 k) (folded_of l) (last_of l)) eg
          ∙ ap (λ (k : Head). all_kept (waits_at l k.ordinal.0 k.target.0) (folded_of l) (last_of l)) eh)

      pub not_waiting : u ≡ false → false ≡ may_fold (view l) to
      not_waiting t = let z = waits ∙ t in rw (zx, zy, z)

      pub may : u ≡ true → (r : Bool) → r ≡ all_kept (finished_at l) b to → r ≡ may_fold (view l) to
      may t r q =
          let z = waits ∙ t in
          let k : to ≤ last_of l = let f = c.0.last in let g = c.1.1 in omega arith in
          let e : all_entries (finished_to to) (view l).log ≡ r = finished_all l to k ∙ ap (λ (j : ℕ). all_kept (finished_at l) j to) (sym c.0.folded) ∙ sym q in
          rw (zx, zy, z, e)

-- ---- the base
module _ (l : List ℕ) (b to v : ℕ) where
  -- on the way down: what is laid from i is what is laid from v
  abbrev pub Down : ℕ → Type 0
  Down i = Chained l b i × (base_row (view l).log to (live_from (view l) i) ≡ base_row (view l).log to (live_from (view l) v))

  pub down_reaches : (i : ℕ) → Down i → i ≤ to → Reaches l b to v i
  down_reaches i d h = record { chained = d.0; low = h; same = d.1 }

  module _ (i : ℕ) (d : Down i) (low : b ≤ to) (h : to < i) where
    pub down_more : (j : ℕ) → (j ≡ (entry_of (view l).log i).index.0) × (j < i) → Down j
    unfolding base_row
    down_more j e =
        let m = live_more l b i d.0 (omega arith) j e in (
          lower l b i d.0 (omega arith) j e,
          sym (ap (base_row (view l).log to) m
              ∙ ap (λ (x : Bool). base_row (view l).log to (live_from (view l) j) ++ base_if x (entry_of (view l).log i)) (lt-leb i to h)
              ∙ append-nil (base_row (view l).log to (live_from (view l) j)))
              ∙ d.1,
        )

-- a row that leaves every entry, and the length
abbrev Leaves : ℕ → List Store → Type 0
Leaves k es = (l : List ℕ) → (entry_at (written l es) k ≡ entry_at l k) × (length (written l es) ≡ length l)

leaves_then : (k : ℕ) (es fs : List Store) → Leaves k es → Leaves k fs → Leaves k (es ++ fs)
leaves_then k es fs p q l = (
  ap (λ (x : List ℕ). entry_at x k) (written_append l es fs) ∙ (q (written l es)).0 ∙ (p l).0,
  ap length (written_append l es fs) ∙ (q (written l es)).1 ∙ (p l).1,
)

-- the base lies past the entries
lay_leaves : (k : ℕ) (u : Bool) (p v : ℕ) → Leaves k (lay_one u of_base p v)
unfolding written
lay_leaves k false p v l = (refl, refl)
lay_leaves k true p v l = value_leaves l p v k

overlay_leaves : (k : ℕ) (ps vs : List ℕ) (n : ℕ) → Leaves k (overlay of_base ps vs n)
unfolding overlay
overlay_leaves k ps vs n =
    let one : (j : ℕ) → Leaves k (lay_at of_base ps vs n j) = λ j. lay_leaves k (ltb j n) (get_or ps j 0) (get_or vs j 0) in
    leaves_then k (lay_at of_base ps vs n 0) _ (one 0) (leaves_then k (lay_at of_base ps vs n 1) _ (one 1) (leaves_then k (lay_at of_base ps vs n 2) _ (one 2) (one 3)))

if_leaves : (k : ℕ) (x : Bool) (t : Transaction) → Leaves k (base_if x t)
unfolding written
if_leaves k true t = overlay_leaves k t.paths t.values t.count
if_leaves k false t = λ l. (refl, refl)

base_leaves : (k : ℕ) (g : Log) (to : ℕ) (ks : List ℕ) → Leaves k (base_row g to ks)
unfolding base_row written
base_leaves k g to [] = λ l. (refl, refl)
base_leaves k g to (i ∷ ks) = leaves_then k (base_row g to ks) (base_if (leb i to) (entry_of g i)) (base_leaves k g to ks) (if_leaves k (leb i to) (entry_of g i))

-- the numbers from place k of the list on are laid
abbrev pub Laying : List ℕ → ℕ → ℕ → ℕ → List ℕ → ℕ → Type 0
Laying l to v n s k = (k ≤ n) × ((s ≡ written l (base_row (view l).log to (drop k (live_from (view l) v)))) × (length s ≡ length l))

module _ (l : List ℕ) (b to v : ℕ) (m : List ℕ) (n : ℕ) (c : ListedIn l b v m n × ((v ≤ to) × (n ≤ slots))) where
  pub laying_none : Laying l to v n l n
  unfolding written base_row
  laying_none = (
    omega arith,
    (
      sym (ap (λ (x : List ℕ). written l (base_row (view l).log to x)) (ap (λ (k : ℕ). drop k (live_from (view l) v)) c.0.count ∙ drop-length (live_from (view l) v))),
      refl,
    ),
  )

  pub laying_done : (s : List ℕ) (k : ℕ) → Laying l to v n s k → k ≤ 0 → s ≡ written l (base_row (view l).log to (live_from (view l) v))
  laying_done s k g h =
      let e : k ≡ 0 = omega arith in
      g.1.0 ∙ ap (λ (j : ℕ). written l (base_row (view l).log to (drop j (live_from (view l) v)))) e

  module _ (s : List ℕ) (k : ℕ) (g : Laying l to v n s k) (h : 0 < k) where
    below : k - 1 < n
    below = let z = g.0 in omega arith

    before : k - 1 < length (live_from (view l) v)
    before = let z = below in let e = c.0.count in omega arith

    pub laying_entry : Entry l (get_or m (k - 1) 0)
    laying_entry =
        let q = chain_in l b v c.0.chained (k - 1) before in
        let e : get_or m (k - 1) 0 ≡ get_or (live_from (view l) v) (k - 1) 0 = c.0.same (k - 1) below in
        let x = q.0 in
        let y = q.1 in
        let f = c.0.chained.folded in
        let z = c.0.chained.last in
        record { formed = c.0.chained.formed; kept = omega arith; last = omega arith }

    pub laying_here : (1 ≤ get_or m (k - 1) 0) × (image_length ≤ length s)
    laying_here = let q = entry_here l _ laying_entry in let z = g.1.1 in let y = q.1 in (q.0, omega arith)

    pub laying_more : (t : Transaction) (r : List ℕ) → t ≡ entry_at s (get_or m (k - 1) 0)
        → ((x : Table) → values_at x ≡ values_at of_base → r ≡ written s (overlay x t.paths t.values t.count)) → Laying l to v n r (k - 1)
    unfolding base_row
    laying_more t r et er =
        let log = (view l).log in
        let live = live_from (view l) v in
        let i = get_or live (k - 1) 0 in
        let same : get_or m (k - 1) 0 ≡ i = c.0.same (k - 1) below in
        let one : t ≡ entry_at l (get_or m (k - 1) 0) = et ∙ ap (λ (x : List ℕ). entry_at x (get_or m (k - 1) 0)) g.1.0 ∙ (base_leaves _ log to (drop k live) l).0 in
        let e : t ≡ entry_of log i = this_entry l _ laying_entry t one ∙ ap (entry_of log) same in
        let low : i ≤ to = let q = (chain_in l b v c.0.chained (k - 1) before).1 in let z = c.1.0 in omega arith in
        let next : suc (k - 1) ≡ k = omega arith in
        let rows : base_row log to (drop (k - 1) live) ≡ base_row log to (drop k live) ++ laid of_base Values t =
        ap (base_row log to) (drop-cons live (k - 1) 0 before ∙ ap (λ (j : ℕ). i ∷ drop j live) next)
        ∙ ap (λ (x : Bool). base_row log to (drop k live) ++ base_if x (entry_of log i)) (le-leb i to low)
        ∙ ap (λ (u : Transaction). base_row log to (drop k live) ++ laid of_base Values u) (sym e) in
        let p : r ≡ written l (base_row log to (drop (k - 1) live)) =
        rows_on l s r (base_row log to (drop k live)) (laid of_base Values t) g.1.0 (er of_base refl) ∙ ap (written l) (sym rows) in
        (let z = below in omega arith, (p, ap length p ∙ (base_leaves 0 log to (drop (k - 1) live) l).1))

-- ---- the call
module _ (l : List ℕ) (w : formed l ≡ true) (i n b : ℕ) (en : n ≡ last_of l) (eb : b ≡ folded_of l) (k : Bool) (ek : k ≡ (ltb b i && leb i n)) where
  kept_range : (x : Bool) → k ≡ x → (is_kept (view l) i && leb i (last (view l).log)) ≡ x
  unfolding view
  kept_range x e = ap₂ (λ (p q : ℕ). ltb p i && leb i q) (sym eb) (last_is l w ∙ sym en) ∙ sym ek ∙ e

  pub fold_5 : (r : Reply) → k ≡ false → r ≡ refusal 5 → Does l (fold_to i) r l
  unfolding decide
  fold_5 r e p = refuses l (fold_to i) 5 r (rw (kept_range false e)) p

  pub fold_ring : k ≡ true → Ring l b n × ((b ≤ i) × (i ≤ n))
  fold_ring t =
      let z : (ltb b i && leb i n) ≡ true = sym ek ∙ t in
      let lo : b < i = ltb-true b i (and_left _ _ z) in
      let hi : i ≤ n = leb-true i n (and_right (ltb b i) _ z) in
      (record { formed = w; folded = eb; last = en }, (omega arith, hi))

  module _ (r : Reply) (t : k ≡ true) where
    module _ (y : Bool) (ey : y ≡ may_fold (view l) i) where
      pub fold_17 : y ≡ false → r ≡ refusal 17 → Does l (fold_to i) r l
      unfolding decide
      fold_17 e p = let z : may_fold (view l) i ≡ false = sym ey ∙ e in refuses l (fold_to i) 17 r (rw (kept_range true t, z)) p

      pub folded : y ≡ true → (h : Head) (v : ℕ) → h ≡ head_at l committed_at → v ≡ h.revision.0 → (f : ℕ) → Reaches l b i v f → (l1 l2 : List ℕ) (m : Number)
          → l1 ≡ written l (base_row (view l).log i (live_from (view l) f)) → m ≡ num i → l2 ≡ write l1 (fold m) → r ≡ refusal 0 → Does l (fold_to i) r l2
      unfolding decide written
      folded e h v eh ev f g l1 l2 m q em s p =
          let z : may_fold (view l) i ≡ true = sym ey ∙ e in
          accepts l (fold_to i) (base_row (view l).log i (live (view l)) ++ (fold (num i) ∷ [])) r l2 (rw (kept_range true t, z)) p
          (rows_on l l1 l2 (base_row (view l).log i (live (view l))) (fold (num i) ∷ [])
          (q ∙ ap (written l) g.same ∙ ap (λ (x : List ℕ). written l (base_row (view l).log i x)) (live_is l w h v b eh ev eb))
          (s ∙ ap (λ (x : Number). write l1 (fold x)) em))

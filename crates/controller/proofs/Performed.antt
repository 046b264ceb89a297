-- A plan's stores as the code makes them, over variables: each row after the one before it. Assumes nothing.
use Prim.Native.Nat.{ℕ, ◌≤◌, ◌<◌}
use mathlib.Core.Path.{◌≡◌, refl, ap, ap₂, sym, ◌∙◌}
use mathlib.Core.Bool.{Bool, true, false, ◌&&◌, cond}
use mathlib.Core.List.{List, [], ◌∷◌, ◌++◌, append-nil}
use native.Mathlib.Omega.{arith}
use borrow.Author.Tests.{lt-ltb, le-ltb}
use lib.ListN.{get_or}
use Rattle.kinds.specs.declared.Transaction.{Transaction}
use Rattle.kinds.specs.declared.Number.{Number}
use Rattle.kinds.specs.declared.Event.{Event}
use Rattle.kinds.specs.Numbers.{num}
use Rattle.kinds.specs.Events.{no_event}
use Rattle.rules.specs.Plans.{is_push}
use Rattle.rules.specs.declared.Plan.{Plan}
use Rattle.rules.specs.declared.Lay.{Lay}
use Rattle.rules.specs.declared.Lay.TheVariants.{Nothing, Values, Kept}
use Rattle.rules.specs.declared.Order.{Order}
use Rattle.rules.specs.declared.Order.TheVariants.{Neither, EntryOnly, HeadOnly, EntryThenHead, HeadThenEntry, TargetThenHeadThenEntry}
use Rattle.machine.specs.Stores.{Table, of_committed, of_applied, of_owners, Store, change, committed_head, applied_head}
use Rattle.machine.specs.Rows.{overlay, laid, owned, entry_row, change_row, head_row, target_row, rows_by, rows_of}
use Rattle.image.specs.Layout.{values_at, committed_at, applied_at}
use Rattle.image.specs.Promises.{value_put}
use Rattle.image.specs.Records.{put_head_at}
use Rattle.image.specs.View.{write, written}
use Rattle.image.proofs.Shown.{written_append}
use Rattle.controller.specs.declared.perform.Comes.{Comes}
use Rattle.controller.specs.Performs.{laid_values, laid_owners, laid_count, comes_by}

-- a row after a row
pub rows_on : (l m n : List ℕ) (es fs : List Store) → m ≡ written l es → n ≡ written m fs → n ≡ written l (es ++ fs)
rows_on l m n es fs p q = q ∙ ap (λ (x : List ℕ). written x fs) p ∙ sym (written_append l es fs)

-- ---- overlay
-- one pair over the table at a place
abbrev pub Over : ℕ → ℕ → ℕ → List ℕ → List ℕ
Over at p v l = value_put l at p v

-- as many pairs as are used
module _ (ps vs : List ℕ) (n at : ℕ) (l : List ℕ) where
  pub laid_zero : n < 1 → (b : Table) → values_at b ≡ at → l ≡ written l (overlay b ps vs n)
  unfolding overlay written
  laid_zero h b e = rw (le-ltb 0 n (omega arith), le-ltb 1 n (omega arith), le-ltb 2 n (omega arith), le-ltb 3 n (omega arith))

  module _ (l1 : List ℕ) (q1 : l1 ≡ Over at (get_or ps 0 0) (get_or vs 0 0) l) where
    pub laid_one : 1 ≤ n → n < 2 → (b : Table) → values_at b ≡ at → l1 ≡ written l (overlay b ps vs n)
    unfolding overlay written write
    laid_one g h b e = rw (lt-ltb 0 n (omega arith), le-ltb 1 n (omega arith), le-ltb 2 n (omega arith), le-ltb 3 n (omega arith), e) q1

    module _ (l2 : List ℕ) (q2 : l2 ≡ Over at (get_or ps 1 0) (get_or vs 1 0) l1) where
      two : l2 ≡ Over at (get_or ps 1 0) (get_or vs 1 0) (Over at (get_or ps 0 0) (get_or vs 0 0) l)
      two = q2 ∙ ap (Over at (get_or ps 1 0) (get_or vs 1 0)) q1

      pub laid_two : 2 ≤ n → n < 3 → (b : Table) → values_at b ≡ at → l2 ≡ written l (overlay b ps vs n)
      unfolding overlay written write
      laid_two g h b e = rw (lt-ltb 0 n (omega arith), lt-ltb 1 n (omega arith), le-ltb 2 n (omega arith), le-ltb 3 n (omega arith), e) two

      module _ (l3 : List ℕ) (q3 : l3 ≡ Over at (get_or ps 2 0) (get_or vs 2 0) l2) where
        three : l3 ≡ Over at (get_or ps 2 0) (get_or vs 2 0) (Over at (get_or ps 1 0) (get_or vs 1 0) (Over at (get_or ps 0 0) (get_or vs 0 0) l))
        three = q3 ∙ ap (Over at (get_or ps 2 0) (get_or vs 2 0)) two

        pub laid_three : 3 ≤ n → n < 4 → (b : Table) → values_at b ≡ at → l3 ≡ written l (overlay b ps vs n)
        unfolding overlay written write
        laid_three g h b e = rw (lt-ltb 0 n (omega arith), lt-ltb 1 n (omega arith), lt-ltb 2 n (omega arith), le-ltb 3 n (omega arith), e) three

        pub laid_four : (l4 : List ℕ) → l4 ≡ Over at (get_or ps 3 0) (get_or vs 3 0) l3 → 4 ≤ n → (b : Table) → values_at b ≡ at → l4 ≡ written l (overlay b ps vs n)
        unfolding overlay written write
        laid_four l4 q4 g b e =
            rw (lt-ltb 0 n (omega arith), lt-ltb 1 n (omega arith), lt-ltb 2 n (omega arith), lt-ltb 3 n (omega arith), e)
            (q4 ∙ ap (Over at (get_or ps 3 0) (get_or vs 3 0)) three)

-- what a lay lays, chosen by it
laid_chosen : (b : Table) (x : Lay) (t : Transaction) → overlay b t.paths (laid_values x t) (laid_count x t) ≡ laid b x t
unfolding overlay
laid_chosen b Nothing t = refl
laid_chosen b Values t = refl
laid_chosen b Kept t = refl

owned_chosen : (x : Lay) (t : Transaction) (i : ℕ) → overlay of_owners t.paths (laid_owners x t i) (laid_count x t) ≡ owned x t i
unfolding overlay
owned_chosen Nothing t i = refl
owned_chosen Values t i = refl
owned_chosen Kept t i = refl

pub owners_are : (x y : Lay) (t : Transaction) (i : ℕ) (r : List ℕ) → x ≡ y → r ≡ laid_owners y t i → r ≡ laid_owners x t i
owners_are x y t i r e q = q ∙ ap (λ (z : Lay). laid_owners z t i) (sym e)

module _ (l m : List ℕ) (x : Lay) (t : Transaction) (vs : List ℕ) (n : ℕ) (ev : vs ≡ laid_values x t) (en : n ≡ laid_count x t) where
  pub laid_by : (at : ℕ) → ((b : Table) → values_at b ≡ at → m ≡ written l (overlay b t.paths vs n)) → (b : Table) → values_at b ≡ at → m ≡ written l (laid b x t)
  laid_by at q b z = q b z ∙ ap₂ (λ (u : List ℕ) (k : ℕ). written l (overlay b t.paths u k)) ev en ∙ ap (written l) (laid_chosen b x t)

  -- both of a commit's tables
  pub laid_owned : (i : ℕ) (os : List ℕ) → os ≡ laid_owners x t i → m ≡ written l (overlay of_committed t.paths vs n ++ overlay of_owners t.paths os n)
      → m ≡ written l (laid of_committed x t ++ owned x t i)
  laid_owned i os eo q =
      let rows : List ℕ → List ℕ → ℕ → List ℕ = λ u w k. written l (overlay of_committed t.paths u k ++ overlay of_owners t.paths w k) in
      q
      ∙ ap (rows vs os) en
      ∙ ap₂ (λ (u w : List ℕ). rows u w (laid_count x t)) ev eo
      ∙ ap₂ (λ (es fs : List Store). written l (es ++ fs)) (laid_chosen of_committed x t) (owned_chosen x t i)

-- ---- Committed's change
pub change_moved : (l m : List ℕ) (i : ℕ) (n : Number) (b : Bool) → b ≡ true → n ≡ num i → m ≡ write l (change n) → m ≡ written l (change_row b i)
unfolding written
change_moved l m i n b t e q = rw t (q ∙ ap (λ (x : Number). write l (change x)) e)

pub change_still : (l : List ℕ) (i : ℕ) (b : Bool) → b ≡ false → l ≡ written l (change_row b i)
unfolding written
change_still l i b t = rw t

-- ---- the head's store
pub commit_row : (l l1 l2 l3 : List ℕ) (i : ℕ) (p : Plan) → l1 ≡ put_head_at l committed_at p.head → l2 ≡ written l1 (change_row p.change i)
    → l3 ≡ written l2 (laid of_committed p.lay p.entry ++ owned p.lay p.entry i) → l3 ≡ written l (head_row true p i)
unfolding written write
commit_row l l1 l2 l3 i p q1 q2 q3 =
    let both : List Store = laid of_committed p.lay p.entry ++ owned p.lay p.entry i in
    rows_on l l1 l3 (committed_head p.head ∷ []) (change_row p.change i ++ both) q1 (rows_on l1 l2 l3 (change_row p.change i) both q2 q3)

pub apply_row : (l l1 l2 : List ℕ) (i : ℕ) (p : Plan) → l1 ≡ put_head_at l applied_at p.head
    → ((b : Table) → values_at b ≡ values_at of_applied → l2 ≡ written l1 (laid b p.lay p.entry)) → l2 ≡ written l (head_row false p i)
unfolding written write
apply_row l l1 l2 i p q1 q2 = rows_on l l1 l2 (applied_head p.head ∷ []) (laid of_applied p.lay p.entry) q1 (q2 of_applied refl)

pub row_if : (l m : List ℕ) (b c : Bool) (i : ℕ) (p : Plan) → b ≡ c → m ≡ written l (head_row c p i) → m ≡ written l (head_row b p i)
row_if l m b c i p e q = q ∙ ap (λ (x : Bool). written l (head_row x p i)) (sym e)

-- ---- the plan
-- a row, where it comes
pub row_comes : (l m : List ℕ) (b : Bool) (r : List Store) → b ≡ true → m ≡ written l r → m ≡ written l (cond b r [])
row_comes l m b r t q = q ∙ ap (λ (x : Bool). written l (cond x r [])) (sym t)

pub row_stays_out : (l : List ℕ) (b : Bool) (r : List Store) → b ≡ false → l ≡ written l (cond b r [])
unfolding written
row_stays_out l b r t = rw t

pub comes_are : (o w : Order) (first second : Bool) (r : Comes) → o ≡ w → r ≡ comes_by w first second → r ≡ comes_by o first second
comes_are o w first second r e q = q ∙ ap (λ (x : Order). comes_by x first second) (sym e)

-- the rows at their places
module _ (c : Bool) (p : Plan) (i : ℕ) where
  abbrev placed : Comes → List Store
  placed x = cond x.target (target_row p) [] ++ (cond x.before (entry_row p i) [] ++ (cond x.head (head_row c p i) [] ++ cond x.after (entry_row p i) []))

  -- are those of the order
  rows_placed : (w : Order) (first second : Bool) → placed (comes_by w first second) ≡ rows_by w c p i first second
  rows_placed Neither first second = refl
  rows_placed EntryOnly first second = refl
  rows_placed HeadOnly first second = append-nil (head_row c p i)
  rows_placed EntryThenHead true second = refl
  rows_placed EntryThenHead false second = ap (λ (es : List Store). entry_row p i ++ es) (append-nil (head_row c p i))
  rows_placed HeadThenEntry true second = append-nil (head_row c p i)
  rows_placed HeadThenEntry false second = refl
  rows_placed TargetThenHeadThenEntry true second = append-nil (target_row p)
  rows_placed TargetThenHeadThenEntry false true = ap (λ (es : List Store). target_row p ++ es) (append-nil (head_row c p i))
  rows_placed TargetThenHeadThenEntry false false = refl

  pub performed : (l l1 l2 l3 l4 : List ℕ) (first second : Bool) (x : Comes) → x ≡ comes_by p.order first second
      → l1 ≡ written l (cond x.target (target_row p) []) → l2 ≡ written l1 (cond x.before (entry_row p i) [])
      → l3 ≡ written l2 (cond x.head (head_row c p i) []) → l4 ≡ written l3 (cond x.after (entry_row p i) []) → l4 ≡ written l (rows_of c p i first second)
  unfolding rows_of
  performed l l1 l2 l3 l4 first second x e q1 q2 q3 q4 =
      rows_on l l1 l4 _ _ q1 (rows_on l1 l2 l4 _ _ q2 (rows_on l2 l3 l4 _ _ q3 q4))
      ∙ ap (λ (y : Comes). written l (placed y)) e
      ∙ ap (written l) (rows_placed p.order first second)

-- ---- the event
pub event_is : (o w : Order) (e : Event) (first : Bool) → o ≡ w → (is_push w && first) ≡ false → e ≡ cond (is_push o && first) no_event e
event_is o w e first p f = sym (ap (λ (x : Bool). cond x no_event e) (ap (λ (y : Order). is_push y && first) p ∙ f))

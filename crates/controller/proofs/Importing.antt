-- An import, as the code makes it: the lent list read, the walk that judges it, and its entries one after another on the bytes, each
-- at once what its calls leave. Assumes nothing.
use Prim.Native.Nat.{ℕ, zero, suc, ◌+◌, ◌-◌, ◌*◌, ◌/◌, ◌%◌, ◌≤◌, ◌<◌}
use mathlib.Core.Path.{◌≡◌, refl, ap, ap₂, sym, ◌∙◌, subst}
use mathlib.Core.Bool.{Bool, true, false, ◌&&◌, cond, true≢false, and-false}
use mathlib.Core.List.{List, [], ◌∷◌, map}
use native.Mathlib.Omega.{arith}
use borrow.Author.Tests.{eqb-true, eqb-false, eq-eqb, ne_eqb, le-leb, lt-leb, leb-true, leb-false, lt-ltb, le-ltb, ltb-true}
use lib.Dec.{eqb, leb, ltb}
use lib.ListN.{length, get_or, set, take, drop, length-set, length-drop}
use lib.Seq.{drop-cons, length-take-le, get_or-set_same, get_or-set_other}
use Rattle.kinds.specs.declared.Transaction.{Transaction}
use Rattle.fields.proofs.Laws.{Bytes}
use Rattle.machine.specs.State.{State, last}
use Rattle.machine.specs.WellFormed.{pairs_ok}
use Rattle.machine.specs.Calls.{Pair, Call, valid_change, path_of, values_ok, appended}
use Rattle.machine.specs.Step.{run}
use Rattle.machine.specs.Import.{Entry, adds, undoes, neither, Verdict, bad_unless, judged_from, judged, opening, calls_of, calls_up_to, import_calls, Import, import, entry_size, two, pairs_at, entry_in, entries_from, entries_of, import_of}
use Rattle.machine.specs.Entered.{changed, change_stores, undone, undo_stores}
use Rattle.machine.specs.Imports.{entry_after, Good}
use Rattle.machine.specs.Imports as good
use Rattle.machine.proofs.ImportCalls.{change_stores_holds, undo_stores_holds}
use Rattle.machine.proofs.Imported.{Taken, taken, entered_change, entered_rollback, entered_fold}
use Rattle.image.specs.Layout.{image_length}
use Rattle.image.specs.View.{view, written}
use Rattle.image.specs.Formed.{formed}
use Rattle.image.specs.Fresh.{fresh_image}
use Rattle.image.proofs.Scanned.{view_last, view_folded, formed_length, formed_room}
use Rattle.image.proofs.Shown.{view_written}
use Rattle.image.proofs.UpTo.{and_left, and_right}
use Rattle.staying.proofs.Entered.{change_room, undo_room}
use Rattle.controller.specs.declared.imports.Imported.{Imported}
use Rattle.controller.specs.declared.imports.Judged.{Judged}
use Rattle.controller.specs.Bytes.{AllBytes, pairs_of, valid_bytes}
use Rattle.controller.specs.Nights.{lent_from}
use Rattle.controller.specs.Imports.{import_in, told, image_after, Imports, refuses, Listed, Placed, judged_one, Judges, Accepts, entry_stores, Enters}
use Rattle.controller.proofs.LentPairs.{valid_pairs}
use Rattle.controller.proofs.Lent.{lent_on, fresh_lent, shown_run}
use Rattle.controller.proofs.Entered.{at_once}

-- ---- a part of the list
part_length : (b : List ℕ) (a n : ℕ) → a + n ≤ length b → length (take n (drop a b)) ≡ n
part_length b a n h = length-take-le n (drop a b) (let z = length-drop a b in omega (arith, z))

bytes_drop : (a : ℕ) (b : List ℕ) → AllBytes b → AllBytes (drop a b)
bytes_drop zero b y = y
bytes_drop (suc a) [] y = y
bytes_drop (suc a) (x ∷ b) y = bytes_drop a b (λ j. y (suc j))

bytes_take : (n : ℕ) (b : List ℕ) → AllBytes b → AllBytes (take n b)
bytes_take zero b y j = omega arith
bytes_take (suc n) [] y j = omega arith
bytes_take (suc n) (x ∷ b) y zero = y 0
bytes_take (suc n) (x ∷ b) y (suc j) = bytes_take n b (λ i. y (suc i)) j

four_first : (b : List ℕ) (a : ℕ) → a + 4 ≤ length b → drop a b ≡ get_or b a 0 ∷ get_or b (a + 1) 0 ∷ get_or b (a + 2) 0 ∷ get_or b (a + 2 + 1) 0 ∷ drop (a + 4) b
four_first b a h =
    let one : suc a ≡ a + 1 = omega arith in
    let two : suc (a + 1) ≡ a + 2 = omega arith in
    let three : suc (a + 2) ≡ a + 2 + 1 = omega arith in
    let four : suc (a + 2 + 1) ≡ a + 4 = omega arith in
    drop-cons b a 0 (omega arith)
    ∙ ap (λ (l : List ℕ). get_or b a 0 ∷ l)
    (ap (λ (k : ℕ). drop k b) one ∙ drop-cons b (a + 1) 0 (omega arith)
    ∙ ap (λ (l : List ℕ). get_or b (a + 1) 0 ∷ l)
    (ap (λ (k : ℕ). drop k b) two ∙ drop-cons b (a + 2) 0 (omega arith)
    ∙ ap (λ (l : List ℕ). get_or b (a + 2) 0 ∷ l)
    (ap (λ (k : ℕ). drop k b) three ∙ drop-cons b (a + 2 + 1) 0 (omega arith) ∙ ap (λ (l : List ℕ). get_or b (a + 2 + 1) 0 ∷ l) (ap (λ (k : ℕ). drop k b) four))))

-- the pairs of a part are those read in place
pairs_part : (n : ℕ) (b : List ℕ) (a : ℕ) → a + 4 * n ≤ length b → pairs_of (take (4 * n) (drop a b)) ≡ pairs_at b a n
unfolding pairs_of pairs_at
pairs_part zero b a h = refl
pairs_part (suc n) b a h =
    let e : 4 * suc n ≡ suc (suc (suc (suc (4 * n)))) = omega arith in
    ap (λ (k : ℕ). pairs_of (take k (drop a b))) e
    ∙ ap (λ (l : List ℕ). pairs_of (take (suc (suc (suc (suc (4 * n))))) l)) (four_first b a (omega arith))
    ∙ ap (λ ps. record { path = two b a; value = two b (a + 2) } ∷ ps) (pairs_part n b (a + 4) (omega arith))

pairs_count : (b : List ℕ) (a n : ℕ) → length (pairs_at b a n) ≡ n
unfolding pairs_at
pairs_count b a zero = refl
pairs_count b a (suc n) = ap suc (pairs_count b (a + 4) n)

-- ---- an entry's pairs
module _ (b : List ℕ) (at n : ℕ) (p : Placed b at) where
  -- the part of the list from f to e is the entry's pairs
  module _ (f e : ℕ) (ef : f ≡ at + 4) (ee : e ≡ f + 4 * n) (few : n ≤ 4) where
    abbrev part : List ℕ
    part = take (e - f) (drop f b)

    part_is : part ≡ take (4 * n) (drop (at + 4) b)
    part_is = let z : e - f ≡ 4 * n = omega arith in ap₂ (λ (x y : ℕ). take x (drop y b)) z ef

    size : length part ≡ 4 * n
    size = ap length part_is ∙ part_length b (at + 4) (4 * n) (omega (arith, p.0))

    pub change_is : (r : Bool) → AllBytes b → r ≡ valid_bytes part → r ≡ valid_change (pairs_at b (at + 4) n)
    change_is r y q =
        q ∙ sym (valid_pairs part n size (subst AllBytes (sym part_is) (bytes_take (4 * n) (drop (at + 4) b) (bytes_drop (at + 4) b y))))
        ∙ ap (λ (l : List ℕ). valid_change (pairs_of l)) part_is ∙ ap valid_change (pairs_part n b (at + 4) (omega (arith, p.0)))

too_many : (n : ℕ) (ps : List ℕ) → 4 < n → pairs_ok n ps ≡ false
unfolding pairs_ok
too_many n ps h = rw (lt-leb n 4 h, and-false (leb 1 n))

pub no_change : (b : List ℕ) (a n : ℕ) → 4 < n → false ≡ valid_change (pairs_at b a n)
no_change b a n h =
    sym (ap (λ (t : Bool). t && values_ok (pairs_at b a n)) (too_many (length (pairs_at b a n)) (map path_of (pairs_at b a n)) (let z = pairs_count b a n in omega (arith, z))))

few_pairs : (b : List ℕ) (a n : ℕ) → valid_change (pairs_at b a n) ≡ true → n ≤ 4
few_pairs b a n v = go (leb n 4) refl
  where
    go : (x : Bool) → leb n 4 ≡ x → n ≤ 4
    go true e = leb-true n 4 e
    go false e = absurd (true≢false (sym v ∙ sym (no_change b a n (leb-false n 4 e))))

-- ---- one entry judged, as the code tests it
module _ (b : List ℕ) (at n c d : ℕ) where
  pub judged_3 : (x : Bool) → x ≡ valid_change (pairs_at b (at + 4) n) → x ≡ false → record { answer = 3; changes = c; depth = d } ≡ judged_one c d 0 (adds (pairs_at b (at + 4) n))
  judged_3 x e f = rw (sym e ∙ f)

  module _ (x : Bool) (e : x ≡ valid_change (pairs_at b (at + 4) n)) (f : x ≡ true) where
    pub judged_4 : 128 ≤ c → record { answer = 4; changes = c; depth = d } ≡ judged_one c d 0 (adds (pairs_at b (at + 4) n))
    judged_4 h = rw (sym e ∙ f, le-ltb c 128 h)

    pub judged_taken : c < 128 → record { answer = 0; changes = c + 1; depth = d + 1 } ≡ judged_one c d 0 (adds (pairs_at b (at + 4) n))
    judged_taken h = rw (sym e ∙ f, lt-ltb c 128 h)

module _ (b : List ℕ) (at c d t k n : ℕ) (ek : k ≡ two b at) (en : n ≡ two b (at + 2)) where
  pub judged_change : (r : Judged) → k ≡ 1 → r ≡ judged_one c d 0 (adds (pairs_at b (at + 4) n)) → r ≡ judged_one c d t (entry_in b at)
  unfolding entry_in
  judged_change r e q = q ∙ rw (eq-eqb (two b at) 1 (sym ek ∙ e), en)

  module _ (x : k ≡ 1 → ⊥) where
    other : eqb (two b at) 1 ≡ false
    other = ne_eqb (two b at) 1 (λ z. x (ek ∙ z))

    pub judged_neither : (k ≡ 2 → ⊥) → record { answer = 16; changes = c; depth = d } ≡ judged_one c d t (entry_in b at)
    unfolding entry_in
    judged_neither y = rw (other, ne_eqb (two b at) 2 (λ z. y (ek ∙ z)))

    pub judged_undone : k ≡ 2 → (leb 1 d && eqb n t) ≡ true → record { answer = 0; changes = c; depth = d - 1 } ≡ judged_one c d t (entry_in b at)
    unfolding entry_in
    judged_undone y z = rw (other, eq-eqb (two b at) 2 (sym ek ∙ y), ← en, z)

    pub judged_16 : k ≡ 2 → (leb 1 d && eqb n t) ≡ false → record { answer = 16; changes = c; depth = d } ≡ judged_one c d t (entry_in b at)
    unfolding entry_in
    judged_16 y z = rw (other, eq-eqb (two b at) 2 (sym ek ∙ y), ← en, z)

-- ---- the places of the live changes, the newest at d
unfoldable pub places_in : List ℕ → ℕ → List ℕ
places_in a zero = []
places_in a (suc d) = get_or a (suc d) 0 ∷ places_in a d

places_same : (a : List ℕ) (d j x : ℕ) → d < j → places_in (set a j x) d ≡ places_in a d
unfolding places_in
places_same a zero j x h = refl
places_same a (suc d) j x h = ap₂ (λ (y : ℕ) (l : List ℕ). y ∷ l) (get_or-set_other a j (suc d) x 0 (λ z. omega arith)) (places_same a d j x (omega arith))

places_more : (a : List ℕ) (d x : ℕ) → d + 1 < length a → places_in (set a (d + 1) x) (d + 1) ≡ x ∷ places_in a d
unfolding places_in
places_more a d x h =
    let e : d + 1 ≡ suc d = omega arith in
    ap (places_in (set a (d + 1) x)) e
    ∙ ap₂ (λ (y : ℕ) (l : List ℕ). y ∷ l) (ap (λ (k : ℕ). get_or (set a (d + 1) x) k 0) (sym e) ∙ get_or-set_same a (d + 1) x 0 h) (places_same a d (d + 1) x (omega arith))

-- ---- the walk
entries_count : (b : List ℕ) (k n : ℕ) → length (entries_from b k n) ≡ n
unfolding entries_from
entries_count b k zero = refl
entries_count b k (suc n) = ap suc (entries_count b (suc k) n)

pub list_length : (b : List ℕ) → length (entries_of b) ≡ length b / entry_size
unfolding entries_of
list_length b = entries_count b 0 (length b / 20)

-- a list that is not too long is judged by its entries
short : (b : List ℕ) → Listed b → judged (entries_of b) ≡ judged_from 1 0 [] (entries_of b)
unfolding judged
short b p = rw (le-leb (length (entries_of b)) 256 (let z = list_length b in let q = p.0 in omega arith))

-- from the k-th entry on the verdict is that of the whole list
pub record Judging (b : List ℕ) (k n d : ℕ) (a : List ℕ) : Type 0 where
  pub size : length a ≡ 130
  pub low : d ≤ n
  pub high : n ≤ 128
  pub inside : k ≤ length b / entry_size
  pub same : judged_from (suc k) n (places_in a d) (entries_from b k (length b / entry_size - k)) ≡ judged_from 1 0 [] (entries_of b)

pub judging_none : (b a : List ℕ) → length a ≡ 130 → Judging b 0 0 0 a
unfolding places_in entries_of
judging_none b a e =
    let z : length b / 20 - 0 ≡ length b / 20 = omega arith in
    record { size = e; low = omega arith; high = omega arith; inside = omega arith; same = ap (λ (n : ℕ). judged_from 1 0 [] (entries_from b 0 n)) z }

-- one entry judged v, and the verdict w from it on: accepted, the walk goes on behind it; refused, its refusal is the verdict
record One (q d : ℕ) (a : List ℕ) (rest : List Entry) (v : Judged) (w : Verdict) : Type 0 where
  on : v.answer ≡ 0
      → (v.depth ≤ v.changes) × (v.changes ≤ 128) × (w ≡ judged_from (suc q) v.changes (places_in (set a (d + 1) q) v.depth) rest)
  stop : (v.answer ≡ 0 → ⊥) → w ≡ record { answer = v.answer; position = q }

one : (q n d : ℕ) (a : List ℕ) (e : Entry) (rest : List Entry) → length a ≡ 130 → d ≤ n → n ≤ 128
    → One q d a rest (judged_one n d (get_or a d 0) e) (judged_from q n (places_in a d) (e ∷ rest))
unfolding judged_from places_in
one q n d a (adds ps) rest s l h = go (valid_change ps) (ltb n 128) refl
  where
    go : (x y : Bool) → ltb n 128 ≡ y
        → One q d a rest
        (cond x (cond y (record { answer = 0; changes = n + 1; depth = d + 1 }) (record { answer = 4; changes = n; depth = d })) (record { answer = 3; changes = n; depth = d }))
        (bad_unless 3 q x (bad_unless 4 q y (judged_from (suc q) (suc n) (q ∷ places_in a d) rest)))
    go true true w =
        let z : n + 1 ≡ suc n = omega arith in
        let m = ltb-true n 128 w in
        record {
          on = λ _. (omega arith, omega (arith, m), ap₂ (λ (k : ℕ) (ls : List ℕ). judged_from (suc q) k ls rest) (sym z) (sym (places_more a d q (omega (arith, s, m)))));
          stop = λ f. absurd (f refl);
        }
    go true false w = record { on = λ f. absurd (omega arith); stop = λ f. refl }
    go false y w = record { on = λ f. absurd (omega arith); stop = λ f. refl }
one q n zero a (undoes p) rest s l h = record { on = λ f. absurd (omega arith); stop = λ f. refl }
one q n (suc d) a (undoes p) rest s l h = go (leb 1 (suc d)) (le-leb 1 (suc d) (omega arith)) (eqb p (get_or a (suc d) 0))
  where
    go : (x : Bool) → x ≡ true → (y : Bool)
        → One q (suc d) a rest (cond (x && y) (record { answer = 0; changes = n; depth = suc d - 1 }) (record { answer = 16; changes = n; depth = suc d }))
        (bad_unless 16 q y (judged_from (suc q) n (places_in a d) rest))
    go false x y = absurd (true≢false (sym x))
    go true x true =
        let z : suc d - 1 ≡ d = omega arith in
        record {
          on = λ _. (omega arith, omega arith, ap (λ (ls : List ℕ). judged_from (suc q) n ls rest) (sym (ap (places_in (set a (suc d + 1) q)) z ∙ places_same a d (suc d + 1) q (omega arith))));
          stop = λ f. absurd (f refl);
        }
    go true x false = record { on = λ f. absurd (omega arith); stop = λ f. refl }
one q n d a neither rest s l h = record { on = λ f. absurd (omega arith); stop = λ f. refl }

module _ (b : List ℕ) (k n d : ℕ) (a : List ℕ) (j : Judging b k n d a) where
  module _ (h : k < length b / entry_size) where
    rest : List Entry
    rest = entries_from b (suc k) (length b / entry_size - suc k)

    here : entries_from b k (length b / entry_size - k) ≡ entry_in b (entry_size * k) ∷ rest
    unfolding entries_from rest
    here = let z : length b / 20 - k ≡ suc (length b / 20 - suc k) = omega arith in ap (entries_from b k) z

    -- the code's own step
    module _ (t : ℕ) (et : t ≡ get_or a d 0) (at : ℕ) (ea : at ≡ entry_size * k) (v : Judged) (ev : v ≡ judged_one n d t (entry_in b at)) where
      is : v ≡ judged_one n d (get_or a d 0) (entry_in b (entry_size * k))
      is = ev ∙ ap₂ (λ (x y : ℕ). judged_one n d x (entry_in b y)) et ea

      it : One (suc k) d a rest (judged_one n d (get_or a d 0) (entry_in b (entry_size * k))) (judged_from (suc k) n (places_in a d) (entry_in b (entry_size * k) ∷ rest))
      it = one (suc k) n d a (entry_in b (entry_size * k)) rest j.size j.low j.high

      whole : judged_from (suc k) n (places_in a d) (entry_in b (entry_size * k) ∷ rest) ≡ judged_from 1 0 [] (entries_of b)
      whole = sym (ap (judged_from (suc k) n (places_in a d)) here) ∙ j.same

      pub judging_more : v.answer ≡ 0 → (a' : List ℕ) (q : ℕ) → q ≡ k + 1 → a' ≡ set a (d + 1) q → Judging b (k + 1) v.changes v.depth a'
      unfolding rest
      judging_more z a' q eq ea' =
          let u : k + 1 ≡ suc k = omega arith in
          let w = it.on (sym (ap (λ (x : Judged). x.answer) is) ∙ z) in
          let m : a' ≡ set a (d + 1) (suc k) = ea' ∙ ap (set a (d + 1)) (eq ∙ u) in
          subst (λ (i : ℕ). Judging b i v.changes v.depth a') (sym u)
          (rw (m, is)
          (record {
            size = length-set a (d + 1) (suc k) ∙ j.size;
            low = w.0;
            high = w.1;
            inside = omega arith;
            same = sym w.2 ∙ whole;
          }))

      pub judging_stop : Listed b → 0 < v.answer → (q : ℕ) (r : Imported) → q ≡ k + 1 → r ≡ refuses v.answer q → Judges b r
      judging_stop p z q r eq er =
          let u : q ≡ suc k = omega arith in
          let w = it.stop (λ y. let x : v.answer ≡ 0 = ap (λ (x : Judged). x.answer) is ∙ y in omega arith) in
          let o : judged (entries_of b) ≡ record { answer = v.answer; position = q }
          = short b p ∙ sym whole ∙ w ∙ ap₂ (λ (x y : ℕ). record { answer = x; position = y }) (sym (ap (λ (x : Judged). x.answer) is)) (sym u) in
          er ∙ ap (λ (x : Verdict). refuses x.answer x.position) (sym o)

  pub judging_all : Listed b → length b / entry_size ≤ k → (r : Imported) → r ≡ refuses 0 0 → Judges b r
  unfolding judged_from entries_from
  judging_all p h r er =
      let i = j.inside in
      let z : length b / 20 - k ≡ 0 = omega arith in
      let o : judged (entries_of b) ≡ record { answer = 0; position = 0 }
      = short b p ∙ sym j.same ∙ ap (λ (m : ℕ). judged_from (suc k) n (places_in a d) (entries_from b k m)) z in
      er ∙ ap (λ (x : Verdict). refuses x.answer x.position) (sym o)

-- ---- an entry's pairs, read
module _ (b : List ℕ) (at : ℕ) (p : Placed b at) (v : valid_change (pairs_at b (at + 4) (two b (at + 2))) ≡ true) where
  pub change_few : (c : ℕ) → c ≡ two b (at + 2) → c ≤ 4
  change_few c ec = let z = few_pairs b (at + 4) (two b (at + 2)) v in omega arith

  module _ (c : ℕ) (ec : c ≡ two b (at + 2)) (f e : ℕ) (ef : f ≡ at + 4) (ee : e ≡ f + 4 * c) where
    pub change_bytes : AllBytes b → valid_bytes (take (e - f) (drop f b)) ≡ true
    change_bytes y =
        change_is b at c p f e ef ee (change_few c ec) (valid_bytes (take (e - f) (drop f b))) y refl ∙ ap (λ (n : ℕ). valid_change (pairs_at b (at + 4) n)) ec ∙ v

    pub change_read : (t : Transaction) → t ≡ appended (pairs_of (take (e - f) (drop f b))) → t ≡ appended (pairs_at b (at + 4) (two b (at + 2)))
    change_read t q =
        q ∙ ap (λ (l : List ℕ). appended (pairs_of l)) (part_is b at c p f e ef ee (change_few c ec))
        ∙ ap appended (pairs_part c b (at + 4) (let z = change_few c ec in omega (arith, p.0))) ∙ ap (λ (n : ℕ). appended (pairs_at b (at + 4) n)) ec

-- ---- all of them
entry_in_holds : (b : List ℕ) (j n k : ℕ) → k < n → get_or (entries_from b j n) k neither ≡ entry_in b (entry_size * (j + k))
unfolding entries_from
entry_in_holds b j zero k h = absurd (omega arith)
entry_in_holds b j (suc n) zero h = let z : j ≡ j + 0 = omega arith in ap (λ (i : ℕ). entry_in b (20 * i)) z
entry_in_holds b j (suc n) (suc k) h = let z : suc j + k ≡ j + suc k = omega arith in entry_in_holds b (suc j) n k (omega arith) ∙ ap (λ (i : ℕ). entry_in b (20 * i)) z

pub record Made (b : List ℕ) (k : ℕ) (m : List ℕ) : Type 0 where
  pub inside : k ≤ length b / entry_size
  pub image : m ≡ lent_from (fresh_image false) (calls_up_to (entries_of b) k)

module _ (b : List ℕ) (p : Accepts b) where
  abbrev es : List Entry
  es = entries_of b

  good_list : Taken es
  good_list = taken es p.1

  pub made_none : (m : List ℕ) → m ≡ lent_from (fresh_image false) opening → Made b 0 m
  unfolding calls_up_to
  made_none m e = record { inside = omega arith; image = e }

  module _ (k : ℕ) (m : List ℕ) (w : Made b k m) where
    made_bytes : Bytes m
    made_bytes = subst Bytes (sym w.image) (fresh_lent (calls_up_to es k)).bytes

    pub made_formed : formed m ≡ true
    made_formed = ap formed w.image ∙ (fresh_lent (calls_up_to es k)).formed

    pub made_length : length m ≡ image_length
    made_length = formed_length m made_formed

    made_shows : view m ≡ (run false (calls_up_to es k)).state
    made_shows = shown_run (calls_up_to es k) m w.image

    module _ (h : k < length b / entry_size) (at : ℕ) (ea : at ≡ entry_size * k) where
      in_list : k < length es
      in_list = let z = list_length b in omega arith

      the_entry : entry_after es k ≡ entry_in b at
      unfolding entries_of
      the_entry = let z : 0 + k ≡ k = omega arith in entry_in_holds b 0 (length b / 20) k h ∙ ap (λ (i : ℕ). entry_in b (20 * i)) z ∙ ap (entry_in b) (sym ea)

      this : Good es k (entry_in b at)
      this = subst (Good es k) the_entry (good_list.good k in_list)

      -- its kind
      abbrev ps : List Pair
      ps = pairs_at b (at + 4) (two b (at + 2))

      is_change_holds : two b at ≡ 1 → entry_after es k ≡ adds ps
      unfolding entry_in
      is_change_holds e = the_entry ∙ rw (eq-eqb (two b at) 1 e)

      is_rollback : (two b at ≡ 1 → ⊥) → entry_after es k ≡ undoes (two b (at + 2))
      unfolding entry_in
      is_rollback n = the_entry ∙ go (eqb (two b at) 2) refl
        where
          x : eqb (two b at) 1 ≡ false
          x = ne_eqb (two b at) 1 n

          kind_of : Entry → ℕ
          kind_of (adds ps) = 1
          kind_of (undoes q) = 2
          kind_of neither = 0

          never : {A : Type 0} (e : Entry) → Good es k e → e ≡ neither → A
          never (adds ps) (good.change v l) z = let q : ◌≡◌ {A = ℕ} 1 0 = ap kind_of z in absurd (omega arith)
          never (undoes q) (good.rollback v) z = let q : ◌≡◌ {A = ℕ} 2 0 = ap kind_of z in absurd (omega arith)
          never neither h z = elim h [ ]

          go : (y : Bool) → eqb (two b at) 2 ≡ y → cond (eqb (two b at) 1) (adds (pairs_at b (at + 4) (two b (at + 2)))) (cond (eqb (two b at) 2) (undoes (two b (at + 2))) neither) ≡ undoes (two b (at + 2))
          go true y = rw (x, y)
          go false y = never (entry_in b at) this (rw (x, y))

      as_change : (e : two b at ≡ 1)
          → ((run false (calls_up_to es (suc k))).state ≡ changed (run false (calls_up_to es k)).state ps) × (valid_change ps ≡ true) × (last (run false (calls_up_to es k)).state.log < 128)
      as_change e = entered_change es good_list.short good_list.good k ps in_list (is_change_holds e)

      room : two b at ≡ 1 → last (view m).log < 128
      room e = let z = ap (λ (s : State). last s.log) made_shows in let q = (as_change e).2 in omega arith

      folded : (view m).log.folded.0 ≡ 0
      folded = ap (λ (s : State). s.log.folded.0) made_shows ∙ entered_fold es good_list.short good_list.good k (omega (arith, in_list))

      kept : (two b at ≡ 1 → ⊥) → ((view m).log.folded.0 < (view m).committed.head.revision.0) × ((view m).committed.head.revision.0 ≤ last (view m).log)
      kept n =
          let q = entered_rollback es good_list.short good_list.good k (two b (at + 2)) in_list (is_rollback n) in
          let z = ap (λ (s : State). last s.log) made_shows in
          let u = ap (λ (s : State). s.committed.head.revision.0) made_shows in
          let d = folded in
          let x = q.1 in
          let y = q.2 in
          (omega arith, omega arith)

      placed : Placed b at
      placed = (let z = p.0.1 in omega arith, p.0.0)

      pub made_enters : Enters m b at
      made_enters =
          let r = formed_room m made_formed in
          let n = view_last m r.0 in
          record {
            placed = placed;
            change = λ e. let q = room e in record { formed = made_formed; room = omega arith; placed = placed; valid = (as_change e).1 };
            rollback = λ x. let q = kept x in let f = view_folded m in let u = q.0 in let v = q.1 in record { formed = made_formed; kept = omega arith; last = omega arith };
          }

      -- the row is what the entry's calls leave
      abbrev cs : List Call
      cs = calls_of es (suc k) (entry_after es k)

      calls_more : lent_from m cs ≡ lent_from (fresh_image false) (calls_up_to es (suc k))
      unfolding calls_up_to
      calls_more = ap (λ (x : List ℕ). lent_from x cs) w.image ∙ lent_on (fresh_image false) (calls_up_to es k) cs

      shows_more : view (lent_from m cs) ≡ (run false (calls_up_to es (suc k))).state
      shows_more = shown_run (calls_up_to es (suc k)) (lent_from m cs) calls_more

      unfolded : (view (lent_from m cs)).log.folded.0 ≡ 0
      unfolded = ap (λ (s : State). s.log.folded.0) shows_more ∙ entered_fold es good_list.short good_list.good (suc k) in_list

      row_change : two b at ≡ 1 → written m (change_stores (view m) ps) ≡ lent_from m cs
      row_change e =
          let f = change_room m made_bytes made_formed ps (as_change e).1 folded (room e) in
          at_once m made_bytes made_formed cs (change_stores (view m) ps) f
          (view_written (change_stores (view m) ps) m made_length (formed_room m made_formed) f ∙ change_stores_holds (view m) ps ∙ ap (λ (s : State). changed s ps) made_shows ∙ sym (as_change e).0 ∙ sym shows_more)
          unfolded

      row_rollback : (two b at ≡ 1 → ⊥) → written m (undo_stores (view m)) ≡ lent_from m cs
      row_rollback x =
          let q = entered_rollback es good_list.short good_list.good k (two b (at + 2)) in_list (is_rollback x) in
          let f = undo_room m made_bytes made_formed (kept x).0 (kept x).1 in
          at_once m made_bytes made_formed cs (undo_stores (view m)) f
          (view_written (undo_stores (view m)) m made_length (formed_room m made_formed) f ∙ undo_stores_holds (view m) ∙ ap undone made_shows ∙ sym q.0 ∙ sym shows_more)
          unfolded

      pub made_more : (m' : List ℕ) → m' ≡ written m (entry_stores (view m) b at) → Made b (k + 1) m'
      made_more m' em =
          let u : suc k ≡ k + 1 = omega arith in
          subst (λ (i : ℕ). Made b i m') u (record { inside = omega arith; image = em ∙ go (eqb (two b at) 1) refl ∙ calls_more })
        where
          go : (x : Bool) → eqb (two b at) 1 ≡ x → written m (cond (eqb (two b at) 1) (change_stores (view m) ps) (undo_stores (view m))) ≡ lent_from m cs
          go true x = rw x (row_change (eqb-true (two b at) 1 x))
          go false x = rw x (row_rollback (eqb-false (two b at) 1 x))

    pub made_all : length b / entry_size ≤ k → m ≡ lent_from (fresh_image false) (import_calls es)
    made_all h =
        let i = w.inside in
        let z = list_length b in
        let e : k ≡ length es = omega arith in
        w.image ∙ ap (λ (j : ℕ). lent_from (fresh_image false) (calls_up_to es j)) e

-- ---- the code's tests and rows
module _ (l b : List ℕ) (at k : ℕ) (ek : k ≡ two b at) where
  pub made_change : k ≡ 1 → (m : List ℕ) → m ≡ written l (change_stores (view l) (pairs_at b (at + 4) (two b (at + 2)))) → m ≡ written l (entry_stores (view l) b at)
  made_change e m q = rw (eq-eqb (two b at) 1 (sym ek ∙ e)) q

  pub made_rollback : (k ≡ 1 → ⊥) → (m : List ℕ) → m ≡ written l (undo_stores (view l)) → m ≡ written l (entry_stores (view l) b at)
  made_rollback x m q = rw (ne_eqb (two b at) 1 (λ z. x (ek ∙ z))) q

-- ---- the call
module _ (b : List ℕ) (t : (leb (length b) 5120 && eqb (length b % entry_size) 0) ≡ true) where
  pub listed : Listed b
  listed = (leb-true (length b) 5120 (and_left _ _ t), eqb-true (length b % 20) 0 (and_right (leb (length b) 5120) _ t))

  pub accepts : (r : Imported) → Judges b r → r.answer ≡ 0 → Accepts b
  accepts r j z = (listed, sym (ap (λ (x : Imported). x.answer) j) ∙ z)

module _ (l b : List ℕ) where
  pub import_1 : (length l ≡ image_length → ⊥) → (r : Imported) → r ≡ refuses 1 0 → Imports l b r l
  unfolding import_in
  import_1 n r e = rw (ne_eqb (length l) image_length n) (e, refl)

  module _ (s : length l ≡ image_length) where
    pub import_2 : (leb (length b) 5120 && eqb (length b % entry_size) 0) ≡ false → (r : Imported) → r ≡ refuses 2 0 → Imports l b r l
    unfolding import_in import_of import judged
    import_2 t r e = go (eqb (length b % 20) 0) refl
      where
        go : (x : Bool) → eqb (length b % 20) 0 ≡ x → Imports l b r l
        go false x = rw (eq-eqb (length l) image_length s, x) (e, refl)
        go true x =
            let z : leb (length b) 5120 ≡ false = rest (leb (length b) 5120) (ap (λ (u : Bool). leb (length b) 5120 && u) (sym x) ∙ t) in
            let n = leb-false (length b) 5120 z in
            let m = eqb-true (length b % 20) 0 x in
            let q = list_length b in
            let o : leb (length (entries_of b)) 256 ≡ false = lt-leb (length (entries_of b)) 256 (omega arith) in
            rw (eq-eqb (length l) image_length s, x, o) (e, refl)
          where
            rest : (y : Bool) → (y && true) ≡ false → y ≡ false
            rest true e = e
            rest false e = refl

    module _ (t : (leb (length b) 5120 && eqb (length b % entry_size) 0) ≡ true) where
      module _ (r : Imported) (j : Judges b r) where
        verdict : import_in l b ≡ import (entries_of b)
        unfolding import_in import_of
        verdict = rw (eq-eqb (length l) image_length s, eq-eqb (length b % 20) 0 (listed b t).1)

        pub import_refused : (r.answer ≡ 0 → ⊥) → Imports l b r l
        unfolding import
        import_refused n =
            let z : eqb (judged (entries_of b)).answer 0 ≡ false = ne_eqb _ 0 (λ y. n (ap (λ (x : Imported). x.answer) j ∙ y)) in
            (j ∙ ap told (sym verdict), sym (ap (λ (x : Import). image_after x l) verdict ∙ rw z refl))

        pub import_taken : r.answer ≡ 0 → (m : List ℕ) → m ≡ lent_from (fresh_image false) (import_calls (entries_of b)) → Imports l b r m
        unfolding import
        import_taken y m e =
            let z : eqb (judged (entries_of b)).answer 0 ≡ true = eq-eqb _ 0 (sym (ap (λ (x : Imported). x.answer) j) ∙ y) in
            (j ∙ ap told (sym verdict), e ∙ sym (ap (λ (x : Import). image_after x l) verdict ∙ rw z refl))

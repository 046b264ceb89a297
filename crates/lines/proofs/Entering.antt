-- The bytes that an import's line leaves are read as the entries that it says: what is imported is the same, and where an entry has
-- more than four pairs or the list more than 256 entries it is refused as what the line says is. Assumes nothing.
use Prim.Native.Nat.{ℕ, zero, suc, ◌+◌, ◌*◌, ◌/◌, ◌%◌, ◌≤◌, ◌<◌}
use mathlib.Core.Path.{◌≡◌, refl, ap, ap₂, sym, subst, ◌∙◌}
use mathlib.Core.List.{List, [], ◌∷◌, ◌++◌}
use mathlib.Core.Bool.{Bool, true, false, cond}
use native.Mathlib.Omega.{arith}
use borrow.Author.Tests.{ltb-true, ltb-false, le-leb, lt-leb, eqb-true}
use lib.Dec.{eqb, ltb}
use lib.ListN.{length, get_or, length-take}
use lib.Seq.{take_all, get_or-append-add}
use Rattle.machine.specs.Calls.{Pair, valid_change}
use Rattle.machine.specs.WellFormed.{pairs_ok}
use Rattle.machine.specs.Import.{Entry, adds, undoes, neither, Verdict, bad_unless, is_newest, others, judged_from, judged, import_by, import, two, pairs_at, entry_by, entry_in, entries_from, entries_of, import_of}
use Rattle.lines.specs.Grammar.{pair, flat}
use Rattle.lines.specs.Reading.{low, high, two_bytes}
use Rattle.lines.specs.Handed.{padded, numbers_of, entry_bytes, import_bytes, Small, SmallEntry, SmallEntries}
use Rattle.lines.proofs.Rooms.{two_length, numbers_length, bytes_length}

-- ---- a number of two bytes
two_back : (n : ℕ) → n ≤ 65535 → low n + 256 * high n ≡ n
two_back n h = omega arith

-- behind a front of so many bytes
two_behind : (a b : List ℕ) (i : ℕ) → two (a ++ b) (length a + i) ≡ two b i
two_behind a b i =
    let e : length a + i + 1 ≡ length a + (i + 1) = omega arith in
    ap₂ (λ (x y : ℕ). x + 256 * y) (get_or-append-add a b i 0) (ap (λ (k : ℕ). get_or (a ++ b) k 0) e ∙ get_or-append-add a b (i + 1) 0)

pairs_behind : (a b : List ℕ) (n i : ℕ) → pairs_at (a ++ b) (length a + i) n ≡ pairs_at b i n
unfolding pairs_at
pairs_behind a b zero i = refl
pairs_behind a b (suc n) i =
    let e : length a + i + 2 ≡ length a + (i + 2) = omega arith in
    let f : length a + i + 4 ≡ length a + (i + 4) = omega arith in
    ap₂ (λ (p : Pair) (ps : List Pair). p ∷ ps)
    (ap₂ pair (two_behind a b i) (ap (two (a ++ b)) e ∙ two_behind a b (i + 2)))
    (ap (λ (k : ℕ). pairs_at (a ++ b) k n) f ∙ pairs_behind a b n (i + 4))

entry_behind : (a b : List ℕ) (i : ℕ) → entry_in (a ++ b) (length a + i) ≡ entry_in b i
unfolding entry_in
entry_behind a b i =
    let e : length a + i + 2 ≡ length a + (i + 2) = omega arith in
    let f : length a + i + 4 ≡ length a + (i + 4) = omega arith in
    ap₂ (λ (g n : ℕ). entry_by (a ++ b) (length a + i) g n) (two_behind a b i) (ap (two (a ++ b)) e ∙ two_behind a b (i + 2))
    ∙ ap (λ (ps : List Pair). cond (eqb (two b i) 1) (adds ps) (cond (eqb (two b i) 2) (undoes (two b (i + 2))) neither))
    (ap (λ (k : ℕ). pairs_at (a ++ b) k (two b (i + 2))) f ∙ pairs_behind a b (two b (i + 2)) (i + 4))

entries_from_holds : (a b : List ℕ) (k n i j : ℕ) → length a ≡ 20 * k → j ≡ k + i → entries_from (a ++ b) j n ≡ entries_from b i n
unfolding entries_from
entries_from_holds a b k zero i j e f = refl
entries_from_holds a b k (suc n) i j e f =
    let g : 20 * j ≡ length a + 20 * i = omega arith in
    ap₂ (λ (x : Entry) (xs : List Entry). x ∷ xs) (ap (entry_in (a ++ b)) g ∙ entry_behind a b (20 * i)) (entries_from_holds a b k n (suc i) (suc j) e (omega arith))

entries_behind : (a b : List ℕ) (k n : ℕ) → length a ≡ 20 * k → entries_from (a ++ b) k n ≡ entries_from b 0 n
entries_behind a b k n e = entries_from_holds a b k n 0 k e (omega arith)

-- ---- an entry and the one that is read from its bytes: the same, or both changes of more than four pairs
data Alike : Entry → Entry → Type 0 where
  same : (e : Entry) → Alike e e
  long : (ps qs : List Pair) → 4 < length ps → 4 < length qs → Alike (adds ps) (adds qs)

data AllAlike : List Entry → List Entry → Type 0 where
  none : AllAlike [] []
  next : {d e : Entry} {ds es : List Entry} → Alike d e → AllAlike ds es → AllAlike (d ∷ ds) (e ∷ es)

-- pairs that have a place are read back
pairs_read : (ps : List Pair) (g : ℕ) (b : List ℕ) → 2 * length ps ≤ g → Small ps → pairs_at (two_bytes (padded g (flat ps)) ++ b) 0 (length ps) ≡ ps
unfolding pairs_at flat two_bytes padded
pairs_read [] g b h s = refl
pairs_read (p ∷ ps) zero b h s = absurd (omega arith)
pairs_read (p ∷ ps) (suc zero) b h s = absurd (omega arith)
pairs_read (p ∷ ps) (suc (suc g)) b h s =
    ap₂ (λ (x : Pair) (xs : List Pair). x ∷ xs) (ap₂ pair (two_back p.path s.0) (two_back p.value s.1))
    (pairs_behind (low p.path ∷ high p.path ∷ low p.value ∷ high p.value ∷ []) (two_bytes (padded g (flat ps)) ++ b) (length ps) 0
    ∙ pairs_read ps g b (omega arith) s.2)

pairs_count : (b : List ℕ) (i n : ℕ) → length (pairs_at b i n) ≡ n
unfolding pairs_at
pairs_count b i zero = refl
pairs_count b i (suc n) = ap suc (pairs_count b (i + 4) n)

-- what is read from the bytes of an entry
module _ (b : List ℕ) where
  change_read : (ps : List Pair) (n : ℕ) → n ≤ 65535 → entry_in (two_bytes (1 ∷ n ∷ padded 8 (flat ps)) ++ b) 0 ≡ adds (pairs_at (two_bytes (padded 8 (flat ps)) ++ b) 0 n)
  unfolding entry_in two_bytes
  change_read ps n h =
      ap (λ (i : ℕ). adds (pairs_at (1 ∷ 0 ∷ low n ∷ high n ∷ (two_bytes (padded 8 (flat ps)) ++ b)) 4 i)) (two_back n h)
      ∙ ap adds (pairs_behind (1 ∷ 0 ∷ low n ∷ high n ∷ []) (two_bytes (padded 8 (flat ps)) ++ b) n 0)

  rollback_read : (n : ℕ) → n ≤ 65535 → entry_in (two_bytes (2 ∷ n ∷ padded 8 []) ++ b) 0 ≡ undoes n
  unfolding entry_in two_bytes
  rollback_read n h = ap undoes (two_back n h)

  entry_read : (e : Entry) → SmallEntry e → Alike (entry_in (two_bytes (numbers_of e) ++ b) 0) e
  entry_read (adds ps) s = by (ltb (length ps) 5) refl
    where
      by : (t : Bool) → ltb (length ps) 5 ≡ t → Alike (entry_in (two_bytes (1 ∷ cond t (length ps) 5 ∷ padded 8 (flat ps)) ++ b) 0) (adds ps)
      by true e =
          let h = ltb-true (length ps) 5 e in
          subst (λ (x : Entry). Alike x (adds ps)) (sym (change_read ps (length ps) (omega arith) ∙ ap adds (pairs_read ps 8 b (omega arith) s))) (same (adds ps))
      by false e =
          let h = ltb-false (length ps) 5 e in
          subst (λ (x : Entry). Alike x (adds ps)) (sym (change_read ps 5 (omega arith)))
          (long (pairs_at (two_bytes (padded 8 (flat ps)) ++ b) 0 5) ps (omega (arith, pairs_count (two_bytes (padded 8 (flat ps)) ++ b) 0 5)) h)
  entry_read (undoes n) s = subst (λ (x : Entry). Alike x (undoes n)) (sym (rollback_read n s)) (same (undoes n))
  entry_read neither s = absurd s

entry_size_holds : (e : Entry) → length (two_bytes (numbers_of e)) ≡ 20 * 1
entry_size_holds e = omega (arith, two_length (numbers_of e), numbers_length e)

all_read : (es : List Entry) → SmallEntries es → AllAlike (entries_from (entry_bytes es) 0 (length es)) es
unfolding entries_from entry_bytes
all_read [] s = none
all_read (e ∷ es) s =
    next (entry_read (entry_bytes es) e s.0)
    (subst (λ (ds : List Entry). AllAlike ds es) (sym (entries_behind (two_bytes (numbers_of e)) (entry_bytes es) 1 (length es) (entry_size_holds e))) (all_read es s.1))

-- ---- lists that are alike are judged alike
too_long : (ps : List Pair) → 4 < length ps → valid_change ps ≡ false
unfolding pairs_ok
too_long ps h = let one : 1 ≤ length ps = omega arith in simp (le-leb 1 (length ps) one, lt-leb (length ps) 4 h)

judged_alike : {ds es : List Entry} → AllAlike ds es → (q n : ℕ) (ls : List ℕ) → judged_from q n ls ds ≡ judged_from q n ls es
unfolding judged_from
judged_alike none q n ls = refl
judged_alike (next (same (adds ps)) r) q n ls =
    ap (λ (v : Verdict). bad_unless 3 q (valid_change ps) (bad_unless 4 q (ltb n 128) v)) (judged_alike r (suc q) (suc n) (q ∷ ls))
judged_alike (next (same (undoes p)) r) q n ls = ap (λ (v : Verdict). bad_unless 16 q (is_newest p ls) v) (judged_alike r (suc q) n (others ls))
judged_alike (next (same neither) r) q n ls = refl
judged_alike (next {ds = ds} {es = es} (long ps qs h g) r) q n ls =
    ap (λ (b : Bool). bad_unless 3 q b (bad_unless 4 q (ltb n 128) (judged_from (suc q) (suc n) (q ∷ ls) ds))) (too_long ps h)
    ∙ sym (ap (λ (b : Bool). bad_unless 3 q b (bad_unless 4 q (ltb n 128) (judged_from (suc q) (suc n) (q ∷ ls) es))) (too_long qs g))

-- and where they are accepted they are the same
unless_good : (a q : ℕ) (b : Bool) (v : Verdict) → 1 ≤ a → (bad_unless a q b v).answer ≡ 0 → v.answer ≡ 0
unless_good a q true v h e = e
unless_good a q false v h e = absurd (omega arith)

accepted_same : {ds es : List Entry} → AllAlike ds es → (q n : ℕ) (ls : List ℕ) → (judged_from q n ls es).answer ≡ 0 → ds ≡ es
unfolding judged_from
accepted_same none q n ls e = refl
accepted_same (next {es = es} (same (adds ps)) r) q n ls e =
    let v = judged_from (suc q) (suc n) (q ∷ ls) es in
    ap (λ (xs : List Entry). adds ps ∷ xs)
    (accepted_same r (suc q) (suc n) (q ∷ ls)
    (unless_good 4 q (ltb n 128) v (omega arith) (unless_good 3 q (valid_change ps) (bad_unless 4 q (ltb n 128) v) (omega arith) e)))
accepted_same (next {es = es} (same (undoes p)) r) q n ls e =
    ap (λ (xs : List Entry). undoes p ∷ xs)
    (accepted_same r (suc q) n (others ls) (unless_good 16 q (is_newest p ls) (judged_from (suc q) n (others ls) es) (omega arith) e))
accepted_same (next (same neither) r) q n ls e = absurd (omega arith)
accepted_same (next {es = es} (long ps qs h g) r) q n ls e =
    absurd (let z : ◌≡◌ {A = ℕ} 3 0 =
    sym (ap (λ (b : Bool). (bad_unless 3 q b (bad_unless 4 q (ltb n 128) (judged_from (suc q) (suc n) (q ∷ ls) es))).answer) (too_long qs g)) ∙ e in omega arith)

-- ---- imported alike
few_import : (es : List Entry) → length es ≤ 256 → import es ≡ import_by (judged_from 1 0 [] es) es
unfolding import judged
few_import es h = ap (λ (b : Bool). import_by (bad_unless 2 0 b (judged_from 1 0 [] es)) es) (le-leb (length es) 256 h)

many_import : (es : List Entry) → 256 < length es → import es ≡ record { answer = 2; position = 0; calls = [] }
unfolding import judged
many_import es h = ap (λ (b : Bool). import_by (bad_unless 2 0 b (judged_from 1 0 [] es)) es) (lt-leb (length es) 256 h)

import_alike : (ds es : List Entry) → AllAlike ds es → length ds ≤ 256 → length es ≤ 256 → import ds ≡ import es
import_alike ds es r h g =
    few_import ds h ∙ ap (λ (v : Verdict). import_by v ds) (judged_alike r 1 0 []) ∙ by (eqb (judged_from 1 0 [] es).answer 0) refl ∙ sym (few_import es g)
  where
    by : (b : Bool) → eqb (judged_from 1 0 [] es).answer 0 ≡ b → import_by (judged_from 1 0 [] es) ds ≡ import_by (judged_from 1 0 [] es) es
    by true e = ap (import_by (judged_from 1 0 [] es)) (accepted_same r 1 0 [] (eqb-true (judged_from 1 0 [] es).answer 0 e))
    by false e = refused ds ∙ sym (refused es)
      where
        refused : (xs : List Entry) → import_by (judged_from 1 0 [] es) xs ≡ record { answer = (judged_from 1 0 [] es).answer; position = (judged_from 1 0 [] es).position; calls = [] }
        refused xs = rw e

entries_count : (b : List ℕ) (k n : ℕ) → length (entries_from b k n) ≡ n
unfolding entries_from
entries_count b k zero = refl
entries_count b k (suc n) = ap suc (entries_count b (suc k) n)

-- the bytes of a whole number of entries
whole_import : (b : List ℕ) (n : ℕ) → length b ≡ 20 * n → import_of b ≡ import (entries_from b 0 n)
unfolding import_of entries_of
whole_import b n e =
    let z : length b % 20 ≡ 0 = omega arith in
    let d : length b / 20 ≡ n = omega arith in
    ap (λ (i : ℕ). cond (eqb i 0) (import (entries_from b 0 (length b / 20))) (record { answer = 2; position = 0; calls = [] })) z ∙ ap (λ (i : ℕ). import (entries_from b 0 i)) d

-- what is imported from the bytes is what the line says
pub imports_said : (es : List Entry) → SmallEntries es → import_of (import_bytes es) ≡ import es
imports_said es s = by (ltb 256 (length es)) refl
  where
    by : (t : Bool) → ltb 256 (length es) ≡ t → import_of (import_bytes es) ≡ import es
    by true e =
        let h = ltb-true 256 (length es) e in
        let n : length (import_bytes es) ≡ 20 * 257 = omega (arith, length-take 5140 (entry_bytes es), bytes_length es) in
        whole_import (import_bytes es) 257 n ∙ many_import (entries_from (import_bytes es) 0 257) (omega (arith, entries_count (import_bytes es) 0 257))
        ∙ sym (many_import es h)
    by false e =
        let h = ltb-false 256 (length es) e in
        let all : import_bytes es ≡ entry_bytes es = take_all 5140 (entry_bytes es) (omega (arith, bytes_length es)) in
        ap import_of all ∙ whole_import (entry_bytes es) (length es) (bytes_length es)
        ∙ import_alike (entries_from (entry_bytes es) 0 (length es)) es (all_read es s) (omega (arith, entries_count (entry_bytes es) 0 (length es))) h

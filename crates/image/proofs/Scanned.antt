-- The scan's order of tests is that of the definition. Assumes nothing.
use Prim.Native.Nat.{ℕ, zero, suc, ◌+◌, ◌-◌, ◌*◌, ◌≤◌, ◌<◌}
use mathlib.Core.Path.{◌≡◌, refl, ap, ap₂, sym, ◌∙◌}
use mathlib.Core.Bool.{Bool, true, false, ◌&&◌, ◌||◌, and-true, and-false, and_assoc}
use mathlib.Core.List.{List, [], ◌∷◌, ◌++◌}
use native.Mathlib.Nat.{add_assoc}
use native.Mathlib.Omega.{arith}
use borrow.Author.Tests.{eq-eqb, ne_eqb, lt-leb, le-leb, lt-ltb, le-ltb, eqb-true, leb-true}
use lib.Dec.{eqb, leb, ltb}
use lib.ListN.{length, take, get_or}
use lib.Seq.{take-suc, take_all}
use native.Mathlib.Numerals.{add-one}
use Rattle.kinds.specs.declared.Transaction.{Transaction}
use Rattle.fields.specs.Field.{field, fields_at, ones, twos}
use Rattle.machine.specs.State.{last, entry_of}
use Rattle.machine.specs.Stores.{of_owners}
use Rattle.machine.specs.WellFormed.{all_entries, pairs_ok, recalls_ok, all_at_most, log_ok, entry_ok, heads_ok, sizes_ok, well_formed}
use Rattle.image.specs.Layout.{slots, highest, highest_ordinal, phase_in, count_in, index_in, change_ordinal_in, rollback_ordinal_in, paths_in, owners_in, value_size, values_at, last_at, folded_at, configuration_at, target_at, running_in, remembers_in, connected_at, image_length}
use Rattle.image.specs.Records.{entry_at, last_of, folded_of, connections_of}
use Rattle.image.specs.View.{table_of, view}
use Rattle.image.specs.Formed.{all_kept, flag_ok, entry_statuses_ok, marks_ok, flags_ok, entry_formed, codes_ok, formed}
use Rattle.image.proofs.Chain.{length_table, value_loaded}
use Rattle.image.proofs.UpTo.{length_up_to, kept_same, kept_both, kept_entries, entry_up_from, and_left, and_right}

-- ---- an entry
pub entry_formed_is : (l : List ℕ) (n : ℕ) → entry_formed l n ≡ (entry_statuses_ok l n && entry_ok n (entry_at l n))
unfolding entry_formed entry_ok marks_ok entry_at fields_at
entry_formed_is l n = simp (add_assoc, and_assoc)

-- ---- the log of the view
pub view_kept : (l : List ℕ) → length (view l).log.entries ≡ last_of l - folded_of l
unfolding view
view_kept l = length_up_to (λ j. entry_at l (folded_of l + j)) (last_of l - folded_of l)

pub view_folded : (l : List ℕ) → (view l).log.folded.0 ≡ folded_of l
unfolding view
view_folded l = refl

pub view_last : (l : List ℕ) → folded_of l ≤ last_of l → last (view l).log ≡ last_of l
view_last l h = omega (arith, view_kept l, view_folded l)

-- a number kept has the entry at its slot
pub view_entry : (l : List ℕ) (i : ℕ) → folded_of l < i → i ≤ last_of l → entry_of (view l).log i ≡ entry_at l i
unfolding view
view_entry l i p q = entry_up_from (entry_at l) (folded_of l) (last_of l) i p q

sizes : (l : List ℕ) → sizes_ok (view l) ≡ true
unfolding view table_of connections_of fields_at
sizes l = refl

pub view_all : (p : ℕ → Transaction → Bool) (l : List ℕ) → all_entries p (view l).log ≡ all_kept (λ k. p k (entry_at l k)) (folded_of l) (last_of l)
unfolding view
view_all p l = kept_entries p (entry_at l) (folded_of l) (last_of l)

-- ---- the whole
reorder : (c f n h e : Bool) → ((c && f) && (n && (h && (e && true)))) ≡ (n && ((h && f) && (c && e)))
reorder true true true h e = ap (λ (x : Bool). h && x) (and-true e) ∙ ap (λ (x : Bool). x && e) (sym (and-true h))
reorder true true false h e = refl
reorder true false n h e = sym (ap (λ (x : Bool). n && (x && e)) (and-false h) ∙ and-false n)
reorder false f n h e = sym (ap (λ (x : Bool). n && x) (and-false (h && f)) ∙ and-false n)

-- at most as many kept as the ring has, none numbered past the highest
abbrev pub ring_ok : ℕ → ℕ → Bool
ring_ok b n = leb (n - b) slots && leb n highest

-- in the scan's order: the length, the last fold and the highest number, the heads and flags, the entries kept
pub scanned : List ℕ → Bool
scanned l =
    eqb (length l) image_length
    && (leb (folded_of l) (last_of l)
    && (ring_ok (folded_of l) (last_of l) && ((heads_ok (view l) (last_of l) && flags_ok l) && all_kept (entry_formed l) (folded_of l) (last_of l))))

-- of the entries kept: their codes, and what the state asks of them
abbrev kepts : List ℕ → Bool
kepts l = all_kept (entry_statuses_ok l) (folded_of l) (last_of l)

abbrev states : List ℕ → Bool
states l = all_entries entry_ok (view l).log

pub formed_scanned : (l : List ℕ) → formed l ≡ scanned l
unfolding formed well_formed scanned
formed_scanned l = ap (λ (x : Bool). eqb (length l) image_length && x) (go (leb (folded_of l) (last_of l)) refl)
  where
    a : all_kept (entry_formed l) (folded_of l) (last_of l) ≡ (kepts l && states l)
    a =
        kept_same (entry_formed l) (λ k. entry_statuses_ok l k && entry_ok k (entry_at l k)) (folded_of l) (last_of l) (λ k p q. entry_formed_is l k)
        ∙ kept_both (entry_statuses_ok l) (λ k. entry_ok k (entry_at l k)) (folded_of l) (last_of l)
        ∙ ap (λ (x : Bool). kepts l && x) (sym (view_all entry_ok l))

    go : (x : Bool) → leb (folded_of l) (last_of l) ≡ x
        → ((x && (kepts l && flags_ok l)) && well_formed (view l))
        ≡ (x && (ring_ok (folded_of l) (last_of l) && ((heads_ok (view l) (last_of l) && flags_ok l) && all_kept (entry_formed l) (folded_of l) (last_of l))))
    go false e = refl
    go true e =
        let n : last (view l).log ≡ last_of l = view_last l (leb-true _ _ e) in
        ap₂ (λ (k : ℕ) (x : Bool). (kepts l && flags_ok l) && ((leb (length (view l).log.entries) slots && leb k highest) && (heads_ok (view l) k && (states l && x)))) n (sizes l)
        ∙ ap (λ (k : ℕ). (kepts l && flags_ok l) && ((leb k slots && leb (last_of l) highest) && (heads_ok (view l) (last_of l) && (states l && true)))) (view_kept l)
        ∙ reorder (kepts l) (flags_ok l) (ring_ok (folded_of l) (last_of l)) (heads_ok (view l) (last_of l)) (states l)
        ∙ ap (λ (x : Bool). ring_ok (folded_of l) (last_of l) && ((heads_ok (view l) (last_of l) && flags_ok l) && x)) (sym a)

-- ---- the scan's answers
pub wrong_length : (l : List ℕ) → (length l ≡ image_length → ⊥) → false ≡ formed l
unfolding scanned
wrong_length l h = sym (formed_scanned l ∙ rw (ne_eqb _ _ h))

module _ (l : List ℕ) (n b : ℕ) (z : length l ≡ image_length) (e : n ≡ field l last_at 2) (f : b ≡ field l folded_at 2) where
  pub past_last : n < b → false ≡ formed l
  unfolding scanned last_of folded_of
  past_last h = sym (formed_scanned l ∙ rw (eq-eqb _ _ z, ← e, ← f, lt-leb b n h))

  pub too_many : b ≤ n → slots < n - b → false ≡ formed l
  unfolding scanned last_of folded_of
  too_many g h = sym (formed_scanned l ∙ rw (eq-eqb _ _ z, ← e, ← f, le-leb b n g, lt-leb (n - b) slots h))

  module _ (x y : Bool) (g : b ≤ n) (k : n - b ≤ slots) (r : n ≤ highest) (p : x ≡ heads_ok (view l) n) (q : y ≡ flags_ok l) where
    pub wrong_heads : (x && y) ≡ false → false ≡ formed l
    unfolding scanned last_of folded_of
    wrong_heads t = sym (formed_scanned l ∙ rw (eq-eqb _ _ z, ← e, ← f, le-leb b n g, le-leb (n - b) slots k, le-leb n highest r, ← p, ← q, t))

    pub by_entries : (w : Bool) → (x && y) ≡ true → w ≡ all_kept (entry_formed l) b n → w ≡ formed l
    unfolding scanned last_of folded_of
    by_entries w t u = u ∙ sym (formed_scanned l ∙ rw (eq-eqb _ _ z, ← e, ← f, le-leb b n g, le-leb (n - b) slots k, le-leb n highest r, ← p, ← q, t))

-- ---- what a formed image has
-- the last fold b and the highest number n: at most as many kept as the ring has, none numbered past the highest
abbrev pub Room : ℕ → ℕ → Type 0
Room b n = (b ≤ n) × ((n ≤ b + slots) × (n ≤ highest))

module _ (l : List ℕ) (h : formed l ≡ true) where
  pub formed_length : length l ≡ image_length
  unfolding formed
  formed_length = eqb-true (length l) image_length (and_left _ _ h)

  pub formed_size : image_length ≤ length l
  formed_size = omega (arith, formed_length)

  pub formed_codes : codes_ok l ≡ true
  unfolding formed
  formed_codes = and_left _ _ (and_right (eqb (length l) image_length) _ h)

  pub formed_state : well_formed (view l) ≡ true
  unfolding formed
  formed_state = and_right (codes_ok l) _ (and_right (eqb (length l) image_length) _ h)

  pub formed_room : Room (folded_of l) (last_of l)
  unfolding well_formed
  formed_room =
      let p : folded_of l ≤ last_of l = leb-true _ _ (and_left _ _ formed_codes) in
      let w = and_left (log_ok (view l).log) _ formed_state in
      let a = leb-true (length (view l).log.entries) slots (and_left _ _ w) in
      let b = leb-true (last (view l).log) highest (and_right (leb (length (view l).log.entries) slots) _ w) in
      (p, (omega (arith, view_kept l), omega (arith, view_last l p)))

-- ---- an entry's pairs, as the scan reads them
-- the two paths at a place rise, and stay below 32
abbrev pub Rise : List ℕ → ℕ → Bool
Rise l at = ltb (field l at 1) (field l (at + 1) 1) && ltb (field l (at + 1) 1) 32

abbrev pub Pairs : List ℕ → ℕ → Bool
Pairs l at = pairs_ok (field l (at + count_in) 1) (fields_at l (at + paths_in) ones)

pairs_are : (l : List ℕ) (at n a : ℕ) → n ≡ field l (at + count_in) 1 → a ≡ field l (at + paths_in) 1
    → Pairs l at ≡ ((leb 1 n && leb n 4) && (ltb a 32 && ((ltb n 2 || Rise l (at + paths_in)) && ((ltb n 3 || Rise l (at + (paths_in + 1))) && (ltb n 4 || Rise l (at + (paths_in + 2)))))))
unfolding pairs_ok fields_at
pairs_are l at n a p q =
    let x : at + paths_in + 1 ≡ at + (paths_in + 1) = omega arith in
    let y : at + (paths_in + 1) + 1 ≡ at + (paths_in + 2) = omega arith in
    let z : at + (paths_in + 2) + 1 ≡ at + (paths_in + 3) = omega arith in
    rw (p, q, x, y, z)

module _ (l : List ℕ) (at n : ℕ) (p : n ≡ field l (at + count_in) 1) where
  pub no_pairs : n < 1 → false ≡ Pairs l at
  no_pairs h = sym (pairs_are l at n _ p refl ∙ rw (lt-leb _ _ h))

  pub many_pairs : 1 ≤ n → 4 < n → false ≡ Pairs l at
  many_pairs h k = sym (pairs_are l at n _ p refl ∙ rw (le-leb _ _ h, lt-leb _ _ k))

  module _ (a : ℕ) (q : a ≡ field l (at + paths_in) 1) (h : 1 ≤ n) (k : n ≤ 4) where
    pub past_paths : 32 ≤ a → false ≡ Pairs l at
    past_paths r = sym (pairs_are l at n a p q ∙ rw (le-leb 1 n h, le-leb n 4 k, le-ltb a 32 r))

    module _ (r : a < 32) where
      pub one_pair : n < 2 → true ≡ Pairs l at
      one_pair s =
          let x : n < 3 = omega arith in
          let y : n < 4 = omega arith in
          sym (pairs_are l at n a p q ∙ rw (le-leb 1 n h, le-leb n 4 k, lt-ltb a 32 r, lt-ltb n 2 s, lt-ltb n 3 x, lt-ltb n 4 y))

      module _ (s : 2 ≤ n) (b : Bool) (e : b ≡ Rise l (at + paths_in)) where
        pub fall_two : b ≡ false → false ≡ Pairs l at
        fall_two f = sym (pairs_are l at n a p q ∙ rw (le-leb 1 n h, le-leb n 4 k, lt-ltb a 32 r, le-ltb n 2 s, ← e, f))

        module _ (f : b ≡ true) where
          pub two_pairs : n < 3 → true ≡ Pairs l at
          two_pairs x =
              let y : n < 4 = omega arith in
              sym (pairs_are l at n a p q ∙ rw (le-leb 1 n h, le-leb n 4 k, lt-ltb a 32 r, le-ltb n 2 s, ← e, f, lt-ltb n 3 x, lt-ltb n 4 y))

          module _ (x : 3 ≤ n) (d : Bool) (g : d ≡ Rise l (at + (paths_in + 1))) where
            pub fall_three : d ≡ false → false ≡ Pairs l at
            fall_three w = sym (pairs_are l at n a p q ∙ rw (le-leb 1 n h, le-leb n 4 k, lt-ltb a 32 r, le-ltb n 2 s, ← e, f, le-ltb n 3 x, ← g, w))

            pub three_pairs : d ≡ true → n < 4 → true ≡ Pairs l at
            three_pairs w y =
                sym (pairs_are l at n a p q ∙ rw (le-leb 1 n h, le-leb n 4 k, lt-ltb a 32 r, le-ltb n 2 s, ← e, f, le-ltb n 3 x, ← g, w, lt-ltb n 4 y))

            pub four_pairs : d ≡ true → 4 ≤ n → (c : Bool) → c ≡ Rise l (at + (paths_in + 2)) → c ≡ Pairs l at
            four_pairs w y c v =
                v ∙ sym (pairs_are l at n a p q ∙ rw (le-leb 1 n h, le-leb n 4 k, lt-ltb a 32 r, le-ltb n 2 s, ← e, f, le-ltb n 3 x, ← g, w, le-ltb n 4 y))

-- ---- the last test of the marks
pub last_mark : (l : List ℕ) (at n a b d e : ℕ) (w : Bool) → a ≡ field l (at + phase_in) 1 → b ≡ field l (at + index_in) 2 → d ≡ field l (at + change_ordinal_in) 4 → e ≡ field l (at + rollback_ordinal_in) 4
    → w ≡ recalls_ok n (fields_at l (at + owners_in) twos) → 1 ≤ a → a ≤ 2 → b < n → w ≡ true → d ≤ highest_ordinal → leb e highest_ordinal ≡ marks_ok l at n
unfolding marks_ok
last_mark l at n a b d e w p q r s t x y z u v = rw (← p, ← q, ← r, ← s, ← t, le-leb 1 a x, le-leb a 2 y, lt-ltb b n z, u, le-leb d highest_ordinal v)

-- ---- the owners, each at most n: one more of them, and all
most_append : (n : ℕ) (l : List ℕ) (x : ℕ) → all_at_most n (l ++ (x ∷ [])) ≡ (all_at_most n l && leb x n)
unfolding all_at_most
most_append n [] x = and-true (leb x n)
most_append n (y ∷ l) x = ap (λ (b : Bool). leb y n && b) (most_append n l x) ∙ sym (and_assoc (leb y n) (all_at_most n l) (leb x n))

module _ (l : List ℕ) (n : ℕ) where
  -- of the first k
  abbrev pub most_of : ℕ → Bool
  most_of k = all_at_most n (take k (table_of l of_owners))

  pub most_more : (k x : ℕ) (b : Bool) → k < 32 → x ≡ field l (values_at of_owners + value_size * k) 2 → b ≡ most_of k → (b && leb x n) ≡ most_of (k + 1)
  unfolding table_of
  most_more k x b h e q =
      let vs : List ℕ = table_of l of_owners in
      let t : take (k + 1) vs ≡ take k vs ++ (get_or vs k 0 ∷ []) = ap (λ (j : ℕ). take j vs) (add-one k) ∙ take-suc vs k 0 (omega (arith, length_table l of_owners)) in
      ap₂ (λ (c : Bool) (y : ℕ). c && leb y n) q (value_loaded l (values_at of_owners) k k x refl h e) ∙ sym (ap (all_at_most n) t ∙ most_append n (take k vs) (get_or vs k 0))

  pub most_all : (k : ℕ) (b : Bool) → 32 ≤ k → b ≡ most_of k → b ≡ all_at_most n (table_of l of_owners)
  most_all k b h q = q ∙ ap (all_at_most n) (take_all k (table_of l of_owners) (omega (arith, length_table l of_owners)))

-- ---- the flags, one node after another
module _ (l : List ℕ) where
  abbrev pub flags_first : ℕ → Bool
  flags_first zero = flag_ok l (target_at + running_in) && flag_ok l (target_at + remembers_in)
  flags_first (suc k) = flags_first k && flag_ok l (connected_at k)

  pub flags_none : (x y : ℕ) → x ≡ field l (target_at + running_in) 1 → y ≡ field l (target_at + remembers_in) 1 → (leb x 1 && leb y 1) ≡ flags_first 0
  flags_none x y p q = ap₂ (λ (a b : ℕ). leb a 1 && leb b 1) p q

  pub flag_more : (k x : ℕ) (b : Bool) → x ≡ field l (connected_at k) 1 → b ≡ flags_first k → (b && leb x 1) ≡ flags_first (k + 1)
  flag_more k x b e q = ap₂ (λ (c : Bool) (y : ℕ). c && leb y 1) q e ∙ sym (ap flags_first (add-one k))

  pub flags_all : (k x : ℕ) (b : Bool) → x ≡ field l configuration_at 1 → k ≡ 8 → b ≡ flags_first k → ((leb 1 x && leb x 3) && b) ≡ flags_ok l
  unfolding flags_ok
  flags_all k x b e h q =
      let q' : b ≡ flags_first 8 = rw h at q in
      ap₂ (λ (y : ℕ) (c : Bool). (leb 1 y && leb y 3) && c) e q' ∙ simp and_assoc

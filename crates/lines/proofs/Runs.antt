-- A whole line run through the reader: the tag where it ends, and what it told. Assumes nothing.
use Prim.Native.Nat.{ℕ, ◌+◌, ◌-◌, ◌≤◌, ◌<◌}
use mathlib.Core.Path.{◌≡◌, refl, ap, sym, subst, ◌∙◌}
use mathlib.Core.Logic.{◌⊎◌, inl, inr}
use mathlib.Core.List.{List, [], ◌∷◌, ◌++◌, foldl, append-nil}
use mathlib.Core.Bool.{Bool, true, false}
use native.Mathlib.Omega.{arith}
use borrow.Author.Tests.{eq-eqb, ne_eqb}
use Rattle.lines.specs.declared.reading.Reader.{Reader}
use Rattle.lines.specs.Grammar.{Item}
use Rattle.lines.specs.Reading.{size, letter_at, is_mark, is_tag, like, goes, left, seek, may_end, past, pushed, pushed_in, stepped, tag_of, tag_before}
use Rattle.lines.proofs.Classes.{differ, and_left, and_right, and_both, mark_no_tag, tag_some}
use Rattle.lines.proofs.Places.{within, like_next, like_trans, like_sym, Found, Missing, sought}
use Rattle.lines.proofs.Table.{same_column, lone_mark, lone_tag, no_mark_behind}
use Rattle.lines.proofs.Goes.{tells, tells_none, Goes, done, leave, begin, grow, digit, part, spell, Acc, AccR, mark_there, leave_back, st, adds, push_on, push_back}

-- ---- the line's end
end_at : (p q t : ℕ) → p ≤ q → like p q ≡ true → is_tag t ≡ true → letter_at q ≡ t → tag_before (seek p 10) ≡ t
end_at p q t h e g i = by (sought (left p) p 10 p)
  where
    in_table : q < size
    in_table = within q (subst (λ (c : ℕ). 1 ≤ c) (sym i) (tag_some t g))

    take : goes p 10 q ≡ true
    take = and_both (like p q) (is_tag (letter_at q)) e (ap is_tag i ∙ g)

    by : Missing p 10 p (left p) (seek p 10) ⊎ Found p 10 p (seek p 10) → tag_before (seek p 10) ≡ t
    by (inl x) = absurd (x.never q (same_column p q e) h (omega (arith, in_table)) take)
    by (inr x) =
        let l = and_left (like p x.place) (is_tag (letter_at x.place)) x.takes in
        let g' = and_right (like p x.place) (is_tag (letter_at x.place)) x.takes in
        ap tag_before x.is ∙ before x.place ∙ sym (lone_tag x.place q g' in_table (like_trans x.place p q (like_sym p x.place l) e)) ∙ i
      where
        before : (n : ℕ) → tag_before (n + 1) ≡ letter_at n
        before n =
            let z : n + 1 ≡ 0 → ⊥ = λ j. omega arith in
            let y : n + 1 - 1 ≡ n = omega arith in
            rw (ne_eqb (n + 1) 0 z, y)

pub record Ended (r : Reader) (ns : List Item) (t : ℕ) : Type 0 where
  pub tag : tag_of r ≡ t
  pub is : ns ≡ tells (letter_at r.at) 0 r.sub r.value

pub end_on : (p s v k m : ℕ) (ns : List Item) (t : ℕ) → Acc p s v [] ns t → Ended (st p s v k m) ns t
end_on p s v k m ns t a = by a.place a.above a.same a.then
  where
    no_mark : (q : ℕ) → like p q ≡ true → is_tag t ≡ true → letter_at q ≡ t → is_mark (letter_at p) ≡ false
    no_mark q e g i = split (is_mark (letter_at p)) refl
      where
        split : (x : Bool) → is_mark (letter_at p) ≡ x → is_mark (letter_at p) ≡ false
        split false j = j
        split true j =
            absurd (mark_no_tag (letter_at p) j
            (ap is_tag (sym (lone_mark p q j (within q (subst (λ (c : ℕ). 1 ≤ c) (sym i) (tag_some t g))) e) ∙ i) ∙ g))

    behind : (q : ℕ) (n' : List Item) → p ≤ q → like p q ≡ true → is_mark (letter_at q) ≡ true → may_end (letter_at q) s ≡ true → ns ≡ tells (letter_at q) 0 s v ++ n' → (l : List ℕ)
        → l ≡ [] → Goes (q + 1) 0 v l n' t → Ended (st p s v k m) ns t
    behind q n' h e c f i l o (done z g j) =
        let c-is = mark_there p q h e c in
        let at : past (letter_at p) s p ≡ p + 1 = rw (c-is, c, f) in
        record {
          tag = ap (λ (x : ℕ). tag_before (seek x 10)) at ∙ end_at (p + 1) (q + 1) t (omega arith) (like_next p q e c-is) g j;
          is = i ∙ append-nil (tells (letter_at q) 0 s v) ∙ ap (λ (c : ℕ). tells c 0 s v) (sym c-is);
        }
    behind q n' h e c f i l o (spell z w j g) = absurd (let u : ◌≡◌ {A = ℕ} 0 1 = cc in omega arith)
    behind q n' h e c f i l o (begin y d n g) = absurd (let u : ◌≡◌ {A = ℕ} 0 1 = cc in omega arith)
    behind q n' h e c f i l o (grow y d n z g) = absurd (let u : ◌≡◌ {A = ℕ} 0 1 = cc in omega arith)
    behind q n' h e c f i l o (digit x y d j g) = absurd (let u : ◌≡◌ {A = ℕ} 0 1 = cc in omega arith)
    behind q n' h e c f i l o (part n z d y j g) = absurd (let u : ◌≡◌ {A = ℕ} 0 1 = cc in omega arith)
    behind q n' h e c f i l o (leave x y z j g) = differ (sym y ∙ no_mark_behind q c)

    by : (q : ℕ) → p ≤ q → like p q ≡ true → Goes q s v [] ns t → Ended (st p s v k m) ns t
    by q h e x = inner q h e [] refl ns refl x
      where
        inner : (q : ℕ) → p ≤ q → like p q ≡ true → (l : List ℕ) → l ≡ [] → (n' : List Item) → n' ≡ ns → Goes q s v l n' t → Ended (st p s v k m) ns t
        inner q h e l o n' u (done z g j) =
            let at : past (letter_at p) s p ≡ p = rw (no_mark q e g j, eq-eqb s 0 z) in
            record { tag = ap (λ (x : ℕ). tag_before (seek x 10)) at ∙ end_at p q t h e g j; is = sym u ∙ sym (tells_none (letter_at p) v) ∙ ap (λ (x : ℕ). tells (letter_at p) 0 x v) (sym z) }
        inner q h e l o n' u (spell z w j g) = absurd (let w : ◌≡◌ {A = ℕ} 0 1 = cc in omega arith)
        inner q h e l o n' u (begin y d n g) = absurd (let w : ◌≡◌ {A = ℕ} 0 1 = cc in omega arith)
        inner q h e l o n' u (grow y d n z g) = absurd (let w : ◌≡◌ {A = ℕ} 0 1 = cc in omega arith)
        inner q h e l o n' u (digit x y d j g) = absurd (let w : ◌≡◌ {A = ℕ} 0 1 = cc in omega arith)
        inner q h e l o n' u (part n z d y j g) = absurd (let w : ◌≡◌ {A = ℕ} 0 1 = cc in omega arith)
        inner q h e l o n' u (leave n'' c f i g) = behind q n'' h e c f (sym u ∙ i) l o g

pub end_back : (p s v k m : ℕ) → (tag_of (st p s v k m) ≡ 0 → ⊥) → Acc p s v [] (tells (letter_at p) 0 s v) (tag_of (st p s v k m)) × (is_tag (tag_of (st p s v k m)) ≡ true)
end_back p s v k m n = by (sought (left p') p' 10 p')
  where
    p' : ℕ
    p' = past (letter_at p) s p

    by : Missing p' 10 p' (left p') (seek p' 10) ⊎ Found p' 10 p' (seek p' 10) → Acc p s v [] (tells (letter_at p) 0 s v) (tag_before (seek p' 10)) ×
        (is_tag (tag_before (seek p' 10)) ≡ true)
    by (inl x) = absurd (n (ap tag_before x.is))
    by (inr x) =
        let l = and_left (like p' x.place) (is_tag (letter_at x.place)) x.takes in
        let g = and_right (like p' x.place) (is_tag (letter_at x.place)) x.takes in
        let a : Acc p' 0 v [] [] (letter_at x.place) = record { place = x.place; above = x.above; same = l; then = done refl g refl } in
        let e : tag_before (seek p' 10) ≡ letter_at x.place = end_at p' x.place (letter_at x.place) x.above l g refl in (
          subst (λ (t : ℕ). Acc p s v [] (tells (letter_at p) 0 s v) t) (sym e)
              (subst (λ (z : List Item). Acc p s v [] z (letter_at x.place)) (append-nil (tells (letter_at p) 0 s v)) (leave_back p s v (letter_at x.place) [] [] a)),
          ap is_tag e ∙ g,
        )

-- ---- a whole line
unfoldable pub told : Reader → List ℕ → List Item
told r [] = tells (letter_at r.at) 0 r.sub r.value
told r (b ∷ l) = adds r b ++ told (pushed r b) l

pub record Told (r : Reader) (l : List ℕ) (ns : List Item) (t : ℕ) : Type 0 where
  pub tag : tag_of (foldl pushed r l) ≡ t
  pub is : ns ≡ told r l

pub run_on : (l : List ℕ) (r : Reader) (ns : List Item) (t : ℕ) → AccR r l ns t → Told r l ns t
unfolding told
run_on [] r ns t a = let x = end_on r.at r.sub r.value r.used r.count ns t a in record { tag = x.tag; is = x.is }
run_on (b ∷ l) r ns t a =
    let x = push_on r.at r.sub r.value r.used r.count b t l ns a in
    let y = run_on l (pushed r b) x.rest t x.acc in
    record { tag = y.tag; is = x.is ∙ ap (λ (z : List Item). adds r b ++ z) y.is }

pub run_back : (l : List ℕ) (r : Reader) → (tag_of (foldl pushed r l) ≡ 0 → ⊥) → AccR r l (told r l) (tag_of (foldl pushed r l))
unfolding told
run_back [] r n = (end_back r.at r.sub r.value r.used r.count n).0
run_back (b ∷ l) r n =
    push_back r.at r.sub r.value r.used r.count b (tag_of (foldl pushed (pushed r b) l)) l (told (pushed r b) l) (run_back l (pushed r b) n)

-- the reader goes its way whatever is in the room
pub ran_reader : (l : List ℕ) (r : Reader) (m : List ℕ) → (foldl stepped (r, m) l).0 ≡ foldl pushed r l
ran_reader [] r m = refl
ran_reader (b ∷ l) r m = ran_reader l (pushed r b) (pushed_in r b m)

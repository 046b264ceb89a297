-- A number is that of the part of the bytes that it lies in, and as the library splits it into bytes. Assumes nothing.
use Prim.Native.Nat.{ℕ, zero, suc, ◌+◌, ◌-◌, ◌*◌, ◌/◌, ◌%◌, ◌≤◌, ◌<◌}
use mathlib.Core.Path.{◌≡◌, refl, ap, ap₂, sym, ◌∙◌}
use mathlib.Core.Bool.{Bool, true, false}
use mathlib.Core.Logic.{inl, inr}
use mathlib.Core.List.{List, [], ◌∷◌, ◌++◌}
use native.Mathlib.Omega.{arith}
use lib.Dec.{ltb}
use lib.ListN.{length, get_or, set, take, drop, length-append, length-take, length-drop, length-set}
use lib.Seq.{get_or-drop, get_or-take, get_or-set_same, ext_get_or}
use Rattle.std.proofs.lemmas.List.{get_or_append_left, get_or-append-add}
use borrow.Author.Tests.{ltb-true, ltb-false}
use borrow.Rule.Slice.PartMut.{put_mid}
use Rattle.fields.specs.Field.{field, put_field, fields_at, put_fields, quad, four}
use Rattle.fields.specs.Promises.{Gets, Puts, PutsFour}
use Rattle.fields.proofs.Laws.{length_put, put_outside}

-- ---- read in the part
field_part : (w : ℕ) (l : List ℕ) (at n k : ℕ) → k + w ≤ n → field (take n (drop at l)) k w ≡ field l (at + k) w
unfolding field
field_part zero l at n k h = refl
field_part (suc w) l at n k h =
    let z : at + (k + 1) ≡ at + k + 1 = omega arith in
    ap₂ (λ (x y : ℕ). x + 256 * y)
    (get_or-take n (drop at l) k 0 (omega arith) ∙ get_or-drop at l k 0)
    (field_part w l at n (k + 1) (omega arith) ∙ ap (λ (j : ℕ). field l j w) z)

pub read_in_part : (w : ℕ) (l : List ℕ) (at : ℕ) → field (take (at + w - at) (drop at l)) 0 w ≡ field l at w
read_in_part w l at =
    let z : at + 0 ≡ at = omega arith in
    field_part w l at (at + w - at) 0 (omega arith) ∙ ap (λ (j : ℕ). field l j w) z

-- ---- put in the part: byte i of a number
byte : ℕ → ℕ → ℕ
byte zero x = x % 256
byte (suc i) x = byte i (x / 256)

put_byte : (w : ℕ) (l : List ℕ) (at x i : ℕ) → i < w → at + w ≤ length l → get_or (put_field l at w x) (at + i) 0 ≡ byte i x
unfolding put_field byte
put_byte zero l at x i h k = absurd (omega arith)
put_byte (suc w) l at x zero h k =
    let l' : List ℕ = set l at (x % 256) in
    let z : at + 0 ≡ at = omega arith in
    ap (λ (j : ℕ). get_or (put_field l' (at + 1) w (x / 256)) j 0) z
    ∙ put_outside w l' (at + 1) (x / 256) at (inl (omega arith)) ∙ get_or-set_same l at (x % 256) 0 (omega arith)
put_byte (suc w) l at x (suc i) h k =
    let l' : List ℕ = set l at (x % 256) in
    let z : at + suc i ≡ at + 1 + i = omega arith in
    ap (λ (j : ℕ). get_or (put_field l' (at + 1) w (x / 256)) j 0) z
    ∙ put_byte w l' (at + 1) (x / 256) i (omega arith) (omega (arith, length-set l at (x % 256)))

-- the part with the number put there, and the bytes with that part
abbrev pub part : ℕ → List ℕ → ℕ → ℕ → List ℕ
part w l at x = put_field (take w (drop at l)) 0 w x

abbrev whole : ℕ → List ℕ → ℕ → ℕ → List ℕ
whole w l at x = take at l ++ (part w l at x ++ drop w (drop at l))

module _ (w : ℕ) (l : List ℕ) (at x : ℕ) (k : at + w ≤ length l) where
  length_head : length (take at l) ≡ at
  length_head = omega (arith, length-take at l)

  length_part : length (part w l at x) ≡ w
  length_part = length_put w (take w (drop at l)) 0 x ∙ omega (arith, length-take w (drop at l), length-drop at l)

  length_whole : length (whole w l at x) ≡ length l
  length_whole =
      length-append (take at l) (part w l at x ++ drop w (drop at l))
      ∙ omega (arith, length-append (part w l at x) (drop w (drop at l)), length_part, length_head, length-drop w (drop at l), length-drop at l)

  before : (j : ℕ) → j < at → get_or (whole w l at x) j 0 ≡ get_or (put_field l at w x) j 0
  before j h =
      get_or_append_left (take at l) (part w l at x ++ drop w (drop at l)) 0 j (omega (arith, length_head))
      ∙ get_or-take at l j 0 h ∙ sym (put_outside w l at x j (inl h))

  within : (i : ℕ) → i < w → get_or (whole w l at x) (at + i) 0 ≡ get_or (put_field l at w x) (at + i) 0
  within i h =
      let z : at + i ≡ length (take at l) + i = omega (arith, length_head) in
      let y : i ≡ 0 + i = omega arith in
      ap (λ (j : ℕ). get_or (whole w l at x) j 0) z
      ∙ get_or-append-add (take at l) (part w l at x ++ drop w (drop at l)) i 0
      ∙ get_or_append_left (part w l at x) (drop w (drop at l)) 0 i (omega (arith, length_part))
      ∙ ap (λ (j : ℕ). get_or (part w l at x) j 0) y
      ∙ put_byte w (take w (drop at l)) 0 x i h (omega (arith, length-take w (drop at l), length-drop at l))
      ∙ sym (put_byte w l at x i h k)

  behind : (i : ℕ) → get_or (whole w l at x) (at + w + i) 0 ≡ get_or (put_field l at w x) (at + w + i) 0
  behind i =
      let z : at + w + i ≡ length (take at l) + (w + i) = omega (arith, length_head) in
      let y : w + i ≡ length (part w l at x) + i = omega (arith, length_part) in
      let v : at + (w + i) ≡ at + w + i = omega arith in
      ap (λ (j : ℕ). get_or (whole w l at x) j 0) z
      ∙ get_or-append-add (take at l) (part w l at x ++ drop w (drop at l)) (w + i) 0
      ∙ ap (λ (j : ℕ). get_or (part w l at x ++ drop w (drop at l)) j 0) y
      ∙ get_or-append-add (part w l at x) (drop w (drop at l)) i 0
      ∙ get_or-drop w (drop at l) i 0
      ∙ get_or-drop at l (w + i) 0
      ∙ ap (λ (j : ℕ). get_or l j 0) v
      ∙ sym (put_outside w l at x (at + w + i) (inr (omega arith)))

  same : (j : ℕ) → get_or (whole w l at x) j 0 ≡ get_or (put_field l at w x) j 0
  same j = go (ltb j at) refl (ltb j (at + w)) refl
    where
      go : (a : Bool) → ltb j at ≡ a → (b : Bool) → ltb j (at + w) ≡ b → get_or (whole w l at x) j 0 ≡ get_or (put_field l at w x) j 0
      go true e b f = before j (ltb-true j at e)
      go false e true f =
          let z : at + (j - at) ≡ j = omega (arith, ltb-false j at e) in
          rw z at (within (j - at) (omega (arith, ltb-false j at e, ltb-true j (at + w) f)))
      go false e false f = let z : at + w + (j - (at + w)) ≡ j = omega (arith, ltb-false j (at + w) f) in rw z at (behind (j - (at + w)))

  pub put_in_part : put_mid at (at + w - at) l (put_field (take (at + w - at) (drop at l)) 0 w x) ≡ put_field l at w x
  put_in_part =
      let z : at + w - at ≡ w = omega arith in
      rw z (ext_get_or 0 (whole w l at x) (put_field l at w x) (length_whole ∙ sym (length_put w l at x)) (λ j q. same j))

-- the same, of the part that a width v gives
pub put_done : (w v : ℕ) (l ys : List ℕ) (at x : ℕ) → v ≡ w → at + w ≤ length l → ys ≡ put_field (take (at + v - at) (drop at l)) 0 w x
    → put_mid at (at + v - at) l ys ≡ put_field l at w x
put_done w v l ys at x e k h = ap (put_mid at (at + v - at) l) h ∙ rw e (put_in_part w l at x k)

pub read_done : (w v : ℕ) (l : List ℕ) (at x : ℕ) → v ≡ w → x ≡ field (take (at + v - at) (drop at l)) 0 w → x ≡ field l at w
read_done w v l at x e h = h ∙ rw e (read_in_part w l at)

-- ---- byte by byte, as the library splits it
pub two_bytes : (l : List ℕ) (a b x : ℕ) → length l ≡ 2 → a ≡ x % 256 → b ≡ x / 256 % 256 → a ∷ b ∷ [] ≡ put_field l 0 2 x
unfolding put_field
two_bytes (i ∷ j ∷ []) a b x h p q = rw (p, q)
two_bytes [] a b x h p q = absurd (omega arith)
two_bytes (i ∷ []) a b x h p q = absurd (omega arith)
two_bytes (i ∷ j ∷ k ∷ l) a b x h p q = absurd (omega arith)

pub four_bytes : (l : List ℕ) (a b c d x : ℕ) → length l ≡ 4 → a ≡ x % 256 → b ≡ x / 256 % 256 → c ≡ x / 256 / 256 % 256
    → d ≡ x / 256 / 256 / 256 % 256 → a ∷ b ∷ c ∷ d ∷ [] ≡ put_field l 0 4 x
unfolding put_field
four_bytes (i ∷ j ∷ k ∷ m ∷ []) a b c d x h p q r s = rw (p, q, r, s)
four_bytes [] a b c d x h p q r s = absurd (omega arith)
four_bytes (i ∷ []) a b c d x h p q r s = absurd (omega arith)
four_bytes (i ∷ j ∷ []) a b c d x h p q r s = absurd (omega arith)
four_bytes (i ∷ j ∷ k ∷ []) a b c d x h p q r s = absurd (omega arith)
four_bytes (i ∷ j ∷ k ∷ m ∷ n ∷ l) a b c d x h p q r s = absurd (omega arith)

-- ---- four in a row, at places counted in a width v
-- an array of four is the elements read of it
pub four_of : {A : Type 0} (xs : List A) (a b c d : A) → length xs ≡ 4 → xs ≡ get_or xs 0 a ∷ get_or xs 1 b ∷ get_or xs 2 c ∷ get_or xs 3 d ∷ []
four_of (x ∷ y ∷ z ∷ w ∷ []) a b c d h = refl
four_of [] a b c d h = absurd (omega arith)
four_of (x ∷ []) a b c d h = absurd (omega arith)
four_of (x ∷ y ∷ []) a b c d h = absurd (omega arith)
four_of (x ∷ y ∷ z ∷ []) a b c d h = absurd (omega arith)
four_of (x ∷ y ∷ z ∷ w ∷ v ∷ xs) a b c d h = absurd (omega arith)

module _ (l : List ℕ) (at w v : ℕ) (e : v ≡ w) where
  second : at + v ≡ at + w
  second = omega arith

  third : at + 2 * v ≡ at + w + w
  third = omega arith

  fourth : at + 3 * v ≡ at + w + w + w
  fourth = omega arith

  pub four_read : (a b c d x y z : ℕ) → Gets l at w a → Gets l x w b → Gets l y w c → Gets l z w d
      → x ≡ at + v → y ≡ at + 2 * v → z ≡ at + 3 * v → a ∷ b ∷ c ∷ d ∷ [] ≡ fields_at l at (four w)
  unfolding fields_at
  four_read a b c d x y z p q r s e f g =
      let q' : b ≡ field l (at + w) w = q ∙ ap (λ (j : ℕ). field l j w) (e ∙ second) in
      let r' : c ≡ field l (at + w + w) w = r ∙ ap (λ (j : ℕ). field l j w) (f ∙ third) in
      let s' : d ≡ field l (at + w + w + w) w = s ∙ ap (λ (j : ℕ). field l j w) (g ∙ fourth) in
      ap₂ (λ (x y : ℕ). x ∷ y ∷ c ∷ d ∷ []) p q' ∙ ap₂ (λ (x y : ℕ). field l at w ∷ field l (at + w) w ∷ x ∷ y ∷ []) r' s'

  pub four_put : (xs l1 l2 l3 l4 : List ℕ) (a b c d x y z : ℕ) → quad xs ≡ a ∷ b ∷ c ∷ d ∷ []
      → Puts l at w a l1 → Puts l1 x w b l2 → Puts l2 y w c l3 → Puts l3 z w d l4
      → x ≡ at + v → y ≡ at + 2 * v → z ≡ at + 3 * v → PutsFour l at (four w) xs l4
  unfolding put_fields
  four_put xs l1 l2 l3 l4 a b c d x y z h p q r s e f g =
      let p' : l2 ≡ put_field (put_field l at w a) (at + w) w b = q ∙ ap₂ (λ (k : List ℕ) (j : ℕ). put_field k j w b) p (e ∙ second) in
      let q' = r ∙ ap₂ (λ (k : List ℕ) (j : ℕ). put_field k j w c) p' (f ∙ third) in
      s
      ∙ ap₂ (λ (k : List ℕ) (j : ℕ). put_field k j w d) q' (g ∙ fourth)
      ∙ sym (ap (put_fields l at (four w)) h)

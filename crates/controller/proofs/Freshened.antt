-- `fresh` as the code makes it: refused by the length or the kind, or the image's own fresh one, which is of bytes. Assumes nothing.
use Prim.Native.Nat.{ℕ, zero, suc, ◌+◌, ◌≤◌, ◌<◌}
use mathlib.Core.Path.{◌≡◌, refl, ap, ap₂, sym, ◌∙◌}
use mathlib.Core.Bool.{Bool, true, false}
use mathlib.Core.List.{List}
use native.Mathlib.Omega.{arith}
use borrow.Author.Tests.{eq-eqb, ne_eqb, le-leb, lt-leb}
use lib.Dec.{eqb, leb}
use lib.ListN.{length}
use Rattle.kinds.specs.declared.Reply.{Reply}
use Rattle.kinds.specs.Events.{refusal}
use Rattle.fields.proofs.Laws.{Bytes}
use Rattle.fields.specs.Field.{put_field}
use Rattle.image.specs.Layout.{configuration_at, target_at, remembers_in, image_length}
use Rattle.image.specs.Records.{flag_code, flag_of}
use Rattle.image.specs.Fresh.{zeros, fresh_image}
use Rattle.staying.proofs.Lent.{bytes_put}
use Rattle.controller.specs.Fresh.{answer_if, image_if, Freshens}

module _ (l : List ℕ) (v : ℕ) (r : Reply) where
  by : (m : List ℕ) (x y : Bool) → eqb (length l) image_length ≡ x → leb v 1 ≡ y → r ≡ refusal (answer_if x y) → m ≡ image_if x y (flag_of v) l → Freshens l v r m
  by m x y e f p q = (p ∙ ap₂ (λ (a b : Bool). refusal (answer_if a b)) (sym e) (sym f), q ∙ ap₂ (λ (a b : Bool). image_if a b (flag_of v) l) (sym e) (sym f))

  pub freshened : (m : List ℕ) → length l ≡ image_length → v ≤ 1 → m ≡ fresh_image (flag_of v) → r ≡ refusal 0 → Freshens l v r m
  freshened m e h p u = by m true true (eq-eqb (length l) image_length e) (le-leb v 1 h) u p

  pub no_kind : length l ≡ image_length → 1 < v → r ≡ refusal 2 → Freshens l v r l
  no_kind e h u = by l true false (eq-eqb (length l) image_length e) (lt-leb v 1 h) u refl

  pub not_freshened : (length l ≡ image_length → ⊥) → r ≡ refusal 1 → Freshens l v r l
  not_freshened n u = by l false (leb v 1) (ne_eqb (length l) image_length n) refl u refl

-- of a kind that there is
pub fresh_is : (m : Bool) (l k : List ℕ) (r : Reply) → length l ≡ image_length → Freshens l (flag_code m) r k → k ≡ fresh_image m
fresh_is true l k r e f = f.1 ∙ ap (λ (b : Bool). image_if b true true l) (eq-eqb (length l) image_length e)
fresh_is false l k r e f = f.1 ∙ ap (λ (b : Bool). image_if b true false l) (eq-eqb (length l) image_length e)

pub is_fresh : (m : Bool) (l : List ℕ) → length l ≡ image_length → Freshens l (flag_code m) (refusal 0) (fresh_image m)
is_fresh true l e = freshened l 1 (refusal 0) (fresh_image true) e (omega arith) refl refl
is_fresh false l e = freshened l 0 (refusal 0) (fresh_image false) e (omega arith) refl refl

-- ---- it is of bytes
zero_bytes : (n : ℕ) → Bytes (zeros n)
unfolding zeros
zero_bytes zero j = omega arith
zero_bytes (suc n) zero = omega arith
zero_bytes (suc n) (suc j) = zero_bytes n j

pub fresh_bytes : (m : Bool) → Bytes (fresh_image m)
unfolding fresh_image
fresh_bytes m =
    bytes_put 1 (put_field (zeros image_length) configuration_at 1 1) (target_at + remembers_in) (flag_code m)
    (bytes_put 1 (zeros image_length) configuration_at 1 (zero_bytes image_length))

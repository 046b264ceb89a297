-- What `fresh` claims: the image's fresh one, of either kind, or a refusal by the length or by the kind (paper: The state; order
-- 13). Assumes nothing.
use Rattle.std.specs.Prelude.{ℕ, ◌≡◌, Bool, true, false, List, eqb, leb, length}
use Rattle.kinds.specs.declared.Reply.{Reply}
use Rattle.kinds.specs.Events.{refusal}
use Rattle.image.specs.Layout.{image_length}
use Rattle.image.specs.Records.{flag_of}
use Rattle.image.specs.Fresh.{fresh_image}

-- by whether the length is the image's, and whether the kind is one
abbrev pub answer_if : Bool → Bool → ℕ
answer_if true true = 0
answer_if true false = 2
answer_if false k = 1

abbrev pub image_if : Bool → Bool → Bool → List ℕ → List ℕ
image_if true true m l = fresh_image m
image_if true false m l = l
image_if false k m l = l

-- whatever stood there; an image of another length is refused (1), then a kind v that is neither 0 nor 1 (2), and it stays
abbrev pub Freshens : List ℕ → ℕ → Reply → List ℕ → Type 0
Freshens l v r m =
    (r ≡ refusal (answer_if (eqb (length l) image_length) (leb v 1))) × (m ≡ image_if (eqb (length l) image_length) (leb v 1) (flag_of v) l)

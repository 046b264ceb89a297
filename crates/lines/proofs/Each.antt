-- A property of every row of a table of forms: one entry a row. Assumes nothing.
use mathlib.Core.Bool.{true}
use mathlib.Core.List.{List, [], ◌∷◌}
use lib.Dec.{T}
use Rattle.lines.specs.Forms.{Form}
use Rattle.lines.specs.Grammar.{Among, here, there}

infixr 67 ◌&◌
pub data Both (A B : Type 0) : Type 0 where
  ◌&◌ : A → B → Both A B

abbrev pub Each : (Form → Type 0) → List Form → Type 0
Each P [] = T true
Each P (f ∷ fs) = Both (P f) (Each P fs)

pub each_among : (P : Form → Type 0) (f : Form) (fs : List Form) → Each P fs → Among f fs → P f
each_among P f [] e i = elim i [ ]
each_among P f (g ∷ fs) (a & e) here = a
each_among P f (g ∷ fs) (a & e) (there i) = each_among P f fs e i

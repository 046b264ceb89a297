-- The closing line: both heads, as the image shows them (paper: Program and host); and the input's end, with the last line and
-- it. No second outcome is this. Assumes nothing.
use Rattle.std.specs.Prelude.{ℕ, ◌≡◌, List}
use Rattle.std.proofs.Common.{subst}
use Rattle.lines.specs.Replies.{closing_line}
use Rattle.controller.specs.declared.reads.Heads.{Heads}
use Rattle.controller.specs.Reads.{heads_of}
use Rattle.stepper.specs.declared.Session.{Session}
use Rattle.stepper.specs.Ended.{Puts, puts_only}
use Rattle.stepper.specs.Fed.{EndsLast, ends_last_only}

-- the line of both heads: the revision and ordinal of Committed, then those of Applied
abbrev pub line_of_heads : Heads → List ℕ
line_of_heads h = closing_line h.committed.revision.0 h.committed.ordinal.0 h.applied.revision.0 h.applied.ordinal.0

-- the heads are those that the controller's `both_heads` shows of the image l
abbrev pub closing : List ℕ → List ℕ
closing l = line_of_heads (heads_of l)

abbrev pub Closes : List ℕ → List ℕ → ℕ → ℕ → List ℕ → Type 0
Closes l out used end after = Puts out used (closing l) end after

-- the last line has ended, if it has a byte, and the image that is left is closed
pub record EndsInput (l out room : List ℕ) (s : Session) (end : ℕ) (m after kept : List ℕ) : Type 0 where
  pub used : ℕ
  pub answers : List ℕ
  pub last : EndsLast l out room s used m answers kept
  pub closes : Closes m answers used end after

-- ---- no second outcome
pub closes_only : (l out : List ℕ) (used e f : ℕ) (a b : List ℕ) → Closes l out used e a → Closes l out used f b → (e ≡ f) × (a ≡ b)
closes_only l out used = puts_only out used (closing l)

pub ends_input_only :
    (l out room : List ℕ) (s : Session) (e f : ℕ) (m n a c k j : List ℕ) → EndsInput l out room s e m a k → EndsInput l out room s f n c j →
    (e ≡ f) × (m ≡ n) × (a ≡ c) × (k ≡ j)
ends_input_only l out room s e f m n a c k j x y =
    let z = ends_last_only l out room s x.used y.used m n x.answers y.answers k j x.last y.last in
    let p = subst (λ (i : List ℕ). Closes i x.answers x.used e a) z.1 x.closes in
    let q = subst (λ (i : List ℕ). Closes n i x.used e a) z.2 p in
    let t = closes_only n y.answers y.used e f a c (subst (λ (i : ℕ). Closes n y.answers i e a) z.0 q) y.closes in
    (t.0, z.1, t.1, z.3)

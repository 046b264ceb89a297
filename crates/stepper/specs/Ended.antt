-- A line that has ended: its answer's line is put behind the answers that wait; and that no second outcome is this.
-- Assumes nothing.
use Rattle.std.specs.Prelude.{ℕ, ◌+◌, ◌≤◌, ◌≡◌, Bool, List, ◌++◌, length, take, drop}
use Rattle.std.proofs.Common.{ap, ap₂, sym, subst, ◌∙◌, take-append-drop}
use Rattle.kinds.specs.Outcome.{one}
use Rattle.lines.specs.declared.reading.Line.{Line}
use Rattle.stepper.specs.declared.Answer.{Answer}
use Rattle.stepper.specs.Answers.{line_for, Answers, answers_only}

-- the bytes that are lent for the line of an answer; the buffer of answers has them for each byte of a block
abbrev pub answer_room : ℕ
answer_room = 96

-- the text t is put behind the first `used` bytes of a buffer: these and t are its first `end` bytes then, and behind them it
-- is as it was
pub record Puts (out : List ℕ) (used : ℕ) (t : List ℕ) (end : ℕ) (after : List ℕ) : Type 0 where
  pub ends : end ≡ used + length t
  pub fits : length t ≤ answer_room
  pub holds : take end after ≡ take used out ++ t
  pub behind : drop end after ≡ drop end out

-- the line, with its room, on the image l is answered, and m is left; behind those that wait stands the line of the answer. f tells
-- whether it is the first line
pub record Ends (f : Bool) (l : List ℕ) (line : Line) (room out : List ℕ) (used end : ℕ) (m after : List ℕ) : Type 0 where
  pub reply : Answer
  pub answers : Answers f l line room reply m
  pub puts : Puts out used (line_for reply) end after

-- ---- no second outcome
parted : (out : List ℕ) (used : ℕ) (t : List ℕ) (e : ℕ) (a : List ℕ) → Puts out used t e a → a ≡ take used out ++ t ++ drop e out
parted out used t e a x = sym (take-append-drop e a) ∙ ap₂ (λ (i j : List ℕ). i ++ j) x.holds x.behind

pub puts_only : (out : List ℕ) (used : ℕ) (t : List ℕ) (e f : ℕ) (a b : List ℕ) → Puts out used t e a → Puts out used t f b → (e ≡ f) × (a ≡ b)
puts_only out used t e f a b x y =
    let h = one x.ends y.ends in
    (h, parted out used t e a x ∙ ap (λ (k : ℕ). take used out ++ t ++ drop k out) h ∙ sym (parted out used t f b y))

pub ends_only :
    (g : Bool) (l : List ℕ) (line : Line) (room out : List ℕ) (used e f : ℕ) (m n a b : List ℕ) → Ends g l line room out used e m a →
    Ends g l line room out used f n b → (e ≡ f) × (m ≡ n) × (a ≡ b)
ends_only g l line room out used e f m n a b x y =
    let s = answers_only g l line room x.reply y.reply m n x.answers y.answers in
    let p = subst (λ (r : Answer). Puts out used (line_for r) e a) s.0 x.puts in
    let t = puts_only out used (line_for y.reply) e f a b p y.puts in
    (t.0, s.1, t.1)

-- What the program writes for an input (paper: Program and host): the lines of its bytes are answered in order, each with what
-- the controller decides for the call that it says, and then the closing line stands. Assumes nothing.
use Rattle.std.specs.Prelude.{ℕ, ◌≡◌, Bool, true, false, cond, List, [], ◌∷◌, ◌++◌, eqb, length}
use Rattle.machine.specs.Calls.{Call}
use Rattle.machine.specs.Import.{Entry, Import, import}
use Rattle.image.specs.Layout.{image_length}
use Rattle.lines.specs.Forms.{Asked, calls, why, night, imports, owner, freshly}
use Rattle.lines.specs.Grammar.{Says}
use Rattle.stepper.specs.declared.Answer.{Answer}
use Rattle.stepper.specs.Answers.{line_for, Replies, Explains, table_for, Sleeps, Refuses, BeginsIf, Owns, FreshensIf}
use Rattle.stepper.specs.Closed.{closing}

-- ---- the lines of some bytes
-- behind the bytes t of a line: the lines that end in a newline
unfoldable pub lines_from : List ℕ → List ℕ → List (List ℕ)
lines_from t [] = []
lines_from t (b ∷ bs) = cond (eqb b 10) (t ∷ lines_from [] bs) (lines_from (t ++ (b ∷ [])) bs)

-- and the bytes behind the last newline
unfoldable pub rest_from : List ℕ → List ℕ → List ℕ
rest_from t [] = t
rest_from t (b ∷ bs) = rest_from (cond (eqb b 10) [] (t ++ (b ∷ []))) bs

-- they are a line too, if there are any
abbrev pub last_line : List ℕ → List (List ℕ)
last_line [] = []
last_line (b ∷ t) = (b ∷ t) ∷ []

abbrev pub lines_of : List ℕ → List (List ℕ)
lines_of bs = lines_from [] bs ++ last_line (rest_from [] bs)

-- ---- their answers
-- an import asked of the image l: one of another length is refused (1) before the list is looked at
abbrev pub importing : List ℕ → List Entry → Import
importing l es = cond (eqb (length l) image_length) (import es) (record { answer = 1; position = 0; calls = [] })

-- the line t on the image l: a line that says a call is replied what is decided for it; one that asks why, the reason; one that
-- asks for a night, how it went; one that says an import or a fresh start, whether it is taken, if it is the first line, else 2;
-- one that asks who set a path, that number; one that says nothing, 2; and but for a call, a night, an import and a fresh start
-- every byte is what it had been. f tells whether it is the first line
pub record Answered (f : Bool) (l t : List ℕ) (r : Answer) (m : List ℕ) : Type 0 where
  pub asks : (c : Call) → Says t (calls c) → Replies l c r m
  pub explains : (n j i : ℕ) → Says t (why n j i) → Explains l n j i r m
  pub sleeps : (n b : ℕ) (os : List ℕ) → Says t (night n b os) → Sleeps l n b (table_for os) r m
  pub enters : (es : List Entry) → Says t (imports es) → BeginsIf f l (importing l es) r m
  pub owns : (p : ℕ) → Says t (owner p) → Owns l p r m
  pub freshens : (v : ℕ) → Says t (freshly v) → FreshensIf f l v r m
  pub refuses : ((x : Asked) → Says t x → ⊥) → Refuses l r m

-- the lines on the image l were replied one after another, and m is left; f tells whether no line came before them
pub data Told : Bool → List ℕ → List (List ℕ) → List Answer → List ℕ → Type 0 where
  none : {f : Bool} {l : List ℕ} → Told f l [] [] l
  next :
      {f : Bool} {l k m : List ℕ} {ts : List (List ℕ)} {rs : List Answer} (t : List ℕ) (r : Answer) → Answered f l t r k → Told false k ts rs m →
      Told f l (t ∷ ts) (r ∷ rs) m

unfoldable pub reply_lines : List Answer → List ℕ
reply_lines [] = []
reply_lines (r ∷ rs) = line_for r ++ reply_lines rs

-- ---- all that is written for the bytes of an input
pub record Transcript (l bytes text m : List ℕ) : Type 0 where
  pub replies : List Answer
  pub told : Told true l (lines_of bytes) replies m
  pub writes : text ≡ reply_lines replies ++ closing m

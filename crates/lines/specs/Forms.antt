-- The table of forms: a row for each line that can be read. In a row's text a letter stands for itself, `#` for a number,
-- `%` for pairs, `&` for single digits and `$` for entries of a list; its tag, a capital, is how the code names it; behind them,
-- what a line of this form asks for, from what stands at its marks, in order. A new line is a new row. Assumes nothing.
use Rattle.std.specs.Prelude.{ℕ, ◌-◌, List, [], ◌∷◌, ◌++◌, cond, eqb, length, replicate}
use Prim.Native.String.{String}
use Rattle.machine.specs.Calls as machine
use Rattle.machine.specs.Calls.{Pair}
use Rattle.machine.specs.Import.{Entry}
use Rattle.lines.specs.Text.{text}

-- what a line asks for
pub data Asked : Type 0 where
  calls : machine.Call → Asked
  why : (node job number : ℕ) → Asked
  night : (node budget : ℕ) → List ℕ → Asked
  imports : List Entry → Asked
  owner : (path : ℕ) → Asked
  freshly : (remembers : ℕ) → Asked

-- what stands at a place of a form
pub data Token : Type 0 where
  letter : ℕ → Token
  number : Token
  pairs : Token
  digits : Token
  entries : Token

abbrev pub token_of : ℕ → Token
token_of c = cond (eqb c 35) number (cond (eqb c 37) pairs (cond (eqb c 38) digits (cond (eqb c 36) entries (letter c))))

abbrev pub byte_of : Token → ℕ
byte_of (letter c) = c
byte_of number = 35
byte_of pairs = 37
byte_of digits = 38
byte_of entries = 36

abbrev pub tokens : List ℕ → List Token
tokens [] = []
tokens (c ∷ t) = token_of c ∷ tokens t

-- what a line of a form asks for, from what stands at the form's marks
abbrev pub Asks : List Token → Type 0
Asks [] = Asked
Asks (letter c ∷ f) = Asks f
Asks (number ∷ f) = ℕ → Asks f
Asks (pairs ∷ f) = List Pair → Asks f
Asks (digits ∷ f) = List ℕ → Asks f
Asks (entries ∷ f) = List Entry → Asks f

pub record Form : Type 0 where
  pub form : List Token
  pub tag : ℕ
  pub asks : Asks form

abbrev first : List ℕ → ℕ
first [] = 0
first (c ∷ l) = c

abbrev row : (s t : String) → Asks (tokens (text s)) → Form
row s t a = record { form = tokens (text s); tag = first (text t); asks = a }

abbrev pub forms : List Form
forms =
    row "call=stop" "T" (calls machine.stop)
    ∷ row "call=start" "S" (calls machine.start)
    ∷ row "call=sync node=#" "Y" (λ n. calls (machine.sync n))
    ∷ row "call=append pairs=%" "A" (λ ps. calls (machine.append ps))
    ∷ row "call=connect node=#" "C" (λ n. calls (machine.connect n))
    ∷ row "call=disconnect node=#" "D" (λ n. calls (machine.disconnect n))
    ∷ row "call=master node=#" "M" (λ n. calls (machine.master n))
    ∷ row "call=rollback number=#" "R" (λ n. calls (machine.rollback n))
    ∷ row "call=work node=# job=# number=# outcome=# cut=#" "W" (λ n j i o c. calls (machine.work n j i o c))
    ∷ row "call=fold number=#" "F" (λ n. calls (machine.fold_to n))
    ∷ row "call=why node=# job=# number=#" "Q" (λ n j i. why n j i)
    ∷ row "call=night node=# budget=# outcomes=&" "N" (λ n b os. night n b os)
    ∷ row "call=import entries=$" "I" (λ es. imports es)
    ∷ row "call=owner path=#" "O" (λ p. owner p)
    ∷ row "call=fresh remembers=#" "B" (λ r. freshly r)
    ∷ []

-- ---- the table as the code has it: for each row 64 letters, a newline, its text, its tag and dots
abbrev pub bytes : List Token → List ℕ
bytes [] = []
bytes (k ∷ f) = byte_of k ∷ bytes f

-- a form of 62 letters has no dots
abbrev pub gap : List Token → ℕ
gap f = 62 - length f

abbrev pub rows : List Form → List ℕ
rows [] = []
rows (f ∷ fs) = 10 ∷ (bytes f.form ++ (f.tag ∷ (replicate (gap f.form) 46 ++ rows fs)))

abbrev pub table : List ℕ
table = rows forms

-- What the program writes for an input, said of the machine: its lines are replied as `step` decides, from the fresh state on or
-- from what an import or a fresh start on the first line leaves; questions and nights are answered from where it stands; and the
-- closing line has the heads of the state that is reached. Assumes nothing.
use Rattle.std.specs.Prelude.{ℕ, ◌≡◌, Bool, true, false, cond, List, [], ◌∷◌, ◌++◌, eqb, leb}
use Rattle.kinds.specs.Events.{refusal}
use Rattle.machine.specs.State.{State, fresh}
use Rattle.machine.specs.Calls.{Call}
use Rattle.machine.specs.Step.{step}
use Rattle.machine.specs.Why as reasons
use Rattle.machine.specs.Night as nights
use Rattle.machine.specs.Import.{Entry, import, imported}
use Rattle.machine.specs.Reads.{of_owner, read}
use Rattle.lines.specs.Forms.{Asked, calls, why, night, imports, owner, freshly}
use Rattle.lines.specs.Grammar.{Says}
use Rattle.controller.specs.Reads as shown
use Rattle.controller.specs.Reads.{heads_in}
use Rattle.controller.specs.Reasons.{given}
use Rattle.controller.specs.Nights as nightly
use Rattle.controller.specs.Imports.{told}
use Rattle.stepper.specs.declared.Answer.{Answer}
use Rattle.stepper.specs.declared.Answer.TheVariants.{Replied, Explained, Slept, Began, Owned}
use Rattle.stepper.specs.Answers.{table_for}
use Rattle.stepper.specs.Closed.{line_of_heads}
use Rattle.stepper.specs.Transcript.{lines_of, reply_lines}

-- an import (order 6) stands in place of the fresh start: what its calls leave a fresh controller; refused, nothing changes. Behind
-- another line, whatever that was answered, it cannot be read
abbrev pub Enters : Bool → State → List Entry → Answer → State → Type 0
Enters true s es r q = (r ≡ Began (told (import es))) × (q ≡ cond (eqb (import es).answer 0) (imported es) s)
Enters false s es r q = (r ≡ Replied (refusal 2)) × (q ≡ s)

-- so does a fresh start (order 13): a fresh controller of a target that remembers (1) or forgets (0); another kind is refused
abbrev pub Freshens : Bool → State → (remembers : ℕ) → Answer → State → Type 0
Freshens true s v r q = (r ≡ Replied (refusal (cond (leb v 1) 0 2))) × (q ≡ cond (leb v 1) (fresh (eqb v 1)) s)
Freshens false s v r q = (r ≡ Replied (refusal 2)) × (q ≡ s)

-- the line t in the state s: a line that says a call is a step; one that asks why is told it, one that asks for a night how it
-- went; one that says an import or a fresh start begins with it, if it is the first line; one that asks who set a path is told
-- it; one that says nothing is refused with 2
pub record Stepped (f : Bool) (s : State) (t : List ℕ) (r : Answer) (q : State) : Type 0 where
  pub asks : (c : Call) → Says t (calls c) → (r ≡ Replied (step s c).reply) × (q ≡ (step s c).next)
  pub explains : (n j i : ℕ) → Says t (why n j i) → (r ≡ Explained (given (reasons.why s n j i))) × (q ≡ s)
  pub sleeps : (n b : ℕ) (os : List ℕ) → Says t (night n b os) →
      (let w = nights.night s n b (table_for os) in (r ≡ Slept (nightly.given w [])) × (q ≡ w.next))
  pub enters : (es : List Entry) → Says t (imports es) → Enters f s es r q
  pub owns : (p : ℕ) → Says t (owner p) → (r ≡ Owned (shown.given (read s (of_owner p)))) × (q ≡ s)
  pub freshens : (v : ℕ) → Says t (freshly v) → Freshens f s v r q
  pub refuses : ((x : Asked) → Says t x → ⊥) → (r ≡ Replied (refusal 2)) × (q ≡ s)

-- lines one after another; f tells whether no line came before them
pub data Steps : Bool → State → List (List ℕ) → List Answer → State → Type 0 where
  none : {f : Bool} {s : State} → Steps f s [] [] s
  next :
      {f : Bool} {s o q : State} {ts : List (List ℕ)} {rs : List Answer} (t : List ℕ) (r : Answer) → Stepped f s t r o → Steps false o ts rs q →
      Steps f s (t ∷ ts) (r ∷ rs) q

-- the text for the bytes of an input, from the state s to the state q
pub record Prints (s : State) (bytes text : List ℕ) (q : State) : Type 0 where
  pub replies : List Answer
  pub steps : Steps true s (lines_of bytes) replies q
  pub writes : text ≡ reply_lines replies ++ line_of_heads (heads_in q)

-- A line is answered as what it asks for is. Assumes nothing.
use Prim.Native.Nat.{ℕ}
use mathlib.Core.Path.{◌≡◌, refl, ap, sym, subst}
use mathlib.Core.Bool.{Bool, true, false}
use mathlib.Core.List.{List}
use lib.ListN.{take}
use Rattle.kinds.specs.declared.Reply.{Reply}
use Rattle.kinds.specs.Events.{refusal}
use Rattle.machine.specs.Calls as machine
use Rattle.lines.specs.declared.reading.Line.{Line}
use Rattle.lines.specs.declared.reading.Call.{Call}
use Rattle.controller.specs.Claims.{Claims}
use Rattle.stepper.specs.declared.Answer.{Answer}
use Rattle.stepper.specs.declared.Answer.TheVariants.{Replied}
use Rattle.stepper.specs.Answers.{Replies, First, AnswersCall, Answers}

pub asked :
    (f : Bool) (line : Line) (c : Call) (room l : List ℕ) (r : Answer) (m : List ℕ) → line.call ≡ c → AnswersCall f c (take line.length room) l r m →
    Answers f l line room r m
asked f line c room l r m e p = subst (λ (k : Call). AnswersCall f k (take line.length room) l r m) (sym e) p

pub replied : (l : List ℕ) (c : machine.Call) (r : Reply) (m : List ℕ) → Claims l c r m → Replies l c (Replied r) m
replied l c r m p = (ap Replied p.0, p.1)

-- what stands in place of the fresh start: the first line, and behind another
pub taken : (f : Bool) (x : Answer) (k l : List ℕ) (a : Answer) (m : List ℕ) → f ≡ true → a ≡ x → m ≡ k → First f x k l a m
taken f x k l a m e p q = rw e (p, q)

pub late : (f : Bool) (x : Answer) (k l : List ℕ) (r : Reply) → f ≡ false → r ≡ refusal 2 → First f x k l (Replied r) l
late f x k l r e p = rw e (ap Replied p, refl)

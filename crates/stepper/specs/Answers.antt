-- What the program answers to a line that was read, and what it leaves of the image (paper: Program and host); and that
-- no second outcome is an answer. Assumes nothing.
use Rattle.std.specs.Prelude.{ℕ, zero, suc, ◌+◌, ◌*◌, ◌≡◌, List, [], ◌∷◌, ◌++◌, Bool, true, false, cond, eqb, ltb, leb, length, take, get_or}
use Rattle.kinds.specs.Events.{refusal}
use Rattle.kinds.specs.Outcome.{both}
use Rattle.machine.specs.Calls as machine
use Rattle.machine.specs.Import.{Import}
use Rattle.machine.specs.Reads.{of_owner}
use Rattle.image.specs.Layout.{image_length}
use Rattle.image.specs.Records.{flag_of}
use Rattle.image.specs.View.{written}
use Rattle.lines.specs.declared.reading.Line.{Line}
use Rattle.lines.specs.declared.reading.Call.{Call}
use Rattle.lines.specs.declared.reading.Call.TheVariants.{Unreadable, Append, Rollback, Start, Stop, Connect, Disconnect, Master, Sync, Work, Fold, Why, Night, Import as ImportLine, Owner, Fresh}
use Rattle.lines.specs.Replies.{reply_line, why_line, night_line, import_line, owner_line}
use Rattle.controller.specs.Bytes.{append_of}
use Rattle.controller.specs.Claims.{outcome_of}
use Rattle.controller.specs.Fresh.{answer_if, image_if}
use Rattle.controller.specs.Reads.{read_of}
use Rattle.controller.specs.Reasons.{why_of}
use Rattle.controller.specs.Nights.{lent_from, given, night_in}
use Rattle.controller.specs.Imports.{told, import_in, image_after}
use Rattle.stepper.specs.declared.Answer.{Answer}
use Rattle.stepper.specs.declared.Answer.TheVariants.{Replied, Explained, Slept, Began, Owned}

-- the line that is written for an answer
abbrev pub line_for : Answer → List ℕ
line_for (Replied r) = reply_line r
line_for (Explained w) = why_line w.answer w.reason w.named
line_for (Slept w) = night_line w.answer w.jobs w.stopped
line_for (Began w) = import_line w.answer w.position
line_for (Owned w) = owner_line w.answer w.value

-- a call made on the image l: the controller's contract (controller Claims), its reply the answer
abbrev pub Replies : List ℕ → machine.Call → Answer → List ℕ → Type 0
Replies l c a m = (a ≡ Replied (outcome_of l c).reply) × (m ≡ written l (outcome_of l c).stores)

-- why asked of it: no byte changes
abbrev pub Explains : List ℕ → (node job number : ℕ) → Answer → List ℕ → Type 0
Explains l n j i a m = (a ≡ Explained (why_of l n j i)) × (m ≡ l)

-- who set a path, asked of it (order 7): no byte changes
abbrev pub Owns : List ℕ → (path : ℕ) → Answer → List ℕ → Type 0
Owns l p a m = (a ≡ Owned (read_of l (of_owner p))) × (m ≡ l)

-- ---- a night's outcomes (order 2)
-- the first k of some numbers, in order
unfoldable pub tab : (ℕ → ℕ) → ℕ → List ℕ
tab f zero = []
tab f (suc k) = tab f k ++ (f k ∷ [])

-- 256 of them for a line that has no more; 257, which are no table, for one that has
abbrev pub table_of : Bool → List ℕ → List ℕ
table_of few ps = take (cond few 256 257) ps

-- those that a line has, and 0 in every place behind them
abbrev pub table_for : List ℕ → List ℕ
table_for os = table_of (ltb (length os) 257) (tab (λ i. get_or os i 0) 257)

-- in the bytes of its line: behind node and budget, two bytes each
abbrev pub places_in : List ℕ → List ℕ
places_in b = tab (λ i. get_or b (2 * i + 4) 0) 257

abbrev pub table_in : List ℕ → List ℕ
table_in b = table_of (ltb (length b) 518) (places_in b)

-- a night asked of the image, with this table: its events are not shown
abbrev pub Sleeps : List ℕ → (node budget : ℕ) → (table : List ℕ) → Answer → List ℕ → Type 0
Sleeps l n b os a m = let w = night_in l n b os in (a ≡ Slept (given w [])) × (m ≡ lent_from l w.calls)

-- nothing that can be read: 2, and no byte changes
abbrev pub Refuses : List ℕ → Answer → List ℕ → Type 0
Refuses l a m = (a ≡ Replied (refusal 2)) × (m ≡ l)

-- what stands in place of the fresh start is read as the first line only: the answer a and the image m are those of that line;
-- behind another line it cannot be read
abbrev pub First : Bool → (answer : Answer) → (left : List ℕ) → List ℕ → Answer → List ℕ → Type 0
First true x k l a m = (a ≡ x) × (m ≡ k)
First false x k l a m = Refuses l a m

-- an import (order 6): the image is what it leaves, or, refused, what it had been
abbrev pub BeginsIf : Bool → List ℕ → Import → Answer → List ℕ → Type 0
BeginsIf f l x a m = First f (Began (told x)) (image_after x l) l a m

-- a fresh start of either kind (order 13), as the controller makes it (controller Fresh)
abbrev pub FreshensIf : Bool → List ℕ → (remembers : ℕ) → Answer → List ℕ → Type 0
FreshensIf f l v a m =
    let sized = eqb (length l) image_length in
    First f (Replied (refusal (answer_if sized (leb v 1)))) (image_if sized (leb v 1) (flag_of v) l) l a m

-- what a line asks for, with the bytes b of its room, on the image l; f tells whether it is the first line
abbrev pub AnswersCall : Bool → Call → List ℕ → List ℕ → Answer → List ℕ → Type 0
AnswersCall f Unreadable b l a m = Refuses l a m
AnswersCall f Append b l a m = Replies l (append_of b) a m
AnswersCall f (Rollback n) b l a m = Replies l (machine.rollback n) a m
AnswersCall f Start b l a m = Replies l machine.start a m
AnswersCall f Stop b l a m = Replies l machine.stop a m
AnswersCall f (Connect n) b l a m = Replies l (machine.connect n) a m
AnswersCall f (Disconnect n) b l a m = Replies l (machine.disconnect n) a m
AnswersCall f (Master n) b l a m = Replies l (machine.master n) a m
AnswersCall f (Sync n) b l a m = Replies l (machine.sync n) a m
AnswersCall f (Work n j i o c) b l a m = Replies l (machine.work n j i o c) a m
AnswersCall f (Fold n) b l a m = Replies l (machine.fold_to n) a m
AnswersCall f (Why n j i) b l a m = Explains l n j i a m
AnswersCall f (Night n k) b l a m = Sleeps l n k (table_in b) a m
AnswersCall f ImportLine b l a m = BeginsIf f l (import_in l b) a m
AnswersCall f (Owner p) b l a m = Owns l p a m
AnswersCall f (Fresh v) b l a m = FreshensIf f l v a m

-- they are the first `length` bytes of the room
abbrev pub Answers : Bool → List ℕ → Line → List ℕ → Answer → List ℕ → Type 0
Answers f l line room a m = AnswersCall f line.call (take line.length room) l a m

-- ---- no second outcome
pub first_only : (f : Bool) (x : Answer) (k l : List ℕ) {r q : Answer} {m n : List ℕ} → First f x k l r m → First f x k l q n → (r ≡ q) × (m ≡ n)
first_only true x k l = both
first_only false x k l = both

answers_call_only :
    (f : Bool) (c : Call) (b l : List ℕ) (r q : Answer) (m n : List ℕ) → AnswersCall f c b l r m → AnswersCall f c b l q n → (r ≡ q) × (m ≡ n)
answers_call_only f Unreadable b l r q m n = both
answers_call_only f Append b l r q m n = both
answers_call_only f (Rollback i) b l r q m n = both
answers_call_only f Start b l r q m n = both
answers_call_only f Stop b l r q m n = both
answers_call_only f (Connect i) b l r q m n = both
answers_call_only f (Disconnect i) b l r q m n = both
answers_call_only f (Master i) b l r q m n = both
answers_call_only f (Sync i) b l r q m n = both
answers_call_only f (Work i j k o c) b l r q m n = both
answers_call_only f (Fold i) b l r q m n = both
answers_call_only f (Why i j k) b l r q m n = both
answers_call_only f (Night i k) b l r q m n = both
answers_call_only f ImportLine b l r q m n = first_only f _ _ l
answers_call_only f (Owner p) b l r q m n = both
answers_call_only f (Fresh v) b l r q m n = first_only f _ _ l

pub answers_only :
    (f : Bool) (l : List ℕ) (line : Line) (room : List ℕ) (r q : Answer) (m n : List ℕ) → Answers f l line room r m → Answers f l line room q n →
    (r ≡ q) × (m ≡ n)
answers_only f l line room r q m n = answers_call_only f line.call (take line.length room) l r q m n

-- The record of a log, change by change, as the bytes of its image give it (order 11). Assumes nothing.
use Rattle.std.specs.Prelude.{ℕ, zero, suc, ◌+◌, ◌*◌, ◌≤◌, ◌<◌, ◌≡◌, List, [], ◌++◌, Bool, true, false, length, drop}
use Rattle.kinds.specs.Outcome.{one}
use Rattle.machine.specs.State.{State, entry_of}
use Rattle.machine.specs.Class.{class_of}
use Rattle.machine.specs.Taken.{took, undid, holds}
use Rattle.machine.specs.Reads.{flag}
use Rattle.image.specs.Layout.{applied_at}
use Rattle.image.specs.Records.{folded_of, last_of, head_at}
use Rattle.image.specs.View.{view}
use Rattle.image.specs.Formed.{formed}
use Rattle.lines.specs.Decimal.{decimal}
use Rattle.lines.specs.Record.{listed, entry_line, folded_line, held_line, unformed_line, entry_room, folded_room, held_room}

-- ---- of a state
module _ (s : State) where
  -- the line of number k, which is kept
  abbrev pub change_text : ℕ → List ℕ
  change_text k =
      entry_line k (entry_of s.log k) (class_of (entry_of s.log k)) (flag (took s.log s.applied.head.ordinal.0 k))
      (flag (undid s.log s.applied.head.ordinal.0 k))

  -- those of the first n kept, the newest last
  unfoldable pub changes_text : ℕ → List ℕ
  changes_text zero = []
  changes_text (suc n) = changes_text n ++ change_text (s.log.folded.0 + suc n)

  -- of the first n kept, the numbers of those held
  abbrev pub held_text : ℕ → List ℕ
  held_text n = listed (λ j. holds s (s.log.folded.0 + suc j)) (λ j. decimal (s.log.folded.0 + suc j)) n

  -- then what is folded, then the changes held
  abbrev pub state_text : List ℕ
  state_text =
      changes_text (length s.log.entries)
      ++ (folded_line s.log.folded.0 s.log.base ++ held_line (holds s) s.log.folded.0 (length s.log.entries))

-- ---- of bytes
abbrev pub text_if : Bool → State → List ℕ
text_if true s = state_text s
text_if false s = unformed_line

unfoldable pub record_text : List ℕ → List ℕ
record_text l = text_if (formed l) (view l)

-- ---- what is promised
-- the most bytes that it can have: 128 changes are kept at most
abbrev pub record_room : ℕ
record_room = entry_room * 128 + (folded_room + held_room)

-- what the functions below `report` ask: a well-formed image and its applied ordinal; and a number that is kept
pub record Applied (l : List ℕ) (a : ℕ) : Type 0 where
  pub formed : formed l ≡ true
  pub ordinal : a ≡ (head_at l applied_at).ordinal.0

pub record Kept (l : List ℕ) (k a : ℕ) : Type 0 where
  pub applied : Applied l a
  pub kept : folded_of l < k
  pub last : k ≤ last_of l

-- the text stands at the start of what is lent, and behind it what stood there; `size` is its length
pub record Reports (input before : List ℕ) (size : ℕ) (after : List ℕ) : Type 0 where
  pub sized : size ≡ length (record_text input)
  pub fits : size ≤ length before
  pub holds : after ≡ record_text input ++ drop (length (record_text input)) before

pub reports_only : (l before : List ℕ) (r q : ℕ) (m n : List ℕ) → Reports l before r m → Reports l before q n → (r ≡ q) × (m ≡ n)
reports_only l before r q m n a b = (one a.sized b.sized, one a.holds b.holds)

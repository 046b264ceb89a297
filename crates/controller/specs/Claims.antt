-- What a public call claims of its reply and of the image that it leaves: one contract for all of them. Assumes nothing.
use Rattle.std.specs.Prelude.{ℕ, ◌≤◌, ◌<◌, ◌≡◌, Bool, true, List}
use Rattle.kinds.specs.declared.Reply.{Reply}
use Rattle.kinds.specs.declared.Status.{Status}
use Rattle.kinds.specs.declared.Status.TheVariants.{None, Pending, InProgress, Complete, Aborted, Canceled, Failed}
use Rattle.machine.specs.State.{State}
use Rattle.machine.specs.Settled.{settled}
use Rattle.machine.specs.Folding.{finished, entry_waits}
use Rattle.machine.specs.Calls.{Outcome, Call, unless, decide}
use Rattle.image.specs.Records.{entry_at, last_of, folded_of}
use Rattle.image.specs.View.{view, written}
use Rattle.image.specs.Formed.{formed}

-- refusal 1 comes first; then the machine decides from what the image shows
unfoldable pub outcome_of : List ℕ → Call → Outcome
outcome_of l c = unless 1 (formed l) (decide (view l) c)

-- the reply, and every byte
abbrev pub Claims : List ℕ → Call → Reply → List ℕ → Type 0
Claims l c r m = (r ≡ (outcome_of l c).reply) × (m ≡ written l (outcome_of l c).stores)

-- the same of a well-formed image: what the inner functions claim
abbrev pub Does : List ℕ → Call → Reply → List ℕ → Type 0
Does l c r m = (r ≡ (decide (view l) c).reply) × (m ≡ written l (decide (view l) c).stores)

-- a well-formed image, and the number of an entry that it keeps
pub record Entry (l : List ℕ) (i : ℕ) : Type 0 where
  pub formed : formed l ≡ true
  pub kept : folded_of l < i
  pub last : i ≤ last_of l

-- a well-formed image, its last fold and the highest number given
pub record Ring (l : List ℕ) (b n : ℕ) : Type 0 where
  pub formed : formed l ≡ true
  pub folded : b ≡ folded_of l
  pub last : n ≡ last_of l

-- ---- settled, as the code asks it
-- asked of a side whose apply is Pending; at any other status the rules do not look at it
abbrev pub settled_for : Status → State → Bool
settled_for Pending s = settled s
settled_for None s = true
settled_for InProgress s = true
settled_for Complete s = true
settled_for Aborted s = true
settled_for Canceled s = true
settled_for Failed s = true

-- ---- what a fold asks of an entry, as the code reads it
unfoldable pub waits_at : List ℕ → ℕ → ℕ → ℕ → Bool
waits_at l a g k = entry_waits a g k (entry_at l k)

unfoldable pub finished_at : List ℕ → ℕ → Bool
finished_at l k = finished (entry_at l k)

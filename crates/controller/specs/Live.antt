-- What `live` claims of its answer and of the room that it is lent (paper: The live list). Assumes nothing.
use Rattle.std.specs.Prelude.{ℕ, ◌+◌, ◌-◌, ◌*◌, ◌/◌, ◌%◌, ◌≤◌, ◌<◌, ◌≡◌, Bool, true, false, List, [], ◌∷◌, ◌++◌, leb, length, get_or, drop}
use Rattle.std.proofs.lemmas.List.Edits.{sets}
use Rattle.machine.specs.State.{State, entry_of}
use Rattle.machine.specs.LiveList.{hops, live}
use Rattle.machine.specs.Folding.{base_row}
use Rattle.image.specs.Layout.{slots}
use Rattle.image.specs.Records.{last_of, folded_of}
use Rattle.image.specs.View.{view}
use Rattle.image.specs.Formed.{formed}
use Rattle.controller.specs.declared.walking.Listed.{Listed}

-- the answer, and the room after it
pub record Listing : Type 0 where
  pub listed : Listed
  pub room : List ℕ

-- a refusal has length 0 and leaves the room as it is
abbrev pub unlisted : ℕ → List ℕ → Listing
unlisted a m = record { listed = record { answer = a; length = 0 }; room = m }

abbrev pub unless : ℕ → List ℕ → Bool → Listing → Listing
unless a m true x = x
unless a m false x = unlisted a m

-- numbers as the room has them: two bytes each, the low one first
unfoldable pub in_bytes : List ℕ → List ℕ
in_bytes [] = []
in_bytes (v ∷ vs) = v % 256 ∷ v / 256 ∷ in_bytes vs

-- the list, then the room past it as it was
abbrev pub listing : List ℕ → List ℕ → Listing
listing v m = record { listed = record { answer = 0; length = length v }; room = in_bytes v ++ drop (2 * length v) m }

-- 14 where the list is longer than the room
abbrev pub listing_in : List ℕ → List ℕ → Listing
listing_in v m = unless 14 m (leb (2 * length v) (length m)) (listing v m)

unfoldable pub listing_of : List ℕ → List ℕ → Listing
listing_of l m = unless 1 m (formed l) (listing_in (live (view l)) m)

abbrev pub Lists : List ℕ → List ℕ → Listed → List ℕ → Type 0
Lists l m r m' = (r ≡ (listing_of l m).listed) × (m' ≡ (listing_of l m).room)

-- the same of a well-formed image
abbrev pub ListsLive : List ℕ → List ℕ → Listed → List ℕ → Type 0
ListsLive l m r m' = (r ≡ (listing_in (live (view l)) m).listed) × (m' ≡ (listing_in (live (view l)) m).room)

-- ---- the walk, as the code makes it
-- the list from a number on; r.index is below its own number, so that number is hops enough
unfoldable pub live_from : State → ℕ → List ℕ
live_from s v = hops v s.log v

-- a well-formed image, its last fold, and a number that is folded or an entry's
pub record Chained (l : List ℕ) (b v : ℕ) : Type 0 where
  pub formed : formed l ≡ true
  pub folded : b ≡ folded_of l
  pub last : v ≤ last_of l

-- a number from which the live ones lay what those from v lay up to one, itself at most that one (order 10)
pub record Reaches (l : List ℕ) (b to v r : ℕ) : Type 0 where
  pub chained : Chained l b r
  pub low : r ≤ to
  pub same : base_row (view l).log to (live_from (view l) r) ≡ base_row (view l).log to (live_from (view l) v)

-- the links of the chain down from v: as many places on as a number is below the top, where its hop goes
pub record Linked (l : List ℕ) (b top v : ℕ) (t : List ℕ) : Type 0 where
  pub chained : Chained l b v
  pub size : length t ≡ slots
  pub links : (i : ℕ) → b < i → i ≤ v → get_or t (top - i) 0 ≡ (entry_of (view l).log i).index.0

-- a walk that has come to v over the links of an image, and a place for v where no link is that is still to be met
pub record Passing (t : List ℕ) (top b v at : ℕ) : Type 0 where
  pub image : List ℕ
  pub linked : Linked image b top v t
  pub places : top ≤ b + slots
  pub passed : at + v ≤ top

-- of every image with these links: how long the list from v is, and the table with the list from a place on
abbrev pub Walks : List ℕ → ℕ → ℕ → ℕ → ℕ → ℕ → List ℕ → Type 0
Walks t top b v at n t' = (l : List ℕ) → Linked l b top v t → (n ≡ length (live_from (view l) v)) × (t' ≡ sets t at (live_from (view l) v))

-- ---- the list as fold makes it for itself (order 10)
-- a number from which the list has room
pub record Fitting (l : List ℕ) (b v n : ℕ) : Type 0 where
  pub chained : Chained l b v
  pub room : length (live_from (view l) v) ≤ n

-- the room with a list at its start
abbrev pub Leading : List ℕ → List ℕ → List ℕ
Leading m v = v ++ drop (length v) m

-- the first n of m are the list from v
pub record ListedIn (l : List ℕ) (b v : ℕ) (m : List ℕ) (n : ℕ) : Type 0 where
  pub chained : Chained l b v
  pub count : n ≡ length (live_from (view l) v)
  pub same : (k : ℕ) → k < n → get_or m k 0 ≡ get_or (live_from (view l) v) k 0

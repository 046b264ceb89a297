-- What `import` claims: the verdict on the list, and the image that `fresh` and the list's calls leave, one after another; refused,
-- every byte is what it had been (order 6). Assumes nothing.
use Rattle.std.specs.Prelude.{ℕ, ◌+◌, ◌-◌, ◌%◌, ◌≤◌, ◌<◌, ◌≡◌, true, false, ◌&&◌, cond, List, [], eqb, leb, ltb, length}
use Rattle.machine.specs.State.{State}
use Rattle.machine.specs.Stores.{Store}
use Rattle.machine.specs.Calls.{valid_change}
use Rattle.machine.specs.Import.{Entry, adds, undoes, neither, judged, entry_size, two, pairs_at, entries_of, Import, import_of}
use Rattle.machine.specs.Entered.{change_stores, undo_stores}
use Rattle.image.specs.Layout.{image_length}
use Rattle.image.specs.Records.{last_of}
use Rattle.image.specs.View.{view}
use Rattle.image.specs.Formed.{formed}
use Rattle.image.specs.Fresh.{fresh_image}
use Rattle.controller.specs.declared.imports.Imported.{Imported}
use Rattle.controller.specs.declared.imports.Judged.{Judged}
use Rattle.controller.specs.Claims as claims
use Rattle.controller.specs.Nights.{lent_from}

-- ---- the call
-- an image of another length is refused (1) before the list is looked at
unfoldable pub import_in : (image list : List ℕ) → Import
import_in l b = cond (eqb (length l) image_length) (import_of b) (record { answer = 1; position = 0; calls = [] })

abbrev pub told : Import → Imported
told x = record { answer = x.answer; position = x.position }

-- what the image held does not matter where it is accepted
abbrev pub image_after : Import → List ℕ → List ℕ
image_after x l = cond (eqb x.answer 0) (lent_from (fresh_image false) x.calls) l

abbrev pub Imports : (image list : List ℕ) → Imported → (image : List ℕ) → Type 0
Imports l b r m = (r ≡ told (import_in l b)) × (m ≡ image_after (import_in l b) l)

-- ---- as the code makes it
abbrev pub refuses : (answer position : ℕ) → Imported
refuses a q = record { answer = a; position = q }

-- a list of 256 entries at most, and the place of one of them
abbrev pub Listed : List ℕ → Type 0
Listed b = (length b ≤ 5120) × (length b % entry_size ≡ 0)

abbrev pub Placed : List ℕ → (at : ℕ) → Type 0
Placed b at = (at + entry_size ≤ length b) × (length b ≤ 5120)

-- one entry, behind n changes of which d are live, the newest at place t
abbrev pub judged_one : (changes depth top : ℕ) → Entry → Judged
judged_one n d t (adds ps) =
    cond (valid_change ps) (cond (ltb n 128) (record { answer = 0; changes = n + 1; depth = d + 1 }) (record { answer = 4; changes = n; depth = d }))
    (record { answer = 3; changes = n; depth = d })
judged_one n d t (undoes p) = cond (leb 1 d && eqb p t) (record { answer = 0; changes = n; depth = d - 1 }) (record { answer = 16; changes = n; depth = d })
judged_one n d t neither = record { answer = 16; changes = n; depth = d }

-- the verdict on the list
abbrev pub Judges : List ℕ → Imported → Type 0
Judges b r = let v = judged (entries_of b) in r ≡ refuses v.answer v.position

-- a list that is accepted
abbrev pub Accepts : List ℕ → Type 0
Accepts b = Listed b × ((judged (entries_of b)).answer ≡ 0)

-- the stores of an entry of one, at once: a change's, or those of a rollback, which undoes the revision
abbrev pub entry_stores : State → List ℕ → (at : ℕ) → List Store
entry_stores s b at = cond (eqb (two b at) 1) (change_stores s (pairs_at b (at + 4) (two b (at + 2)))) (undo_stores s)

-- a well-formed image with room, and an entry that is a change
pub record Changes (l b : List ℕ) (at : ℕ) : Type 0 where
  pub formed : formed l ≡ true
  pub room : last_of l < 128
  pub placed : Placed b at
  pub valid : valid_change (pairs_at b (at + 4) (two b (at + 2))) ≡ true

-- a well-formed image that keeps its revision
abbrev pub Undoes : List ℕ → Type 0
Undoes l = claims.Entry l (view l).committed.head.revision.0

pub record Enters (l b : List ℕ) (at : ℕ) : Type 0 where
  pub placed : Placed b at
  pub change : two b at ≡ 1 → Changes l b at
  pub rollback : (two b at ≡ 1 → ⊥) → Undoes l

-- What an exported function claims: the controller's contract, with the answer packed. Assumes nothing.
use Rattle.std.specs.Prelude.{ℕ, ◌≡◌, Bool, true, false, List, eqb, leb, length}
use Rattle.kinds.specs.Events.{refusal}
use Rattle.machine.specs.Calls.{Call}
use Rattle.machine.specs.Reads.{Query}
use Rattle.image.specs.Layout.{image_length}
use Rattle.image.specs.Records.{flag_of}
use Rattle.image.specs.View.{written}
use Rattle.image.specs.Formed.{formed}
use Rattle.controller.specs.Claims.{outcome_of}
use Rattle.controller.specs.Fresh.{answer_if, image_if}
use Rattle.controller.specs.Live.{listing_of}
use Rattle.controller.specs.Reads.{read_of}
use Rattle.controller.specs.Reasons.{why_of}
use Rattle.controller.specs.Nights.{lent_from, room_after, given, night_in}
use Rattle.controller.specs.Imports.{import_in, told, image_after}
use Rattle.controller.specs.Tallies.{tally_of, totals_after}
use Rattle.northbound.specs.Packing.{Packs, PacksRead, PacksListed, PacksWhy, PacksNight, PacksImport, PacksTally}

abbrev pub Claims : List ℕ → Call → ℕ → List ℕ → Type 0
Claims l c p m = Packs (outcome_of l c).reply p × (m ≡ written l (outcome_of l c).stores)

abbrev pub Freshens : List ℕ → (remembers : ℕ) → ℕ → List ℕ → Type 0
Freshens l v p m =
    Packs (refusal (answer_if (eqb (length l) image_length) (leb v 1))) p × (m ≡ image_if (eqb (length l) image_length) (leb v 1) (flag_of v) l)

abbrev pub Lists : List ℕ → List ℕ → ℕ → List ℕ → Type 0
Lists l m p m' = PacksListed (listing_of l m).listed p × (m' ≡ (listing_of l m).room)

abbrev pub Shows : List ℕ → Query → ℕ → Type 0
Shows l q p = PacksRead (read_of l q) p

abbrev pub Explains : List ℕ → (node job number : ℕ) → ℕ → Type 0
Explains l n j i p = PacksWhy (why_of l n j i) p

abbrev pub Nights : List ℕ → (node budget : ℕ) → (outcomes room : List ℕ) → ℕ → (image room : List ℕ) → Type 0
Nights l n b os m p l' m' =
    let w = night_in l n b os in PacksNight (given w m) p × (l' ≡ lent_from l w.calls) × (m' ≡ room_after m w.events)

abbrev pub Imports : (image list : List ℕ) → ℕ → (image : List ℕ) → Type 0
Imports l b p m = let x = import_in l b in PacksImport (told x) p × (m ≡ image_after x l)

abbrev pub Tallies : (image : List ℕ) → (log : ℕ) → (totals : List ℕ) → ℕ → (totals : List ℕ) → Type 0
Tallies l k m p m' = PacksTally (tally_of l k m) p × (m' ≡ totals_after l k m)

-- 0 where it is well-formed, else the refusal
abbrev pub answer_of : Bool → ℕ
answer_of true = 0
answer_of false = 1

abbrev pub Tells : List ℕ → ℕ → Type 0
Tells l p = p ≡ answer_of (formed l)

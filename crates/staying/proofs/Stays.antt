-- What a call decides, made in a well-formed image, leaves a well-formed image that shows the machine's next state. Assumes
-- nothing.
use Prim.Native.Nat.{ℕ}
use mathlib.Core.Path.{◌≡◌, ap, sym, ◌∙◌, subst}
use mathlib.Core.Bool.{true}
use mathlib.Core.List.{List}
use borrow.Author.Tests.{eq-eqb}
use lib.Dec.{eqb}
use lib.ListN.{length}
use Rattle.fields.proofs.Laws.{Bytes}
use Rattle.machine.specs.State.{last}
use Rattle.machine.specs.Stores.{Store, afters}
use Rattle.machine.specs.WellFormed.{well_formed}
use Rattle.machine.proofs.Entries.{and_both}
use Rattle.machine.specs.Calls.{Call, Outcome, decide}
use Rattle.machine.specs.Step.{outcome, step}
use Rattle.machine.proofs.Kept.{step_keeps_well_formed}
use Rattle.machine.proofs.Kept as kept
use Rattle.image.specs.Layout.{image_length}
use Rattle.image.specs.Records.{last_of, folded_of}
use Rattle.image.specs.View.{view, written}
use Rattle.image.specs.Formed.{codes_ok, formed}
use Rattle.image.proofs.Scanned.{view_last, view_folded, formed_length, formed_codes, formed_state, formed_room}
use Rattle.image.proofs.Shown.{FitsAll, view_written, length_written}
use Rattle.staying.proofs.Sizes.{sizes}
use Rattle.staying.proofs.Rooms as rooms
use Rattle.staying.proofs.Codes.{codes, codes_ok_holds, codes_written}
use Rattle.staying.proofs.Lent.{bytes_written}

-- what a call decides to store has room in the image, whatever its arguments are
pub decide_fits : (l : List ℕ) (c : Call) → Bytes l → formed l ≡ true → FitsAll (folded_of l) (last_of l) (decide (view l) c).stores
decide_fits l c y w =
    subst (λ (n : ℕ). FitsAll (folded_of l) n (decide (view l) c).stores) (view_last l (formed_room l w).0)
    (subst (λ (b : ℕ). FitsAll b (last (view l).log) (decide (view l) c).stores) (view_folded l) (rooms.decide_fits (view l) (sizes l y w) (kept.formed (view l) (formed_state l w)) c))

-- of a well-formed image, the machine's outcome is what is decided
pub steps : (l : List ℕ) (c : Call) → formed l ≡ true → outcome (view l) c ≡ decide (view l) c
unfolding outcome
steps l c w = rw (formed_state l w)

-- ---- a row of stores that fit, and leaves a state that is well-formed
pub formed_written : (es : List Store) (l : List ℕ) → formed l ≡ true → FitsAll (folded_of l) (last_of l) es → well_formed (view (written l es)) ≡ true
    → formed (written l es) ≡ true
unfolding formed
formed_written es l w f d =
    let z : length l ≡ image_length = formed_length l w in
    let a : length (written l es) ≡ image_length = length_written es l z (formed_room l w) f in
    let k = codes_written es l z (formed_room l w) f (codes l (formed_codes l w)) in
    let b : codes_ok (written l es) ≡ true = codes_ok_holds _ k.1.0 k.0 in
    and_both (eqb (length (written l es)) image_length) _ (eq-eqb _ _ a) (and_both (codes_ok (written l es)) (well_formed (view (written l es))) b d)

-- ---- what is left
module _ (l : List ℕ) (c : Call) (y : Bytes l) (w : formed l ≡ true) where
  abbrev left : List ℕ
  left = written l (decide (view l) c).stores

  -- it shows the machine's next state
  pub shows : view left ≡ (step (view l) c).next
  unfolding step
  shows =
      view_written (decide (view l) c).stores l (formed_length l w) (formed_room l w) (decide_fits l c y w)
      ∙ ap (λ (o : Outcome). afters (view l) o.stores) (sym (steps l c w))

  -- bytes stay bytes
  pub stays_bytes : Bytes left
  stays_bytes = bytes_written (decide (view l) c).stores l y

  -- and it stays well-formed
  pub stays_formed : formed left ≡ true
  stays_formed =
      formed_written (decide (view l) c).stores l w (decide_fits l c y w) (ap well_formed shows ∙ step_keeps_well_formed (view l) c (formed_state l w))

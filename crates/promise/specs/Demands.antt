-- THE PROMISE: each of the three demands, said of the bytes that are lent and of what comes back. No proof in it; each holds
-- of every call by Promise, in the controller and as C sees it. Assumes nothing.
use Rattle.std.specs.Prelude.{ℕ, ◌<◌, ◌≡◌, Bool, true, false, List, [], ◌∷◌, length, get_or}
use Rattle.kinds.specs.declared.Reply.{Reply}
use Rattle.kinds.specs.declared.Event.{Event}
use Rattle.kinds.specs.Events.{no_event, refusal}
use Rattle.machine.specs.State.{unfolded, last, line_open_for}
use Rattle.machine.specs.Calls.{Call}
use Rattle.machine.specs.Step.{step}
use Rattle.machine.specs.Notes.{Note, notes}
use Rattle.machine.specs.Reads.{of_table}
use Rattle.image.specs.View.{view}
use Rattle.image.specs.Formed.{formed}
use Rattle.controller.specs.Live.{listing_in}
use Rattle.controller.specs.declared.reads.Read.{Read}
use Rattle.northbound.specs.Packing.{unpacked, unpacked_read, unpacked_listed}
use Rattle.northbound.specs.Exports as north
use Rattle.history.specs.Demand3.{live, kept, highest, newest_first, last_cut, made_good, Begun, with_pairs, with_returned}
use Rattle.history.specs.Given.{given}

-- ---- 1: any bytes, any numbers. The call on l was replied with r, and left m
pub record Demand1 (l : List ℕ) (r : Reply) (m : List ℕ) : Type 0 where
  -- what cannot be done is refused by number: with no event, and every byte is what it had been
  pub refused : (r.answer ≡ 0 → ⊥) → (r.event ≡ no_event) × (m ≡ l)
  -- bytes that are no well-formed image are refused with 1, and nothing else is
  pub unformed : formed l ≡ false → r ≡ refusal 1
  pub formed : formed l ≡ true → r.answer ≡ 1 → ⊥
  -- no byte is lost and none comes
  pub length : length m ≡ length l

-- ---- 2: of a well-formed image, the next state and event of the rules
pub record Demand2 (l : List ℕ) (c : Call) (r : Reply) (m : List ℕ) : Type 0 where
  pub reply : r ≡ (step (view l) c).reply
  pub state : view m ≡ (step (view l) c).next
  pub formed : formed m ≡ true

-- ---- 3: what a C host reads in the image m, after the calls cs from fresh, of either kind, and the events es that they gave,
-- newest first
abbrev pub found : ℕ → Read
found v = record { answer = 0; value = v }

-- what is read of the target is vs
abbrev pub ReadsTarget : (image values : List ℕ) → Type 0
ReadsTarget m vs = (p x : ℕ) → p < 32 → north.Shows m (of_table 3 p) x → unpacked_read x ≡ found (get_or vs p 0)

-- what is read of the target, the line being open: what is read of the applied values; or those that the image shows overlaid
-- with the pairs of the transaction last cut at its first store, kept, that has begun to apply and whose rollback has not
-- completed its apply, or with its rollback values
pub data Target (es : List Event) (ns : List Note) (m : List ℕ) : Type 0 where
  applied : ((p x y : ℕ) → north.Shows m (of_table 2 p) x → north.Shows m (of_table 3 p) y → x ≡ y) → Target es ns m
  pushed : (k : ℕ) → (view m).log.folded.0 < k → k ≡ last_cut ns → Begun es k → ReadsTarget m (with_pairs (view m) k) → Target es ns m
  returned : (k : ℕ) → (view m).log.folded.0 < k → k ≡ last_cut ns → Begun es k → ReadsTarget m (with_returned (view m) k) → Target es ns m

pub record Demand3C (kind : Bool) (cs : List Call) (es : List Event) (m : List ℕ) : Type 0 where
  -- the committed value of every path is that of the highest-numbered change ever given and setting it whose commit Complete
  -- event has been given and whose rollback commit Complete event has not, or absent
  pub committed : (p x : ℕ) → p < 32 → north.Shows m (of_table 1 p) x → unpacked_read x ≡ found (highest (unfolded (given kind cs)) (live es 1) (length (given kind cs)) p)
  -- the same of the applied values, with apply
  pub applied : (p x : ℕ) → p < 32 → north.Shows m (of_table 2 p) x → unpacked_read x ≡ found (highest (unfolded (given kind cs)) (live es 2) (length (given kind cs)) p)
  -- whenever the line is open for some node, the target is read so (order 8)
  pub line : (n : ℕ) → line_open_for (view m).net n ≡ true → Target es (notes kind cs) m
  -- and as the applied values are where no push has been cut at its first store since the last synchronise that wrote, or where
  -- the transaction last so cut has since had an accepted push that was not so cut
  pub whole : (n p x y : ℕ) → line_open_for (view m).net n ≡ true → made_good (notes kind cs) ≡ true
      → north.Shows m (of_table 2 p) x → north.Shows m (of_table 3 p) y → x ≡ y
  -- the live list is the changes kept that the first part speaks of, newest first, or 14 where the room is too short
  pub list : (room room' : List ℕ) (x : ℕ) → north.Lists m room x room'
      → (let v = listing_in (newest_first (kept (view m) (live es 1)) (last (view m).log)) room in (unpacked_listed x ≡ v.listed) × (room' ≡ v.room))

-- ---- calls that a C host made on the image l, newest first, with the packed answers, and the image that they left
pub data Serving (l : List ℕ) : List Call → List ℕ → List ℕ → Type 0 where
  nothing : Serving l [] [] l
  further : {cs : List Call} {xs k : List ℕ} → Serving l cs xs k → (c : Call) (x : ℕ) (m : List ℕ) → north.Claims k c x m → Serving l (c ∷ cs) (x ∷ xs) m

abbrev pub event_in : ℕ → Event
event_in x = (unpacked x).event

-- AN IMPORT, on bytes (order 6; of lists: machine's Import and Imports). No proof in it; each holds of every import by Imports, in
-- the controller and as C sees it. Assumes nothing.
use Rattle.std.specs.Prelude.{ℕ, ◌<◌, ◌≡◌, true, false, List, ◌++◌, length}
use Rattle.kinds.specs.declared.Reply.{Reply}
use Rattle.kinds.specs.declared.Event.{Event}
use Rattle.machine.specs.Calls.{Call}
use Rattle.machine.specs.Step.{run}
use Rattle.machine.specs.Reads.{of_owner, of_class, of_took, of_undone}
use Rattle.machine.specs.Import.{Verdict, entries_of, import_calls}
use Rattle.machine.specs.Imports.{Verdicts}
use Rattle.machine.specs.Imports as machine
use Rattle.image.specs.Layout.{image_length}
use Rattle.image.specs.View.{view}
use Rattle.image.specs.Formed.{formed}
use Rattle.image.specs.Fresh.{fresh_image}
use Rattle.controller.specs.declared.imports.Imported.{Imported}
use Rattle.controller.specs.Fresh.{Freshens}
use Rattle.controller.specs.Imports.{Listed}
use Rattle.northbound.specs.Packing.{unpacked_read, unpacked_night, unpacked_why}
use Rattle.northbound.specs.Exports as north
use Rattle.link.specs.Runs.{Calling}
use Rattle.promise.specs.Demands.{Demand3C}
use Rattle.promise.specs.Reasons.{Explained}
use Rattle.promise.specs.Nights.{Accepted, AreCalls, Suffices}
use Rattle.promise.specs.Owners.{Owned}
use Rattle.promise.specs.Audits.{Keeps, Audited}

-- ---- any bytes: an import of the list b on the image l was answered r, and left m
-- 1 where the image has another length; else 2 where the bytes are no list of at most 256 entries; else the verdict on its entries
pub data Answers (l b : List ℕ) : Imported → Type 0 where
  image : (length l ≡ image_length → ⊥) → Answers l b (record { answer = 1; position = 0 })
  list : length l ≡ image_length → (Listed b → ⊥) → Answers l b (record { answer = 2; position = 0 })
  entries : {v : Verdict} → length l ≡ image_length → Listed b → Verdicts (entries_of b) v → Answers l b (record { answer = v.answer; position = v.position })

pub record AnyImport (l b : List ℕ) (r : Imported) (m : List ℕ) : Type 0 where
  pub answers : Answers l b r
  -- refused, every byte is what it had been
  pub refused : (r.answer ≡ 0 → ⊥) → m ≡ l
  -- no byte is lost and none comes
  pub length : length m ≡ length l

-- ---- accepted: `fresh` on the image, of a switch that forgets, and then the list's calls, one after another, leave the very image,
-- and each is accepted
pub record ImportCalls (l b : List ℕ) (r : Imported) (m : List ℕ) : Type 0 where
  pub replies : List Reply
  pub made : (k : List ℕ) (u : Reply) → Freshens l 0 u k → Calling k (import_calls (entries_of b)) replies m
  pub accepted : Accepted replies
  pub position : r.position ≡ 0
  pub formed : formed m ≡ true
  -- all commits finished, nothing applied, and what else is said of the state
  pub left : machine.Imported (entries_of b) (view m)

-- ---- in place of the fresh start: what came behind it, the newest first, and behind that the calls that the list stands for, with
-- their events
abbrev pub calls_with : (list : List ℕ) → List Call → List Call
calls_with b cs = cs ++ import_calls (entries_of b)

abbrev pub events_with : (list : List ℕ) → List Event → List Event
events_with b es = es ++ (run false (import_calls (entries_of b))).events

-- ---- and so, in C, all that is promised of an image that `fresh` began. The image m is what was left behind an import of the
-- list b by the calls cs, nights and all, with their events es
pub record BehindC (b : List ℕ) (cs : List Call) (es : List Event) (m : List ℕ) : Type 0 where
  -- they are calls alone on the fresh image, which the import's stand before
  pub calls : AreCalls (fresh_image false) (calls_with b cs) (events_with b es) m
  -- demand 3, with the events of the import's calls
  pub demand : Demand3C false (calls_with b cs) (events_with b es) m
  -- a night of 6 jobs for each transaction kept is enough (order 2)
  pub enough : (n c : ℕ) (os x : List ℕ) (p : ℕ) (m' y : List ℕ) → north.Nights m n c os x p m' y → Suffices 6 m n c (unpacked_night p) m'
  -- and what makowist_why tells of a transaction is so (order 4)
  pub explained : (n j i x : ℕ) → north.Explains m n j i x → (unpacked_why x).answer ≡ 0 → Explained (events_with b es) m j i (unpacked_why x)
  -- who makowist_owner names is who set the path (order 7)
  pub owned : (p x : ℕ) → p < 32 → north.Shows m (of_owner p) x → Owned (events_with b es) m p (unpacked_read x)
  -- and what makowist_took, makowist_undone and makowist_class tell of a number that is kept is so (order 11)
  pub audited : (k t u c : ℕ) → Keeps m k → north.Shows m (of_took k) t → north.Shows m (of_undone k) u → north.Shows m (of_class k) c
      → Audited (events_with b es) m k (unpacked_read t) (unpacked_read u) (unpacked_read c)

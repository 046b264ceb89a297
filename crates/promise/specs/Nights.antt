-- A NIGHT, on bytes (order 2; of states: machine's Night and history's Finished). No proof in it; each holds of every night by
-- Nights, in the controller and as C sees it. Assumes nothing.
use Rattle.std.specs.Prelude.{ℕ, ◌*◌, ◌≤◌, ◌<◌, ◌≡◌, true, cond, List, [], ◌∷◌, ◌++◌, map, eqb, length, get_or}
use Rattle.kinds.specs.declared.Reply.{Reply}
use Rattle.kinds.specs.declared.Event.{Event}
use Rattle.kinds.specs.Events.{no_event}
use Rattle.fields.specs.Field.{fields_at}
use Rattle.machine.specs.State.{last, is_master, line_open_for}
use Rattle.machine.specs.LiveList as list
use Rattle.machine.specs.Calls.{Call, work}
use Rattle.machine.specs.Night.{night_ok, trial, turns}
use Rattle.image.specs.View.{view}
use Rattle.image.specs.Formed.{formed}
use Rattle.controller.specs.declared.nights.Night.{Night}
use Rattle.controller.specs.Claims.{Claims}
use Rattle.controller.specs.Nights.{event_size, fours, event_numbers, fitting, night_in, Nights}
use Rattle.northbound.specs.Exports as north
use Rattle.link.specs.Runs.{Calling}
use Rattle.link.proofs.Link.{event_of}
use Rattle.history.specs.Finished.{Ended}
use Rattle.promise.specs.Demands.{event_in}

-- ---- any bytes, any numbers: a night of node n, with budget b and outcomes os, on the image l and the room x was answered r, and
-- left m and y
-- 1 where the bytes are no well-formed image, else 2 where node, budget or table is out of range, else 10 where the node is not
-- master
abbrev pub answer_to : List ℕ → (node budget : ℕ) → List ℕ → ℕ
answer_to l n b os = cond (formed l) (cond (night_ok n b os) (cond (is_master (view l).net n) 0 10) 2) 1

pub record AnyNight (l : List ℕ) (n b : ℕ) (os x : List ℕ) (r : Night) (m y : List ℕ) : Type 0 where
  pub answer : r.answer ≡ answer_to l n b os
  -- refused, it did nothing: every byte of the image and of the room is what it had been
  pub refused : (r.answer ≡ 0 → ⊥) → (m ≡ l) × (y ≡ x)
  pub nothing : (r.answer ≡ 0 → ⊥) → (r.jobs ≡ 0) × (r.stopped ≡ 0) × (r.events ≡ 0)
  -- no byte is lost and none comes
  pub room : length y ≡ length x
  pub length : length m ≡ length l

-- ---- the events in the room, the list having the newest first
-- the k-th given, from 0
unfoldable pub kth : List Event → ℕ → Event
kth [] k = no_event
kth (e ∷ es) k = cond (eqb k (length es)) e (kth es k)

-- c of the events es are shown in the room y, which was x: each has 16 bytes, in the order in which they were given, and behind
-- them every byte is what it had been
pub record Shown (x : List ℕ) (es : List Event) (c : ℕ) (y : List ℕ) : Type 0 where
  -- all of them, or as many as there is room for
  pub count : c ≡ fitting (length es) (length x)
  -- phase, stage, number and status, of four bytes each
  pub there : (k : ℕ) → k < c → fields_at y (event_size * k) fours ≡ event_numbers (kth es k)
  pub behind : (j : ℕ) → event_size * c ≤ j → get_or y j 0 ≡ get_or x j 0

-- ---- why it stopped, by the jobs that a turn tries on the image m that is left
-- job j of the k-th that is kept
abbrev pub tried : List ℕ → (node : ℕ) → List ℕ → (job k : ℕ) → Call
tried m n os j k = trial os (view m).log.folded.0 n j k

-- some job is answered a
pub record SomeJob (m : List ℕ) (n : ℕ) (os : List ℕ) (a : ℕ) : Type 0 where
  pub job : ℕ
  pub place : ℕ
  pub answer : (q : Reply) (z : List ℕ) → Claims m (tried m n os job place) q z → q.answer ≡ a

-- none is
abbrev pub NoJob : List ℕ → (node : ℕ) → List ℕ → (answer : ℕ) → Type 0
NoJob m n os a = (j k : ℕ) (q : Reply) (z : List ℕ) → Claims m (tried m n os j k) q z → q.answer ≡ a → ⊥

pub record Stopped (m : List ℕ) (n b : ℕ) (os : List ℕ) (r : Night) : Type 0 where
  pub known : r.stopped ≤ 2
  -- every job is refused, and none with 12
  pub ended : r.stopped ≡ 0 → (NoJob m n os 0) × (NoJob m n os 12)
  -- every job is refused, and some with 12
  pub lineless : r.stopped ≡ 1 → (NoJob m n os 0) × (SomeJob m n os 12)
  -- the budget is spent, and a job could still go
  pub spent : r.stopped ≡ 2 → (r.jobs ≡ b) × (SomeJob m n os 0)

-- ---- accepted, of a well-formed image: the jobs that it did
unfoldable pub Accepted : List Reply → Type 0
Accepted [] = Unit {0}
Accepted (r ∷ rs) = (r.answer ≡ 0) × Accepted rs

pub record NightJobs (l : List ℕ) (n b : ℕ) (os x : List ℕ) (r : Night) (m y : List ℕ) : Type 0 where
  pub replies : List Reply
  -- the turns of the definition, called one after another, leave the very image, and each is accepted
  pub made : Calling l (turns (view l) os n b) replies m
  pub accepted : Accepted replies
  pub jobs : r.jobs ≡ length replies
  pub within : r.jobs ≤ b
  -- the events in the room are those of the replies
  pub room : Shown x (map event_of replies) r.events y
  -- and these calls and events are what is counted of it among other calls (Acting)
  pub counted : ((night_in l n b os).calls ≡ turns (view l) os n b) × ((night_in l n b os).events ≡ map event_of replies)
  pub stopped : Stopped m n b os r

-- ---- calls and nights on the image l, which left m, with the calls cs that they come to and the events es that these gave, newest
-- first: a night comes to its turns, or to none where it is refused
pub data Acting (l : List ℕ) : List Call → List Event → List ℕ → Type 0 where
  none : Acting l [] [] l
  call : {cs : List Call} {es : List Event} {k : List ℕ} → Acting l cs es k → (c : Call) (r : Reply) (m : List ℕ) → Claims k c r m
      → Acting l (c ∷ cs) (r.event ∷ es) m
  nightly : {cs : List Call} {es : List Event} {k : List ℕ} → Acting l cs es k → (n b : ℕ) (os x : List ℕ) (r : Night) (m y : List ℕ) → Nights k n b os x r m y
      → Acting l ((night_in k n b os).calls ++ cs) ((night_in k n b os).events ++ es) m

-- the same of a C host, with the packed answers
pub data ActingC (l : List ℕ) : List Call → List Event → List ℕ → Type 0 where
  nothing : ActingC l [] [] l
  further : {cs : List Call} {es : List Event} {k : List ℕ} → ActingC l cs es k → (c : Call) (x : ℕ) (m : List ℕ) → north.Claims k c x m
      → ActingC l (c ∷ cs) (event_in x ∷ es) m
  overnight : {cs : List Call} {es : List Event} {k : List ℕ} → ActingC l cs es k → (n b : ℕ) (os x : List ℕ) (p : ℕ) (m y : List ℕ) → north.Nights k n b os x p m y
      → ActingC l ((night_in k n b os).calls ++ cs) ((night_in k n b os).events ++ es) m

-- so they are calls alone, whose replies have those events: what is promised of calls holds of them
pub record AreCalls (l : List ℕ) (cs : List Call) (es : List Event) (m : List ℕ) : Type 0 where
  pub replies : List Reply
  pub calls : Calling l cs replies m
  pub events : map event_of replies ≡ es

-- ---- enough jobs: a night that was answered r, and left m
pub record Enough (r : Night) (m : List ℕ) : Type 0 where
  pub stopped : r.stopped ≡ 0
  -- no job is possible, by any node, with any outcome and cut
  pub none : (n j i o c : ℕ) (q : Reply) (z : List ℕ) → Claims m (work n j i o c) q z → q.answer ≡ 0 → ⊥
  -- and all that is unfinished of what is kept is a rollback of a change that is not the newest live one
  pub ended : (k : ℕ) → (view m).log.folded.0 < k → k ≤ last (view m).log → Ended (view m) (list.live (view m)) k

-- e jobs for each transaction kept are enough, where the night of node n on the image l was accepted and its line was open
abbrev pub Suffices : (e : ℕ) → List ℕ → (node budget : ℕ) → Night → List ℕ → Type 0
Suffices e l n b r m = r.answer ≡ 0 → line_open_for (view l).net n ≡ true → e * length (view l).log.entries ≤ b → Enough r m

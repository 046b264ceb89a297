-- What `night` claims: refusal 1, then the night that the machine makes of what the image shows (order 2); the image that its
-- turns leave, and their events in the room that is lent. Assumes nothing.
use Rattle.std.specs.Prelude.{ℕ, ◌+◌, ◌-◌, ◌*◌, ◌/◌, ◌≤◌, ◌<◌, ◌≡◌, Bool, true, false, ◌&&◌, ◌||◌, cond, List, [], ◌∷◌, eqb, leb, ltb, length}
use Rattle.kinds.specs.declared.Transaction.{Transaction}
use Rattle.kinds.specs.declared.Side.{Side}
use Rattle.kinds.specs.declared.Number.{Number}
use Rattle.kinds.specs.declared.Event.{Event}
use Rattle.kinds.specs.declared.Status.{Status}
use Rattle.kinds.specs.declared.Status.TheVariants.{None, Pending, InProgress, Complete, Aborted, Canceled, Failed}
use Rattle.kinds.specs.Numbers.{follows}
use Rattle.kinds.specs.Statuses.{code_of, is_complete, is_pending}
use Rattle.rules.specs.declared.Plan.{Plan}
use Rattle.rules.specs.declared.Present.{Present}
use Rattle.rules.specs.CommitChange.{commit_change}
use Rattle.rules.specs.CommitRollback.{commit_rollback}
use Rattle.rules.specs.ApplyChange.{apply_change}
use Rattle.rules.specs.ApplyRollback.{apply_rollback}
use Rattle.machine.specs.State.{State, entry_of, four, is_node, is_master, line_open_for}
use Rattle.machine.specs.Settled.{settled}
use Rattle.machine.specs.Rest.{rest_of}
use Rattle.machine.specs.Rows.{rows_of}
use Rattle.machine.specs.Calls.{Call, work, present_of, plan_of, commits}
use Rattle.machine.specs.Night as machine
use Rattle.machine.specs.Night.{outcome_at, table_ok, turn, all, needs_line, night_not, through}
use Rattle.fields.specs.Field.{put_fields}
use Rattle.image.specs.Records.{last_of, folded_of}
use Rattle.image.specs.View.{view, written}
use Rattle.image.specs.Formed.{formed}
use Rattle.controller.specs.declared.nights.Night.{Night}
use Rattle.controller.specs.declared.nights.Scene.{Scene}
use Rattle.controller.specs.declared.nights.Tried.{Tried}
use Rattle.controller.specs.declared.nights.Found.{Found}
use Rattle.controller.specs.Claims.{outcome_of}

-- ---- the image after calls, each as its contract claims, the newest first
unfoldable pub lent_from : List ℕ → List Call → List ℕ
lent_from l [] = l
lent_from l (c ∷ cs) = let m = lent_from l cs in written m (outcome_of m c).stores

-- ---- the room after events, the newest first: four numbers of four bytes each, in the order in which they were given, from
-- the start of the room on, as far as there is room
abbrev pub event_size : ℕ
event_size = 16

abbrev pub fours : List ℕ
fours = 4 ∷ 4 ∷ 4 ∷ 4 ∷ []

abbrev pub event_numbers : Event → List ℕ
event_numbers e = e.phase ∷ e.stage ∷ e.number.0 ∷ code_of e.status ∷ []

-- the k-th, from 0
unfoldable pub put_event : List ℕ → ℕ → Event → List ℕ
put_event m k e = cond (leb (event_size * k + event_size) (length m)) (put_fields m (event_size * k) fours (event_numbers e)) m

unfoldable pub room_after : List ℕ → List Event → List ℕ
room_after m [] = m
room_after m (e ∷ es) = put_event (room_after m es) (length es) e

-- how many of them are there
abbrev pub fitting : (jobs room : ℕ) → ℕ
fitting k r = cond (ltb k (r / event_size)) k (r / event_size)

-- ---- the call
abbrev pub given : machine.Night → List ℕ → Night
given w m = record { answer = w.answer; jobs = w.jobs; stopped = w.stopped; events = fitting w.jobs (length m) }

unfoldable pub night_in : List ℕ → (node budget : ℕ) → List ℕ → machine.Night
night_in l n b os = night_not (view l) 1 (formed l) (machine.night (view l) n b os)

-- a night of the machine, as the code answers it, with the image and the room that it leaves
abbrev pub Leaves : machine.Night → (image room : List ℕ) → Night → (image room : List ℕ) → Type 0
Leaves w l m r l' m' = (r ≡ given w m) × (l' ≡ lent_from l w.calls) × (m' ≡ room_after m w.events)

abbrev pub Nights : List ℕ → (node budget : ℕ) → (outcomes room : List ℕ) → Night → (image room : List ℕ) → Type 0
Nights l n b os m r l' m' = Leaves (night_in l n b os) l m r l' m'

-- ---- as the code makes it
abbrev pub refuses : ℕ → Night
refuses a = record { answer = a; jobs = 0; stopped = 0; events = 0 }

-- a well-formed image, and a node and a table that a night is made of
pub record Awake (l : List ℕ) (n : ℕ) (os : List ℕ) : Type 0 where
  pub formed : formed l ≡ true
  pub node : is_node n ≡ true
  pub table : table_ok os ≡ true
  pub master : is_master (view l).net n ≡ true

-- what a turn's rules read beside the entry
abbrev pub scene_of : State → ℕ → Scene
scene_of s n =
    record {
      committed = s.committed.head;
      change = s.change;
      rest = rest_of s;
      applied = s.applied.head;
      line = line_open_for s.net n;
    }

-- ---- settled, as a turn asks it
-- committed, Pending to be applied, and the ordinal straight after Applied's
unfoldable pub is_next : (ordinal : ℕ) → Side → Bool
is_next a x = is_complete x.commit && (is_pending x.apply && follows a x.ordinal.0)

-- asked of an entry one of whose sides is next; the rules do not look at it elsewhere
unfoldable pub settled_at : (ordinal : ℕ) → Transaction → State → Bool
settled_at a t s = cond (is_next a t.change || is_next a t.rollback) (settled s) true

-- ---- the present values and owners, as a turn loads them
abbrev pub no_present : Present
no_present = record { values = four; owners = four }

-- where a change may begin: Pending to be committed, and its number straight after Committed's change
unfoldable pub present_at : (change number : ℕ) → Transaction → State → Present
present_at c i t s = cond (is_pending t.change.commit && follows c i) (present_of s t) no_present

-- ---- numbers that need not be tried: an entry of which nothing is left
-- neither Pending nor InProgress
abbrev pub stands : Status → Bool
stands None = true
stands Pending = false
stands InProgress = false
stands Complete = true
stands Aborted = true
stands Canceled = true
stands Failed = true

-- each stage of entry t, numbered i, stands; and Committed's change c and Applied's ordinal a have passed it
unfoldable pub idle : (change ordinal number : ℕ) → Transaction → Bool
idle c a i t =
    ((stands t.change.commit && stands t.change.apply) && (stands t.rollback.commit && stands t.rollback.apply))
    && (leb i c && (leb t.change.ordinal.0 a && leb t.rollback.ordinal.0 a))

abbrev pub idle_in : State → ℕ → Bool
idle_in s i = idle s.change.0 s.applied.head.ordinal.0 i (entry_of s.log i)

-- every number kept up to i is so
pub record Quiet (l : List ℕ) (i : ℕ) : Type 0 where
  pub kept : folded_of l ≤ i
  pub last : i ≤ last_of l
  pub idle : (k : ℕ) → folded_of l < k → k ≤ i → idle_in (view l) k ≡ true

-- ---- a turn
-- the first of four answers that is 0; where none is, whether that of job 2 or 4 is 12
unfoldable pub first_of : (a b c d : ℕ) → Tried
first_of a b c d =
    cond (eqb a 0) (record { job = 1; lacks = false })
    (cond (eqb b 0) (record { job = 2; lacks = false })
    (cond (eqb c 0) (record { job = 3; lacks = false })
    (cond (eqb d 0) (record { job = 4; lacks = false }) (record { job = 0; lacks = eqb b 12 || eqb d 12 }))))

-- the answers of the four jobs; what job 1 would keep does not change its answer
abbrev pub tries : Transaction → Number → Scene → (settled valid taken : Bool) → Tried
tries t i x q v u =
    first_of (commit_change t x.committed x.change x.rest i v no_present).answer (apply_change t x.applied q i x.line u).answer
    (commit_rollback t x.committed x.rest i).answer (apply_rollback t x.applied q i x.line true).answer

-- the plan of one of them
unfoldable pub plans_by : (job : ℕ) → Transaction → Number → Scene → (settled valid taken : Bool) → Present → Plan
plans_by j t i x q v u vs =
    cond (eqb j 1) (commit_change t x.committed x.change x.rest i v vs)
    (cond (eqb j 2) (apply_change t x.applied q i x.line u)
    (cond (eqb j 3) (commit_rollback t x.committed x.rest i) (apply_rollback t x.applied q i x.line true)))

-- the outcome of a job of number i, by the table
abbrev pub outcome_in : State → List ℕ → (job number : ℕ) → ℕ
outcome_in s os j i = outcome_at os j (i - s.log.folded.0)

-- a turn's job with its plan, or none and whether one was refused with 12
pub record Finds (s : State) (n : ℕ) (os : List ℕ) (r : Found) : Type 0 where
  pub some : (r.job ≡ 0 → ⊥) → turn s os n ≡ work n r.job r.number (outcome_in s os r.job r.number) 0 ∷ []
  pub plan : (r.job ≡ 0 → ⊥) → r.plan ≡ plan_of s n r.job r.number (eqb (outcome_in s os r.job r.number) 0)
  pub none : r.job ≡ 0 → (turn s os n ≡ []) × (needs_line s (all s os n) ≡ r.lacks)

-- a turn that is made: where a job was found, its rows are in the image and its event is the k-th of the room
pub record Turns (l : List ℕ) (n : ℕ) (os room : List ℕ) (k : ℕ) (r : Tried) (l' room' : List ℕ) : Type 0 where
  pub found : Found
  pub finds : Finds (view l) n os found
  pub tried : r ≡ record { job = found.job; lacks = found.lacks }
  pub done : (found.job ≡ 0 → ⊥)
      → (l' ≡ written l (rows_of (commits found.job) found.plan found.number false false)) × (room' ≡ put_event room k found.plan.event)
  pub kept : found.job ≡ 0 → (l' ≡ l) × (room' ≡ room)

-- why it stopped, by a turn's job
abbrev pub stopped_at : (job : ℕ) → (lacks : Bool) → ℕ
stopped_at j x = cond (eqb j 0) (cond x 1 0) 2

-- its turns, of an image that is awake
abbrev pub Through : List ℕ → (node budget : ℕ) → (outcomes room : List ℕ) → Night → (image room : List ℕ) → Type 0
Through l n b os m r l' m' = Leaves (through (view l) n b os) l m r l' m'

-- the same of a well-formed image
abbrev pub Nighted : List ℕ → (node budget : ℕ) → (outcomes room : List ℕ) → Night → (image room : List ℕ) → Type 0
Nighted l n b os m r l' m' = Leaves (machine.night (view l) n b os) l m r l' m'

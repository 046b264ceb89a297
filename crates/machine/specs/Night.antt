-- Order 2, work by itself through the night: the turns that a node makes with a budget and a table of outcomes.
-- Assumes nothing.
use Rattle.std.specs.Prelude.{ℕ, zero, suc, ◌+◌, ◌*◌, List, [], ◌∷◌, ◌++◌, Bool, true, false, ◌&&◌, ◌||◌, cond, eqb, leb, length, get_or}
use Rattle.kinds.specs.declared.Event.{Event}
use Rattle.machine.specs.State.{State, is_node, is_master}
use Rattle.machine.specs.WellFormed.{well_formed}
use Rattle.machine.specs.Calls.{Call, work}
use Rattle.machine.specs.Step.{step, state_from, events_from}

-- ---- the table: two outcomes for each transaction kept, in log order, of the validation and of the push of the change; the
-- pushes of rollbacks are accepted. The first kept is the 1st
abbrev pub outcome_at : List ℕ → ℕ → ℕ → ℕ
outcome_at os j zero = 0
outcome_at os j (suc k) = cond (eqb j 1) (get_or os (2 * k) 0) (cond (eqb j 2) (get_or os (2 * k + 1) 0) 0)

unfoldable pub bits : List ℕ → Bool
bits [] = true
bits (o ∷ os) = leb o 1 && bits os

abbrev pub table_ok : List ℕ → Bool
table_ok os = eqb (length os) 256 && bits os

-- ---- a turn: the numbers kept, from the lowest upward, jobs 1 to 4 for each, the first that isn't refused, without cut
-- job j for the k-th kept, b being the last fold
abbrev pub trial : List ℕ → (b node job k : ℕ) → Call
trial os b n j k = work n j (b + k) (outcome_at os j k) 0

-- m of them, from the k-th upward
unfoldable pub trials : List ℕ → ℕ → ℕ → ℕ → ℕ → List Call
trials os b n k zero = []
trials os b n k (suc m) = trial os b n 1 k ∷ trial os b n 2 k ∷ trial os b n 3 k ∷ trial os b n 4 k ∷ trials os b n (suc k) m

-- that one alone, or none
unfoldable pub first_done : State → List Call → List Call
first_done s [] = []
first_done s (c ∷ cs) = cond (eqb (step s c).reply.answer 0) (c ∷ []) (first_done s cs)

abbrev pub all : State → List ℕ → ℕ → List Call
all s os n = trials os s.log.folded.0 n 1 (length s.log.entries)

abbrev pub turn : State → List ℕ → ℕ → List Call
turn s os n = first_done s (all s os n)

-- the turns that a budget allows, the newest first
unfoldable pub turns : State → List ℕ → ℕ → ℕ → List Call
turns s os n zero = []
turns s os n (suc b) = let cs = turns s os n b in turn (state_from s cs) os n ++ cs

-- ---- why it stopped: 2 a job could still go; else 1 where some job is refused with 12, and 0
unfoldable pub needs_line : State → List Call → Bool
needs_line s [] = false
needs_line s (c ∷ cs) = eqb (step s c).reply.answer 12 || needs_line s cs

abbrev pub stopped_by : List Call → Bool → ℕ
stopped_by [] true = 1
stopped_by [] false = 0
stopped_by (c ∷ cs) b = 2

abbrev pub why_stopped : State → List ℕ → ℕ → ℕ
why_stopped s os n = stopped_by (turn s os n) (needs_line s (all s os n))

-- ---- the call: a refusal, or 0 with the jobs done and why it stopped; its turns' calls and events, the newest first
pub record Night : Type 0 where
  pub answer : ℕ
  pub jobs : ℕ
  pub stopped : ℕ
  pub next : State
  pub calls : List Call
  pub events : List Event

abbrev pub night_not : State → ℕ → Bool → Night → Night
night_not s a b w = cond b w (record { answer = a; jobs = 0; stopped = 0; next = s; calls = []; events = [] })

-- its turns, made
abbrev pub through : State → (node budget : ℕ) → List ℕ → Night
through s n b os =
    let cs = turns s os n b in
    let w = state_from s cs in
    record { answer = 0; jobs = length cs; stopped = why_stopped w os n; next = w; calls = cs; events = events_from s cs }

-- node, budget and table in range
abbrev pub night_ok : (node budget : ℕ) → List ℕ → Bool
night_ok n b os = (is_node n && leb b 4096) && table_ok os

unfoldable pub night : State → (node budget : ℕ) → List ℕ → Night
night s n b os = night_not s 1 (well_formed s) (night_not s 2 (night_ok n b os) (night_not s 10 (is_master s.net n) (through s n b os)))

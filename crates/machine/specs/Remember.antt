-- Order 13, stated: which paths a synchronise writes, how many it tells, and what becomes of a switch that remembers. Proved in
-- Remembered. No proof in it. Assumes nothing.
use Rattle.std.specs.Prelude.{ℕ, suc, ◌≤◌, ◌<◌, List, [], ◌∷◌, map, Bool, true, false, ◌||◌, cond, ◌≡◌, eqb, length, get_or}
use Rattle.kinds.specs.declared.Configuration.{Configuration}
use Rattle.kinds.specs.declared.Reply.{Reply}
use Rattle.kinds.specs.Events.{numbered}
use Rattle.machine.specs.State.{State, absent}
use Rattle.machine.specs.Stores.{Store, of_target, value, configuration}
use Rattle.machine.specs.Differ.{differs_at, differ, differ_row}
use Rattle.machine.specs.Calls.{Outcome, stop}
use Rattle.machine.specs.Step.{step}
use Rattle.machine.specs.Notes.{Note, nothing, wrote}

-- ---- paths from b on and below k, each above the one before it
unfoldable pub Rises : (b k : ℕ) → List ℕ → Type 0
Rises b k [] = b ≤ k
Rises b k (p ∷ ps) = (b ≤ p) × Rises (suc p) k ps

unfoldable pub among : ℕ → List ℕ → Bool
among p [] = false
among p (q ∷ qs) = eqb p q || among p qs

-- the paths below k at which a target's values differ from those applied: each of them and no other is stored, once, and counted
pub record Differing (k : ℕ) (ws vs : List ℕ) : Type 0 where
  pub paths : List ℕ
  pub rise : Rises 0 k paths
  pub these : (p : ℕ) → p < k → among p paths ≡ differs_at ws vs p
  pub count : differ k ws vs ≡ length paths
  pub row : differ_row k ws vs ≡ map (λ p. value of_target p (get_or vs p 0)) paths

-- ---- a call, noted x and answered r, that leaves the state next
pub record Remembers (s : State) (x : Note) (r : Reply) (next : State) : Type 0 where
  -- the kind is fixed
  pub kind : next.net.target.remembers ≡ s.net.target.remembers
  -- a switch that remembers: a push and a synchronise that wrote change its values, and nothing else does
  pub keeps : s.net.target.remembers ≡ true → x ≡ nothing → next.net.values ≡ s.net.values
  -- of either kind: a synchronise that wrote leaves the applied values, and tells how many differed
  pub wrote : x ≡ wrote → (next.net.values ≡ s.applied.values) × (r.event ≡ numbered (differ 32 s.net.values s.applied.values))

-- ---- a stop that is accepted: a switch that remembers keeps its values, another has none
abbrev pub Stops : State → Type 0
Stops s = (step s stop).reply.answer ≡ 0 → (step s stop).next.net.values ≡ cond s.net.target.remembers s.net.values absent

-- ---- a synchronise, noted x, with the outcome o
-- its stores: the configuration, and then these
abbrev pub Behind : List Store → List Store → Type 0
Behind es fs = (g : Configuration) × (es ≡ configuration g ∷ fs)

pub record Synchronises (s : State) (x : Note) (o : Outcome) : Type 0 where
  -- one that wrote stores the paths that differ, and no other
  pub writes : x ≡ wrote → Behind o.stores (differ_row 32 s.net.values s.applied.values)
  -- one that only becomes InProgress stores none, and tells 0
  pub begins : x ≡ nothing → o.reply.answer ≡ 0 → Behind o.stores [] × (o.reply.event ≡ numbered 0)

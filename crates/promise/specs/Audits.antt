-- WHAT THE SWITCH TOOK, on bytes (order 11; of states: machine's Taken and Class, history's Audit). No proof in it; proved in Audited.
-- Assumes nothing.
use Rattle.std.specs.Prelude.{ℕ, ◌≤◌, ◌<◌, ◌≡◌, List}
use Rattle.kinds.specs.declared.Event.{Event}
use Rattle.machine.specs.State.{last}
use Rattle.machine.specs.Reads.{flag}
use Rattle.image.specs.View.{view}
use Rattle.controller.specs.declared.reads.Read.{Read}
use Rattle.history.specs.Demand3.{completed}
use Rattle.history.specs.Audit.{Classed}
use Rattle.promise.specs.Demands.{found}

-- number k is kept in the image m
abbrev pub Keeps : List ℕ → ℕ → Type 0
Keeps m k = ((view m).log.folded.0 < k) × (k ≤ last (view m).log)

-- the image m, reached from fresh or behind an import with the events es, newest first: `took`, `undone` and `class` were asked of a
-- number k that it keeps, and answered t, u and c
pub record Audited (es : List Event) (m : List ℕ) (k : ℕ) (t u c : Read) : Type 0 where
  -- 1 exactly where the Complete event of its apply was given, else 0
  pub took : t ≡ found (flag (completed es 1 2 k))
  -- 1 exactly where that of its rollback's apply was given, else 0
  pub undone : u ≡ found (flag (completed es 2 2 k))
  -- a class of the six, and what it tells of these events
  pub class : (c.answer ≡ 0) × Classed (view m) es k c.value

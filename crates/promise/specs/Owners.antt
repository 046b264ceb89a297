-- WHO SET A PATH, on bytes (order 7; of states: machine's Owner and history's Owners). No proof in it; proved in Owned. Assumes
-- nothing.
use Rattle.std.specs.Prelude.{ℕ, ◌≡◌, List}
use Rattle.kinds.specs.declared.Event.{Event}
use Rattle.machine.specs.State.{last}
use Rattle.machine.specs.LiveList as list
use Rattle.machine.specs.Reads.{of_table}
use Rattle.image.specs.View.{view}
use Rattle.controller.specs.declared.reads.Read.{Read}
use Rattle.controller.specs.Promises.{Shows}
use Rattle.history.specs.Demand3.{live, kept}
use Rattle.history.specs.Owners.{first_setting, highest_setting, given_by}
use Rattle.promise.specs.Demands.{found}

-- the image m, reached from fresh with the events es, newest first: `owner` was asked of path p and answered r
pub record Owned (es : List Event) (m : List ℕ) (p : ℕ) (r : Read) : Type 0 where
  -- the number of the newest live change, of those kept, that set it, 0 if none did; live by the events
  pub newest : r ≡ found (highest_setting (view m).log (kept (view m) (live es 1)) (last (view m).log) p)
  -- which is the answer from reading the whole live list
  pub listed : r ≡ found (first_setting (view m).log (list.live (view m)) p)
  -- the committed value, as it is read, is what that change gives the path, or the base value where it is 0
  pub gives : (v : Read) → Shows m (of_table 1 p) v → v ≡ found (given_by (view m).log r.value p)

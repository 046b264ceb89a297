-- The commit side at rest, by the log (paper: The four jobs; order 10). Assumes nothing.
use Rattle.std.specs.Prelude.{ℕ, Bool, cond, leb}
use Rattle.kinds.specs.declared.Status.{Status}
use Rattle.kinds.specs.declared.Status.TheVariants.{Complete}
use Rattle.rules.specs.AtRest.{at_rest}
use Rattle.machine.specs.State.{Log, State, entry_of}

-- a mark at or below the fold counts as Done
abbrev pub mark_of : Log → ℕ → Status → Status
mark_of l k x = cond (leb k l.folded.0) Complete x

-- the entry at the committed index says
abbrev pub rest_of : State → Bool
rest_of s =
    let k = s.committed.head.index.0 in
    at_rest s.committed.head (mark_of s.log k (entry_of s.log k).change.commit) (mark_of s.log k (entry_of s.log k).rollback.commit)

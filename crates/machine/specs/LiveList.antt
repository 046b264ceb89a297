-- The live list: from the committed revision, each hop to r.index until 0 or a folded number (paper: The live list; order
-- 10). Assumes nothing.
use Rattle.std.specs.Prelude.{ℕ, zero, suc, List, [], ◌∷◌, cond, leb}
use Rattle.machine.specs.State.{Log, State, entry_of}

-- at most k hops from number v, newest first
unfoldable pub hops : ℕ → Log → ℕ → List ℕ
hops zero l v = []
hops (suc k) l v = cond (leb v l.folded.0) [] (v ∷ hops k l (entry_of l v).index.0)

-- r.index is below its own number, so as many hops as the revision's number are enough
abbrev pub live : State → List ℕ
live s = hops s.committed.head.revision.0 s.log s.committed.head.revision.0

-- The live list of every well-formed state, reached or not, goes on until 0 or a folded number, and no further: as many hops
-- as it has numbers lead there. Assumes nothing.
use Prim.Native.Nat.{ℕ, zero, suc, ◌+◌, ◌≤◌, ◌<◌}
use native.Mathlib.Omega.{arith}
use mathlib.Core.List.{List, [], ◌∷◌}
use mathlib.Core.Bool.{Bool, true, false, cond}
use mathlib.Core.Path.{◌≡◌, refl}
use lib.Dec.{leb}
use lib.ListN.{length}
use borrow.Author.Tests.{leb-true, leb-false}
use Rattle.machine.specs.State.{Log, State, entry_of, last}
use Rattle.machine.specs.WellFormed.{well_formed}
use Rattle.machine.specs.LiveList.{hops, live}
use Rattle.machine.proofs.Kept.{Formed, formed}

-- where k hops from v lead
unfoldable pub leads : Log → ℕ → ℕ → ℕ
leads l zero v = v
leads l (suc k) v = leads l k (entry_of l v).index.0

module _ (s : State) (f : Formed s) where
  abbrev to : ℕ → ℕ
  to v = (entry_of s.log v).index.0

  -- a hop goes to a lower number, so k hops are enough from k
  ends : (k v : ℕ) → v ≤ k → v ≤ last s.log → leads s.log (length (hops k s.log v)) v ≤ s.log.folded.0
  unfolding hops leads
  ends zero v a n = omega arith
  ends (suc k) v a n = go (ends k (to v)) (leb v s.log.folded.0) refl
    where
      go : (to v ≤ k → to v ≤ last s.log → leads s.log (length (hops k s.log (to v))) (to v) ≤ s.log.folded.0)
          → (x : Bool) → leb v s.log.folded.0 ≡ x → leads s.log (length (cond x [] (v ∷ hops k s.log (to v)))) v ≤ s.log.folded.0
      go r true e = leb-true v s.log.folded.0 e
      go r false e =
          let h : to v < v = (f.entries v (leb-false v s.log.folded.0 e) n).below in r (omega arith) (omega arith)

-- until 0, where nothing is folded
pub live_ends : (s : State) → well_formed s ≡ true
    → leads s.log (length (live s)) s.committed.head.revision.0 ≤ s.log.folded.0
live_ends s w =
    let f : Formed s = formed s w in ends s f s.committed.head.revision.0 s.committed.head.revision.0 (omega arith) f.committed.revision

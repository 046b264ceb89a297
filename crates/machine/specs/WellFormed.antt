-- Well-formed states (paper: The state). What the image adds, its length and its codes, is in the crate image.
-- Assumes nothing.
use Rattle.std.specs.Prelude.{ℕ, suc, ◌+◌, List, [], ◌∷◌, Bool, true, ◌&&◌, ◌||◌, eqb, ltb, leb, length, get_or}
use Rattle.kinds.specs.declared.Transaction.{Transaction}
use Rattle.kinds.specs.declared.Head.{Head}
use Rattle.machine.specs.State.{Log, State, last}

-- ---- a test of every entry kept, with its number
unfoldable pub all_from : (ℕ → Transaction → Bool) → ℕ → List Transaction → Bool
all_from p k [] = true
all_from p k (t ∷ ts) = p k t && all_from p (k + 1) ts

abbrev pub all_entries : (ℕ → Transaction → Bool) → Log → Bool
all_entries p l = all_from p (suc l.folded.0) l.entries

-- ---- 1 to 4 pairs, paths strictly rising and below 32; what stands in unused places is not looked at
unfoldable pub pairs_ok : ℕ → List ℕ → Bool
pairs_ok n ps =
    (leb 1 n && leb n 4)
    && (ltb (get_or ps 0 0) 32
    && ((ltb n 2 || (ltb (get_or ps 0 0) (get_or ps 1 0) && ltb (get_or ps 1 0) 32))
    && ((ltb n 3 || (ltb (get_or ps 1 0) (get_or ps 2 0) && ltb (get_or ps 2 0) 32))
    && (ltb n 4 || (ltb (get_or ps 2 0) (get_or ps 3 0) && ltb (get_or ps 3 0) 32)))))

-- four owners that a change remembers, each below its own number (order 7)
abbrev pub recalls_ok : ℕ → List ℕ → Bool
recalls_ok i os = (ltb (get_or os 0 0) i && ltb (get_or os 1 0) i) && (ltb (get_or os 2 0) i && ltb (get_or os 3 0) i)

-- phase 1 or 2, valid pairs, r.index and the owners remembered below its own number, ordinals at most 131,070
unfoldable pub entry_ok : ℕ → Transaction → Bool
entry_ok i t =
    (leb 1 t.phase && leb t.phase 2)
    && ((ltb t.index.0 i && recalls_ok i t.owners)
    && ((leb t.change.ordinal.0 131070 && leb t.rollback.ordinal.0 131070) && pairs_ok t.count t.paths))

-- index, target and revision at most the highest number given, ordinal at most 131,070
unfoldable pub head_ok : ℕ → Head → Bool
head_ok n h = (leb h.index.0 n && (leb h.target.0 n && leb h.revision.0 n)) && leb h.ordinal.0 131070

-- the tables' sizes
abbrev pub sizes_ok : State → Bool
sizes_ok s =
    ((eqb (length s.committed.values) 32 && eqb (length s.committed.owners) 32) && eqb (length s.applied.values) 32)
    && (eqb (length s.net.values) 32 && (eqb (length s.log.base) 32 && eqb (length s.net.connections) 8))

-- each at most n
unfoldable pub all_at_most : ℕ → List ℕ → Bool
all_at_most n [] = true
all_at_most n (k ∷ ks) = leb k n && all_at_most n ks

-- the heads where the highest number given is n; Committed's change, which its revision and its owners are at most (order 7); and
-- the master
abbrev pub heads_ok : State → ℕ → Bool
heads_ok s n =
    (head_ok n s.committed.head && head_ok n s.applied.head)
    && ((leb s.change.0 n && (leb s.committed.head.revision.0 s.change.0 && all_at_most s.change.0 s.committed.owners))
    && leb s.net.mastership.master 8)

-- at most 128 kept, numbered up to 65,535
abbrev pub log_ok : Log → Bool
log_ok l = leb (length l.entries) 128 && leb (last l) 65535

unfoldable pub well_formed : State → Bool
well_formed s = log_ok s.log && (heads_ok s (last s.log) && (all_entries entry_ok s.log && sizes_ok s))

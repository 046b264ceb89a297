-- What the code hands on of what a line asks for: the call itself, and as bytes an append's pairs, a night's outcomes and an
-- import's entries. Assumes nothing.
use Rattle.std.specs.Prelude.{ℕ, zero, suc, ◌≤◌, ◌≡◌, List, [], ◌∷◌, ◌++◌, true, T, length, take}
use Rattle.machine.specs.Calls as machine
use Rattle.machine.specs.Calls.{Pair}
use Rattle.machine.specs.Import.{Entry, adds, undoes, neither}
use Rattle.lines.specs.declared.reading.Line.{Line}
use Rattle.lines.specs.declared.reading.Call.{Call}
use Rattle.lines.specs.declared.reading.Call.TheVariants.{Append, Rollback, Start, Stop, Connect, Disconnect, Master, Sync, Work, Fold, Why, Night, Import, Owner, Fresh}
use Rattle.lines.specs.Forms.{Asked, calls, why, night, imports, owner, freshly}
use Rattle.lines.specs.Grammar.{flat}
use Rattle.lines.specs.Reading.{at_most, two_bytes}

abbrev pub call_for : Asked → Call
call_for (calls (machine.append ps)) = Append
call_for (calls (machine.rollback n)) = Rollback n
call_for (calls machine.start) = Start
call_for (calls machine.stop) = Stop
call_for (calls (machine.connect n)) = Connect n
call_for (calls (machine.disconnect n)) = Disconnect n
call_for (calls (machine.master n)) = Master n
call_for (calls (machine.sync n)) = Sync n
call_for (calls (machine.work n j i o c)) = Work n j i o c
call_for (calls (machine.fold_to n)) = Fold n
call_for (why n j i) = Why n j i
call_for (night n b os) = Night n b
call_for (imports es) = Import
call_for (owner p) = Owner p
call_for (freshly r) = Fresh r

-- the pairs that stand beside the call
abbrev pub pairs_in : Asked → List Pair
pairs_in (calls (machine.append ps)) = ps
pairs_in (calls (machine.rollback n)) = []
pairs_in (calls machine.start) = []
pairs_in (calls machine.stop) = []
pairs_in (calls (machine.connect n)) = []
pairs_in (calls (machine.disconnect n)) = []
pairs_in (calls (machine.master n)) = []
pairs_in (calls (machine.sync n)) = []
pairs_in (calls (machine.work n j i o c)) = []
pairs_in (calls (machine.fold_to n)) = []
pairs_in (why n j i) = []
pairs_in (night n b os) = []
pairs_in (imports es) = []
pairs_in (owner p) = []
pairs_in (freshly r) = []

-- and the outcomes
abbrev pub outcomes_in : Asked → List ℕ
outcomes_in (calls c) = []
outcomes_in (why n j i) = []
outcomes_in (night n b os) = os
outcomes_in (imports es) = []
outcomes_in (owner p) = []
outcomes_in (freshly r) = []

-- and the entries
abbrev pub entries_in : Asked → List Entry
entries_in (calls c) = []
entries_in (why n j i) = []
entries_in (night n b os) = []
entries_in (imports es) = es
entries_in (owner p) = []
entries_in (freshly r) = []

-- ---- as bytes, each number in two, the low one first
-- a night: node, budget, and 257 of its outcomes at most
abbrev pub night_bytes : (node budget : ℕ) → List ℕ → List ℕ
night_bytes n b os = take 518 (two_bytes (n ∷ b ∷ os))

-- an entry's ten numbers, as the controller's import takes them (machine, Import): its kind; the number of its pairs, five for
-- more than four, or the place that it names; and its first four pairs, with zeros behind them
unfoldable pub padded : ℕ → List ℕ → List ℕ
padded zero ns = []
padded (suc k) [] = 0 ∷ padded k []
padded (suc k) (n ∷ ns) = n ∷ padded k ns

abbrev pub numbers_of : Entry → List ℕ
numbers_of (adds ps) = 1 ∷ at_most 5 (length ps) ∷ padded 8 (flat ps)
numbers_of (undoes n) = 2 ∷ n ∷ padded 8 []
numbers_of neither = padded 10 []

unfoldable pub entry_bytes : List Entry → List ℕ
entry_bytes [] = []
entry_bytes (e ∷ es) = two_bytes (numbers_of e) ++ entry_bytes es

-- 257 of them at most
abbrev pub import_bytes : List Entry → List ℕ
import_bytes es = take 5140 (entry_bytes es)

-- else the first five pairs at most
abbrev pub bytes_for : Asked → List ℕ
bytes_for (calls c) = two_bytes (flat (take 5 (pairs_in (calls c))))
bytes_for (why n j i) = []
bytes_for (night n b os) = night_bytes n b os
bytes_for (imports es) = import_bytes es
bytes_for (owner p) = []
bytes_for (freshly r) = []

-- in two bytes each has room
abbrev pub Small : List Pair → Type 0
Small [] = T true
Small (p ∷ ps) = (p.path ≤ 65535) × (p.value ≤ 65535) × Small ps

abbrev pub SmallEntry : Entry → Type 0
SmallEntry (adds ps) = Small ps
SmallEntry (undoes n) = n ≤ 65535
SmallEntry neither = ⊥

abbrev pub SmallEntries : List Entry → Type 0
SmallEntries [] = T true
SmallEntries (e ∷ es) = SmallEntry e × SmallEntries es

-- each is a digit
abbrev pub Low : List ℕ → Type 0
Low [] = T true
Low (d ∷ ds) = (d ≤ 9) × Low ds

-- the line r, read in the room m
pub record Hands (x : Asked) (r : Line) (m : List ℕ) : Type 0 where
  pub calls : r.call ≡ call_for x
  pub bytes : take r.length m ≡ bytes_for x
  pub small : Small (pairs_in x)
  pub low : Low (outcomes_in x)
  pub entered : SmallEntries (entries_in x)

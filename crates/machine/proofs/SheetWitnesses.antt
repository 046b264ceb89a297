-- The handover sheet (order 11), computed: a log's line, and the totals of logs in turn. Assumes nothing.
use Prim.Native.Nat.{ℕ, zero, suc}
use mathlib.Core.List.{List, [], ◌∷◌, ◌++◌}
use mathlib.Core.Bool.{Bool, true, false, ◌&&◌}
use mathlib.Core.Path.{◌≡◌, refl}
use lib.Dec.{eqb}
use lib.ListN.{set}
use Rattle.kinds.specs.declared.Transaction.{Transaction}
use Rattle.kinds.specs.declared.Status.TheVariants.{None, Pending, InProgress, Complete, Canceled, Failed}
use Rattle.machine.specs.State.{State, absent}
use Rattle.machine.specs.Built.{side, entry, log, logged}
use Rattle.machine.specs.Class.{class_by}
use Rattle.machine.specs.Differ.{differ}
use Rattle.machine.specs.Reads.{of_drift, read}
use Rattle.machine.specs.Sheet.{counted, mask_to, row_of, Met, refused, met, totals_from, totals, kept_in}

-- ---- a state and its line: the six counts, the mask and the drift; the mask as it is read; logs in turn, their totals and what
-- they keep
pub data Line : Type 0 where
  of : State → (counts : List ℕ) → (mask drift : ℕ) → Line
  drifts : State → (mask : ℕ) → Line
  sums : List Met → (totals : List ℕ) → (kept : ℕ) → Line

unfoldable pub same : List ℕ → List ℕ → Bool
same [] [] = true
same [] (y ∷ ys) = false
same (x ∷ xs) [] = false
same (x ∷ xs) (y ∷ ys) = eqb x y && same xs ys

unfoldable pub judge : List Line → Bool
judge [] = true
judge (of s cs m d ∷ ls) = let r = row_of s in (same r.counts cs && (eqb r.mask m && eqb r.drift d)) && judge ls
judge (drifts s m ∷ ls) = let x = read s of_drift in (eqb x.answer 0 && eqb x.value m) && judge ls
judge (sums xs ts k ∷ ls) = (same (totals xs) ts && eqb (kept_in xs) k) && judge ls

-- ---- one transaction of each class, in the order of the counts
abbrev still_open : Transaction
still_open = entry 1 (side Complete InProgress 1) (side None None 0) 0

abbrev stopped : Transaction
stopped = entry 1 (side Complete Failed 1) (side None None 0) 0

abbrev invalid : Transaction
invalid = entry 1 (side Failed Canceled 0) (side None None 0) 0

abbrev taken : Transaction
taken = entry 1 (side Complete Complete 1) (side None None 0) 0

abbrev undoing : Transaction
undoing = entry 2 (side Complete Complete 1) (side Pending None 0) 0

abbrev undone : Transaction
undone = entry 2 (side Complete Complete 1) (side Complete Complete 2) 0

-- what is kept after a fold up to 17
abbrev keeps : List Transaction → State
keeps ts = logged (log 17 ts)

-- a log of no transaction, with these committed and applied values
abbrev tables : (committed applied : List ℕ) → State
tables vs ws =
    let s = keeps [] in
    record {
      log = s.log;
      change = s.change;
      committed = record { head = s.committed.head; values = vs; owners = absent };
      applied = record { head = s.applied.head; values = ws };
      net = s.net;
    }

-- absent but for one path
abbrev at : ℕ → ℕ → List ℕ
at p v = set absent p v

-- 1, 2 and so on of each class: no two counts are alike
abbrev some : ℕ → Transaction → List Transaction
some zero t = []
some (suc n) t = t ∷ some n t

pub counting : List Line
counting =
    of (keeps []) (0 ∷ 0 ∷ 0 ∷ 0 ∷ 0 ∷ 0 ∷ []) 0 0
    ∷ of (keeps (still_open ∷ [])) (1 ∷ 0 ∷ 0 ∷ 0 ∷ 0 ∷ 0 ∷ []) 0 0
    ∷ of (keeps (stopped ∷ [])) (0 ∷ 1 ∷ 0 ∷ 0 ∷ 0 ∷ 0 ∷ []) 0 0
    ∷ of (keeps (invalid ∷ [])) (0 ∷ 0 ∷ 1 ∷ 0 ∷ 0 ∷ 0 ∷ []) 0 0
    ∷ of (keeps (taken ∷ [])) (0 ∷ 0 ∷ 0 ∷ 1 ∷ 0 ∷ 0 ∷ []) 0 0
    ∷ of (keeps (undoing ∷ [])) (0 ∷ 0 ∷ 0 ∷ 0 ∷ 1 ∷ 0 ∷ []) 0 0
    ∷ of (keeps (undone ∷ [])) (0 ∷ 0 ∷ 0 ∷ 0 ∷ 0 ∷ 1 ∷ []) 0 0
    ∷ of (keeps (taken ∷ undone ∷ taken ∷ still_open ∷ [])) (1 ∷ 0 ∷ 0 ∷ 2 ∷ 0 ∷ 1 ∷ []) 0 0
    ∷ of (keeps (some 6 undone ++ (some 5 undoing ++ (some 4 taken ++ (some 3 invalid ++ (some 2 stopped ++ some 1 still_open))))))
    (1 ∷ 2 ∷ 3 ∷ 4 ∷ 5 ∷ 6 ∷ []) 0 0 ∷ []

-- committed and not applied, applied and not committed any more, and both with other values; at the first path, at the last, at two
pub masking : List Line
masking =
    of (tables (at 0 7) absent) (0 ∷ 0 ∷ 0 ∷ 0 ∷ 0 ∷ 0 ∷ []) 1 1
    ∷ of (tables absent (at 31 7)) (0 ∷ 0 ∷ 0 ∷ 0 ∷ 0 ∷ 0 ∷ []) 2147483648 1
    ∷ of (tables (at 3 7) (at 3 9)) (0 ∷ 0 ∷ 0 ∷ 0 ∷ 0 ∷ 0 ∷ []) 8 1
    ∷ of (tables (at 3 9) (at 3 7)) (0 ∷ 0 ∷ 0 ∷ 0 ∷ 0 ∷ 0 ∷ []) 8 1
    ∷ of (tables (at 3 7) (at 3 7)) (0 ∷ 0 ∷ 0 ∷ 0 ∷ 0 ∷ 0 ∷ []) 0 0
    ∷ of (tables (at 0 1) (at 31 2)) (0 ∷ 0 ∷ 0 ∷ 0 ∷ 0 ∷ 0 ∷ []) 2147483649 2
    ∷ of (tables (set (at 1 7) 2 7) (at 4 7)) (0 ∷ 0 ∷ 0 ∷ 0 ∷ 0 ∷ 0 ∷ []) 22 3 ∷ []

-- the mask alone, as it is read: of any state, and nothing else of it
pub drifting : List Line
drifting =
    drifts (keeps []) 0
    ∷ drifts (keeps (taken ∷ undone ∷ [])) 0
    ∷ drifts (tables (at 0 7) absent) 1
    ∷ drifts (tables absent (at 31 7)) 2147483648
    ∷ drifts (tables (set (at 1 7) 2 7) (at 4 7)) 22 ∷ []

-- a refused log adds nothing, wherever it stands; what is folded away is not counted
abbrev first : Met
first = met (keeps (taken ∷ taken ∷ stopped ∷ []))

abbrev second : Met
second = met (keeps (undone ∷ taken ∷ invalid ∷ undoing ∷ still_open ∷ []))

pub summing : List Line
summing =
    sums [] (0 ∷ 0 ∷ 0 ∷ 0 ∷ 0 ∷ 0 ∷ []) 0
    ∷ sums (refused ∷ []) (0 ∷ 0 ∷ 0 ∷ 0 ∷ 0 ∷ 0 ∷ []) 0
    ∷ sums (first ∷ []) (0 ∷ 1 ∷ 0 ∷ 2 ∷ 0 ∷ 0 ∷ []) 3
    ∷ sums (first ∷ second ∷ []) (1 ∷ 1 ∷ 1 ∷ 3 ∷ 1 ∷ 1 ∷ []) 8
    ∷ sums (refused ∷ first ∷ refused ∷ second ∷ refused ∷ []) (1 ∷ 1 ∷ 1 ∷ 3 ∷ 1 ∷ 1 ∷ []) 8
    ∷ sums (first ∷ first ∷ second ∷ []) (1 ∷ 2 ∷ 1 ∷ 5 ∷ 1 ∷ 1 ∷ []) 11 ∷ []

pub sheets : List Line
sheets = counting ++ (masking ++ (drifting ++ summing))

pub sheets_hold : judge sheets ≡ true
unfolding judge same row_of counted mask_to totals_from kept_in differ class_by read counting masking drifting summing sheets
sheets_hold = refl

-- The state of a controller, and a fresh one (paper: The state). Assumes nothing.
use Rattle.std.specs.Prelude.{ℕ, zero, suc, ◌+◌, ◌-◌, List, [], ◌∷◌, ◌++◌, Bool, false, ◌&&◌, eqb, ltb, leb, length, get_or, set, drop, replicate}
use Rattle.kinds.specs.declared.Transaction.{Transaction}
use Rattle.kinds.specs.declared.Head.{Head}
use Rattle.kinds.specs.declared.Number.{Number}
use Rattle.kinds.specs.declared.Configuration.{Configuration}
use Rattle.kinds.specs.declared.Progress.TheVariants.{Pending}
use Rattle.kinds.specs.declared.Mastership.{Mastership}
use Rattle.kinds.specs.declared.Connection.{Connection}
use Rattle.kinds.specs.declared.Target.{Target}
use Rattle.kinds.specs.Numbers.{num, ord, trm}
use Rattle.rules.specs.Sides.{untouched}
use Rattle.rules.specs.Outside.{reaches, line_open}

-- Applied: a head and 32 values
pub record Part : Type 0 where
  pub head : Head
  pub values : List ℕ

-- Committed, but for its change: also, for each path, the number of the newest live change that set it, 0 if none (order 7)
pub record Ledger : Type 0 where
  pub head : Head
  pub values : List ℕ
  pub owners : List ℕ

-- the nodes' side: the configuration with its term, the mastership, eight connections, the target and its 32 values
pub record Net : Type 0 where
  pub configuration : Configuration
  pub mastership : Mastership
  pub connections : List Connection
  pub target : Target
  pub values : List ℕ

-- the log: the last fold, 0 if none; what the live ones up to it set, 32 values; and the entries after it, which are kept
pub record Log : Type 0 where
  pub folded : Number
  pub base : List ℕ
  pub entries : List Transaction

-- `change` is Committed's. What is said at the fields is true in every reached state: crates/history/specs/Invariant.antt
pub record State : Type 0 where
  -- the last fold ≤ change; an ordinal is the place of its commit, and no two carry one
  pub log : Log
  -- revision ≤ index ≤ change ≤ the highest number given
  pub change : Number
  -- its values are those of the live changes, which the revision leads to, and its owners the newest of them that set each path
  pub committed : Ledger
  -- its ordinal ≤ Committed's; its values are those of the changes taken by the switch and not undone
  pub applied : Part
  -- line open: the target's values are the applied ones, or those with one cut push laid over; nobody is connected to a stopped
  -- target
  pub net : Net

-- ---- fresh, of either kind: m says whether the target remembers its values (order 13)
abbrev pub absent : List ℕ
absent = replicate 32 0

abbrev pub fresh_part : Part
fresh_part = record { head = record { index = num 0; target = num 0; revision = num 0; ordinal = ord 0 }; values = absent }

abbrev pub fresh_ledger : Ledger
fresh_ledger = record { head = fresh_part.head; values = absent; owners = absent }

abbrev pub never : Connection
never = record { id = 0; connected = false }

abbrev pub fresh_net : Bool → Net
fresh_net m =
    record {
      configuration = record { state = Pending; term = trm 0 };
      mastership = record { master = 0; term = trm 0; conn = 0 };
      connections = replicate 8 never;
      target = record { id = 0; running = false; remembers = m };
      values = absent;
    }

-- a log of which nothing is folded
abbrev pub unfolded : List Transaction → Log
unfolded ts = record { folded = num 0; base = absent; entries = ts }

abbrev pub fresh : Bool → State
fresh m = record { log = unfolded []; change = num 0; committed = fresh_ledger; applied = fresh_part; net = fresh_net m }

-- ---- entries of the log and nodes, both counted from 1
abbrev pub four : List ℕ
four = replicate 4 0

-- a number at each
abbrev pub in_each : ℕ → List ℕ
in_each k = replicate 4 k

-- what stands outside the log
abbrev pub blank : Transaction
blank = record { phase = 0; count = 0; paths = four; values = four; change = untouched; rollback = untouched; index = num 0; kept = four; owners = four }

-- an entry by its place among those kept, from 1
abbrev pub place_of : List Transaction → ℕ → Transaction
place_of ts zero = blank
place_of ts (suc k) = get_or ts k blank

abbrev pub put_place : List Transaction → ℕ → Transaction → List Transaction
put_place ts zero t = ts
put_place ts (suc k) t = set ts k t

-- and by its number: a folded number has none
abbrev pub entry_of : Log → ℕ → Transaction
entry_of l k = place_of l.entries (k - l.folded.0)

abbrev pub put_entry : Log → ℕ → Transaction → Log
put_entry l k t = record { folded = l.folded; base = l.base; entries = put_place l.entries (k - l.folded.0) t }

-- one entry more
abbrev pub grown : Log → Transaction → Log
grown l t = record { folded = l.folded; base = l.base; entries = l.entries ++ (t ∷ []) }

-- entries up to b folded away
abbrev pub folded_to : Log → Number → Log
folded_to l b = record { folded = b; base = l.base; entries = drop (b.0 - l.folded.0) l.entries }

-- the highest number given
abbrev pub last : Log → ℕ
last l = l.folded.0 + length l.entries

abbrev pub in_log : State → ℕ → Bool
in_log s i = leb 1 i && leb i (last s.log)

abbrev pub is_kept : State → ℕ → Bool
is_kept s i = ltb s.log.folded.0 i

abbrev pub is_node : ℕ → Bool
is_node n = leb 1 n && leb n 8

abbrev pub node_of : List Connection → ℕ → Connection
node_of l zero = never
node_of l (suc k) = get_or l k never

abbrev pub put_node : List Connection → ℕ → Connection → List Connection
put_node l zero x = l
put_node l (suc k) x = set l k x

-- ---- what is asked of the nodes' side
abbrev pub is_master : Net → ℕ → Bool
is_master w n = eqb w.mastership.master n

abbrev pub reaches_target : Net → ℕ → Bool
reaches_target w n = reaches (node_of w.connections n) w.mastership w.target

-- the line is open for n (paper: Calls from outside)
abbrev pub line_open_for : Net → ℕ → Bool
line_open_for w n = line_open n (node_of w.connections n) w.mastership w.target w.configuration

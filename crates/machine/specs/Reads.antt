-- The reads: one number of a state at a time, for the server and the auditor (paper: The state). They refuse as the calls
-- do: 2 for what is out of range, 5 for a number outside the log, 18 for a folded one. Assumes nothing.
use Rattle.std.specs.Prelude.{ℕ, ◌-◌, List, [], ◌∷◌, Bool, true, false, ◌&&◌, cond, eqb, ltb, leb, length, get_or}
use Rattle.kinds.specs.declared.Transaction.{Transaction}
use Rattle.kinds.specs.declared.Connection.{Connection}
use Rattle.kinds.specs.Statuses.{code_of, progress_code}
use Rattle.machine.specs.State.{State, entry_of, last, in_log, is_kept, is_node, node_of}
use Rattle.machine.specs.Owner.{owner_of}
use Rattle.machine.specs.Class.{class_of}
use Rattle.machine.specs.Taken.{took, undid}
use Rattle.machine.specs.Sheet.{mask_of}

-- what is asked; fields are counted from 1, in the order of the numbers below
pub data Query : Type 0 where
  of_table : (table path : ℕ) → Query  -- a path's value: table 1 Committed, 2 Applied, 3 the target, 4 the base
  of_entry : (number field : ℕ) → Query  -- a transaction's
  of_state : (field : ℕ) → Query  -- what the state has once
  of_node : (node field : ℕ) → Query  -- a connection's
  of_owner : (path : ℕ) → Query  -- who set a path (order 7)
  of_class : (number : ℕ) → Query  -- a transaction's class (order 11)
  of_took : (number : ℕ) → Query  -- whether the switch took a change
  of_undone : (number : ℕ) → Query  -- and whether it was undone
  of_drift : Query  -- the paths at which Committed and Applied differ, as a mask (order 11)

pub record Answer : Type 0 where
  pub answer : ℕ
  pub value : ℕ

-- ---- answers
abbrev pub shows : ℕ → Answer
shows v = record { answer = 0; value = v }

abbrev pub refuses : ℕ → Answer
refuses a = record { answer = a; value = 0 }

-- where the test holds, what follows; else the refusal
abbrev pub unless : ℕ → Bool → Answer → Answer
unless a true x = x
unless a false x = refuses a

-- one of n fields
abbrev pub is_field : ℕ → ℕ → Bool
is_field n f = leb 1 f && leb f n

abbrev pub field_of : List ℕ → ℕ → ℕ
field_of xs f = get_or xs (f - 1) 0

-- ---- the numbers
abbrev pub flag : Bool → ℕ
flag true = 1
flag false = 0

-- 1 phase, 2 c.commit, 3 c.apply, 4 c.ordinal, 5 r.commit, 6 r.apply, 7 r.ordinal, 8 r.index, 9 the number of pairs,
-- 10 to 13 paths, 14 to 17 values, 18 to 21 r.values; statuses by their numbers
unfoldable pub entry_numbers : Transaction → List ℕ
entry_numbers t =
    t.phase ∷ code_of t.change.commit ∷ code_of t.change.apply ∷ t.change.ordinal.0 ∷ code_of t.rollback.commit
    ∷ code_of t.rollback.apply ∷ t.rollback.ordinal.0 ∷ t.index.0 ∷ t.count
    ∷ get_or t.paths 0 0 ∷ get_or t.paths 1 0 ∷ get_or t.paths 2 0 ∷ get_or t.paths 3 0
    ∷ get_or t.values 0 0 ∷ get_or t.values 1 0 ∷ get_or t.values 2 0 ∷ get_or t.values 3 0
    ∷ get_or t.kept 0 0 ∷ get_or t.kept 1 0 ∷ get_or t.kept 2 0 ∷ get_or t.kept 3 0 ∷ []

-- 1 the highest number given; Committed: 2 index, 3 change, 4 target, 5 revision, 6 ordinal; Applied: 7 index, 8 target, 9
-- revision, 10 ordinal; 11 the configuration's state, 12 its term; 13 master, 14 term, 15 conn; 16 target id, 17 running;
-- 18 the last fold
unfoldable pub state_numbers : State → List ℕ
state_numbers s =
    last s.log
    ∷ s.committed.head.index.0 ∷ s.change.0 ∷ s.committed.head.target.0 ∷ s.committed.head.revision.0 ∷ s.committed.head.ordinal.0
    ∷ s.applied.head.index.0 ∷ s.applied.head.target.0 ∷ s.applied.head.revision.0 ∷ s.applied.head.ordinal.0
    ∷ progress_code s.net.configuration.state ∷ s.net.configuration.term.0
    ∷ s.net.mastership.master ∷ s.net.mastership.term.0 ∷ s.net.mastership.conn
    ∷ s.net.target.id ∷ flag s.net.target.running ∷ s.log.folded.0 ∷ []

-- 1 id, 2 connected
abbrev pub node_numbers : Connection → List ℕ
node_numbers x = x.id ∷ flag x.connected ∷ []

abbrev pub table_numbers : State → ℕ → List ℕ
table_numbers s b = cond (eqb b 1) s.committed.values (cond (eqb b 2) s.applied.values (cond (eqb b 3) s.net.values s.log.base))

-- of a number that is kept
abbrev pub shows_kept : State → (number value : ℕ) → Answer
shows_kept s i v = unless 5 (in_log s i) (unless 18 (is_kept s i) (shows v))

-- ---- what is answered (1 comes first, where the state is an image's)
unfoldable pub read : State → Query → Answer
read s (of_table b p) = unless 2 (is_field 4 b && ltb p 32) (shows (get_or (table_numbers s b) p 0))
read s (of_entry i f) = unless 2 (is_field 21 f) (unless 5 (in_log s i) (unless 18 (is_kept s i) (shows (field_of (entry_numbers (entry_of s.log i)) f))))
read s (of_state f) = unless 2 (is_field 18 f) (shows (field_of (state_numbers s) f))
read s (of_node n f) = unless 2 (is_node n && is_field 2 f) (shows (field_of (node_numbers (node_of s.net.connections n)) f))
read s (of_owner p) = unless 2 (ltb p 32) (shows (owner_of s p))
read s (of_class i) = shows_kept s i (class_of (entry_of s.log i))
read s (of_took i) = shows_kept s i (flag (took s.log s.applied.head.ordinal.0 i))
read s (of_undone i) = shows_kept s i (flag (undid s.log s.applied.head.ordinal.0 i))
read s of_drift = shows (mask_of s)

-- The invariant of a reached state, part by part (docs/PROOF.md says why each part is there). `ops` are the changes and
-- rollbacks whose commit has completed, newest first, `acts` those whose apply has; both are functions of the events (Ops).
-- Assumes nothing.
use Rattle.std.specs.Prelude.{ℕ, suc, ◌≤◌, ◌<◌, List, [], ◌∷◌, ◌++◌, Bool, true, false, not, ◌&&◌, ◌||◌, ◌≡◌, eqb, length, get_or}
use Rattle.kinds.specs.declared.Transaction.{Transaction}
use Rattle.kinds.specs.declared.Head.{Head}
use Rattle.kinds.specs.declared.Connection.{Connection}
use Rattle.kinds.specs.declared.Progress.TheVariants as progress
use Rattle.kinds.specs.declared.Status.{Status}
use Rattle.kinds.specs.declared.Status.TheVariants.{None, Pending, InProgress, Complete, Aborted, Canceled, Failed}
use Rattle.kinds.specs.Statuses.{is_complete}
use Rattle.rules.specs.ApplyRollback.{was_tried}
use Rattle.machine.specs.State.{State, Part, Ledger, in_each, Net, Log, entry_of, last, node_of}
use Rattle.machine.proofs.Overlay.{look}
use Rattle.history.specs.Ops.{Op, push, pop, none, pushed, popped, top, stack, newest, Rising, op_at, first, Sub, held}

-- ---- values by the changes that hold
-- what a change says of a path, and what its rollback says, or d where they are silent
abbrev pub says : Transaction → ℕ → ℕ → ℕ
says t p d = look t.paths t.count t.values p d

abbrev pub returns : Transaction → ℕ → ℕ → ℕ
returns t p d = look t.paths t.count t.kept p d

-- whose path it is by change k, and by what it remembers (order 7)
abbrev pub claims : ℕ → Transaction → ℕ → ℕ → ℕ
claims k t p d = look t.paths t.count (in_each k) p d

abbrev pub recalls : Transaction → ℕ → ℕ → ℕ
recalls t p d = look t.paths t.count t.owners p d

-- the value that the newest of these changes setting p gives it
unfoldable pub val : Log → List ℕ → ℕ → ℕ
val l [] p = 0
val l (k ∷ ks) p = says (entry_of l k) p (val l ks p)

-- the newest of these changes setting p
unfoldable pub own : Log → List ℕ → ℕ → ℕ
own l [] p = 0
own l (k ∷ ks) p = claims k (entry_of l k) p (own l ks p)

-- change k was committed over the changes ks: it returns to the newest of them, and its rollback puts back their values
-- and their owners
pub record Link (l : Log) (k : ℕ) (ks : List ℕ) : Type 0 where
  pub back : (entry_of l k).index.0 ≡ top ks
  pub keeps : (p : ℕ) → p < 32 → returns (entry_of l k) p (says (entry_of l k) p (val l ks p)) ≡ val l ks p
  pub owners : (p : ℕ) → p < 32 → recalls (entry_of l k) p (claims k (entry_of l k) p (own l ks p)) ≡ own l ks p

unfoldable pub Linked : Log → List Op → Type 0
Linked l [] = Unit {0}
Linked l (push k ∷ o) = Link l k (stack o) × Linked l o
Linked l (pop k ∷ o) = Linked l o
Linked l (none ∷ o) = Linked l o

-- ---- statuses
abbrev pub is_none : Status → Bool
is_none None = true
is_none Pending = false
is_none InProgress = false
is_none Complete = false
is_none Aborted = false
is_none Canceled = false
is_none Failed = false

abbrev pub is_going : Status → Bool
is_going None = false
is_going Pending = false
is_going InProgress = true
is_going Complete = false
is_going Aborted = false
is_going Canceled = false
is_going Failed = false

-- a stage is complete: by its status, or its first store is made and its status not yet
abbrev pub complete : Status → ℕ → ℕ → Bool
complete c x y = is_complete c || (is_going c && eqb x y)

-- the commit status of a change or rollback with its apply status and its ordinal
abbrev pub Paired : Status → Status → ℕ → Type 0
Paired None a o = (a ≡ None) × (o ≡ 0)
Paired Pending a o = (a ≡ Pending) × (o ≡ 0)
Paired InProgress a o = (a ≡ Pending) × (o ≡ 0)
Paired Complete a o = 1 ≤ o
Paired Failed a o = (a ≡ Canceled) × (o ≡ 0)
Paired Aborted a o = ⊥
Paired Canceled a o = ⊥

-- a change that the switch did not take
abbrev pub is_ended : Status → Bool
is_ended None = false
is_ended Pending = false
is_ended InProgress = false
is_ended Complete = false
is_ended Aborted = true
is_ended Canceled = false
is_ended Failed = true

-- a rollback is asked only of a change committed; neither its commit nor its apply is aborted or fails
abbrev pub orderly : Status → Status → Status → Bool
orderly c r a = ((is_complete c || is_none r) && not (is_ended r)) && not (is_ended a)

pub record Sides (t : Transaction) : Type 0 where
  pub change : Paired t.change.commit t.change.apply t.change.ordinal.0
  pub rollback : Paired t.rollback.commit t.rollback.apply t.rollback.ordinal.0
  pub unasked : t.phase ≡ 1 → t.rollback.commit ≡ None
  pub orderly : orderly t.change.commit t.rollback.commit t.rollback.apply ≡ true

-- an ordinal is its place in the commits
pub record Numbered (ops : List Op) (k c r : ℕ) : Type 0 where
  pub change : (o : ℕ) → c ≡ suc o → op_at ops (suc o) ≡ push k
  pub rollback : (o : ℕ) → r ≡ suc o → op_at ops (suc o) ≡ pop k

-- ---- the commit side
-- what it sees of an entry
pub record CommitView : Type 0 where
  pub change : Status
  pub rollback : Status
  pub count : ℕ
  pub paths : List ℕ
  pub values : List ℕ
  pub index : ℕ
  pub kept : List ℕ
  pub owners : List ℕ

abbrev pub commit_view : Transaction → CommitView
commit_view t =
    record {
      change = t.change.commit;
      rollback = t.rollback.commit;
      count = t.count;
      paths = t.paths;
      values = t.values;
      index = t.index.0;
      kept = t.kept;
      owners = t.owners;
    }

-- change k in flight: begun at the revision, the target on it, its rollback ready
pub record Flight (h : Head) (vs ow : List ℕ) (k : ℕ) (x : CommitView) : Type 0 where
  pub origin : x.index ≡ h.revision.0
  pub target : h.target.0 ≡ k
  pub restores : (p : ℕ) → p < 32 → look x.paths x.count x.kept p (look x.paths x.count x.values p (get_or vs p 0)) ≡ get_or vs p 0
  pub owners : (p : ℕ) → p < 32 → look x.paths x.count x.owners p (look x.paths x.count (in_each k) p (get_or ow p 0)) ≡ get_or ow p 0

-- change k committed, its status yet to be stored; and the rollback of k
pub record Closing (h : Head) (ops : List Op) (k : ℕ) : Type 0 where
  pub last : op_at ops h.ordinal.0 ≡ push k
  pub target : h.target.0 ≡ k
  pub index : h.index.0 ≡ k
  pub revision : h.revision.0 ≡ k

pub record Returned (h : Head) (ops : List Op) (k : ℕ) : Type 0 where
  pub last : op_at ops h.ordinal.0 ≡ pop k
  pub target : h.target.0 ≡ h.revision.0
  pub index : h.index.0 ≡ k
  pub below : h.revision.0 < k

-- entry k, with Committed's head h, change c, values vs and owners ow
pub record CommitEntry (h : Head) (c : ℕ) (vs ow : List ℕ) (ops : List Op) (k : ℕ) (x : CommitView) : Type 0 where
  pub begun : x.change ≡ InProgress → k ≤ suc c
  pub flight : x.change ≡ InProgress → k ≡ suc c → Flight h vs ow k x
  pub closing : x.change ≡ InProgress → k ≤ c → Closing h ops k
  pub failed : x.change ≡ Failed → k ≤ suc c
  pub failing : x.change ≡ Failed → k ≡ suc c → h.target.0 ≡ k
  pub returning : x.rollback ≡ InProgress → k ≡ h.revision.0 → h.target.0 ≡ x.index
  pub returned : x.rollback ≡ InProgress → (k ≡ h.revision.0 → ⊥) → Returned h ops k
  pub done : pushed k ops ≡ complete x.change c k
  pub undone : popped k ops ≡ complete x.rollback h.revision.0 x.index

pub record Committed (l : Log) (c : ℕ) (part : Ledger) (ops : List Op) : Type 0 where
  pub entries : (k : ℕ) → CommitEntry part.head c part.values part.owners ops k (commit_view (entry_of l k))
  pub rising : Rising ops
  pub linked : Linked l ops
  pub count : length ops ≡ part.head.ordinal.0
  pub newest : newest ops ≤ c
  pub tip : part.head.revision.0 ≡ top (stack ops)
  pub holds : (p : ℕ) → p < 32 → get_or part.values p 0 ≡ val l (stack ops) p
  pub room : length part.values ≡ 32
  pub owns : (p : ℕ) → p < 32 → get_or part.owners p 0 ≡ own l (stack ops) p
  pub own_room : length part.owners ≡ 32
  pub low : part.head.revision.0 ≤ part.head.index.0
  pub mid : part.head.index.0 ≤ c
  pub high : c ≤ last l
  pub behind : part.head.target.0 ≡ part.head.revision.0 → part.head.revision.0 < part.head.index.0 → popped part.head.index.0 ops ≡ true

-- ---- the apply side
pub record ApplyView : Type 0 where
  pub change : Status
  pub change_ordinal : ℕ
  pub rollback : Status
  pub rollback_ordinal : ℕ
  pub index : ℕ

abbrev pub apply_view : Transaction → ApplyView
apply_view t =
    record {
      change = t.change.apply;
      change_ordinal = t.change.ordinal.0;
      rollback = t.rollback.apply;
      rollback_ordinal = t.rollback.ordinal.0;
      index = t.index.0;
    }

-- its push was tried, and not taken or not yet
abbrev pub is_started : Status → Bool
is_started None = false
is_started Pending = false
is_started InProgress = true
is_started Complete = false
is_started Aborted = false
is_started Canceled = false
is_started Failed = true

-- a status that only the next op, or one passed, can have
abbrev pub change_touched : Status → Bool
change_touched None = false
change_touched Pending = false
change_touched InProgress = true
change_touched Complete = false
change_touched Aborted = true
change_touched Canceled = false
change_touched Failed = true

abbrev pub rollback_touched : Status → Bool
rollback_touched None = false
rollback_touched Pending = false
rollback_touched InProgress = true
rollback_touched Complete = false
rollback_touched Aborted = false
rollback_touched Canceled = true
rollback_touched Failed = false

-- a rollback that was begun, or has completed
abbrev pub was_pushed : Status → Bool
was_pushed None = false
was_pushed Pending = false
was_pushed InProgress = true
was_pushed Complete = true
was_pushed Aborted = false
was_pushed Canceled = false
was_pushed Failed = false

-- change k, with Applied's ordinal a and target g: its apply status c and its ordinal o
pub record ChangeEntry (a g : ℕ) (acts : List Op) (k : ℕ) (c : Status) (o : ℕ) : Type 0 where
  pub low : change_touched c ≡ true → o ≤ suc a
  pub aim : is_started c ≡ true → o ≡ suc a → g ≡ k
  pub taken : pushed k acts ≡ complete c a o

-- its rollback, which returns to n
pub record RollbackEntry (a g : ℕ) (acts : List Op) (k : ℕ) (r : Status) (o n : ℕ) : Type 0 where
  pub low : rollback_touched r ≡ true → o ≤ suc a
  pub aim : r ≡ InProgress → o ≡ suc a → g ≡ n
  pub returned : popped k acts ≡ complete r a o

pub record ApplyEntry (a g : ℕ) (acts : List Op) (k : ℕ) (x : ApplyView) : Type 0 where
  pub change : ChangeEntry a g acts k x.change x.change_ordinal
  pub rollback : RollbackEntry a g acts k x.rollback x.rollback_ordinal x.index
  pub tried : was_pushed x.rollback ≡ true → was_tried x.change ≡ true
  pub spared : x.rollback ≡ Canceled → x.change ≡ Aborted

-- settled: no status of the op with ordinal a is yet to be stored
pub record Still (a : ℕ) (x : ApplyView) : Type 0 where
  pub change : x.change ≡ InProgress → x.change_ordinal ≡ a → ⊥
  pub rollback : x.rollback ≡ InProgress → x.rollback_ordinal ≡ a → ⊥

abbrev pub Quiet : Log → ℕ → Type 0
Quiet l a = (k : ℕ) → Still a (apply_view (entry_of l k))

-- the next op is begun, or ended, only then
pub record Calm (Q : Type 0) (a : ℕ) (x : ApplyView) : Type 0 where
  pub change : change_touched x.change ≡ true → x.change_ordinal ≡ suc a → Q
  pub rollback : rollback_touched x.rollback ≡ true → x.rollback_ordinal ≡ suc a → Q

-- the changes passed and not taken: Aborted, or Failed and then the lowest
unfoldable pub Fell : Log → List ℕ → Type 0
Fell l [] = Unit {0}
Fell l (k ∷ ks) = (is_ended (entry_of l k).change.apply ≡ true) × ((entry_of l k).change.apply ≡ Failed → ks ≡ []) × Fell l ks

-- the revision that the first a commits lead to
abbrev pub led : List Op → ℕ → ℕ
led ops a = top (stack (first ops a))

-- the target has left for the next op
pub record Ahead (l : Log) (ops : List Op) (a g : ℕ) : Type 0 where
  pub there : g ≡ led ops (suc a)
  pub reach : suc a ≤ length ops
  pub quiet : Quiet l a

pub record Applied (l : Log) (part : Part) (ops acts : List Op) (bad : List ℕ) : Type 0 where
  pub entries : (k : ℕ) → ApplyEntry part.head.ordinal.0 part.head.target.0 acts k (apply_view (entry_of l k))
  pub calm : (k : ℕ) → Calm (Quiet l part.head.ordinal.0) part.head.ordinal.0 (apply_view (entry_of l k))
  pub reach : part.head.ordinal.0 ≤ length ops
  pub sub : Sub acts (first ops part.head.ordinal.0)
  pub split : stack (first ops part.head.ordinal.0) ≡ bad ++ held acts
  pub fell : Fell l bad
  pub tip : part.head.revision.0 ≡ top (held acts)
  pub holds : (p : ℕ) → p < 32 → get_or part.values p 0 ≡ val l (held acts) p
  pub room : length part.values ≡ 32
  pub aimed : (part.head.target.0 ≡ led ops part.head.ordinal.0 → ⊥) → Ahead l ops part.head.ordinal.0 part.head.target.0
  pub clear : (k : ℕ) → op_at ops (suc part.head.ordinal.0) ≡ push k → part.head.target.0 ≡ k → bad ≡ []

-- ---- the line: `H` is what is said of the target's values while it is open (Switch)
-- node n's line is open, its connection being x
pub record Open (w : Net) (n : ℕ) (x : Connection) : Type 0 where
  pub some : 1 ≤ n
  pub master : w.mastership.master ≡ n
  pub connected : x.connected ≡ true
  pub id : x.id ≡ w.mastership.conn
  pub state : w.configuration.state ≡ progress.Complete
  pub term : w.configuration.term.0 ≡ w.mastership.term.0

pub record Node (w : Net) (H : List ℕ → Type 0) (n : ℕ) (x : Connection) : Type 0 where
  pub ids : 1 ≤ n → w.mastership.master ≡ n → w.mastership.conn ≤ x.id
  pub holds : Open w n x → H w.values
  pub stopped : w.target.running ≡ false → x.connected ≡ false

pub record Wired (w : Net) (H : List ℕ → Type 0) : Type 0 where
  pub nodes : (n : ℕ) → Node w H n (node_of w.connections n)
  pub older : w.configuration.term.0 ≤ w.mastership.term.0

-- ---- the log and both heads: it says nothing of the nodes' side
pub record Invariant (s : State) (ops acts : List Op) (bad : List ℕ) : Type 0 where
  pub sides : (k : ℕ) → Sides (entry_of s.log k)
  pub numbered : (k : ℕ) → Numbered ops k (entry_of s.log k).change.ordinal.0 (entry_of s.log k).rollback.ordinal.0
  pub committed : Committed s.log s.change.0 s.committed ops
  pub applied : Applied s.log s.applied ops acts bad
